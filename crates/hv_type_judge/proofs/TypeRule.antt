-- What is judged wrong by the type that a position asks for, in lists of elements, operands, arguments and steps.
use Rattle.std.proofs.Common.{◌≡◌, ◌⊎◌, ℕ, ◌&&◌, ◌||◌, not, true, false, Bool, List, [], ◌∷◌, ◌++◌, Option, Some, None, is_some, Decides, refl}
use Rattle.std.proofs.lemmas.Bool.Decides.{Decides-and}
use Rattle.hv_tree.specs.declared.place.Place.{Place}
use Rattle.hv_tree.specs.declared.types.Name.{Name}
use Rattle.hv_tree.specs.declared.refusal.Rule.TheVariants as rule
use Rattle.hv_tree.specs.Core.{Core, CoreTy, CoreExpr, CoreExprs, NoExprs, ExprOf, CoreLinks, NoLinks, LinkOf, CoreSteps, NoSteps, FieldStep, IndexStep, CoreCall, CallOf, CoreArgs, NoArgs, ValueArg, RefArg}
use Rattle.hv_decls.specs.Types.{ValueType, IntType, element_of, meant}
use Rattle.hv_decls.specs.Statics.{field_at, element_at, type_at}
use Rattle.hv_decls.specs.Sites.{Scope}
use Rattle.hv_type_rules.specs.Typing.{Known, Unknown, Nothing, Is, operand_type, Wanted, Signature, NoSignature, Signed, signature_of}
use Rattle.hv_type_rules.specs.TypeRules as rules
use Rattle.hv_type_synth.specs.Tests.{misfits, other, differ, signature_differs, is_equality, no_array, no_value, is_struct_name}
use Rattle.hv_type_judge.specs.Judged as spec
use Rattle.hv_type_judge.proofs.Exact.{Exact, none, one, both, here, asked, between}
use Rattle.hv_type_judge.proofs.Deciding.{always, never, either, misfits_decides, other_decides, differ_decides, equality_decides, no_array_decides, no_value_decides, struct_name_decides, signature_decides}

module _ (tree : Core) (holding : List (List ℕ)) (scope : Scope) where
  -- an expression that doesn't fit
  pub wrong : (ask : Option ValueType) (x : CoreExpr) → Exact (spec.wrong tree holding scope ask x) rule.T1 (λ p. rules.Wrong tree scope p ask x)
  wrong ask x =
      let t = spec.type_here tree holding scope x in
      here (misfits ask t) rule.T1 (rules.expr_place x) (rules.Misfits ask t) (misfits_decides ask t)

  -- what is no array where one is asked for
  pub counted : (t : Option ValueType) (at : Place) → Exact (spec.only (no_array t) (spec.refusal rule.T1 at)) rule.T1 (λ p. rules.NoArray tree scope p t × (at ≡ p))
  counted t at = one (no_array t) rule.T1 at (λ p. rules.NoArray tree scope p t × (at ≡ p)) (λ e. ((no_array_decides tree scope at t).0 e, refl)) (λ p v. (v.1, (no_array_decides tree scope p t).1 v.0))

  pub steps : (t : Option ValueType) (s : CoreSteps) → Exact (spec.step_t1 tree holding scope t s) rule.T1 (λ p. rules.StepMisfits tree scope p t s)
  steps t NoSteps = none rule.T1 (λ p. ⊥) (λ p v. v)
  steps t (FieldStep name rest) = steps (type_at (field_at tree t name)) rest
  steps t (IndexStep at x rest) =
      let xs = spec.only (no_array t) (spec.refusal rule.T1 at) in
      both xs (spec.wrong tree holding scope (Some IntType) x ++ spec.step_t1 tree holding scope (element_at t) rest) rule.T1
      (λ p. rules.NoArray tree scope p t × (at ≡ p)) (λ p. rules.Wrong tree scope p (Some IntType) x ⊎ rules.StepMisfits tree scope p (element_at t) rest)
      (counted t at)
      (both (spec.wrong tree holding scope (Some IntType) x) (spec.step_t1 tree holding scope (element_at t) rest) rule.T1
      (λ p. rules.Wrong tree scope p (Some IntType) x) (λ p. rules.StepMisfits tree scope p (element_at t) rest)
      (wrong (Some IntType) x) (steps (element_at t) rest))

  pub elements : (first : Known) (xs : CoreExprs) → Exact (spec.element_t1 tree holding scope first xs) rule.T1 (λ p. rules.ElementMisfits tree scope p first xs)
  elements first NoExprs = none rule.T1 (λ p. ⊥) (λ p v. v)
  elements Unknown (ExprOf x rest) = both (spec.wrong tree holding scope None x) (spec.element_t1 tree holding scope Unknown rest) rule.T1 (λ p. rules.Wrong tree scope p None x) (λ p. rules.ElementMisfits tree scope p Unknown rest) (wrong None x) (elements Unknown rest)
  elements Nothing (ExprOf x rest) = both (spec.wrong tree holding scope None x) (spec.element_t1 tree holding scope Nothing rest) rule.T1 (λ p. rules.Wrong tree scope p None x) (λ p. rules.ElementMisfits tree scope p Nothing rest) (wrong None x) (elements Nothing rest)
  elements (Is t) (ExprOf x rest) = both (spec.wrong tree holding scope (Some t) x) (spec.element_t1 tree holding scope (Is t) rest) rule.T1 (λ p. rules.Wrong tree scope p (Some t) x) (λ p. rules.ElementMisfits tree scope p (Is t) rest) (wrong (Some t) x) (elements (Is t) rest)

  pub operands : (first : CoreExpr) (links : CoreLinks) → Exact (spec.operand_t1 tree holding scope first links) rule.T1 (λ p. rules.OperandMisfits tree scope p first links)
  operands first NoLinks = none rule.T1 (λ p. ⊥) (λ p v. v)
  operands first (LinkOf o at x rest) =
      let t = spec.type_here tree holding scope first in
      let u = spec.type_here tree holding scope x in
      let equal = is_equality o && differ t u in
      both (spec.wrong tree holding scope (operand_type o) x) (spec.only equal (spec.refusal rule.T1 at) ++ spec.operand_t1 tree holding scope x rest) rule.T1
      (λ p. rules.Wrong tree scope p (operand_type o) x) (λ p. (rules.IsEquality o × (at ≡ p) × rules.Differ t u) ⊎ rules.OperandMisfits tree scope p x rest)
      (wrong (operand_type o) x)
      (both (spec.only equal (spec.refusal rule.T1 at)) (spec.operand_t1 tree holding scope x rest) rule.T1
      (λ p. rules.IsEquality o × (at ≡ p) × rules.Differ t u) (λ p. rules.OperandMisfits tree scope p x rest)
      (between equal rule.T1 at (rules.IsEquality o) (rules.Differ t u) (Decides-and (is_equality o) (differ t u) (equality_decides o) (differ_decides t u)))
      (operands x rest))

  pub chain : (first : CoreExpr) (links : CoreLinks) → Exact (spec.chain_t1 tree holding scope first links) rule.T1 (λ p. rules.ChainMisfits tree scope p first links)
  chain first NoLinks = none rule.T1 (λ p. ⊥) (λ p v. v)
  chain first (LinkOf o at x rest) =
      both (spec.wrong tree holding scope (operand_type o) first) (spec.operand_t1 tree holding scope first (LinkOf o at x rest)) rule.T1
      (λ p. rules.Wrong tree scope p (operand_type o) first) (λ p. rules.OperandMisfits tree scope p first (LinkOf o at x rest))
      (wrong (operand_type o) first) (operands first (LinkOf o at x rest))

  -- a place of another type
  pub place_other : (a : ValueType) (root : Name) (s : CoreSteps) →
      Exact (spec.only (other a (spec.place_here tree holding scope root s)) (spec.refusal rule.T1 root.place)) rule.T1 (λ p. (root.place ≡ p) × rules.Other a (spec.place_here tree holding scope root s))
  place_other a root s = let t = spec.place_here tree holding scope root s in here (other a t) rule.T1 root.place (rules.Other a t) (other_decides a t)

  pub args : (wanted : List Wanted) (xs : CoreArgs) → Exact (spec.arg_t1 tree holding scope wanted xs) rule.T1 (λ p. rules.ArgMisfits tree scope p wanted xs)
  args wanted NoArgs = none rule.T1 (λ p. ⊥) (λ p v. v)
  args [] (ValueArg x rest) = none rule.T1 (λ p. ⊥) (λ p v. v)
  args [] (RefArg at root s rest) = none rule.T1 (λ p. ⊥) (λ p v. v)
  args (w ∷ ws) (ValueArg x rest) =
      both (spec.wrong tree holding scope (Some w.ty) x) (spec.arg_t1 tree holding scope ws rest) rule.T1 (λ p. rules.Wrong tree scope p (Some w.ty) x) (λ p. rules.ArgMisfits tree scope p ws rest) (wrong (Some w.ty) x) (args ws rest)
  args (w ∷ ws) (RefArg at root s rest) =
      let t = spec.place_here tree holding scope root s in
      both (spec.only (other w.ty t) (spec.refusal rule.T1 root.place)) (spec.arg_t1 tree holding scope ws rest) rule.T1 (λ p. (root.place ≡ p) × rules.Other w.ty t) (λ p. rules.ArgMisfits tree scope p ws rest) (place_other w.ty root s) (args ws rest)

  pub call : (s : Signature) (xs : CoreArgs) → Exact (spec.arg_t1 tree holding scope (spec.wanted_by s) xs) rule.T1 (λ p. rules.CallMisfits tree scope p s xs)
  call NoSignature NoArgs = none rule.T1 (λ p. ⊥) (λ p v. v)
  call NoSignature (ValueArg x rest) = none rule.T1 (λ p. ⊥) (λ p v. v)
  call NoSignature (RefArg at root s rest) = none rule.T1 (λ p. ⊥) (λ p v. v)
  call (Signed wanted t) xs = args wanted xs

  construction : (p : Place) (root : Name) (s : CoreSteps) → Decides (spec.is_construction tree holding scope root s) (rules.IsConstruction tree scope p root s)
  construction p root NoSteps =
      let l = spec.local_named tree holding scope root in Decides-and (no_value l) (is_struct_name tree root) (no_value_decides l) (struct_name_decides tree root)
  construction p root (FieldStep name rest) = never ⊥ (λ v. v)
  construction p root (IndexStep at x rest) = never ⊥ (λ v. v)

  pub task : (t : Option CoreTy) (c : CoreCall) → Exact (spec.task_t1 tree holding scope t c) rule.T1 (λ p. rules.TaskMisfits tree scope p t c)
  task t (CallOf root s at xs) =
      let sig = signature_of tree scope.visible root s in
      let a = spec.is_construction tree holding scope root s in
      let b = signature_differs (rules.result_known t) sig in
      let d = λ (p : Place). either a b (rules.IsConstruction tree scope p root s) (rules.SignatureDiffers tree scope p (rules.result_known t) sig) (construction p root s) (signature_decides tree scope p (rules.result_known t) sig) in
      one (a || b) rule.T1 root.place (λ p. rules.TaskMisfits tree scope p t (CallOf root s at xs)) (λ e. (refl, (d root.place).0 e)) (λ p v. (v.0, (d p).1 v.1))

  pub returned : (t : Option CoreTy) (x : CoreExpr) → Exact (spec.return_t1 tree holding scope t x) rule.T1 (λ p. rules.ReturnMisfits tree scope p t x)
  returned None x = one true rule.T1 (rules.expr_place x) (λ p. rules.expr_place x ≡ p) (λ e. refl) (λ p v. (v, refl))
  returned (Some t) x = wrong (Some (meant t)) x
