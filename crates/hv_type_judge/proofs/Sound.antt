-- What is judged wrong in a part is exactly what violates a rule of types there.
use Rattle.std.proofs.Common.{◌≡◌, ◌≢◌, ◌⊎◌, inl, inr, ℕ, List, [], ◌∷◌, ◌++◌, Option, Some, None, is_some, Decides, refl}
use Rattle.hv_tree.specs.declared.place.Place.{Place}
use Rattle.hv_tree.specs.declared.types.Name.{Name}
use Rattle.hv_tree.specs.declared.refusal.Rule.{Rule}
use Rattle.hv_tree.specs.declared.refusal.Rule.TheVariants as rule
use Rattle.hv_tree.specs.declared.refusal.Refusal.{Refusal}
use Rattle.hv_tree.specs.Core.{Core, CoreTy, CoreExpr, Number, Truth, Path, Calls, Awaits, Array, Filled, Count, Lambda, Prefix, Chain, CoreSteps, CoreCall, CallOf, CoreArgs, CoreStmt, Var, VarWith, Let, Inout, Assign, If, While, Return, ReturnWith, Print, Task, AwaitsAlone, CallsAlone, Bare}
use Rattle.hv_decls.specs.Types.{ValueType, IntType, BoolType, meant}
use Rattle.hv_decls.specs.Locals.{value_of}
use Rattle.hv_decls.specs.Sites.{Part, ExprPart, CallPart, PlacePart, StmtPart, TestPart, Scope}
use Rattle.hv_type_rules.specs.Typing.{Signature, signature_of, operand_type, first_type}
use Rattle.hv_type_rules.specs.TypeRules as rules
use Rattle.hv_type_synth.specs.Tests.{no_array, other}
use Rattle.hv_type_judge.specs.Judged as spec
use Rattle.hv_lemmas.proofs.Members.{Among, in_left, in_right, either_in}
use Rattle.hv_type_judge.proofs.Exact.{Exact, none, one, both, asked}
use Rattle.hv_type_judge.proofs.Deciding.{Holding, there}
use Rattle.hv_type_judge.proofs.TypeRule as t1
use Rattle.hv_type_judge.proofs.OtherRules as o

module _ (tree : Core) (holding : List (List ℕ)) (scope : Scope) (exact : Holding tree holding) where
  -- the part violates the rule there
  abbrev pub Violates : Part → Rule → Place → Type 0
  Violates part k place = rules.ViolatesType tree scope place k part

  -- each refusal of the list is right
  abbrev pub Sound : Part → List Refusal → Type 0
  Sound part xs = (r : Refusal) → Among xs r → Violates part r.rule r.place

  -- ---- soundness

  nothing : (part : Part) → Sound part []
  nothing part r h = absurd h

  -- what a rule refuses
  by_rule : (part : Part) (xs : List Refusal) (k : Rule) (V : Place → Type 0) → Exact xs k V → ((place : Place) → V place → Violates part k place) → Sound part xs
  by_rule part xs k V e to r h = let s = e.sound r h in rw s.0 (to r.place s.1)

  joined : (part : Part) (xs ys : List Refusal) → Sound part xs → Sound part ys → Sound part (xs ++ ys)
  joined part xs ys f g r h = by (either_in xs ys r h)
    where
      by : Among xs r ⊎ Among ys r → Violates part r.rule r.place
      by (inl i) = f r i
      by (inr i) = g r i

  -- ---- positions of two expressions

  pub filled : (len value : CoreExpr) → Exact (spec.wrong tree holding scope (Some IntType) len ++ spec.wrong tree holding scope None value) rule.T1 (λ p. rules.Wrong tree scope p (Some IntType) len ⊎ rules.Wrong tree scope p None value)
  filled len value =
      both (spec.wrong tree holding scope (Some IntType) len) (spec.wrong tree holding scope None value) rule.T1 (λ p. rules.Wrong tree scope p (Some IntType) len) (λ p. rules.Wrong tree scope p None value)
      (t1.wrong tree holding scope (Some IntType) len) (t1.wrong tree holding scope None value)

  pub callee : (root : Name) (steps : CoreSteps) (args : CoreArgs) → Exact (spec.callee_t6 tree holding scope root steps ++ spec.lent_t6 tree holding scope args) rule.T6 (λ p. rules.CalleeT6 tree scope p root steps ⊎ rules.LentT6 tree scope p args)
  callee root steps args =
      both (spec.callee_t6 tree holding scope root steps) (spec.lent_t6 tree holding scope args) rule.T6 (λ p. rules.CalleeT6 tree scope p root steps) (λ p. rules.LentT6 tree scope p args)
      (o.callee tree holding scope root steps) (o.lent tree holding scope args)

  pub budget : (t : Option CoreTy) (x : CoreExpr) (c : CoreCall) → Exact (spec.wrong tree holding scope (Some IntType) x ++ spec.task_t1 tree holding scope t c) rule.T1 (λ p. rules.Wrong tree scope p (Some IntType) x ⊎ rules.TaskMisfits tree scope p t c)
  budget t x c =
      both (spec.wrong tree holding scope (Some IntType) x) (spec.task_t1 tree holding scope t c) rule.T1 (λ p. rules.Wrong tree scope p (Some IntType) x) (λ p. rules.TaskMisfits tree scope p t c)
      (t1.wrong tree holding scope (Some IntType) x) (t1.task tree holding scope t c)

  pub bare_return : (at : Place) → Exact (spec.only (is_some scope.result) (spec.refusal rule.T1 at)) rule.T1 (λ p. (scope.result ≢ None) × (at ≡ p))
  bare_return at = asked (is_some scope.result) rule.T1 at (scope.result ≢ None) (there scope.result)

  -- ---- soundness of each part

  expr_sound : (x : CoreExpr) → Sound (ExprPart x) (spec.expr_judged tree holding scope x)
  expr_sound (Number at z) = nothing (ExprPart (Number at z))
  expr_sound (Truth at b) = nothing (ExprPart (Truth at b))
  expr_sound (Path at root steps) = by_rule (ExprPart (Path at root steps)) (spec.read_t6 tree holding scope root steps) rule.T6 (λ p. rules.ReadT6 tree scope p root steps) (o.read tree holding scope root steps) (λ p v. v)
  expr_sound (Calls at call) = nothing (ExprPart (Calls at call))
  expr_sound (Awaits at name) = by_rule (ExprPart (Awaits at name)) (spec.await_t6 tree holding scope name) rule.T6 (λ p. rules.AwaitT6 tree scope p name) (o.awaited tree holding scope name) (λ p v. v)
  expr_sound (Array at xs) =
      let t = first_type tree scope.visible xs in
      by_rule (ExprPart (Array at xs)) (spec.element_t1 tree holding scope t xs) rule.T1 (λ p. rules.ElementMisfits tree scope p t xs) (t1.elements tree holding scope t xs) (λ p v. v)
  expr_sound (Filled at len value) =
      by_rule (ExprPart (Filled at len value)) (spec.wrong tree holding scope (Some IntType) len ++ spec.wrong tree holding scope None value) rule.T1 (λ p. rules.Wrong tree scope p (Some IntType) len ⊎ rules.Wrong tree scope p None value) (filled len value) (λ p v. v)
  expr_sound (Count at root steps) =
      let t = spec.place_here tree holding scope root steps in
      joined (ExprPart (Count at root steps)) (spec.only (no_array t) (spec.refusal rule.T1 at)) (spec.root_t6 tree holding scope root)
      (by_rule (ExprPart (Count at root steps)) (spec.only (no_array t) (spec.refusal rule.T1 at)) rule.T1 (λ p. rules.NoArray tree scope p t × (at ≡ p)) (t1.counted tree holding scope t at) (λ p v. v))
      (by_rule (ExprPart (Count at root steps)) (spec.root_t6 tree holding scope root) rule.T6 (λ p. rules.RootNoValue tree scope p root) (o.root_value tree holding scope root) (λ p v. v))
  expr_sound (Lambda at captures params result body) =
      let part = ExprPart (Lambda at captures params result body) in
      joined part (spec.capture_t6 tree holding scope captures) (spec.capture_t9 tree holding scope captures)
      (by_rule part (spec.capture_t6 tree holding scope captures) rule.T6 (λ p. rules.CaptureT6 tree scope p captures) (o.captured tree holding scope captures) (λ p v. v))
      (by_rule part (spec.capture_t9 tree holding scope captures) rule.T9 (λ p. rules.CaptureT9 tree scope p captures) (o.held tree holding scope exact captures) (λ p v. v))
  expr_sound (Prefix at op x) = by_rule (ExprPart (Prefix at op x)) (spec.wrong tree holding scope (operand_type op) x) rule.T1 (λ p. rules.Wrong tree scope p (operand_type op) x) (t1.wrong tree holding scope (operand_type op) x) (λ p v. v)
  expr_sound (Chain at first links) =
      let part = ExprPart (Chain at first links) in
      joined part (spec.chain_t1 tree holding scope first links) (spec.link_t9 tree holding scope first links)
      (by_rule part (spec.chain_t1 tree holding scope first links) rule.T1 (λ p. rules.ChainMisfits tree scope p first links) (t1.chain tree holding scope first links) (λ p v. v))
      (by_rule part (spec.link_t9 tree holding scope first links) rule.T9 (λ p. rules.LinkT9 tree scope p first links) (o.compared tree holding scope exact first links) (λ p v. v))

  -- a place that is changed, in a statement whose rules ask that
  changed_sound : (part : Part) (root : Name) → ((p : Place) → rules.RootNoValue tree scope p root → Violates part rule.T6 p) → ((p : Place) → rules.RootReadOnly tree scope p root → Violates part rule.T7 p) → Sound part (spec.changed_judged tree holding scope root)
  changed_sound part root f g =
      joined part (spec.root_t6 tree holding scope root) (spec.root_t7 tree holding scope root)
      (by_rule part (spec.root_t6 tree holding scope root) rule.T6 (λ p. rules.RootNoValue tree scope p root) (o.root_value tree holding scope root) f)
      (by_rule part (spec.root_t7 tree holding scope root) rule.T7 (λ p. rules.RootReadOnly tree scope p root) (o.root_changed tree holding scope root) g)

  -- an expression by itself
  wrong_sound : (part : Part) (ask : Option ValueType) (x : CoreExpr) → ((p : Place) → rules.Wrong tree scope p ask x → Violates part rule.T1 p) → Sound part (spec.wrong tree holding scope ask x)
  wrong_sound part ask x f = by_rule part (spec.wrong tree holding scope ask x) rule.T1 (λ p. rules.Wrong tree scope p ask x) (t1.wrong tree holding scope ask x) f

  stmt_sound : (x : CoreStmt) → Sound (StmtPart x) (spec.stmt_judged tree holding scope x)
  stmt_sound (Var at name t) = nothing (StmtPart (Var at name t))
  stmt_sound (VarWith at name t x) = wrong_sound (StmtPart (VarWith at name t x)) (Some (meant t)) x (λ p v. v)
  stmt_sound (Let at name t x) = wrong_sound (StmtPart (Let at name t x)) (Some (meant t)) x (λ p v. v)
  stmt_sound (Inout at name t root steps) =
      let u = spec.place_here tree holding scope root steps in
      let part = StmtPart (Inout at name t root steps) in
      joined part (spec.only (other (meant t) u) (spec.refusal rule.T1 root.place)) (spec.changed_judged tree holding scope root)
      (by_rule part (spec.only (other (meant t) u) (spec.refusal rule.T1 root.place)) rule.T1 (λ p. (root.place ≡ p) × rules.Other (meant t) u) (t1.place_other tree holding scope (meant t) root steps) (λ p v. v))
      (changed_sound part root (λ p v. v) (λ p v. v))
  stmt_sound (Assign at root steps x) =
      let part = StmtPart (Assign at root steps x) in
      joined part (spec.wrong tree holding scope (spec.place_here tree holding scope root steps) x) (spec.changed_judged tree holding scope root)
      (wrong_sound part (spec.place_here tree holding scope root steps) x (λ p v. v)) (changed_sound part root (λ p v. v) (λ p v. v))
  stmt_sound (If at branches) = nothing (StmtPart (If at branches))
  stmt_sound (While at test body) = nothing (StmtPart (While at test body))
  stmt_sound (Return at) = by_rule (StmtPart (Return at)) (spec.only (is_some scope.result) (spec.refusal rule.T1 at)) rule.T1 (λ p. (scope.result ≢ None) × (at ≡ p)) (bare_return at) (λ p v. v)
  stmt_sound (ReturnWith at x) = by_rule (StmtPart (ReturnWith at x)) (spec.return_t1 tree holding scope scope.result x) rule.T1 (λ p. rules.ReturnMisfits tree scope p scope.result x) (t1.returned tree holding scope scope.result x) (λ p v. v)
  stmt_sound (Print at x) =
      let part = StmtPart (Print at x) in
      joined part (spec.wrong tree holding scope None x) (spec.print_t9 tree holding scope x)
      (wrong_sound part None x (λ p v. v))
      (by_rule part (spec.print_t9 tree holding scope x) rule.T9 (λ p. (rules.expr_place x ≡ p) × rules.KnownToHold tree (spec.type_here tree holding scope x)) (o.printed tree holding scope exact x) (λ p v. v))
  stmt_sound (Task at name t spawn x call) =
      by_rule (StmtPart (Task at name t spawn x call)) (spec.wrong tree holding scope (Some IntType) x ++ spec.task_t1 tree holding scope t call) rule.T1
      (λ p. rules.Wrong tree scope p (Some IntType) x ⊎ rules.TaskMisfits tree scope p t call) (budget t x call) (λ p v. v)
  stmt_sound (AwaitsAlone at name) = by_rule (StmtPart (AwaitsAlone at name)) (spec.await_t6 tree holding scope name) rule.T6 (λ p. rules.AwaitT6 tree scope p name) (o.awaited tree holding scope name) (λ p v. v)
  stmt_sound (CallsAlone at call) = nothing (StmtPart (CallsAlone at call))
  stmt_sound (Bare at block) = nothing (StmtPart (Bare at block))

  call_sound : (c : CoreCall) → Sound (CallPart c) (spec.call_judged tree holding scope c)
  call_sound (CallOf root steps at args) =
      let part = CallPart (CallOf root steps at args) in
      let s = signature_of tree scope.visible root steps in
      let a = spec.arg_t1 tree holding scope (spec.wanted_by s) args in
      let b = spec.count_t2 tree holding scope s at args in
      let c = spec.mark_t5 tree holding scope (spec.wanted_by s) args in
      let d = spec.callee_t6 tree holding scope root steps ++ spec.lent_t6 tree holding scope args in
      let e = spec.arg_t7 tree holding scope (spec.wanted_by s) args in
      let f = spec.callee_t8 tree holding scope root steps in
      joined part a (b ++ (c ++ (d ++ (e ++ f)))) (by_rule part a rule.T1 (λ p. rules.CallMisfits tree scope p s args) (t1.call tree holding scope s args) (λ p v. v))
      (joined part b (c ++ (d ++ (e ++ f))) (by_rule part b rule.T2 (λ p. rules.CountDiffers tree scope p s args × (at ≡ p)) (o.counts tree holding scope s at args) (λ p v. v))
      (joined part c (d ++ (e ++ f)) (by_rule part c rule.T5 (λ p. rules.CallT5 tree scope p s args) (o.call_marks tree holding scope s args) (λ p v. v))
      (joined part d (e ++ f) (by_rule part d rule.T6 (λ p. rules.CalleeT6 tree scope p root steps ⊎ rules.LentT6 tree scope p args) (callee root steps args) (λ p v. v))
      (joined part e f (by_rule part e rule.T7 (λ p. rules.ArgT7 tree scope p (rules.wanted_by tree scope p s) args) (o.call_passed tree holding scope s args) (λ p v. v))
      (by_rule part f rule.T8 (λ p. (root.place ≡ p) × rules.NoFunction tree scope p (spec.place_here tree holding scope root steps)) (o.called tree holding scope root steps) (λ p v. v))))))

  place_sound : (root : Name) (steps : CoreSteps) → Sound (PlacePart root steps) (spec.place_judged tree holding scope root steps)
  place_sound root steps =
      let t = value_of (spec.local_named tree holding scope root) in
      joined (PlacePart root steps) (spec.step_t1 tree holding scope t steps) (spec.step_t3 tree holding scope t steps)
      (by_rule (PlacePart root steps) (spec.step_t1 tree holding scope t steps) rule.T1 (λ p. rules.StepMisfits tree scope p t steps) (t1.steps tree holding scope t steps) (λ p v. v))
      (by_rule (PlacePart root steps) (spec.step_t3 tree holding scope t steps) rule.T3 (λ p. rules.StepsT3 tree scope p t steps) (o.fields tree holding scope t steps) (λ p v. v))

  pub sound : (part : Part) → Sound part (spec.judged tree holding scope part)
  sound (ExprPart x) = expr_sound x
  sound (CallPart c) = call_sound c
  sound (PlacePart root steps) = place_sound root steps
  sound (StmtPart x) = stmt_sound x
  sound (TestPart x) = wrong_sound (TestPart x) (Some BoolType) x (λ p v. v)
