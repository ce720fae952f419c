-- Callees and types of expressions, as code meets them.
use Rattle.std.proofs.Common.{◌≡◌, ◌≢◌, ℕ, List, [], ◌∷◌, map, length, Option, Some, None, Contains, refl, sym, ap, ◌∙◌}
use Rattle.hv_tree.specs.declared.place.Place.{Place}
use Rattle.hv_tree.specs.declared.types.Name.{Name}
use Rattle.hv_tree.specs.declared.types.Conv.{Conv}
use Rattle.hv_tree.specs.declared.types.Ty.{Ty, out-Ty}
use Rattle.hv_tree.specs.declared.types.Ty.TheOpen.{Ty-F}
use Rattle.hv_tree.specs.declared.ast.Operator.{Operator}
use Rattle.hv_tree.specs.declared.ast.Arg.{Arg}
use Rattle.hv_tree.specs.declared.ast.Block.{Block}
use Rattle.hv_tree.specs.declared.ast.Branch.{Branch}
use Rattle.hv_tree.specs.declared.ast.Call.{Call, out-Call}
use Rattle.hv_tree.specs.declared.ast.Expr.{Expr, out-Expr}
use Rattle.hv_tree.specs.declared.ast.ExprKind.{ExprKind, out-ExprKind}
use Rattle.hv_tree.specs.declared.ast.ExprKind.TheVariants as expr
use Rattle.hv_tree.specs.declared.ast.PlaceExpr.{PlaceExpr, out-PlaceExpr}
use Rattle.hv_tree.specs.declared.ast.Step.{Step, out-Step}
use Rattle.hv_tree.specs.declared.ast.Stmt.{Stmt}
use Rattle.hv_tree.specs.declared.ast.StmtKind.{StmtKind}
use Rattle.hv_tree.specs.declared.ast.Arg.TheOpen.{ExprKind-F, Step-F}
use Rattle.hv_tree.specs.Core.{Core, CoreSteps, NoSteps, core_of, core_kind, core_place, core_call, core_step, core_steps, core_exprs, core_links, core_param, core_option_ty}
use Rattle.hv_tree.proofs.CoreLemmas as lemmas
use Rattle.hv_decls.specs.Types.{ValueType, ParamTypes, IntType, BoolType, params_of, fun_type, option_meant, fun_in, struct_in, meant}
use Rattle.hv_decls.specs.Locals.{Local, local_in}
use Rattle.hv_type_rules.specs.Typing as typing
use Rattle.hv_type_rules.specs.Typing.{Known, Unknown, Nothing, Is, Signature, NoSignature, Signed, wanted_params}
use Rattle.hv_scope.specs.Known.{typed}
use Rattle.hv_type_synth.specs.declared.around.Around.{Around}
use Rattle.hv_type_synth.specs.Held.{ty_by, pairs_by, takes_by, taken_by}
use Rattle.hv_type_synth.specs.Here as here

-- ---- top-level names

abbrev StepLayer : Type 0
StepLayer = Step-F Arg ExprKind Step StmtKind Block Branch Call Expr PlaceExpr Stmt

named_step : (tree : Core) (root : Name) (s : Step) (rest : CoreSteps) (u : StepLayer) → out-Step s ≡ u → typing.named_value tree root (core_step s rest) ≡ Unknown
named_step tree root s rest (Step-F.Field name) e = ap (typing.named_value tree root) (lemmas.by_field s rest name e)
named_step tree root s rest (Step-F.Index at x) e = ap (typing.named_value tree root) (lemmas.by_index s rest at x e)

pub named_behind : (tree : Core) (root : Name) (steps : List Step) → (steps ≡ [] → ⊥) → typing.named_value tree root (core_steps steps) ≡ Unknown
named_behind tree root [] n = absurd (n refl)
named_behind tree root (s ∷ steps) n = named_step tree root s (core_steps steps) (out-Step s) refl

pub named_alone : (tree : Core) (root : Name) (steps : List Step) → steps ≡ [] → typing.named_value tree root (core_steps steps) ≡ typing.fun_value (fun_in tree.decls root.text)
named_alone tree root steps e = rw e refl

called_step : (tree : Core) (root : Name) (s : Step) (rest : CoreSteps) (u : StepLayer) → out-Step s ≡ u → typing.by_name tree root (core_step s rest) ≡ NoSignature
called_step tree root s rest (Step-F.Field name) e = ap (typing.by_name tree root) (lemmas.by_field s rest name e)
called_step tree root s rest (Step-F.Index at x) e = ap (typing.by_name tree root) (lemmas.by_index s rest at x e)

pub called_behind : (tree : Core) (root : Name) (steps : List Step) → (steps ≡ [] → ⊥) → typing.by_name tree root (core_steps steps) ≡ NoSignature
called_behind tree root [] n = absurd (n refl)
called_behind tree root (s ∷ steps) n = called_step tree root s (core_steps steps) (out-Step s) refl

pub called_alone : (tree : Core) (root : Name) (steps : List Step) → steps ≡ [] → typing.by_name tree root (core_steps steps) ≡ typing.by_name tree root NoSteps
called_alone tree root steps e = rw e refl

-- ---- function values

-- a function's signature, by its parameters and its result
value_fun : (ps : ParamTypes) (t : Option ValueType) → typing.by_value (Some (fun_type ps t)) ≡ Signed (wanted_params ps) (typing.or_nothing t)
value_fun ps None = refl
value_fun ps (Some t) = refl

unfoldable pub value_by : Ty-F Ty → Signature
value_by (Ty-F.Int at) = NoSignature
value_by (Ty-F.Bool at) = NoSignature
value_by (Ty-F.Named name) = NoSignature
value_by (Ty-F.Array at t) = NoSignature
value_by (Ty-F.Fun at params result) = Signed (wanted_params (pairs_by params)) (typing.or_nothing (typed result))

value_ty : (t : Ty) (u : Ty-F Ty) → out-Ty t ≡ u → typing.by_value (Some (ty_by t)) ≡ value_by u
unfolding value_by
value_ty t (Ty-F.Int at) e = ap (λ c. typing.by_value (Some (meant c))) (lemmas.written_int t at e)
value_ty t (Ty-F.Bool at) e = ap (λ c. typing.by_value (Some (meant c))) (lemmas.written_bool t at e)
value_ty t (Ty-F.Named name) e = ap (λ c. typing.by_value (Some (meant c))) (lemmas.written_named t name e)
value_ty t (Ty-F.Array at element) e = ap (λ c. typing.by_value (Some (meant c))) (lemmas.written_array t at element e)
value_ty t (Ty-F.Fun at params None) e = ap (λ c. typing.by_value (Some (meant c))) (lemmas.written_fun t at params e)
value_ty t (Ty-F.Fun at params (Some r)) e = ap (λ c. typing.by_value (Some (meant c))) (lemmas.written_fun_to t at params r e)

pub value_opened : (t : Ty) → typing.by_value (Some (ty_by t)) ≡ value_by (out-Ty t)
value_opened t = value_ty t (out-Ty t) refl

-- ---- expressions

module _ (a : Around) where
  -- the type of the first of a list
  abbrev pub first_by : List Expr → Known
  first_by [] = Unknown
  first_by (x ∷ xs) = here.type_here a x

  -- the type of a chain
  abbrev pub chain_by : Expr → List (Operator × Place × Expr) → Known
  chain_by first [] = here.type_here a first
  chain_by first (l ∷ ls) = Is (typing.given_type l.0)

  unfoldable pub kind_type : ExprKind-F Arg ExprKind Step StmtKind Block Branch Call Expr PlaceExpr Stmt → Known
  kind_type (ExprKind-F.Int z) = Is IntType
  kind_type (ExprKind-F.Bool b) = Is BoolType
  kind_type (ExprKind-F.Path p) = typing.path_by (here.tree_in a) (here.local_named a (core_place p).0) (core_place p).0 (core_place p).1
  kind_type (ExprKind-F.ExprKind::Call c) = typing.gives (here.signature_of a (out-Call c).callee)
  kind_type (ExprKind-F.ExprKind::Await name) = typing.awaited_type (here.local_named a name)
  kind_type (ExprKind-F.ArrayLit xs) = typing.array_of (first_by xs)
  kind_type (ExprKind-F.Filled len value) = typing.array_of (here.type_here a value)
  kind_type (ExprKind-F.Count p) = Is IntType
  kind_type (ExprKind-F.Lambda captures params result body) = Is (fun_type (params_of (map core_param params)) (option_meant (core_option_ty result)))
  kind_type (ExprKind-F.Prefix o x) = Is (typing.given_type o)
  kind_type (ExprKind-F.Chain first links) = chain_by first links

  first_same : (xs : List Expr) → typing.first_type (here.tree_in a) (here.visible_in a) (core_exprs xs) ≡ first_by xs
  first_same [] = refl
  first_same (x ∷ xs) = refl

  chain_same : (first : Expr) (links : List (Operator × Place × Expr)) → typing.by_links (core_links links) (here.type_here a first) ≡ chain_by first links
  chain_same first [] = refl
  chain_same first (l ∷ ls) = refl

  by_kind : (k : ExprKind) (at : Place) (u : ExprKind-F Arg ExprKind Step StmtKind Block Branch Call Expr PlaceExpr Stmt) → out-ExprKind k ≡ u → typing.type_of (here.tree_in a) (here.visible_in a) (core_kind k at) ≡ kind_type u
  unfolding kind_type
  by_kind k at (ExprKind-F.Int z) e = ap (typing.type_of (here.tree_in a) (here.visible_in a)) (lemmas.kind_int k at z e)
  by_kind k at (ExprKind-F.Bool b) e = ap (typing.type_of (here.tree_in a) (here.visible_in a)) (lemmas.kind_bool k at b e)
  by_kind k at (ExprKind-F.Path p) e = ap (typing.type_of (here.tree_in a) (here.visible_in a)) (lemmas.kind_path k at p e)
  by_kind k at (ExprKind-F.ExprKind::Call c) e =
      ap (typing.type_of (here.tree_in a) (here.visible_in a)) (lemmas.kind_call k at c e)
      ∙ ap (typing.call_type (here.tree_in a) (here.visible_in a)) (lemmas.opened_call c)
  by_kind k at (ExprKind-F.ExprKind::Await name) e = ap (typing.type_of (here.tree_in a) (here.visible_in a)) (lemmas.kind_await k at name e)
  by_kind k at (ExprKind-F.ArrayLit xs) e = ap (typing.type_of (here.tree_in a) (here.visible_in a)) (lemmas.kind_array_lit k at xs e) ∙ ap typing.array_of (first_same xs)
  by_kind k at (ExprKind-F.Filled len value) e = ap (typing.type_of (here.tree_in a) (here.visible_in a)) (lemmas.kind_filled k at len value e)
  by_kind k at (ExprKind-F.Count p) e = ap (typing.type_of (here.tree_in a) (here.visible_in a)) (lemmas.kind_count k at p e)
  by_kind k at (ExprKind-F.Lambda captures params result body) e = ap (typing.type_of (here.tree_in a) (here.visible_in a)) (lemmas.kind_lambda k at captures params result body e)
  by_kind k at (ExprKind-F.Prefix o x) e = ap (typing.type_of (here.tree_in a) (here.visible_in a)) (lemmas.kind_prefix k at o x e)
  by_kind k at (ExprKind-F.Chain first links) e = ap (typing.type_of (here.tree_in a) (here.visible_in a)) (lemmas.kind_chain k at first links e) ∙ chain_same first links

  pub type_opened : (x : Expr) → here.type_here a x ≡ kind_type (out-ExprKind (out-Expr x).kind)
  type_opened x = ap (typing.type_of (here.tree_in a) (here.visible_in a)) (lemmas.opened_expr x) ∙ by_kind (out-Expr x).kind (out-Expr x).place (out-ExprKind (out-Expr x).kind) refl

  -- a chain without operators
  pub chain_alone : (x first : Expr) (links : List (Operator × Place × Expr)) → (out-Expr x).kind ≡ expr.Chain first links → links ≡ [] → here.type_here a first ≡ here.type_here a x
  chain_alone x first links e f =
      sym (ap (typing.type_of (here.tree_in a) (here.visible_in a)) (lemmas.expr_chain x first links e) ∙ ap (λ l. typing.by_links (core_links l) (here.type_here a first)) f)
