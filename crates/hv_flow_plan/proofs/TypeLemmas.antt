-- Indices, steps and callees by their variant, as code meets them.
use Rattle.std.proofs.Common.{◌≡◌, ℕ, ℤ, List, [], ◌∷◌, ◌++◌, ◌+◌, ◌<◌, length, drop, get_or, sym, Option, Some, None, refl, ap, ◌∙◌}
use Rattle.hv_tree.specs.declared.place.Place.{Place}
use Rattle.hv_tree.specs.declared.types.Name.{Name}
use Rattle.hv_tree.specs.declared.types.Conv.{Conv}
use Rattle.hv_tree.specs.declared.types.Ty.{Ty, out-Ty}
use Rattle.hv_tree.specs.declared.types.Ty.TheVariants as ty
use Rattle.hv_tree.specs.declared.types.Ty.TheOpen.{Ty-F}
use Rattle.hv_tree.specs.declared.ast.Arg.{Arg}
use Rattle.hv_tree.specs.declared.ast.Block.{Block}
use Rattle.hv_tree.specs.declared.ast.Branch.{Branch}
use Rattle.hv_tree.specs.declared.ast.Call.{Call}
use Rattle.hv_tree.specs.declared.ast.Expr.{Expr, out-Expr}
use Rattle.hv_tree.specs.declared.ast.ExprKind.{ExprKind, out-ExprKind}
use Rattle.hv_tree.specs.declared.ast.ExprKind.TheVariants as expr
use Rattle.hv_tree.specs.declared.ast.PlaceExpr.{PlaceExpr}
use Rattle.hv_tree.specs.declared.ast.Step.{Step, out-Step}
use Rattle.hv_tree.specs.declared.ast.Step.TheVariants as step
use Rattle.hv_tree.specs.declared.ast.Stmt.{Stmt}
use Rattle.hv_tree.specs.declared.ast.StmtKind.{StmtKind}
use Rattle.hv_tree.specs.declared.ast.Arg.TheOpen.{ExprKind-F, Step-F}
use Rattle.hv_tree.specs.Core.{Core, core_ty, core_tys_of, core_of, core_kind, CoreSteps, NoSteps, core_step, core_steps}
use Rattle.hv_tree.proofs.CoreLemmas as lemmas
use Rattle.hv_decls.specs.declared.path.StaticStep.{StaticStep}
use Rattle.hv_decls.specs.declared.path.StaticStep.TheVariants as static
use Rattle.hv_decls.specs.Types.{ValueType, meant, params_meant, convs_of}
use Rattle.hv_rules.specs.Events as events
use Rattle.hv_decls.specs.Statics as statics
use Rattle.hv_lemmas.proofs.Lists.{first_left}
use Rattle.hv_flow_plan.specs.Scopes.{param_types}

-- ---- indices

abbrev pub KindLayer : Type 0
KindLayer = ExprKind-F Arg ExprKind Step StmtKind Block Branch Call Expr PlaceExpr Stmt

unfoldable pub index_by : KindLayer → StaticStep
index_by (ExprKind-F.Int z) = static.Literal z
index_by _ = static.Any

index_kind : (k : ExprKind) (at : Place) (u : KindLayer) → out-ExprKind k ≡ u → statics.index_step (core_kind k at) ≡ index_by u
unfolding index_by
index_kind k at (ExprKind-F.Int z) e = ap statics.index_step (lemmas.kind_int k at z e)
index_kind k at (ExprKind-F.Bool b) e = ap statics.index_step (lemmas.kind_bool k at b e)
index_kind k at (ExprKind-F.Path p) e = ap statics.index_step (lemmas.kind_path k at p e)
index_kind k at (ExprKind-F.ExprKind::Call c) e = ap statics.index_step (lemmas.kind_call k at c e)
index_kind k at (ExprKind-F.ExprKind::Await name) e = ap statics.index_step (lemmas.kind_await k at name e)
index_kind k at (ExprKind-F.ArrayLit xs) e = ap statics.index_step (lemmas.kind_array_lit k at xs e)
index_kind k at (ExprKind-F.Filled len value) e = ap statics.index_step (lemmas.kind_filled k at len value e)
index_kind k at (ExprKind-F.Count p) e = ap statics.index_step (lemmas.kind_count k at p e)
index_kind k at (ExprKind-F.Lambda captures params result body) e = ap statics.index_step (lemmas.kind_lambda k at captures params result body e)
index_kind k at (ExprKind-F.Prefix o x) e = ap statics.index_step (lemmas.kind_prefix k at o x e)
index_kind k at (ExprKind-F.Chain first links) e = ap statics.index_step (lemmas.kind_chain k at first links e)

pub index_opened : (x : Expr) → statics.index_step (core_of x) ≡ index_by (out-ExprKind (out-Expr x).kind)
index_opened x = ap statics.index_step (lemmas.opened_expr x) ∙ index_kind (out-Expr x).kind (out-Expr x).place (out-ExprKind (out-Expr x).kind) refl

pub index_int : (x : Expr) (z : ℤ) → (out-Expr x).kind ≡ expr.Int z → statics.index_step (core_of x) ≡ static.Literal z
index_int x z h = ap statics.index_step (lemmas.expr_int x z h)

-- ---- steps

abbrev StepLayer : Type 0
StepLayer = Step-F Arg ExprKind Step StmtKind Block Branch Call Expr PlaceExpr Stmt

module _ (tree : Core) (t : Option ValueType) where
  pub step_field : (s : Step) (name : Name) → s ≡ step.Field name → statics.static_steps tree t (core_step s NoSteps) ≡ static.Field (statics.number_at (statics.field_at tree t name)) ∷ []
  step_field s name h = ap (λ u. statics.static_steps tree t (core_step u NoSteps)) h ∙ ap (statics.static_steps tree t) (lemmas.step_field NoSteps name)

  pub step_index : (s : Step) (at : Place) (x : Expr) → s ≡ step.Index at x → statics.static_steps tree t (core_step s NoSteps) ≡ statics.index_step (core_of x) ∷ []
  step_index s at x h = ap (λ u. statics.static_steps tree t (core_step u NoSteps)) h ∙ ap (statics.static_steps tree t) (lemmas.step_index NoSteps at x)

  steps_by : (s : Step) (rest : CoreSteps) (u : StepLayer) → out-Step s ≡ u →
      statics.static_steps tree t (core_step s rest) ≡ statics.static_steps tree t (core_step s NoSteps) ++ statics.static_steps tree (statics.type_behind tree t (core_step s NoSteps)) rest
  steps_by s rest (Step-F.Field name) e =
      ap (statics.static_steps tree t) (lemmas.by_field s rest name e)
      ∙ sym (ap (λ c. statics.static_steps tree t c ++ statics.static_steps tree (statics.type_behind tree t c) rest) (lemmas.by_field s NoSteps name e))
  steps_by s rest (Step-F.Index at x) e =
      ap (statics.static_steps tree t) (lemmas.by_index s rest at x e)
      ∙ sym (ap (λ c. statics.static_steps tree t c ++ statics.static_steps tree (statics.type_behind tree t c) rest) (lemmas.by_index s NoSteps at x e))

  pub steps_next : (steps : List Step) (i : ℕ) (s : Step) → i < length steps → s ≡ get_or steps i s →
      statics.static_steps tree t (core_steps (drop i steps)) ≡ statics.static_steps tree t (core_step s NoSteps) ++ statics.static_steps tree (statics.type_behind tree t (core_step s NoSteps)) (core_steps (drop (i + 1) steps))
  steps_next steps i s within is = ap (λ w. statics.static_steps tree t (core_steps w)) (first_left steps i s within is) ∙ steps_by s (core_steps (drop (i + 1) steps)) (out-Step s) refl

-- ---- callees

unfoldable pub called_by : Ty-F Ty → events.Callee
called_by (Ty-F.Int at) = events.Constructs
called_by (Ty-F.Bool at) = events.Constructs
called_by (Ty-F.Named name) = events.Constructs
called_by (Ty-F.Array at t) = events.Constructs
called_by (Ty-F.Fun at params result) = events.Takes (convs_of (params_meant (core_tys_of (param_types params))))

called_ty : (t : Ty) (u : Ty-F Ty) → out-Ty t ≡ u → events.by_type (Some (meant (core_ty t))) ≡ called_by u
unfolding called_by
called_ty t (Ty-F.Int at) e = ap (λ c. events.by_type (Some (meant c))) (lemmas.written_int t at e)
called_ty t (Ty-F.Bool at) e = ap (λ c. events.by_type (Some (meant c))) (lemmas.written_bool t at e)
called_ty t (Ty-F.Named name) e = ap (λ c. events.by_type (Some (meant c))) (lemmas.written_named t name e)
called_ty t (Ty-F.Array at element) e = ap (λ c. events.by_type (Some (meant c))) (lemmas.written_array t at element e)
called_ty t (Ty-F.Fun at params None) e = ap (λ c. events.by_type (Some (meant c))) (lemmas.written_fun t at params e)
called_ty t (Ty-F.Fun at params (Some r)) e = ap (λ c. events.by_type (Some (meant c))) (lemmas.written_fun_to t at params r e)

pub called_opened : (t : Ty) → events.by_type (Some (meant (core_ty t))) ≡ called_by (out-Ty t)
called_opened t = called_ty t (out-Ty t) refl

fun_taken : (at : Place) (params : List (Conv × Ty)) (result : Option Ty) → events.by_type (Some (meant (core_ty (ty.Fun at params result)))) ≡ events.Takes (convs_of (params_meant (core_tys_of (param_types params))))
fun_taken at params None = ap (λ c. events.by_type (Some (meant c))) (lemmas.ty_fun at params)
fun_taken at params (Some r) = ap (λ c. events.by_type (Some (meant c))) (lemmas.ty_fun_to at params r)

pub called_fun : (t : Ty) (at : Place) (params : List (Conv × Ty)) (result : Option Ty) → t ≡ ty.Fun at params result →
    events.by_type (Some (meant (core_ty t))) ≡ events.Takes (convs_of (params_meant (core_tys_of (param_types params))))
called_fun t at params result h = ap (λ u. events.by_type (Some (meant (core_ty u)))) h ∙ fun_taken at params result
