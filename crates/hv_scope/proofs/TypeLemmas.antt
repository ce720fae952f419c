-- Types and steps by their variant, as code meets them.
use Rattle.std.proofs.Common.{◌≡◌, ℕ, List, ◌+◌, ◌<◌, length, drop, get_or, sym, Option, Some, None, refl, ap, ◌∙◌}
use Rattle.hv_tree.specs.declared.place.Place.{Place}
use Rattle.hv_tree.specs.declared.types.Name.{Name}
use Rattle.hv_tree.specs.declared.types.Ty.{Ty, out-Ty}
use Rattle.hv_tree.specs.declared.types.Ty.TheVariants as ty
use Rattle.hv_tree.specs.declared.types.Ty.TheOpen.{Ty-F}
use Rattle.hv_tree.specs.declared.ast.Arg.{Arg}
use Rattle.hv_tree.specs.declared.ast.Block.{Block}
use Rattle.hv_tree.specs.declared.ast.Branch.{Branch}
use Rattle.hv_tree.specs.declared.ast.Call.{Call}
use Rattle.hv_tree.specs.declared.ast.Expr.{Expr}
use Rattle.hv_tree.specs.declared.ast.ExprKind.{ExprKind}
use Rattle.hv_tree.specs.declared.ast.PlaceExpr.{PlaceExpr}
use Rattle.hv_tree.specs.declared.ast.Step.{Step, out-Step}
use Rattle.hv_tree.specs.declared.ast.Step.TheVariants as step
use Rattle.hv_tree.specs.declared.ast.Stmt.{Stmt}
use Rattle.hv_tree.specs.declared.ast.StmtKind.{StmtKind}
use Rattle.hv_tree.specs.declared.ast.Arg.TheOpen.{Step-F}
use Rattle.hv_tree.specs.Core.{Core, core_ty, CoreSteps, NoSteps, core_step, core_steps}
use Rattle.hv_tree.proofs.CoreLemmas as lemmas
use Rattle.hv_decls.specs.Types.{ValueType, meant, FieldAt, struct_in, fields_or_none, field_from, field_of, element_of}
use Rattle.hv_decls.specs.Statics as statics
use Rattle.hv_lemmas.proofs.Lists.{first_left}

-- ---- elements

unfoldable pub element_by : Ty-F Ty → Option ValueType
element_by (Ty-F.Int at) = None
element_by (Ty-F.Bool at) = None
element_by (Ty-F.Named name) = None
element_by (Ty-F.Array at t) = Some (meant (core_ty t))
element_by (Ty-F.Fun at params result) = None

element_ty : (t : Ty) (u : Ty-F Ty) → out-Ty t ≡ u → element_of (meant (core_ty t)) ≡ element_by u
unfolding element_by
element_ty t (Ty-F.Int at) e = ap (λ c. element_of (meant c)) (lemmas.written_int t at e)
element_ty t (Ty-F.Bool at) e = ap (λ c. element_of (meant c)) (lemmas.written_bool t at e)
element_ty t (Ty-F.Named name) e = ap (λ c. element_of (meant c)) (lemmas.written_named t name e)
element_ty t (Ty-F.Array at element) e = ap (λ c. element_of (meant c)) (lemmas.written_array t at element e)
element_ty t (Ty-F.Fun at params None) e = ap (λ c. element_of (meant c)) (lemmas.written_fun t at params e)
element_ty t (Ty-F.Fun at params (Some r)) e = ap (λ c. element_of (meant c)) (lemmas.written_fun_to t at params r e)

pub element_opened : (t : Ty) → element_of (meant (core_ty t)) ≡ element_by (out-Ty t)
element_opened t = element_ty t (out-Ty t) refl

-- ---- fields

unfoldable pub field_by : Core → List ℕ → Ty-F Ty → Option FieldAt
field_by tree text (Ty-F.Int at) = None
field_by tree text (Ty-F.Bool at) = None
field_by tree text (Ty-F.Named name) = field_from 0 (fields_or_none (struct_in tree.decls name.text)) text
field_by tree text (Ty-F.Array at t) = None
field_by tree text (Ty-F.Fun at params result) = None

field_ty : (tree : Core) (text : List ℕ) (t : Ty) (u : Ty-F Ty) → out-Ty t ≡ u → field_of tree (meant (core_ty t)) text ≡ field_by tree text u
unfolding field_by
field_ty tree text t (Ty-F.Int at) e = ap (λ c. field_of tree (meant c) text) (lemmas.written_int t at e)
field_ty tree text t (Ty-F.Bool at) e = ap (λ c. field_of tree (meant c) text) (lemmas.written_bool t at e)
field_ty tree text t (Ty-F.Named name) e = ap (λ c. field_of tree (meant c) text) (lemmas.written_named t name e)
field_ty tree text t (Ty-F.Array at element) e = ap (λ c. field_of tree (meant c) text) (lemmas.written_array t at element e)
field_ty tree text t (Ty-F.Fun at params None) e = ap (λ c. field_of tree (meant c) text) (lemmas.written_fun t at params e)
field_ty tree text t (Ty-F.Fun at params (Some r)) e = ap (λ c. field_of tree (meant c) text) (lemmas.written_fun_to t at params r e)

pub field_opened : (tree : Core) (text : List ℕ) (t : Ty) → field_of tree (meant (core_ty t)) text ≡ field_by tree text (out-Ty t)
field_opened tree text t = field_ty tree text t (out-Ty t) refl

pub element_array : (t : Ty) (at : Place) (element : Ty) → t ≡ ty.Array at element → element_of (meant (core_ty t)) ≡ Some (meant (core_ty element))
element_array t at element h = ap (λ u. element_of (meant (core_ty u))) h ∙ ap (λ c. element_of (meant c)) (lemmas.ty_array at element)

pub field_named : (tree : Core) (text : List ℕ) (t : Ty) (name : Name) → t ≡ ty.Named name →
    field_of tree (meant (core_ty t)) text ≡ field_from 0 (fields_or_none (struct_in tree.decls name.text)) text
field_named tree text t name h = ap (λ u. field_of tree (meant (core_ty u)) text) h ∙ ap (λ c. field_of tree (meant c) text) (lemmas.ty_named name)

-- ---- steps

abbrev StepLayer : Type 0
StepLayer = Step-F Arg ExprKind Step StmtKind Block Branch Call Expr PlaceExpr Stmt

module _ (tree : Core) (t : Option ValueType) where
  pub behind_field : (s : Step) (name : Name) → s ≡ step.Field name → statics.type_behind tree t (core_step s NoSteps) ≡ statics.type_at (statics.field_at tree t name)
  behind_field s name h = ap (λ u. statics.type_behind tree t (core_step u NoSteps)) h ∙ ap (statics.type_behind tree t) (lemmas.step_field NoSteps name)

  pub behind_index : (s : Step) (at : Place) (x : Expr) → s ≡ step.Index at x → statics.type_behind tree t (core_step s NoSteps) ≡ statics.element_at t
  behind_index s at x h = ap (λ u. statics.type_behind tree t (core_step u NoSteps)) h ∙ ap (statics.type_behind tree t) (lemmas.step_index NoSteps at x)

  behind_by : (s : Step) (rest : CoreSteps) (u : StepLayer) → out-Step s ≡ u → statics.type_behind tree t (core_step s rest) ≡ statics.type_behind tree (statics.type_behind tree t (core_step s NoSteps)) rest
  behind_by s rest (Step-F.Field name) e =
      ap (statics.type_behind tree t) (lemmas.by_field s rest name e) ∙ sym (ap (λ c. statics.type_behind tree (statics.type_behind tree t c) rest) (lemmas.by_field s NoSteps name e))
  behind_by s rest (Step-F.Index at x) e =
      ap (statics.type_behind tree t) (lemmas.by_index s rest at x e) ∙ sym (ap (λ c. statics.type_behind tree (statics.type_behind tree t c) rest) (lemmas.by_index s NoSteps at x e))

  pub behind_split : (s : Step) (rest : CoreSteps) → statics.type_behind tree t (core_step s rest) ≡ statics.type_behind tree (statics.type_behind tree t (core_step s NoSteps)) rest
  behind_split s rest = behind_by s rest (out-Step s) refl

  pub behind_next : (steps : List Step) (i : ℕ) (s : Step) → i < length steps → s ≡ get_or steps i s →
      statics.type_behind tree t (core_steps (drop i steps)) ≡ statics.type_behind tree (statics.type_behind tree t (core_step s NoSteps)) (core_steps (drop (i + 1) steps))
  behind_next steps i s within is = ap (λ w. statics.type_behind tree t (core_steps w)) (first_left steps i s within is) ∙ behind_split s (core_steps (drop (i + 1) steps))
