-- The numbers of types by their variant, as code meets them.
use Rattle.std.proofs.Common.{◌≡◌, ℕ, Option, Some, None, refl, ap}
use Rattle.hv_tree.specs.declared.types.Ty.{Ty, out-Ty}
use Rattle.hv_tree.specs.declared.types.Ty.TheOpen.{Ty-F}
use Rattle.hv_tree.specs.Core.{Core, core_ty}
use Rattle.hv_tree.proofs.CoreLemmas as lemmas
use Rattle.hv_decls.specs.Types.{meant}
use Rattle.hv_scope.specs.Tops.{struct_number}
use Rattle.hv_init_leaves.specs.Table.{number_of}

-- a type by its outermost level
unfoldable pub number_by_layer : Core → Ty-F Ty → Option ℕ
number_by_layer tree (Ty-F.Int at) = None
number_by_layer tree (Ty-F.Bool at) = None
number_by_layer tree (Ty-F.Named name) = struct_number tree.decls name.text
number_by_layer tree (Ty-F.Array at t) = None
number_by_layer tree (Ty-F.Fun at params result) = None

by_layer : (tree : Core) (t : Ty) (u : Ty-F Ty) → out-Ty t ≡ u → number_of tree (meant (core_ty t)) ≡ number_by_layer tree u
unfolding number_by_layer
by_layer tree t (Ty-F.Int at) e = ap (λ c. number_of tree (meant c)) (lemmas.written_int t at e)
by_layer tree t (Ty-F.Bool at) e = ap (λ c. number_of tree (meant c)) (lemmas.written_bool t at e)
by_layer tree t (Ty-F.Named name) e = ap (λ c. number_of tree (meant c)) (lemmas.written_named t name e)
by_layer tree t (Ty-F.Array at element) e = ap (λ c. number_of tree (meant c)) (lemmas.written_array t at element e)
by_layer tree t (Ty-F.Fun at params None) e = ap (λ c. number_of tree (meant c)) (lemmas.written_fun t at params e)
by_layer tree t (Ty-F.Fun at params (Some r)) e = ap (λ c. number_of tree (meant c)) (lemmas.written_fun_to t at params r e)

pub number_opened : (tree : Core) (t : Ty) → number_of tree (meant (core_ty t)) ≡ number_by_layer tree (out-Ty t)
number_opened tree t = by_layer tree t (out-Ty t) refl
