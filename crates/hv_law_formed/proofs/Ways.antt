-- Where ways lead in values of a type.
use Rattle.std.proofs.Common.{◌≡◌, ℕ, ℤ, pos, negsuc, List, [], ◌∷◌, Option, Some, None, option_and_then, refl, sym, ap, ◌∙◌, subst}
use Rattle.std.specs.List.{slice_get}
use Rattle.hv_tree.specs.declared.place.Place.{Place}
use Rattle.hv_tree.specs.Core.{Core}
use Rattle.hv_decls.specs.Types.{ValueType, StructType, ArrayType, field_types}
use Rattle.hv_value.specs.declared.value.PathStep.{PathStep}
use Rattle.hv_value.specs.declared.value.PathStep.TheVariants.{Field, At}
use Rattle.hv_value.specs.ValueTree.{ValueTree, Fields, Elements, Parts}
use Rattle.hv_value.specs.Places.{Path, nth, get, put}
use Rattle.hv_value.specs.Walk.{Link, ToField, ToIndex, Reached, Reaches, Outside, Lost, after_step, onward, walk}
use Rattle.hv_law_formed.proofs.Fits.{Fits, FitAll, FitEach, f_fields, f_elements, is_fields, is_elements, nth_all, change_all, nth_each, change_each}

-- the way leads from values of the first type to those of the second
pub data LinksFit (tree : Core) : ValueType → List (Link Place) → ValueType → Type 0 where
  l_end : {t : ValueType} → LinksFit tree t [] t
  l_field : {s : List ℕ} {k : ℕ} {t u : ValueType} {ls : List (Link Place)} → slice_get (field_types tree s) k ≡ Some t → LinksFit tree t ls u → LinksFit tree (StructType s) (ToField k ∷ ls) u
  l_index : {z : ℤ} {at : Place} {t u : ValueType} {ls : List (Link Place)} → LinksFit tree t ls u → LinksFit tree (ArrayType t) (ToIndex z at ∷ ls) u

-- a value of type u is there, and any other one may be put there
pub data Arrives (tree : Core) (t u : ValueType) (v : ValueTree) : Reached Place → Type 0 where
  arrives : {p : Path} {w : ValueTree} → Fits tree u w → get v p ≡ Some w → ((x : ValueTree) → Fits tree u x → Fits tree t (put v p x)) → Arrives tree t u v (Reaches p w)
  falls_out : {at : Place} → Arrives tree t u v (Outside at)

-- one step into a part c, whose old value gives way
into : {tree : Core} {t u a : ValueType} {v c : ValueTree} {r : Reached Place} (s : PathStep) → Arrives tree a u c r →
    ((p : Path) → get v (s ∷ p) ≡ get c p) → ((p : Path) (x : ValueTree) → Fits tree a (put c p x) → Fits tree t (put v (s ∷ p) x)) → Arrives tree t u v (after_step s r)
into s (arrives {p = p} h e k) there puts = arrives h (there p ∙ e) (λ x f. puts p x (k x f))
into s falls_out there puts = falls_out

to_field : {tree : Core} {u a : ValueType} {s : List ℕ} {vs : Parts} (k : ℕ) (go : ValueTree → Reached Place) → slice_get (field_types tree s) k ≡ Some a → FitAll tree (field_types tree s) vs →
    ((c : ValueTree) → Fits tree a c → Arrives tree a u c (go c)) → Arrives tree (StructType s) u (Fields vs) (onward go (Field k) Lost (nth vs k))
to_field {tree = tree} {u = u} {a = a} {s = s} {vs = vs} k go e h step = by (nth_all k a h e)
  where
    by : (c : ValueTree) × (nth vs k ≡ Some c) × Fits tree a c → Arrives tree (StructType s) u (Fields vs) (onward go (Field k) Lost (nth vs k))
    by (c, found, f) =
        subst (λ o. Arrives tree (StructType s) u (Fields vs) (onward go (Field k) Lost o)) (sym found)
        (into (Field k) (step c f) (λ p. ap (option_and_then (λ x. get x p)) found) (λ p x i.
        f_fields (change_all k a (λ d. put d p x) h e (λ d there. let same : c ≡ d = cc in subst (λ d. Fits tree a (put d p x)) same i))))

to_element : {tree : Core} {u a : ValueType} {vs : Parts} (k : ℕ) (at : Place) (go : ValueTree → Reached Place) → FitEach tree a vs →
    ((c : ValueTree) → Fits tree a c → Arrives tree a u c (go c)) → Arrives tree (ArrayType a) u (Elements vs) (onward go (At k) (Outside at) (nth vs k))
to_element {tree = tree} {u = u} {a = a} {vs = vs} k at go h step = by (nth vs k) refl
  where
    by : (o : Option ValueTree) → nth vs k ≡ o → Arrives tree (ArrayType a) u (Elements vs) (onward go (At k) (Outside at) o)
    by None found = falls_out
    by (Some c) found =
        into (At k) (step c (nth_each k c h found)) (λ p. ap (option_and_then (λ x. get x p)) found) (λ p x i.
        f_elements (change_each k (λ d. put d p x) h (λ d there. let same : c ≡ d = cc in subst (λ d. Fits tree a (put d p x)) same i)))

pub walks : {tree : Core} {t u : ValueType} {ls : List (Link Place)} (v : ValueTree) → LinksFit tree t ls u → Fits tree t v → Arrives tree t u v (walk ls v)
walks v l_end h = arrives h refl (λ x k. k)
walks {tree = tree} {u = u} v (l_field {s = s} {k = k} {ls = ls} e l) h =
    let f = is_fields h in
    subst (λ v. Arrives tree (StructType s) u v (walk (ToField k ∷ ls) v)) (sym f.1) (to_field k (walk ls) e f.2 (λ c i. walks c l i))
walks {tree = tree} {u = u} v (l_index {z = pos k} {at = at} {t = a} {ls = ls} l) h =
    let f = is_elements h in
    subst (λ v. Arrives tree (ArrayType a) u v (walk (ToIndex (pos k) at ∷ ls) v)) (sym f.1) (to_element k at (walk ls) f.2 (λ c i. walks c l i))
walks {tree = tree} {u = u} v (l_index {z = negsuc k} {at = at} {t = a} {ls = ls} l) h =
    let f = is_elements h in
    subst (λ v. Arrives tree (ArrayType a) u v (walk (ToIndex (negsuc k) at ∷ ls) v)) (sym f.1) falls_out
