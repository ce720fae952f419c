-- The leaves of a type are those of its shape.
use Rattle.std.proofs.Common.{◌≡◌, ◌⊎◌, inl, inr, ◌+◌, ℕ, zero, suc, List, [], ◌∷◌, map, refl, sym, ap, subst, ◌∙◌, arith, Option, Some, None}
use Rattle.hv_tree.specs.Core.{Core}
use Rattle.hv_decls.specs.Types.{ValueType, IntType, BoolType, StructType, ArrayType, FunType, FunToType, LeafShape, StructShape, TypeShapes, NoShapes, shapes_of, shape, leaves, below_fields, or_itself, field_types, most_depth}
use Rattle.hv_decls.specs.Locals.{Local}
use Rattle.hv_rules.specs.Rules.{leaves_by, leaves_from}
use Rattle.hv_lemmas.proofs.Members.{Among, in_left, in_right, either_in}
use Rattle.hv_init_cells.specs.Plain.{shape_by}
use Rattle.hv_init_cells.proofs.Shapes.{LeafOf, LeafAt}

-- ---- lists of leaves

single_to : (leaf : List ℕ) → Among ([] ∷ []) leaf → LeafOf LeafShape leaf
single_to leaf (inl e) = subst (LeafOf LeafShape) e tt
single_to leaf (inr h) = absurd h

single_of : (leaf : List ℕ) → LeafOf LeafShape leaf → Among ([] ∷ []) leaf
single_of [] h = inl refl
single_of (f ∷ fs) h = absurd h

or_some : (xs : List (List ℕ)) → (x : List ℕ) × Among (or_itself xs) x
or_some [] = ([], inl refl)
or_some (x ∷ xs) = (x, inl refl)

-- where there is one
or_of : (xs : List (List ℕ)) (x leaf : List ℕ) → Among xs x → Among (or_itself xs) leaf → Among xs leaf
or_of [] x leaf a h = absurd a
or_of (y ∷ ys) x leaf a h = h

or_to : (xs : List (List ℕ)) (leaf : List ℕ) → Among xs leaf → Among (or_itself xs) leaf
or_to [] leaf h = absurd h
or_to (y ∷ ys) leaf h = h

mapped_of : (n : ℕ) (ls : List (List ℕ)) (leaf : List ℕ) → Among (map (λ l. n ∷ l) ls) leaf → (fs : List ℕ) × Among ls fs × (leaf ≡ n ∷ fs)
mapped_of n [] leaf h = absurd h
mapped_of n (l ∷ ls) leaf (inl e) = (l, inl refl, sym e)
mapped_of n (l ∷ ls) leaf (inr h) = let t = mapped_of n ls leaf h in (t.0, inr t.1, t.2)

mapped_to : (n : ℕ) (ls : List (List ℕ)) (fs : List ℕ) → Among ls fs → Among (map (λ l. n ∷ l) ls) (n ∷ fs)
mapped_to n [] fs h = absurd h
mapped_to n (l ∷ ls) fs (inl e) = inl (ap (λ z. n ∷ z) e)
mapped_to n (l ∷ ls) fs (inr h) = inr (mapped_to n ls fs h)

next_number : (n k : ℕ) → suc n + k ≡ n + suc k
next_number n k = omega arith

same_number : (n : ℕ) → n ≡ n + 0
same_number n = omega arith

from_none : (k : ℕ) → 0 + k ≡ k
from_none k = omega arith

module _ (tree : Core) where
  some_leaf : (d : ℕ) (t : ValueType) → (l : List ℕ) × Among (leaves tree d t) l
  some_leaf zero t = ([], inl refl)
  some_leaf (suc d) IntType = ([], inl refl)
  some_leaf (suc d) BoolType = ([], inl refl)
  some_leaf (suc d) (StructType s) = or_some (below_fields 0 (map (leaves tree d) (field_types tree s)))
  some_leaf (suc d) (ArrayType t) = ([], inl refl)
  some_leaf (suc d) (FunType params) = ([], inl refl)
  some_leaf (suc d) (FunToType params t) = ([], inl refl)

  -- ---- a struct, where this is known of its fields

  module _ (d : ℕ) where
    abbrev lists : List ValueType → List (List (List ℕ))
    lists ts = map (leaves tree d) ts

    abbrev shapes : List ValueType → TypeShapes
    shapes ts = shapes_of (map (shape tree d) ts)

    module _ (ih : (t : ValueType) (leaf : List ℕ) → Among (leaves tree d t) leaf → LeafOf (shape tree d t) leaf) where
      below_to : (n : ℕ) (ts : List ValueType) (leaf : List ℕ) → Among (below_fields n (lists ts)) leaf → (k : ℕ) × (fs : List ℕ) × (leaf ≡ (n + k) ∷ fs) × LeafAt (shapes ts) k fs
      below_to n [] leaf h = absurd h
      below_to n (t ∷ ts) leaf h = by (either_in (map (λ l. n ∷ l) (leaves tree d t)) (below_fields (suc n) (lists ts)) leaf h) (below_to (suc n) ts leaf)
        where
          by : Among (map (λ l. n ∷ l) (leaves tree d t)) leaf ⊎ Among (below_fields (suc n) (lists ts)) leaf →
              (Among (below_fields (suc n) (lists ts)) leaf → (k : ℕ) × (fs : List ℕ) × (leaf ≡ (suc n + k) ∷ fs) × LeafAt (shapes ts) k fs) →
              (k : ℕ) × (fs : List ℕ) × (leaf ≡ (n + k) ∷ fs) × LeafAt (shapes (t ∷ ts)) k fs
          by (inl i) more = let m = mapped_of n (leaves tree d t) leaf i in (0, m.0, m.2 ∙ ap (λ z. z ∷ m.0) (same_number n), ih t m.0 m.1)
          by (inr i) more = let m = more i in (suc m.0, m.1, m.2 ∙ ap (λ z. z ∷ m.1) (next_number n m.0), m.3)

      struct_to : (ts : List ValueType) (leaf : List ℕ) → Among (or_itself (below_fields 0 (lists ts))) leaf → LeafOf (StructShape (shapes ts)) leaf
      struct_to [] leaf (inl e) = subst (LeafOf (StructShape NoShapes)) e tt
      struct_to [] leaf (inr h) = absurd h
      struct_to (t ∷ ts) leaf h =
          let s = some_leaf d t in
          let m = below_to 0 (t ∷ ts) leaf
          (or_of (below_fields 0 (lists (t ∷ ts))) (0 ∷ s.0) leaf (in_left (map (λ l. 0 ∷ l) (leaves tree d t)) (below_fields 1 (lists ts)) (0 ∷ s.0) (mapped_to 0 (leaves tree d t) s.0 s.1)) h) in
          subst (LeafOf (StructShape (shapes (t ∷ ts)))) (sym (m.2 ∙ ap (λ z. z ∷ m.1) (from_none m.0))) m.3

    module _ (ih : (t : ValueType) (leaf : List ℕ) → LeafOf (shape tree d t) leaf → Among (leaves tree d t) leaf) where
      below_of : (n : ℕ) (ts : List ValueType) (k : ℕ) (fs : List ℕ) → LeafAt (shapes ts) k fs → Among (below_fields n (lists ts)) ((n + k) ∷ fs)
      below_of n [] k fs h = absurd h
      below_of n (t ∷ ts) zero fs h =
          in_left (map (λ l. n ∷ l) (leaves tree d t)) (below_fields (suc n) (lists ts)) ((n + 0) ∷ fs)
          (subst (λ (z : ℕ). Among (map (λ l. n ∷ l) (leaves tree d t)) (z ∷ fs)) (same_number n) (mapped_to n (leaves tree d t) fs (ih t fs h)))
      below_of n (t ∷ ts) (suc k) fs h =
          in_right (map (λ l. n ∷ l) (leaves tree d t)) (below_fields (suc n) (lists ts)) ((n + suc k) ∷ fs)
          (subst (λ (z : ℕ). Among (below_fields (suc n) (lists ts)) (z ∷ fs)) (next_number n k) (below_of (suc n) ts k fs h))

      struct_of : (ts : List ValueType) (leaf : List ℕ) → LeafOf (StructShape (shapes ts)) leaf → Among (or_itself (below_fields 0 (lists ts))) leaf
      struct_of [] [] h = inl refl
      struct_of [] (f ∷ fs) h = absurd h
      struct_of (t ∷ ts) [] h = absurd h
      struct_of (t ∷ ts) (f ∷ fs) h =
          or_to (below_fields 0 (lists (t ∷ ts))) (f ∷ fs) (subst (λ (z : ℕ). Among (below_fields 0 (lists (t ∷ ts))) (z ∷ fs)) (from_none f) (below_of 0 (t ∷ ts) f fs h))

  -- ---- a type

  leaf_to : (d : ℕ) (t : ValueType) (leaf : List ℕ) → Among (leaves tree d t) leaf → LeafOf (shape tree d t) leaf
  leaf_to zero t leaf h = single_to leaf h
  leaf_to (suc d) IntType leaf h = single_to leaf h
  leaf_to (suc d) BoolType leaf h = single_to leaf h
  leaf_to (suc d) (StructType s) leaf h = struct_to d (leaf_to d) (field_types tree s) leaf h
  leaf_to (suc d) (ArrayType t) leaf h = single_to leaf h
  leaf_to (suc d) (FunType params) leaf h = single_to leaf h
  leaf_to (suc d) (FunToType params t) leaf h = single_to leaf h

  leaf_of : (d : ℕ) (t : ValueType) (leaf : List ℕ) → LeafOf (shape tree d t) leaf → Among (leaves tree d t) leaf
  leaf_of zero t leaf h = single_of leaf h
  leaf_of (suc d) IntType leaf h = single_of leaf h
  leaf_of (suc d) BoolType leaf h = single_of leaf h
  leaf_of (suc d) (StructType s) leaf h = struct_of d (leaf_of d) (field_types tree s) leaf h
  leaf_of (suc d) (ArrayType t) leaf h = single_of leaf h
  leaf_of (suc d) (FunType params) leaf h = single_of leaf h
  leaf_of (suc d) (FunToType params t) leaf h = single_of leaf h

  -- ---- a local

  abbrev pub AtRoot : List Local → ℕ → List ℕ → Type 0
  AtRoot [] root leaf = ⊥
  AtRoot (l ∷ ls) zero leaf = LeafOf (shape_by tree l.ty) leaf
  AtRoot (l ∷ ls) (suc root) leaf = AtRoot ls root leaf

  by_to : (t : Option ValueType) (leaf : List ℕ) → Among (leaves_by tree t) leaf → LeafOf (shape_by tree t) leaf
  by_to None leaf h = single_to leaf h
  by_to (Some t) leaf h = leaf_to most_depth t leaf h

  by_of : (t : Option ValueType) (leaf : List ℕ) → LeafOf (shape_by tree t) leaf → Among (leaves_by tree t) leaf
  by_of None leaf h = single_of leaf h
  by_of (Some t) leaf h = leaf_of most_depth t leaf h

  pub root_to : (ls : List Local) (root : ℕ) (leaf : List ℕ) → Among (leaves_from tree ls root) leaf → AtRoot ls root leaf
  root_to [] root leaf h = absurd h
  root_to (l ∷ ls) zero leaf h = by_to l.ty leaf h
  root_to (l ∷ ls) (suc root) leaf h = root_to ls root leaf h

  pub root_of : (ls : List Local) (root : ℕ) (leaf : List ℕ) → AtRoot ls root leaf → Among (leaves_from tree ls root) leaf
  root_of [] root leaf h = absurd h
  root_of (l ∷ ls) zero leaf h = by_of l.ty leaf h
  root_of (l ∷ ls) (suc root) leaf h = root_of ls root leaf h
