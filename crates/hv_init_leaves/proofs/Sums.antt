-- The leaves of structs that the rounds come to know are those of their shapes.
use Rattle.std.proofs.Common.{◌≡◌, ◌⊎◌, inl, inr, ◌≤◌, ◌+◌, ℕ, zero, suc, List, [], ◌∷◌, map, Option, Some, None, option_map, refl, sym, ap, ◌∙◌, arith}
use Rattle.std.proofs.lemmas.Option.{get_or_from_slice_get, slice_get-map}
use Rattle.hv_tree.specs.Core.{Core}
use Rattle.hv_decls.specs.Types.{ValueType, shapes_of, shape}
use Rattle.hv_init_cells.specs.Plain.{or_one, size, sizes}
use Rattle.hv_init_leaves.specs.Table.{number_of, table_of}
use Rattle.hv_init_leaves.specs.Rounds as spec
use Rattle.hv_init_leaves.proofs.Shaped.{IsLeafType, IsStructType, kind}

pub same_some : {A : Type 0} (a b : A) → Some a ≡ Some b → a ≡ b
same_some a b e = cc

pub not_some : {A : Type 0} (a : A) → None ≡ Some a → ⊥
not_some a e = cc

none_stays : (known row : List (Option ℕ)) → spec.sum_from known None row ≡ None
none_stays known [] = refl
none_stays known (number ∷ row) = none_stays known row

module _ (tree : Core) where
  abbrev pub after : ℕ → List (Option ℕ)
  after n = spec.known_after (table_of tree) n

  -- how many leaves a type has that is known
  abbrev pub Is : List (Option ℕ) → ValueType → ℕ → Type 0
  Is known t k = spec.known_at known (number_of tree t) ≡ Some k

  -- each of the types is known, and with their leaves so many become all
  abbrev pub Adds : List (Option ℕ) → ℕ → List ValueType → ℕ → Type 0
  Adds known sum [] all = sum ≡ all
  Adds known sum (t ∷ ts) all = (n : ℕ) × Is known t n × Adds known (sum + n) ts all

  adds_by : (known : List (Option ℕ)) (t : ValueType) (ts : List ValueType) (sum all : ℕ) →
      ((n : ℕ) → spec.sum_from known (Some (sum + n)) (map (number_of tree) ts) ≡ Some all → Adds known (sum + n) ts all) →
      (o : Option ℕ) → spec.known_at known (number_of tree t) ≡ o → spec.sum_from known (spec.add_known (Some sum) o) (map (number_of tree) ts) ≡ Some all → Adds known sum (t ∷ ts) all
  adds_by known t ts sum all more None f e = absurd (not_some all (sym (none_stays known (map (number_of tree) ts)) ∙ e))
  adds_by known t ts sum all more (Some n) f e = (n, f, more n e)

  adds : (known : List (Option ℕ)) (ts : List ValueType) (sum all : ℕ) → spec.sum_from known (Some sum) (map (number_of tree) ts) ≡ Some all → Adds known sum ts all
  adds known [] sum all e = same_some sum all e
  adds known (t ∷ ts) sum all e = adds_by known t ts sum all (λ n. adds known ts (sum + n) all) (spec.known_at known (number_of tree t)) refl e

  -- a struct with these fields
  pub record Fields (known : List (Option ℕ)) (ts : List ValueType) (k : ℕ) : Type 0 where
    pub all : ℕ
    pub adding : Adds known 0 ts all
    pub one_or_all : (d : ℕ) → k ≡ or_one (shapes_of (map (shape tree d) ts)) all

  fields : (known : List (Option ℕ)) (ts : List ValueType) (k : ℕ) → spec.row_size known (map (number_of tree) ts) ≡ Some k → Fields known ts k
  fields known [] k e = record { all = 0; adding = refl; one_or_all = λ d. sym (same_some 1 k e) }
  fields known (t ∷ ts) k e = record { all = k; adding = adds known (t ∷ ts) 0 k e; one_or_all = λ d. refl }

  summed : (known : List (Option ℕ)) (d : ℕ) → ((t : ValueType) (k : ℕ) → Is known t k → size (shape tree d t) ≡ k) →
      (ts : List ValueType) (sum all : ℕ) → Adds known sum ts all → sum + sizes (shapes_of (map (shape tree d) ts)) ≡ all
  summed known d ih [] sum all h = omega (arith, h)
  summed known d ih (t ∷ ts) sum all h = let e = ih t h.0 h.1 in let g = summed known d ih ts (sum + h.0) all h.2 in omega (arith, e, g)

  -- ---- types

  row_known : (n : ℕ) (t : ValueType) (r : IsStructType tree t) → spec.known_at (after (suc n)) (number_of tree t) ≡ spec.row_size (after n) (map (number_of tree) r.fields)
  row_known n t r =
      ap (spec.known_at (after (suc n))) r.numbered
      ∙ get_or_from_slice_get (map (spec.row_size (after n)) (table_of tree)) r.number (spec.row_size (after n) (map (number_of tree) r.fields)) None
      (slice_get-map (spec.row_size (after n)) (table_of tree) r.number ∙ ap (option_map (spec.row_size (after n))) r.row)

  -- what is known of a struct after a round
  pub fields_known : (n : ℕ) (t : ValueType) (k : ℕ) (r : IsStructType tree t) → Is (after (suc n)) t k → Fields (after n) r.fields k
  fields_known n t k r e = fields (after n) r.fields k (sym (row_known n t r) ∙ e)

  pub none_known : (t : ValueType) (k : ℕ) (r : IsStructType tree t) → Is (after zero) t k → ⊥
  none_known t k r e = not_some k (sym (ap (spec.known_at []) r.numbered) ∙ e)

  leaf_sized : (known : List (Option ℕ)) (t : ValueType) (k : ℕ) → IsLeafType tree t → Is known t k → (d : ℕ) → size (shape tree d t) ≡ k
  leaf_sized known t k l e d = let s = l.leaf d in s.one ∙ same_some 1 k (sym (ap (spec.known_at known) l.no_number) ∙ e)

  -- what is known after n rounds is so at each greater depth
  abbrev Sized : ℕ → Type 0
  Sized n = (t : ValueType) (k : ℕ) → Is (after n) t k → (d : ℕ) → n ≤ d → size (shape tree d t) ≡ k

  struct_sized : (n d : ℕ) → ((t : ValueType) (k : ℕ) → Is (after n) t k → size (shape tree d t) ≡ k) → (t : ValueType) (k : ℕ) (r : IsStructType tree t) → Is (after (suc n)) t k → size (shape tree (suc d) t) ≡ k
  struct_sized n d ih t k r e =
      let f = fields_known n t k r e in
      let g = summed (after n) d ih r.fields 0 f.all f.adding in
      let h : sizes (shapes_of (map (shape tree d) r.fields)) ≡ f.all = omega (arith, g) in
      ap size (r.shaped d) ∙ ap (or_one (shapes_of (map (shape tree d) r.fields))) h ∙ sym (f.one_or_all d)

  next_sized : (n : ℕ) → Sized n → (t : ValueType) (k : ℕ) → IsStructType tree t → Is (after (suc n)) t k → (d : ℕ) → suc n ≤ d → size (shape tree d t) ≡ k
  next_sized n ih t k r e zero h = absurd (omega (arith, h))
  next_sized n ih t k r e (suc d) h = struct_sized n d (λ u m i. ih u m i d (omega (arith, h))) t k r e

  first_sized : Sized zero
  first_sized t k e d h = by (kind tree t)
    where
      by : IsLeafType tree t ⊎ IsStructType tree t → size (shape tree d t) ≡ k
      by (inl l) = leaf_sized (after zero) t k l e d
      by (inr r) = absurd (none_known t k r e)

  later_sized : (n : ℕ) → Sized n → Sized (suc n)
  later_sized n ih t k e d h = by (kind tree t)
    where
      by : IsLeafType tree t ⊎ IsStructType tree t → size (shape tree d t) ≡ k
      by (inl l) = leaf_sized (after (suc n)) t k l e d
      by (inr r) = next_sized n ih t k r e d h

  pub sized : (n : ℕ) → Sized n
  sized zero = first_sized
  sized (suc n) = later_sized n (sized n)
