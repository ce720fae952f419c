-- Where all structs are known, the sizes tell the leaves of each type.
use Rattle.std.proofs.Common.{◌≡◌, ◌⊎◌, inl, inr, ◌≤◌, ◌+◌, ℕ, zero, suc, List, [], ◌∷◌, map, get_or, Option, Some, None, option_map, refl, sym, ap, subst, ◌∙◌, arith}
use Rattle.std.specs.List.{slice_get}
use Rattle.std.proofs.lemmas.Option.{get_or_from_slice_get, slice_get-map}
use Rattle.hv_tree.specs.Core.{Core}
use Rattle.hv_decls.specs.Types.{ValueType, TypeShape, LeafShape, StructShape, shapes_of, shape}
use Rattle.hv_flow_pass.specs.declared.act.Range.{Range}
use Rattle.hv_init_cells.specs.Plain.{size, span, spans, shifted}
use Rattle.hv_init_leaves.specs.declared.row.Part.{Part}
use Rattle.hv_init_leaves.specs.declared.row.Row.{Row}
use Rattle.hv_init_leaves.specs.declared.sizes.Sizes.{Sizes}
use Rattle.hv_init_leaves.specs.declared.reached.Reached.{Reached}
use Rattle.hv_init_leaves.specs.declared.reached.Reached.TheVariants as reached
use Rattle.hv_init_leaves.specs.Table.{number_of, table_of}
use Rattle.hv_init_leaves.specs.Rounds as spec
use Rattle.hv_init_leaves.specs.Rows.{size_at, parts_from, end_from, row_from, row_by}
use Rattle.hv_init_leaves.specs.Reached.{or_end, moved, field_in, walked, range_of}
use Rattle.hv_init_leaves.specs.Leaves.{range_under, AreSizesOf}
use Rattle.hv_init_leaves.proofs.Shaped.{IsLeafType, IsStructType, kind}
use Rattle.hv_init_leaves.proofs.Sums.{not_some, after, Is, Adds, fields_known, none_known, sized}

-- ---- ranges

abbrev none_from : ℕ → Range
none_from n = record { from = n; count = 0 }

pub range_same : (a b c d : ℕ) → a ≡ b → c ≡ d → (let r : Range = record { from = a; count = c } in r) ≡ record { from = b; count = d }
range_same a b c d e f = ap (λ x. let r : Range = record { from = x; count = c } in r) e ∙ ap (λ x. let r : Range = record { from = b; count = x } in r) f

whole_span : (s : TypeShape) → span s [] ≡ record { from = 0; count = size s }
whole_span LeafShape = refl
whole_span (StructShape ss) = refl

-- what a walk reaches, as a range
abbrev pub under : Sizes → Reached → List ℕ → Range
under s r fs = range_of s (walked s r fs)

-- nothing is under nothing
pub none_under : (s : Sizes) (n : ℕ) (fs : List ℕ) → under s (reached.Nothing n) fs ≡ none_from n
none_under s n [] = refl
none_under s n (f ∷ fs) = none_under s n fs

module _ (tree : Core) (list : List ℕ) (last : ℕ) (all : map Some list ≡ after tree (suc last)) where
  abbrev s : Sizes
  s = record { sizes = list; rows = map (row_from list 0) (table_of tree) }

  -- ---- each type is known

  there : (t : ValueType) (r : IsStructType tree t) → slice_get (map Some list) r.number ≡ Some (spec.row_size (after tree last) (map (number_of tree) r.fields))
  there t r = ap (λ l. slice_get l r.number) all ∙ slice_get-map (spec.row_size (after tree last)) (table_of tree) r.number ∙ ap (option_map (spec.row_size (after tree last))) r.row

  listed : (i : ℕ) (o : Option ℕ) → slice_get (map Some list) i ≡ Some o → get_or (map Some list) i None ≡ Some (get_or list i 1)
  listed i o e = by (slice_get list i) refl
    where
      by : (q : Option ℕ) → slice_get list i ≡ q → get_or (map Some list) i None ≡ Some (get_or list i 1)
      by None f = absurd (not_some o (sym (slice_get-map Some list i ∙ ap (option_map Some) f) ∙ e))
      by (Some n) f =
          get_or_from_slice_get (map Some list) i (Some n) None (slice_get-map Some list i ∙ ap (option_map Some) f) ∙ sym (ap Some (get_or_from_slice_get list i n 1 f))

  known : (t : ValueType) → Is tree (after tree (suc last)) t (size_at list (number_of tree t))
  known t = by (kind tree t)
    where
      by : IsLeafType tree t ⊎ IsStructType tree t → Is tree (after tree (suc last)) t (size_at list (number_of tree t))
      by (inl l) = ap (spec.known_at (after tree (suc last))) l.no_number ∙ sym (ap (λ o. Some (size_at list o)) l.no_number)
      by (inr r) =
          ap (spec.known_at (after tree (suc last))) r.numbered
          ∙ sym (ap (λ l. get_or l r.number None) all)
          ∙ listed r.number (spec.row_size (after tree last) (map (number_of tree) r.fields)) (there t r)
          ∙ sym (ap (λ o. Some (size_at list o)) r.numbered)

  counted : (d : ℕ) → suc last ≤ d → (t : ValueType) → size (shape tree d t) ≡ size_at list (number_of tree t)
  counted d h t = sized tree (suc last) t (size_at list (number_of tree t)) (known t) d h

  -- what is known earlier is so at last
  agrees : (n : ℕ) (t : ValueType) (k : ℕ) → Is tree (after tree n) t k → k ≡ size_at list (number_of tree t)
  agrees n t k e = sym (sized tree n t k e (n + suc last) (omega arith)) ∙ counted (n + suc last) (omega arith) t

  -- ---- what is under the fields of a part

  abbrev part : ℕ → ValueType → Part
  part b t = record { begin = b; number = number_of tree t }

  abbrev Led : ℕ → ValueType → Type 0
  Led d t = (b : ℕ) (fs : List ℕ) → range_under s (part b t) fs ≡ shifted b (span (shape tree d t) fs)

  leaf_led : (d : ℕ) (t : ValueType) → IsLeafType tree t → Led d t
  leaf_led d t l b [] =
      ap (λ o. let r : Range = record { from = b; count = size_at list o } in r) l.no_number
      ∙ range_same b (b + 0) 1 1 (omega arith) refl
      ∙ sym (ap (shifted b) (l.leaf d).whole)
  leaf_led d t l b (f ∷ fs) =
      ap (λ o. under s (field_in (row_by s o) b f) fs) l.no_number
      ∙ none_under s b fs
      ∙ range_same b (b + 0) 0 0 (omega arith) refl
      ∙ sym (ap (shifted b) ((l.leaf d).nothing f fs))

  moved_twice : (b m n : ℕ) (r : Range) → shifted ((b + m) + n) r ≡ shifted (b + m) (shifted n r)
  moved_twice b m n r = range_same (((b + m) + n) + r.from) ((b + m) + (n + r.from)) r.count r.count (omega arith) refl

  -- the fields of a struct, of which the first one begins at m
  fields_led : (n d : ℕ) → n ≤ d → ((t : ValueType) (k : ℕ) → Is tree (after tree n) t k → Led d t) →
      (ts : List ValueType) (sum k : ℕ) → Adds tree (after tree n) sum ts k → (b m f : ℕ) (fs : List ℕ) →
      under s (moved b (or_end (end_from list m (map (number_of tree) ts)) (slice_get (parts_from list m (map (number_of tree) ts)) f))) fs
      ≡ shifted (b + m) (spans (shapes_of (map (shape tree d) ts)) f fs)
  fields_led n d h ih [] sum k a b m f fs = none_under s (b + m) fs ∙ range_same (b + m) ((b + m) + 0) 0 0 (omega arith) refl
  fields_led n d h ih (t ∷ ts) sum k a b m zero fs = ih t a.0 a.1 (b + m) fs
  fields_led n d h ih (t ∷ ts) sum k a b m (suc f) fs =
      let e : size_at list (number_of tree t) ≡ size (shape tree d t) = sym (sized tree n t a.0 a.1 d h ∙ agrees n t a.0 a.1) in
      fields_led n d h ih ts (sum + a.0) k a.2 b (m + size_at list (number_of tree t)) f fs
      ∙ ap (λ x. shifted x (spans (shapes_of (map (shape tree d) ts)) f fs)) (let g : b + (m + size_at list (number_of tree t)) ≡ (b + m) + size (shape tree d t) = omega (arith, e) in g)
      ∙ moved_twice b m (size (shape tree d t)) (spans (shapes_of (map (shape tree d) ts)) f fs)

  row_there : (t : ValueType) (r : IsStructType tree t) → row_by s (number_of tree t) ≡ Some (row_from list 0 (map (number_of tree) r.fields))
  row_there t r = ap (row_by s) r.numbered ∙ slice_get-map (row_from list 0) (table_of tree) r.number ∙ ap (option_map (row_from list 0)) r.row

  struct_led : (n d : ℕ) → n ≤ d → ((t : ValueType) (k : ℕ) → Is tree (after tree n) t k → Led d t) →
      (t : ValueType) (k : ℕ) (r : IsStructType tree t) → Is tree (after tree (suc n)) t k → Led (suc d) t
  struct_led n d h ih t k r e b [] =
      range_same b (b + 0) (size_at list (number_of tree t)) (size (shape tree (suc d) t)) (omega arith)
      (sym (sized tree (suc n) t k e (suc d) (omega (arith, h)) ∙ agrees (suc n) t k e))
      ∙ sym (ap (shifted b) (whole_span (shape tree (suc d) t)))
  struct_led n d h ih t k r e b (f ∷ fs) =
      let a = fields_known tree n t k r e in
      ap (λ o. under s (field_in o b f) fs) (row_there t r)
      ∙ fields_led n d h ih r.fields 0 a.all a.adding b 0 f fs
      ∙ ap (λ x. shifted x (spans (shapes_of (map (shape tree d) r.fields)) f fs)) (let g : b + 0 ≡ b = omega arith in g)
      ∙ sym (ap (λ x. shifted b (span x (f ∷ fs))) (r.shaped d))

  -- what is known after n rounds is so at each greater depth
  abbrev AllLed : ℕ → Type 0
  AllLed n = (t : ValueType) (k : ℕ) → Is tree (after tree n) t k → (d : ℕ) → n ≤ d → Led d t

  next_led : (n : ℕ) → AllLed n → (t : ValueType) (k : ℕ) → IsStructType tree t → Is tree (after tree (suc n)) t k → (d : ℕ) → suc n ≤ d → Led d t
  next_led n ih t k r e zero h = absurd (omega (arith, h))
  next_led n ih t k r e (suc d) h = let g : n ≤ d = omega (arith, h) in struct_led n d g (λ u m i. ih u m i d g) t k r e

  first_led : AllLed zero
  first_led t k e d h = by (kind tree t)
    where
      by : IsLeafType tree t ⊎ IsStructType tree t → Led d t
      by (inl l) = leaf_led d t l
      by (inr r) = absurd (none_known tree t k r e)

  later_led : (n : ℕ) → AllLed n → AllLed (suc n)
  later_led n ih t k e d h = by (kind tree t)
    where
      by : IsLeafType tree t ⊎ IsStructType tree t → Led d t
      by (inl l) = leaf_led d t l
      by (inr r) = next_led n ih t k r e d h

  led : (n : ℕ) → AllLed n
  led zero = first_led
  led (suc n) = later_led n (led n)

  pub settled : (t : ValueType) → (size_at list (number_of tree t) ≡ size (shape tree (suc last) t)) × Led (suc last) t
  settled t = (sym (counted (suc last) (omega arith) t), led (suc last) t (size_at list (number_of tree t)) (known t) (suc last) (omega arith))

-- ---- at the greatest depth

at_last : (tree : Core) (list : List ℕ) → map Some list ≡ spec.known_last (table_of tree) → AreSizesOf tree (record { sizes = list; rows = map (row_from list 0) (table_of tree) })
unfolding spec.known_last
at_last tree list e = record { counted = λ t. (settled tree list 99 e t).0; led = λ t. (settled tree list 99 e t).1 }

pub are_sizes : (tree : Core) (table : List (List (Option ℕ))) (list : List ℕ) (rows : List Row) →
    table ≡ table_of tree → map Some list ≡ spec.known_last table → rows ≡ map (row_from list 0) table → AreSizesOf tree (record { sizes = list; rows = rows })
are_sizes tree table list rows e f g =
    subst (λ (rs : List Row). AreSizesOf tree (record { sizes = list; rows = rs })) (sym (g ∙ ap (map (row_from list 0)) e)) (at_last tree list (f ∙ ap spec.known_last e))
