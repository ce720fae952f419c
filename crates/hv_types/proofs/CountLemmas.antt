-- The counts over the table are those of the leaves of types.
use Rattle.std.proofs.Common.{◌≡◌, ◌⊎◌, inl, inr, ◌≤◌, ◌<◌, ◌+◌, ℕ, zero, suc, Bool, true, false, if◌then◌else◌, nat_eq, nat_lt, List, [], ◌∷◌, map, length, get_or, Option, Some, None, option_map, refl, sym, ap, ◌∙◌, arith}
use Rattle.std.proofs.lemmas.Bool.{ltb-false, le-ltb}
use Rattle.std.proofs.lemmas.Bool.Decides.{Decides-ltb, Decides-eqb}
use Rattle.std.proofs.lemmas.List.{length-append, length-map}
use Rattle.std.specs.List.{slice_get}
use Rattle.std.proofs.lemmas.Option.{slice_get-map}
use Rattle.hv_tree.specs.Core.{Core, CoreStruct}
use Rattle.hv_decls.specs.Types.{ValueType, IntType, BoolType, StructType, ArrayType, FunType, FunToType, type_of_field, fields_or_none, struct_in, most_depth, most_leaves, leaves, below_fields, or_itself}
use Rattle.hv_scope.specs.Tops.{structs_in, struct_number}
use Rattle.hv_types.specs.declared.fields.FieldType.{FieldType}
use Rattle.hv_types.specs.declared.fields.FieldBase.{FieldBase}
use Rattle.hv_types.specs.declared.fields.FieldBase.TheVariants as base
use Rattle.hv_types.specs.Table as table
use Rattle.hv_types.specs.Counts as spec
use Rattle.hv_types.proofs.Numbers.{Numbered, numbers, kept}

-- ---- numbers with a cap

-- either it is kept, or it is too great
abbrev Cap : ℕ → ℕ → Type 0
Cap n m = ((n ≤ most_leaves) × (m ≡ n)) ⊎ ((most_leaves < n) × (m ≡ suc most_leaves))

cap_by : (n : ℕ) (b : Bool) → nat_lt most_leaves n ≡ b → Cap n (if b then suc most_leaves else n)
cap_by n true e = inr ((Decides-ltb most_leaves n).0 e, refl)
cap_by n false e = inl (ltb-false most_leaves n e, refl)

cap : (n : ℕ) → Cap n (spec.capped n)
cap n = cap_by n (nat_lt most_leaves n) refl

absorbed : (a b c x y : ℕ) → Cap b c → Cap (a + c) x → Cap (a + b) y → x ≡ y
absorbed a b c x y (inl (h, e)) (inl (i, f)) (inl (j, g)) = omega (arith, h, e, i, f, j, g)
absorbed a b c x y (inl (h, e)) (inl (i, f)) (inr (j, g)) = omega (arith, h, e, i, f, j, g)
absorbed a b c x y (inl (h, e)) (inr (i, f)) (inl (j, g)) = omega (arith, h, e, i, f, j, g)
absorbed a b c x y (inl (h, e)) (inr (i, f)) (inr (j, g)) = omega (arith, h, e, i, f, j, g)
absorbed a b c x y (inr (h, e)) (inl (i, f)) (inl (j, g)) = omega (arith, h, e, i, f, j, g)
absorbed a b c x y (inr (h, e)) (inl (i, f)) (inr (j, g)) = omega (arith, h, e, i, f, j, g)
absorbed a b c x y (inr (h, e)) (inr (i, f)) (inl (j, g)) = omega (arith, h, e, i, f, j, g)
absorbed a b c x y (inr (h, e)) (inr (i, f)) (inr (j, g)) = omega (arith, h, e, i, f, j, g)

right_capped : (a b : ℕ) → spec.capped (a + spec.capped b) ≡ spec.capped (a + b)
right_capped a b = absorbed a b (spec.capped b) (spec.capped (a + spec.capped b)) (spec.capped (a + b)) (cap b) (cap (a + spec.capped b)) (cap (a + b))

turned : (a b : ℕ) → a + b ≡ b + a
turned a b = omega arith

left_capped : (a b : ℕ) → spec.capped (spec.capped a + b) ≡ spec.capped (a + b)
left_capped a b = ap spec.capped (turned (spec.capped a) b) ∙ right_capped b a ∙ ap spec.capped (turned b a)

small : (a : ℕ) → a ≤ most_leaves → spec.capped a ≡ a
small a h = ap (λ b. if b then suc most_leaves else a) (le-ltb most_leaves a h)

-- ---- fields

-- all leaves of fields
abbrev total : List (List (List ℕ)) → ℕ
total [] = 0
total (ls ∷ rest) = length ls + total rest

all_below : (n : ℕ) (lists : List (List (List ℕ))) → length (below_fields n lists) ≡ total lists
all_below n [] = refl
all_below n (ls ∷ rest) =
    length-append (map (λ l. n ∷ l) ls) (below_fields (suc n) rest)
    ∙ ap (λ k. k + length (below_fields (suc n) rest)) (length-map ls (λ l. n ∷ l))
    ∙ ap (λ k. length ls + k) (all_below (suc n) rest)

one_at_least : (ls : List (List ℕ)) → length (or_itself ls) ≡ spec.or_one (length ls)
one_at_least [] = refl
one_at_least (l ∷ ls) = refl

one_capped : (n : ℕ) → spec.or_one (spec.capped n) ≡ spec.capped (spec.or_one n)
one_capped zero = refl
one_capped (suc n) = by (nat_lt most_leaves (suc n))
  where
    by : (b : Bool) → spec.or_one (if b then suc most_leaves else suc n) ≡ (if b then suc most_leaves else suc n)
    by true = refl
    by false = refl

-- the counts of these types are known
abbrev Counted : Core → List ℕ → ℕ → Type 0
Counted tree cs n = (t : ValueType) → spec.field_count cs (table.entry_of tree t) ≡ spec.capped (length (leaves tree n t))

summed : (tree : Core) (cs : List ℕ) (n : ℕ) → Counted tree cs n → (ts : List ValueType) (sum : ℕ) →
    spec.sum_from cs (spec.capped sum) (map (table.entry_of tree) ts) ≡ spec.capped (sum + total (map (leaves tree n) ts))
summed tree cs n known [] sum = ap spec.capped (let f : sum ≡ sum + 0 = omega arith in f)
summed tree cs n known (t ∷ ts) sum =
    ap (λ k. spec.sum_from cs k (map (table.entry_of tree) ts))
    (ap (λ k. spec.capped (spec.capped sum + k)) (known t)
    ∙ left_capped sum (spec.capped (length (leaves tree n t)))
    ∙ right_capped sum (length (leaves tree n t)))
    ∙ summed tree cs n known ts (sum + length (leaves tree n t))
    ∙ ap spec.capped (more sum (length (leaves tree n t)) (total (map (leaves tree n) ts)))
  where
    more : (a b c : ℕ) → (a + b) + c ≡ a + (b + c)
    more a b c = omega arith

row_counted : (tree : Core) (cs : List ℕ) (n : ℕ) → Counted tree cs n → (ts : List ValueType) →
    spec.row_count cs (map (table.entry_of tree) ts) ≡ spec.capped (length (or_itself (below_fields 0 (map (leaves tree n) ts))))
row_counted tree cs n known ts =
    ap spec.or_one (summed tree cs n known ts 0 ∙ ap spec.capped (let e : 0 + total (map (leaves tree n) ts) ≡ total (map (leaves tree n) ts) = omega arith in e))
    ∙ one_capped (total (map (leaves tree n) ts))
    ∙ ap spec.capped (ap spec.or_one (sym (all_below 0 (map (leaves tree n) ts))) ∙ sym (one_at_least (below_fields 0 (map (leaves tree n) ts))))

-- ---- arrays

not_zero : (k : ℕ) → nat_eq (suc k) 0 ≡ false
not_zero k = by (nat_eq (suc k) 0) refl
  where
    by : (b : Bool) → nat_eq (suc k) 0 ≡ b → b ≡ false
    by true e = let f : suc k ≡ 0 = (Decides-eqb (suc k) 0).0 e in cc
    by false e = refl

around_count : (cs : List ℕ) (t : FieldType) → spec.field_count cs (table.around t) ≡ 1
around_count cs t = by (nat_lt t.arrays most_depth) refl
  where
    later : (k : ℕ) → (if nat_eq (suc k) 0 then spec.base_count cs t.base else 1) ≡ 1
    later k = ap (λ b. if b then spec.base_count cs t.base else 1) (not_zero k)

    by : (b : Bool) → nat_lt t.arrays most_depth ≡ b → spec.field_count cs (record { arrays = if b then suc t.arrays else t.arrays; base = t.base }) ≡ 1
    by true e = later t.arrays
    by false e = let h : most_depth ≤ t.arrays = ltb-false t.arrays most_depth e in many t.arrays h
      where
        many : (k : ℕ) → most_depth ≤ k → (if nat_eq k 0 then spec.base_count cs t.base else 1) ≡ 1
        many zero h = absurd (omega (arith, h))
        many (suc k) h = later k

-- ---- all types

none_counted : (t : FieldType) → spec.field_count [] t ≡ 1
none_counted t = by t.base (nat_eq t.arrays 0)
  where
    by : (u : FieldBase) (b : Bool) → (if b then spec.base_count [] u else 1) ≡ 1
    by base.Plain true = refl
    by base.Function true = refl
    by (base.Struct i) true = refl
    by u false = refl

-- the leaves of a struct that may lack
abbrev leaves_by : Core → ℕ → Option CoreStruct → ℕ
leaves_by tree n o = spec.capped (length (or_itself (below_fields 0 (map (leaves tree n) (map type_of_field (fields_or_none o))))))

row_known : (tree : Core) (cs : List ℕ) (n : ℕ) → Counted tree cs n → (i : ℕ) (s : CoreStruct) → slice_get (structs_in tree.decls) i ≡ Some s →
    get_or (map (spec.row_count cs) (table.table_of tree)) i 1 ≡ leaves_by tree n (Some s)
row_known tree cs n known i s e =
    kept (spec.row_count cs) (table.table_of tree) i (table.row_of tree s) 1 (slice_get-map (table.row_of tree) (structs_in tree.decls) i ∙ ap (option_map (table.row_of tree)) e)
    ∙ row_counted tree cs n known (map type_of_field s.fields)

struct_by : (tree : Core) (cs : List ℕ) (n : ℕ) → Counted tree cs n → (s : List ℕ) → ((struct_in tree.decls s ≡ None) × (struct_number tree.decls s ≡ None)) ⊎ Numbered tree.decls s →
    spec.field_count (map (spec.row_count cs) (table.table_of tree)) (table.by_number (struct_number tree.decls s)) ≡ leaves_by tree n (struct_in tree.decls s)
struct_by tree cs n known s (inl (e, f)) = ap (λ o. spec.field_count (map (spec.row_count cs) (table.table_of tree)) (table.by_number o)) f ∙ sym (ap (leaves_by tree n) e)
struct_by tree cs n known s (inr r) =
    ap (λ o. spec.field_count (map (spec.row_count cs) (table.table_of tree)) (table.by_number o)) r.numbered
    ∙ row_known tree cs n known r.number r.struct r.there
    ∙ sym (ap (leaves_by tree n) r.named)

pub counted : (tree : Core) (n : ℕ) → Counted tree (spec.counts_after (table.table_of tree) n) n
counted tree zero t = none_counted (table.entry_of tree t)
counted tree (suc n) IntType = refl
counted tree (suc n) BoolType = refl
counted tree (suc n) (StructType s) = struct_by tree (spec.counts_after (table.table_of tree) n) n (counted tree n) s (numbers tree.decls s)
counted tree (suc n) (ArrayType t) = around_count (spec.counts_after (table.table_of tree) (suc n)) (table.entry_of tree t)
counted tree (suc n) (FunType params) = refl
counted tree (suc n) (FunToType params t) = refl

-- more than are accepted
pub many_known : (n m : ℕ) → m ≡ spec.capped n → nat_lt most_leaves m ≡ nat_lt most_leaves n
many_known n m e = ap (nat_lt most_leaves) e ∙ by (nat_lt most_leaves n) refl
  where
    by : (b : Bool) → nat_lt most_leaves n ≡ b → nat_lt most_leaves (if b then suc most_leaves else n) ≡ b
    by true f = refl
    by false f = f
