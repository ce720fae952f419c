-- The depths that are known after n rounds are those of all types of depth at most n.
use Rattle.std.proofs.Common.{append_assoc, ◌++◌, ◌≡◌, ◌≤◌, ◌<◌, ℕ, zero, suc, Bool, true, false, if◌then◌else◌, ◌&&◌, nat_lt, List, [], ◌∷◌, map, length, Option, Some, None, refl, sym, ap, ◌∙◌, arith}
use Rattle.std.specs.List.{list_all}
use Rattle.std.specs.Str.{bytes_eq}
use Rattle.std.proofs.lemmas.Bool.{ltb-false, le-ltb}
use Rattle.std.proofs.lemmas.Bool.Decides.{Decides-ltb}
use Rattle.hv_tree.specs.Core.{Core, CoreDecl, StructOf, FunOf, CoreStruct}
use Rattle.hv_decls.specs.Types.{ValueType, IntType, BoolType, StructType, ArrayType, FunType, FunToType, type_of_field, field_types, fields_or_none, struct_in, within}
use Rattle.hv_scope.specs.Tops.{structs_in, struct_from}
use Rattle.hv_types.specs.Depths as spec

-- ---- tests on numbers

below : (d n : ℕ) → d < n → nat_lt d n ≡ true
below d n h = (Decides-ltb d n).1 h

above : (d n : ℕ) → n ≤ d → nat_lt d n ≡ false
above d n h = le-ltb d n h

not_less : (m n : ℕ) → nat_lt m n ≡ false → n ≤ m
not_less m n e = ltb-false m n e

-- ---- lists of tests

all_same : {A : Type 0} (p q : A → Bool) (xs : List A) → ((x : A) → p x ≡ q x) → list_all p xs ≡ list_all q xs
all_same p q [] h = refl
all_same p q (x ∷ xs) h = ap (λ b. b && list_all p xs) (h x) ∙ ap (λ b. q x && b) (all_same p q xs h)

both_first : (b c : Bool) → (b && c) ≡ true → b ≡ true
both_first true c e = refl
both_first false c e = e

both_second : (b c : Bool) → (b && c) ≡ true → c ≡ true
both_second true c e = e
both_second false c e = let f : false ≡ true = e in cc

both_true : (b c : Bool) → b ≡ true → c ≡ true → (b && c) ≡ true
both_true b c e f = ap (λ x. x && c) e ∙ f

all_weaker : {A : Type 0} (p q : A → Bool) (xs : List A) → ((x : A) → p x ≡ true → q x ≡ true) → list_all p xs ≡ true → list_all q xs ≡ true
all_weaker p q [] h e = refl
all_weaker p q (x ∷ xs) h e = both_true (q x) (list_all q xs) (h x (both_first (p x) (list_all p xs) e)) (all_weaker p q xs h (both_second (p x) (list_all p xs) e))

-- a type within a depth is within each greater one
pub deeper : (tree : Core) (n : ℕ) (t : ValueType) → within tree n t ≡ true → within tree (suc n) t ≡ true
deeper tree zero t e = let f : false ≡ true = e in cc
deeper tree (suc n) IntType e = refl
deeper tree (suc n) BoolType e = refl
deeper tree (suc n) (StructType s) e = all_weaker (within tree n) (within tree (suc n)) (field_types tree s) (deeper tree n) e
deeper tree (suc n) (ArrayType t) e = deeper tree n t e
deeper tree (suc n) (FunType params) e = refl
deeper tree (suc n) (FunToType params t) e = refl

-- ---- structs by name, with their depths

-- the first struct with the name, and its depth
abbrev pub looked : List CoreStruct → List ℕ → List ℕ → Option (CoreStruct × ℕ)
looked [] ds text = None
looked (s ∷ ss) [] text = None
looked (s ∷ ss) (d ∷ ds) text = if bytes_eq s.name.text text then Some (s, d) else looked ss ds text

-- each struct has a depth
abbrev pub Aligned : List CoreStruct → List ℕ → Type 0
Aligned [] ds = Unit {0}
Aligned (s ∷ ss) [] = ⊥
Aligned (s ∷ ss) (d ∷ ds) = Aligned ss ds

unknown_aligned : (ss : List CoreStruct) → Aligned ss (spec.unknown ss)
unknown_aligned [] = tt
unknown_aligned (s ∷ ss) = unknown_aligned ss

round_aligned : (tree : Core) (ds : List ℕ) (n : ℕ) (ss : List CoreStruct) (old : List ℕ) → Aligned ss old → Aligned ss (spec.round tree ds n ss old)
round_aligned tree ds n [] old a = tt
round_aligned tree ds n (s ∷ ss) [] a = absurd a
round_aligned tree ds n (s ∷ ss) (d ∷ old) a = round_aligned tree ds n ss old a

pub depths_aligned : (tree : Core) (n : ℕ) → Aligned (structs_in tree.decls) (spec.depths tree n)
depths_aligned tree zero = unknown_aligned (structs_in tree.decls)
depths_aligned tree (suc n) = round_aligned tree (spec.depths tree n) n (structs_in tree.decls) (spec.depths tree n) (depths_aligned tree n)

-- the struct alone
abbrev first_of : Option (CoreStruct × ℕ) → Option CoreStruct
first_of None = None
first_of (Some l) = Some l.0

found_by : (b : Bool) (s : CoreStruct) (d : ℕ) (o : Option CoreStruct) (l : Option (CoreStruct × ℕ)) → o ≡ first_of l → (if b then Some s else o) ≡ first_of (if b then Some (s, d) else l)
found_by true s d o l e = refl
found_by false s d o l e = e

in_decls : (decls : List CoreDecl) (ds : List ℕ) (text : List ℕ) → Aligned (structs_in decls) ds → struct_in decls text ≡ first_of (looked (structs_in decls) ds text)
in_decls [] ds text a = refl
in_decls (StructOf s ∷ decls) [] text a = absurd a
in_decls (StructOf s ∷ decls) (d ∷ ds) text a = found_by (bytes_eq s.name.text text) s d (struct_in decls text) (looked (structs_in decls) ds text) (in_decls decls ds text a)
in_decls (FunOf f ∷ decls) ds text a = in_decls decls ds text a

-- a depth that fits, where there is a struct
abbrev by_looked : ℕ → Option (CoreStruct × ℕ) → Bool
by_looked n None = true
by_looked n (Some l) = spec.settled n l.1

at_length : (front : List ℕ) (d : ℕ) (ds : List ℕ) → spec.depth_at (front ++ d ∷ ds) (length front) ≡ d
at_length [] d ds = refl
at_length (x ∷ front) d ds = at_length front d ds

moved : (front : List ℕ) (d : ℕ) (ds : List ℕ) → (front ++ d ∷ []) ++ ds ≡ front ++ d ∷ ds
moved front d ds = append_assoc front (d ∷ []) ds

longer : (front : List ℕ) (d : ℕ) → length (front ++ d ∷ []) ≡ suc (length front)
longer [] d = refl
longer (x ∷ front) d = ap suc (longer front d)

number_by : (b : Bool) (n k : ℕ) (all : List ℕ) (s : CoreStruct) (d : ℕ) (o : Option ℕ) (l : Option (CoreStruct × ℕ)) →
    spec.depth_at all k ≡ d → spec.fits_number all n o ≡ by_looked n l → spec.fits_number all n (if b then Some k else o) ≡ by_looked n (if b then Some (s, d) else l)
number_by true n k all s d o l e f = ap (spec.settled n) e
number_by false n k all s d o l e f = f

numbers : (n : ℕ) (front : List ℕ) (ss : List CoreStruct) (ds : List ℕ) (text : List ℕ) → Aligned ss ds → spec.fits_number (front ++ ds) n (struct_from (length front) ss text) ≡ by_looked n (looked ss ds text)
numbers n front [] ds text a = refl
numbers n front (s ∷ ss) [] text a = absurd a
numbers n front (s ∷ ss) (d ∷ ds) text a =
    number_by (bytes_eq s.name.text text) n (length front) (front ++ d ∷ ds) s d (struct_from (suc (length front)) ss text) (looked ss ds text) (at_length front d ds)
    (ap (λ l. spec.fits_number l n (struct_from (suc (length front)) ss text)) (sym (moved front d ds))
    ∙ ap (λ k. spec.fits_number ((front ++ d ∷ []) ++ ds) n (struct_from k ss text)) (sym (longer front d))
    ∙ numbers n (front ++ d ∷ []) ss ds text a)

-- ---- a round

abbrev behind : Core → List ℕ → ℕ → Option (CoreStruct × ℕ) → Option (CoreStruct × ℕ)
behind tree ds n None = None
behind tree ds n (Some l) = Some (l.0, spec.next_depth tree ds n l.0 l.1)

round_by : (tree : Core) (ds : List ℕ) (n : ℕ) (b : Bool) (s : CoreStruct) (d : ℕ) (l k : Option (CoreStruct × ℕ)) → l ≡ behind tree ds n k →
    (if b then Some (s, spec.next_depth tree ds n s d) else l) ≡ behind tree ds n (if b then Some (s, d) else k)
round_by tree ds n true s d l k e = refl
round_by tree ds n false s d l k e = e

rounded : (tree : Core) (ds : List ℕ) (n : ℕ) (ss : List CoreStruct) (old : List ℕ) (text : List ℕ) → looked ss (spec.round tree ds n ss old) text ≡ behind tree ds n (looked ss old text)
rounded tree ds n [] old text = refl
rounded tree ds n (s ∷ ss) [] text = refl
rounded tree ds n (s ∷ ss) (d ∷ old) text = round_by tree ds n (bytes_eq s.name.text text) s d (looked ss (spec.round tree ds n ss old) text) (looked ss old text) (rounded tree ds n ss old text)

-- what is found before the first round
abbrev Zero : Option (CoreStruct × ℕ) → Type 0
Zero None = Unit {0}
Zero (Some l) = l.1 ≡ 0

zero_by : (b : Bool) (s : CoreStruct) (l : Option (CoreStruct × ℕ)) → Zero l → Zero (if b then Some (s, 0) else l)
zero_by true s l z = refl
zero_by false s l z = z

none_known : (ss : List CoreStruct) (text : List ℕ) → Zero (looked ss (spec.unknown ss) text)
none_known [] text = tt
none_known (s ∷ ss) text = zero_by (bytes_eq s.name.text text) s (looked ss (spec.unknown ss) text) (none_known ss text)

-- a depth that is known after n rounds is at most n
abbrev AtMost : ℕ → Option (CoreStruct × ℕ) → Type 0
AtMost n None = Unit {0}
AtMost n (Some l) = l.1 ≤ n

chosen_most : (b : Bool) (n : ℕ) → (if b then suc n else 0) ≤ suc n
chosen_most true n = omega arith
chosen_most false n = omega arith

next_most : (tree : Core) (ds : List ℕ) (n : ℕ) (s : CoreStruct) (d : ℕ) → d ≤ n → spec.next_depth tree ds n s d ≤ suc n
next_most tree ds n s zero h = chosen_most (spec.fields_fit tree ds n s) n
next_most tree ds n s (suc d) h = omega (arith, h)

behind_most : (tree : Core) (ds : List ℕ) (n : ℕ) (l : Option (CoreStruct × ℕ)) → AtMost n l → AtMost (suc n) (behind tree ds n l)
behind_most tree ds n None h = tt
behind_most tree ds n (Some l) h = next_most tree ds n l.0 l.1 h

abbrev at_round : Core → ℕ → List ℕ → Option (CoreStruct × ℕ)
at_round tree n text = looked (structs_in tree.decls) (spec.depths tree n) text

round_next : (tree : Core) (n : ℕ) (text : List ℕ) → at_round tree (suc n) text ≡ behind tree (spec.depths tree n) n (at_round tree n text)
round_next tree n text = rounded tree (spec.depths tree n) n (structs_in tree.decls) (spec.depths tree n) text

zero_most : (l : Option (CoreStruct × ℕ)) → Zero l → AtMost 0 l
zero_most None z = tt
zero_most (Some l) z = omega (arith, z)

most : (tree : Core) (n : ℕ) (text : List ℕ) → AtMost n (at_round tree n text)
most tree zero text = zero_most (at_round tree 0 text) (none_known (structs_in tree.decls) text)
most tree (suc n) text = rw (round_next tree n text) (behind_most tree (spec.depths tree n) n (at_round tree n text) (most tree n text))

-- ---- all types

-- the depth is known for all structs that are within so many
abbrev Right : Core → ℕ → Type 0
Right tree n = (text : List ℕ) (m : ℕ) → suc m ≤ n → within tree (suc m) (StructType text) ≡ by_looked (suc m) (at_round tree n text)

struct_fits : (tree : Core) (n m : ℕ) (text : List ℕ) → spec.fits tree (spec.depths tree n) (suc m) (StructType text) ≡ by_looked (suc m) (at_round tree n text)
struct_fits tree n m text = numbers (suc m) [] (structs_in tree.decls) (spec.depths tree n) text (depths_aligned tree n)

all_right : (tree : Core) (n : ℕ) → Right tree n → (m : ℕ) (t : ValueType) → m ≤ n → within tree m t ≡ spec.fits tree (spec.depths tree n) m t
all_right tree n r zero t h = refl
all_right tree n r (suc m) IntType h = refl
all_right tree n r (suc m) BoolType h = refl
all_right tree n r (suc m) (StructType s) h = r s m h ∙ sym (struct_fits tree n m s)
all_right tree n r (suc m) (ArrayType t) h = all_right tree n r m t (omega (arith, h))
all_right tree n r (suc m) (FunType params) h = refl
all_right tree n r (suc m) (FunToType params t) h = refl

-- the fields of what is found
abbrev looked_fields : Option (CoreStruct × ℕ) → List ValueType
looked_fields l = map type_of_field (fields_or_none (first_of l))

within_looked : (tree : Core) (n m : ℕ) (text : List ℕ) → within tree (suc m) (StructType text) ≡ list_all (within tree m) (looked_fields (at_round tree n text))
within_looked tree n m text = ap (λ o. list_all (within tree m) (map type_of_field (fields_or_none o))) (in_decls tree.decls (spec.depths tree n) text (depths_aligned tree n))

-- ---- one more round

early_by : (b : Bool) (n m : ℕ) → suc m ≤ n → false ≡ spec.settled (suc m) (if b then suc n else 0)
early_by true n m h = sym (above n (suc m) h)
early_by false n m h = refl

-- a depth that is found in this round isn't less
early : (tree : Core) (ds : List ℕ) (n m : ℕ) (s : CoreStruct) (d : ℕ) → suc m ≤ n → spec.settled (suc m) d ≡ spec.settled (suc m) (spec.next_depth tree ds n s d)
early tree ds n m s zero h = early_by (spec.fields_fit tree ds n s) n m h
early tree ds n m s (suc d) h = refl

last_by : (b : Bool) (n : ℕ) → b ≡ spec.settled (suc n) (if b then suc n else 0)
last_by true n = sym (below n (suc n) (omega arith))
last_by false n = refl

known_before : (tree : Core) (n : ℕ) → Right tree n → (text : List ℕ) (s : CoreStruct) (d : ℕ) → suc d ≤ n → at_round tree n text ≡ Some (s, suc d) → within tree n (StructType text) ≡ true
known_before tree zero r text s d h e = absurd (omega (arith, h))
known_before tree (suc n) r text s d h e = r text n (omega arith) ∙ ap (by_looked (suc n)) e ∙ below d (suc n) (omega (arith, h))

module _ (tree : Core) (n : ℕ) (r : Right tree n) (text : List ℕ) where
  -- at the depth of this round
  found_now : (s : CoreStruct) (d : ℕ) → at_round tree n text ≡ Some (s, d) → d ≤ n → within tree (suc n) (StructType text) ≡ spec.settled (suc n) (spec.next_depth tree (spec.depths tree n) n s d)
  found_now s zero e h =
      within_looked tree n n text
      ∙ ap (λ l. list_all (within tree n) (looked_fields l)) e
      ∙ all_same (within tree n) (spec.fits tree (spec.depths tree n) n) (map type_of_field s.fields) (λ t. all_right tree n r n t (omega arith))
      ∙ last_by (spec.fields_fit tree (spec.depths tree n) n s) n
  found_now s (suc d) e h = deeper tree n (StructType text) (known_before tree n r text s d h e) ∙ sym (below d (suc n) (omega (arith, h)))

  found_then : (m : ℕ) (s : CoreStruct) (d : ℕ) (b : Bool) → nat_lt m n ≡ b → suc m ≤ suc n → at_round tree n text ≡ Some (s, d) → d ≤ n →
      within tree (suc m) (StructType text) ≡ spec.settled (suc m) (spec.next_depth tree (spec.depths tree n) n s d)
  found_then m s d true e h f g =
      let less : suc m ≤ n = omega (arith, (Decides-ltb m n).0 e) in
      r text m less ∙ ap (by_looked (suc m)) f ∙ early tree (spec.depths tree n) n m s d less
  found_then m s d false e h f g = let same : m ≡ n = omega (arith, h, not_less m n e) in rw same (found_now s d f g)

  turn : (m : ℕ) (l : Option (CoreStruct × ℕ)) → suc m ≤ suc n → at_round tree n text ≡ l → AtMost n l → within tree (suc m) (StructType text) ≡ by_looked (suc m) (behind tree (spec.depths tree n) n l)
  turn m None h e g = within_looked tree n m text ∙ ap (λ l. list_all (within tree m) (looked_fields l)) e
  turn m (Some l) h e g = found_then m l.0 l.1 (nat_lt m n) refl h e g

-- what is known after n rounds is right
pub depths_right : (tree : Core) (n : ℕ) → Right tree n
depths_right tree zero = λ text m h. absurd (omega (arith, h))
depths_right tree (suc n) = λ text m h.
    turn tree n (depths_right tree n) text m (at_round tree n text) h refl (most tree n text)
    ∙ sym (ap (by_looked (suc m)) (round_next tree n text))

-- the depths after n rounds tell which types have a depth of at most n
pub types_fit : (tree : Core) (n : ℕ) (t : ValueType) → within tree n t ≡ spec.fits tree (spec.depths tree n) n t
types_fit tree n t = all_right tree n (depths_right tree n) n t (omega arith)
