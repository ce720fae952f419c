-- What is found at the first place of its name.
use Rattle.std.proofs.Common.{◌≡◌, ℕ, zero, suc, Bool, true, false, if◌then◌else◌, List, [], ◌∷◌, length, map, ◌<◌, Bor, Option, Some, None, refl, sym, ap, ◌∙◌, arith}
use Rattle.std.specs.Str.{bytes_eq}
use Rattle.std.specs.List.{slice_get}
use Rattle.std.specs.Option.{option_map}
use Rattle.std.proofs.lemmas.Option.{slice_get-map}
use Rattle.std.proofs.lemmas.Simd.{map-map}
use Rattle.std.specs.Cmp.Lexicographic.{nat_list_eq_equiv}
use Rattle.hv_tree.specs.declared.ast.Field.{Field}
use Rattle.hv_tree.specs.declared.ast.Decl.{Decl}
use Rattle.hv_tree.specs.declared.ast.Decl.TheVariants as decl
use Rattle.hv_tree.specs.declared.ast.FunDecl.{FunDecl}
use Rattle.hv_tree.specs.declared.ast.StructDecl.{StructDecl}
use Rattle.hv_tree.specs.Core.{core_ty, core_field, core_decl}
use Rattle.hv_decls.specs.Types.{FieldAt, meant, struct_in, fun_in, field_from, fields_or_none}
use Rattle.hv_decls.specs.Locals.{number_from, number_in, local_in}
use Rattle.hv_symbols.specs.Texts.{index_from, index_of}
use Rattle.hv_scope.specs.declared.known.Known.{Known}
use Rattle.hv_scope.specs.Known.{local_by, text_of, option_local, core_struct, option_struct, core_fun, option_function}
use Rattle.hv_scope.specs.Tops.{struct_decls, fun_decls, structs_in, struct_from, struct_number, name_of_struct, name_of_fun, field_text, field_texts, fields_of, first_by}

-- equality of texts, either way round
turned : (a b : List ℕ) → bytes_eq a b ≡ bytes_eq b a
turned a b = nat_list_eq_equiv.symm a b

abbrev pub next : Option ℕ → Option ℕ
next None = None
next (Some k) = Some (suc k)

next_if : (b : Bool) (n : ℕ) (o : Option ℕ) → (if b then Some (suc n) else next o) ≡ next (if b then Some n else o)
next_if true n o = refl
next_if false n o = refl

counted_on : (n : ℕ) (ts : List (List ℕ)) (q : List ℕ) → index_from (suc n) ts q ≡ next (index_from n ts q)
counted_on n [] q = refl
counted_on n (t ∷ ts) q = ap (λ o. if bytes_eq q t then Some (suc n) else o) (counted_on (suc n) ts q) ∙ next_if (bytes_eq q t) n (index_from (suc n) ts q)

-- the first text, or one behind it
pub index_next : (t : List ℕ) (ts : List (List ℕ)) (q : List ℕ) → index_of (t ∷ ts) q ≡ (if bytes_eq q t then Some 0 else next (index_of ts q))
unfolding index_of
index_next t ts q = ap (λ o. if bytes_eq q t then Some 0 else o) (counted_on 0 ts q)

-- what stands at a place that may lack
abbrev pub got : {A : Type 0} → Option ℕ → List A → Option A
got None xs = None
got (Some k) xs = slice_get xs k

got_next : {A : Type 0} (b : Bool) (o : Option ℕ) (x : A) (xs : List A) → got (if b then Some 0 else next o) (x ∷ xs) ≡ (if b then Some x else got o xs)
got_next true o x xs = refl
got_next false None x xs = refl
got_next false (Some k) x xs = refl

pub first_placed : {A : Type 0} (t : A → List ℕ) (xs : List A) (q : List ℕ) → got (index_of (map t xs) q) xs ≡ first_by t xs q
unfolding index_of
first_placed t [] q = refl
first_placed t (x ∷ xs) q =
    ap (λ o. got o (x ∷ xs)) (index_next (t x) (map t xs) q)
    ∙ got_next (bytes_eq q (t x)) (index_of (map t xs) q) x xs
    ∙ ap (λ o. if bytes_eq q (t x) then Some x else o) (first_placed t xs q)
    ∙ ap (λ b. if b then Some x else first_by t xs q) (turned q (t x))

-- by the names, as they are kept beside the list
pub first_kept : {A : Type 0} (t : A → List ℕ) (l xs : List A) (ns : List (List ℕ)) (q : List ℕ) (o : Option ℕ) (k : Option A) → l ≡ xs → ns ≡ map t xs → o ≡ index_of ns q → k ≡ got o l → k ≡ first_by t l q
first_kept t l xs ns q o k v e f g = g ∙ ap (λ p. got p l) (f ∙ ap (λ m. index_of m q) (e ∙ ap (map t) (sym v))) ∙ first_placed t l q

-- the place is one of the list
abbrev pub Within : Option ℕ → ℕ → Type 0
Within None n = Unit {0}
Within (Some k) n = k < n

within_by : (b : Bool) (o : Option ℕ) (n : ℕ) → Within o n → Within (if b then Some 0 else next o) (suc n)
within_by true o n h = omega arith
within_by false None n h = tt
within_by false (Some k) n h = omega (arith, h)

index_within : {A : Type 0} (t : A → List ℕ) (xs : List A) (q : List ℕ) → Within (index_of (map t xs) q) (length xs)
unfolding index_of
index_within t [] q = tt
index_within t (x ∷ xs) q = rw (index_next (t x) (map t xs) q) (within_by (bytes_eq q (t x)) (index_of (map t xs) q) (length xs) (index_within t xs q))

get_there : {A : Type 0} (xs : List A) (k : ℕ) → k < length xs → slice_get xs k ≡ None → ⊥
get_there [] k h e = absurd (omega (arith, h))
get_there (x ∷ xs) zero h e = cc
get_there (x ∷ xs) (suc k) h e = get_there xs k (omega (arith, h)) e

none_got : {A : Type 0} (o : Option ℕ) (xs : List A) → Within o (length xs) → got o xs ≡ None → o ≡ None
none_got None xs h e = refl
none_got (Some k) xs h e = absurd (get_there xs k h e)

-- nothing there means that there is no such text
pub missing : {A : Type 0} (t : A → List ℕ) (xs : List A) (q : List ℕ) → got (index_of (map t xs) q) xs ≡ None → index_of (map t xs) q ≡ None
missing t xs q e = none_got (index_of (map t xs) q) xs (index_within t xs q) e

-- ---- locals

if_local : (b : Bool) (k : Known) (o : Option Known) → (if b then Some (local_by k) else option_local o) ≡ option_local (if b then Some k else o)
if_local true k o = refl
if_local false k o = refl

first_local : (ks : List Known) (q : List ℕ) → local_in (map local_by ks) q ≡ option_local (first_by text_of ks q)
first_local [] q = refl
first_local (k ∷ ks) q = ap (λ o. if bytes_eq (text_of k) q then Some (local_by k) else o) (first_local ks q) ∙ if_local (bytes_eq (text_of k) q) k (first_by text_of ks q)

pub local_placed : (ks : List Known) (q : List ℕ) → local_in (map local_by ks) q ≡ option_local (got (index_of (map text_of ks) q) ks)
local_placed ks q = first_local ks q ∙ sym (ap option_local (first_placed text_of ks q))

number_from_placed : (n : ℕ) (ks : List Known) (q : List ℕ) → number_from n (map local_by ks) q ≡ index_from n (map text_of ks) q
number_from_placed n [] q = refl
number_from_placed n (k ∷ ks) q =
    ap (λ o. if bytes_eq (text_of k) q then Some n else o) (number_from_placed (suc n) ks q) ∙ ap (λ b. if b then Some n else index_from (suc n) (map text_of ks) q) (turned (text_of k) q)

pub number_placed : (ks : List Known) (q : List ℕ) → number_in (map local_by ks) q ≡ index_of (map text_of ks) q
unfolding index_of
number_placed ks q = number_from_placed 0 ks q

-- by the names, as they are kept beside the locals
pub local_kept : (l ks : List Known) (ns : List (List ℕ)) (q : List ℕ) (o : Option ℕ) (k : Option Known) → l ≡ ks → ns ≡ map text_of ks → o ≡ index_of ns q → k ≡ got o ks → option_local k ≡ local_in (map local_by l) q
local_kept l ks ns q o k v e f g =
    ap option_local (g ∙ ap (λ p. got p ks) (f ∙ ap (λ m. index_of m q) e)) ∙ sym (local_placed ks q) ∙ sym (ap (λ m. local_in (map local_by m) q) v)

pub number_kept : (l ks : List Known) (ns : List (List ℕ)) (q : List ℕ) (o : Option ℕ) → l ≡ ks → ns ≡ map text_of ks → o ≡ index_of ns q → got o ks ≡ None → None ≡ number_in (map local_by l) q
number_kept l ks ns q o v e f g =
    let here : o ≡ index_of (map text_of ks) q = f ∙ ap (λ m. index_of m q) e in
    sym (ap (λ m. number_in (map local_by m) q) v ∙ number_placed ks q ∙ missing text_of ks q (sym (ap (λ p. got p ks) here) ∙ g))

-- ---- structs

if_struct : (b : Bool) (s : StructDecl) (o : Option StructDecl) → (if b then Some (core_struct s) else option_struct o) ≡ option_struct (if b then Some s else o)
if_struct true s o = refl
if_struct false s o = refl

pub first_struct : (decls : List Decl) (q : List ℕ) → struct_in (map core_decl decls) q ≡ option_struct (first_by name_of_struct (struct_decls decls) q)
first_struct [] q = refl
first_struct (decl.Struct s ∷ rest) q =
    ap (λ o. if bytes_eq (name_of_struct s) q then Some (core_struct s) else o) (first_struct rest q) ∙ if_struct (bytes_eq (name_of_struct s) q) s (first_by name_of_struct (struct_decls rest) q)
first_struct (decl.Fun f ∷ rest) q = first_struct rest q

pub struct_placed : (decls : List Decl) (q : List ℕ) → struct_in (map core_decl decls) q ≡ option_struct (got (index_of (map name_of_struct (struct_decls decls)) q) (struct_decls decls))
struct_placed decls q = first_struct decls q ∙ sym (ap option_struct (first_placed name_of_struct (struct_decls decls) q))

pub structs_same : (decls : List Decl) → structs_in (map core_decl decls) ≡ map core_struct (struct_decls decls)
structs_same [] = refl
structs_same (decl.Struct s ∷ rest) = ap (λ l. core_struct s ∷ l) (structs_same rest)
structs_same (decl.Fun f ∷ rest) = structs_same rest

struct_from_placed : (n : ℕ) (ss : List StructDecl) (q : List ℕ) → struct_from n (map core_struct ss) q ≡ index_from n (map name_of_struct ss) q
struct_from_placed n [] q = refl
struct_from_placed n (s ∷ ss) q =
    ap (λ o. if bytes_eq (name_of_struct s) q then Some n else o) (struct_from_placed (suc n) ss q) ∙ ap (λ b. if b then Some n else index_from (suc n) (map name_of_struct ss) q) (turned (name_of_struct s) q)

pub struct_numbered : (decls : List Decl) (q : List ℕ) → struct_number (map core_decl decls) q ≡ index_of (map name_of_struct (struct_decls decls)) q
unfolding index_of
struct_numbered decls q = ap (λ ss. struct_from 0 ss q) (structs_same decls) ∙ struct_from_placed 0 (struct_decls decls) q

-- by the structs, as they are kept beside the program
pub structs_kept : (bs : List (Bor StructDecl)) (ss : List StructDecl) (decls : List Decl) → map (λ (d : Bor StructDecl). d.now) bs ≡ ss → ss ≡ struct_decls decls → map (λ (d : Bor StructDecl). core_struct d.now) bs ≡ structs_in (map core_decl decls)
structs_kept bs ss decls e f = sym (map-map core_struct (λ (d : Bor StructDecl). d.now) bs) ∙ ap (map core_struct) (e ∙ f) ∙ sym (structs_same decls)

pub struct_kept : (ss : List StructDecl) (decls : List Decl) (q : List ℕ) (o : Option ℕ) (s : Option StructDecl) → ss ≡ struct_decls decls → o ≡ index_of (map name_of_struct ss) q → s ≡ got o ss → option_struct s ≡ struct_in (map core_decl decls) q
struct_kept ss decls q o s e f g =
    ap option_struct (g ∙ ap (λ p. got p ss) f ∙ ap (λ l. got (index_of (map name_of_struct l) q) l) e) ∙ sym (struct_placed decls q)

pub struct_number_kept : (ss : List StructDecl) (decls : List Decl) (q : List ℕ) (o : Option ℕ) → ss ≡ struct_decls decls → o ≡ index_of (map name_of_struct ss) q → o ≡ struct_number (map core_decl decls) q
struct_number_kept ss decls q o e f = f ∙ ap (λ l. index_of (map name_of_struct l) q) e ∙ sym (struct_numbered decls q)

-- the fields of a struct that may lack
pub fields_same : (o : Option StructDecl) → fields_or_none (option_struct o) ≡ map core_field (fields_of o)
fields_same None = refl
fields_same (Some s) = refl

pub fields_placed : (decls : List Decl) (of q : List ℕ) →
    field_from 0 (fields_or_none (struct_in (map core_decl decls) of)) q ≡ field_from 0 (map core_field (fields_of (got (index_of (map name_of_struct (struct_decls decls)) of) (struct_decls decls)))) q
fields_placed decls of q =
    ap (λ s. field_from 0 (fields_or_none s) q) (struct_placed decls of) ∙ ap (λ fs. field_from 0 fs q) (fields_same (got (index_of (map name_of_struct (struct_decls decls)) of) (struct_decls decls)))

pub field_of_kept : (ss : List StructDecl) (decls : List Decl) (of q : List ℕ) (o : Option ℕ) → ss ≡ struct_decls decls → o ≡ index_of (map name_of_struct ss) of →
    field_from 0 (map core_field (fields_of (got o ss))) q ≡ field_from 0 (fields_or_none (struct_in (map core_decl decls) of)) q
field_of_kept ss decls of q o e f =
    ap (λ p. field_from 0 (map core_field (fields_of (got p ss))) q) f
    ∙ ap (λ l. field_from 0 (map core_field (fields_of (got (index_of (map name_of_struct l) of) l))) q) e
    ∙ sym (fields_placed decls of q)

-- ---- functions

if_fun : (b : Bool) (f : FunDecl) (o : Option FunDecl) → (if b then Some (core_fun f) else option_function o) ≡ option_function (if b then Some f else o)
if_fun true f o = refl
if_fun false f o = refl

pub first_fun : (decls : List Decl) (q : List ℕ) → fun_in (map core_decl decls) q ≡ option_function (first_by name_of_fun (fun_decls decls) q)
first_fun [] q = refl
first_fun (decl.Struct s ∷ rest) q = first_fun rest q
first_fun (decl.Fun f ∷ rest) q =
    ap (λ o. if bytes_eq (name_of_fun f) q then Some (core_fun f) else o) (first_fun rest q) ∙ if_fun (bytes_eq (name_of_fun f) q) f (first_by name_of_fun (fun_decls rest) q)

-- ---- fields

-- the field at a place, its number with it
abbrev pub numbered : ℕ → Option Field → Option FieldAt
numbered k None = None
numbered k (Some f) = Some (record { number = k; ty = meant (core_ty f.ty) })

abbrev pub field_placed : Option ℕ → List Field → Option FieldAt
field_placed None fs = None
field_placed (Some k) fs = numbered k (slice_get fs k)

abbrev higher : Option FieldAt → Option FieldAt
higher None = None
higher (Some f) = Some (record { number = suc f.number; ty = f.ty })

higher_if : (b : Bool) (n : ℕ) (f : Field) (o : Option FieldAt) →
    (if b then Some (record { number = suc n; ty = meant (core_ty f.ty) }) else higher o) ≡ higher (if b then Some (record { number = n; ty = meant (core_ty f.ty) }) else o)
higher_if true n f o = refl
higher_if false n f o = refl

field_on : (n : ℕ) (fs : List Field) (q : List ℕ) → field_from (suc n) (map core_field fs) q ≡ higher (field_from n (map core_field fs) q)
field_on n [] q = refl
field_on n (f ∷ fs) q =
    ap (λ o. if bytes_eq (field_text f) q then Some (record { number = suc n; ty = meant (core_ty f.ty) }) else o) (field_on (suc n) fs q)
    ∙ higher_if (bytes_eq (field_text f) q) n f (field_from (suc n) (map core_field fs) q)

numbered_next : (k : ℕ) (o : Option Field) → numbered (suc k) o ≡ higher (numbered k o)
numbered_next k None = refl
numbered_next k (Some f) = refl

placed_next : (b : Bool) (o : Option ℕ) (f : Field) (fs : List Field) →
    field_placed (if b then Some 0 else next o) (f ∷ fs) ≡ (if b then Some (record { number = 0; ty = meant (core_ty f.ty) }) else higher (field_placed o fs))
placed_next true o f fs = refl
placed_next false None f fs = refl
placed_next false (Some k) f fs = numbered_next k (slice_get fs k)

pub field_first : (fs : List Field) (q : List ℕ) → field_from 0 (map core_field fs) q ≡ field_placed (index_of (map field_text fs) q) fs
unfolding index_of
field_first [] q = refl
field_first (f ∷ fs) q =
    ap (λ o. if bytes_eq (field_text f) q then Some (record { number = 0; ty = meant (core_ty f.ty) }) else o) (field_on 0 fs q ∙ ap higher (field_first fs q))
    ∙ ap (λ b. if b then Some (record { number = 0; ty = meant (core_ty f.ty) }) else higher (field_placed (index_of (map field_text fs) q) fs)) (turned (field_text f) q)
    ∙ sym (ap (λ o. field_placed o (f ∷ fs)) (index_next (field_text f) (map field_text fs) q) ∙ placed_next (bytes_eq q (field_text f)) (index_of (map field_text fs) q) f fs)

abbrev pub numbered_at : Option ℕ → Option Field → Option FieldAt
numbered_at None f = None
numbered_at (Some k) f = numbered k f

numbered_got : (o : Option ℕ) (fs : List Field) → numbered_at o (got o fs) ≡ field_placed o fs
numbered_got None fs = refl
numbered_got (Some k) fs = refl

-- by the names, as they are kept beside the fields
pub field_kept : (fs : List Field) (ns : List (List ℕ)) (q : List ℕ) (o : Option ℕ) (f : Option Field) → ns ≡ map field_text fs → o ≡ index_of ns q → f ≡ got o fs → numbered_at o f ≡ field_from 0 (map core_field fs) q
field_kept fs ns q o f e g h =
    ap (numbered_at o) h ∙ numbered_got o fs ∙ ap (λ p. field_placed p fs) (g ∙ ap (λ m. index_of m q) e) ∙ sym (field_first fs q)

-- the names of a struct's fields stand at its number
pub names_kept : (ss : List StructDecl) (ts : List (List (List ℕ))) (k : ℕ) (n : Option (List (List ℕ))) (s : Option StructDecl) → ts ≡ map field_texts ss → n ≡ slice_get ts k → s ≡ slice_get ss k → n ≡ option_map field_texts s
names_kept ss ts k n s e f g = f ∙ ap (λ l. slice_get l k) e ∙ slice_get-map field_texts ss k ∙ sym (ap (option_map field_texts) g)
