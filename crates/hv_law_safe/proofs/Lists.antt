-- Numbers and names in lists.
use Rattle.std.proofs.Common.{◌≡◌, inl, inr, ℕ, zero, suc, ◌+◌, ◌==◌, Bool, true, false, if◌then◌else◌, List, [], ◌∷◌, ◌++◌, map, length, Some, None, arith, refl, sym, ap, ◌∙◌}
use Rattle.std.specs.List.{slice_get}
use Rattle.std.specs.Str.{bytes_eq}
use Rattle.std.proofs.lemmas.Slice.Eq.{bytes_eq-Decides}
use Rattle.std.proofs.lemmas.Bool.{eqb-true, eq-eqb}
use Rattle.hv_tree.specs.declared.place.Place.{Place}
use Rattle.hv_tree.specs.declared.types.Name.{Name}
use Rattle.hv_tree.specs.Core.{CoreDecl, StructOf, FunOf, CoreFun, CoreStruct, CoreField, end_of}
use Rattle.hv_decls.specs.Types.{meant, fun_in, struct_in, type_of_field, FieldAt, field_from}
use Rattle.hv_decls.specs.Locals.{Local, CoreBody, number_from, number_in, local_in}
use Rattle.hv_type_rules.specs.Names.{Repeats, Named, local_name, decl_name}
use Rattle.hv_sem_copying.specs.Places.{same_place}
use Rattle.hv_sem_copying.specs.Places as bodies
use Rattle.hv_lemmas.proofs.Members.{Among, listed}

-- ---- numbers

pub get_left : {A : Type 0} (xs ys : List A) (i : ℕ) (a : A) → slice_get xs i ≡ Some a → slice_get (xs ++ ys) i ≡ Some a
get_left [] ys i a e = cc
get_left (x ∷ xs) ys zero a e = e
get_left (x ∷ xs) ys (suc i) a e = get_left xs ys i a e

pub get_right : {A : Type 0} (xs ys : List A) (i : ℕ) → slice_get (xs ++ ys) (length xs + i) ≡ slice_get ys i
get_right [] ys i = let n : 0 + i ≡ i = omega arith in ap (slice_get ys) n
get_right (x ∷ xs) ys i = let n : suc (length xs) + i ≡ suc (length xs + i) = omega arith in ap (slice_get (x ∷ (xs ++ ys))) n ∙ get_right xs ys i

pub among_at : {A : Type 0} (xs : List A) (i : ℕ) (a : A) → slice_get xs i ≡ Some a → Among xs a
among_at [] i a e = cc
among_at (x ∷ xs) zero a e = inl cc
among_at (x ∷ xs) (suc i) a e = inr (among_at xs i a e)

pub at_among : {A : Type 0} (xs : List A) (a : A) → Among xs a → (i : ℕ) × (slice_get xs i ≡ Some a)
at_among [] a h = absurd h
at_among (x ∷ xs) a (inl e) = (zero, ap Some e)
at_among (x ∷ xs) a (inr h) = let r = at_among xs a h in (suc r.0, r.1)

-- a list around one of its elements
pub record Around {A : Type 0} (xs : List A) (a : A) : Type 0 where
  pub front : List A
  pub back : List A
  pub is : xs ≡ front ++ a ∷ back

pub around : {A : Type 0} (xs : List A) (a : A) → Among xs a → Around xs a
around [] a h = absurd h
around (x ∷ xs) a (inl e) = record { front = []; back = xs; is = ap (λ y. y ∷ xs) e }
around (x ∷ xs) a (inr h) = let r = around xs a h in record { front = x ∷ r.front; back = r.back; is = ap (λ ys. x ∷ ys) r.is }

pub map_among : {A B : Type 0} (f : A → B) (xs : List A) (a : A) → Among xs a → Among (map f xs) (f a)
map_among f [] a h = absurd h
map_among f (x ∷ xs) a (inl e) = inl (ap f e)
map_among f (x ∷ xs) a (inr h) = inr (map_among f xs a h)

pub mapped : {A B : Type 0} (f : A → B) (xs : List A) (b : B) → Among (map f xs) b → (a : A) × Among xs a × (f a ≡ b)
mapped f [] b h = absurd h
mapped f (x ∷ xs) b (inl e) = (x, inl refl, e)
mapped f (x ∷ xs) b (inr h) = let r = mapped f xs b h in (r.0, inr r.1, r.2)

-- ---- texts

pub text_is : (s t : List ℕ) → bytes_eq s t ≡ true → s ≡ t
text_is s t = (bytes_eq-Decides s t).0

pub is_text : (s t : List ℕ) → s ≡ t → bytes_eq s t ≡ true
is_text s t = (bytes_eq-Decides s t).1

pub other_text : (s t : List ℕ) → (s ≡ t → ⊥) → bytes_eq s t ≡ false
other_text s t n = by (bytes_eq s t) (bytes_eq-Decides s t).0
  where
    by : (b : Bool) → (b ≡ true → s ≡ t) → b ≡ false
    by true f = absurd (n (f refl))
    by false f = refl

if_yes : {A : Type 0} (b : Bool) (x y : A) → b ≡ true → (if b then x else y) ≡ x
if_yes true x y e = refl
if_yes false x y e = cc

if_no : {A : Type 0} (b : Bool) (x y : A) → b ≡ false → (if b then x else y) ≡ y
if_no true x y e = cc
if_no false x y e = refl

-- ---- locals

-- no two have one name
abbrev pub Distinct : List Local → Type 0
Distinct [] = Unit {0}
Distinct (l ∷ ls) = ((m : Local) → Among ls m → l.name.text ≡ m.name.text → ⊥) × Distinct ls

later_place : (n : Name) (ns : List Name) (place : Place) → Repeats ns place → Repeats (n ∷ ns) place
later_place n ns place r = record { before = n ∷ r.before; again = r.again; after = r.after; is = ap (λ xs. n ∷ xs) r.is; known = (r.known.0, (suc r.known.1.0, omega (arith, r.known.1.1), r.known.1.2), r.known.2); at = r.at }

first_again : (n : Name) (ns : List Name) (m : Name) → Among ns m → n.text ≡ m.text → Repeats (n ∷ ns) m.place
first_again n ns m h e = let r = around ns m h in record { before = n ∷ r.front; again = m; after = r.back; is = ap (λ xs. n ∷ xs) r.is; known = (n, (0, omega arith, refl), e); at = refl }

pub distinct : (ls : List Local) → ((place : Place) → Repeats (map local_name ls) place → ⊥) → Distinct ls
distinct [] n = tt
distinct (l ∷ ls) n = (
  (λ m h e. n m.name.place (first_again l.name (map local_name ls) m.name (map_among local_name ls m h) e)),
  distinct ls (λ place r. n place (later_place l.name (map local_name ls) place r)),
)

number_at : (n : ℕ) (ls : List Local) (x : ℕ) (l : Local) → Distinct ls → slice_get ls x ≡ Some l → number_from n ls l.name.text ≡ Some (n + x)
number_at n [] x l d e = cc
number_at n (k ∷ ls) zero l d e =
    let same : k ≡ l = cc in
    let here : n ≡ n + 0 = omega arith in
    if_yes (bytes_eq k.name.text l.name.text) (Some n) (number_from (suc n) ls l.name.text) (is_text k.name.text l.name.text (ap (λ (m : Local). m.name.text) same)) ∙ ap Some here
number_at n (k ∷ ls) (suc x) l d e =
    let there : suc n + x ≡ n + suc x = omega arith in
    if_no (bytes_eq k.name.text l.name.text) (Some n) (number_from (suc n) ls l.name.text) (other_text k.name.text l.name.text (d.0 l (among_at ls x l e)))
    ∙ (number_at (suc n) ls x l d.1 e ∙ ap Some there)

pub numbered : (ls : List Local) (x : ℕ) (l : Local) → Distinct ls → slice_get ls x ≡ Some l → number_in ls l.name.text ≡ Some x
numbered ls x l d e = let n : 0 + x ≡ x = omega arith in number_at 0 ls x l d e ∙ ap Some n

pub named : (ls : List Local) (x : ℕ) (l : Local) → Distinct ls → slice_get ls x ≡ Some l → local_in ls l.name.text ≡ Some l
named [] x l d e = cc
named (k ∷ ls) zero l d e =
    let same : k ≡ l = cc in
    if_yes (bytes_eq k.name.text l.name.text) (Some k) (local_in ls l.name.text) (is_text k.name.text l.name.text (ap (λ (m : Local). m.name.text) same)) ∙ ap Some same
named (k ∷ ls) (suc x) l d e =
    if_no (bytes_eq k.name.text l.name.text) (Some k) (local_in ls l.name.text) (other_text k.name.text l.name.text (d.0 l (among_at ls x l e)))
    ∙ named ls x l d.1 e

pub local_found : (ls : List Local) (text : List ℕ) (l : Local) → local_in ls text ≡ Some l → Among ls l × (l.name.text ≡ text)
local_found [] text l e = cc
local_found (k ∷ ls) text l e = by (bytes_eq k.name.text text) refl e (local_found ls text l)
  where
    by : (b : Bool) → bytes_eq k.name.text text ≡ b → (if b then Some k else local_in ls text) ≡ Some l → (local_in ls text ≡ Some l → Among ls l × (l.name.text ≡ text)) → Among (k ∷ ls) l × (l.name.text ≡ text)
    by true t f go = let same : k ≡ l = cc in (inl same, sym (ap (λ (m : Local). m.name.text) same) ∙ text_is k.name.text text t)
    by false t f go = let r = go f in (inr r.0, r.1)

pub local_lacks : (ls : List Local) (text : List ℕ) (l : Local) → local_in ls text ≡ None → Among ls l → l.name.text ≡ text → ⊥
local_lacks [] text l n h e = h
local_lacks (k ∷ ls) text l n h e = by (bytes_eq k.name.text text) refl n h (λ m i. local_lacks ls text l m i e)
  where
    by : (b : Bool) → bytes_eq k.name.text text ≡ b → (if b then Some k else local_in ls text) ≡ None → Among (k ∷ ls) l → (local_in ls text ≡ None → Among ls l → ⊥) → ⊥
    by true t f h go = cc
    by false t f (inl q) go = let u : true ≡ false = sym (is_text k.name.text text (ap (λ (m : Local). m.name.text) q ∙ e)) ∙ t in cc
    by false t f (inr h) go = go f h

pub no_number : (n : ℕ) (ls : List Local) (text : List ℕ) → ((l : Local) → Among ls l → l.name.text ≡ text → ⊥) → number_from n ls text ≡ None
no_number n [] text k = refl
no_number n (l ∷ ls) text k =
    if_no (bytes_eq l.name.text text) (Some n) (number_from (suc n) ls text) (other_text l.name.text text (k l (inl refl)))
    ∙ no_number (suc n) ls text (λ m h e. k m (inr h) e)

-- ---- declarations

pub fun_found : (decls : List CoreDecl) (text : List ℕ) (f : CoreFun) → fun_in decls text ≡ Some f → Among decls (FunOf f) × (f.name.text ≡ text)
fun_found [] text f e = cc
fun_found (StructOf s ∷ rest) text f e = let r = fun_found rest text f e in (inr r.0, r.1)
fun_found (FunOf g ∷ rest) text f e = by (bytes_eq g.name.text text) refl e (fun_found rest text f)
  where
    by : (b : Bool) → bytes_eq g.name.text text ≡ b → (if b then Some g else fun_in rest text) ≡ Some f → (fun_in rest text ≡ Some f → Among rest (FunOf f) × (f.name.text ≡ text)) → Among (FunOf g ∷ rest) (FunOf f) × (f.name.text ≡ text)
    by true t k go = let same : g ≡ f = cc in (inl (ap FunOf same), sym (ap (λ (h : CoreFun). h.name.text) same) ∙ text_is g.name.text text t)
    by false t k go = let r = go k in (inr r.0, r.1)

pub struct_found : (decls : List CoreDecl) (text : List ℕ) (s : CoreStruct) → struct_in decls text ≡ Some s → Among decls (StructOf s) × (s.name.text ≡ text)
struct_found [] text s e = cc
struct_found (FunOf f ∷ rest) text s e = let r = struct_found rest text s e in (inr r.0, r.1)
struct_found (StructOf c ∷ rest) text s e = by (bytes_eq c.name.text text) refl e (struct_found rest text s)
  where
    by : (b : Bool) → bytes_eq c.name.text text ≡ b → (if b then Some c else struct_in rest text) ≡ Some s → (struct_in rest text ≡ Some s → Among rest (StructOf s) × (s.name.text ≡ text)) → Among (StructOf c ∷ rest) (StructOf s) × (s.name.text ≡ text)
    by true t k go = let same : c ≡ s = cc in (inl (ap StructOf same), sym (ap (λ (h : CoreStruct). h.name.text) same) ∙ text_is c.name.text text t)
    by false t k go = let r = go k in (inr r.0, r.1)

-- a name that some declaration has is found
pub decl_found : (decls : List CoreDecl) (text : List ℕ) (d : CoreDecl) → Among decls d → (decl_name d).text ≡ text → (fun_in decls text ≡ None) → (struct_in decls text ≡ None) → ⊥
decl_found [] text d h e n m = absurd h
decl_found (FunOf g ∷ rest) text d h e n m = by (bytes_eq g.name.text text) refl n h (λ k i. decl_found rest text d i e k m)
  where
    by : (b : Bool) → bytes_eq g.name.text text ≡ b → (if b then Some g else fun_in rest text) ≡ None → Among (FunOf g ∷ rest) d → (fun_in rest text ≡ None → Among rest d → ⊥) → ⊥
    by true t k h go = cc
    by false t k (inl f) go = let u : true ≡ false = sym (is_text g.name.text text (ap (λ d. (decl_name d).text) f ∙ e)) ∙ t in cc
    by false t k (inr h) go = go k h
decl_found (StructOf c ∷ rest) text d h e n m = by (bytes_eq c.name.text text) refl m h (λ k i. decl_found rest text d i e n k)
  where
    by : (b : Bool) → bytes_eq c.name.text text ≡ b → (if b then Some c else struct_in rest text) ≡ None → Among (StructOf c ∷ rest) d → (struct_in rest text ≡ None → Among rest d → ⊥) → ⊥
    by true t k h go = cc
    by false t k (inl f) go = let u : true ≡ false = sym (is_text c.name.text text (ap (λ d. (decl_name d).text) f ∙ e)) ∙ t in cc
    by false t k (inr h) go = go k h

pub field_found : (n : ℕ) (fields : List CoreField) (text : List ℕ) (f : FieldAt) → field_from n fields text ≡ Some f → (i : ℕ) × (f.number ≡ n + i) × (slice_get (map type_of_field fields) i ≡ Some f.ty)
field_found n [] text f e = cc
field_found n (c ∷ fields) text f e = by (bytes_eq c.name.text text) e (field_found (suc n) fields text f)
  where
    by : (b : Bool) → (if b then Some (record { number = n; ty = meant c.ty }) else field_from (suc n) fields text) ≡ Some f → (field_from (suc n) fields text ≡ Some f → (i : ℕ) × (f.number ≡ suc n + i) × (slice_get (map type_of_field fields) i ≡ Some f.ty)) → (i : ℕ) × (f.number ≡ n + i) × (slice_get (map type_of_field (c ∷ fields)) i ≡ Some f.ty)
    by true k go =
        let same : record { number = n; ty = meant c.ty } ≡ f = cc in
        let here : n ≡ n + 0 = omega arith in
        (0, sym (ap (λ (g : FieldAt). g.number) same) ∙ here, ap (λ (g : FieldAt). Some g.ty) same)
    by false k go =
        let r = go k in
        let there : suc n + r.0 ≡ n + suc r.0 = omega arith in
        (suc r.0, r.1 ∙ there, r.2)

-- ---- bodies by the places of their ends

pub number_finds : (k : ℕ) (bs : List CoreBody) (n : ℕ) (b : CoreBody) → slice_get bs n ≡ Some b → (m : ℕ) × (c : CoreBody) × (bodies.number_from k bs (end_of b.block) ≡ Some (k + m)) × (slice_get bs m ≡ Some c) × ((end_of c.block).start ≡ (end_of b.block).start)
number_finds k [] n b e = cc
number_finds k (c ∷ bs) n b e = by ((end_of c.block).start == (end_of b.block).start) refl n e (λ n e. number_finds (suc k) bs n b e)
  where
    by : (t : Bool) → ((end_of c.block).start == (end_of b.block).start) ≡ t → (n : ℕ) → slice_get (c ∷ bs) n ≡ Some b → ((n : ℕ) → slice_get bs n ≡ Some b → (m : ℕ) × (d : CoreBody) × (bodies.number_from (suc k) bs (end_of b.block) ≡ Some (suc k + m)) × (slice_get bs m ≡ Some d) × ((end_of d.block).start ≡ (end_of b.block).start)) → (m : ℕ) × (d : CoreBody) × ((if t then Some k else bodies.number_from (suc k) bs (end_of b.block)) ≡ Some (k + m)) × (slice_get (c ∷ bs) m ≡ Some d) × ((end_of d.block).start ≡ (end_of b.block).start)
    by true q n e go = let here : k ≡ k + 0 = omega arith in (0, c, ap Some here, refl, eqb-true (end_of c.block).start (end_of b.block).start q)
    by false q zero e go =
        let same : c ≡ b = cc in
        let u : true ≡ false = sym (eq-eqb (end_of c.block).start (end_of b.block).start (ap (λ (d : CoreBody). (end_of d.block).start) same)) ∙ q in
        cc
    by false q (suc n) e go =
        let r = go n e in
        let there : suc k + r.0 ≡ k + suc r.0 = omega arith in
        (suc r.0, r.1, r.2 ∙ ap Some there, r.3, r.4)

-- ---- declarations with one name

pub fun_lacks : (decls : List CoreDecl) (text : List ℕ) (f : CoreFun) → fun_in decls text ≡ None → Among decls (FunOf f) → f.name.text ≡ text → ⊥
fun_lacks [] text f n h e = h
fun_lacks (StructOf s ∷ rest) text f n (inl g) e = cc
fun_lacks (StructOf s ∷ rest) text f n (inr h) e = fun_lacks rest text f n h e
fun_lacks (FunOf g ∷ rest) text f n h e = by (bytes_eq g.name.text text) refl n h (λ k i. fun_lacks rest text f k i e)
  where
    by : (b : Bool) → bytes_eq g.name.text text ≡ b → (if b then Some g else fun_in rest text) ≡ None → Among (FunOf g ∷ rest) (FunOf f) → (fun_in rest text ≡ None → Among rest (FunOf f) → ⊥) → ⊥
    by true t k h go = cc
    by false t k (inl q) go =
        let same : g ≡ f = cc in
        let u : true ≡ false = sym (is_text g.name.text text (ap (λ (k : CoreFun). k.name.text) same ∙ e)) ∙ t in
        cc
    by false t k (inr h) go = go k h

pub same_decl : (decls : List CoreDecl) (a b : CoreDecl) → ((place : Place) → Repeats (map decl_name decls) place → ⊥) → Among decls a → Among decls b → (decl_name a).text ≡ (decl_name b).text → a ≡ b
same_decl [] a b n h k e = absurd h
same_decl (d ∷ decls) a b n (inl f) (inl g) e = sym f ∙ g
same_decl (d ∷ decls) a b n (inl f) (inr k) e = absurd (n (decl_name b).place (first_again (decl_name d) (map decl_name decls) (decl_name b) (map_among decl_name decls b k) (ap (λ c. (decl_name c).text) f ∙ e)))
same_decl (d ∷ decls) a b n (inr h) (inl g) e = absurd (n (decl_name a).place (first_again (decl_name d) (map decl_name decls) (decl_name a) (map_among decl_name decls a h) (ap (λ c. (decl_name c).text) g ∙ sym e)))
same_decl (d ∷ decls) a b n (inr h) (inr k) e = same_decl decls a b (λ place r. n place (later_place (decl_name d) (map decl_name decls) place r)) h k e

pub no_decl : (decls : List CoreDecl) (text : List ℕ) → Named (map decl_name decls) text → fun_in decls text ≡ None → struct_in decls text ≡ None → ⊥
no_decl decls text (n, c, e) f s = let r = mapped decl_name decls n (listed (map decl_name decls) n c) in decl_found decls text r.0 r.1 (ap (λ (m : Name). m.text) r.2 ∙ e) f s
