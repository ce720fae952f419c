-- Visible locals with what each hides, the newest first.
use Rattle.std.proofs.Common.{◌≡◌, ℕ, zero, suc, ◌<◌, Bool, true, false, if◌then◌else◌, List, [], ◌∷◌, ◌++◌, length, map, reverse, Option, Some, None, refl, sym, ap, ◌∙◌, arith, cond}
use Rattle.std.proofs.lemmas.List.{length-map, length-reverse, reverse-append, reverse-reverse}
use Rattle.std.specs.Str.{bytes_eq}
use Rattle.std.specs.List.{slice_get}
use Rattle.std.specs.Cmp.Lexicographic.{bytes_decides, nat_list_eq_equiv}
use Rattle.hv_decls.specs.Locals.{Local, local_in}
use Rattle.hv_scope.specs.declared.known.Entry.{Entry}
use Rattle.hv_scope.specs.declared.known.Known.{Known}
use Rattle.hv_scope.specs.Known.{local_by, text_of}
use Rattle.hv_scope.specs.Entries.{known_of, seen, place_of, Restores}
use Rattle.hv_lemmas.proofs.Reversed.{stacked}
use Rattle.hv_scope.proofs.Places.{got}

abbrev pub option_entry : Option Entry → Option Local
option_entry None = None
option_entry (Some e) = Some (local_by e.known)

-- ---- one more

pushed_by : (b : Bool) (n m : ℕ) (o : Option ℕ) → n ≡ m → cond b (Some n) o ≡ (if b then Some m else o)
pushed_by true n m o e = ap Some e
pushed_by false n m o e = refl

pub pushed : (es : List Entry) (e : Entry) (q : List ℕ) (n : ℕ) (was now : Option ℕ) → n ≡ length es → was ≡ place_of es q → now ≡ cond (bytes_eq (text_of e.known) q) (Some n) was → now ≡ place_of (e ∷ es) q
pushed es e q n was now size h f =
    f ∙ ap (cond (bytes_eq (text_of e.known) q) (Some n)) h
    ∙ pushed_by (bytes_eq (text_of e.known) q) n (length es) (place_of es q) size
    ∙ ap (λ b. if b then Some (length es) else place_of es q) (nat_list_eq_equiv.symm (text_of e.known) q)

-- ---- one less

popped_by : (b : Bool) (es : List Entry) (t q : List ℕ) (hides : Option ℕ) → bytes_eq q t ≡ b → hides ≡ place_of es t → cond b hides (if b then Some (length es) else place_of es q) ≡ place_of es q
popped_by true es t q hides e h = h ∙ ap (place_of es) (sym ((bytes_decides q t).0 e))
popped_by false es t q hides e h = refl

pub popped : (es : List Entry) (e : Entry) (q : List ℕ) (was now : Option ℕ) → e.hides ≡ place_of es (text_of e.known) → was ≡ place_of (e ∷ es) q → now ≡ cond (bytes_eq (text_of e.known) q) e.hides was → now ≡ place_of es q
popped es e q was now h g f =
    f ∙ ap (cond (bytes_eq (text_of e.known) q) e.hides) g
    ∙ ap (λ b. cond b e.hides (if bytes_eq q (text_of e.known) then Some (length es) else place_of es q)) (nat_list_eq_equiv.symm (text_of e.known) q)
    ∙ popped_by (bytes_eq q (text_of e.known)) es (text_of e.known) q e.hides refl h

same_text : (t : List ℕ) → bytes_eq t t ≡ true
same_text t = (bytes_decides t t).1 refl

-- the newest one is found
pub is_there : (es : List Entry) (e : Entry) → place_of (e ∷ es) (text_of e.known) ≡ None → ⊥
is_there es e h = let f : Some (length es) ≡ None = sym (ap (λ b. if b then Some (length es) else place_of es (text_of e.known)) (same_text (text_of e.known))) ∙ h in cc

-- ---- what is found

-- the place is one of the list
abbrev Below : Option ℕ → ℕ → Type 0
Below None n = Unit {0}
Below (Some k) n = k < n

below_by : (b : Bool) (n : ℕ) (o : Option ℕ) → Below o n → Below (if b then Some n else o) (suc n)
below_by true n o h = omega arith
below_by false n None h = tt
below_by false n (Some k) h = omega (arith, h)

below : (es : List Entry) (q : List ℕ) → Below (place_of es q) (length es)
below [] q = tt
below (e ∷ es) q = below_by (bytes_eq q (text_of e.known)) (length es) (place_of es q) (below es q)

abbrev pub entry_at : Option ℕ → List Entry → Option Local
entry_at None items = None
entry_at (Some k) items = option_entry (slice_get items k)

pub entry_got : (o : Option ℕ) (items : List Entry) → entry_at o items ≡ option_entry (got o items)
entry_got None items = refl
entry_got (Some k) items = refl

get_front : {A : Type 0} (xs : List A) (y : A) (k : ℕ) → k < length xs → slice_get (xs ++ y ∷ []) k ≡ slice_get xs k
get_front [] y k h = absurd (omega (arith, h))
get_front (x ∷ xs) y zero h = refl
get_front (x ∷ xs) y (suc k) h = get_front xs y k (omega (arith, h))

get_end : {A : Type 0} (xs : List A) (y : A) → slice_get (xs ++ y ∷ []) (length xs) ≡ Some y
get_end [] y = refl
get_end (x ∷ xs) y = get_end xs y

kept_at : (o : Option ℕ) (items : List Entry) (e : Entry) → Below o (length items) → entry_at o (items ++ e ∷ []) ≡ entry_at o items
kept_at None items e h = refl
kept_at (Some k) items e h = ap option_entry (get_front items e k h)

found_by : (b : Bool) (items : List Entry) (e : Entry) (n : ℕ) (o : Option ℕ) → n ≡ length items → Below o n → entry_at (if b then Some n else o) (items ++ e ∷ []) ≡ (if b then Some (local_by e.known) else entry_at o items)
found_by true items e n o size h = ap (λ k. option_entry (slice_get (items ++ e ∷ []) k)) size ∙ ap option_entry (get_end items e)
found_by false items e n o size h = kept_at o items e (rw (← size) h)

pub found : (es : List Entry) (q : List ℕ) → entry_at (place_of es q) (reverse es) ≡ local_in (map local_by (seen es)) q
found [] q = refl
found (e ∷ es) q =
    ap (λ l. entry_at (place_of (e ∷ es) q) l) (reverse-append (e ∷ []) es)
    ∙ found_by (bytes_eq q (text_of e.known)) (reverse es) e (length es) (place_of es q) (sym (length-reverse es)) (below es q)
    ∙ ap (λ o. if bytes_eq q (text_of e.known) then Some (local_by e.known) else o) (found es q)
    ∙ ap (λ b. if b then Some (local_by e.known) else local_in (map local_by (seen es)) q) (nat_list_eq_equiv.symm q (text_of e.known))

-- what stands at the place, as the code reads it
pub found_kept : (l : List Known) (items : List Entry) (q : List ℕ) (o : Option ℕ) (e : Option Entry) → l ≡ seen (reverse items) → o ≡ place_of (reverse items) q → e ≡ got o items → option_entry e ≡ local_in (map local_by l) q
found_kept l items q o e v f g =
    ap option_entry g
    ∙ sym (entry_got o items)
    ∙ ap (λ p. entry_at p items) f
    ∙ sym (ap (λ m. entry_at (place_of (reverse items) q) m) (reverse-reverse items))
    ∙ found (reverse items) q
    ∙ sym (ap (λ m. local_in (map local_by m) q) v)

restored : (l m : List Entry) → l ≡ m → Restores l → Restores m
restored l m e r = rw (← e) r

-- ---- what the table of the newest places keeps

pub push_kept : (l new : List Entry) (e : Entry) (n : ℕ) (t : List ℕ) (was now : List ℕ → Option ℕ) → new ≡ l ++ e ∷ [] → n ≡ length l → t ≡ text_of e.known → e.hides ≡ was t →
    ((q : List ℕ) → was q ≡ place_of (reverse l) q) → Restores (reverse l) → ((q : List ℕ) → now q ≡ cond (bytes_eq t q) (Some n) (was q)) → ((q : List ℕ) → now q ≡ place_of (reverse new) q) × Restores (reverse new)
push_kept l new e n t was now made size name hides known r put =
    let back : reverse new ≡ e ∷ reverse l = ap reverse made ∙ stacked l e in (
      λ q. pushed (reverse l) e q n (was q) (now q) (size ∙ sym (length-reverse l)) (known q) (put q ∙ ap (λ s. cond (bytes_eq s q) (Some n) (was q)) name) ∙ sym (ap (λ m. place_of m q) back),
      restored (e ∷ reverse l) (reverse new) (sym back) (hides ∙ known t ∙ ap (place_of (reverse l)) name, r),
    )

pub pop_kept : (l new : List Entry) (e : Entry) (w : Option ℕ) (t : List ℕ) (was now : List ℕ → Option ℕ) → l ≡ new ++ e ∷ [] → t ≡ text_of e.known → e.hides ≡ w →
    ((q : List ℕ) → was q ≡ place_of (reverse l) q) → Restores (reverse l) → ((q : List ℕ) → now q ≡ cond (bytes_eq t q) w (was q)) → ((q : List ℕ) → now q ≡ place_of (reverse new) q) × Restores (reverse new)
pop_kept l new e w t was now made name hides known r put =
    let back : reverse l ≡ e ∷ reverse new = ap reverse made ∙ stacked new e in
    let kept : Restores (e ∷ reverse new) = restored (reverse l) (e ∷ reverse new) back r in
    (λ q. popped (reverse new) e q (was q) (now q) kept.0 (known q ∙ ap (λ m. place_of m q) back) (put q ∙ ap (λ s. cond (bytes_eq s q) w (was q)) name ∙ ap (λ h. cond (bytes_eq (text_of e.known) q) h (was q)) (sym hides)), kept.1)

-- what is popped was there
pub was_there : (l new : List Entry) (e : Entry) (t : List ℕ) (was : Option ℕ) → l ≡ new ++ e ∷ [] → t ≡ text_of e.known → was ≡ place_of (reverse l) t → was ≡ None → ⊥
was_there l new e t was made name known h =
    is_there (reverse new) e (sym (ap (λ m. place_of m (text_of e.known)) (ap reverse made ∙ stacked new e)) ∙ sym (ap (place_of (reverse l)) name) ∙ sym known ∙ h)

pub length_seen : (l : List Known) (items : List Entry) → l ≡ seen (reverse items) → length items ≡ length l
length_seen l items e = sym (ap length e ∙ length-map (reverse items) known_of ∙ length-reverse items)
