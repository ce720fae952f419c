-- How places in a list of texts change with its end.
use Rattle.std.proofs.Common.{◌≡◌, ◌+◌, ◌<◌, ℕ, suc, Bool, true, false, if◌then◌else◌, List, [], ◌∷◌, ◌++◌, length, Option, Some, None, is_some, refl, sym, ap, ◌∙◌, arith, cond}
use Rattle.std.specs.Str.{bytes_eq}
use Rattle.std.proofs.Math.Dec.{eqb}
use Rattle.std.proofs.lemmas.Bool.{eqb-true, eq-eqb}
use Rattle.std.specs.Option.{option_eq}
use Rattle.std.specs.Cmp.Lexicographic.{bytes_decides, nat_list_eq_equiv}
use Rattle.hv_symbols.specs.Texts.{index_from, index_of, has}

-- the place if there is one, else the other one
abbrev pub or_else : Option ℕ → Option ℕ → Option ℕ
or_else None other = other
or_else (Some n) other = Some n

chosen : (b : Bool) (n : ℕ) (a c : Option ℕ) → (if b then Some n else or_else a c) ≡ or_else (if b then Some n else a) c
chosen true n a c = refl
chosen false n a c = refl

pub from_more : (n : ℕ) (ts : List (List ℕ)) (t text : List ℕ) → index_from n (ts ++ t ∷ []) text ≡ or_else (index_from n ts text) (if bytes_eq text t then Some (n + length ts) else None)
from_more n [] t text = ap (λ k. if bytes_eq text t then Some k else None) (omega arith)
from_more n (s ∷ ts) t text =
    ap (λ o. if bytes_eq text s then Some n else o) (from_more (suc n) ts t text ∙ ap (λ k. or_else (index_from (suc n) ts text) (if bytes_eq text t then Some k else None)) (omega arith))
    ∙ chosen (bytes_eq text s) n (index_from (suc n) ts text) (if bytes_eq text t then Some (n + suc (length ts)) else None)

-- a text more at the end
pub index_more : (ts : List (List ℕ)) (t text : List ℕ) → index_of (ts ++ t ∷ []) text ≡ or_else (index_of ts text) (if bytes_eq text t then Some (length ts) else None)
unfolding index_of
index_more ts t text = from_more 0 ts t text ∙ ap (λ k. or_else (index_from 0 ts text) (if bytes_eq text t then Some k else None)) (omega arith)

-- a place is one of the list
abbrev pub Below : Option ℕ → ℕ → Type 0
Below None n = Unit {0}
Below (Some k) n = k < n

below_by : (b : Bool) (k n : ℕ) (o : Option ℕ) → k < n → Below o n → Below (if b then Some k else o) n
below_by true k n o h g = h
below_by false k n o h g = g

from_below : (n : ℕ) (ts : List (List ℕ)) (text : List ℕ) → Below (index_from n ts text) (n + length ts)
from_below n [] text = tt
from_below n (t ∷ ts) text = below_by (bytes_eq text t) n (n + suc (length ts)) (index_from (suc n) ts text) (omega arith) (let e : suc n + length ts ≡ n + suc (length ts) = omega arith in rw (← e) (from_below (suc n) ts text))

pub index_below : (ts : List (List ℕ)) (text : List ℕ) → Below (index_of ts text) (length ts)
unfolding index_of
index_below ts text = let e : 0 + length ts ≡ length ts = omega arith in rw (← e) (from_below 0 ts text)

-- ---- a text more

some_kept : (o p : Option ℕ) → is_some o ≡ true → or_else o p ≡ o
some_kept (Some n) p e = refl
some_kept None p e = cc

none_left : (o : Option ℕ) → or_else o None ≡ o
none_left (Some n) = refl
none_left None = refl

kept_by : (b : Bool) (ts : List (List ℕ)) (t q : List ℕ) → bytes_eq q t ≡ b → has ts t ≡ true → or_else (index_of ts q) (if b then Some (length ts) else None) ≡ index_of ts q
kept_by true ts t q e h = some_kept (index_of ts q) (Some (length ts)) (rw ((bytes_decides q t).0 e) h)
kept_by false ts t q e h = none_left (index_of ts q)

-- a text that is there already changes nothing
pub kept : (ts : List (List ℕ)) (t q : List ℕ) → has ts t ≡ true → index_of (ts ++ t ∷ []) q ≡ index_of ts q
kept ts t q h = index_more ts t q ∙ kept_by (bytes_eq q t) ts t q refl h

none_first : (o p : Option ℕ) → is_some o ≡ false → or_else o p ≡ p
none_first (Some n) p e = cc
none_first None p e = refl

added_by : (b : Bool) (ts : List (List ℕ)) (t q : List ℕ) → bytes_eq q t ≡ b → has ts t ≡ false → cond b (Some (length ts)) (index_of ts q) ≡ or_else (index_of ts q) (if b then Some (length ts) else None)
added_by true ts t q e h = sym (none_first (index_of ts q) (Some (length ts)) (rw ((bytes_decides q t).0 e) h))
added_by false ts t q e h = sym (none_left (index_of ts q))

-- a new text stands at the end
pub added : (ts : List (List ℕ)) (t q : List ℕ) (n : ℕ) (was now : Option ℕ) → n ≡ length ts → has ts t ≡ false → was ≡ index_of ts q → now ≡ cond (bytes_eq t q) (Some n) was → now ≡ index_of (ts ++ t ∷ []) q
added ts t q n was now size h e f =
    f ∙ ap (λ o. cond (bytes_eq t q) (Some n) o) e
    ∙ ap (λ k. cond (bytes_eq t q) (Some k) (index_of ts q)) size
    ∙ ap (λ b. cond b (Some (length ts)) (index_of ts q)) (nat_list_eq_equiv.symm t q)
    ∙ added_by (bytes_eq q t) ts t q refl h
    ∙ sym (index_more ts t q)

-- ---- a text less

at_end : (ts : List (List ℕ)) (o : Option ℕ) → Below o (length ts) → or_else o (Some (length ts)) ≡ Some (length ts) → o ≡ None
at_end ts None h e = refl
at_end ts (Some k) h e = let k_is : k ≡ length ts = cc in absurd (omega (arith, k_is, h))

same_text : (t : List ℕ) → bytes_eq t t ≡ true
same_text t = (bytes_decides t t).1 refl

end_of : (ts : List (List ℕ)) (t : List ℕ) → index_of (ts ++ t ∷ []) t ≡ or_else (index_of ts t) (Some (length ts))
end_of ts t = index_more ts t t ∙ ap (λ b. or_else (index_of ts t) (if b then Some (length ts) else None)) (same_text t)

gone_by : (b : Bool) (ts : List (List ℕ)) (t q : List ℕ) → bytes_eq q t ≡ b → index_of ts t ≡ None → cond b None (or_else (index_of ts q) (if b then Some (length ts) else None)) ≡ index_of ts q
gone_by true ts t q e h = rw ((bytes_decides q t).0 e) (sym h)
gone_by false ts t q e h = none_left (index_of ts q)

-- the text at the end was the first of its kind
pub gone : (ts : List (List ℕ)) (t q : List ℕ) (was now : Option ℕ) → index_of (ts ++ t ∷ []) t ≡ Some (length ts) → was ≡ index_of (ts ++ t ∷ []) q → now ≡ cond (bytes_eq t q) None was → now ≡ index_of ts q
gone ts t q was now h e f =
    f ∙ ap (λ o. cond (bytes_eq t q) None o) (e ∙ index_more ts t q)
    ∙ ap (λ b. cond b None (or_else (index_of ts q) (if bytes_eq q t then Some (length ts) else None))) (nat_list_eq_equiv.symm t q)
    ∙ gone_by (bytes_eq q t) ts t q refl (at_end ts (index_of ts t) (index_below ts t) (sym (end_of ts t) ∙ h))

there_by : (ts : List (List ℕ)) (o : Option ℕ) → (or_else o (Some (length ts)) ≡ Some (length ts) → ⊥) → is_some o ≡ true
there_by ts None n = absurd (n refl)
there_by ts (Some k) n = refl

-- there is one before it
pub stays : (ts : List (List ℕ)) (t q : List ℕ) → (index_of (ts ++ t ∷ []) t ≡ Some (length ts) → ⊥) → index_of (ts ++ t ∷ []) q ≡ index_of ts q
stays ts t q n = kept ts t q (there_by ts (index_of ts t) (λ e. n (end_of ts t ∙ e)))

-- ---- equality of places

pub same_place : (o : Option ℕ) (n : ℕ) → option_eq eqb o (Some n) ≡ true → o ≡ Some n
same_place None n e = cc
same_place (Some k) n e = ap Some (eqb-true k n e)

pub other_place : (o : Option ℕ) (n : ℕ) → option_eq eqb o (Some n) ≡ false → o ≡ Some n → ⊥
other_place o n e h = let f : true ≡ false = sym (eq-eqb n n refl) ∙ sym (ap (λ (x : Option ℕ). option_eq eqb x (Some n)) h) ∙ e in cc
