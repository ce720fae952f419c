-- Numbers that are places of tokens, each of a token of its own.
use Rattle.std.proofs.Common.{◌≡◌, ℕ, zero, suc, ◌+◌, ◌<◌, ◌≤◌, ◌==◌, Bool, true, false, List, [], ◌∷◌, ◌++◌, Some, arith, refl, sym, ap, ◌∙◌, subst}
use Rattle.std.specs.List.{slice_get}
use Rattle.std.proofs.lemmas.Bool.{eqb-true, eq-eqb}
use Rattle.hv_tree.specs.declared.token.Token.{Token}
use Rattle.hv_tree.specs.Tokens.{Tokens}
use Rattle.hv_law_formed.specs.Formed.{AreApart}

-- 1 where the numbers are the same
abbrev pub one_if : Bool → ℕ
one_if true = 1
one_if false = 0

-- how often the number is in the list
abbrev pub times : ℕ → List ℕ → ℕ
times n [] = 0
times n (m ∷ ms) = one_if (m == n) + times n ms

-- how many tokens stand there
abbrev pub tokens_at : ℕ → Tokens → ℕ
tokens_at n [] = 0
tokens_at n (t ∷ ts) = one_if (t.place.start == n) + tokens_at n ts

pub record Comes (ts : Tokens) (ns : List ℕ) : Type 0 where
  pub at_most : (n : ℕ) → times n ns ≤ tokens_at n ts

times-append : (n : ℕ) (ns ms : List ℕ) → times n (ns ++ ms) ≡ times n ns + times n ms
times-append n [] ms = omega arith
times-append n (k ∷ ns) ms = omega (arith, times-append n ns ms)

tokens-append : (n : ℕ) (ts us : Tokens) → tokens_at n (ts ++ us) ≡ tokens_at n ts + tokens_at n us
tokens-append n [] us = omega arith
tokens-append n (t ∷ ts) us = omega (arith, tokens-append n ts us)

-- ---- how they come together

pub none : (ts : Tokens) → Comes ts []
none ts = record { at_most = λ n. omega arith }

pub skip : {ts : Tokens} {ns : List ℕ} (t : Token) → Comes ts ns → Comes (t ∷ ts) ns
skip t h = record { at_most = λ n. omega (arith, h.at_most n) }

pub take_one : {ts : Tokens} {ns : List ℕ} (t : Token) → Comes ts ns → Comes (t ∷ ts) (t.place.start ∷ ns)
take_one t h = record { at_most = λ n. omega (arith, h.at_most n) }

pub join : {ts us : Tokens} {ns ms : List ℕ} → Comes ts ns → Comes us ms → Comes (ts ++ us) (ns ++ ms)
join {ts} {us} {ns} {ms} h k = record { at_most = λ n. omega (arith, times-append n ns ms, tokens-append n ts us, h.at_most n, k.at_most n) }

pub front : {ts : Tokens} {ns : List ℕ} (us : Tokens) → Comes ts ns → Comes (ts ++ us) ns
front {ts} us h = record { at_most = λ n. omega (arith, tokens-append n ts us, h.at_most n) }

pub back : {us : Tokens} {ns : List ℕ} (ts : Tokens) → Comes us ns → Comes (ts ++ us) ns
back {us} ts h = record { at_most = λ n. omega (arith, tokens-append n ts us, h.at_most n) }

pub and_none : {ts : Tokens} (ns : List ℕ) → Comes ts ns → Comes ts (ns ++ [])
and_none ns h = record { at_most = λ n. omega (arith, times-append n ns [], h.at_most n) }

pub last_first : {ts : Tokens} (ns : List ℕ) (m : ℕ) → Comes ts (ns ++ m ∷ []) → Comes ts (m ∷ ns)
last_first ns m h = record { at_most = λ n. omega (arith, times-append n ns (m ∷ []), h.at_most n) }

pub drop_first : {ts : Tokens} {m : ℕ} {ns : List ℕ} → Comes ts (m ∷ ns) → Comes ts ns
drop_first h = record { at_most = λ n. omega (arith, h.at_most n) }

-- ---- what that says where no two tokens stand at one place

is_one : (b : Bool) → b ≡ true → one_if b ≡ 1
is_one true e = refl
is_one false e = cc

nowhere : (n : ℕ) (ts : Tokens) → ((k : ℕ) (u : Token) → slice_get ts k ≡ Some u → u.place.start ≡ n → ⊥) → tokens_at n ts ≡ 0
nowhere n [] h = refl
nowhere n (t ∷ ts) h = by (t.place.start == n) refl (nowhere n ts (λ k u e. h (suc k) u e))
  where
    by : (b : Bool) → (t.place.start == n) ≡ b → tokens_at n ts ≡ 0 → one_if b + tokens_at n ts ≡ 0
    by true e k = absurd (h 0 t refl (eqb-true t.place.start n e))
    by false e k = omega (arith, k)

tail_apart : (t : Token) (ts : Tokens) → AreApart (t ∷ ts) → AreApart ts
tail_apart t ts h = record { apart = λ m n a b e f g. let k : suc m ≡ suc n = h.apart (suc m) (suc n) a b e f g in omega (arith, k) }

at_most_one : (n : ℕ) (ts : Tokens) → AreApart ts → tokens_at n ts ≤ 1
at_most_one n [] h = omega arith
at_most_one n (t ∷ ts) h = by (t.place.start == n) refl (at_most_one n ts (tail_apart t ts h))
  where
    by : (b : Bool) → (t.place.start == n) ≡ b → tokens_at n ts ≤ 1 → one_if b + tokens_at n ts ≤ 1
    by true e k =
        let same : t.place.start ≡ n = eqb-true t.place.start n e in
        let rest : tokens_at n ts ≡ 0 = nowhere n ts (λ i u f g. let z : 0 ≡ suc i = h.apart 0 (suc i) t u refl f (same ∙ sym g) in omega (arith, z)) in
        omega (arith, rest)
    by false e k = omega (arith, k)

there_once : (ns : List ℕ) (j m : ℕ) → slice_get ns j ≡ Some m → 1 ≤ times m ns
there_once [] j m e = cc
there_once (k ∷ ns) zero m e = let same : k ≡ m = cc in omega (arith, is_one (k == m) (eq-eqb k m same))
there_once (k ∷ ns) (suc j) m e = omega (arith, there_once ns j m e)

twice : (k : ℕ) (ns : List ℕ) (j m : ℕ) → k ≡ m → slice_get ns j ≡ Some m → times m (k ∷ ns) ≤ 1 → ⊥
twice k ns j m same e h = omega (arith, is_one (k == m) (eq-eqb k m same), there_once ns j m e, h)

one_place : (ns : List ℕ) → ((n : ℕ) → times n ns ≤ 1) → (i j m : ℕ) → slice_get ns i ≡ Some m → slice_get ns j ≡ Some m → i ≡ j
one_place [] h i j m e f = cc
one_place (k ∷ ns) h zero zero m e f = refl
one_place (k ∷ ns) h zero (suc j) m e f = let same : k ≡ m = cc in absurd (twice k ns j m same f (h m))
one_place (k ∷ ns) h (suc i) zero m e f = let same : k ≡ m = cc in absurd (twice k ns i m same e (h m))
one_place (k ∷ ns) h (suc i) (suc j) m e f = ap suc (one_place ns (λ n. omega (arith, h n)) i j m e f)

pub each_once : (ts : Tokens) (ns : List ℕ) → AreApart ts → Comes ts ns → (i j m : ℕ) → slice_get ns i ≡ Some m → slice_get ns j ≡ Some m → i ≡ j
each_once ts ns a h i j m e f = one_place ns (λ n. omega (arith, h.at_most n, at_most_one n ts a)) i j m e f

-- ---- tokens that rise, as those of a source do

abbrev pub Rises : Tokens → Type 0
Rises [] = Unit {0}
Rises (t ∷ []) = Unit {0}
Rises (t ∷ (u ∷ ts)) = (t.place.start < u.place.start) × Rises (u ∷ ts)

behind : (t : Token) (ts : Tokens) → Rises (t ∷ ts) → (k : ℕ) (u : Token) → slice_get ts k ≡ Some u → t.place.start < u.place.start
behind t [] r k u e = cc
behind t (v ∷ ts) r zero u e = let same : v ≡ u = cc in subst (λ (w : Token). t.place.start < w.place.start) same r.0
behind t (v ∷ ts) r (suc k) u e = omega (arith, r.0, behind v ts r.1 k u e)

rest_rises : (t : Token) (ts : Tokens) → Rises (t ∷ ts) → Rises ts
rest_rises t [] r = tt
rest_rises t (u ∷ ts) r = r.1

pub rising_apart : (ts : Tokens) → Rises ts → AreApart ts
rising_apart ts r = record { apart = at ts r }
  where
    at : (ts : Tokens) → Rises ts → (m n : ℕ) (a b : Token) → slice_get ts m ≡ Some a → slice_get ts n ≡ Some b → a.place.start ≡ b.place.start → m ≡ n
    at [] r m n a b e f g = cc
    at (t ∷ ts) r zero zero a b e f g = refl
    at (t ∷ ts) r zero (suc n) a b e f g =
        let same : t ≡ a = cc in
        let one : t.place.start ≡ b.place.start = ap (λ (w : Token). w.place.start) same ∙ g in
        absurd (omega (arith, behind t ts r n b f, one))
    at (t ∷ ts) r (suc m) zero a b e f g =
        let same : t ≡ b = cc in
        let one : t.place.start ≡ a.place.start = ap (λ (w : Token). w.place.start) same ∙ sym g in
        absurd (omega (arith, behind t ts r m a e, one))
    at (t ∷ ts) r (suc m) (suc n) a b e f g = ap suc (at ts (rest_rises t ts r) m n a b e f g)
