-- How many bodies end at a byte, and how many tokens begin there.
use Rattle.std.proofs.Common.{◌≡◌, ◌≢◌, ◌⊎◌, inl, inr, ◌<◌, ◌≤◌, ℕ, zero, suc, ◌+◌, Bool, true, false, ◌==◌, if◌then◌else◌, List, [], ◌∷◌, ◌++◌, length, Option, Some, None, refl, sym, ap, subst, ◌∙◌, arith}
use Rattle.std.specs.List.{slice_get, AllPairs, All}
use Rattle.std.proofs.lemmas.Bool.{eqb-true, eq-eqb}
use Rattle.hv_tree.specs.declared.place.Place.{Place}
use Rattle.hv_tree.specs.declared.token.Token.{Token}
use Rattle.hv_tree.specs.Tokens.{Tokens}
use Rattle.hv_decls.specs.Locals.{CoreBody}
use Rattle.hv_decls.specs.Sites.{Site, body_by, lambdas_at}
use Rattle.hv_tree.specs.Core.{end_of}
use Rattle.hv_law_places.specs.TokenPlaces.{Before, Rise}
use Rattle.hv_law_places.specs.Ends.{end_start}
use Rattle.hv_lemmas.proofs.Each.{Each}

-- 1 at the byte n
abbrev pub hits : ℕ → Place → ℕ
hits n p = if p.start == n then 1 else 0

-- the tokens that begin at n
abbrev pub seen : ℕ → Tokens → ℕ
seen n [] = 0
seen n (k ∷ ts) = hits n k.place + seen n ts

-- the bodies that end at n
abbrev pub tally : ℕ → List CoreBody → ℕ
tally n [] = 0
tally n (b ∷ bs) = hits n (end_of b.block) + tally n bs

-- the lambdas at these sites that end at n
abbrev pub among : ℕ → List Site → ℕ
among n [] = 0
among n (w ∷ ws) = tally n (body_by w.scope w.part) + among n ws

pub seen_join : (n : ℕ) (a b : Tokens) → seen n (a ++ b) ≡ seen n a + seen n b
seen_join n [] b = omega arith
seen_join n (k ∷ a) b = omega (arith, seen_join n a b)

pub tally_join : (n : ℕ) (a b : List CoreBody) → tally n (a ++ b) ≡ tally n a + tally n b
tally_join n [] b = omega arith
tally_join n (x ∷ a) b = omega (arith, tally_join n a b)

pub among_join : (n : ℕ) (a b : List Site) → among n (a ++ b) ≡ among n a + among n b
among_join n [] b = omega arith
among_join n (w ∷ a) b = omega (arith, among_join n a b)

pub lambdas_counted : (n : ℕ) (ws : List Site) → tally n (lambdas_at ws) ≡ among n ws
lambdas_counted n [] = refl
lambdas_counted n (w ∷ ws) = omega (arith, tally_join n (body_by w.scope w.part) (lambdas_at ws), lambdas_counted n ws)

-- ---- tokens that rise

each_all : {A : Type 0} (P : A → Type 0) (xs : List A) → All P xs → Each P xs
each_all P [] h = tt
each_all P (x ∷ xs) h = (h 0 x (omega arith), each_all P xs (λ k d l. h (suc k) d (omega (arith, l))))

abbrev pub Rises : Tokens → Type 0
Rises [] = Unit {0}
Rises (k ∷ ts) = Each (Before k) ts × Rises ts

pub rises : (ts : Tokens) → Rise ts → Rises ts
rises [] h = tt
rises (k ∷ ts) h =
    (each_all (Before k) ts (λ j d l. h 0 (suc j) d (omega arith) (omega (arith, l))), rises ts (λ i j d l m. h (suc i) (suc j) d (omega (arith, l)) (omega (arith, m))))

by_hit : (p : Place) (n : ℕ) → ((p.start ≡ n) × (hits n p ≡ 1)) ⊎ ((p.start ≢ n) × (hits n p ≡ 0))
by_hit p n = by (p.start == n) refl
  where
    by : (b : Bool) → (p.start == n) ≡ b → ((p.start ≡ n) × (hits n p ≡ 1)) ⊎ ((p.start ≢ n) × (hits n p ≡ 0))
    by true e = inl (eqb-true p.start n e, ap (λ (b : Bool). if b then 1 else 0) e)
    by false e = inr ((λ i. differ (p.start == n) e (eq-eqb p.start n i)), ap (λ (b : Bool). if b then 1 else 0) e)
      where
        differ : (b : Bool) → b ≡ false → b ≡ true → ⊥
        differ b f t = cc

unseen : (n : ℕ) (k : Token) (ts : Tokens) → Each (Before k) ts → n ≤ k.place.start → seen n ts ≡ 0
unseen n k [] h l = refl
unseen n k (m ∷ ts) h l = by (by_hit m.place n) (unseen n k ts h.1 l)
  where
    by : ((m.place.start ≡ n) × (hits n m.place ≡ 1)) ⊎ ((m.place.start ≢ n) × (hits n m.place ≡ 0)) → seen n ts ≡ 0 → hits n m.place + seen n ts ≡ 0
    by (inl e) rest = absurd (omega (arith, e.0, h.0, l))
    by (inr e) rest = omega (arith, e.1, rest)

pub seen_once : (n : ℕ) (ts : Tokens) → Rises ts → seen n ts ≤ 1
seen_once n [] h = omega arith
seen_once n (k ∷ ts) h = by (by_hit k.place n) (seen_once n ts h.1)
  where
    by : ((k.place.start ≡ n) × (hits n k.place ≡ 1)) ⊎ ((k.place.start ≢ n) × (hits n k.place ≡ 0)) → seen n ts ≤ 1 → hits n k.place + seen n ts ≤ 1
    by (inl e) rest = omega (arith, e.1, unseen n k ts h.0 (omega (arith, e.0)))
    by (inr e) rest = omega (arith, e.1, rest)

-- ---- bodies of which one at most ends at each byte

ends_here : (n : ℕ) (b a : CoreBody) → Some b ≡ Some a → end_start a ≡ n → hits n (end_of b.block) ≡ 1
ends_here n b a e i = by (by_hit (end_of b.block) n)
  where
    by : ((end_start b ≡ n) × (hits n (end_of b.block) ≡ 1)) ⊎ ((end_start b ≢ n) × (hits n (end_of b.block) ≡ 0)) → hits n (end_of b.block) ≡ 1
    by (inl h) = h.1
    by (inr h) = absurd (h.0 (ap end_start (some_same b a e) ∙ i))
      where
        some_same : (b a : CoreBody) → Some b ≡ Some a → b ≡ a
        some_same b a e = cc

counted : (n : ℕ) (bs : List CoreBody) (m : ℕ) (a : CoreBody) → slice_get bs m ≡ Some a → end_start a ≡ n → 1 ≤ tally n bs
counted n [] m a e i = cc
counted n (b ∷ bs) zero a e i = omega (arith, ends_here n b a e i)
counted n (b ∷ bs) (suc m) a e i = omega (arith, counted n bs m a e i)

pub apart : (n : ℕ) (bs : List CoreBody) → tally n bs ≤ 1 → (m k : ℕ) (a b : CoreBody) → slice_get bs m ≡ Some a → slice_get bs k ≡ Some b → end_start a ≡ n → end_start b ≡ n → m ≡ k
apart n [] h m k a b e f i j = cc
apart n (x ∷ bs) h zero zero a b e f i j = refl
apart n (x ∷ bs) h zero (suc k) a b e f i j = absurd (omega (arith, h, ends_here n x a e i, counted n bs k b f j))
apart n (x ∷ bs) h (suc m) zero a b e f i j = absurd (omega (arith, h, ends_here n x b f j, counted n bs m a e i))
apart n (x ∷ bs) h (suc m) (suc k) a b e f i j = ap suc (apart n bs (omega (arith, h)) m k a b e f i j)

-- ---- sites that tokens spell

pub record Fits (n : ℕ) (ws : List Site) (ts : Tokens) : Type 0 where
  pub fits : among n ws ≤ seen n ts

pub none : {n : ℕ} {ts : Tokens} → Fits n [] ts
none = record { fits = omega arith }

-- a site of no lambda
pub plain : {n : ℕ} (w : Site) {ws : List Site} {ts : Tokens} → tally n (body_by w.scope w.part) ≡ 0 → Fits n ws ts → Fits n (w ∷ ws) ts
plain w e h = record { fits = omega (arith, e, h.fits) }

pub join : {n : ℕ} {v w : List Site} (a b : Tokens) → Fits n v a → Fits n w b → Fits n (v ++ w) (a ++ b)
join {n = n} {v = v} {w = w} a b h k = record { fits = omega (arith, among_join n v w, seen_join n a b, h.fits, k.fits) }

pub skip : {n : ℕ} {ws : List Site} (k : Token) {ts : Tokens} → Fits n ws ts → Fits n ws (k ∷ ts)
skip k h = record { fits = omega (arith, h.fits) }

pub front : {n : ℕ} {ws : List Site} (a b : Tokens) → Fits n ws a → Fits n ws (a ++ b)
front {n = n} a b h = record { fits = omega (arith, seen_join n a b, h.fits) }

pub back : {n : ℕ} {ws : List Site} (a b : Tokens) → Fits n ws b → Fits n ws (a ++ b)
back {n = n} a b h = record { fits = omega (arith, seen_join n a b, h.fits) }

pub alone : {n : ℕ} {ws : List Site} {ts : Tokens} → Fits n ws ts → Fits n (ws ++ []) ts
alone {n = n} {ws = ws} h = record { fits = omega (arith, among_join n ws [], h.fits) }

pub trim : {n : ℕ} {ws : List Site} (a : Tokens) → Fits n ws (a ++ []) → Fits n ws a
trim {n = n} a h = record { fits = omega (arith, seen_join n a [], h.fits) }
