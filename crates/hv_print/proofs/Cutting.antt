-- Pieces that stay apart are cut as they are.
use Rattle.std.proofs.Common.{◌≡◌, ◌⊎◌, inl, inr, ℕ, Bool, true, false, List, [], ◌∷◌, ◌++◌, Some, None, refl, sym, ap, ◌∙◌, subst}
use Rattle.std.specs.Prelude.{if◌then◌else◌, ◌||◌, ◌&&◌, ◌==◌, not, nat_lt}
use Rattle.std.specs.Char.{is_ascii_alphabetic, is_ascii_alphanumeric}
use Rattle.std.specs.List.{list_all}
use Rattle.std.proofs.lemmas.Bool.{and_parts, ltb-true}
use Rattle.unicode_ident.proofs.IdentLemmas.{is_xid_start-ascii, is_xid_continue-ascii}
use Rattle.hv_token.specs.Characters.{among, is_any_of, marks, spaces, digits, is_space, is_digit, starts_word, continues_word}
use Rattle.hv_token.specs.Pieces.{is_word}
use Rattle.hv_token.specs.Cutting.{is_single, is_double, front, back, Cut, marked, cut}
use Rattle.hv_token.proofs.Shapes.{among_all, any_all, not_true, clash}
use Rattle.hv_print.proofs.Fits.{sealed}

-- ---- classes of characters

abbrev no_start : ℕ → Bool
no_start c = nat_lt c 128 && not (is_ascii_alphabetic c || (c == 95))

pub from_no_start : (c : ℕ) → no_start c ≡ true → starts_word c ≡ false
from_no_start c e =
    let h = and_parts (nat_lt c 128) (not (is_ascii_alphabetic c || (c == 95))) e in
    ap (λ b. b || (c == 95)) (is_xid_start-ascii c (ltb-true c 128 h.0)) ∙ not_true (is_ascii_alphabetic c || (c == 95)) h.1

abbrev no_continue : ℕ → Bool
no_continue c = nat_lt c 128 && not (is_ascii_alphanumeric c || (c == 95))

pub from_no_continue : (c : ℕ) → no_continue c ≡ true → continues_word c ≡ false
from_no_continue c e =
    let h = and_parts (nat_lt c 128) (not (is_ascii_alphanumeric c || (c == 95))) e in
    is_xid_continue-ascii c (ltb-true c 128 h.0) ∙ not_true (is_ascii_alphanumeric c || (c == 95)) h.1

-- where each of a list fails a test, what passes it isn't among them
apart_from : (xs : List ℕ) (p : ℕ → Bool) → ((c : ℕ) → among xs c ≡ true → p c ≡ false) → (c : ℕ) → p c ≡ true → among xs c ≡ false
apart_from xs p h c e = at (among xs c) refl
  where
    at : (b : Bool) → among xs c ≡ b → b ≡ false
    at true m = clash (p c) e (h c m)
    at false m = refl

start_space : (c : ℕ) → starts_word c ≡ true → is_space c ≡ false
start_space = apart_from spaces starts_word (λ c m. from_no_start c (among_all no_start spaces c refl m))

pub digit_starts : (c : ℕ) → is_digit c ≡ true → starts_word c ≡ false
digit_starts c e = from_no_start c (among_all no_start digits c refl e)

digit_space : (c : ℕ) → is_digit c ≡ true → is_space c ≡ false
digit_space c e = not_true (is_space c) (among_all (λ c. not (is_space c)) digits c refl e)

pub start_digit : (c : ℕ) → starts_word c ≡ true → is_digit c ≡ false
start_digit = apart_from digits starts_word (λ c m. digit_starts c m)

-- the characters with which a mark or a comment goes on
abbrev seconds : List ℕ
seconds = 61 ∷ 38 ∷ 124 ∷ 62 ∷ 47 ∷ []

pub start_seconds : (c : ℕ) → starts_word c ≡ true → among seconds c ≡ false
start_seconds = apart_from seconds starts_word (λ c m. from_no_start c (among_all no_start seconds c refl m))

pub digit_seconds : (c : ℕ) → is_digit c ≡ true → among seconds c ≡ false
digit_seconds c e = not_true (among seconds c) (among_all (λ c. not (among seconds c)) digits c refl e)

-- ---- runs of characters

-- the next character fails the test
abbrev pub Ends : (ℕ → Bool) → List ℕ → Type 0
Ends p [] = Unit {0}
Ends p (c ∷ cs) = p c ≡ false

front_all : (p : ℕ → Bool) (run after : List ℕ) → list_all p run ≡ true → Ends p after → (front p (run ++ after) ≡ run) × (back p (run ++ after) ≡ after)
front_all p [] [] h e = (refl, refl)
front_all p [] (c ∷ cs) h e = (ap (λ b. if b then c ∷ front p cs else []) e, ap (λ b. if b then back p cs else c ∷ cs) e)
front_all p (c ∷ run) after h e =
    let q = and_parts (p c) (list_all p run) h in
    let ih = front_all p run after q.1 e in
    (ap (λ b. if b then c ∷ front p (run ++ after) else []) q.0 ∙ ap (λ l. c ∷ l) ih.0, ap (λ b. if b then back p (run ++ after) else c ∷ (run ++ after)) q.0 ∙ ih.1)

-- ---- cuts

-- a piece is cut off, and what stands behind it
abbrev pub is_cut : Cut → Bool
is_cut None = false
is_cut (Some t) = true

abbrev pub text_of : Cut → List ℕ
text_of None = []
text_of (Some t) = t.1

abbrev pub rest_of : Cut → List ℕ
rest_of None = []
rest_of (Some t) = t.2

abbrev pub CutsOff : Cut → List ℕ → List ℕ → Type 0
CutsOff t text after = (is_cut t ≡ true) × (text_of t ≡ text) × (rest_of t ≡ after)

yes : (b : Bool) (x y : Cut) (text after : List ℕ) → b ≡ true → CutsOff x text after → CutsOff (if b then x else y) text after
yes b x y text after e h = subst (λ b. CutsOff (if b then x else y) text after) (sym e) h

no : (b : Bool) (x y : Cut) (text after : List ℕ) → b ≡ false → CutsOff y text after → CutsOff (if b then x else y) text after
no b x y text after e h = subst (λ b. CutsOff (if b then x else y) text after) (sym e) h

pub cut_word : (text after : List ℕ) → is_word text ≡ true → Ends continues_word after → CutsOff (cut (text ++ after)) text after
cut_word [] after w e = absurd (cc)
cut_word (c ∷ cs) after w e =
    let h = and_parts (starts_word c) (list_all continues_word cs) w in
    let q = front_all continues_word cs after h.1 e in
    no (is_space c) _ _ _ _ (start_space c h.0) (yes (starts_word c) _ _ _ _ h.0 (refl, ap (λ l. c ∷ l) q.0, q.1))

pub cut_number : (c : ℕ) (cs after : List ℕ) → is_digit c ≡ true → list_all is_digit cs ≡ true → Ends is_digit after → CutsOff (cut (c ∷ (cs ++ after))) (c ∷ cs) after
cut_number c cs after d all e =
    let q = front_all is_digit cs after all e in
    no (is_space c) _ _ _ _ (digit_space c d) (no (starts_word c) _ _ _ _ (digit_starts c d) (yes (is_digit c) _ _ _ _ d (refl, ap (λ l. c ∷ l) q.0, q.1)))

-- ---- marks

-- the next character is none of them
abbrev pub Starts : List ℕ → Type 0
Starts [] = Unit {0}
Starts (c ∷ cs) = among seconds c ≡ false

-- neither white space nor of a word or a number
abbrev begins_mark : ℕ → Bool
begins_mark c = not (is_space c) && (no_start c && (no_continue c && not (is_digit c)))

pub record BeginsMark (c : ℕ) : Type 0 where
  pub space : is_space c ≡ false
  pub start : starts_word c ≡ false
  pub more : continues_word c ≡ false
  pub digit : is_digit c ≡ false

pub mark_begun : (c : ℕ) → begins_mark c ≡ true → BeginsMark c
mark_begun c e =
    let h = and_parts (not (is_space c)) (no_start c && (no_continue c && not (is_digit c))) e in
    let k = and_parts (no_start c) (no_continue c && not (is_digit c)) h.1 in
    let l = and_parts (no_continue c) (not (is_digit c)) k.1 in
    record { space = not_true (is_space c) h.0; start = from_no_start c k.0; more = from_no_continue c l.0; digit = not_true (is_digit c) l.1 }

abbrev pub mark_test : List ℕ → Bool
mark_test [] = false
mark_test (c ∷ []) = is_single c && begins_mark c
mark_test (c ∷ d ∷ []) = is_double c d && begins_mark c
mark_test (c ∷ d ∷ e ∷ cs) = false

-- no second character goes on with it
abbrev alone : ℕ → Bool
alone c = not (among (61 ∷ 33 ∷ 60 ∷ 62 ∷ []) c) && (not (c == 38) && (not (c == 124) && (not (c == 45) && not (c == 47))))

abbrev pub sealed_test : List ℕ → Bool
sealed_test [] = true
sealed_test (c ∷ []) = alone c
sealed_test (c ∷ d ∷ cs) = true

-- the mark doesn't go on with that character
abbrev Stays : ℕ → ℕ → Type 0
Stays c d = (is_double c d ≡ false) × (((c == 47) && (d == 47)) ≡ false)

no_other : (c : ℕ) (a b f g : Bool) → among (61 ∷ 33 ∷ 60 ∷ 62 ∷ []) c ≡ false → (c == 38) ≡ false → (c == 124) ≡ false → (c == 45) ≡ false →
    (if a then among (61 ∷ 33 ∷ 60 ∷ 62 ∷ []) c else (if b then c == 38 else (if f then c == 124 else (if g then c == 45 else false)))) ≡ false
no_other c true b f g p q r s = p
no_other c false true f g p q r s = q
no_other c false false true g p q r s = r
no_other c false false false true p q r s = s
no_other c false false false false p q r s = refl

by_mark : (c d : ℕ) → alone c ≡ true → Stays c d
by_mark c d e =
    let h = and_parts (not (among (61 ∷ 33 ∷ 60 ∷ 62 ∷ []) c)) (not (c == 38) && (not (c == 124) && (not (c == 45) && not (c == 47)))) e in
    let k = and_parts (not (c == 38)) (not (c == 124) && (not (c == 45) && not (c == 47))) h.1 in
    let l = and_parts (not (c == 124)) (not (c == 45) && not (c == 47)) k.1 in
    let m = and_parts (not (c == 45)) (not (c == 47)) l.1 in (
      no_other c (d == 61) (d == 38) (d == 124) (d == 62) (not_true (among (61 ∷ 33 ∷ 60 ∷ 62 ∷ []) c) h.0) (not_true (c == 38) k.0) (not_true (c == 124) l.0) (not_true (c == 45) m.0),
      ap (λ b. b && (d == 47)) (not_true (c == 47) m.1),
    )

no_second : (c : ℕ) (a b f g h : Bool) → (a || (b || (f || (g || (h || false))))) ≡ false →
    ((if a then among (61 ∷ 33 ∷ 60 ∷ 62 ∷ []) c else (if b then c == 38 else (if f then c == 124 else (if g then c == 45 else false)))) ≡ false) × (((c == 47) && h) ≡ false)
no_second c true b f g h e = absurd (cc)
no_second c false true f g h e = absurd (cc)
no_second c false false true g h e = absurd (cc)
no_second c false false false true h e = absurd (cc)
no_second c false false false false true e = absurd (cc)
no_second c false false false false false e = (refl, and_no (c == 47))
  where
    and_no : (a : Bool) → (a && false) ≡ false
    and_no true = refl
    and_no false = refl

by_next : (c d : ℕ) → among seconds d ≡ false → Stays c d
by_next c d e = no_second c (d == 61) (d == 38) (d == 124) (d == 62) (d == 47) e

one_off : (c : ℕ) (after : List ℕ) → is_single c ≡ true → ((d : ℕ) (cs : List ℕ) → after ≡ d ∷ cs → Stays c d) → CutsOff (marked c after) (c ∷ []) after
one_off c [] s h = yes (is_single c) _ _ _ _ s (refl, refl, refl)
one_off c (d ∷ cs) s h =
    let q = h d cs refl in
    no (is_double c d) _ _ _ _ q.0 (no ((c == 47) && (d == 47)) _ _ _ _ q.1 (yes (is_single c) _ _ _ _ s (refl, refl, refl)))

two_off : (c d : ℕ) (after : List ℕ) → is_double c d ≡ true → CutsOff (marked c (d ∷ after)) (c ∷ d ∷ []) after
two_off c d after e = yes (is_double c d) _ _ _ _ e (refl, refl, refl)

mark_off : (c : ℕ) (cs text after : List ℕ) → BeginsMark c → CutsOff (marked c cs) text after → CutsOff (cut (c ∷ cs)) text after
mark_off c cs text after b h = no (is_space c) _ _ _ _ b.space (no (starts_word c) _ _ _ _ b.start (no (is_digit c) _ _ _ _ b.digit h))

next_stays : (c : ℕ) (after : List ℕ) → Starts after → (d : ℕ) (cs : List ℕ) → after ≡ d ∷ cs → Stays c d
next_stays c [] h d cs e = absurd (cc)
next_stays c (b ∷ bs) h d cs e = let same : b ≡ d = cc in subst (Stays c) same (by_next c b h)

-- what passes the test of marks, where it is sealed or what comes next is no second character
pub cut_mark : (text after : List ℕ) → mark_test text ≡ true → (sealed_test text ≡ true) ⊎ Starts after → CutsOff (cut (text ++ after)) text after
cut_mark [] after e s = absurd (cc)
cut_mark (c ∷ []) after e (inl s) =
    let h = and_parts (is_single c) (begins_mark c) e in
    mark_off c after (c ∷ []) after (mark_begun c h.1) (one_off c after h.0 (λ d cs is. by_mark c d s))
cut_mark (c ∷ []) after e (inr s) =
    let h = and_parts (is_single c) (begins_mark c) e in
    mark_off c after (c ∷ []) after (mark_begun c h.1) (one_off c after h.0 (next_stays c after s))
cut_mark (c ∷ d ∷ []) after e s =
    let h = and_parts (is_double c d) (begins_mark c) e in
    mark_off c (d ∷ after) (c ∷ d ∷ []) after (mark_begun c h.1) (two_off c d after h.0)
cut_mark (c ∷ d ∷ f ∷ cs) after e s = absurd (cc)

pub tested_mark : (text : List ℕ) → is_any_of marks text ≡ true → mark_test text ≡ true
tested_mark text e = any_all mark_test marks text refl e

pub tested_sealed : (text : List ℕ) → is_any_of sealed text ≡ true → sealed_test text ≡ true
tested_sealed text e = any_all sealed_test sealed text refl e
