-- What digits write is what std and clap read.
use Rattle.std.proofs.Common.{◌≡◌, ◌∙◌, ◌&&◌, ◌<◌, ◌≤◌, ◌≢◌, ◌^◌, ◌+◌, ◌-◌, ℕ, Bool, zero, suc, true, false, cond, [], ◌∷◌, length, slice_index, sym, subst, ap, ap₂, refl, arith}
use Rattle.std.specs.Prelude.{Option, Some, None, Result, Ok, Err, nat_le, nat_lt}
use Rattle.std.specs.List.{list_all}
use Rattle.std.specs.Char.{digit_value}
use Rattle.std.specs.Str.Parse.{AllDigits, ParsesUnsigned, digits_value, without_leading_plus}
use Rattle.std.proofs.lemmas.Bool.{leb-true, le-leb, lt-ltb}
use Rattle.std.proofs.lemmas.Str.Parse.{IsDigitsTest, IsNumeralModel, WeighsDigits, numerals_by_weight, parse_digits, parse_gives, digit_from_value, without_leading_plus_none}
use Rattle.std.proofs.lemmas.Result.{OkIff-at_ok}
use Rattle.clap.specs.ValueTests.{is_numeral, is_unsigned_in}
use Rattle.clap.proofs.WalkLemmas.{both}
use Rattle.hv_words.specs.Taken.{Counts, Word, is_digit, is_number, number_of}
use Rattle.hv_words.specs.Telling.{count_of, number_in}
use Rattle.hv_words.specs.declared.subcommand.Positional.{Positional}
use Rattle.hv_words.specs.declared.subcommand.Positional.TheVariants.{File, Number}

abbrev pub AreDigits : Word → Type 0
AreDigits word = list_all is_digit word ≡ true

tells : IsDigitsTest AreDigits
tells = record {
  empty = refl;
  parts = λ c cs e.
      let k = both (is_digit c) (list_all is_digit cs) e in
      let m = both (nat_le 48 c) (nat_le c 57) k.0 in
      ((leb-true 48 c m.0, leb-true c 57 m.1), k.1);
  more = λ c cs k e i. (le-leb 48 c k.0 i && le-leb c 57 k.1 i) && e i;
}

weighs : WeighsDigits number_of
weighs = record { empty = refl; more = λ c cs k. refl }

own : IsNumeralModel AreDigits number_of
own = numerals_by_weight AreDigits tells number_of weighs

-- a number word has a digit, and digits alone
pub number_parts : (word : Word) → is_number word ≡ true → (0 < length word) × AreDigits word
number_parts word e =
    let k = both (nat_le 1 (length word)) (nat_le (length word) 20 && list_all is_digit word) e in
    let some : 1 ≤ length word = leb-true 1 (length word) k.0 in
    (omega arith, (both (nat_le (length word) 20) (list_all is_digit word) k.1).1)

pub number_read : {E : Type 0} (word : Word) (r : Result ℕ E) → is_number word ≡ true → ParsesUnsigned 64 10 word r → number_of word < 2 ^ 64 → r ≡ Ok (number_of word)
number_read word r e h fits =
    let k = number_parts word e in
    parse_gives own 64 word r h k.1 k.0 fits

numeral_tested : (ds : Word) → AllDigits 10 ds → list_all (λ d. nat_lt (digit_value d) 10) ds ≡ true
numeral_tested [] h = refl
numeral_tested (d ∷ ds) h = ap₂ (λ a b. a && b) (lt-ltb (digit_value d) 10 h.0) (numeral_tested ds h.1)

not_plus : (ds : Word) → 0 < length ds → AllDigits 10 ds → slice_index ds 0 ≢ 43
not_plus [] some h e = omega arith
not_plus (d ∷ ds) some h e = omega (arith, digit_from_value d h.0)

pub tested : (low high : ℕ) (word : Word) → is_number word ≡ true
    → is_unsigned_in low high word ≡ (nat_lt (number_of word) (2 ^ 64) && (nat_le low (number_of word) && nat_le (number_of word) high))
tested low high word e =
    let k = number_parts word e in
    let digits = own.to word k.1 in
    let plain : without_leading_plus word ≡ word = without_leading_plus_none word (not_plus word k.0 digits) in
    let value : digits_value 10 word ≡ number_of word = sym (own.same word digits) in
    let numeral : is_numeral word ≡ true = ap₂ (λ a b. a && b) (lt-ltb 0 (length word) k.0) (numeral_tested word digits) in
    ap (λ w. is_numeral w && (nat_lt (digits_value 10 w) (2 ^ 64) && (nat_le low (digits_value 10 w) && nat_le (digits_value 10 w) high))) plain
    ∙ ap (λ n. is_numeral word && (nat_lt n (2 ^ 64) && (nat_le low n && nat_le n high))) value
    ∙ ap (λ b. b && (nat_lt (number_of word) (2 ^ 64) && (nat_le low (number_of word) && nat_le (number_of word) high))) numeral

pub in_range : (low high : ℕ) (word : Word) → is_number word ≡ true → is_unsigned_in low high word ≡ true → (low ≤ number_of word) × (number_of word ≤ high)
in_range low high word e h =
    let n = number_of word in
    let k = both (nat_lt n (2 ^ 64)) (nat_le low n && nat_le n high) (sym (tested low high word e) ∙ h) in
    let m = both (nat_le low n) (nat_le n high) k.1 in
    (leb-true low n m.0, leb-true n high m.1)

pub from_range : (low high : ℕ) (word : Word) → is_number word ≡ true → high < 2 ^ 64 → low ≤ number_of word → number_of word ≤ high → is_unsigned_in low high word ≡ true
from_range low high word e room least most =
    let n = number_of word in
    let fits : n < 2 ^ 64 = omega arith in
    tested low high word e ∙ ap₂ (λ a b. a && b) (lt-ltb n (2 ^ 64) fits) (ap₂ (λ a b. a && b) (le-leb low n least) (le-leb n high most))

-- the first byte of a number word is one of ten
pub by_digit : (P : ℕ → Type 0) → P 48 → P 49 → P 50 → P 51 → P 52 → P 53 → P 54 → P 55 → P 56 → P 57
    → (d : ℕ) → 48 ≤ d → d ≤ 57 → P d
by_digit P a b c d e f g h i j n least most =
    let is : 48 + (n - 48) ≡ n = omega arith in
    subst P is (pick (n - 48) (omega arith))
  where
    pick : (k : ℕ) → k < 10 → P (48 + k)
    pick zero lt = a
    pick (suc zero) lt = b
    pick (suc (suc zero)) lt = c
    pick (suc (suc (suc zero))) lt = d
    pick (suc (suc (suc (suc zero)))) lt = e
    pick (suc (suc (suc (suc (suc zero))))) lt = f
    pick (suc (suc (suc (suc (suc (suc zero)))))) lt = g
    pick (suc (suc (suc (suc (suc (suc (suc zero))))))) lt = h
    pick (suc (suc (suc (suc (suc (suc (suc (suc zero)))))))) lt = i
    pick (suc (suc (suc (suc (suc (suc (suc (suc (suc zero))))))))) lt = j
    pick (suc (suc (suc (suc (suc (suc (suc (suc (suc (suc k)))))))))) lt = absurd (omega arith)

pub first_digit : (d : ℕ) (ds : Word) → is_number (d ∷ ds) ≡ true → (48 ≤ d) × (d ≤ 57)
first_digit d ds e =
    let k = number_parts (d ∷ ds) e in
    let m = both (is_digit d) (list_all is_digit ds) k.1 in
    let n = both (nat_le 48 d) (nat_le d 57) m.0 in
    (leb-true 48 d n.0, leb-true d 57 n.1)

-- ---- the number of a positional

abbrev passes : ℕ → ℕ → Word → Bool
passes least most word = is_number word && (nat_le least (number_of word) && nat_le (number_of word) most)

number_passes : (least most : ℕ) (word : Word) → is_number word ≡ true → least ≤ number_of word → number_of word ≤ most → passes least most word ≡ true
number_passes least most word number low high =
    ap₂ (λ a b. a && b) number (ap₂ (λ a b. a && b) (le-leb least (number_of word) low) (le-leb (number_of word) most high))

pub counted : (p : Positional) (word : Word) (n : ℕ) → Counts p word n → count_of p word ≡ Some n
counted File word n h = ap (λ k. Some k) (sym h)
counted (Number least most) word n h =
    let low = subst (λ k. least ≤ k) h.1 h.2 in
    let high = subst (λ k. k ≤ most) h.1 h.3 in
    rw (number_passes least most word h.0 low high) (ap (λ k. Some k) (sym h.1))

pub counts : (p : Positional) (word : Word) (n : ℕ) → count_of p word ≡ Some n → Counts p word n
counts File word n e =
    let is : 0 ≡ n = cc in
    sym is
counts (Number least most) word n e = go (passes least most word) refl e
  where
    go : (b : Bool) → passes least most word ≡ b → cond b (Some (number_of word)) None ≡ Some n → Counts (Number least most) word n
    go true h k =
        let is : number_of word ≡ n = cc in
        let parts = both (is_number word) (nat_le least (number_of word) && nat_le (number_of word) most) h in
        let range = both (nat_le least (number_of word)) (nat_le (number_of word) most) parts.1 in
        (parts.0, sym is, subst (λ m. least ≤ m) is (leb-true least (number_of word) range.0), subst (λ m. m ≤ most) is (leb-true (number_of word) most range.1))
    go false h k = absurd cc

-- the number that is read of a number word
pub parsed : {E : Type 0} (word : Word) (n : ℕ) (r : Result ℕ E) → is_number word ≡ true → ParsesUnsigned 64 10 word r → r ≡ Ok n → n ≡ number_of word
parsed word n r number h is = (OkIff-at_ok r _ (number_of word) n (parse_digits own 64 word r h (number_parts word number).1) is).1

pub some_in : (least most : ℕ) (word : Word) (n : ℕ) → is_number word ≡ true → n ≡ number_of word → least ≤ n → n ≤ most → Some n ≡ number_in least most word
some_in least most word n number is low high = sym (counted (Number least most) word n (number, is, low, high))

pub none_in : (least most : ℕ) (word : Word) → (least ≤ number_of word → number_of word ≤ most → ⊥) → None ≡ number_in least most word
none_in least most word none = go (passes least most word) refl
  where
    go : (b : Bool) → passes least most word ≡ b → None ≡ cond b (Some (number_of word)) None
    go false h = refl
    go true h =
        let parts = both (is_number word) (nat_le least (number_of word) && nat_le (number_of word) most) h in
        let range = both (nat_le least (number_of word)) (nat_le (number_of word) most) parts.1 in
        absurd (none (leb-true least (number_of word) range.0) (leb-true (number_of word) most range.1))

-- a number word that isn't read has more than 64 bits
pub none_read : {E : Type 0} (least most : ℕ) (word : Word) (e : E) → is_number word ≡ true → most < 2 ^ 64 → ParsesUnsigned 64 10 word (Err e) → None ≡ number_in least most word
none_read least most word e number room h = none_in least most word
    (λ low high. parse_digits own 64 word (Err e) h (number_parts word number).1 ((number_parts word number).0, omega (arith, room, high)))
