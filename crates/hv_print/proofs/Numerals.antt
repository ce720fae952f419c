-- The digits of a printed number are those that the lexer reads.
use Rattle.std.proofs.Common.{◌≡◌, ℕ, zero, suc, ◌+◌, ◌-◌, ◌*◌, ◌<◌, true, List, refl, ◌∙◌, ap, arith}
use Rattle.std.specs.Prelude.{◌&&◌, nat_le}
use Rattle.std.specs.Fmt.{decimal}
use Rattle.std.specs.Int.{IsInRange}
use Rattle.std.specs.List.{list_all}
use Rattle.std.proofs.lemmas.Bool.{and_parts, and_from, leb-true}
use Rattle.std.proofs.lemmas.Fmt.{digits_decimal, digits_value-decimal}
use Rattle.std.proofs.lemmas.Str.Parse.{IsDigitsTest, IsNumeralModel, FoldsDigits, numerals_by_fold}
use Rattle.hv_token.specs.Characters.{digits, is_digit}
use Rattle.hv_token.specs.Pieces.{value_after, value_of}
use Rattle.hv_token.proofs.Shapes.{among_all}

ranged : (c : ℕ) → is_digit c ≡ true → IsInRange 48 57 c
ranged c e =
    let h = and_parts (nat_le 48 c) (nat_le c 57) (among_all (λ c. nat_le 48 c && nat_le c 57) digits c refl e) in
    (leb-true 48 c h.0, leb-true c 57 h.1)

among_digits : (k : ℕ) → k < 10 → is_digit (48 + k) ≡ true
among_digits zero h = refl
among_digits (suc zero) h = refl
among_digits (suc (suc zero)) h = refl
among_digits (suc (suc (suc zero))) h = refl
among_digits (suc (suc (suc (suc zero)))) h = refl
among_digits (suc (suc (suc (suc (suc zero))))) h = refl
among_digits (suc (suc (suc (suc (suc (suc zero)))))) h = refl
among_digits (suc (suc (suc (suc (suc (suc (suc zero))))))) h = refl
among_digits (suc (suc (suc (suc (suc (suc (suc (suc zero)))))))) h = refl
among_digits (suc (suc (suc (suc (suc (suc (suc (suc (suc zero))))))))) h = refl
among_digits (suc (suc (suc (suc (suc (suc (suc (suc (suc (suc k)))))))))) h = absurd (omega arith)

in_range : (c : ℕ) → IsInRange 48 57 c → is_digit c ≡ true
in_range c h =
    let e : c ≡ 48 + (c - 48) = omega (arith, h.0) in
    ap is_digit e ∙ among_digits (c - 48) (omega (arith, h.0, h.1))

abbrev AreDigits : List ℕ → Type 0
AreDigits ds = list_all is_digit ds ≡ true

are_told : IsDigitsTest AreDigits
are_told = record {
  empty = refl;
  parts = λ c cs d. let h = and_parts (is_digit c) (list_all is_digit cs) d in (ranged c h.0, h.1);
  more = λ c cs k d. and_from (is_digit c) (list_all is_digit cs) (in_range c k) d;
}

folds : FoldsDigits value_after
folds = record { empty = λ n. refl; more = λ n c cs k. let e : 10 * n + (c - 48) ≡ n * 10 + (c - 48) = omega arith in ap (λ m. value_after m cs) e }

own : IsNumeralModel AreDigits value_of
own = numerals_by_fold AreDigits are_told value_after folds

pub all_digits : (n : ℕ) → n < 18446744073709551616 → list_all is_digit (decimal n) ≡ true
all_digits n h = digits_decimal own n h

pub value_back : (n : ℕ) → n < 18446744073709551616 → value_of (decimal n) ≡ n
value_back n h = digits_value-decimal own n h
