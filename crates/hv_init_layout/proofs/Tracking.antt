-- How many locals that have cells come before each.
use Rattle.std.proofs.Common.{◌≡◌, ◌⊎◌, inl, inr, ◌+◌, ◌<◌, ◌≤◌, ℕ, zero, suc, Bool, true, false, if◌then◌else◌, List, [], ◌∷◌, ◌++◌, map, length, get_or, append-nil, refl, sym, ap, ◌∙◌, arith}
use Rattle.hv_decls.specs.Locals.{Local}
use Rattle.hv_scope.specs.declared.known.Known.{Known}
use Rattle.hv_scope.specs.Known.{local_by}
use Rattle.hv_init_cells.specs.Plain.{kept, kept_before}
use Rattle.hv_init_cells.proofs.Kept.{behind_first}
use Rattle.hv_init_layout.specs.Tracked.{flag_at, counts_from}

-- one more where the first has cells
one_more : (b : Bool) (n m : ℕ) → (if b then suc n else n) + m ≡ n + (if b then suc m else m)
one_more true n m = omega arith
one_more false n m = omega arith

same : (n : ℕ) → n ≡ n + 0
same n = omega arith

counted_from : (n k d : ℕ) (flags : List Bool) → k ≤ length flags → get_or (counts_from n flags) k d ≡ n + kept_before (flag_at flags) k
counted_from n zero d [] h = same n
counted_from n (suc k) d [] h = absurd (omega (arith, h))
counted_from n zero d (b ∷ bs) h = same n
counted_from n (suc k) d (b ∷ bs) h =
    counted_from (if b then suc n else n) k d bs (omega (arith, h)) ∙ one_more b n (kept_before (flag_at bs) k) ∙ sym (ap (λ (m : ℕ). n + m) (behind_first (flag_at (b ∷ bs)) k))

-- behind all of them there are no more
none_behind : (k : ℕ) (flags : List Bool) → length flags ≤ k → kept_before (flag_at flags) k ≡ kept_before (flag_at flags) (length flags)
none_behind k [] h = none k
  where
    none : (m : ℕ) → kept_before (flag_at []) m ≡ 0
    none zero = refl
    none (suc m) = none m
none_behind zero (b ∷ bs) h = absurd (omega (arith, h))
none_behind (suc k) (b ∷ bs) h =
    behind_first (flag_at (b ∷ bs)) k ∙ ap (λ (m : ℕ). if b then suc m else m) (none_behind k bs (omega (arith, h))) ∙ sym (behind_first (flag_at (b ∷ bs)) (length bs))

pub counted : (k d : ℕ) (flags : List Bool) → k ≤ length flags → get_or (counts_from 0 flags) k d ≡ kept_before (flag_at flags) k
counted k d flags h = counted_from 0 k d flags h ∙ omega arith

pub all_counted : (k d : ℕ) (flags : List Bool) → length flags ≤ k → get_or (counts_from 0 flags) (length flags) d ≡ kept_before (flag_at flags) k
all_counted k d flags h = counted (length flags) d flags (omega arith) ∙ sym (none_behind k flags h)

-- ---- all that are kept

-- where no local is left, or no flag
pub kept_all : (found left : List Known) (flags : List Bool) (all : List Local) → map local_by found ++ kept (flag_at flags) (map local_by left) ≡ all → (length left < 1) ⊎ (length flags < 1) → map local_by found ≡ all
kept_all found left flags all e o = sym (append-nil (map local_by found)) ∙ (ap (λ (ls : List Local). map local_by found ++ ls) (sym (none left flags o)) ∙ e)
  where
    none_kept : (ls : List Local) → kept (flag_at []) ls ≡ []
    none_kept [] = refl
    none_kept (l ∷ ls) = none_kept ls

    none : (ks : List Known) (fs : List Bool) → (length ks < 1) ⊎ (length fs < 1) → kept (flag_at fs) (map local_by ks) ≡ []
    none [] fs h = refl
    none (k ∷ ks) [] h = none_kept (map local_by (k ∷ ks))
    none (k ∷ ks) (f ∷ fs) (inl h) = absurd (omega (arith, h))
    none (k ∷ ks) (f ∷ fs) (inr h) = absurd (omega (arith, h))
