-- Numbers in spans.
use Rattle.std.proofs.Common.{◌≡◌, ℕ, zero, suc, ◌+◌, List, [], ◌∷◌, ◌++◌, refl, sym, ap, ◌∙◌, arith, append_assoc, append-nil}
use Rattle.hv_flow_ends.specs.declared.span.Span.{Span}
use Rattle.hv_flow_ends.specs.Ends.{numbers_from, numbers_in}

pub numbers_both : (xs ys : List Span) → numbers_in (xs ++ ys) ≡ numbers_in xs ++ numbers_in ys
numbers_both [] ys = refl
numbers_both (s ∷ xs) ys = ap (λ l. numbers_from s.first s.count ++ l) (numbers_both xs ys) ∙ sym (append_assoc (numbers_from s.first s.count) (numbers_in xs) (numbers_in ys))

one_more : (n k : ℕ) → numbers_from n (suc k) ≡ numbers_from n k ++ (n + k) ∷ []
one_more n zero = let e : n ≡ n + 0 = omega arith in ap (λ m. m ∷ []) e
one_more n (suc k) = let e : suc n + k ≡ n + suc k = omega arith in ap (λ l. n ∷ l) (one_more (suc n) k ∙ ap (λ m. numbers_from (suc n) k ++ m ∷ []) e)

-- a span with one number more
pub grown : (left now : List Span) (last more : Span) (n : ℕ) → now ≡ left ++ more ∷ [] → more.first ≡ last.first → more.count ≡ last.count + 1 → last.first + last.count ≡ n →
    numbers_in now ≡ numbers_in (left ++ last ∷ []) ++ n ∷ []
grown left now last more n e f g h =
    let k : more.count ≡ suc last.count = omega (arith, g) in
    let numbers : numbers_from more.first more.count ≡ numbers_from last.first last.count ++ n ∷ [] =
    ap (λ m. numbers_from m more.count) f ∙ ap (λ m. numbers_from last.first m) k ∙ one_more last.first last.count ∙ ap (λ m. numbers_from last.first last.count ++ m ∷ []) h in
    ap numbers_in e ∙ numbers_both left (more ∷ []) ∙ ap (λ l. numbers_in left ++ l) (append-nil (numbers_from more.first more.count) ∙ numbers ∙ sym (ap (λ l. l ++ n ∷ []) (append-nil (numbers_from last.first last.count))))
    ∙ sym (append_assoc (numbers_in left) (numbers_in (last ∷ [])) (n ∷ [])) ∙ sym (ap (λ l. l ++ n ∷ []) (numbers_both left (last ∷ [])))

-- a span of one number
pub added : (was now : List Span) (more : Span) (n : ℕ) → now ≡ was ++ more ∷ [] → more.first ≡ n → more.count ≡ 1 → numbers_in now ≡ numbers_in was ++ n ∷ []
added was now more n e f g =
    let numbers : numbers_from more.first more.count ≡ n ∷ [] = ap (λ m. numbers_from m more.count) f ∙ ap (λ m. numbers_from n m) g in
    ap numbers_in e ∙ numbers_both was (more ∷ []) ∙ ap (λ l. numbers_in was ++ l) (append-nil (numbers_from more.first more.count) ∙ numbers)
