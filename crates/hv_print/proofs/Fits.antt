-- Pieces that stay apart: none goes on in what stands behind it.
use Rattle.std.proofs.Common.{◌≡◌, Bool, true, false, List, [], ◌∷◌, ◌++◌, ℕ, codes, sym, subst, append_assoc}
use Rattle.std.specs.Prelude.{◌||◌}
use Rattle.hv_token.specs.Characters.{is_any_of, marks, keywords}
use Rattle.hv_print.specs.Pieces.{Piece, Space, LineFeed, WordOf, NumberOf, KeywordOf, MarkOf}
use Rattle.hv_print.specs.Spellings.{IsWordText, IsNumeral}

-- the piece has a spelling that a lexer makes
abbrev pub IsGood : Piece → Type 0
IsGood Space = Unit {0}
IsGood LineFeed = Unit {0}
IsGood (WordOf name) = IsWordText name.text
IsGood (NumberOf z) = IsNumeral z
IsGood (KeywordOf spelling) = is_any_of keywords spelling ≡ true
IsGood (MarkOf spelling) = is_any_of marks spelling ≡ true

-- marks with which no longer piece begins
abbrev pub sealed : List (List ℕ)
sealed =
    codes "(" ∷ codes ")" ∷ codes "{" ∷ codes "}" ∷ codes "[" ∷ codes "]" ∷ codes "," ∷ codes ":" ∷ codes ";" ∷ codes "." ∷ codes "+" ∷ codes "*" ∷ codes "%" ∷
    codes "==" ∷ codes "!=" ∷ codes "<=" ∷ codes ">=" ∷ codes "&&" ∷ codes "||" ∷ codes "->" ∷ []

-- white space or a mark, with which no word or number goes on
abbrev pub breaks : Piece → Bool
breaks Space = true
breaks LineFeed = true
breaks (WordOf name) = false
breaks (NumberOf z) = false
breaks (KeywordOf spelling) = false
breaks (MarkOf spelling) = true

-- with which no mark goes on
abbrev pub opens : Piece → Bool
opens Space = true
opens LineFeed = true
opens (WordOf name) = true
opens (NumberOf z) = true
opens (KeywordOf spelling) = true
opens (MarkOf spelling) = is_any_of (codes "(" ∷ codes "[" ∷ []) spelling

abbrev pub may_follow : Piece → Piece → Bool
may_follow Space q = true
may_follow LineFeed q = true
may_follow (WordOf name) q = breaks q
may_follow (NumberOf z) q = breaks q
may_follow (KeywordOf spelling) q = breaks q
may_follow (MarkOf spelling) q = is_any_of sealed spelling || opens q

abbrev pub fits : Piece → List Piece → Bool
fits p [] = true
fits p (q ∷ more) = may_follow p q

-- the pieces are good, and each fits what stands behind it, where `after` stands behind all of them
abbrev pub AreApart : List Piece → List Piece → Type 0
AreApart [] after = Unit {0}
AreApart (p ∷ more) after = IsGood p × (fits p (more ++ after) ≡ true) × AreApart more after

-- no word or number goes on with what comes next
abbrev pub closes : List Piece → Bool
closes [] = true
closes (q ∷ more) = breaks q

pub both : (a b after : List Piece) → AreApart a (b ++ after) → AreApart b after → AreApart (a ++ b) after
both [] b after h k = k
both (p ∷ a) b after h k = (h.0, subst (λ l. fits p l ≡ true) (sym (append_assoc a b after)) h.1, both a b after h.2 k)
