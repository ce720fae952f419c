-- The spellings of the tokens that a lexer makes.
use Rattle.std.specs.Prelude.{◌≡◌, ◌≤◌, ℕ, ℤ, pos, true, false, List, [], ◌∷◌}
use Rattle.std.specs.Str.{IsUtf8, chars}
use Rattle.hv_tree.specs.declared.token.TokenKind.{TokenKind}
use Rattle.hv_tree.specs.declared.token.TokenKind.TheVariants as kind
use Rattle.hv_tree.specs.Tokens.{Tokens}
use Rattle.hv_token.specs.Characters.{is_keyword}
use Rattle.hv_token.specs.Pieces.{is_word, is_mark}
use Rattle.hv_token.specs.Lexes.{greatest}

-- the text is that of a word, and of no keyword
pub record IsWordText (text : List ℕ) : Type 0 where
  pub utf8 : IsUtf8 text
  pub word : is_word (chars text) ≡ true
  pub free : is_keyword text ≡ false

-- the number has digits that aren't too great
pub record IsNumeral (z : ℤ) : Type 0 where
  pub value : ℕ
  pub is : z ≡ pos value
  pub fits : value ≤ greatest

abbrev pub HasSpelling : TokenKind → Type 0
HasSpelling (kind.Word text) = IsWordText text
HasSpelling (kind.Keyword text) = is_keyword text ≡ true
HasSpelling (kind.Number z) = IsNumeral z
HasSpelling (kind.Mark text) = is_mark text ≡ true

-- each of the tokens has a spelling that a lexer makes
abbrev pub AreSpelled : Tokens → Type 0
AreSpelled [] = Unit {0}
AreSpelled (k ∷ tokens) = HasSpelling k.kind × AreSpelled tokens
