-- Places inside a source, and tokens apart.
use Rattle.std.specs.Prelude.{◌≡◌, ◌<◌, ℕ, List, length, take, Some}
use Rattle.std.specs.List.{slice_get}
use Rattle.std.specs.Str.{encode_utf8_all}
use Rattle.hv_tree.specs.declared.place.Place.{Place}
use Rattle.hv_tree.specs.declared.token.Token.{Token}
use Rattle.hv_tree.specs.Tokens.{Tokens}

-- the place is that of a byte of the source
abbrev pub LiesIn : List ℕ → Place → Type 0
LiesIn bytes place = place.start < length bytes

-- the bytes before the place are whole characters
abbrev pub IsBehindCharacters : List ℕ → Place → Type 0
IsBehindCharacters bytes place = (characters : List ℕ) × (encode_utf8_all characters ≡ take place.start bytes)

-- no two tokens begin at one place
abbrev pub BeginApart : Tokens → Type 0
BeginApart tokens = (m n : ℕ) (a b : Token) → slice_get tokens m ≡ Some a → slice_get tokens n ≡ Some b → a.place.start ≡ b.place.start → m ≡ n
