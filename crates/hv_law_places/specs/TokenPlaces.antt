-- The places of tokens.
use Rattle.std.specs.Prelude.{◌≡◌, ◌<◌, Contains}
use Rattle.std.specs.List.{AllPairs}
use Rattle.hv_tree.specs.declared.place.Place.{Place}
use Rattle.hv_tree.specs.declared.token.Token.{Token}
use Rattle.hv_tree.specs.Tokens.{Tokens}

-- one of the tokens stands there
abbrev pub IsAmong : Place → Tokens → Type 0
IsAmong place tokens = (token : Token) × Contains tokens token × (token.place ≡ place)

-- the first begins before the second
abbrev pub Before : Token → Token → Type 0
Before a b = a.place.start < b.place.start

-- each begins before all that follow it, as those of a lexer do
abbrev pub Rise : Tokens → Type 0
Rise tokens = AllPairs Before tokens
