-- Open brackets.
use Rattle.std.specs.Prelude.{◌≡◌, ℕ, zero, suc, Bool, true, false, ◌||◌, if◌then◌else◌, List, [], ◌∷◌, Option, Some, None, codes}
use Rattle.hv_tree.specs.declared.token.Token.{Token}
use Rattle.hv_tree.specs.Tokens.{Tokens}
use Rattle.hv_tree.specs.Refusal.{is_opening, is_closing}

abbrev pub one_less : ℕ → Option ℕ
one_less zero = None
one_less (suc d) = Some d

-- how many more brackets may be opened after a token, where d more might be before it
abbrev pub room_by : Token → ℕ → Option ℕ
room_by k d = if is_opening k then one_less d else (if is_closing k then Some (suc d) else Some d)

abbrev pub option_then : Option ℕ → (ℕ → Option ℕ) → Option ℕ
option_then None f = None
option_then (Some d) f = f d

-- the same after a list of tokens, or none where one of them opens a bracket too many
abbrev pub room : ℕ → Tokens → Option ℕ
room d [] = Some d
room d (k ∷ ts) = option_then (room_by k d) (λ e. room e ts)
