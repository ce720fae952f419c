use Rattle.std.proofs.Common.{◌≡◌, ◌≤◌, drop}
use Rattle.hv_token.specs.Pieces.{value_of, value_after}
use Rattle.hv_token.specs.Lexes.{greatest}
use Rattle.hv_token.proofs.kind.number_value.Given as goal

abbrev pub invariant-loop-digit : goal.invariant-loop-digit
invariant-loop-digit l = (l.value ≤ greatest) × (value_of l.digits ≡ value_after l.value (drop l.digit-index l.digits))
