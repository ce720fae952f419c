use Rattle.std.proofs.Common.{◌≡◌, ◌+◌, length}
use denote.Text.{Utf8}
use denote.Shadow.{shadow}
use Rattle.std.specs.Str.{chars}
use Rattle.hv_token.proofs.Lexing.{Lexing}
use Rattle.hv_token.proofs.lexed.lex_text.Given as goal

abbrev pub invariant-loop-sort : goal.invariant-loop-sort
invariant-loop-sort l = shadow (Utf8 l.rest) × Lexing (chars l.text) l.tokens l.at (chars l.rest) × (l.at + length l.rest ≡ length l.text)

abbrev pub decreases-loop-sort : goal.decreases-loop-sort
decreases-loop-sort l = length l.rest
