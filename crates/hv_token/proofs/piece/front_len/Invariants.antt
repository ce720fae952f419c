use Rattle.std.proofs.Common.{length}
use denote.Text.{Utf8}
use denote.Shadow.{shadow}
use Rattle.hv_token.specs.Cutting.{has}
use Rattle.hv_token.proofs.Scanning.{Scanning}
use Rattle.hv_token.proofs.piece.front_len.Given as goal

abbrev pub invariant-loop-c : goal.invariant-loop-c
invariant-loop-c l = shadow (Utf8 l.rest) × Scanning (has l.class) l.text l.rest

abbrev pub decreases-loop-c : goal.decreases-loop-c
decreases-loop-c l = length l.rest
