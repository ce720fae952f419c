use Rattle.std.proofs.Common.{◌≡◌, [], length, All}
use Rattle.std.specs.Prelude.{Some}
use Rattle.hv_cell.specs.Reasons.{no_reason}
use Rattle.hv_cell.specs.StopRule.{making}
use Rattle.hv_cell.proofs.stop_word.make_watches.Given as goal

abbrev pub invariant-loop : goal.invariant-loop
invariant-loop g l = (l.maker.table_id ≡ l.word.table_id) × (l.maker.me ≡ (making l.word.key l.maker.table_id, [])) × (length l.watches.items ≡ l.counter)
    × All (λ w. w ≡ record { home = record { table = l.word.table_id; kin = Some l.word.key }; seen = no_reason; asked = no_reason; looks = 0 }) l.watches.items
