use Rattle.std.proofs.Common.{◌≡◌, ◌≤◌, replicate, vec_len}
use Rattle.std.specs.Prelude.{vec_capacity}
use Rattle.hv_cell.specs.declared.cell_view.Held.TheVariants.{Nothing}
use Rattle.hv_cell.proofs.make.empty_slots.Given as goal

abbrev pub invariant-loop : goal.invariant-loop
invariant-loop g l = (l.slots.items ≡ replicate l.counter Nothing) × (vec_len l.slots ≡ l.counter) × (l.count ≤ vec_capacity l.slots)
