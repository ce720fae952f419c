use Rattle.std.proofs.Common.{◌≡◌, ◌-◌}
use Rattle.hv_type_synth.specs.Held.{inside, base_by}
use Rattle.hv_type_synth.proofs.same.inside.Given as goal

abbrev pub invariant-loop : goal.invariant-loop
invariant-loop l = inside l.count (base_by l.base) ≡ inside (l.count - l.counter) (base_by l.inner)
