use Rattle.std.proofs.Common.{◌≡◌, ◌++◌}
use Rattle.hv_init_layout.specs.Ends as spec
use Rattle.hv_init_layout.proofs.ends.push_locals.Given as goal

abbrev pub invariant-loop-local : goal.invariant-loop-local
invariant-loop-local l = l.positions ≡ l.fn.positions ++ spec.local_ends l.sizes l.leaves l.local
