use Rattle.std.proofs.Common.{◌≡◌, ◌++◌, map, length}
use Rattle.hv_rules.specs.States.{without_bindings}
use Rattle.hv_excl.specs.Access.{access_by}
use Rattle.hv_excl.proofs.open.end_locals.Given as goal

abbrev pub invariant-loop-opened : goal.invariant-loop-opened
invariant-loop-opened l = map access_by l.kept ++ without_bindings l.from l.opened ≡ without_bindings l.from l.initial.opened

abbrev pub decreases-loop-opened : goal.decreases-loop-opened
decreases-loop-opened l = length l.opened
