use Rattle.std.proofs.Common.{◌≡◌, ◌++◌, map, length}
use Rattle.hv_excl.specs.Access.{access_by}
use Rattle.hv_excl.proofs.open.reopen.Given as goal

abbrev pub invariant-loop-access : goal.invariant-loop-access
invariant-loop-access l = map access_by l.kept ++ l.opened ≡ map access_by l.initial.kept ++ l.initial.opened

abbrev pub decreases-loop-access : goal.decreases-loop-access
decreases-loop-access l = length l.kept
