use Rattle.std.proofs.Common.{◌≡◌, ◌++◌, map, length}
use Rattle.hv_scope.specs.Known.{local_by}
use Rattle.hv_init_cells.specs.Plain.{kept}
use Rattle.hv_init_layout.specs.Tracked.{flag_at}
use Rattle.hv_init_layout.proofs.tracked.kept_locals.Given as goal

abbrev pub invariant-loop-left : goal.invariant-loop-left
invariant-loop-left l = map local_by l.found ++ kept (flag_at l.left_flags) (map local_by l.left) ≡ kept (flag_at l.flags) (map local_by l.locals)

abbrev pub decreases-loop-left : goal.decreases-loop-left
decreases-loop-left l = length l.left
