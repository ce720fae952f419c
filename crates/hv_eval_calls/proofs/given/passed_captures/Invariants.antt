use Rattle.std.proofs.Common.{◌≡◌, ◌++◌, length, map, drop}
use Rattle.hv_sem_copying.specs.Calls as calls
use Rattle.hv_partial.specs.HeldTree.{held_trees}
use Rattle.hv_eval_calls.specs.Passes.{passed_by}
use Rattle.hv_eval_calls.proofs.given.passed_captures.Given as goal

abbrev pub invariant-loop-i : goal.invariant-loop-i
invariant-loop-i l =
    (map passed_by l.passed ++ calls.passed_captures (held_trees (drop l.i l.captures)) ≡ calls.passed_captures (held_trees l.fn.captures))
    × (length l.captures ≡ length l.fn.captures)
