use Rattle.std.proofs.Common.{◌≡◌, ◌++◌, length, map, drop}
use Rattle.hv_sem_copying.specs.Copying.{callee_trees}
use Rattle.hv_partial.specs.HeldTree.{held_tree}
use Rattle.hv_eval_calls.specs.Passes.{passed_by, lent_by, own_by}
use Rattle.hv_eval_calls.proofs.entry.take_firsts.Given as goal

abbrev pub invariant-loop-i : goal.invariant-loop-i
invariant-loop-i l =
    (map held_tree l.firsts ++ callee_trees (own_by l.locals) (map passed_by (drop l.i l.given)) ≡ callee_trees (own_by l.locals) (map passed_by l.fn.given))
    × (map lent_by l.given ≡ map lent_by l.fn.given)
    × (length l.given ≡ length l.fn.given)
