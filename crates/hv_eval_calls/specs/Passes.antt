-- What is passed, and the locals of a caller and its callee, as the meaning has them.
use Rattle.std.specs.Prelude.{ℕ, List, [], map, Option, Some, None}
use Rattle.hv_value.specs.ValueTree.{ValueTree}
use Rattle.hv_sem_copying.specs.Run.{Now}
use Rattle.hv_sem_copying.specs.Ops as ops
use Rattle.hv_sem_copying.specs.Copying.{Locals, first_tree}
use Rattle.hv_partial.specs.declared.tree.Held.{Held}
use Rattle.hv_partial.specs.HeldTree.{held_tree}
use Rattle.hv_eval_state.specs.Opened.{mode_of}
use Rattle.hv_eval_calls.specs.declared.passed.Passed.{Passed}
use Rattle.hv_eval_calls.specs.declared.passed.Passed.TheVariants as passed

abbrev pub passed_by : Passed → ops.Passed
passed_by (passed.Value mode held) = ops.Value (mode_of mode) (held_tree held)
passed_by (passed.Lent r) = ops.Lent r

-- the reference that takes what the parameter was
abbrev pub lent_by : Passed → Option ℕ
lent_by (passed.Value mode held) = None
lent_by (passed.Lent r) = Some r

-- locals without handles
abbrev pub own_by : List Held → Locals
own_by hs = record { trees = map held_tree hs; handles = [] }

-- the task with other locals
abbrev pub with_own : Now Locals → Locals → Now Locals
with_own s e = record s { own = e }

-- what a parameter is at first, from these locals of the caller
abbrev pub first_by : List Held → Passed → ValueTree
first_by hs p = first_tree (own_by hs) (passed_by p)
