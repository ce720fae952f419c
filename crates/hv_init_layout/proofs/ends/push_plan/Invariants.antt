use Rattle.std.proofs.Common.{◌≡◌, ◌++◌, drop}
use Rattle.hv_init_layout.specs.Ends as spec
use Rattle.hv_init_layout.specs.Tracked.{flag_at}
use Rattle.hv_init_layout.proofs.ends.push_plan.Given as goal

abbrev pub invariant-loop-word : goal.invariant-loop-word
invariant-loop-word l = l.positions ++ spec.plan_ends l.sizes l.leaves (flag_at l.tracked) (drop l.word-index l.plan) ≡ l.fn.positions ++ spec.plan_ends l.sizes l.leaves (flag_at l.tracked) l.plan
