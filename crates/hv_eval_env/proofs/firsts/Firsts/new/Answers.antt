use Rattle.std.proofs.Common.{refl}
use Rattle.hv_eval_env.specs.Firsts.{first_place}
use Rattle.hv_eval_env.proofs.firsts.Firsts.new.Goals as goal

pub invariant_of-result : goal.invariant_of-result
unfolding first_place
invariant_of-result c = λ number. rw c.new-2.ensures.empty (rw c.new.ensures.items refl)
