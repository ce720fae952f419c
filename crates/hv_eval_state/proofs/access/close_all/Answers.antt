use Rattle.std.proofs.Common.{rules, sym, ◌∙◌}
use Rattle.hv_eval_state.proofs.AccessLemmas.{closed_halted}
use Rattle.hv_eval_state.proofs.access.close_all.Goals as goal

pub returns-in-Err : goal.returns-in-Err
returns-in-Err c = λ n never. sym (c.loop-access.invariant n) ∙ closed_halted c.pop.new.self.items c.loop-access.accesses.items c.in-Some.access n c.loop-access.task c.close.new.task c.in-Err.halt (search rules) (c.in-Err.ensures n never)
