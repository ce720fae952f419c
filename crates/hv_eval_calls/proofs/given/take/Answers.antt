use Rattle.std.proofs.Common.{rules}
use Rattle.hv_eval_calls.proofs.ArgumentLemmas.{lends_taken}
use Rattle.hv_eval_calls.proofs.given.take.Goals as goal

pub returns-in_ok-map_err-in-Lends : goal.returns-in_ok-map_err-in-Lends
returns-in_ok-map_err-in-Lends c = λ n.
    lends_taken c.args.argument c.in-Lends.mode c.in-Lends.place c.args.given.used c.in-Some.used n c.args.given.passed c.push-in-Lends.new.self c.args.given.opens.items c.push-in-Lends-2.new.self.items c.args.task.now c.open.new.task
    (search rules) (search rules) (search rules) (search rules) (search rules)
