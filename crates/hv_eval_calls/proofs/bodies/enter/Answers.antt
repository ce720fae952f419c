use Rattle.std.proofs.Common.{rules, length, map, arith}
use Rattle.hv_decls.specs.Locals.{locals_of}
use Rattle.hv_eval_calls.specs.Passes.{passed_by}
use Rattle.hv_eval_calls.proofs.EnterLemmas.{enters, not_paid, too_deep}
use Rattle.hv_eval_calls.proofs.bodies.enter.Goals as goal

pub returns : goal.returns
returns g c = λ body n.
    rw (enters c.args.parts.now.level c.args.at c.args.f body (map passed_by c.args.given) n c.args.task.now c.pay.new.task (omega (arith, c.if-parts-eq0.false)) (search rules)) (c.run_body.ensures (length (locals_of body)) n)

pub returns-then-parts-eq0 : goal.returns-then-parts-eq0
returns-then-parts-eq0 g c = λ body n never.
    too_deep c.args.parts.now.level c.args.at c.args.f body (map passed_by c.args.given) n c.args.task.now c.if-parts-eq0.true

pub returns-in-Err : goal.returns-in-Err
returns-in-Err g c = λ body n never.
    not_paid c.args.parts.now.level c.args.at c.args.f body (map passed_by c.args.given) n c.args.task.now c.pay.new.task c.in-Err.halt (omega (arith, c.if-parts-eq0.false)) (c.in-Err.ensures n never)
