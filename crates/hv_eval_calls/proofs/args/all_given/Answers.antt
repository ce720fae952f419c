use Rattle.std.proofs.Common.{rules, map, sym, ◌∙◌}
use Rattle.hv_eval_state.specs.Opened.{last_first}
use Rattle.hv_eval_calls.specs.Passes.{passed_by}
use Rattle.hv_eval_calls.specs.Arguments.{sofar_of}
use Rattle.hv_eval_calls.proofs.ArgsLemmas.{args_on, args_halted, args_many, args_few, args_all}
use Rattle.hv_eval_calls.proofs.args.all_given.Goals as goal

pub returns-in-Err : goal.returns-in-Err
returns-in-Err g c = λ n never.
    sym (c.loop-i.invariant n)
    ∙ args_halted c.args.parts.now.level c.args.args.now c.args.params.now c.loop-i.i c.index-args-i.result c.loop-i.given.used (map passed_by c.loop-i.given.passed) (last_first c.loop-i.given.opens.items) c.in-Some.param.now n c.loop-i.task c.one_more.new.task c.in-Err.halt
    (search rules) (search rules) (search rules) (c.in-Err.ensures n never)

pub loop-i-preserved : goal.loop-i-preserved
loop-i-preserved g c = λ n.
    args_on c.args.parts.now.level c.args.args.now c.args.params.now c.loop-i.i c.index-args-i.result c.loop-i.given.used (map passed_by c.loop-i.given.passed) (last_first c.loop-i.given.opens.items) c.in-Some.param.now n c.loop-i.task c.one_more.new.task (sofar_of c.in-Ok.next)
    (search rules) (search rules) (search rules) (c.in-Ok.ensures n)
    ∙ c.loop-i.invariant n

pub returns : goal.returns
returns g c = λ n.
    sym (c.loop-i.invariant n)
    ∙ args_all c.args.parts.now.level c.args.args.now c.args.params.now c.loop-i.i c.loop-i.given.used (map passed_by c.loop-i.given.passed) (last_first c.loop-i.given.opens.items) n c.loop-i.task
    (search rules) (search rules)

pub returns-in_default : goal.returns-in_default
returns-in_default g c = λ n never.
    sym (c.loop-i.invariant n)
    ∙ args_many c.args.parts.now.level c.args.args.now c.args.params.now c.loop-i.i c.index-args-i.result c.loop-i.given.used (map passed_by c.loop-i.given.passed) (last_first c.loop-i.given.opens.items) n c.loop-i.task
    (search rules) (search rules) (search rules)

pub returns-then-args-params : goal.returns-then-args-params
returns-then-args-params g c = λ n never.
    sym (c.loop-i.invariant n)
    ∙ args_few c.args.parts.now.level c.args.args.now c.args.params.now c.loop-i.i c.loop-i.given.used (map passed_by c.loop-i.given.passed) (last_first c.loop-i.given.opens.items) n c.loop-i.task
    (search rules) (search rules)
