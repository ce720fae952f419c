use Rattle.std.proofs.Common.{rules, map, ap, sym, [], ◌∷◌, ◌+◌, drop, ◌∙◌}
use Rattle.std.proofs.lemmas.List.{map-append}
use Rattle.hv_eval_state.specs.Gives.{from}
use Rattle.hv_eval_calls.specs.Passes.{passed_by}
use Rattle.hv_eval_calls.specs.Calling.{all_owned_in}
use Rattle.hv_eval_calls.proofs.ChildLemmas.{owned_on, owned_halted, owned_many, owned_few, owned_all}
use Rattle.hv_eval_calls.proofs.children.all_owned.Goals as goal

pub returns-in-Err : goal.returns-in-Err
returns-in-Err g c = λ never.
    sym c.loop-i.invariant
    ∙ owned_halted c.args.parts.now.level c.args.args.now c.args.params.now c.loop-i.i c.index-args-i.result (map passed_by c.loop-i.given) c.args.used c.loop-i.task c.in-Some.param.now c.owned.new.task c.in-Err.halt
    (search rules) (search rules) (search rules) (c.in-Err.ensures never)

pub loop-i-preserved : goal.loop-i-preserved
loop-i-preserved g c =
    ap (λ ps. from (all_owned_in c.args.parts.now.level (drop (c.loop-i.i + 1) c.args.args.now) (drop (c.loop-i.i + 1) c.args.params.now) ps) c.args.used c.owned.new.task) (ap (map passed_by) c.in_ok-push-in-Ok.ensures.ok ∙ map-append passed_by c.loop-i.given (c.in-Ok.passed ∷ []))
    ∙ owned_on c.args.parts.now.level c.args.args.now c.args.params.now c.loop-i.i c.index-args-i.result (map passed_by c.loop-i.given) c.args.used c.loop-i.task c.in-Some.param.now c.owned.new.task (passed_by c.in-Ok.passed)
    (search rules) (search rules) (search rules) c.in-Ok.ensures
    ∙ c.loop-i.invariant

pub returns : goal.returns
returns g c =
    sym c.loop-i.invariant
    ∙ owned_all c.args.parts.now.level c.args.args.now c.args.params.now c.loop-i.i (map passed_by c.loop-i.given) c.args.used c.loop-i.task (search rules) (search rules)

pub returns-in_default : goal.returns-in_default
returns-in_default g c = λ never.
    sym c.loop-i.invariant
    ∙ owned_many c.args.parts.now.level c.args.args.now c.args.params.now c.loop-i.i c.index-args-i.result (map passed_by c.loop-i.given) c.args.used c.loop-i.task (search rules) (search rules) (search rules)

pub returns-then-args-params : goal.returns-then-args-params
returns-then-args-params g c = λ never.
    sym c.loop-i.invariant
    ∙ owned_few c.args.parts.now.level c.args.args.now c.args.params.now c.loop-i.i (map passed_by c.loop-i.given) c.args.used c.loop-i.task (search rules) (search rules)
