use Rattle.std.proofs.Common.{◌≡◌, rules, Some, None, option_map, ap, ◌∙◌}
use Rattle.hv_sem_copying.specs.Operations.{applied}
use Rattle.hv_partial.specs.declared.operate.Computed.TheVariants as computed
use Rattle.hv_partial.specs.HeldTree.{held_tree}
use Rattle.hv_partial.specs.Results.{given_of}
use Rattle.hv_eval_state.specs.Gives.{from}
use Rattle.hv_eval_state.proofs.ComputeLemmas.{applied_gives, applied_overflow, applied_div_zero, applied_none}
use Rattle.hv_eval_state.proofs.compute.given.Goals as goal

pub returns-in-Some-Gives : goal.returns-in-Some-Gives
returns-in-Some-Gives c =
    let e : c.args.computed ≡ Some (computed.Gives c.in-Some-Gives.held) = search rules in
    λ n. ap (λ g. from (applied c.args.at (option_map given_of g)) n c.args.task.now) e ∙ applied_gives c.args.at (held_tree c.in-Some-Gives.held) n c.args.task.now

pub returns-in-Some-Overflow : goal.returns-in-Some-Overflow
returns-in-Some-Overflow c =
    let e : c.args.computed ≡ Some computed.Overflow = search rules in
    λ n never. ap (λ g. from (applied c.args.at (option_map given_of g)) n c.args.task.now) e ∙ applied_overflow c.args.at n c.args.task.now

pub returns-in-Some-DivZero : goal.returns-in-Some-DivZero
returns-in-Some-DivZero c =
    let e : c.args.computed ≡ Some computed.DivZero = search rules in
    λ n never. ap (λ g. from (applied c.args.at (option_map given_of g)) n c.args.task.now) e ∙ applied_div_zero c.args.at n c.args.task.now

pub returns-in-None : goal.returns-in-None
returns-in-None c =
    let e : c.args.computed ≡ None = search rules in
    λ n never. ap (λ g. from (applied c.args.at (option_map given_of g)) n c.args.task.now) e ∙ applied_none c.args.at n c.args.task.now
