use Rattle.std.proofs.Common.{◌≡◌, ◌≢◌, ◌+◌, ℤ, to_z, of_z, w64, rules, subst}
use Rattle.std.proofs.Math.Facts.{to_z-of_z}
use Rattle.hv_sem_copying.specs.Run.{Is}
use Rattle.hv_sem_copying.specs.Calls.{budget_of}
use Rattle.hv_eval_state.specs.declared.task.Halt.TheVariants as halt
use Rattle.hv_eval_state.specs.Gives.{now_of, from, halted}
use Rattle.hv_eval_blocks.proofs.SpawnLemmas.{order_unfunded, order_deep, order_spent, order_over}
use Rattle.hv_eval_blocks.proofs.spawning.order.Goals as goal

pub returns-in_err-budget : goal.returns-in_err-budget
returns-in_err-budget c =
    let t = c.args.task.now in
    let how = c.in_err-budget.field-0.0 in
    let same : to_z w64 (of_z w64 c.args.z) ≡ c.args.z = to_z-of_z c.ranges.z in
    λ n h what. order_unfunded c.args.level h c.args.word c.args.z what n t t how c.from_residual.result (search rules)
    (subst (λ (z : ℤ). how ≢ halt.NoMemory → from (budget_of c.args.word z) n t ≡ halted how t) same (c.in_err-budget.ensures n))

pub returns-then-level-eq0 : goal.returns-then-level-eq0
returns-then-level-eq0 c =
    let t = c.args.task.now in
    let same : to_z w64 (of_z w64 c.args.z) ≡ c.args.z = to_z-of_z c.ranges.z in
    λ n h what never. order_deep c.args.level h c.args.word c.args.z what n t c.in_ok-budget.budget
    (subst (λ (z : ℤ). from (budget_of c.args.word z) n t ≡ Is (now_of t, c.in_ok-budget.budget)) same (c.in_ok-budget.ensures n)) c.if-level-eq0.true

pub returns-in_err-pay : goal.returns-in_err-pay
returns-in_err-pay c =
    let t = c.args.task.now in
    let cost : c.in-Some.cost ≡ c.in_ok-budget.budget + 1 = search rules in
    let same : to_z w64 (of_z w64 c.args.z) ≡ c.args.z = to_z-of_z c.ranges.z in
    λ n h what. order_spent c.args.level h c.args.word c.args.z what n t c.in_ok-budget.budget
    (subst (λ (z : ℤ). from (budget_of c.args.word z) n t ≡ Is (now_of t, c.in_ok-budget.budget)) same (c.in_ok-budget.ensures n))
    c.in-Some.cost c.pay.new.task c.in_err-pay.field-0.0 c.from_residual-in_err-pay.result c.if-level-eq0.false cost (search rules) (c.in_err-pay.ensures n)

pub returns : goal.returns
returns c =
    let t = c.args.task.now in
    let cost : c.in-Some.cost ≡ c.in_ok-budget.budget + 1 = search rules in
    let same : to_z w64 (of_z w64 c.args.z) ≡ c.args.z = to_z-of_z c.ranges.z in
    λ n h what never. order_over c.args.level h c.args.word c.args.z what n t c.in_ok-budget.budget
    (subst (λ (z : ℤ). from (budget_of c.args.word z) n t ≡ Is (now_of t, c.in_ok-budget.budget)) same (c.in_ok-budget.ensures n))
    c.in-Some.cost c.pay.new.task c.if-level-eq0.false cost (c.in_ok-pay.ensures n)
