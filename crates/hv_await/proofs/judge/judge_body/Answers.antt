use Rattle.std.proofs.Common.{◌≡◌, Contains, drop, ap, ◌∙◌}
use Rattle.std.proofs.lemmas.Result.{on_ok_weaker}
use Rattle.hv_tree.specs.declared.refusal.Rule.TheVariants as rule
use Rattle.hv_tree.specs.Core.{core_tree}
use Rattle.hv_decls.specs.Locals.{listed}
use Rattle.hv_scope.specs.Bodies.{body_by}
use Rattle.hv_await.specs.Changing.{body_changes}
use Rattle.hv_await.specs.Found.{InBody}
use Rattle.hv_flow_ends.specs.Words.{words}
use Rattle.hv_await.specs.Acts.{left_acts}
use Rattle.hv_await.specs.Ops.{again_ops}
use Rattle.hv_await.proofs.Handles.{left_first, again_first}
use Rattle.hv_await.proofs.Phase.{heads_first, heads_all, adds_body}
use Rattle.hv_await.proofs.judge.judge_body.Goals as goal

pub returns : goal.returns
returns c =
    let tree = core_tree c.args.declared.now in
    let body = body_by c.args.body.now in
    let plan = c.in_ok-plan.plan in
    let ops : c.without_entry-ops.result.now ≡ drop 2 plan = c.without_entry-ops.ensures ∙ ap (drop 2) c.as_slice.ensures in
    let left =
    left_first tree body c.in_ok-ends.ends plan (words left_acts c.without_entry-ops.result.now c.as_slice-2.result.now) c.in_ok-left.left c.in_ok-plan.ensures (c.in_ok-ends.ensures tree)
    (ap (λ o. words left_acts o c.as_slice-2.result.now) ops ∙ ap (words left_acts (drop 2 plan)) c.as_slice-2.ensures) c.in_ok-left.ensures in
    let again = again_first tree body plan (again_ops c.without_entry-ops.result.now) c.in_ok-again.again c.in_ok-plan.ensures (ap again_ops ops) c.in_ok-again.ensures in
    on_ok_weaker c.judge_changes.result
    (λ e. adds_body (InBody tree body rule.S1) (InBody tree body rule.S2) (Contains (body_changes tree body)) c.args.found.now.items c.push_first.new.found.items c.push_first-2.new.found.items c.judge_changes.new.found.items
    (listed c.in_ok-left.left) (listed c.in_ok-again.again) (body_changes tree body) c.in_ok-push_first.ensures c.in_ok-push_first-2.ensures e (heads_first (InBody tree body rule.S1) c.in_ok-left.left left)
    (heads_first (InBody tree body rule.S2) c.in_ok-again.again again) (heads_all (body_changes tree body)))
    c.judge_changes.ensures
