use Rattle.std.proofs.Common.{◌++◌, map, sym, ap, ◌∙◌}
use Rattle.hv_tree.specs.Core.{core_tree}
use Rattle.hv_scope.specs.Known.{local_by}
use Rattle.hv_lemmas.proofs.Lists.{nothing_added}
use Rattle.hv_await.proofs.Changes.{call_changing, call_unchanging}
use Rattle.hv_await.proofs.changing.judge_task.Goals as goal

pub returns-in_ok-push : goal.returns-in_ok-push
returns-in_ok-push c =
    c.in_ok-push.ensures.items
    ∙ ap (λ l. c.args.found.now.items ++ l) (sym (call_changing (core_tree c.args.declared.now) (map local_by c.args.visible.now) c.args.call.now (sym c.takes_change.ensures ∙ c.if-takes_change.true)))

pub returns-else-takes_change : goal.returns-else-takes_change
returns-else-takes_change c =
    nothing_added c.args.found.now.items _ (call_unchanging (core_tree c.args.declared.now) (map local_by c.args.visible.now) c.args.call.now (sym c.takes_change.ensures ∙ c.if-takes_change.false))
