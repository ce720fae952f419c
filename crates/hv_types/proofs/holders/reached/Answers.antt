use Rattle.std.proofs.Common.{◌++◌, sym, ap, ◌∙◌}
use Rattle.hv_types.proofs.Users.{at_first, at_last, next}
use Rattle.hv_types.proofs.holders.reached.Goals as goal

pub loop-taken-init : goal.loop-taken-init
loop-taken-init c = at_first c.args.users c.args.first

pub returns-in-None : goal.returns-in-None
returns-in-None c = at_last c.args.users c.args.first c.loop-taken.found c.loop-taken.left c.loop-taken.taken c.loop-taken.invariant (sym c.in-None.ensures)

pub loop-taken-preserved : goal.loop-taken-preserved
loop-taken-preserved c =
    next c.args.users c.args.first c.loop-taken.found c.loop-taken.left c.loop-taken.taken c.in-Some.number c.take_users-more.result c.push_all.new.found c.take_users-more.new.users
    c.loop-taken.invariant c.in-Some.ensures c.take_users-more.ensures.list c.take_users-more.ensures.users
    (c.in_ok-push_all-in-Some.ensures ∙ ap (λ l. c.loop-taken.found ++ l) c.as_slice.ensures)
