use Rattle.std.proofs.Common.{◌≡◌, rules, pos, negsuc}
use Rattle.hv_partial.specs.HeldTree.{held_tree}
use Rattle.hv_eval_operands.proofs.FillLemmas.{fills_bad, fills_long}
use Rattle.hv_eval_operands.proofs.filling.fill.Goals as goal

pub returns-in-Bad : goal.returns-in-Bad
returns-in-Bad c =
    let is : c.args.z ≡ negsuc c.in-Bad.ensures.0 = search rules in
    λ k known. fills_bad c.args.at (held_tree c.args.held.now) c.args.z c.in-Bad.ensures.0 k c.args.task.now is

pub returns-in-TooLong : goal.returns-in-TooLong
returns-in-TooLong c =
    let is : c.args.z ≡ pos c.in-TooLong.ensures.0 = search rules in
    λ k known. fills_long c.args.at (held_tree c.args.held.now) c.args.z c.in-TooLong.ensures.0 k c.args.task.now is c.in-TooLong.ensures.2
