use Rattle.std.proofs.Common.{arith, sym, drop}
use Rattle.std.proofs.lemmas.Grind.{common_steps}
use Rattle.hv_partial.specs.HeldTree.{held_tree}
use Rattle.hv_partial.proofs.ListLemmas.{put_back, put_nowhere}
use Rattle.hv_partial.proofs.place.+replace.Goals as goal

pub returns-in_err-inner-in-len1-up-clause-new : goal.returns-in_err-inner-in-len1-up-clause-new
returns-in_err-inner-in-len1-up-clause-new t c =
    let e = put_nowhere (held_tree c.args.held.now) _ _ (held_tree c.args.new) _ (drop 1 c.args.path.now) c.in_err-inner-in-len1-up.ensures.old c.in_err-inner-in-len1-up.ensures.new in
    grind (arith, common_steps, e)

pub returns-in_ok-inner-in-len1-up-clause-new : goal.returns-in_ok-inner-in-len1-up-clause-new
returns-in_ok-inner-in-len1-up-clause-new t c =
    let e = put_back (held_tree c.args.held.now) _ _ _ _ _ (held_tree c.args.new) _ _ (sym c.in_ok-inner-in-len1-up.ensures.old) c.in_ok-inner-in-len1-up.ensures.new c.replace-old.ensures.new c.swap_part-in-len1-up.ensures.new in
    grind (arith, common_steps, e)
