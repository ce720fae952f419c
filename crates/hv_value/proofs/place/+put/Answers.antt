use Rattle.std.proofs.Common.{arith}
use Rattle.std.proofs.lemmas.Grind.{common_steps}
use Rattle.hv_value.specs.ValueTree.{tree_of}
use Rattle.hv_value.proofs.StepLemmas.{put_there, put_back}
use Rattle.hv_value.proofs.place.+put.Goals as goal

pub swap_part-requires : goal.swap_part-requires
swap_part-requires t c = put_there _ _ _ _ _ c.swap_part-inner.ensures.old c.swap_part-inner.ensures.new

pub returns-in-len1-up-clause-new : goal.returns-in-len1-up-clause-new
returns-in-len1-up-clause-new t c =
    let e = put_back (tree_of c.args.v.now) _ _ _ _ _ (tree_of c.args.new) _ _ c.swap_part-inner.ensures.old c.swap_part-inner.ensures.new c.put-old.ensures.new c.swap_part.ensures.new in
    grind (arith, common_steps, e)
