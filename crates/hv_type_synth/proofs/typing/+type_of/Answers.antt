use Rattle.std.proofs.Common.{◌≡◌, [], sym, ap, ◌∙◌, arith, IfOk}
use Rattle.std.proofs.lemmas.Grind.{common_steps}
use Rattle.hv_type_synth.specs.Held.{known_by}
use Rattle.hv_type_synth.specs.Here as here
use Rattle.hv_type_synth.proofs.Callees.{chain_alone}
use Rattle.hv_type_synth.proofs.typing.+type_of.Goals as goal

pub returns-in-None-split_first : goal.returns-in-None-split_first
returns-in-None-split_first t c =
    let none : c.in-Chain.links ≡ [] = grind (arith, common_steps) in
    let same = ap (here.type_here c.args.around.now) c.get-in-None-split_first.ensures ∙ chain_alone c.args.around.now c.args.x.now c.in-Chain.first c.in-Chain.links c.in-Chain.is none in
    rw (← same) c.type_of-in-None-split_first.ensures
