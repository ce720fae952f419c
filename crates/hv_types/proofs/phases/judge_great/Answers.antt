use Rattle.std.proofs.Common.{◌∙◌}
use Rattle.std.proofs.lemmas.Result.{on_ok_weaker}
use Rattle.hv_tree.specs.Core.{core_tree}
use Rattle.hv_types.proofs.Great.{great_found}
use Rattle.hv_types.proofs.phases.judge_great.Goals as goal

pub returns : goal.returns
returns c =
    on_ok_weaker c.judge_structs.result
    (great_found (core_tree c.args.declared.now) c.args.rows.now c.as_slice.result.now c.as_slice-2.result.now c.args.found.now.items c.judge_structs.new.found.items c.requires.rows (c.as_slice.ensures ∙ c.in_ok-depths.ensures) (c.as_slice-2.ensures ∙ c.in_ok-counts.ensures))
    c.judge_structs.ensures
