use Rattle.std.proofs.Common.{◌∙◌}
use Rattle.hv_tree.specs.Core.{core_tree}
use Rattle.hv_scope.specs.Bodies.{body_by}
use Rattle.hv_flow.proofs.Whole.{both}
use Rattle.hv_flow.proofs.body.graph_of_body.Goals as goal

pub returns : goal.returns
returns c =
    both (core_tree c.args.declared.now) (body_by c.args.body.now) c.graph_of.result c.into_vec.result.items (c.into_vec.ensures ∙ c.in_ok-plan.ensures) c.graph_of.ensures.graph c.graph_of.ensures.enters
