use Rattle.std.proofs.Common.{map}
use Rattle.std.proofs.lemmas.Result.{IfOk-weaker}
use Rattle.hv_scope.specs.Bodies.{body_by}
use Rattle.hv_flow_ends.specs.Ends.{belongs_by}
use Rattle.hv_flow_ends.proofs.Agreeing.{ends_agree}
use Rattle.hv_flow_ends.proofs.body.ends_of.Goals as goal

pub returns : goal.returns
returns c = IfOk-weaker c.all_ends.result _ _ (λ ends e. ends_agree (map belongs_by ends) (body_by c.args.body.now) e) c.all_ends.ensures
