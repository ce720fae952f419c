-- A flow of acts as it is written down.
use Rattle.std.specs.Prelude.{List, [], ◌∷◌, ◌++◌}
use Rattle.hv_rules.specs.Flow.{Flow, Skip, Do, Stop, Then, Either, Loop}
use Rattle.hv_flow_pass.specs.declared.act.Act.{Act}
use Rattle.hv_flow_pass.specs.declared.plan.PassOp.{PassOp}
use Rattle.hv_flow_pass.specs.declared.plan.PassOp.TheVariants as op

-- each operator stands before its parts
abbrev pub plan_of : Flow (List Act) → List PassOp
plan_of Skip = op.Skip ∷ []
plan_of (Do acts) = op.Do acts ∷ []
plan_of (Stop acts) = op.Stop acts ∷ []
plan_of (Then a b) = op.Then ∷ (plan_of a ++ plan_of b)
plan_of (Either a b) = op.Either ∷ (plan_of a ++ plan_of b)
plan_of (Loop a) = op.Loop ∷ plan_of a
