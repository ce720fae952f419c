use Rattle.hv_eval_env.proofs.BodyLemmas.{found_body, found_locals}
use Rattle.hv_eval_env.proofs.program.Program.body.Goals as goal

pub returns-clause-body : goal.returns-clause-body
returns-clause-body c = found_body c.self.inside.declared c.args.self.now c.self.inside.bodies c.args.number c.get.result c.self.view_is c.self.invariant.0 c.get.ensures.value

pub returns-clause-locals : goal.returns-clause-locals
returns-clause-locals c = found_locals c.self.inside.declared c.self.inside.bodies c.args.number c.get.result c.self.invariant.0 c.get.ensures.value
