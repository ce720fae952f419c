use Rattle.hv_eval_env.proofs.parts.Parts.body.Goals as goal

pub returns : goal.returns
returns g c = c.requires.gives _ _ _ _ c.body.ensures
