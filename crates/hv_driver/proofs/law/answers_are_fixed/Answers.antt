use Rattle.hv_driver.proofs.Fixed.{answers_once}
use Rattle.hv_driver.proofs.law.answers_are_fixed.Goals as goal

pub returns : goal.returns
returns c = λ asked bytes s other text more. answers_once asked bytes s other text more
