use Rattle.hv_law_checked.proofs.Characters.{first_behind}
use Rattle.hv_law_checked.proofs.law.refusals_stand_behind_characters.Goals as goal

pub returns : goal.returns
returns c = first_behind
