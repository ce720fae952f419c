use Rattle.hv_sem_copying.proofs.GoingOn.{goes_on}
use Rattle.hv_sem_copying.proofs.law.tasks_only_go_on.Goals as goal

pub returns : goal.returns
returns c = goes_on
