use Rattle.hv_sem_copying.proofs.GoingOn.{within}
use Rattle.hv_sem_copying.proofs.law.budgets_are_kept.Goals as goal

pub returns : goal.returns
returns c = within
