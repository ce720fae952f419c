use Rattle.hv_sem_copying.proofs.Richer.{richer_same}
use Rattle.hv_sem_copying.proofs.law.bigger_budgets_change_nothing.Goals as goal

pub returns : goal.returns
returns c = richer_same
