use Rattle.hv_sem_flat.proofs.Programs.{node_same}
use Rattle.hv_sem_flat.proofs.law.flat_is_copying.Goals as goal

pub returns : goal.returns
returns c = node_same
