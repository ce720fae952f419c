-- Kinds of expressions at a level.
use Rattle.hv_tree.specs.declared.types.Name.{Name}
use Rattle.hv_value.specs.ValueTree.{ValueTree}
use Rattle.hv_sem_copying.specs.Run.{◌>>=◌}
use Rattle.hv_sem_copying.specs.Places.{local}
use Rattle.hv_sem_copying.specs.Copying.{copying}
use Rattle.hv_sem_flat.specs.Accesses.{Plain}
use Rattle.hv_eval_env.specs.declared.level.Level.{Level}
use Rattle.hv_eval_env.specs.Level.{locals_in}

-- a handle that is awaited
abbrev pub awaited_in : Level → Name → Plain ValueTree
awaited_in l name = local (locals_in l) name >>= copying.await
