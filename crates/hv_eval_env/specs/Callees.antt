-- What a call goes to, as the code knows it.
use Rattle.hv_sem_copying.specs.Calls as calls
use Rattle.hv_partial.specs.HeldTree.{held_trees}
use Rattle.hv_eval_env.specs.declared.callee.Callee.{Callee}
use Rattle.hv_eval_env.specs.declared.callee.Callee.TheVariants as callee

abbrev pub callee_of : Callee → calls.Callee
callee_of callee.Constructs = calls.Constructs
callee_of (callee.Enters number captures) = calls.Enters number (held_trees captures)
