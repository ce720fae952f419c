use Rattle.std.proofs.Common.{◌≡◌, drop, map}
use Rattle.hv_tree.specs.Core.{core_param}
use Rattle.hv_runs.specs.Walked as spec
use Rattle.hv_runs.proofs.types.params_read.Given as goal

abbrev pub invariant-loop-param : goal.invariant-loop-param
invariant-loop-param l = spec.params_read (map core_param (drop l.param-index l.params)) ≡ spec.params_read (map core_param l.fn.params)
