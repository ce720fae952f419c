use Rattle.std.proofs.Common.{◌≡◌, ◌++◌, drop, map}
use Rattle.hv_tree.specs.Core.{core_param}
use Rattle.hv_type_names.specs.Found as spec
use Rattle.hv_type_names.proofs.types.walk_params.Given as goal

abbrev pub invariant-loop-param : goal.invariant-loop-param
invariant-loop-param l = l.found.items ++ spec.params_found l.program (map core_param (drop l.param-index l.params)) ≡ l.fn.found.items ++ spec.params_found l.program (map core_param l.fn.params)
