use Rattle.std.proofs.Common.{◌≡◌, ◌++◌, drop, map}
use Rattle.hv_tree.specs.Core.{core_param}
use Rattle.hv_type_names.specs.Found as spec
use Rattle.hv_type_names.proofs.declared.declare_params.Given as goal

abbrev pub invariant-loop-param : goal.invariant-loop-param
invariant-loop-param l = let left = map spec.param_name (map core_param (drop l.param-index l.params)) in let all = map spec.param_name (map core_param l.fn.params) in
    (l.found.items ++ spec.locals_found l.program l.known left ≡ l.fn.found.items ++ spec.locals_found l.program l.fn.known all) × (l.known ++ spec.texts_of left ≡ l.fn.known ++ spec.texts_of all)
