use Rattle.std.proofs.Common.{◌≡◌, map, drop}
use Rattle.hv_tree.specs.Core.{core_param}
use Rattle.hv_rules.specs.Events as events
use Rattle.hv_await.specs.Changing as spec
use Rattle.hv_await.proofs.callee.params_change.Given as goal

abbrev pub invariant-loop-param : goal.invariant-loop-param
invariant-loop-param l = spec.any_change (map events.conv_of_param (map core_param (drop l.param-index l.params))) ≡ spec.any_change (map events.conv_of_param (map core_param l.params))
