use Rattle.std.proofs.Common.{◌≡◌, ◌++◌, map, drop, take}
use Rattle.hv_tree.specs.Core.{core_param}
use Rattle.hv_decls.specs.Locals.{param_local}
use Rattle.hv_scope.specs.Known.{local_by}
use Rattle.hv_scope.proofs.bound.entry_of.Given as goal

abbrev pub invariant-loop-capture : goal.invariant-loop-capture
invariant-loop-capture l = l.known.items ≡ take l.capture-index l.captures

abbrev pub invariant-loop-param : goal.invariant-loop-param
invariant-loop-param l = map local_by l.known.items ++ map param_local (map core_param (drop l.param-index l.params)) ≡ map local_by l.captures ++ map param_local (map core_param l.params)
