use Rattle.std.proofs.Common.{◌≡◌, drop}
use Rattle.hv_tree.specs.Core.{core_tys_of}
use Rattle.hv_decls.specs.Types.{convs_of, params_meant}
use Rattle.hv_flow_plan.specs.Scopes.{param_types}
use Rattle.hv_await.specs.Changing as spec
use Rattle.hv_await.proofs.callee.types_change.Given as goal

abbrev pub invariant-loop-conv : goal.invariant-loop-conv
invariant-loop-conv l = spec.any_change (convs_of (params_meant (core_tys_of (param_types (drop l.conv-index l.params))))) ≡ spec.any_change (convs_of (params_meant (core_tys_of (param_types l.params))))
