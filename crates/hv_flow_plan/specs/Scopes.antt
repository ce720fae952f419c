-- Scopes and callees as the code knows them.
use Rattle.std.specs.Prelude.{List, map}
use Rattle.hv_tree.specs.declared.types.Ty.{Ty}
use Rattle.hv_tree.specs.declared.types.Conv.{Conv}
use Rattle.hv_tree.specs.Core.{Core, CoreTy, core_ty, core_tys_of, core_param, core_tree}
use Rattle.hv_rules.specs.Events as events
use Rattle.hv_decls.specs.Types.{params_meant, convs_of}
use Rattle.hv_decls.specs.Locals.{Local}
use Rattle.hv_scope.specs.Known.{local_by}
use Rattle.hv_flow_plan.specs.declared.scope.Scope.{Scope}
use Rattle.hv_flow_plan.specs.declared.paths.Callee.{Callee}
use Rattle.hv_flow_plan.specs.declared.paths.Callee.TheVariants as callee

-- the program, and the locals of the body
abbrev pub tree_in : Scope → Core
tree_in s = core_tree s.declared.now

abbrev pub locals_in : Scope → List Local
locals_in s = map local_by s.locals.now

abbrev pub param_types : List (Conv × Ty) → List (Conv × CoreTy)
param_types params = map (λ (p : Conv × Ty). (p.0, core_ty p.1)) params

-- how a callee takes its arguments
abbrev pub callee_by : Callee → events.Callee
callee_by callee.Constructs = events.Constructs
callee_by (callee.Params params) = events.Takes (map events.conv_of_param (map core_param params.now))
callee_by (callee.Types params) = events.Takes (convs_of (params_meant (core_tys_of (param_types params.now))))
