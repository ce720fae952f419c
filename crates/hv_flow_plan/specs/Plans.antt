-- The plan of each part of a body, in terms of the parts as they are declared.
use Rattle.std.specs.Prelude.{ℕ, zero, suc, Bool, true, false, List, [], ◌∷◌, ◌++◌, Option}
use Rattle.hv_tree.specs.declared.place.Place.{Place}
use Rattle.hv_tree.specs.declared.types.Name.{Name}
use Rattle.hv_tree.specs.declared.types.Conv.{Conv}
use Rattle.hv_tree.specs.declared.ast.Operator.{Operator}
use Rattle.hv_tree.specs.declared.ast.Arg.{Arg}
use Rattle.hv_tree.specs.declared.ast.Call.{Call}
use Rattle.hv_tree.specs.declared.ast.Expr.{Expr}
use Rattle.hv_tree.specs.declared.ast.PlaceExpr.{PlaceExpr, out-PlaceExpr}
use Rattle.hv_tree.specs.declared.ast.Step.{Step}
use Rattle.hv_tree.specs.Core.{Core, CoreSteps, NoSteps, FieldStep, IndexStep, CoreArgs, NoArgs, ValueArg, RefArg, core_of, core_exprs, core_links, core_step, core_steps, core_call, core_arg, core_args}
use Rattle.hv_decls.specs.declared.path.StaticPath.{StaticPath}
use Rattle.hv_rules.specs.declared.event.FlowEvent.{FlowEvent}
use Rattle.hv_rules.specs.declared.event.FlowEvent.TheVariants as event
use Rattle.hv_decls.specs.Locals.{Local, number_in}
use Rattle.hv_rules.specs.Events as events
use Rattle.hv_flow_plan.specs.declared.plan.FlowOp.{FlowOp}
use Rattle.hv_flow_plan.specs.declared.plan.FlowOp.TheVariants as op
use Rattle.hv_flow_plan.specs.declared.doing.Doing.{Doing}
use Rattle.hv_flow_plan.specs.declared.doing.Doing.TheVariants as doing
use Rattle.hv_flow_plan.specs.declared.doing.Way.{Way}
use Rattle.hv_flow_plan.specs.declared.doing.Way.TheVariants as way
use Rattle.hv_flow_plan.specs.Spelling.{plan_of}

-- ---- what is done

abbrev pub done_by : Doing → StaticPath → FlowEvent
done_by doing.Use p = event.Use p
done_by doing.Move p = event.Move p
done_by doing.Init p = event.Init p
done_by doing.Read p = event.OpenRead p
done_by doing.Write p = event.OpenWrite p
done_by doing.Set p = event.OpenSet p

abbrev pub doing_by : Doing → events.Doing
doing_by d = λ p at. events.mark (done_by d p) at

abbrev pub way_by : Way → events.Way
way_by way.Calling = events.ByCall
way_by way.Spawning = events.BySpawn

-- ---- plans of expressions

module _ (tree : Core) (locals : List Local) where
  abbrev pub plan_expr : Doing → Expr → List FlowOp
  plan_expr d x = plan_of (events.expr_events tree locals (doing_by d) (core_of x))

  abbrev pub plan_parts : List Expr → List FlowOp
  plan_parts xs = plan_of (events.part_events tree locals (core_exprs xs))

  abbrev pub plan_links : List (Operator × Place × Expr) → List FlowOp
  plan_links links = plan_of (events.link_events tree locals (core_links links))

  -- the index of the first step, if it is one
  abbrev pub first_index : CoreSteps → List FlowOp
  first_index NoSteps = []
  first_index (FieldStep name rest) = []
  first_index (IndexStep at x rest) = op.Then ∷ plan_of (events.expr_events tree locals events.uses x)

  abbrev pub plan_index : Step → List FlowOp
  plan_index s = first_index (core_step s NoSteps)

  abbrev pub plan_indices : List Step → List FlowOp
  plan_indices steps = plan_of (events.index_events tree locals (core_steps steps))

  abbrev pub plan_root : Doing → Name → List Step → List FlowOp
  plan_root d root steps = plan_of (events.on_root tree locals (doing_by d) (number_in locals root.text) root (core_steps steps))

  abbrev pub plan_place : Doing → PlaceExpr → List FlowOp
  plan_place d p = op.Then ∷ (plan_indices (out-PlaceExpr p).steps ++ plan_root d (out-PlaceExpr p).root (out-PlaceExpr p).steps)

  abbrev pub plan_handle : (ℕ → FlowEvent) → Name → Place → List FlowOp
  plan_handle e name at = plan_of (events.on_handle tree locals e (number_in locals name.text) at)

  abbrev pub plan_captured : List Name → List FlowOp
  plan_captured names = plan_of (events.captured tree locals names)

  -- the first argument
  abbrev pub first_arg : events.Way → Option Conv → CoreArgs → List FlowOp
  first_arg w c NoArgs = []
  first_arg w c (ValueArg x rest) = plan_of (events.expr_events tree locals (events.given w c) x)
  first_arg w c (RefArg mark root steps rest) = plan_of (events.place_events tree locals (events.lent c) root steps)

  -- whether it opens an access
  abbrev pub first_opens : events.Way → Option Conv → CoreArgs → Bool
  first_opens w c NoArgs = false
  first_opens w c (ValueArg x rest) = events.opens_place tree locals w c x
  first_opens w c (RefArg mark root steps rest) = events.is_local tree locals (number_in locals root.text)

  abbrev pub plan_arg : Way → Option Conv → Arg → List FlowOp
  plan_arg w c a = first_arg (way_by w) c (core_arg a NoArgs)

  abbrev pub arg_opens : Way → Option Conv → Arg → Bool
  arg_opens w c a = first_opens (way_by w) c (core_arg a NoArgs)

  abbrev pub plan_args : Way → Place → events.Callee → List Arg → List FlowOp
  plan_args w at callee args = plan_of (events.arg_events tree locals (way_by w) at callee (core_args args))

  abbrev pub plan_call : Way → Call → List FlowOp
  plan_call w c = plan_of (events.call_events tree locals (way_by w) (core_call c))

-- what stands before an operand of this operator
abbrev pub stop_before : Bool → List FlowOp
stop_before true = op.Either ∷ (op.Skip ∷ [])
stop_before false = []

-- what stands right behind an argument that opened an access, or didn't
abbrev pub close_behind : Way → Bool → Place → List FlowOp
close_behind w false at = []
close_behind way.Calling true at = op.Then ∷ []
close_behind way.Spawning true at = op.Then ∷ (op.Do event.Close at ∷ [])

-- whether the access is open until the last argument
abbrev pub stays_open : Way → Bool → Bool
stays_open w false = false
stays_open way.Calling true = true
stays_open way.Spawning true = false

-- the Close of so many accesses
abbrev pub closes : ℕ → Place → List FlowOp
closes zero at = []
closes (suc n) at = op.Do event.Close at ∷ closes n at

abbrev pub count_open : Bool → ℕ
count_open true = 1
count_open false = 0
