-- What is judged wrong in the parts of the tree as code has them.
use Rattle.std.specs.Prelude.{ℕ, Bool, false, ◌&&◌, ◌||◌, List, [], ◌∷◌, ◌++◌, Option, Some, None}
use Rattle.std.specs.Borrow.{Bor}
use Rattle.hv_tree.specs.declared.place.Place.{Place}
use Rattle.hv_tree.specs.declared.types.Name.{Name}
use Rattle.hv_tree.specs.declared.types.Conv.{Conv}
use Rattle.hv_tree.specs.declared.types.Ty.{Ty}
use Rattle.hv_tree.specs.declared.refusal.Refusal.{Refusal}
use Rattle.hv_tree.specs.declared.refusal.Rule.TheVariants as rule
use Rattle.hv_tree.specs.declared.ast.Operator.{Operator}
use Rattle.hv_tree.specs.declared.ast.Arg.{Arg}
use Rattle.hv_tree.specs.declared.ast.Call.{Call, out-Call}
use Rattle.hv_tree.specs.declared.ast.Expr.{Expr}
use Rattle.hv_tree.specs.declared.ast.PlaceExpr.{PlaceExpr}
use Rattle.hv_tree.specs.declared.ast.Step.{Step}
use Rattle.hv_tree.specs.declared.ast.Stmt.{Stmt}
use Rattle.hv_tree.specs.Core as core
use Rattle.hv_decls.specs.Types.{ValueType, IntType}
use Rattle.hv_type_rules.specs.Typing.{Known, Wanted, Signature}
use Rattle.hv_type_synth.specs.declared.around.Around.{Around}
use Rattle.hv_type_synth.specs.Here as here
use Rattle.hv_type_synth.specs.Held.{ty_by}
use Rattle.hv_type_rules.specs.Typing as typing
use Rattle.hv_type_synth.specs.Tests as tests
use Rattle.hv_type_judge.specs.Judged as spec

-- the next argument is moved
abbrev pub next_moved : List Wanted → Bool
next_moved [] = false
next_moved (w ∷ ws) = tests.is_moved w.conv

module _ (a : Around) where
  abbrev pub wrong : Option ValueType → Expr → List Refusal
  wrong asked x = spec.wrong (here.tree_in a) (here.holding_in a) (here.scope_in a) asked (core.core_of x)

  -- steps behind something of this type
  abbrev pub step_t1 : Option ValueType → List Step → List Refusal
  step_t1 t steps = spec.step_t1 (here.tree_in a) (here.holding_in a) (here.scope_in a) t (core.core_steps steps)

  abbrev pub one_t1 : Option ValueType → Step → List Refusal
  one_t1 t s = spec.step_t1 (here.tree_in a) (here.holding_in a) (here.scope_in a) t (core.core_step s core.NoSteps)

  abbrev pub step_t3 : Option ValueType → List Step → List Refusal
  step_t3 t steps = spec.step_t3 (here.tree_in a) (here.holding_in a) (here.scope_in a) t (core.core_steps steps)

  abbrev pub one_t3 : Option ValueType → Step → List Refusal
  one_t3 t s = spec.step_t3 (here.tree_in a) (here.holding_in a) (here.scope_in a) t (core.core_step s core.NoSteps)

  -- elements of an array literal
  abbrev pub element_t1 : Known → List Expr → List Refusal
  element_t1 first xs = spec.element_t1 (here.tree_in a) (here.holding_in a) (here.scope_in a) first (core.core_exprs xs)

  -- both sides of an operator
  abbrev pub equal_t1 : Expr → Operator → Place → Expr → List Refusal
  equal_t1 x o at y = spec.only (tests.is_equality o && tests.differ (here.type_here a x) (here.type_here a y)) (spec.refusal rule.T1 at)

  abbrev pub operand_t1 : Expr → List (Operator × Place × Expr) → List Refusal
  operand_t1 first links = spec.operand_t1 (here.tree_in a) (here.holding_in a) (here.scope_in a) (core.core_of first) (core.core_links links)

  abbrev pub chain_t1 : Expr → List (Operator × Place × Expr) → List Refusal
  chain_t1 first links = spec.chain_t1 (here.tree_in a) (here.holding_in a) (here.scope_in a) (core.core_of first) (core.core_links links)

  abbrev pub equal_t9 : Expr → Operator → Place → Expr → List Refusal
  equal_t9 x o at y =
      spec.only (tests.is_equality o && (tests.known_to_hold (here.holding_in a) (here.type_here a x) || tests.known_to_hold (here.holding_in a) (here.type_here a y))) (spec.refusal rule.T9 at)

  abbrev pub link_t9 : Expr → List (Operator × Place × Expr) → List Refusal
  link_t9 first links = spec.link_t9 (here.tree_in a) (here.holding_in a) (here.scope_in a) (core.core_of first) (core.core_links links)

  abbrev pub print_t9 : Expr → List Refusal
  print_t9 x = spec.print_t9 (here.tree_in a) (here.holding_in a) (here.scope_in a) (core.core_of x)

  abbrev pub capture_t6 : List Name → List Refusal
  capture_t6 names = spec.capture_t6 (here.tree_in a) (here.holding_in a) (here.scope_in a) names

  abbrev pub capture_t9 : List Name → List Refusal
  capture_t9 names = spec.capture_t9 (here.tree_in a) (here.holding_in a) (here.scope_in a) names

  -- arguments, and one alone
  abbrev pub arg_t1 : List Wanted → List Arg → List Refusal
  arg_t1 wanted args = spec.arg_t1 (here.tree_in a) (here.holding_in a) (here.scope_in a) wanted (core.core_args args)

  abbrev pub this_t1 : List Wanted → Arg → List Refusal
  this_t1 wanted arg = spec.arg_t1 (here.tree_in a) (here.holding_in a) (here.scope_in a) wanted (core.core_arg arg core.NoArgs)

  abbrev pub mark_t5 : List Wanted → List Arg → List Refusal
  mark_t5 wanted args = spec.mark_t5 (here.tree_in a) (here.holding_in a) (here.scope_in a) wanted (core.core_args args)

  abbrev pub this_t5 : List Wanted → Arg → List Refusal
  this_t5 wanted arg = spec.mark_t5 (here.tree_in a) (here.holding_in a) (here.scope_in a) wanted (core.core_arg arg core.NoArgs)

  abbrev pub lent_t6 : List Arg → List Refusal
  lent_t6 args = spec.lent_t6 (here.tree_in a) (here.holding_in a) (here.scope_in a) (core.core_args args)

  abbrev pub this_t6 : Arg → List Refusal
  this_t6 arg = spec.lent_t6 (here.tree_in a) (here.holding_in a) (here.scope_in a) (core.core_arg arg core.NoArgs)

  abbrev pub arg_t7 : List Wanted → List Arg → List Refusal
  arg_t7 wanted args = spec.arg_t7 (here.tree_in a) (here.holding_in a) (here.scope_in a) wanted (core.core_args args)

  abbrev pub this_t7 : List Wanted → Arg → List Refusal
  this_t7 wanted arg = spec.arg_t7 (here.tree_in a) (here.holding_in a) (here.scope_in a) wanted (core.core_arg arg core.NoArgs)

  -- the place may not be moved
  abbrev pub stays : PlaceExpr → Bool
  stays p = spec.stays (here.tree_in a) (here.holding_in a) (here.scope_in a) (core.core_place p).0 (core.core_place p).1

  abbrev pub move_t7 : Expr → List Refusal
  move_t7 x = spec.move_t7 (here.tree_in a) (here.holding_in a) (here.scope_in a) (core.core_of x)

  abbrev pub count_t2 : Signature → Place → List Arg → List Refusal
  count_t2 s at args = spec.count_t2 (here.tree_in a) (here.holding_in a) (here.scope_in a) s at (core.core_args args)

  abbrev pub root_t6 : Name → List Refusal
  root_t6 root = spec.root_t6 (here.tree_in a) (here.holding_in a) (here.scope_in a) root

  abbrev pub root_t7 : Name → List Refusal
  root_t7 root = spec.root_t7 (here.tree_in a) (here.holding_in a) (here.scope_in a) root

  abbrev pub await_t6 : Name → List Refusal
  await_t6 name = spec.await_t6 (here.tree_in a) (here.holding_in a) (here.scope_in a) name

  abbrev pub read_t6 : PlaceExpr → List Refusal
  read_t6 p = spec.read_t6 (here.tree_in a) (here.holding_in a) (here.scope_in a) (core.core_place p).0 (core.core_place p).1

  abbrev pub callee_t6 : PlaceExpr → List Refusal
  callee_t6 p = spec.callee_t6 (here.tree_in a) (here.holding_in a) (here.scope_in a) (core.core_place p).0 (core.core_place p).1

  abbrev pub callee_t8 : PlaceExpr → List Refusal
  callee_t8 p = spec.callee_t8 (here.tree_in a) (here.holding_in a) (here.scope_in a) (core.core_place p).0 (core.core_place p).1

  abbrev pub changed_judged : Name → List Refusal
  changed_judged root = spec.changed_judged (here.tree_in a) (here.holding_in a) (here.scope_in a) root

  abbrev pub task_t1 : Option Ty → Call → List Refusal
  task_t1 t call = spec.task_t1 (here.tree_in a) (here.holding_in a) (here.scope_in a) (core.core_option_ty t) (core.core_call call)

  -- whole parts
  abbrev pub place_judged : PlaceExpr → List Refusal
  place_judged p = spec.place_judged (here.tree_in a) (here.holding_in a) (here.scope_in a) (core.core_place p).0 (core.core_place p).1

  abbrev pub expr_judged : Expr → List Refusal
  expr_judged x = spec.expr_judged (here.tree_in a) (here.holding_in a) (here.scope_in a) (core.core_of x)

  abbrev pub call_judged : Call → List Refusal
  call_judged call = spec.call_judged (here.tree_in a) (here.holding_in a) (here.scope_in a) (core.core_call call)

  abbrev pub stmt_judged : Stmt → List Refusal
  stmt_judged x = spec.stmt_judged (here.tree_in a) (here.holding_in a) (here.scope_in a) (core.core_stmt x)

  -- ---- calls

  -- what is wrong beside types, counts and marks
  abbrev pub uses_judged : List Wanted → Call → List Refusal
  uses_judged wanted call =
      (callee_t6 (out-Call call).callee ++ lent_t6 (out-Call call).args) ++ (arg_t7 wanted (out-Call call).args ++ callee_t8 (out-Call call).callee)

  abbrev pub roots_t6 : Call → List Refusal
  roots_t6 call = callee_t6 (out-Call call).callee ++ lent_t6 (out-Call call).args

  abbrev pub signed_judged : Signature → Call → List Refusal
  signed_judged s call =
      arg_t1 (spec.wanted_by s) (out-Call call).args
      ++ (count_t2 s (out-Call call).paren (out-Call call).args ++ (mark_t5 (spec.wanted_by s) (out-Call call).args ++ uses_judged (spec.wanted_by s) call))

  -- ---- single constructs

  abbrev pub array_judged : List Expr → List Refusal
  array_judged xs = element_t1 (typing.first_type (here.tree_in a) (here.visible_in a) (core.core_exprs xs)) xs

  abbrev pub count_judged : PlaceExpr → Place → List Refusal
  count_judged p at = spec.only (tests.no_array (here.place_here a p)) (spec.refusal rule.T1 at) ++ root_t6 (core.core_place p).0

  abbrev pub other_t1 : Ty → PlaceExpr → List Refusal
  other_t1 t p = spec.only (tests.other (ty_by t) (here.place_here a p)) (spec.refusal rule.T1 (core.core_place p).0.place)

  abbrev pub inout_judged : Ty → PlaceExpr → List Refusal
  inout_judged t p = other_t1 t p ++ changed_judged (core.core_place p).0

  abbrev pub assign_judged : PlaceExpr → Expr → List Refusal
  assign_judged p x = wrong (here.place_here a p) x ++ changed_judged (core.core_place p).0

  abbrev pub return_judged : Expr → List Refusal
  return_judged x = spec.return_t1 (here.tree_in a) (here.holding_in a) (here.scope_in a) (core.core_option_ty a.returned.now) (core.core_of x)

  abbrev pub is_construction : PlaceExpr → Bool
  is_construction p = spec.is_construction (here.tree_in a) (here.holding_in a) (here.scope_in a) (core.core_place p).0 (core.core_place p).1

  abbrev pub filled_judged : Expr → Expr → List Refusal
  filled_judged len value = wrong (Some IntType) len ++ wrong None value

  abbrev pub task_judged : Option Ty → Expr → Call → List Refusal
  task_judged t budget call = wrong (Some IntType) budget ++ task_t1 t call
