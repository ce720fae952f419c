-- Arguments and calls at a level.
use Rattle.std.specs.Prelude.{ℕ, List, [], map, Option}
use Rattle.hv_tree.specs.declared.place.Place.{Place}
use Rattle.hv_tree.specs.declared.types.Name.{Name}
use Rattle.hv_tree.specs.declared.types.Conv.{Conv}
use Rattle.hv_tree.specs.declared.ast.Arg.{Arg}
use Rattle.hv_tree.specs.declared.ast.Call.{Call}
use Rattle.hv_tree.specs.declared.ast.Step.{Step}
use Rattle.hv_tree.specs.declared.ast.Param.{Param}
use Rattle.hv_tree.specs.Core.{CoreExpr, CoreArgs, NoArgs, ValueArg, RefArg, CoreSteps, core_arg, core_args, core_call, core_param, core_steps}
use Rattle.hv_decls.specs.Locals.{CoreBody, number_in}
use Rattle.hv_value.specs.ValueTree.{ValueTree, Fields, Parts, row}
use Rattle.hv_value.specs.Holes.{emptied}
use Rattle.hv_sem_copying.specs.declared.end.Cause.TheVariants.{Kinds}
use Rattle.hv_sem_copying.specs.Run.{◌>>=◌, Flow, pure, stuck, counted_from}
use Rattle.hv_sem_copying.specs.Ops.{Sets, Passed}
use Rattle.hv_sem_copying.specs.Places.{type_of}
use Rattle.hv_sem_copying.specs.Copying.{copying}
use Rattle.hv_sem_copying.specs.Calls.{Callee, Child, body_of, entered, passed_captures, result_of}
use Rattle.hv_sem_flat.specs.Accesses.{Plain, Spot, Access, there, put_at, shut}
use Rattle.hv_sem_flat.specs.Parts as parts
use Rattle.hv_sem_flat.specs.Parts.{counting}
use Rattle.hv_sem_flat.specs.Flat as flat
use Rattle.hv_partial.specs.declared.tree.Held.{Held}
use Rattle.hv_partial.specs.HeldTree.{held_tree}
use Rattle.hv_eval_env.specs.declared.level.Level.{Level}
use Rattle.hv_eval_env.specs.Level.{tree_in, locals_in, deeper_in}
use Rattle.hv_eval_operands.specs.Places.{found_in}
use Rattle.hv_eval_calls.specs.Entered.{entered_in}
use Rattle.hv_eval_calls.specs.Arguments.{Sofar, taken_one}

-- ---- the parts of a call in their plain form

abbrev pub place_of : Level → CoreExpr → Option (Plain Spot)
place_of l x = flat.place_in (tree_in l) (locals_in l) (deeper_in l) x

abbrev pub value_of : Level → CoreExpr → Plain ValueTree
value_of l x = flat.value (tree_in l) (locals_in l) (deeper_in l) x

abbrev pub found_of : Level → Name → CoreSteps → Plain Spot
found_of l root steps = parts.found (locals_in l) root (flat.links_from (tree_in l) (locals_in l) (deeper_in l) [] (type_of (locals_in l) root) steps)

-- ---- arguments

-- a place that the callee fills, in which holes are made
unfoldable pub emptied_given : Spot → Plain parts.Argument
emptied_given p = there p >>= (λ t. put_at p (emptied t) >>= (λ done. pure (parts.Lends Sets p)))

-- the first of these, for a parameter of this convention
abbrev pub first_argument : Level → Conv → CoreArgs → Plain parts.Argument
first_argument l conv NoArgs = stuck Kinds
first_argument l conv (ValueArg x rest) = parts.value_given conv (place_of l x) (value_of l x)
first_argument l conv (RefArg at root steps rest) = parts.place_given conv (found_of l root steps)

unfoldable pub argument_in : Level → Conv → Arg → Plain parts.Argument
argument_in l conv a = first_argument l conv (core_arg a NoArgs)

-- an argument more, where m references are in use
unfoldable pub one_in : Level → Conv → Arg → ℕ → List Passed → List Access → Plain Sofar
one_in l conv a m ps opens = counted_from m (argument_in l conv a) >>= (λ g. taken_one g m ps opens)

unfoldable pub args_in : Level → List Arg → List Param → ℕ → List Passed → List Access → Plain parts.Given
args_in l args params m ps opens = flat.args_from (tree_in l) (locals_in l) (deeper_in l) (core_args args) (map core_param params) m ps opens

-- ---- calls

abbrev pub callee_in : Level → Name → List Step → Plain Callee
callee_in l root steps = parts.callee (tree_in l) (number_in (locals_in l) root.text) root (core_steps steps) (found_in l root steps)

-- the values of the arguments behind these
unfoldable pub parts_in : Level → List ValueTree → List Arg → Plain (List ValueTree)
parts_in l vs args = flat.parts_from (tree_in l) (locals_in l) (deeper_in l) vs (core_args args)

abbrev pub trees_of : List Held → List ValueTree
trees_of hs = map held_tree hs

unfoldable pub constructed_in : Level → List Arg → Plain ValueTree
constructed_in l args = parts_in l [] args >>= (λ vs. pure (Fields (row vs)))

-- the arguments behind those that are given, and then the body, behind which the accesses close
unfoldable pub bodied_in : Level → Place → ℕ → CoreBody → List Param → List Arg → ℕ → List Passed → List Access → Plain Flow
bodied_in l at f body params args m ps opens = args_in l args params m ps opens >>= (λ r. entered_in l at f body r.0 >>= shut r.1)

-- the run of a body, for the callee
abbrev pub runs_of : Level → Place → CoreArgs → ℕ → Parts → CoreBody → Plain Flow
runs_of l at args f captures body =
    counting (λ m. flat.args_from (tree_in l) (locals_in l) (deeper_in l) args body.params m (passed_captures captures) []) >>= (λ r. entered copying (deeper_in l) at f body r.0 >>= shut r.1)

unfoldable pub called_in : Level → Place → List Arg → ℕ → Parts → Plain ValueTree
called_in l at args f captures = body_of (tree_in l) f >>= (λ body. runs_of l at (core_args args) f captures body >>= (λ flow. pure (result_of flow)))

unfoldable pub call_in : Level → Call → Plain ValueTree
call_in l c = flat.call (tree_in l) (locals_in l) (deeper_in l) (core_call c)

-- ---- spawns

-- the first of these as an argument of a spawn
abbrev pub first_owned : Level → Conv → CoreArgs → Plain Passed
first_owned l conv NoArgs = stuck Kinds
first_owned l conv (ValueArg x rest) = parts.own_value conv (place_of l x) (value_of l x)
first_owned l conv (RefArg at root steps rest) = stuck Kinds

unfoldable pub owned_in : Level → Conv → Arg → Plain Passed
owned_in l conv a = first_owned l conv (core_arg a NoArgs)

unfoldable pub all_owned_in : Level → List Arg → List Param → List Passed → Plain (List Passed)
all_owned_in l args params ps = flat.own_values (tree_in l) (locals_in l) (deeper_in l) (core_args args) (map core_param params) ps

-- what is passed to a body of a spawn
abbrev pub owns_of : Level → CoreArgs → ℕ → Parts → CoreBody → Plain (List Passed)
owns_of l args f captures body = flat.own_values (tree_in l) (locals_in l) (deeper_in l) args body.params (passed_captures captures)

unfoldable pub begun_in : Level → List Arg → ℕ → Parts → Plain Child
begun_in l args f captures = body_of (tree_in l) f >>= (λ body. owns_of l (core_args args) f captures body >>= (λ ps. pure (record { number = f; body = body; given = ps })))

unfoldable pub child_in : Level → Call → Plain Child
child_in l c = flat.child (tree_in l) (locals_in l) (deeper_in l) (core_call c)
