-- What the parts of a program do at a level.
use Rattle.std.specs.Prelude.{ℕ, List, map, Option, Some, None, option_map}
use Rattle.hv_tree.specs.declared.ast.Expr.{Expr}
use Rattle.hv_tree.specs.declared.ast.Block.{Block}
use Rattle.hv_tree.specs.Core.{Core, core_tree, core_of, core_block}
use Rattle.hv_decls.specs.Locals.{Local}
use Rattle.hv_scope.specs.Known.{local_by}
use Rattle.hv_value.specs.ValueTree.{ValueTree}
use Rattle.hv_sem_copying.specs.declared.end.Cause.TheVariants.{Tasks}
use Rattle.hv_sem_copying.specs.Run.{Flow, stuck}
use Rattle.hv_sem_copying.specs.Calls.{Deeper}
use Rattle.hv_sem_copying.specs.Copying.{Locals}
use Rattle.hv_sem_flat.specs.Accesses.{Plain}
use Rattle.hv_sem_flat.specs.Flat.{value, block, activations}
use Rattle.hv_partial.specs.declared.tree.Held.{Held}
use Rattle.hv_partial.specs.HeldTree.{held_tree}
use Rattle.hv_eval_env.specs.declared.level.Level.{Level}

abbrev pub tree_in : Level → Core
tree_in l = core_tree l.program.now

-- those of the body that runs
abbrev pub locals_in : Level → List Local
locals_in l = map local_by l.locals.now

-- what runs a body one activation further in, if any
abbrev pub deeper_in : Level → Deeper (Unit {0}) Locals
deeper_in l = activations (tree_in l) l.left

abbrev pub value_in : Level → Expr → Plain ValueTree
value_in l x = value (tree_in l) (locals_in l) (deeper_in l) (core_of x)

abbrev pub block_in : Level → Block → Plain Flow
block_in l b = block (tree_in l) (locals_in l) (deeper_in l) (core_block b)

-- it is never asked where there is none
abbrev pub run_deeper : Deeper (Unit {0}) Locals → ℕ → Plain Flow
run_deeper None f = stuck Tasks
run_deeper (Some run) f = run f

-- a body one activation further in
abbrev pub body_in : Level → ℕ → Plain Flow
body_in l f = run_deeper (deeper_in l) f

-- the value of a Return, if one was met
abbrev pub flow_of : Option Held → Flow
flow_of = option_map held_tree
