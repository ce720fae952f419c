-- What statements do at a level.
use Rattle.std.specs.Prelude.{List, Option, Some, None, Result, Ok, Err}
use Rattle.hv_tree.specs.declared.types.Ty.{Ty}
use Rattle.hv_tree.specs.declared.ast.Block.{Block}
use Rattle.hv_tree.specs.declared.ast.Branch.{Branch}
use Rattle.hv_tree.specs.declared.types.Name.{Name}
use Rattle.hv_tree.specs.declared.ast.Expr.{Expr}
use Rattle.hv_tree.specs.declared.ast.Stmt.{Stmt, out-Stmt}
use Rattle.hv_tree.specs.Core.{core_ty, core_of, core_stmt, core_stmts, core_branches}
use Rattle.hv_value.specs.ValueTree.{Fields, Nil}
use Rattle.hv_sem_copying.specs.Run.{Flow, ◌>>=◌, pure, pay}
use Rattle.hv_sem_copying.specs.Places.{holes}
use Rattle.hv_sem_flat.specs.Accesses as flat
use Rattle.hv_sem_flat.specs.Accesses.{Plain}
use Rattle.hv_sem_flat.specs.Parts.{Went, Leaves, Goes, Opens, declared, bound}
use Rattle.hv_sem_flat.specs.Flat.{place_in, statement, statements, choices}
use Rattle.hv_partial.specs.declared.tree.Held.{Held}
use Rattle.hv_partial.specs.HeldTree.{held_tree}
use Rattle.hv_eval_state.specs.declared.task.Halt.{Halt}
use Rattle.hv_eval_state.specs.Opened.{access_of, last_first}
use Rattle.hv_eval_env.specs.declared.level.Level.{Level}
use Rattle.hv_eval_env.specs.Level.{tree_in, locals_in, deeper_in, value_in, flow_of}
use Rattle.hv_eval_blocks.specs.declared.ways.Went as code
use Rattle.hv_eval_blocks.specs.declared.ways.Went.TheVariants as went
use Rattle.hv_eval_blocks.specs.declared.ways.Turn.{Turn}
use Rattle.hv_eval_blocks.specs.declared.ways.Turn.TheVariants as turned
use Rattle.hv_eval_blocks.specs.declared.ways.Ended.{Ended}

-- ---- answers of the code

abbrev pub went_of : code.Went → Went
went_of (went.Leaves held) = Leaves (held_tree held)
went_of went.Goes = Goes
went_of (went.Opens a) = Opens (access_of a)

-- a Return leaves each block around it
abbrev pub flowed_by : Result (Option Held) Halt → Result code.Went Halt
flowed_by (Ok None) = Ok went.Goes
flowed_by (Ok (Some held)) = Ok (went.Leaves held)
flowed_by (Err halt) = Err halt

abbrev pub ended_of : Ended → Flow × List flat.Access
ended_of e = (flow_of e.flow, last_first e.opened.items)

-- how a turn ends the loop, if it does
abbrev pub turn_of : Turn → Option Flow
turn_of turned.Again = None
turn_of (turned.Ends flow) = Some (flow_of flow)

-- ---- parts of the tree

unfoldable pub statement_in : Level → Stmt → Plain Went
statement_in l s = statement (tree_in l) (locals_in l) (deeper_in l) (core_stmt s)

-- a statement with its cost
unfoldable pub paid_in : Level → Stmt → Plain Went
paid_in l s = pay 1 (out-Stmt s).place >>= (λ paid. statement_in l s)

-- from these open accesses on
unfoldable pub statements_in : Level → List Stmt → List flat.Access → Plain (Flow × List flat.Access)
statements_in l ss opens = statements (tree_in l) (locals_in l) (deeper_in l) (core_stmts ss) opens

unfoldable pub choices_in : Level → List Branch → Option Block → Plain Flow
choices_in l branches otherwise = choices (tree_in l) (locals_in l) (deeper_in l) (core_branches branches otherwise)

-- a binding over a place or another value
unfoldable pub let_in : Level → Name → Expr → Plain Went
let_in l name x = bound (locals_in l) name (place_in (tree_in l) (locals_in l) (deeper_in l) (core_of x)) (value_in l x)

abbrev pub returned_by : Level → Option Expr → Plain Went
returned_by l None = pure (Leaves (Fields Nil))
returned_by l (Some x) = value_in l x >>= (λ w. pure (Leaves w))

unfoldable pub returned_in : Level → Option Expr → Plain Went
returned_in l value = returned_by l value

abbrev pub var_by : Level → Name → Ty → Option Expr → Plain Went
var_by l name t None = declared (locals_in l) name (holes (tree_in l) (core_ty t))
var_by l name t (Some x) = value_in l x >>= (λ w. declared (locals_in l) name w)

unfoldable pub var_in : Level → Name → Ty → Option Expr → Plain Went
var_in l name t value = var_by l name t value
