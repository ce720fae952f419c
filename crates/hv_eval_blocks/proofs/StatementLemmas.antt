-- A statement by its kind, as code meets it.
use Rattle.std.proofs.Common.{◌≡◌, ℕ, List, [], Option, Some, None, Result, Ok, Err, sym, subst, ap, ◌∙◌}
use Rattle.hv_tree.specs.declared.place.Place.{Place}
use Rattle.hv_tree.specs.declared.types.Name.{Name}
use Rattle.hv_tree.specs.declared.types.Ty.{Ty}
use Rattle.hv_tree.specs.declared.ast.Block.{Block}
use Rattle.hv_tree.specs.declared.ast.Branch.{Branch}
use Rattle.hv_tree.specs.declared.ast.Call.{Call}
use Rattle.hv_tree.specs.declared.ast.Expr.{Expr}
use Rattle.hv_tree.specs.declared.ast.PlaceExpr.{PlaceExpr}
use Rattle.hv_tree.specs.declared.ast.Stmt.{Stmt, out-Stmt}
use Rattle.hv_tree.specs.declared.ast.StmtKind.TheVariants as stmt
use Rattle.hv_tree.specs.Core.{CoreStmt, CoreSteps, core_of, core_call}
use Rattle.hv_tree.proofs.CoreLemmas as lemmas
use Rattle.hv_value.specs.ValueTree.{ValueTree, Fields, Nil}
use Rattle.hv_sem_copying.specs.Run.{Flow, ◌>>=◌, pure}
use Rattle.hv_sem_copying.specs.Ops.{Writes}
use Rattle.hv_sem_copying.specs.Places.{type_of, local}
use Rattle.hv_sem_copying.specs.Blocks.{repeated}
use Rattle.hv_sem_flat.specs.Accesses.{Plain, Spot, put_at}
use Rattle.hv_sem_flat.specs.Parts.{Went, Leaves, Goes, flowed, opening, found}
use Rattle.hv_sem_flat.specs.Flat.{links_from, statement}
use Rattle.hv_partial.specs.declared.tree.Held.{Held}
use Rattle.hv_partial.specs.declared.tree.Held.TheVariants as held
use Rattle.hv_partial.specs.HeldTree.{held_tree}
use Rattle.hv_partial.proofs.VariantLemmas.{tree-struct}
use Rattle.hv_eval_state.specs.declared.task.Task.{Task}
use Rattle.hv_eval_state.specs.declared.task.Halt.{Halt}
use Rattle.hv_eval_state.specs.Gives.{Gives, from}
use Rattle.hv_eval_env.specs.declared.level.Level.{Level}
use Rattle.hv_eval_env.specs.Level.{tree_in, locals_in, deeper_in, value_in, block_in, flow_of}
use Rattle.hv_eval_blocks.specs.declared.ways.Went as code
use Rattle.hv_eval_blocks.specs.Runs.{referred, assigned, printed, awaited, dropped}
use Rattle.hv_eval_blocks.specs.Statements.{went_of, flowed_by, statement_in, choices_in, let_in, var_in, returned_in}
use Rattle.hv_eval_operands.specs.Places.{found_by}
use Rattle.hv_eval_blocks.specs.Spawns.{spawned_in, task_in}
use Rattle.hv_eval_calls.specs.Calling.{call_in, child_in}
use Rattle.hv_eval_blocks.proofs.Sequence.{step_on, step_off}

-- ---- returns

pub empty_struct : (parts : List Held) → parts ≡ [] → held_tree (held.Struct parts) ≡ Fields Nil
empty_struct parts e = ap (λ hs. held_tree (held.Struct hs)) e ∙ tree-struct []

-- ---- a statement as what its kind does

pub as_kind : (p q : Plain Went) (n : ℕ) (t u : Task) (r : Result code.Went Halt) → q ≡ p → Gives went_of (from p n t) r u → Gives went_of (from q n t) r u
as_kind p q n t u r e h = subst (λ (w : Plain Went). Gives went_of (from w n t) r u) (sym e) h

through : (p : Plain Flow) (n : ℕ) (t u : Task) (flow : Result (Option Held) Halt) → Gives flow_of (from p n t) flow u → Gives went_of (from (p >>= flowed) n t) (flowed_by flow) u
unfolding pure
through p n t u (Ok None) e = step_on p flowed n t u None e
through p n t u (Ok (Some held)) e = step_on p flowed n t u (Some (held_tree held)) e
through p n t u (Err h) e = λ known. step_off p flowed n t u h (e known)

-- what a block inside comes to
pub as_flow : (p : Plain Flow) (q : Plain Went) (n : ℕ) (t u : Task) (flow : Result (Option Held) Halt) (r : Result code.Went Halt) → q ≡ p >>= flowed → r ≡ flowed_by flow → Gives flow_of (from p n t) flow u → Gives went_of (from q n t) r u
as_flow p q n t u flow r e f h =
    subst (λ (x : Result code.Went Halt). Gives went_of (from q n t) x u) (sym f) (as_kind (p >>= flowed) q n t u (flowed_by flow) e (through p n t u flow h))

-- ---- kinds

module _ (l : Level) (s : Stmt) where
  abbrev done : CoreStmt → Plain Went
  done x = statement (tree_in l) (locals_in l) (deeper_in l) x

  abbrev placed : Name × CoreSteps → Plain Spot
  placed q = found (locals_in l) q.0 (links_from (tree_in l) (locals_in l) (deeper_in l) [] (type_of (locals_in l) q.0) q.1)

  pub by_var : (name : Name) (t : Ty) (value : Option Expr) → (out-Stmt s).kind ≡ stmt.Var name t value → statement_in l s ≡ var_in l name t value
  unfolding statement_in var_in
  by_var name t None h = ap done (lemmas.stmt_var s name t h)
  by_var name t (Some x) h = ap done (lemmas.stmt_var_with s name t x h)

  pub by_let : (name : Name) (t : Ty) (x : Expr) → (out-Stmt s).kind ≡ stmt.Let name t x → statement_in l s ≡ let_in l name x
  unfolding statement_in let_in
  by_let name t x h = ap done (lemmas.stmt_let s name t x h)

  pub by_inout : (name : Name) (t : Ty) (p : PlaceExpr) → (out-Stmt s).kind ≡ stmt.Inout name t p → statement_in l s ≡ referred (locals_in l) Writes name (found_by l p)
  unfolding statement_in referred
  by_inout name t p h =
      ap done (lemmas.stmt_inout s name t p h)
      ∙ ap (λ q. placed q >>= (λ p. local (locals_in l) name >>= (λ r. opening Writes r p))) (lemmas.opened_place p)

  pub by_assign : (p : PlaceExpr) (x : Expr) → (out-Stmt s).kind ≡ stmt.Assign p x → statement_in l s ≡ assigned (value_in l x) (found_by l p)
  unfolding statement_in assigned
  by_assign p x h =
      ap done (lemmas.stmt_assign s p x h)
      ∙ ap (λ q. value_in l x >>= (λ w. placed q >>= (λ p. put_at p w >>= (λ done. pure Goes)))) (lemmas.opened_place p)

  pub by_if : (branches : List Branch) (otherwise : Option Block) → (out-Stmt s).kind ≡ stmt.If branches otherwise → statement_in l s ≡ choices_in l branches otherwise >>= flowed
  unfolding statement_in choices_in
  by_if branches otherwise h = ap done (lemmas.stmt_if s branches otherwise h)

  pub by_while : (test : Expr) (body : Block) → (out-Stmt s).kind ≡ stmt.While test body → statement_in l s ≡ repeated (out-Stmt s).place (value_in l test) (block_in l body) >>= flowed
  unfolding statement_in
  by_while test body h = ap done (lemmas.stmt_while s test body h)

  pub by_return : (value : Option Expr) → (out-Stmt s).kind ≡ stmt.Return value → statement_in l s ≡ returned_in l value
  unfolding statement_in returned_in
  by_return None h = ap done (lemmas.stmt_return s h)
  by_return (Some x) h = ap done (lemmas.stmt_return_with s x h)

  pub by_print : (x : Expr) → (out-Stmt s).kind ≡ stmt.Print x → statement_in l s ≡ printed (value_in l x)
  unfolding statement_in printed
  by_print x h = ap done (lemmas.stmt_print s x h)

  pub by_task : (name : Name) (t : Option Ty) (word : Place) (budget : Expr) (c : Call) → (out-Stmt s).kind ≡ stmt.Task name t word budget c → statement_in l s ≡ task_in l name word budget c
  unfolding statement_in task_in child_in spawned_in
  by_task name t word budget c h = ap done (lemmas.stmt_task s name t word budget c h)

  pub by_await : (name : Name) → (out-Stmt s).kind ≡ stmt.Await name → statement_in l s ≡ awaited (locals_in l) name
  unfolding statement_in awaited
  by_await name h = ap done (lemmas.stmt_await s name h)

  pub by_call : (c : Call) → (out-Stmt s).kind ≡ stmt.Call c → statement_in l s ≡ dropped (call_in l c)
  unfolding statement_in dropped call_in
  by_call c h = ap done (lemmas.stmt_call s c h)

  pub by_block : (b : Block) → (out-Stmt s).kind ≡ stmt.Block b → statement_in l s ≡ block_in l b >>= flowed
  unfolding statement_in
  by_block b h = ap done (lemmas.stmt_block s b h)
