-- The statements of a block, as code goes through them.
use Rattle.std.proofs.Common.{◌≡◌, ◌<◌, ◌≤◌, ◌+◌, ℕ, List, [], ◌∷◌, ◌++◌, length, drop, get_or, Option, Some, None, Result, refl, sym, subst, ap, ◌∙◌}
use Rattle.std.proofs.lemmas.List.{drop_all}
use Rattle.hv_tree.specs.declared.place.Place.{Place}
use Rattle.hv_tree.specs.declared.ast.Arg.{Arg}
use Rattle.hv_tree.specs.declared.ast.Block.{Block, out-Block}
use Rattle.hv_tree.specs.declared.ast.Branch.{Branch}
use Rattle.hv_tree.specs.declared.ast.Call.{Call}
use Rattle.hv_tree.specs.declared.ast.Expr.{Expr}
use Rattle.hv_tree.specs.declared.ast.ExprKind.{ExprKind}
use Rattle.hv_tree.specs.declared.ast.PlaceExpr.{PlaceExpr}
use Rattle.hv_tree.specs.declared.ast.Step.{Step}
use Rattle.hv_tree.specs.declared.ast.Stmt.{Stmt, out-Stmt}
use Rattle.hv_tree.specs.declared.ast.StmtKind.{StmtKind, out-StmtKind}
use Rattle.hv_tree.specs.declared.ast.Arg.TheOpen.{StmtKind-F}
use Rattle.hv_tree.specs.Core.{core_stmt, core_stmts, core_stmt_kind}
use Rattle.hv_tree.proofs.CoreLemmas as lemmas
use Rattle.hv_lemmas.proofs.Lists.{first_left}
use Rattle.hv_value.specs.ValueTree.{ValueTree}
use Rattle.hv_sem_copying.specs.Run.{Res, Is, Now, Flow, ◌>>=◌, pure, pay}
use Rattle.hv_sem_copying.specs.Blocks.{first_token}
use Rattle.hv_sem_copying.specs.Copying.{Locals}
use Rattle.hv_sem_copying.proofs.RunLaws.{bind_assoc}
use Rattle.hv_sem_flat.specs.Accesses.{Plain, Access, shut}
use Rattle.hv_sem_flat.specs.Parts.{Went, Leaves, Goes, Opens, went}
use Rattle.hv_sem_flat.specs.Flat.{block, statement, statements}
use Rattle.hv_eval_state.specs.declared.access.Access as held
use Rattle.hv_eval_state.specs.declared.task.Task.{Task}
use Rattle.hv_eval_state.specs.declared.task.Halt.{Halt}
use Rattle.hv_eval_state.specs.Opened.{access_of, onto, last_first}
use Rattle.hv_eval_state.specs.Gives.{Gives, now_of, from, halted}
use Rattle.hv_eval_env.specs.declared.level.Level.{Level}
use Rattle.hv_eval_env.specs.Level.{tree_in, locals_in, deeper_in, block_in}
use Rattle.hv_eval_blocks.specs.declared.ways.Went as code
use Rattle.hv_eval_blocks.specs.Statements.{went_of, statement_in, paid_in, statements_in}
use Rattle.hv_eval_blocks.proofs.Sequence.{step_on, step_off}

-- ---- the first token

abbrev StmtLayer : Type 0
StmtLayer = StmtKind-F Arg ExprKind Step StmtKind Block Branch Call Expr PlaceExpr Stmt

first_of_kind : (k : StmtKind) (at : Place) (u : StmtLayer) → out-StmtKind k ≡ u → first_token (core_stmt_kind k at) ≡ at
first_of_kind k at (StmtKind-F.Var name t None) e = ap first_token (lemmas.alone_var k at name t e)
first_of_kind k at (StmtKind-F.Var name t (Some x)) e = ap first_token (lemmas.alone_var_with k at name t x e)
first_of_kind k at (StmtKind-F.Let name t x) e = ap first_token (lemmas.alone_let k at name t x e)
first_of_kind k at (StmtKind-F.Inout name t p) e = ap first_token (lemmas.alone_inout k at name t p e)
first_of_kind k at (StmtKind-F.Assign p x) e = ap first_token (lemmas.alone_assign k at p x e)
first_of_kind k at (StmtKind-F.If branches otherwise) e = ap first_token (lemmas.alone_if k at branches otherwise e)
first_of_kind k at (StmtKind-F.While test body) e = ap first_token (lemmas.alone_while k at test body e)
first_of_kind k at (StmtKind-F.Return None) e = ap first_token (lemmas.alone_return k at e)
first_of_kind k at (StmtKind-F.Return (Some x)) e = ap first_token (lemmas.alone_return_with k at x e)
first_of_kind k at (StmtKind-F.Print x) e = ap first_token (lemmas.alone_print k at x e)
first_of_kind k at (StmtKind-F.Task name t word budget c) e = ap first_token (lemmas.alone_task k at name t word budget c e)
first_of_kind k at (StmtKind-F.StmtKind::Await name) e = ap first_token (lemmas.alone_await k at name e)
first_of_kind k at (StmtKind-F.StmtKind::Call c) e = ap first_token (lemmas.alone_call k at c e)
first_of_kind k at (StmtKind-F.Block b) e = ap first_token (lemmas.alone_block k at b e)

first_placed : (s : Stmt) → first_token (core_stmt s) ≡ (out-Stmt s).place
first_placed s = ap first_token (lemmas.opened_stmt s) ∙ first_of_kind (out-Stmt s).kind (out-Stmt s).place (out-StmtKind (out-Stmt s).kind) refl

-- ---- open accesses

onto-last : (done : List Access) (opened : List held.Access) (a : held.Access) → onto done (opened ++ a ∷ []) ≡ access_of a ∷ onto done opened
onto-last done [] a = refl
onto-last done (b ∷ opened) a = onto-last (access_of b ∷ done) opened a

-- ---- statements

module _ (l : Level) where
  statements_first : (s : Stmt) (rest : List Stmt) (opens : List Access) → statements_in l (s ∷ rest) opens ≡ paid_in l s >>= (λ w. went w opens (statements_in l rest))
  unfolding statements_in paid_in statement_in
  statements_first s rest opens =
      ap (λ at. pay 1 at >>= (λ paid. statement_in l s >>= (λ w. went w opens (statements_in l rest)))) (first_placed s)
      ∙ sym (bind_assoc (pay 1 (out-Stmt s).place) (λ paid. statement_in l s) (λ w. went w opens (statements_in l rest)))

  pub paid_by : (s : Stmt) (n : ℕ) (t u w : Task) (r : Result code.Went Halt) → from (pay 1 (out-Stmt s).place) n t ≡ Is (now_of u, tt) → Gives went_of (from (statement_in l s) n u) r w → Gives went_of (from (paid_in l s) n t) r w
  unfolding paid_in
  paid_by s n t u w r e h = subst (λ (x : Res (Now Locals × Went)). Gives went_of x r w) (sym (step_on (pay 1 (out-Stmt s).place) (λ paid. statement_in l s) n t u tt e)) h

  over : (opens : List Access) (n : ℕ) (t : Task) → from (statements_in l [] opens) n t ≡ Is (now_of t, (None, opens))
  unfolding statements_in pure
  over opens n t = refl

  pub statements_over : (stmts : List Stmt) (i : ℕ) (opens : List Access) (n : ℕ) (t : Task) → length stmts ≤ i → from (statements_in l (drop i stmts) opens) n t ≡ Is (now_of t, (None, opens))
  statements_over stmts i opens n t past = ap (λ ss. from (statements_in l ss opens) n t) (drop_all i stmts past) ∙ over opens n t

  module _ (stmts : List Stmt) (i : ℕ) (s : Stmt) (opens : List Access) (used : ℕ) (t u : Task) (within : i < length stmts) (is : s ≡ get_or stmts i s) where
    statements_next : statements_in l (drop i stmts) opens ≡ paid_in l s >>= (λ w. went w opens (statements_in l (drop (i + 1) stmts)))
    statements_next = ap (λ ss. statements_in l ss opens) (first_left stmts i s within is) ∙ statements_first s (drop (i + 1) stmts) opens

    pub statement_goes : from (paid_in l s) used t ≡ Is (now_of u, Goes) → from (statements_in l (drop i stmts) opens) used t ≡ from (statements_in l (drop (i + 1) stmts) opens) used u
    statement_goes e = ap (λ p. from p used t) statements_next ∙ step_on (paid_in l s) (λ w. went w opens (statements_in l (drop (i + 1) stmts))) used t u Goes e

    pub statement_opens : (a : Access) → from (paid_in l s) used t ≡ Is (now_of u, Opens a) → from (statements_in l (drop i stmts) opens) used t ≡ from (statements_in l (drop (i + 1) stmts) (a ∷ opens)) used u
    statement_opens a e = ap (λ p. from p used t) statements_next ∙ step_on (paid_in l s) (λ w. went w opens (statements_in l (drop (i + 1) stmts))) used t u (Opens a) e

    pub statement_leaves : (v : ValueTree) → from (paid_in l s) used t ≡ Is (now_of u, Leaves v) → from (statements_in l (drop i stmts) opens) used t ≡ Is (now_of u, (Some v, opens))
    unfolding pure
    statement_leaves v e = ap (λ p. from p used t) statements_next ∙ step_on (paid_in l s) (λ w. went w opens (statements_in l (drop (i + 1) stmts))) used t u (Leaves v) e

    pub statement_halted : (h : Halt) → from (paid_in l s) used t ≡ halted h u → from (statements_in l (drop i stmts) opens) used t ≡ halted h u
    statement_halted h e = ap (λ p. from p used t) statements_next ∙ step_off (paid_in l s) (λ w. went w opens (statements_in l (drop (i + 1) stmts))) used t u h e

  pub block_first : (b : Block) (stmts : List Stmt) → stmts ≡ (out-Block b).stmts → block_in l b ≡ statements_in l stmts [] >>= (λ r. shut r.1 r.0)
  unfolding statements_in
  block_first b stmts e =
      ap (block (tree_in l) (locals_in l) (deeper_in l)) (lemmas.opened_block b)
      ∙ ap (λ ss. statements_in l ss [] >>= (λ r. shut r.1 r.0)) (sym e)

-- an access more
pub last_first-more : (opened now : List held.Access) (a : held.Access) → now ≡ opened ++ a ∷ [] → last_first now ≡ access_of a ∷ last_first opened
last_first-more opened now a e = ap last_first e ∙ onto-last [] opened a

pub ruleset by_statements = (statements_over, statement_goes, statement_opens, statement_leaves, statement_halted, last_first-more)
