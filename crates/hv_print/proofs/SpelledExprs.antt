-- The tokens of printed expressions and statements spell them, places aside.
use Rattle.std.proofs.Common.{◌≡◌, ℕ, suc, ◌+◌, length, Bool, true, false, List, [], ◌∷◌, ◌++◌, map, Some, None, codes, refl, sym, ap, ◌∙◌, subst}
use Rattle.hv_tree.specs.declared.place.Place.{Place}
use Rattle.hv_tree.specs.declared.types.Name.{Name}
use Rattle.hv_tree.specs.declared.ast.Operator.{Operator}
use Rattle.hv_tree.specs.declared.ast.ExprKind.TheVariants as expr
use Rattle.hv_tree.specs.declared.ast.Step.TheVariants as step
use Rattle.hv_tree.specs.declared.ast.StmtKind.TheVariants as stmt
use Rattle.hv_tree.specs.Tokens.{mark, keyword, word, Level}
use Rattle.hv_tree.specs.Grammar.{expr_at, stmt_at, path_of, call_of, numeral_primary, truth_primary, falsehood_primary, path_primary, call_primary, await_primary, array_primary, filled_primary, count_primary, lambda_primary, AreSteps, none_step, field_step, index_step, IsCall, is_call, AreArgs, none_args, none_stmts, var_stmt, var_with_stmt, let_stmt, inout_stmt, assign_stmt, if_stmt, while_stmt, return_stmt, print_stmt, task_stmt, await_stmt, call_stmt, block_stmt}
use Rattle.hv_tree.specs.Core.{CoreExpr, Number, Truth, Path, Calls, Awaits, Array, Filled, Count, Lambda, Prefix, Chain, CoreExprs, NoExprs, ExprOf, CoreLinks, NoLinks, LinkOf, CoreSteps, NoSteps, FieldStep, IndexStep, CoreCall, CallOf, CoreArgs, NoArgs, ValueArg, RefArg, CoreBlock, BlockOf, CoreStmts, NoStmts, StmtOf, CoreBranches, NoElse, Else, BranchOf, CoreStmt, Var, VarWith, Let, Inout, Assign, If, While, Return, ReturnWith, Print, Task, AwaitsAlone, CallsAlone, Bare, CoreTy, core_steps}
use Rattle.hv_tree.proofs.CoreLemmas as lemmas
use Rattle.hv_print.specs.Aside.{nowhere, name_aside, ty_aside, result_aside, param_aside, expr_aside, exprs_aside, steps_aside, call_aside, args_aside, block_aside, stmt_aside}
use Rattle.hv_print.specs.Pieces.{Piece, WordOf, MarkOf, piece_bytes, here, placed, tokens_of, indent_pieces, comma, names_pieces, typed_pieces, ty_pieces, params_pieces, return_pieces, handle_pieces, operator_piece, expr_pieces, exprs_pieces, steps_pieces, call_pieces, args_pieces, block_pieces, stmt_pieces}
use Rattle.hv_tree.proofs.CoreParts.{core_int, core_truth, core_path_expr, core_calls, core_awaits, core_array, core_filled, core_count, core_lambda, core_called, core_var, core_var_with, core_let, core_inout, core_assign, core_if, core_while, core_return_with, core_print, core_task, core_awaits_alone, core_calls_alone, core_bare}
use Rattle.hv_print.proofs.Proper.{IsOf, MayGoOn, ProperExpr, ProperExprs, ProperLinks, ProperSteps, ProperCall, ProperArgs, ProperBlock, ProperStmts, ProperBranches, ProperStmt}
use Rattle.hv_print.proofs.SpelledTypes.{Reads, behind, split, of_ty}
use Rattle.hv_print.proofs.SpelledParts.{of_names, of_params, of_return, of_handle, seen_params, seen_result}
use Rattle.hv_print.proofs.Levels.{tight_as, seen_expr, ExprReads, any_expr}
use Rattle.hv_print.proofs.SpelledLists.{ElementsAfter, no_element, next_element, put_element, seen_args, ArgsAfter, no_argument, next_argument, put_value, seen_steps, put_ref, all_args}
use Rattle.hv_print.proofs.SpelledNodes.{seen_call, seen_block, LinksRead, put_last, put_link, ChainReads, put_chain, put_prefix, StmtReads, plainly, barely, StmtsRead, put_stmt, put_bare, BlockReads, BranchesRead, no_branch, else_branch, next_branch, put_branch, operand}

abbrev StepsRead : ℕ → ℕ → CoreSteps → Type 0
StepsRead at d steps = Reads AreSteps seen_steps (tokens_of at (steps_pieces d steps)) (steps_aside steps)

abbrev CallReads : ℕ → ℕ → CoreCall → Type 0
CallReads at d c = Reads (IsCall (here at)) seen_call (tokens_of at (call_pieces d c)) (call_aside c)

-- `word: type` behind a word
typed_split : (at : ℕ) (name : Name) (t : CoreTy) (rest : List Piece) →
    tokens_of at (typed_pieces name t ++ rest) ≡ word (placed at name) ∷ mark (codes ":") (here (at + length name.text)) ∷ (tokens_of (at + length name.text + 1 + 1) (ty_pieces t) ++ tokens_of (behind (at + length name.text + 1 + 1) (ty_pieces t)) rest)
typed_split at name t rest = ap (λ x. word (placed at name) ∷ mark (codes ":") (here (at + length name.text)) ∷ x) (split (at + length name.text + 1 + 1) (ty_pieces t) rest)

truth_reads : (at d : ℕ) (p : Place) (b : Bool) → ExprReads at d (Truth p b)
truth_reads at d p true = record { tree = expr_at (here at) (expr.Bool true); spelled = truth_primary (here at) refl refl; same = ap expr_aside (core_truth (here at) true) }
truth_reads at d p false = record { tree = expr_at (here at) (expr.Bool false); spelled = falsehood_primary (here at) refl refl; same = ap expr_aside (core_truth (here at) false) }

mutual
  pub of_expr : (at d : ℕ) (x : CoreExpr) → ProperExpr x → ExprReads at d x
  of_expr at d (Number q z) p = record { tree = expr_at (here at) (expr.Int z); spelled = numeral_primary (here at) z refl refl; same = ap expr_aside (core_int (here at) z) }
  of_expr at d (Truth q b) p = truth_reads at d q b
  of_expr at d (Path q root steps) p =
      let r = of_steps (at + length root.text) d steps p.1 in
      record {
        tree = expr_at (here at) (expr.Path (path_of (placed at root) r.tree));
        spelled = path_primary (placed at root) r.tree _ r.spelled refl refl;
        same = ap expr_aside (core_path_expr (here at) (placed at root) r.tree) ∙ ap (Path nowhere (name_aside root)) r.same;
      }
  of_expr at d (Calls q c) p =
      let r = of_call at d c p in
      record { tree = expr_at (here at) (expr.Call r.tree); spelled = call_primary (here at) r.tree r.spelled refl; same = ap expr_aside (core_calls (here at) r.tree) ∙ ap (Calls nowhere) r.same }
  of_expr at d (Awaits q name) p = record {
    tree = expr_at (here at) (expr.Await (placed (at + 5 + 1) name));
    spelled = await_primary (here at) (placed (at + 5 + 1) name) refl refl;
    same = ap expr_aside (core_awaits (here at) (placed (at + 5 + 1) name));
  }
  of_expr at d (Array q NoExprs) p = absurd p.0
  of_expr at d (Array q (ExprOf x more)) p =
      let ps = expr_pieces d x ++ exprs_pieces d comma more in
      let r = put_element (at + 1) (expr_pieces d x) (exprs_pieces d comma more) (expr_aside x) (exprs_aside more) (any_expr (at + 1) d x (of_expr (at + 1) d x p.1.0)) (elements_after (behind (at + 1) (expr_pieces d x)) d more p.1.1) in
      record {
        tree = expr_at (here at) (expr.ArrayLit r.tree);
        spelled = array_primary (here at) (here (behind (at + 1) ps)) r.tree (tokens_of (at + 1) ps) r.spelled refl (ap (λ t. mark (codes "[") (here at) ∷ t) (split (at + 1) ps (MarkOf (codes "]") ∷ [])));
        same = ap expr_aside (core_array (here at) r.tree) ∙ ap (Array nowhere) r.same;
      }
  of_expr at d (Filled q len value) p =
      let a1 = at + 6 + 1 in
      let b1 = behind a1 (expr_pieces d len) in
      let a2 = b1 + 1 + 1 in
      let b2 = behind a2 (expr_pieces d value) in
      let r = any_expr a1 d len (of_expr a1 d len p.0) in
      let s = any_expr a2 d value (of_expr a2 d value p.1) in
      record {
        tree = expr_at (here at) (expr.Filled r.tree s.tree);
        spelled = filled_primary (here at) (here (at + 6)) (here b1) (here b2) r.tree s.tree (tokens_of a1 (expr_pieces d len)) (tokens_of a2 (expr_pieces d value)) r.spelled s.spelled refl
            (ap (λ t. keyword (codes "filled") (here at) ∷ mark (codes "(") (here (at + 6)) ∷ t)
            (split a1 (expr_pieces d len) _ ∙ ap (λ t. tokens_of a1 (expr_pieces d len) ++ mark (codes ",") (here b1) ∷ t) (split a2 (expr_pieces d value) (MarkOf (codes ")") ∷ []))));
        same = ap expr_aside (core_filled (here at) r.tree s.tree) ∙ ap (λ x. Filled nowhere x (seen_expr s.tree)) r.same ∙ ap (Filled nowhere (expr_aside len)) s.same;
      }
  of_expr at d (Count q root steps) p =
      let a1 = at + 5 + 1 in
      let a2 = a1 + length root.text in
      let r = of_steps a2 d steps p.1 in
      record {
        tree = expr_at (here at) (expr.Count (path_of (placed a1 root) r.tree));
        spelled = count_primary (here at) (here (at + 5)) (here (behind a2 (steps_pieces d steps))) (placed a1 root) r.tree (tokens_of a2 (steps_pieces d steps)) r.spelled refl
            (ap (λ t. keyword (codes "count") (here at) ∷ mark (codes "(") (here (at + 5)) ∷ word (placed a1 root) ∷ t) (split a2 (steps_pieces d steps) (MarkOf (codes ")") ∷ [])));
        same = ap expr_aside (core_count (here at) (placed a1 root) r.tree) ∙ ap (Count nowhere (name_aside root)) r.same;
      }
  of_expr at d (Lambda q captures params result body) p =
      let a1 = at + 3 + 1 + 1 in
      let c1 = behind a1 (names_pieces [] captures) in
      let a2 = c1 + 1 + 1 + 1 in
      let c2 = behind a2 (params_pieces [] params) in
      let a3 = c2 + 1 in
      let a4 = behind a3 (return_pieces result) in
      let n = of_names a1 captures in
      let m = of_params a2 params in
      let r = of_return a3 result in
      let b = of_block a4 d body p.3 in
      record {
        tree = expr_at (here at) (expr.Lambda n.tree m.tree r.tree b.tree);
        spelled = lambda_primary (here at) (here (at + 3 + 1)) (here c1) (here (c1 + 1 + 1)) (here c2) n.tree m.tree r.tree b.tree (tokens_of a1 (names_pieces [] captures)) (tokens_of a2 (params_pieces [] params)) (tokens_of a3 (return_pieces result))
            (tokens_of a4 (block_pieces d body)) n.spelled m.spelled r.spelled b.spelled refl
            (ap (λ t. keyword (codes "fun") (here at) ∷ mark (codes "[") (here (at + 3 + 1)) ∷ t)
            (split a1 (names_pieces [] captures) _ ∙ ap (λ t. tokens_of a1 (names_pieces [] captures) ++ mark (codes "]") (here c1) ∷ mark (codes "(") (here (c1 + 1 + 1)) ∷ t)
            (split a2 (params_pieces [] params) _ ∙ ap (λ t. tokens_of a2 (params_pieces [] params) ++ mark (codes ")") (here c2) ∷ t) (split a3 (return_pieces result) (block_pieces d body)))));
        same = ap expr_aside (core_lambda (here at) n.tree m.tree r.tree b.tree)
            ∙ ap (λ ns. Lambda nowhere ns (seen_params m.tree) (seen_result r.tree) (seen_block b.tree)) n.same
            ∙ ap (λ ps. Lambda nowhere (map name_aside captures) ps (seen_result r.tree) (seen_block b.tree)) m.same
            ∙ ap (λ t. Lambda nowhere (map name_aside captures) (map param_aside params) t (seen_block b.tree)) r.same
            ∙ ap (Lambda nowhere (map name_aside captures) (map param_aside params) (result_aside result)) b.same;
      }
  of_expr at d (Prefix q o x) p = put_prefix at d q o x p.0 (λ a. of_expr a d x p.1)
  of_expr at d (Chain q first NoLinks) p = absurd p.1
  of_expr at d (Chain q first (LinkOf o r x more)) p =
      let l = p.2.0 in
      let m = p.2.1 in
      subst (λ n. ChainReads at d n first (LinkOf o r x more)) (sym (tight_as l o m.0))
      (put_chain at d l first (LinkOf o r x more) (λ a. of_expr a d first p.0) (some_links (behind at (operand d l first)) d l o r x m.0 (λ a. of_expr a d x m.1) more m.2 m.3))

  some_links : (at d : ℕ) (l : Level) (o : Operator) (q : Place) (x : CoreExpr) → IsOf l o → ((a : ℕ) → ExprReads a d x) → (more : CoreLinks) → MayGoOn l more → ProperLinks l more → LinksRead at d l (LinkOf o q x more)
  some_links at d l o q x is i NoLinks ne p = put_last at d l o q x is i
  some_links at d l o q x is i (LinkOf o2 q2 x2 more) ne p =
      put_link at d l o q x (LinkOf o2 q2 x2 more) is i ne (some_links (behind (at + 1 + length (piece_bytes (operator_piece o)) + 1) (operand d l x)) d l o2 q2 x2 p.0 (λ a. of_expr a d x2 p.1) more p.2 p.3)

  elements_after : (at d : ℕ) (xs : CoreExprs) → ProperExprs xs → ElementsAfter at (exprs_pieces d comma xs) (exprs_aside xs)
  elements_after at d NoExprs p = no_element refl refl
  elements_after at d (ExprOf x more) p =
      next_element (tokens_of (at + 1 + 1) (expr_pieces d x ++ exprs_pieces d comma more)) refl
      (put_element (at + 1 + 1) (expr_pieces d x) (exprs_pieces d comma more) (expr_aside x) (exprs_aside more) (any_expr (at + 1 + 1) d x (of_expr (at + 1 + 1) d x p.0)) (elements_after (behind (at + 1 + 1) (expr_pieces d x)) d more p.1))

  of_steps : (at d : ℕ) (steps : CoreSteps) → ProperSteps steps → StepsRead at d steps
  of_steps at d NoSteps p = record { tree = []; spelled = none_step refl refl; same = refl }
  of_steps at d (FieldStep name more) p =
      let r = of_steps (at + 1 + length name.text) d more p.1 in
      record {
        tree = step.Field (placed (at + 1) name) ∷ r.tree;
        spelled = field_step (here at) (placed (at + 1) name) r.tree _ r.spelled refl refl;
        same = ap steps_aside (lemmas.step_field (core_steps r.tree) (placed (at + 1) name)) ∙ ap (FieldStep (name_aside name)) r.same;
      }
  of_steps at d (IndexStep q x more) p =
      let a1 = at + 1 in
      let c = behind a1 (expr_pieces d x) in
      let i = any_expr a1 d x (of_expr a1 d x p.0) in
      let r = of_steps (c + 1) d more p.1 in
      record {
        tree = step.Index (here at) i.tree ∷ r.tree;
        spelled = index_step (here at) (here c) i.tree r.tree (tokens_of a1 (expr_pieces d x)) (tokens_of (c + 1) (steps_pieces d more)) i.spelled r.spelled refl (ap (λ t. mark (codes "[") (here at) ∷ t) (split a1 (expr_pieces d x) _));
        same = ap steps_aside (lemmas.step_index (core_steps r.tree) (here at) i.tree) ∙ ap (λ x. IndexStep nowhere x (seen_steps r.tree)) i.same ∙ ap (IndexStep nowhere (expr_aside x)) r.same;
      }

  of_call : (at d : ℕ) (c : CoreCall) → ProperCall c → CallReads at d c
  of_call at d (CallOf root steps q args) p =
      let a1 = at + length root.text in
      let paren = behind a1 (steps_pieces d steps) in
      let a2 = paren + 1 in
      let close = behind a2 (args_pieces d [] args) in
      let r = of_steps a1 d steps p.1 in
      let s = of_args a2 d args p.2 in
      record {
        tree = call_of (path_of (placed at root) r.tree) (here paren) s.tree;
        spelled = is_call (placed at root) r.tree (here paren) (here close) s.tree (tokens_of a1 (steps_pieces d steps)) (tokens_of a2 (args_pieces d [] args)) r.spelled s.spelled refl refl
            (ap (λ t. word (placed at root) ∷ t) (split a1 (steps_pieces d steps) _ ∙ ap (λ t. tokens_of a1 (steps_pieces d steps) ++ mark (codes "(") (here paren) ∷ t) (split a2 (args_pieces d [] args) (MarkOf (codes ")") ∷ []))));
        same = ap call_aside (core_called (placed at root) r.tree (here paren) s.tree) ∙ ap (λ x. CallOf (name_aside root) x nowhere (seen_args s.tree)) r.same ∙ ap (CallOf (name_aside root) (steps_aside steps) nowhere) s.same;
      }

  of_args : (at d : ℕ) (args : CoreArgs) → ProperArgs args → Reads AreArgs seen_args (tokens_of at (args_pieces d [] args)) (args_aside args)
  of_args at d NoArgs p = record { tree = []; spelled = none_args refl refl; same = refl }
  of_args at d (ValueArg x more) p =
      all_args (put_value at (expr_pieces d x) (args_pieces d comma more) (expr_aside x) (args_aside more) (any_expr at d x (of_expr at d x p.0)) (args_after (behind at (expr_pieces d x)) d more p.1))
  of_args at d (RefArg q root steps more) p =
      all_args (put_ref at (MarkOf (codes "&") ∷ WordOf root ∷ steps_pieces d steps) (args_pieces d comma more) root (steps_aside steps) (args_aside more) (here at) (placed (at + 1) root) refl
      (tokens_of (at + 1 + length root.text) (steps_pieces d steps)) (of_steps (at + 1 + length root.text) d steps p.1) refl (args_after (behind (at + 1 + length root.text) (steps_pieces d steps)) d more p.2))

  args_after : (at d : ℕ) (args : CoreArgs) → ProperArgs args → ArgsAfter at (args_pieces d comma args) (args_aside args)
  args_after at d NoArgs p = no_argument refl refl
  args_after at d (ValueArg x more) p =
      let a = at + 1 + 1 in
      next_argument (tokens_of a (expr_pieces d x ++ args_pieces d comma more)) refl
      (put_value a (expr_pieces d x) (args_pieces d comma more) (expr_aside x) (args_aside more) (any_expr a d x (of_expr a d x p.0)) (args_after (behind a (expr_pieces d x)) d more p.1))
  args_after at d (RefArg q root steps more) p =
      let a = at + 1 + 1 in
      next_argument (tokens_of a (MarkOf (codes "&") ∷ WordOf root ∷ (steps_pieces d steps ++ args_pieces d comma more))) refl
      (put_ref a (MarkOf (codes "&") ∷ WordOf root ∷ steps_pieces d steps) (args_pieces d comma more) root (steps_aside steps) (args_aside more) (here a) (placed (a + 1) root) refl
      (tokens_of (a + 1 + length root.text) (steps_pieces d steps)) (of_steps (a + 1 + length root.text) d steps p.1) refl (args_after (behind (a + 1 + length root.text) (steps_pieces d steps)) d more p.2))

  pub of_block : (at d : ℕ) (b : CoreBlock) → ProperBlock b → BlockReads at d b
  of_block at d (BlockOf xs end) p = put_bare (at + 1) d xs end (of_stmts (at + 1 + 1 + 1) (suc d) xs p)

  of_stmts : (at d : ℕ) (xs : CoreStmts) → ProperStmts xs → StmtsRead at d xs
  of_stmts at d NoStmts p = record { tree = []; spelled = none_stmts refl refl; same = refl }
  of_stmts at d (StmtOf x more) p =
      let a0 = behind at (indent_pieces d) in
      put_stmt at d x more (of_stmt a0 d x p.0) (of_stmts (behind a0 (stmt_pieces d x) + 1) d more p.1)

  of_branches : (at d : ℕ) (test : CoreExpr) (body : CoreBlock) → ((a : ℕ) → ExprReads a d test) → ((a : ℕ) → BlockReads a d body) → (more : CoreBranches) → ProperBranches more → BranchesRead at d test body more
  of_branches at d test body i b NoElse p = put_branch at d test body NoElse (i (at + 2 + 1)) b (no_branch refl refl)
  of_branches at d test body i b (Else final) p =
      let a3 = behind (behind (at + 2 + 1) (expr_pieces d test)) (block_pieces d body) in
      let r = of_block (a3 + 1 + 4) d final p in
      put_branch at d test body (Else final) (i (at + 2 + 1)) b (else_branch (tokens_of (a3 + 1 + 4) (block_pieces d final)) refl (block_aside final) r refl)
  of_branches at d test body i b (BranchOf t2 b2 more) p =
      let a3 = behind (behind (at + 2 + 1) (expr_pieces d test)) (block_pieces d body) in
      let r = of_branches (a3 + 1 + 4 + 1) d t2 b2 (λ a. of_expr a d t2 p.0) (λ a. of_block a d b2 p.1) more p.2 in
      put_branch at d test body (BranchOf t2 b2 more) (i (at + 2 + 1)) b (next_branch (here (a3 + 1 + 4 + 1)) _ refl r)

  of_stmt : (at d : ℕ) (x : CoreStmt) → ProperStmt x → StmtReads at d x
  of_stmt at d (Var q name t) p =
      let a1 = at + 3 + 1 in
      let a2 = a1 + length name.text + 1 + 1 in
      let r = (of_ty a2 t).any in
      plainly (record {
        tree = stmt_at (here at) (stmt.Var (placed a1 name) r.tree None);
        spelled = var_stmt (here at) (here (a1 + length name.text)) (placed a1 name) r.tree (tokens_of a2 (ty_pieces t)) r.spelled refl refl;
        same = ap stmt_aside (core_var (here at) (placed a1 name) r.tree) ∙ ap (Var nowhere (name_aside name)) r.same;
      })
  of_stmt at d (VarWith q name t x) p =
      let a1 = at + 3 + 1 in
      let a2 = a1 + length name.text + 1 + 1 in
      let e = behind a2 (ty_pieces t) + 1 in
      let a3 = e + 1 + 1 in
      let r = (of_ty a2 t).any in
      let v = any_expr a3 d x (of_expr a3 d x p.2) in
      plainly (record {
        tree = stmt_at (here at) (stmt.Var (placed a1 name) r.tree (Some v.tree));
        spelled = var_with_stmt (here at) (here (a1 + length name.text)) (here e) (placed a1 name) r.tree v.tree (tokens_of a2 (ty_pieces t)) (tokens_of a3 (expr_pieces d x)) r.spelled v.spelled refl (ap (λ t. keyword (codes "var") (here at) ∷ t) (typed_split a1 name t _));
        same = ap stmt_aside (core_var_with (here at) (placed a1 name) r.tree v.tree) ∙ ap (λ t. VarWith nowhere (name_aside name) t (seen_expr v.tree)) r.same ∙ ap (VarWith nowhere (name_aside name) (ty_aside t)) v.same;
      })
  of_stmt at d (Let q name t x) p =
      let a1 = at + 3 + 1 in
      let a2 = a1 + length name.text + 1 + 1 in
      let e = behind a2 (ty_pieces t) + 1 in
      let a3 = e + 1 + 1 in
      let r = (of_ty a2 t).any in
      let v = any_expr a3 d x (of_expr a3 d x p.2) in
      plainly (record {
        tree = stmt_at (here at) (stmt.Let (placed a1 name) r.tree v.tree);
        spelled = let_stmt (here at) (here (a1 + length name.text)) (here e) (placed a1 name) r.tree v.tree (tokens_of a2 (ty_pieces t)) (tokens_of a3 (expr_pieces d x)) r.spelled v.spelled refl (ap (λ t. keyword (codes "let") (here at) ∷ t) (typed_split a1 name t _));
        same = ap stmt_aside (core_let (here at) (placed a1 name) r.tree v.tree) ∙ ap (λ t. Let nowhere (name_aside name) t (seen_expr v.tree)) r.same ∙ ap (Let nowhere (name_aside name) (ty_aside t)) v.same;
      })
  of_stmt at d (Inout q name t root steps) p =
      let a1 = at + 5 + 1 in
      let a2 = a1 + length name.text + 1 + 1 in
      let e = behind a2 (ty_pieces t) + 1 in
      let f = e + 1 + 1 in
      let a3 = f + 1 in
      let a4 = a3 + length root.text in
      let r = (of_ty a2 t).any in
      let s = of_steps a4 d steps p.3 in
      plainly (record {
        tree = stmt_at (here at) (stmt.Inout (placed a1 name) r.tree (path_of (placed a3 root) s.tree));
        spelled = inout_stmt (here at) (here (a1 + length name.text)) (here e) (here f) (placed a1 name) r.tree (placed a3 root) s.tree (tokens_of a2 (ty_pieces t)) (tokens_of a4 (steps_pieces d steps)) r.spelled s.spelled refl
            (ap (λ t. keyword (codes "inout") (here at) ∷ t) (typed_split a1 name t _));
        same = ap stmt_aside (core_inout (here at) (placed a1 name) r.tree (placed a3 root) s.tree) ∙ ap (λ t. Inout nowhere (name_aside name) t (name_aside root) (seen_steps s.tree)) r.same ∙ ap (Inout nowhere (name_aside name) (ty_aside t) (name_aside root)) s.same;
      })
  of_stmt at d (Assign q root steps x) p =
      let a1 = at + 1 in
      let a2 = a1 + length root.text in
      let e = behind a2 (steps_pieces d steps) + 1 in
      let a3 = e + 1 + 1 in
      let s = of_steps a2 d steps p.1 in
      let v = any_expr a3 d x (of_expr a3 d x p.2) in
      plainly (record {
        tree = stmt_at (here at) (stmt.Assign (path_of (placed a1 root) s.tree) v.tree);
        spelled = assign_stmt (here at) (here e) (placed a1 root) s.tree v.tree (tokens_of a2 (steps_pieces d steps)) (tokens_of a3 (expr_pieces d x)) s.spelled v.spelled refl
            (ap (λ t. mark (codes "&") (here at) ∷ word (placed a1 root) ∷ t) (split a2 (steps_pieces d steps) _));
        same = ap stmt_aside (core_assign (here at) (placed a1 root) s.tree v.tree) ∙ ap (λ x. Assign nowhere (name_aside root) x (seen_expr v.tree)) s.same ∙ ap (Assign nowhere (name_aside root) (steps_aside steps)) v.same;
      })
  of_stmt at d (If q NoElse) p = absurd p.0
  of_stmt at d (If q (Else b)) p = absurd p.0
  of_stmt at d (If q (BranchOf test body more)) p =
      let r = of_branches at d test body (λ a. of_expr a d test p.1.0) (λ a. of_block a d body p.1.1) more p.1.2 in
      plainly (record {
        tree = stmt_at (here at) (stmt.If r.tree.0 r.tree.1);
        spelled = if_stmt (here at) r.tree.0 r.tree.1 r.spelled refl;
        same = ap stmt_aside (core_if (here at) r.tree.0 r.tree.1) ∙ ap (If nowhere) r.same;
      })
  of_stmt at d (While q test body) p =
      let a1 = at + 5 + 1 in
      let a2 = behind a1 (expr_pieces d test) in
      let v = any_expr a1 d test (of_expr a1 d test p.0) in
      let b = of_block a2 d body p.1 in
      plainly (record {
        tree = stmt_at (here at) (stmt.While v.tree b.tree);
        spelled = while_stmt (here at) v.tree b.tree (tokens_of a1 (expr_pieces d test)) (tokens_of a2 (block_pieces d body)) v.spelled b.spelled refl (ap (λ t. keyword (codes "while") (here at) ∷ t) (split a1 (expr_pieces d test) (block_pieces d body)));
        same = ap stmt_aside (core_while (here at) v.tree b.tree) ∙ ap (λ x. While nowhere x (seen_block b.tree)) v.same ∙ ap (While nowhere (expr_aside test)) b.same;
      })
  of_stmt at d (Return q) p = barely refl refl
  of_stmt at d (ReturnWith q x) p =
      let a1 = at + 6 + 1 in
      let v = any_expr a1 d x (of_expr a1 d x p) in
      plainly (record { tree = stmt_at (here at) (stmt.Return (Some v.tree)); spelled = return_stmt (here at) v.tree _ v.spelled refl refl; same = ap stmt_aside (core_return_with (here at) v.tree) ∙ ap (ReturnWith nowhere) v.same })
  of_stmt at d (Print q x) p =
      let a1 = at + 5 + 1 in
      let v = any_expr a1 d x (of_expr a1 d x p) in
      plainly (record {
        tree = stmt_at (here at) (stmt.Print v.tree);
        spelled = print_stmt (here at) (here (at + 5)) (here (behind a1 (expr_pieces d x))) v.tree (tokens_of a1 (expr_pieces d x)) v.spelled refl
            (ap (λ t. keyword (codes "print") (here at) ∷ mark (codes "(") (here (at + 5)) ∷ t) (split a1 (expr_pieces d x) (MarkOf (codes ")") ∷ [])));
        same = ap stmt_aside (core_print (here at) v.tree) ∙ ap (Print nowhere) v.same;
      })
  of_stmt at d (Task q handle t spawn budget c) p =
      let a1 = at + 4 + 1 in
      let a2 = a1 + length handle.text in
      let e = behind a2 (handle_pieces t) + 1 in
      let f = e + 1 + 1 in
      let a3 = f + 5 + 1 in
      let close = behind a3 (expr_pieces d budget) in
      let a4 = close + 1 + 1 in
      let r = of_handle a2 t in
      let v = any_expr a3 d budget (of_expr a3 d budget p.2) in
      let k = of_call a4 d c p.3 in
      plainly (record {
        tree = stmt_at (here at) (stmt.Task (placed a1 handle) r.tree (here f) v.tree k.tree);
        spelled = task_stmt (here at) (here e) (here f) (here (f + 5)) (here close) (placed a1 handle) r.tree v.tree k.tree (here a4) (tokens_of a2 (handle_pieces t)) (tokens_of a3 (expr_pieces d budget)) (tokens_of a4 (call_pieces d c))
            r.spelled v.spelled k.spelled refl
            (ap (λ t. keyword (codes "task") (here at) ∷ word (placed a1 handle) ∷ t)
            (split a2 (handle_pieces t) _ ∙ ap (λ x. tokens_of a2 (handle_pieces t) ++ mark (codes "=") (here e) ∷ keyword (codes "spawn") (here f) ∷ mark (codes "(") (here (f + 5)) ∷ x) (split a3 (expr_pieces d budget) _)));
        same = ap stmt_aside (core_task (here at) (placed a1 handle) r.tree (here f) v.tree k.tree) ∙ ap (λ t. Task nowhere (name_aside handle) t nowhere (seen_expr v.tree) (seen_call k.tree)) r.same ∙
            ap (λ x. Task nowhere (name_aside handle) (result_aside t) nowhere x (seen_call k.tree)) v.same ∙ ap (Task nowhere (name_aside handle) (result_aside t) nowhere (expr_aside budget)) k.same;
      })
  of_stmt at d (AwaitsAlone q name) p = plainly (record {
    tree = stmt_at (here at) (stmt.Await (placed (at + 5 + 1) name));
    spelled = await_stmt (here at) (placed (at + 5 + 1) name) refl refl;
    same = ap stmt_aside (core_awaits_alone (here at) (placed (at + 5 + 1) name));
  })
  of_stmt at d (CallsAlone q c) p =
      let r = of_call at d c p in
      plainly (record { tree = stmt_at (here at) (stmt.Call r.tree); spelled = call_stmt (here at) r.tree r.spelled refl; same = ap stmt_aside (core_calls_alone (here at) r.tree) ∙ ap (CallsAlone nowhere) r.same })
  of_stmt at d (Bare q (BlockOf xs end)) p =
      let r = put_bare at d xs end (of_stmts (at + 1 + 1) (suc d) xs p) in
      plainly (record { tree = stmt_at (here at) (stmt.Block r.tree); spelled = block_stmt (here at) r.tree _ r.spelled refl refl; same = ap stmt_aside (core_bare (here at) r.tree) ∙ ap (Bare nowhere) r.same })
