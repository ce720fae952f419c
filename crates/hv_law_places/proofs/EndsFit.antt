-- Bodies end at no more places than the tokens that spell them have.
use Rattle.std.proofs.Common.{◌≡◌, ◌≤◌, ℕ, ◌+◌, List, [], ◌∷◌, ◌++◌, map, true, false, Option, Some, None, codes, refl, sym, ap, subst, ◌∙◌, arith}
use Rattle.hv_tree.specs.declared.place.Place.{Place}
use Rattle.hv_tree.specs.declared.token.Token.{Token}
use Rattle.hv_tree.specs.declared.types.Name.{Name}
use Rattle.hv_tree.specs.declared.ast.Operator.{Operator}
use Rattle.hv_tree.specs.declared.ast.Arg.{Arg}
use Rattle.hv_tree.specs.declared.ast.Block.{Block}
use Rattle.hv_tree.specs.declared.ast.Branch.{Branch}
use Rattle.hv_tree.specs.declared.ast.Call.{Call}
use Rattle.hv_tree.specs.declared.ast.Decl.{Decl}
use Rattle.hv_tree.specs.declared.ast.Expr.{Expr}
use Rattle.hv_tree.specs.declared.ast.ExprKind.{ExprKind}
use Rattle.hv_tree.specs.declared.ast.Field.{Field}
use Rattle.hv_tree.specs.declared.ast.Step.{Step}
use Rattle.hv_tree.specs.declared.ast.Stmt.{Stmt}
use Rattle.hv_tree.specs.declared.ast.Tree.{Tree}
use Rattle.hv_tree.specs.Tokens.{Tokens, mark, keyword, word, Level}
use Rattle.hv_tree.specs.Grammar.{stmt_at, place_of, IsOperand, and_operand, comparison_operand, sum_operand, product_operand, unary_operand, IsLevel, alone_level, chain_level, AreLinks, last_link, more_link, IsUnary, plain_unary, negated_unary, inverted_unary, IsPrimary, numeral_primary, truth_primary, falsehood_primary, path_primary, call_primary, group_primary, await_primary, array_primary, filled_primary, count_primary, lambda_primary, AreElements, one_element, more_element, AreSteps, none_step, field_step, index_step, IsCall, is_call, AreArgs, none_args, some_args, AreSomeArgs, one_arg, more_arg, IsArg, value_argument, ref_argument, IsBlock, is_block, AreStmts, none_stmts, more_stmts, bare_return_stmts, last_return_stmts, IsStmt, var_stmt, var_with_stmt, let_stmt, inout_stmt, assign_stmt, if_stmt, while_stmt, return_stmt, print_stmt, task_stmt, await_stmt, call_stmt, block_stmt, AreBranches, last_branch, last_else_branch, more_branch, AreFields, no_fields, more_fields, IsDecl, struct_decl, fun_decl, AreDecls, no_decls, more_decls, Spells}
use Rattle.hv_tree.specs.declared.ast.StmtKind.TheVariants as stmt
use Rattle.hv_tree.specs.Core.{CoreDecl, CoreParam, CoreTy, Lambda, RefArg, Core, CoreExpr, CoreArgs, CoreBlock, BlockOf, CoreStmt, core_of, core_call, core_block, core_stmt, core_steps, core_arg, core_args, core_exprs, core_links, core_stmts, core_option_block, core_branches, core_option_ty, core_param, core_decl, core_tree, end_of}
use Rattle.hv_decls.specs.Sites.{Site, Scope, scope_behind, lambda_body, body_scope, expr_sites, exprs_sites, link_sites, step_sites, call_sites, arg_sites, block_sites, stmts_sites, branch_sites, stmt_sites, sites_of_body, lambdas_at, decl_bodies, bodies_of}
use Rattle.hv_tree.proofs.CoreLemmas as lemmas
use Rattle.hv_tree.proofs.CoreParts.{core_int, core_truth, core_path_expr, core_calls, core_awaits, core_array, core_filled, core_count, core_lambda, core_prefix, core_chain, core_called, core_ref, core_body, core_test, core_var, core_var_with, core_let, core_inout, core_assign, core_if, core_while, core_return, core_return_with, core_print, core_task, core_awaits_alone, core_calls_alone, core_bare}
use Rattle.hv_decls.specs.Locals.{CoreBody, fun_body}
use Rattle.hv_law_places.specs.TokenPlaces.{Rise}
use Rattle.hv_law_places.specs.Ends.{end_start, EndApart}
use Rattle.hv_law_places.proofs.Counted.{hits, seen, tally, among, seen_join, tally_join, lambdas_counted, rises, seen_once, apart, Fits, none, plain, join, skip, front, back, alone, trim}

-- a block whose `}` counts too
record BodyFits (n : ℕ) (b : CoreBlock) (ts : Tokens) : Type 0 where
  fits : (s : Scope) → among n (block_sites b s) + hits n (end_of b) ≤ seen n ts

module _ (n : ℕ) where
  abbrev ExprFits : Expr → Tokens → Type 0
  ExprFits x ts = (s : Scope) → Fits n (expr_sites (core_of x) s) ts

  abbrev ExprsFit : List Expr → Tokens → Type 0
  ExprsFit xs ts = (s : Scope) → Fits n (exprs_sites (core_exprs xs) s) ts

  abbrev LinksFit : List (Operator × Place × Expr) → Tokens → Type 0
  LinksFit links ts = (s : Scope) → Fits n (link_sites (core_links links) s) ts

  abbrev StepsFit : List Step → Tokens → Type 0
  StepsFit steps ts = (s : Scope) → Fits n (step_sites (core_steps steps) s) ts

  abbrev CallFits : Call → Tokens → Type 0
  CallFits c ts = (s : Scope) → Fits n (call_sites (core_call c) s) ts

  abbrev ArgsFit : CoreArgs → Tokens → Type 0
  ArgsFit args ts = (s : Scope) → Fits n (arg_sites args s) ts

  abbrev StmtFits : Stmt → Tokens → Type 0
  StmtFits x ts = (s : Scope) → Fits n (stmt_sites (core_stmt x) s) ts

  abbrev StmtsFit : List Stmt → Tokens → Type 0
  StmtsFit stmts ts = (s : Scope) → Fits n (stmts_sites (core_stmts stmts) s) ts

  abbrev BranchesFit : List Branch → Option Block → Tokens → Type 0
  BranchesFit branches otherwise ts = (s : Scope) → Fits n (branch_sites (core_branches branches otherwise) s) ts

  -- an expression whose plain form and tokens are known
  said : (x : Expr) (c : CoreExpr) (all ts : Tokens) → core_of x ≡ c → all ≡ ts → ((s : Scope) → Fits n (expr_sites c s) ts) → ExprFits x all
  said x c all ts is e h =
      subst (λ c. (s : Scope) → Fits n (expr_sites c s) all) (sym is) (subst (λ ts. (s : Scope) → Fits n (expr_sites c s) ts) (sym e) h)

  -- the same of a statement
  stated : (x : Stmt) (c : CoreStmt) (all ts : Tokens) → core_stmt x ≡ c → all ≡ ts → ((s : Scope) → Fits n (stmt_sites c s) ts) → StmtFits x all
  stated x c all ts is e h =
      subst (λ c. (s : Scope) → Fits n (stmt_sites c s) all) (sym is) (subst (λ ts. (s : Scope) → Fits n (stmt_sites c s) ts) (sym e) h)

  bare : (at : Place) → StmtFits (stmt_at at (stmt.Return None)) []
  bare at = stated (stmt_at at (stmt.Return None)) _ [] [] (core_return at) refl (λ s. plain _ refl none)

  in_block : (b : CoreBlock) (ts : Tokens) → BodyFits n b ts → (s : Scope) → Fits n (block_sites b s) ts
  in_block b ts h s = record { fits = omega (arith, h.fits s) }

  braced : (stmts : List Stmt) (left right : Place) (a : Tokens) → StmtsFit stmts a → BodyFits n (BlockOf (core_stmts stmts) right) (mark (codes "{") left ∷ (a ++ mark (codes "}") right ∷ []))
  braced stmts left right a h = record { fits = λ s. omega (arith, seen_join n a (mark (codes "}") right ∷ []), (h s).fits) }

  by_body : (at : Place) (captures : List Name) (params : List CoreParam) (result : Option CoreTy) (body : CoreBlock) (ts : Tokens) → BodyFits n body ts → (s : Scope) → Fits n (expr_sites (Lambda at captures params result body) s) ts
  by_body at captures params result body ts h s = record { fits = omega (arith, h.fits (body_scope (lambda_body s captures params result body))) }

  mutual
    of_operand : (l : Level) (x : Expr) (ts : Tokens) → IsOperand l x ts → ExprFits x ts
    of_operand l x ts (and_operand e h) = of_level _ x ts h
    of_operand l x ts (comparison_operand e h) = of_level _ x ts h
    of_operand l x ts (sum_operand e h) = of_level _ x ts h
    of_operand l x ts (product_operand e h) = of_level _ x ts h
    of_operand l x ts (unary_operand e h) = of_unary x ts h

    of_level : (l : Level) (x : Expr) (ts : Tokens) → IsLevel l x ts → ExprFits x ts
    of_level l x ts (alone_level h) = of_operand l x ts h
    of_level l x ts (chain_level first links a b h k is e) =
        said x _ ts _ (ap core_of is ∙ core_chain (place_of first) first links) e (λ s. plain _ refl (join a b (of_operand l first a h s) (of_links l links b k s)))

    of_links : (l : Level) (links : List (Operator × Place × Expr)) (ts : Tokens) → AreLinks l links ts → LinksFit links ts
    of_links l links ts (last_link op at sign x a i h is e) =
        subst (λ links. LinksFit links ts) (sym is) (λ s. subst (Fits n _) (sym e) (skip sign (alone (of_operand l x a h s))))
    of_links l links ts (more_link op at sign x rest a b ne i h m is e) =
        subst (λ links. LinksFit links ts) (sym is) (λ s. subst (Fits n _) (sym e) (skip sign (join a b (of_operand l x a h s) (of_links l rest b m s))))

    of_unary : (x : Expr) (ts : Tokens) → IsUnary x ts → ExprFits x ts
    of_unary x ts (plain_unary h) = of_primary x ts h
    of_unary x ts (negated_unary at operand a h is e) = said x _ ts _ (ap core_of is ∙ core_prefix at _ operand) e (λ s. plain _ refl (skip _ (of_primary operand a h s)))
    of_unary x ts (inverted_unary at operand a h is e) = said x _ ts _ (ap core_of is ∙ core_prefix at _ operand) e (λ s. plain _ refl (skip _ (of_primary operand a h s)))

    of_primary : (x : Expr) (ts : Tokens) → IsPrimary x ts → ExprFits x ts
    of_primary x ts (numeral_primary at value is e) = said x _ ts ts (ap core_of is ∙ core_int at value) refl (λ s. plain _ refl none)
    of_primary x ts (truth_primary at is e) = said x _ ts ts (ap core_of is ∙ core_truth at true) refl (λ s. plain _ refl none)
    of_primary x ts (falsehood_primary at is e) = said x _ ts ts (ap core_of is ∙ core_truth at false) refl (λ s. plain _ refl none)
    of_primary x ts (path_primary root steps a h is e) =
        said x _ ts _ (ap core_of is ∙ core_path_expr root.place root steps) e (λ s. plain _ refl (plain _ refl (skip _ (of_steps steps a h s))))
    of_primary x ts (call_primary at c h is) = said x _ ts ts (ap core_of is ∙ core_calls at c) refl (λ s. plain _ refl (of_call at c ts h s))
    of_primary x ts (group_primary left right a h e) = λ s. subst (Fits n _) (sym e) (skip _ (front a _ (of_level _ x a h s)))
    of_primary x ts (await_primary at name is e) = said x _ ts ts (ap core_of is ∙ core_awaits at name) refl (λ s. plain _ refl none)
    of_primary x ts (array_primary left right elements a h is e) =
        said x _ ts _ (ap core_of is ∙ core_array left elements) e (λ s. plain _ refl (skip _ (front a _ (of_elements elements a h s))))
    of_primary x ts (filled_primary at left comma right len value a b h k is e) =
        said x _ ts _ (ap core_of is ∙ core_filled at len value) e (λ s. plain _ refl (skip _ (skip _ (join a _ (of_level _ len a h s) (skip _ (front b _ (of_level _ value b k s)))))))
    of_primary x ts (count_primary at left right root steps a h is e) =
        said x _ ts _ (ap core_of is ∙ core_count at root steps) e (λ s. plain _ refl (plain _ refl (skip _ (skip _ (skip _ (front a _ (of_steps steps a h s)))))))
    of_primary x ts (lambda_primary at o1 c1 o2 c2 captures params result body a b c d hn hp hr hb is e) =
        said x _ ts _ (ap core_of is ∙ core_lambda at captures params result body) e (λ s.
        skip _ (skip _ (back a _ (skip _ (skip _ (back b _ (skip _ (back c d (by_body at captures (map core_param params) (core_option_ty result) (core_block body) d (of_block body d hb) s)))))))))

    of_elements : (xs : List Expr) (ts : Tokens) → AreElements xs ts → ExprsFit xs ts
    of_elements xs ts (one_element x h is) = subst (λ xs. ExprsFit xs ts) (sym is) (λ s. alone (of_level _ x ts h s))
    of_elements xs ts (more_element x rest comma a b h m is e) =
        subst (λ xs. ExprsFit xs ts) (sym is) (λ s. subst (Fits n _) (sym e) (join a _ (of_level _ x a h s) (skip _ (of_elements rest b m s))))

    of_steps : (steps : List Step) (ts : Tokens) → AreSteps steps ts → StepsFit steps ts
    of_steps steps ts (none_step is e) = subst (λ steps. StepsFit steps ts) (sym is) (λ s. none)
    of_steps steps ts (field_step dot name rest a h is e) =
        subst (λ c. (s : Scope) → Fits n (step_sites c s) ts) (sym (ap core_steps is ∙ lemmas.step_field (core_steps rest) name)) (λ s. subst (Fits n _) (sym e) (skip _ (skip _ (of_steps rest a h s))))
    of_steps steps ts (index_step left right x rest a b h m is e) =
        subst (λ c. (s : Scope) → Fits n (step_sites c s) ts) (sym (ap core_steps is ∙ lemmas.step_index (core_steps rest) left x))
        (λ s. subst (Fits n _) (sym e) (skip _ (join a _ (of_level _ x a h s) (skip _ (of_steps rest b m s)))))

    of_call : (at : Place) (c : Call) (ts : Tokens) → IsCall at c ts → CallFits c ts
    of_call at c ts (is_call root steps paren right args a b h k place is e) =
        subst (λ c. (s : Scope) → Fits n (call_sites c s) ts) (sym (ap core_call is ∙ core_called root steps paren args))
        (λ s. subst (Fits n _) (sym e) (plain _ refl (plain _ refl (skip _ (join a _ (of_steps steps a h s) (skip _ (front b _ (of_args args b k s))))))))

    of_args : (args : List Arg) (ts : Tokens) → AreArgs args ts → ArgsFit (core_args args) ts
    of_args args ts (none_args is e) = subst (λ args. ArgsFit (core_args args) ts) (sym is) (λ s. none)
    of_args args ts (some_args h) = of_some_args args ts h

    of_some_args : (args : List Arg) (ts : Tokens) → AreSomeArgs args ts → ArgsFit (core_args args) ts
    of_some_args args ts (one_arg x h is) = subst (λ args. ArgsFit (core_args args) ts) (sym is) (λ s. trim ts (of_arg x ts h (core_args []) [] (λ s. none) s))
    of_some_args args ts (more_arg x rest comma a b h m is e) =
        subst (λ args. ArgsFit (core_args args) ts) (sym is) (λ s. subst (Fits n _) (sym e) (of_arg x a h (core_args rest) _ (λ s. skip _ (of_some_args rest b m s)) s))

    of_arg : (x : Arg) (ts : Tokens) → IsArg x ts → (rest : CoreArgs) (more : Tokens) → ArgsFit rest more → ArgsFit (core_arg x rest) (ts ++ more)
    of_arg x ts (value_argument v h is) rest more f =
        subst (λ c. ArgsFit c (ts ++ more)) (sym (ap (λ x. core_arg x rest) is ∙ lemmas.arg_value rest v)) (λ s. join ts more (of_level _ v ts h s) (f s))
    of_arg x ts (ref_argument at root steps a h is e) rest more f =
        subst (λ c. ArgsFit c (ts ++ more)) (sym (ap (λ x. core_arg x rest) is ∙ core_ref rest at root steps))
        (λ s. subst (λ ts. Fits n (arg_sites (RefArg at root (core_steps steps) rest) s) (ts ++ more)) (sym e) (plain _ refl (skip _ (skip _ (join a more (of_steps steps a h s) (f s))))))

    of_block : (b : Block) (ts : Tokens) → IsBlock b ts → BodyFits n (core_block b) ts
    of_block b ts (is_block left right stmts a h is e) =
        subst (λ c. BodyFits n c ts) (sym (ap core_block is ∙ core_body stmts right)) (subst (BodyFits n _) (sym e) (braced stmts left right a (of_stmts stmts a h)))

    of_stmts : (stmts : List Stmt) (ts : Tokens) → AreStmts stmts ts → StmtsFit stmts ts
    of_stmts stmts ts (none_stmts is e) = subst (λ stmts. StmtsFit stmts ts) (sym is) (λ s. none)
    of_stmts stmts ts (more_stmts x rest a m b h k more is e) =
        subst (λ stmts. StmtsFit stmts ts) (sym is) (λ s. subst (Fits n _) (sym e) (join a _ (of_stmt x a h s) (back m b (of_stmts rest b more (scope_behind (core_stmt x) s)))))
    of_stmts stmts ts (bare_return_stmts at semicolon rest b more is e) =
        subst (λ stmts. StmtsFit stmts ts) (sym is) (λ s. subst (Fits n _) (sym e)
        (skip _ (skip _ (join [] b (bare at s) (of_stmts rest b more (scope_behind (core_stmt (stmt_at at (stmt.Return None))) s))))))
    of_stmts stmts ts (last_return_stmts at is e) =
        subst (λ stmts. StmtsFit stmts ts) (sym is) (λ s. subst (Fits n _) (sym e) (skip _ (alone (bare at s))))

    of_stmt : (x : Stmt) (ts : Tokens) → IsStmt x ts → StmtFits x ts
    of_stmt x ts (var_stmt at colon name t a h is e) = stated x _ ts ts (ap core_stmt is ∙ core_var at name t) refl (λ s. plain _ refl none)
    of_stmt x ts (var_with_stmt at colon equals name t v a b h k is e) =
        stated x _ ts _ (ap core_stmt is ∙ core_var_with at name t v) e (λ s. plain _ refl (skip _ (skip _ (skip _ (back a _ (skip _ (of_level _ v b k s)))))))
    of_stmt x ts (let_stmt at colon equals name t v a b h k is e) =
        stated x _ ts _ (ap core_stmt is ∙ core_let at name t v) e (λ s. plain _ refl (skip _ (skip _ (skip _ (back a _ (skip _ (of_level _ v b k s)))))))
    of_stmt x ts (inout_stmt at colon equals ref name t root steps a b h k is e) =
        stated x _ ts _ (ap core_stmt is ∙ core_inout at name t root steps) e
        (λ s. plain _ refl (plain _ refl (skip _ (skip _ (skip _ (back a _ (skip _ (skip _ (skip _ (of_steps steps b k s))))))))))
    of_stmt x ts (assign_stmt at equals root steps v a b h k is e) =
        stated x _ ts _ (ap core_stmt is ∙ core_assign at root steps v) e
        (λ s. plain _ refl (plain _ refl (skip _ (skip _ (join a _ (of_steps steps a h s) (skip _ (of_level _ v b k s)))))))
    of_stmt x ts (if_stmt at branches otherwise h is) =
        stated x _ ts ts (ap core_stmt is ∙ core_if at branches otherwise) refl (λ s. plain _ refl (of_branches at branches otherwise ts h s))
    of_stmt x ts (while_stmt at test body a b h k is e) =
        stated x _ ts _ (ap core_stmt is ∙ core_while at test body) e
        (λ s. plain _ refl (plain _ refl (skip _ (join a b (of_level _ test a h s) (in_block (core_block body) b (of_block body b k) s)))))
    of_stmt x ts (return_stmt at v a h is e) = stated x _ ts _ (ap core_stmt is ∙ core_return_with at v) e (λ s. plain _ refl (skip _ (of_level _ v a h s)))
    of_stmt x ts (print_stmt at left right v a h is e) =
        stated x _ ts _ (ap core_stmt is ∙ core_print at v) e (λ s. plain _ refl (skip _ (skip _ (front a _ (of_level _ v a h s)))))
    of_stmt x ts (task_stmt at equals spawn left right name result budget c first a b d h k m is e) =
        stated x _ ts _ (ap core_stmt is ∙ core_task at name result spawn budget c) e
        (λ s. plain _ refl (skip _ (skip _ (back a _ (skip _ (skip _ (skip _ (join b _ (of_level _ budget b k s) (skip _ (of_call first c d m s))))))))))
    of_stmt x ts (await_stmt at name is e) = stated x _ ts ts (ap core_stmt is ∙ core_awaits_alone at name) refl (λ s. plain _ refl none)
    of_stmt x ts (call_stmt at c h is) = stated x _ ts ts (ap core_stmt is ∙ core_calls_alone at c) refl (λ s. plain _ refl (of_call at c ts h s))
    of_stmt x ts (block_stmt left b a h e is) = stated x _ ts ts (ap core_stmt is ∙ core_bare left b) refl (λ s. plain _ refl (in_block (core_block b) ts (of_block b ts h) s))

    of_branches : (at : Place) (branches : List Branch) (otherwise : Option Block) (ts : Tokens) → AreBranches at branches otherwise ts → BranchesFit branches otherwise ts
    of_branches at branches otherwise ts (last_branch test body a b h k is none_left e) =
        subst (λ c. (s : Scope) → Fits n (branch_sites c s) ts) (sym (ap (λ l. core_branches l otherwise) is ∙ core_test test body (core_option_block otherwise)))
        (λ s. subst (Fits n _) (sym e) (plain _ refl (skip _ (join a b (of_level _ test a h s)
        (trim b (join b [] (in_block (core_block body) b (of_block body b k) s) (subst (λ o. Fits n (branch_sites (core_option_block o) s) []) (sym none_left) none)))))))
    of_branches at branches otherwise ts (last_else_branch test body final else a b c h k m is some e) =
        subst (λ c. (s : Scope) → Fits n (branch_sites c s) ts) (sym (ap (λ l. core_branches l otherwise) is ∙ core_test test body (core_option_block otherwise)))
        (λ s. subst (Fits n _) (sym e) (plain _ refl (skip _ (join a _ (of_level _ test a h s)
        (join b _ (in_block (core_block body) b (of_block body b k) s)
        (skip _ (subst (λ o. Fits n (branch_sites (core_option_block o) s) c) (sym some) (in_block (core_block final) c (of_block final c m) s))))))))
    of_branches at branches otherwise ts (more_branch test body else next rest a b c h k m is e) =
        subst (λ c. (s : Scope) → Fits n (branch_sites c s) ts) (sym (ap (λ l. core_branches l otherwise) is ∙ core_test test body (core_branches rest otherwise)))
        (λ s. subst (Fits n _) (sym e) (plain _ refl (skip _ (join a _ (of_level _ test a h s)
        (join b _ (in_block (core_block body) b (of_block body b k) s) (skip _ (of_branches next rest otherwise c m s)))))))

  -- ---- declarations

  of_decl : (d : Decl) (ts : Tokens) → IsDecl d ts → (rest : List CoreDecl) (more : Tokens) → tally n (decl_bodies rest) ≤ seen n more → tally n (decl_bodies (core_decl d ∷ rest)) ≤ seen n (ts ++ more)
  of_decl d ts (struct_decl at left right name fields a h is e) rest more f =
      subst (λ d. tally n (decl_bodies (core_decl d ∷ rest)) ≤ seen n (ts ++ more)) (sym is) (omega (arith, seen_join n ts more, f))
  of_decl d ts (fun_decl at left right name params result body a b c hp hr hb is e) rest more f =
      subst (λ d. tally n (decl_bodies (core_decl d ∷ rest)) ≤ seen n (ts ++ more)) (sym is)
      (omega (arith, tally_join n (lambdas_at sites) (decl_bodies rest), lambdas_counted n sites, (of_block body c hb).fits (body_scope whole), behind, seen_join n ts more, f))
    where
      whole : CoreBody
      whole = record { captures = []; params = map core_param params; result = core_option_ty result; block = core_block body }

      sites : List Site
      sites = sites_of_body whole

      behind : seen n c ≤ seen n ts
      behind = subst (λ ts. seen n c ≤ seen n ts) (sym e) (omega (arith, seen_join n a (mark (codes ")") right ∷ (b ++ c)), seen_join n b c))

  of_decls : (ds : List Decl) (ts : Tokens) → AreDecls ds ts → tally n (decl_bodies (map core_decl ds)) ≤ seen n ts
  of_decls ds ts (no_decls is e) = subst (λ ds. tally n (decl_bodies (map core_decl ds)) ≤ seen n ts) (sym is) (omega arith)
  of_decls ds ts (more_decls d rest a b h m is e) =
      subst (λ ds. tally n (decl_bodies (map core_decl ds)) ≤ seen n ts) (sym is)
      (subst (λ ts. tally n (decl_bodies (core_decl d ∷ map core_decl rest)) ≤ seen n ts) (sym e) (of_decl d a h (map core_decl rest) b (of_decls rest b m)))

pub bodies_apart : (tree : Tree) (tokens : Tokens) → Spells tree tokens → Rise tokens → EndApart (core_tree tree)
bodies_apart tree tokens h r m k a b e f same =
    apart (end_start a) (bodies_of (core_tree tree)) (once (of_decls (end_start a) tree.decls tokens h.decls) (seen_once (end_start a) tokens (rises tokens r))) m k a b e f refl (sym same)
  where
    once : {x y : ℕ} → x ≤ y → y ≤ 1 → x ≤ 1
    once i j = omega (arith, i, j)
