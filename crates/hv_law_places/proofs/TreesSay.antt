-- The places of a program are those of tokens that spell it.
use Rattle.std.proofs.Common.{◌≡◌, List, [], ◌∷◌, ◌++◌, map, true, false, Option, Some, None, Contains, codes, refl, sym, ◌∙◌, ap, subst}
use Rattle.hv_tree.specs.declared.place.Place.{Place}
use Rattle.hv_tree.specs.declared.token.Token.{Token}
use Rattle.hv_tree.specs.declared.types.Name.{Name}
use Rattle.hv_tree.specs.declared.ast.Operator.{Operator}
use Rattle.hv_tree.specs.declared.ast.Arg.{Arg}
use Rattle.hv_tree.specs.declared.ast.Block.{Block}
use Rattle.hv_tree.specs.declared.ast.Branch.{Branch}
use Rattle.hv_tree.specs.declared.ast.Call.{Call}
use Rattle.hv_tree.specs.declared.ast.Decl.{Decl}
use Rattle.hv_tree.specs.declared.ast.Expr.{Expr}
use Rattle.hv_tree.specs.declared.ast.ExprKind.{ExprKind}
use Rattle.hv_tree.specs.declared.ast.Field.{Field}
use Rattle.hv_tree.specs.declared.ast.Step.{Step}
use Rattle.hv_tree.specs.declared.ast.Stmt.{Stmt}
use Rattle.hv_tree.specs.declared.ast.Tree.{Tree}
use Rattle.hv_tree.specs.Tokens.{Tokens, mark, keyword, word, Level, IsInfix, or_sign, and_sign, eq_sign, ne_sign, lt_sign, le_sign, gt_sign, ge_sign, add_sign, sub_sign, mul_sign, div_sign, rem_sign}
use Rattle.hv_tree.specs.Grammar.{expr_at, place_of, IsOperand, and_operand, comparison_operand, sum_operand, product_operand, unary_operand, IsLevel, alone_level, chain_level, AreLinks, last_link, more_link, IsUnary, plain_unary, negated_unary, inverted_unary, IsPrimary, numeral_primary, truth_primary, falsehood_primary, path_primary, call_primary, group_primary, await_primary, array_primary, filled_primary, count_primary, lambda_primary, AreElements, one_element, more_element, AreSteps, none_step, field_step, index_step, IsCall, is_call, AreArgs, none_args, some_args, AreSomeArgs, one_arg, more_arg, IsArg, value_argument, ref_argument, IsBlock, is_block, AreStmts, none_stmts, more_stmts, bare_return_stmts, last_return_stmts, IsStmt, var_stmt, var_with_stmt, let_stmt, inout_stmt, assign_stmt, if_stmt, while_stmt, return_stmt, print_stmt, task_stmt, await_stmt, call_stmt, block_stmt, AreBranches, last_branch, last_else_branch, more_branch, AreFields, no_fields, more_fields, IsDecl, struct_decl, fun_decl, AreDecls, no_decls, more_decls, Spells}
use Rattle.hv_tree.specs.Core.{CoreExpr, CoreStmt, CoreArgs, core_of, core_call, core_block, core_stmt, core_steps, core_arg, core_args, core_exprs, core_links, core_stmts, core_option_block, core_branches, core_ty, core_option_ty, core_param, core_field, core_decl, core_tree}
use Rattle.hv_tree.proofs.CoreLemmas as lemmas
use Rattle.hv_tree.proofs.CoreParts.{core_int, core_truth, core_path_expr, core_calls, core_awaits, core_array, core_filled, core_count, core_lambda, core_prefix, core_chain, core_called, core_ref, core_body, core_test, core_var, core_var_with, core_let, core_inout, core_assign, core_if, core_while, core_return, core_return_with, core_print, core_task, core_awaits_alone, core_calls_alone, core_bare}
use Rattle.hv_law_places.specs.Places.{in_ty, in_result, in_names, in_params, in_expr, in_exprs, in_links, in_steps, in_call, in_args, in_block, in_stmts, in_branches, in_stmt, in_fields, in_decl, in_decls, IsIn}
use Rattle.hv_lemmas.proofs.Each.{Each, each_split, each_join, each_at, each_weaker, each_contained}
use Rattle.hv_law_places.specs.TokenPlaces.{IsAmong}
use Rattle.hv_law_places.proofs.TypesSay.{At, Ats, of_type, of_return, of_task_type, of_params, of_names}

module _ (P : Place → Type 0) where
  -- what is said of an expression: also of its own place
  abbrev ExprSays : Expr → Type 0
  ExprSays x = P (place_of x) × Each P (in_expr (core_of x))

  abbrev ExprsSay : List Expr → Type 0
  ExprsSay xs = Each P (in_exprs (core_exprs xs))

  abbrev LinksSay : List (Operator × Place × Expr) → Type 0
  LinksSay links = Each P (in_links (core_links links))

  abbrev StepsSay : List Step → Type 0
  StepsSay steps = Each P (in_steps (core_steps steps))

  -- what is said of a call: also of its first token
  abbrev CallSays : Place → Call → Type 0
  CallSays at c = P at × Each P (in_call (core_call c))

  abbrev ArgsSay : List Arg → Type 0
  ArgsSay args = Each P (in_args (core_args args))

  abbrev BlockSays : Block → Type 0
  BlockSays b = Each P (in_block (core_block b))

  abbrev StmtsSay : List Stmt → Type 0
  StmtsSay stmts = Each P (in_stmts (core_stmts stmts))

  abbrev StmtSays : Stmt → Type 0
  StmtSays x = Each P (in_stmt (core_stmt x))

  abbrev BranchesSay : List Branch → Option Block → Type 0
  BranchesSay branches otherwise = Each P (in_branches (core_branches branches otherwise))

  at : (k : Token) (ts : Tokens) (all : Tokens) → all ≡ k ∷ ts → Ats P all → P k.place × Ats P ts
  at k ts all e s = subst (Ats P) e s

  -- an expression of this kind at this place
  said : (x : Expr) (at : Place) (kind : ExprKind) (c : CoreExpr) → x ≡ expr_at at kind → core_of (expr_at at kind) ≡ c → P at → Each P (in_expr c) → ExprSays x
  said x at kind c is e h k = subst ExprSays (sym is) (h, subst (λ c. Each P (in_expr c)) (sym e) k)

  -- a statement whose plain form is known
  stated : (x : Stmt) (c : CoreStmt) → core_stmt x ≡ c → Each P (in_stmt c) → StmtSays x
  stated x c e h = subst (λ c. Each P (in_stmt c)) (sym e) h

  sign_at : (at : Place) (l : Level) (o : Operator) (sign : Token) → IsInfix at l o sign → At P sign → P at
  sign_at at l o sign or_sign h = h
  sign_at at l o sign and_sign h = h
  sign_at at l o sign eq_sign h = h
  sign_at at l o sign ne_sign h = h
  sign_at at l o sign lt_sign h = h
  sign_at at l o sign le_sign h = h
  sign_at at l o sign gt_sign h = h
  sign_at at l o sign ge_sign h = h
  sign_at at l o sign add_sign h = h
  sign_at at l o sign sub_sign h = h
  sign_at at l o sign mul_sign h = h
  sign_at at l o sign div_sign h = h
  sign_at at l o sign rem_sign h = h

  split : (a b : Tokens) → Ats P (a ++ b) → Ats P a × Ats P b
  split a b s = each_split (At P) a b s

  mutual
    of_operand : (l : Level) (x : Expr) (ts : Tokens) → IsOperand l x ts → Ats P ts → ExprSays x
    of_operand l x ts (and_operand e h) s = of_level _ x ts h s
    of_operand l x ts (comparison_operand e h) s = of_level _ x ts h s
    of_operand l x ts (sum_operand e h) s = of_level _ x ts h s
    of_operand l x ts (product_operand e h) s = of_level _ x ts h s
    of_operand l x ts (unary_operand e h) s = of_unary x ts h s

    of_level : (l : Level) (x : Expr) (ts : Tokens) → IsLevel l x ts → Ats P ts → ExprSays x
    of_level l x ts (alone_level h) s = of_operand l x ts h s
    of_level l x ts (chain_level first links a b h k is e) s =
        let q = split a b (subst (Ats P) e s) in
        let f = of_operand l first a h q.0 in
        said x (place_of first) _ _ is (core_chain (place_of first) first links) f.0 (f.0, each_join P (in_expr (core_of first)) (in_links (core_links links)) f.1 (of_links l links b k q.1))

    of_links : (l : Level) (links : List (Operator × Place × Expr)) (ts : Tokens) → AreLinks l links ts → Ats P ts → LinksSay links
    of_links l links ts (last_link op at sign x a i h is e) s =
        let q = subst (Ats P) e s in
        subst LinksSay (sym is) (sign_at at l op sign i q.0, each_join P (in_expr (core_of x)) [] (of_operand l x a h q.1).1 tt)
    of_links l links ts (more_link op at sign x rest a b ne i h m is e) s =
        let o = subst (Ats P) e s in
        let q = split a b o.1 in
        subst LinksSay (sym is) (sign_at at l op sign i o.0, each_join P (in_expr (core_of x)) (in_links (core_links rest)) (of_operand l x a h q.0).1 (of_links l rest b m q.1))

    of_unary : (x : Expr) (ts : Tokens) → IsUnary x ts → Ats P ts → ExprSays x
    of_unary x ts (plain_unary h) s = of_primary x ts h s
    of_unary x ts (negated_unary at operand a h is e) s = let q = subst (Ats P) e s in said x at _ _ is (core_prefix at _ operand) q.0 (q.0, (of_primary operand a h q.1).1)
    of_unary x ts (inverted_unary at operand a h is e) s = let q = subst (Ats P) e s in said x at _ _ is (core_prefix at _ operand) q.0 (q.0, (of_primary operand a h q.1).1)

    of_primary : (x : Expr) (ts : Tokens) → IsPrimary x ts → Ats P ts → ExprSays x
    of_primary x ts (numeral_primary at value is e) s = let q = subst (Ats P) e s in said x at _ _ is (core_int at value) q.0 q
    of_primary x ts (truth_primary at is e) s = let q = subst (Ats P) e s in said x at _ _ is (core_truth at true) q.0 q
    of_primary x ts (falsehood_primary at is e) s = let q = subst (Ats P) e s in said x at _ _ is (core_truth at false) q.0 q
    of_primary x ts (path_primary root steps a h is e) s =
        let q = subst (Ats P) e s in said x root.place _ _ is (core_path_expr root.place root steps) q.0 (q.0, (q.0, of_steps steps a h q.1))
    of_primary x ts (call_primary at c h is) s = let q = of_call at c ts h s in said x at _ _ is (core_calls at c) q.0 q
    of_primary x ts (group_primary left right a h e) s = of_level _ x a h (split a (mark (codes ")") right ∷ []) (subst (Ats P) e s).1).0
    of_primary x ts (await_primary at name is e) s = let q = subst (Ats P) e s in said x at _ _ is (core_awaits at name) q.0 q
    of_primary x ts (array_primary left right elements a h is e) s =
        let q = subst (Ats P) e s in
        said x left _ _ is (core_array left elements) q.0 (q.0, of_elements elements a h (split a (mark (codes "]") right ∷ []) q.1).0)
    of_primary x ts (filled_primary at left comma right len value a b h k is e) s =
        let o = subst (Ats P) e s in
        let q = split a (mark (codes ",") comma ∷ (b ++ mark (codes ")") right ∷ [])) o.1.1 in
        let r = split b (mark (codes ")") right ∷ []) q.1.1 in
        said x at _ _ is (core_filled at len value) o.0 (o.0, each_join P (in_expr (core_of len)) (in_expr (core_of value)) (of_level _ len a h q.0).1 (of_level _ value b k r.0).1)
    of_primary x ts (count_primary at left right root steps a h is e) s =
        let q = subst (Ats P) e s in
        said x at _ _ is (core_count at root steps) q.0 (q.0, (q.1.1.0, of_steps steps a h (split a (mark (codes ")") right ∷ []) q.1.1.1).0))
    of_primary x ts (lambda_primary at o1 c1 o2 c2 captures params result body a b c d hn hp hr hb is e) s =
        let o = subst (Ats P) e s in
        let q = split a (mark (codes "]") c1 ∷ mark (codes "(") o2 ∷ (b ++ mark (codes ")") c2 ∷ (c ++ d))) o.1.1 in
        let r = split b (mark (codes ")") c2 ∷ (c ++ d)) q.1.1.1 in
        let t = split c d r.1.1 in
        said x at _ _ is (core_lambda at captures params result body) o.0 (
          o.0,
          each_join P (in_names captures) (in_params (map core_param params) ++ (in_result (core_option_ty result) ++ in_block (core_block body))) (of_names P captures a hn q.0)
              (each_join P (in_params (map core_param params)) (in_result (core_option_ty result) ++ in_block (core_block body)) (of_params P params b hp r.0)
              (each_join P (in_result (core_option_ty result)) (in_block (core_block body)) (of_return P result c hr t.0) (of_block body d hb t.1))),
        )

    of_elements : (xs : List Expr) (ts : Tokens) → AreElements xs ts → Ats P ts → ExprsSay xs
    of_elements xs ts (one_element x h is) s = subst ExprsSay (sym is) (each_join P (in_expr (core_of x)) [] (of_level _ x ts h s).1 tt)
    of_elements xs ts (more_element x rest comma a b h m is e) s =
        let q = split a (mark (codes ",") comma ∷ b) (subst (Ats P) e s) in
        subst ExprsSay (sym is) (each_join P (in_expr (core_of x)) (in_exprs (core_exprs rest)) (of_level _ x a h q.0).1 (of_elements rest b m q.1.1))

    of_steps : (steps : List Step) (ts : Tokens) → AreSteps steps ts → Ats P ts → StepsSay steps
    of_steps steps ts (none_step is e) s = subst StepsSay (sym is) tt
    of_steps steps ts (field_step dot name rest a h is e) s =
        let q = (subst (Ats P) e s).1 in
        subst (λ c. Each P (in_steps c)) (sym (ap core_steps is ∙ lemmas.step_field (core_steps rest) name)) (q.0, of_steps rest a h q.1)
    of_steps steps ts (index_step left right x rest a b h m is e) s =
        let o = subst (Ats P) e s in
        let q = split a (mark (codes "]") right ∷ b) o.1 in
        subst (λ c. Each P (in_steps c)) (sym (ap core_steps is ∙ lemmas.step_index (core_steps rest) left x))
        (o.0, each_join P (in_expr (core_of x)) (in_steps (core_steps rest)) (of_level _ x a h q.0).1 (of_steps rest b m q.1.1))

    of_call : (at : Place) (c : Call) (ts : Tokens) → IsCall at c ts → Ats P ts → CallSays at c
    of_call at c ts (is_call root steps paren right args a b h k place is e) s =
        let o = subst (Ats P) e s in
        let q = split a (mark (codes "(") paren ∷ (b ++ mark (codes ")") right ∷ [])) o.1 in
        let t = split b (mark (codes ")") right ∷ []) q.1.1 in (
          subst P (sym place) o.0,
          subst (λ c. Each P (in_call c)) (sym (ap core_call is ∙ core_called root steps paren args))
              (o.0, each_join P (in_steps (core_steps steps)) (paren ∷ in_args (core_args args)) (of_steps steps a h q.0) (q.1.0, of_args args b k t.0)),
        )

    of_args : (args : List Arg) (ts : Tokens) → AreArgs args ts → Ats P ts → ArgsSay args
    of_args args ts (none_args is e) s = subst ArgsSay (sym is) tt
    of_args args ts (some_args h) s = of_some_args args ts h s

    of_some_args : (args : List Arg) (ts : Tokens) → AreSomeArgs args ts → Ats P ts → ArgsSay args
    of_some_args args ts (one_arg x h is) s = subst ArgsSay (sym is) (of_arg x ts h s (core_args []) tt)
    of_some_args args ts (more_arg x rest comma a b h m is e) s =
        let q = split a (mark (codes ",") comma ∷ b) (subst (Ats P) e s) in
        subst ArgsSay (sym is) (of_arg x a h q.0 (core_args rest) (of_some_args rest b m q.1.1))

    of_arg : (x : Arg) (ts : Tokens) → IsArg x ts → Ats P ts → (rest : CoreArgs) → Each P (in_args rest) → Each P (in_args (core_arg x rest))
    of_arg x ts (value_argument v h is) s rest more =
        subst (λ c. Each P (in_args c)) (sym (ap (λ x. core_arg x rest) is ∙ lemmas.arg_value rest v)) (each_join P (in_expr (core_of v)) (in_args rest) (of_level _ v ts h s).1 more)
    of_arg x ts (ref_argument at root steps a h is e) s rest more =
        let q = subst (Ats P) e s in
        subst (λ c. Each P (in_args c)) (sym (ap (λ x. core_arg x rest) is ∙ core_ref rest at root steps))
        (q.0, (q.1.0, each_join P (in_steps (core_steps steps)) (in_args rest) (of_steps steps a h q.1.1) more))

    of_block : (b : Block) (ts : Tokens) → IsBlock b ts → Ats P ts → BlockSays b
    of_block b ts (is_block left right stmts a h is e) s =
        let q = split a (mark (codes "}") right ∷ []) (subst (Ats P) e s).1 in
        subst (λ c. Each P (in_block c)) (sym (ap core_block is ∙ core_body stmts right)) (each_join P (in_stmts (core_stmts stmts)) (right ∷ []) (of_stmts stmts a h q.0) (q.1.0, tt))

    of_stmts : (stmts : List Stmt) (ts : Tokens) → AreStmts stmts ts → Ats P ts → StmtsSay stmts
    of_stmts stmts ts (none_stmts is e) s = subst StmtsSay (sym is) tt
    of_stmts stmts ts (more_stmts x rest a m b h k more is e) s =
        let q = split a (m ++ b) (subst (Ats P) e s) in
        subst StmtsSay (sym is) (each_join P (in_stmt (core_stmt x)) (in_stmts (core_stmts rest)) (of_stmt x a h q.0) (of_stmts rest b more (split m b q.1).1))
    of_stmts stmts ts (bare_return_stmts at semicolon rest b more is e) s =
        let q = subst (Ats P) e s in
        subst StmtsSay (sym is) (each_join P (in_stmt (core_stmt _)) (in_stmts (core_stmts rest)) (stated _ _ (core_return at) (q.0, tt)) (of_stmts rest b more q.1.1))
    of_stmts stmts ts (last_return_stmts at is e) s =
        let q = subst (Ats P) e s in
        subst StmtsSay (sym is) (each_join P (in_stmt (core_stmt _)) [] (stated _ _ (core_return at) (q.0, tt)) tt)

    of_stmt : (x : Stmt) (ts : Tokens) → IsStmt x ts → Ats P ts → StmtSays x
    of_stmt x ts (var_stmt at colon name t a h is e) s =
        let q = subst (Ats P) e s in stated x _ (ap core_stmt is ∙ core_var at name t) (q.0, (q.1.0, of_type P t a h q.1.1.1))
    of_stmt x ts (var_with_stmt at colon equals name t v a b h k is e) s =
        let q = subst (Ats P) e s in
        let r = split a (mark (codes "=") equals ∷ b) q.1.1.1 in
        stated x _ (ap core_stmt is ∙ core_var_with at name t v) (q.0, (q.1.0, each_join P (in_ty (core_ty t)) (in_expr (core_of v)) (of_type P t a h r.0) (of_level _ v b k r.1.1).1))
    of_stmt x ts (let_stmt at colon equals name t v a b h k is e) s =
        let q = subst (Ats P) e s in
        let r = split a (mark (codes "=") equals ∷ b) q.1.1.1 in
        stated x _ (ap core_stmt is ∙ core_let at name t v) (q.0, (q.1.0, each_join P (in_ty (core_ty t)) (in_expr (core_of v)) (of_type P t a h r.0) (of_level _ v b k r.1.1).1))
    of_stmt x ts (inout_stmt at colon equals ref name t root steps a b h k is e) s =
        let q = subst (Ats P) e s in
        let r = split a (mark (codes "=") equals ∷ mark (codes "&") ref ∷ word root ∷ b) q.1.1.1 in
        stated x _ (ap core_stmt is ∙ core_inout at name t root steps)
        (q.0, (q.1.0, each_join P (in_ty (core_ty t)) (root.place ∷ in_steps (core_steps steps)) (of_type P t a h r.0) (r.1.1.1.0, of_steps steps b k r.1.1.1.1)))
    of_stmt x ts (assign_stmt at equals root steps v a b h k is e) s =
        let q = subst (Ats P) e s in
        let r = split a (mark (codes "=") equals ∷ b) q.1.1 in
        stated x _ (ap core_stmt is ∙ core_assign at root steps v)
        (q.0, (q.1.0, each_join P (in_steps (core_steps steps)) (in_expr (core_of v)) (of_steps steps a h r.0) (of_level _ v b k r.1.1).1))
    of_stmt x ts (if_stmt at branches otherwise h is) s = stated x _ (ap core_stmt is ∙ core_if at branches otherwise) (of_branches at branches otherwise ts h s)
    of_stmt x ts (while_stmt at test body a b h k is e) s =
        let o = subst (Ats P) e s in
        let q = split a b o.1 in
        stated x _ (ap core_stmt is ∙ core_while at test body) (o.0, each_join P (in_expr (core_of test)) (in_block (core_block body)) (of_level _ test a h q.0).1 (of_block body b k q.1))
    of_stmt x ts (return_stmt at v a h is e) s =
        let q = subst (Ats P) e s in stated x _ (ap core_stmt is ∙ core_return_with at v) (q.0, (of_level _ v a h q.1).1)
    of_stmt x ts (print_stmt at left right v a h is e) s =
        let q = subst (Ats P) e s in
        stated x _ (ap core_stmt is ∙ core_print at v) (q.0, (of_level _ v a h (split a (mark (codes ")") right ∷ []) q.1.1).0).1)
    of_stmt x ts (task_stmt at equals spawn left right name result budget c first a b d h k m is e) s =
        let q = subst (Ats P) e s in
        let r = split a (mark (codes "=") equals ∷ keyword (codes "spawn") spawn ∷ mark (codes "(") left ∷ (b ++ mark (codes ")") right ∷ d)) q.1.1 in
        let t = split b (mark (codes ")") right ∷ d) r.1.1.1.1 in
        stated x _ (ap core_stmt is ∙ core_task at name result spawn budget c) (
          q.0,
          (
            q.1.0,
            each_join P (in_result (core_option_ty result)) (spawn ∷ (in_expr (core_of budget) ++ in_call (core_call c))) (of_task_type P result a h r.0)
                (r.1.1.0, each_join P (in_expr (core_of budget)) (in_call (core_call c)) (of_level _ budget b k t.0).1 (of_call first c d m t.1.1).1),
          ),
        )
    of_stmt x ts (await_stmt at name is e) s = stated x _ (ap core_stmt is ∙ core_awaits_alone at name) (subst (Ats P) e s)
    of_stmt x ts (call_stmt at c h is) s = stated x _ (ap core_stmt is ∙ core_calls_alone at c) (of_call at c ts h s)
    of_stmt x ts (block_stmt left b a h e is) s = stated x _ (ap core_stmt is ∙ core_bare left b) ((subst (Ats P) e s).0, of_block b ts h s)

    of_branches : (at : Place) (branches : List Branch) (otherwise : Option Block) (ts : Tokens) → AreBranches at branches otherwise ts → Ats P ts → P at × BranchesSay branches otherwise
    of_branches at branches otherwise ts (last_branch test body a b h k is none e) s =
        let o = subst (Ats P) e s in
        let q = split a b o.1 in (
          o.0,
          subst (λ c. Each P (in_branches c)) (sym (ap (λ l. core_branches l otherwise) is ∙ core_test test body (core_option_block otherwise)))
              (each_join P (in_expr (core_of test)) (in_block (core_block body) ++ in_branches (core_option_block otherwise)) (of_level _ test a h q.0).1
              (each_join P (in_block (core_block body)) (in_branches (core_option_block otherwise)) (of_block body b k q.1) (subst (λ o. Each P (in_branches (core_option_block o))) (sym none) tt))),
        )
    of_branches at branches otherwise ts (last_else_branch test body final else a b c h k m is some e) s =
        let o = subst (Ats P) e s in
        let q = split a (b ++ keyword (codes "else") else ∷ c) o.1 in
        let r = split b (keyword (codes "else") else ∷ c) q.1 in (
          o.0,
          subst (λ c. Each P (in_branches c)) (sym (ap (λ l. core_branches l otherwise) is ∙ core_test test body (core_option_block otherwise)))
              (each_join P (in_expr (core_of test)) (in_block (core_block body) ++ in_branches (core_option_block otherwise)) (of_level _ test a h q.0).1
              (each_join P (in_block (core_block body)) (in_branches (core_option_block otherwise)) (of_block body b k r.0) (subst (λ o. Each P (in_branches (core_option_block o))) (sym some) (of_block final c m r.1.1)))),
        )
    of_branches at branches otherwise ts (more_branch test body else next rest a b c h k m is e) s =
        let o = subst (Ats P) e s in
        let q = split a (b ++ keyword (codes "else") else ∷ c) o.1 in
        let r = split b (keyword (codes "else") else ∷ c) q.1 in (
          o.0,
          subst (λ c. Each P (in_branches c)) (sym (ap (λ l. core_branches l otherwise) is ∙ core_test test body (core_branches rest otherwise)))
              (each_join P (in_expr (core_of test)) (in_block (core_block body) ++ in_branches (core_branches rest otherwise)) (of_level _ test a h q.0).1
              (each_join P (in_block (core_block body)) (in_branches (core_branches rest otherwise)) (of_block body b k r.0) (of_branches next rest otherwise c m r.1.1).1)),
        )

  -- ---- declarations

  of_fields : (fields : List Field) (ts : Tokens) → AreFields fields ts → Ats P ts → Each P (in_fields (map core_field fields))
  of_fields fields ts (no_fields is e) s = subst (λ fields. Each P (in_fields (map core_field fields))) (sym is) tt
  of_fields fields ts (more_fields var colon name t rest a m b h k more is e) s =
      let q = (subst (Ats P) e s).1 in
      let r = split a (m ++ b) q.1.1 in
      subst (λ fields. Each P (in_fields (map core_field fields))) (sym is)
      (q.0, each_join P (in_ty (core_ty t)) (in_fields (map core_field rest)) (of_type P t a h r.0) (of_fields rest b more (split m b r.1).1))

  of_decl : (d : Decl) (ts : Tokens) → IsDecl d ts → Ats P ts → Each P (in_decl (core_decl d))
  of_decl d ts (struct_decl at left right name fields a h is e) s =
      let q = (subst (Ats P) e s).1 in
      subst (λ d. Each P (in_decl (core_decl d))) (sym is) (q.0, of_fields fields a h (split a (mark (codes "}") right ∷ []) q.1.1).0)
  of_decl d ts (fun_decl at left right name params result body a b c hp hr hb is e) s =
      let q = (subst (Ats P) e s).1 in
      let r = split a (mark (codes ")") right ∷ (b ++ c)) q.1.1 in
      let t = split b c r.1.1 in
      subst (λ d. Each P (in_decl (core_decl d))) (sym is) (
        q.0,
        each_join P (in_params (map core_param params)) (in_result (core_option_ty result) ++ in_block (core_block body)) (of_params P params a hp r.0)
            (each_join P (in_result (core_option_ty result)) (in_block (core_block body)) (of_return P result b hr t.0) (of_block body c hb t.1)),
      )

  of_decls : (ds : List Decl) (ts : Tokens) → AreDecls ds ts → Ats P ts → Each P (in_decls (map core_decl ds))
  of_decls ds ts (no_decls is e) s = subst (λ ds. Each P (in_decls (map core_decl ds))) (sym is) tt
  of_decls ds ts (more_decls d rest a b h m is e) s =
      let q = split a b (subst (Ats P) e s) in
      subst (λ ds. Each P (in_decls (map core_decl ds))) (sym is) (each_join P (in_decl (core_decl d)) (in_decls (map core_decl rest)) (of_decl d a h q.0) (of_decls rest b m q.1))

  -- what holds of where each token stands holds of each place of the program
  pub of_program : (tree : Tree) (ts : Tokens) → Spells tree ts → Ats P ts → Each P (in_decls (core_tree tree).decls)
  of_program tree ts h s = of_decls tree.decls ts h.decls s

among : (tokens : Tokens) → Ats (λ place. IsAmong place tokens) tokens
among tokens = each_weaker (Contains tokens) (λ k. IsAmong k.place tokens) tokens (λ k h. (k, h, refl)) (each_contained tokens)

pub places_said : (tree : Tree) (tokens : Tokens) → Spells tree tokens → (place : Place) → IsIn place (core_tree tree) → IsAmong place tokens
places_said tree tokens h place i =
    let P : Place → Type 0 = λ place. IsAmong place tokens in each_at P (in_decls (core_tree tree).decls) place (of_program P tree tokens h (among tokens)) i
