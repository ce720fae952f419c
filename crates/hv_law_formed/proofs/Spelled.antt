-- What tokens spell is formed, where no two of them stand at one place.
use Rattle.std.proofs.Common.{◌≡◌, inl, inr, ℕ, List, [], ◌∷◌, ◌++◌, map, true, false, Option, Some, option_map, codes, append-nil, refl, sym, ap, ◌∙◌, subst}
use Rattle.std.specs.List.{slice_get}
use Rattle.std.proofs.lemmas.Option.{slice_get-map}
use Rattle.hv_tree.specs.declared.place.Place.{Place}
use Rattle.hv_tree.specs.declared.token.Token.{Token}
use Rattle.hv_tree.specs.declared.ast.Operator.{Operator}
use Rattle.hv_tree.specs.declared.ast.Operator.TheVariants as operator
use Rattle.hv_tree.specs.declared.ast.Arg.{Arg}
use Rattle.hv_tree.specs.declared.ast.Block.{Block}
use Rattle.hv_tree.specs.declared.ast.Branch.{Branch}
use Rattle.hv_tree.specs.declared.ast.Call.{Call}
use Rattle.hv_tree.specs.declared.ast.Decl.{Decl}
use Rattle.hv_tree.specs.declared.ast.Expr.{Expr}
use Rattle.hv_tree.specs.declared.ast.Step.{Step}
use Rattle.hv_tree.specs.declared.ast.Stmt.{Stmt}
use Rattle.hv_tree.specs.declared.ast.Tree.{Tree}
use Rattle.hv_tree.specs.Tokens.{Tokens, mark, keyword, word, Level, Comparisons, IsInfix, or_sign, and_sign, eq_sign, ne_sign, lt_sign, le_sign, gt_sign, ge_sign, add_sign, sub_sign, mul_sign, div_sign, rem_sign}
use Rattle.hv_tree.specs.Grammar.{place_of, IsOperand, and_operand, comparison_operand, sum_operand, product_operand, unary_operand, IsLevel, alone_level, chain_level, AreLinks, last_link, more_link, IsUnary, plain_unary, negated_unary, inverted_unary, IsPrimary, numeral_primary, truth_primary, falsehood_primary, path_primary, call_primary, group_primary, await_primary, array_primary, filled_primary, count_primary, lambda_primary, AreElements, one_element, more_element, AreSteps, none_step, field_step, index_step, IsCall, is_call, AreArgs, none_args, some_args, AreSomeArgs, one_arg, more_arg, IsArg, value_argument, ref_argument, IsBlock, is_block, AreStmts, none_stmts, more_stmts, bare_return_stmts, last_return_stmts, IsStmt, var_stmt, var_with_stmt, let_stmt, inout_stmt, assign_stmt, if_stmt, while_stmt, return_stmt, print_stmt, task_stmt, await_stmt, call_stmt, block_stmt, AreBranches, last_branch, last_else_branch, more_branch, IsDecl, struct_decl, fun_decl, AreDecls, no_decls, more_decls, Spells}
use Rattle.hv_tree.specs.Core.{CoreDecl, StructOf, FunOf, CoreExpr, CoreExprs, CoreLinks, CoreSteps, CoreCall, CoreArgs, NoArgs, CoreBlock, CoreStmts, CoreBranches, CoreStmt, core_of, core_call, core_block, core_stmt, core_steps, core_arg, core_args, core_exprs, core_links, core_stmts, core_option_block, core_branches, core_decl, core_tree, end_of}
use Rattle.hv_tree.proofs.CoreLemmas as lemmas
use Rattle.hv_decls.specs.Locals.{CoreBody}
use Rattle.hv_decls.specs.Sites.{sites_of, bodies_of}
use Rattle.hv_lemmas.proofs.Members.{listed}
use Rattle.hv_law_formed.specs.Formed.{level_of, MayGoOn, AreOfLevel, HasElement, IsBody, IsFormed, AreApart}
use Rattle.hv_tree.proofs.CoreParts.{core_int, core_truth, core_path_expr, core_calls, core_awaits, core_array, core_filled, core_count, core_lambda, core_prefix, core_chain, core_called, core_ref, core_body, core_test, core_var, core_var_with, core_let, core_inout, core_assign, core_if, core_while, core_return, core_return_with, core_print, core_task, core_awaits_alone, core_calls_alone, core_bare}
use Rattle.hv_law_formed.proofs.Comes.{Comes, none, skip, take_one, join, front, back, and_none, last_first, drop_first, each_once}
use Rattle.hv_law_formed.proofs.Braces.{form_expr, form_exprs, form_links, form_steps, form_call, form_args, form_block, form_stmts, form_branches, form_stmt, form_decls, formed_among, at_decls, end_at, ends_expr, ends_exprs, ends_links, ends_steps, ends_call, ends_args, ends_block, ends_stmts, ends_branches, ends_stmt, ends_decls, body_end, of_decls}

-- ---- what is said of each part and its tokens

abbrev ExprSays : CoreExpr → Tokens → Type 0
ExprSays c ts = form_expr c × Comes ts (ends_expr c)

abbrev ExprsSay : CoreExprs → Tokens → Type 0
ExprsSay c ts = HasElement c × form_exprs c × Comes ts (ends_exprs c)

abbrev LinksSay : Level → CoreLinks → Tokens → Type 0
LinksSay l c ts = AreOfLevel l c × form_links c × Comes ts (ends_links c)

abbrev StepsSay : CoreSteps → Tokens → Type 0
StepsSay c ts = form_steps c × Comes ts (ends_steps c)

abbrev CallSays : CoreCall → Tokens → Type 0
CallSays c ts = form_call c × Comes ts (ends_call c)

abbrev ArgsSay : CoreArgs → Tokens → Type 0
ArgsSay c ts = form_args c × Comes ts (ends_args c)

-- a block with its own end
abbrev BlockSays : CoreBlock → Tokens → Type 0
BlockSays c ts = form_block c × Comes ts (end_at c ∷ ends_block c)

abbrev StmtsSay : CoreStmts → Tokens → Type 0
StmtsSay c ts = form_stmts c × Comes ts (ends_stmts c)

abbrev StmtSays : CoreStmt → Tokens → Type 0
StmtSays c ts = form_stmt c × Comes ts (ends_stmt c)

abbrev BranchesSay : CoreBranches → Tokens → Type 0
BranchesSay c ts = form_branches c × Comes ts (ends_branches c)

rebuilt : {A : Type 0} (P : A → Tokens → Type 0) {a b : A} {ts us : Tokens} → a ≡ b → ts ≡ us → P b us → P a ts
rebuilt P {b = b} {ts = ts} e f h = subst (λ a. P a ts) (sym e) (subst (P b) (sym f) h)

infix_level : {at : Place} (l : Level) {o : Operator} {sign : Token} → IsInfix at l o sign → level_of o ≡ Some l
infix_level l or_sign = refl
infix_level l and_sign = refl
infix_level l eq_sign = refl
infix_level l ne_sign = refl
infix_level l lt_sign = refl
infix_level l le_sign = refl
infix_level l gt_sign = refl
infix_level l ge_sign = refl
infix_level l add_sign = refl
infix_level l sub_sign = refl
infix_level l mul_sign = refl
infix_level l div_sign = refl
infix_level l rem_sign = refl

go_on : (l : Level) (rest : List (Operator × Place × Expr)) → (l ≡ Comparisons → ⊥) → MayGoOn l (core_links rest)
go_on l [] ne = tt
go_on l (k ∷ rest) ne = ne

-- ---- along the grammar

mutual
  of_operand : (l : Level) (x : Expr) (ts : Tokens) → IsOperand l x ts → ExprSays (core_of x) ts
  of_operand l x ts (and_operand e h) = of_level _ x ts h
  of_operand l x ts (comparison_operand e h) = of_level _ x ts h
  of_operand l x ts (sum_operand e h) = of_level _ x ts h
  of_operand l x ts (product_operand e h) = of_level _ x ts h
  of_operand l x ts (unary_operand e h) = of_unary x ts h

  of_level : (l : Level) (x : Expr) (ts : Tokens) → IsLevel l x ts → ExprSays (core_of x) ts
  of_level l x ts (alone_level h) = of_operand l x ts h
  of_level l x ts (chain_level first links a b h k is e) =
      let p = of_operand l first a h in
      let q = of_links l links b k in
      rebuilt ExprSays (ap core_of is ∙ core_chain (place_of first) first links) e ((p.0, (l, q.0), q.1), join p.1 q.2)

  of_links : (l : Level) (links : List (Operator × Place × Expr)) (ts : Tokens) → AreLinks l links ts → LinksSay l (core_links links) ts
  of_links l links ts (last_link op at sign x a i h is e) =
      let p = of_operand l x a h in
      rebuilt (LinksSay l) (ap core_links is) e ((infix_level l i, tt, tt), (p.0, tt), skip sign (and_none (ends_expr (core_of x)) p.1))
  of_links l links ts (more_link op at sign x rest a b ne i h m is e) =
      let p = of_operand l x a h in
      let q = of_links l rest b m in
      rebuilt (LinksSay l) (ap core_links is) e ((infix_level l i, go_on l rest ne, q.0), (p.0, q.1), skip sign (join p.1 q.2))

  of_unary : (x : Expr) (ts : Tokens) → IsUnary x ts → ExprSays (core_of x) ts
  of_unary x ts (plain_unary h) = of_primary x ts h
  of_unary x ts (negated_unary at operand a h is e) =
      let p = of_primary operand a h in
      rebuilt ExprSays (ap core_of is ∙ core_prefix at operator.Neg operand) e ((inl refl, p.0), skip (mark (codes "-") at) p.1)
  of_unary x ts (inverted_unary at operand a h is e) =
      let p = of_primary operand a h in
      rebuilt ExprSays (ap core_of is ∙ core_prefix at operator.Not operand) e ((inr refl, p.0), skip (mark (codes "!") at) p.1)

  of_primary : (x : Expr) (ts : Tokens) → IsPrimary x ts → ExprSays (core_of x) ts
  of_primary x ts (numeral_primary at value is e) = rebuilt ExprSays (ap core_of is ∙ core_int at value) refl (tt, none ts)
  of_primary x ts (truth_primary at is e) = rebuilt ExprSays (ap core_of is ∙ core_truth at true) refl (tt, none ts)
  of_primary x ts (falsehood_primary at is e) = rebuilt ExprSays (ap core_of is ∙ core_truth at false) refl (tt, none ts)
  of_primary x ts (path_primary root steps a h is e) =
      let p = of_steps steps a h in
      rebuilt ExprSays (ap core_of is ∙ core_path_expr root.place root steps) e (p.0, skip (word root) p.1)
  of_primary x ts (call_primary at c h is) = rebuilt ExprSays (ap core_of is ∙ core_calls at c) refl (of_call at c ts h)
  of_primary x ts (group_primary left right a h e) =
      let p = of_level _ x a h in
      rebuilt ExprSays {a = core_of x} refl e (p.0, skip (mark (codes "(") left) (front (mark (codes ")") right ∷ []) p.1))
  of_primary x ts (await_primary at name is e) = rebuilt ExprSays (ap core_of is ∙ core_awaits at name) refl (tt, none ts)
  of_primary x ts (array_primary left right elements a h is e) =
      let p = of_elements elements a h in
      rebuilt ExprSays (ap core_of is ∙ core_array left elements) e ((p.0, p.1), skip (mark (codes "[") left) (front (mark (codes "]") right ∷ []) p.2))
  of_primary x ts (filled_primary at left comma right len value a b h k is e) =
      let p = of_level _ len a h in
      let q = of_level _ value b k in
      rebuilt ExprSays (ap core_of is ∙ core_filled at len value) e ((p.0, q.0), skip (keyword (codes "filled") at) (skip (mark (codes "(") left) (join p.1 (skip (mark (codes ",") comma) (front (mark (codes ")") right ∷ []) q.1)))))
  of_primary x ts (count_primary at left right root steps a h is e) =
      let p = of_steps steps a h in
      rebuilt ExprSays (ap core_of is ∙ core_count at root steps) e (p.0, skip (keyword (codes "count") at) (skip (mark (codes "(") left) (skip (word root) (front (mark (codes ")") right ∷ []) p.1))))
  of_primary x ts (lambda_primary at o1 c1 o2 c2 captures params result body a b c d hn hp hr hb is e) =
      let p = of_block body d hb in
      rebuilt ExprSays (ap core_of is ∙ core_lambda at captures params result body) e
      (p.0, skip (keyword (codes "fun") at) (skip (mark (codes "[") o1) (back a (skip (mark (codes "]") c1) (skip (mark (codes "(") o2) (back b (skip (mark (codes ")") c2) (back c p.1))))))))

  of_elements : (xs : List Expr) (ts : Tokens) → AreElements xs ts → ExprsSay (core_exprs xs) ts
  of_elements xs ts (one_element x h is) =
      let p = of_level _ x ts h in
      rebuilt ExprsSay (ap core_exprs is) refl (tt, (p.0, tt), and_none (ends_expr (core_of x)) p.1)
  of_elements xs ts (more_element x rest comma a b h m is e) =
      let p = of_level _ x a h in
      let q = of_elements rest b m in
      rebuilt ExprsSay (ap core_exprs is) e (tt, (p.0, q.1), join p.1 (skip (mark (codes ",") comma) q.2))

  of_steps : (steps : List Step) (ts : Tokens) → AreSteps steps ts → StepsSay (core_steps steps) ts
  of_steps steps ts (none_step is e) = rebuilt StepsSay (ap core_steps is) refl (tt, none ts)
  of_steps steps ts (field_step dot name rest a h is e) =
      let p = of_steps rest a h in
      rebuilt StepsSay (ap core_steps is ∙ lemmas.step_field (core_steps rest) name) e (p.0, skip (mark (codes ".") dot) (skip (word name) p.1))
  of_steps steps ts (index_step left right at rest a b h m is e) =
      let p = of_level _ at a h in
      let q = of_steps rest b m in
      rebuilt StepsSay (ap core_steps is ∙ lemmas.step_index (core_steps rest) left at) e ((p.0, q.0), skip (mark (codes "[") left) (join p.1 (skip (mark (codes "]") right) q.1)))

  of_call : (at : Place) (c : Call) (ts : Tokens) → IsCall at c ts → CallSays (core_call c) ts
  of_call at c ts (is_call root steps paren right args a b h k place is e) =
      let p = of_steps steps a h in
      let q = of_args args b k in
      rebuilt CallSays (ap core_call is ∙ core_called root steps paren args) e ((p.0, q.0), skip (word root) (join p.1 (skip (mark (codes "(") paren) (front (mark (codes ")") right ∷ []) q.1))))

  of_args : (args : List Arg) (ts : Tokens) → AreArgs args ts → ArgsSay (core_args args) ts
  of_args args ts (none_args is e) = rebuilt ArgsSay (ap core_args is) refl (tt, none ts)
  of_args args ts (some_args h) = of_some_args args ts h

  of_some_args : (args : List Arg) (ts : Tokens) → AreSomeArgs args ts → ArgsSay (core_args args) ts
  of_some_args args ts (one_arg x h is) = rebuilt ArgsSay (ap core_args is) (sym (append-nil ts)) (of_arg x ts h NoArgs [] (tt, none []))
  of_some_args args ts (more_arg x rest comma a b h m is e) =
      let q = of_some_args rest b m in
      rebuilt ArgsSay (ap core_args is) e (of_arg x a h (core_args rest) (mark (codes ",") comma ∷ b) (q.0, skip (mark (codes ",") comma) q.1))

  -- an argument before the rest
  of_arg : (x : Arg) (ts : Tokens) → IsArg x ts → (rest : CoreArgs) (more : Tokens) → ArgsSay rest more → ArgsSay (core_arg x rest) (ts ++ more)
  of_arg x ts (value_argument v h is) rest more r =
      let p = of_level _ v ts h in
      rebuilt ArgsSay (ap (λ x. core_arg x rest) is ∙ lemmas.arg_value rest v) refl ((p.0, r.0), join p.1 r.1)
  of_arg x ts (ref_argument at root steps a h is e) rest more r =
      let p = of_steps steps a h in
      rebuilt ArgsSay (ap (λ x. core_arg x rest) is ∙ core_ref rest at root steps) (ap (λ t. t ++ more) e) ((p.0, r.0), skip (mark (codes "&") at) (skip (word root) (join p.1 r.1)))

  of_block : (b : Block) (ts : Tokens) → IsBlock b ts → BlockSays (core_block b) ts
  of_block b ts (is_block left right stmts a h is e) =
      let p = of_stmts stmts a h in
      rebuilt BlockSays (ap core_block is ∙ core_body stmts right) e
      (p.0, skip (mark (codes "{") left) (last_first (ends_stmts (core_stmts stmts)) right.start (join p.1 (take_one (mark (codes "}") right) (none [])))))

  of_stmts : (stmts : List Stmt) (ts : Tokens) → AreStmts stmts ts → StmtsSay (core_stmts stmts) ts
  of_stmts stmts ts (none_stmts is e) = rebuilt StmtsSay (ap core_stmts is) refl (tt, none ts)
  of_stmts stmts ts (more_stmts x rest a m b h k more is e) =
      let p = of_stmt x a h in
      let q = of_stmts rest b more in
      rebuilt StmtsSay (ap core_stmts is) e ((p.0, q.0), join p.1 (back m q.1))
  of_stmts stmts ts (bare_return_stmts at semicolon rest b more is e) =
      let p = rebuilt StmtSays {ts = []} (core_return at) refl (tt, none []) in
      let q = of_stmts rest b more in
      rebuilt StmtsSay (ap core_stmts is) e ((p.0, q.0), join p.1 (skip (keyword (codes "return") at) (skip (mark (codes ";") semicolon) q.1)))
  of_stmts stmts ts (last_return_stmts at is e) =
      let p = rebuilt StmtSays {ts = ts} (core_return at) refl (tt, none ts) in
      rebuilt StmtsSay (ap core_stmts is) refl ((p.0, tt), and_none (ends_stmt (core_stmt _)) p.1)

  of_stmt : (x : Stmt) (ts : Tokens) → IsStmt x ts → StmtSays (core_stmt x) ts
  of_stmt x ts (var_stmt at colon name t a h is e) = rebuilt StmtSays (ap core_stmt is ∙ core_var at name t) refl (tt, none ts)
  of_stmt x ts (var_with_stmt at colon equals name t v a b h k is e) =
      let p = of_level _ v b k in
      rebuilt StmtSays (ap core_stmt is ∙ core_var_with at name t v) e (p.0, skip (keyword (codes "var") at) (skip (word name) (skip (mark (codes ":") colon) (back a (skip (mark (codes "=") equals) p.1)))))
  of_stmt x ts (let_stmt at colon equals name t v a b h k is e) =
      let p = of_level _ v b k in
      rebuilt StmtSays (ap core_stmt is ∙ core_let at name t v) e (p.0, skip (keyword (codes "let") at) (skip (word name) (skip (mark (codes ":") colon) (back a (skip (mark (codes "=") equals) p.1)))))
  of_stmt x ts (inout_stmt at colon equals ref name t root steps a b h k is e) =
      let p = of_steps steps b k in
      rebuilt StmtSays (ap core_stmt is ∙ core_inout at name t root steps) e
      (p.0, skip (keyword (codes "inout") at) (skip (word name) (skip (mark (codes ":") colon) (back a (skip (mark (codes "=") equals) (skip (mark (codes "&") ref) (skip (word root) p.1)))))))
  of_stmt x ts (assign_stmt at equals root steps v a b h k is e) =
      let p = of_steps steps a h in
      let q = of_level _ v b k in
      rebuilt StmtSays (ap core_stmt is ∙ core_assign at root steps v) e ((p.0, q.0), skip (mark (codes "&") at) (skip (word root) (join p.1 (skip (mark (codes "=") equals) q.1))))
  of_stmt x ts (if_stmt at branches otherwise h is) = rebuilt StmtSays (ap core_stmt is ∙ core_if at branches otherwise) refl (of_branches at branches otherwise ts h)
  of_stmt x ts (while_stmt at test body a b h k is e) =
      let p = of_level _ test a h in
      let q = of_block body b k in
      rebuilt StmtSays (ap core_stmt is ∙ core_while at test body) e ((p.0, q.0), skip (keyword (codes "while") at) (join p.1 (drop_first q.1)))
  of_stmt x ts (return_stmt at v a h is e) =
      let p = of_level _ v a h in
      rebuilt StmtSays (ap core_stmt is ∙ core_return_with at v) e (p.0, skip (keyword (codes "return") at) p.1)
  of_stmt x ts (print_stmt at left right v a h is e) =
      let p = of_level _ v a h in
      rebuilt StmtSays (ap core_stmt is ∙ core_print at v) e (p.0, skip (keyword (codes "print") at) (skip (mark (codes "(") left) (front (mark (codes ")") right ∷ []) p.1)))
  of_stmt x ts (task_stmt at equals spawn left right name result budget c first a b d h k m is e) =
      let p = of_level _ budget b k in
      let q = of_call first c d m in
      rebuilt StmtSays (ap core_stmt is ∙ core_task at name result spawn budget c) e
      ((p.0, q.0), skip (keyword (codes "task") at) (skip (word name) (back a (skip (mark (codes "=") equals) (skip (keyword (codes "spawn") spawn) (skip (mark (codes "(") left) (join p.1 (skip (mark (codes ")") right) q.1))))))))
  of_stmt x ts (await_stmt at name is e) = rebuilt StmtSays (ap core_stmt is ∙ core_awaits_alone at name) refl (tt, none ts)
  of_stmt x ts (call_stmt at c h is) = rebuilt StmtSays (ap core_stmt is ∙ core_calls_alone at c) refl (of_call at c ts h)
  of_stmt x ts (block_stmt left b a h e is) =
      let p = of_block b ts h in
      rebuilt StmtSays (ap core_stmt is ∙ core_bare left b) refl (p.0, drop_first p.1)

  of_branches : (at : Place) (branches : List Branch) (otherwise : Option Block) (ts : Tokens) → AreBranches at branches otherwise ts → BranchesSay (core_branches branches otherwise) ts
  of_branches at branches otherwise ts (last_branch test body a b h k is lacks e) =
      let p = of_level _ test a h in
      let q = of_block body b k in
      let r = rebuilt BranchesSay {ts = []} (ap core_option_block lacks) refl (tt, none []) in
      rebuilt BranchesSay (ap (λ l. core_branches l otherwise) is ∙ core_test test body (core_option_block otherwise)) (e ∙ ap (λ t. keyword (codes "if") at ∷ (a ++ t)) (sym (append-nil b)))
      ((p.0, q.0, r.0), skip (keyword (codes "if") at) (join p.1 (join (drop_first q.1) r.1)))
  of_branches at branches otherwise ts (last_else_branch test body final else a b c h k m is some e) =
      let p = of_level _ test a h in
      let q = of_block body b k in
      let f = of_block final c m in
      let r = rebuilt BranchesSay {ts = c} (ap core_option_block some) refl (f.0, drop_first f.1) in
      rebuilt BranchesSay (ap (λ l. core_branches l otherwise) is ∙ core_test test body (core_option_block otherwise)) e
      ((p.0, q.0, r.0), skip (keyword (codes "if") at) (join p.1 (join (drop_first q.1) (skip (keyword (codes "else") else) r.1))))
  of_branches at branches otherwise ts (more_branch test body else next rest a b c h k m is e) =
      let p = of_level _ test a h in
      let q = of_block body b k in
      let r = of_branches next rest otherwise c m in
      rebuilt BranchesSay (ap (λ l. core_branches l otherwise) is ∙ core_test test body (core_branches rest otherwise)) e
      ((p.0, q.0, r.0), skip (keyword (codes "if") at) (join p.1 (join (drop_first q.1) (skip (keyword (codes "else") else) r.1))))

-- ---- declarations

abbrev DeclsSay : List CoreDecl → Tokens → Type 0
DeclsSay c ts = form_decls c × Comes ts (ends_decls c)

of_decl : (d : Decl) (ts : Tokens) → IsDecl d ts → DeclsSay (core_decl d ∷ []) ts
of_decl d ts (struct_decl at left right name fields a h is e) = rebuilt DeclsSay (ap (λ d. core_decl d ∷ []) is) refl (tt, none ts)
of_decl d ts (fun_decl at left right name params result body a b c hp hr hb is e) =
    let p = of_block body c hb in
    rebuilt DeclsSay (ap (λ d. core_decl d ∷ []) is) e
    ((p.0, tt), skip (keyword (codes "fun") at) (skip (word name) (skip (mark (codes "(") left) (back a (skip (mark (codes ")") right) (back b (and_none (end_at (core_block body) ∷ ends_block (core_block body)) p.1)))))))

one_more : (d : CoreDecl) (rest : List CoreDecl) (ts us : Tokens) → DeclsSay (d ∷ []) ts → DeclsSay rest us → DeclsSay (d ∷ rest) (ts ++ us)
one_more (StructOf s) rest ts us h k = (k.0, back ts k.1)
one_more (FunOf f) rest ts us h k = ((h.0.0, k.0), join (subst (Comes ts) (append-nil (end_at f.body ∷ ends_block f.body)) h.1) k.1)

of_all : (ds : List Decl) (ts : Tokens) → AreDecls ds ts → DeclsSay (map core_decl ds) ts
of_all ds ts (no_decls is e) = rebuilt DeclsSay (ap (map core_decl) is) refl (tt, none ts)
of_all ds ts (more_decls d rest a b h m is e) =
    rebuilt DeclsSay (ap (map core_decl) is) e (one_more (core_decl d) (map core_decl rest) a b (of_decl d a h) (of_all rest b m))

pub spelled_formed : (tree : Tree) (tokens : Tokens) → Spells tree tokens → AreApart tokens → IsFormed (core_tree tree)
spelled_formed tree tokens h a = record { parts = λ w c. formed_among (sites_of (core_tree tree)) (at_decls (core_tree tree).decls says.0) w (listed (sites_of (core_tree tree)) w c); apart = apart }
  where
    says : DeclsSay (map core_decl tree.decls) tokens
    says = of_all tree.decls tokens h.decls

    ends : Comes tokens (map body_end (bodies_of (core_tree tree)))
    ends = subst (Comes tokens) (sym (of_decls (map core_decl tree.decls))) says.1

    at : (n : ℕ) (b : CoreBody) → IsBody (core_tree tree) n b → slice_get (map body_end (bodies_of (core_tree tree))) n ≡ Some (end_of b.block).start
    at n b e = slice_get-map body_end (bodies_of (core_tree tree)) n ∙ ap (option_map body_end) e

    apart : (m n : ℕ) (b c : CoreBody) → IsBody (core_tree tree) m b → IsBody (core_tree tree) n c → (end_of b.block).start ≡ (end_of c.block).start → m ≡ n
    apart m n b c e f same = each_once tokens (map body_end (bodies_of (core_tree tree))) a ends m n (end_of c.block).start (at m b e ∙ ap Some same) (at n c f)
