-- A program that tokens of a lexer's spellings spell is proper.
use Rattle.std.proofs.Common.{◌≡◌, inl, inr, List, [], ◌∷◌, ◌++◌, map, true, false, Option, codes, refl, sym, ◌∙◌, ap, subst}
use Rattle.hv_tree.specs.declared.place.Place.{Place}
use Rattle.hv_tree.specs.declared.ast.Operator.{Operator}
use Rattle.hv_tree.specs.declared.ast.Arg.{Arg}
use Rattle.hv_tree.specs.declared.ast.Block.{Block}
use Rattle.hv_tree.specs.declared.ast.Branch.{Branch}
use Rattle.hv_tree.specs.declared.ast.Call.{Call}
use Rattle.hv_tree.specs.declared.ast.Decl.{Decl}
use Rattle.hv_tree.specs.declared.ast.Expr.{Expr}
use Rattle.hv_tree.specs.declared.ast.Field.{Field}
use Rattle.hv_tree.specs.declared.ast.Step.{Step}
use Rattle.hv_tree.specs.declared.ast.Stmt.{Stmt}
use Rattle.hv_tree.specs.declared.ast.Tree.{Tree}
use Rattle.hv_tree.specs.declared.types.Ty.{Ty}
use Rattle.hv_tree.specs.Tokens.{Tokens, mark, keyword, word, Level, Comparisons}
use Rattle.hv_tree.specs.Grammar.{place_of, IsTaskType, no_task_type, one_task_type, IsOperand, and_operand, comparison_operand, sum_operand, product_operand, unary_operand, IsLevel, alone_level, chain_level, AreLinks, last_link, more_link, IsUnary, plain_unary, negated_unary, inverted_unary, IsPrimary, numeral_primary, truth_primary, falsehood_primary, path_primary, call_primary, group_primary, await_primary, array_primary, filled_primary, count_primary, lambda_primary, AreElements, one_element, more_element, AreSteps, none_step, field_step, index_step, IsCall, is_call, AreArgs, none_args, some_args, AreSomeArgs, one_arg, more_arg, IsArg, value_argument, ref_argument, IsBlock, is_block, AreStmts, none_stmts, more_stmts, bare_return_stmts, last_return_stmts, IsStmt, var_stmt, var_with_stmt, let_stmt, inout_stmt, assign_stmt, if_stmt, while_stmt, return_stmt, print_stmt, task_stmt, await_stmt, call_stmt, block_stmt, AreBranches, last_branch, last_else_branch, more_branch, AreFields, no_fields, more_fields, IsDecl, struct_decl, fun_decl, AreDecls, no_decls, more_decls, Spells}
use Rattle.hv_tree.specs.Core.{CoreArgs, CoreBranches, core_of, core_call, core_block, core_stmt, core_steps, core_arg, core_args, core_exprs, core_links, core_stmts, core_option_block, core_branches, core_option_ty, core_field, core_decl, core_tree}
use Rattle.hv_tree.proofs.CoreLemmas as lemmas
use Rattle.hv_print.specs.Spellings.{AreSpelled}
use Rattle.hv_tree.proofs.CoreParts.{core_int, core_truth, core_path_expr, core_calls, core_awaits, core_array, core_filled, core_count, core_lambda, core_prefix, core_chain, core_called, core_ref, core_body, core_test, core_var, core_var_with, core_let, core_inout, core_assign, core_if, core_while, core_return, core_return_with, core_print, core_task, core_awaits_alone, core_calls_alone, core_bare}
use Rattle.hv_print.proofs.Proper.{ProperResult, HasLink, HasElement, HasTest, MayGoOn, ProperExpr, ProperExprs, ProperLinks, ProperSteps, ProperCall, ProperArgs, ProperBlock, ProperStmts, ProperBranches, ProperStmt, ProperFields, ProperDecl, ProperDecls}
use Rattle.hv_print.proofs.ProperTypes.{spelled_parts, of_type, of_return, of_params, of_names}

-- what a list of links says of its plain form
abbrev LinksSay : Level → List (Operator × Place × Expr) → Type 0
LinksSay l links = HasLink (core_links links) × ProperLinks l (core_links links)

abbrev BranchesSay : CoreBranches → Type 0
BranchesSay branches = HasTest branches × ProperBranches branches

of_task_type : (result : Option Ty) (ts : Tokens) → IsTaskType result ts → AreSpelled ts → ProperResult (core_option_ty result)
of_task_type result ts (no_task_type is e) s = subst (λ r. ProperResult (core_option_ty r)) (sym is) tt
of_task_type result ts (one_task_type colon t a h is e) s = subst (λ r. ProperResult (core_option_ty r)) (sym is) (of_type t a h (subst AreSpelled e s).1)

go_on : (l : Level) (rest : List (Operator × Place × Expr)) → (l ≡ Comparisons → ⊥) → MayGoOn l (core_links rest)
go_on l [] ne = tt
go_on l (k ∷ rest) ne = ne

mutual
  of_operand : (l : Level) (x : Expr) (ts : Tokens) → IsOperand l x ts → AreSpelled ts → ProperExpr (core_of x)
  of_operand l x ts (and_operand e h) s = of_level _ x ts h s
  of_operand l x ts (comparison_operand e h) s = of_level _ x ts h s
  of_operand l x ts (sum_operand e h) s = of_level _ x ts h s
  of_operand l x ts (product_operand e h) s = of_level _ x ts h s
  of_operand l x ts (unary_operand e h) s = of_unary x ts h s

  of_level : (l : Level) (x : Expr) (ts : Tokens) → IsLevel l x ts → AreSpelled ts → ProperExpr (core_of x)
  of_level l x ts (alone_level h) s = of_operand l x ts h s
  of_level l x ts (chain_level first links a b h k is e) s =
      let q = spelled_parts a b (subst AreSpelled e s) in
      let m = of_links l links b k q.1 in
      subst ProperExpr (sym (ap core_of is ∙ core_chain (place_of first) first links)) (of_operand l first a h q.0, m.0, (l, m.1))

  of_links : (l : Level) (links : List (Operator × Place × Expr)) (ts : Tokens) → AreLinks l links ts → AreSpelled ts → LinksSay l links
  of_links l links ts (last_link op at sign x a i h is e) s =
      subst (LinksSay l) (sym is) (tt, ((at, sign, i), of_operand l x a h (subst AreSpelled e s).1, tt, tt))
  of_links l links ts (more_link op at sign x rest a b ne i h m is e) s =
      let q = spelled_parts a b (subst AreSpelled e s).1 in
      subst (LinksSay l) (sym is) (tt, ((at, sign, i), of_operand l x a h q.0, go_on l rest ne, (of_links l rest b m q.1).1))

  of_unary : (x : Expr) (ts : Tokens) → IsUnary x ts → AreSpelled ts → ProperExpr (core_of x)
  of_unary x ts (plain_unary h) s = of_primary x ts h s
  of_unary x ts (negated_unary at operand a h is e) s = subst ProperExpr (sym (ap core_of is ∙ core_prefix at _ operand)) (inl refl, of_primary operand a h (subst AreSpelled e s).1)
  of_unary x ts (inverted_unary at operand a h is e) s = subst ProperExpr (sym (ap core_of is ∙ core_prefix at _ operand)) (inr refl, of_primary operand a h (subst AreSpelled e s).1)

  of_primary : (x : Expr) (ts : Tokens) → IsPrimary x ts → AreSpelled ts → ProperExpr (core_of x)
  of_primary x ts (numeral_primary at value is e) s = subst ProperExpr (sym (ap core_of is ∙ core_int at value)) (subst AreSpelled e s).0
  of_primary x ts (truth_primary at is e) s = subst ProperExpr (sym (ap core_of is ∙ core_truth at true)) tt
  of_primary x ts (falsehood_primary at is e) s = subst ProperExpr (sym (ap core_of is ∙ core_truth at false)) tt
  of_primary x ts (path_primary root steps a h is e) s =
      let q = subst AreSpelled e s in
      subst ProperExpr (sym (ap core_of is ∙ core_path_expr root.place root steps)) (q.0, of_steps steps a h q.1)
  of_primary x ts (call_primary at c h is) s = subst ProperExpr (sym (ap core_of is ∙ core_calls at c)) (of_call at c ts h s)
  of_primary x ts (group_primary left right a h e) s = of_level _ x a h (spelled_parts a (mark (codes ")") right ∷ []) (subst AreSpelled e s).1).0
  of_primary x ts (await_primary at name is e) s = subst ProperExpr (sym (ap core_of is ∙ core_awaits at name)) (subst AreSpelled e s).1.0
  of_primary x ts (array_primary left right elements a h is e) s =
      subst ProperExpr (sym (ap core_of is ∙ core_array left elements)) (of_elements elements a h (spelled_parts a (mark (codes "]") right ∷ []) (subst AreSpelled e s).1).0)
  of_primary x ts (filled_primary at left comma right len value a b h k is e) s =
      let q = spelled_parts a (mark (codes ",") comma ∷ (b ++ mark (codes ")") right ∷ [])) (subst AreSpelled e s).1.1 in
      let r = spelled_parts b (mark (codes ")") right ∷ []) q.1.1 in
      subst ProperExpr (sym (ap core_of is ∙ core_filled at len value)) (of_level _ len a h q.0, of_level _ value b k r.0)
  of_primary x ts (count_primary at left right root steps a h is e) s =
      let q = (subst AreSpelled e s).1.1 in
      subst ProperExpr (sym (ap core_of is ∙ core_count at root steps)) (q.0, of_steps steps a h (spelled_parts a (mark (codes ")") right ∷ []) q.1).0)
  of_primary x ts (lambda_primary at o1 c1 o2 c2 captures params result body a b c d hn hp hr hb is e) s =
      let q = spelled_parts a (mark (codes "]") c1 ∷ mark (codes "(") o2 ∷ (b ++ mark (codes ")") c2 ∷ (c ++ d))) (subst AreSpelled e s).1.1 in
      let r = spelled_parts b (mark (codes ")") c2 ∷ (c ++ d)) q.1.1.1 in
      let t = spelled_parts c d r.1.1 in
      subst ProperExpr (sym (ap core_of is ∙ core_lambda at captures params result body)) (of_names captures a hn q.0, of_params params b hp r.0, of_return result c hr t.0, of_block body d hb t.1)

  of_elements : (xs : List Expr) (ts : Tokens) → AreElements xs ts → AreSpelled ts → HasElement (core_exprs xs) × ProperExprs (core_exprs xs)
  of_elements xs ts (one_element x h is) s = subst (λ xs. HasElement (core_exprs xs) × ProperExprs (core_exprs xs)) (sym is) (tt, (of_level _ x ts h s, tt))
  of_elements xs ts (more_element x rest comma a b h m is e) s =
      let q = spelled_parts a (mark (codes ",") comma ∷ b) (subst AreSpelled e s) in
      subst (λ xs. HasElement (core_exprs xs) × ProperExprs (core_exprs xs)) (sym is) (tt, (of_level _ x a h q.0, (of_elements rest b m q.1.1).1))

  of_steps : (steps : List Step) (ts : Tokens) → AreSteps steps ts → AreSpelled ts → ProperSteps (core_steps steps)
  of_steps steps ts (none_step is e) s = subst (λ steps. ProperSteps (core_steps steps)) (sym is) tt
  of_steps steps ts (field_step dot name rest a h is e) s =
      let q = (subst AreSpelled e s).1 in
      subst ProperSteps (sym (ap core_steps is ∙ lemmas.step_field (core_steps rest) name)) (q.0, of_steps rest a h q.1)
  of_steps steps ts (index_step left right at rest a b h m is e) s =
      let q = spelled_parts a (mark (codes "]") right ∷ b) (subst AreSpelled e s).1 in
      subst ProperSteps (sym (ap core_steps is ∙ lemmas.step_index (core_steps rest) left at)) (of_level _ at a h q.0, of_steps rest b m q.1.1)

  of_call : (at : Place) (c : Call) (ts : Tokens) → IsCall at c ts → AreSpelled ts → ProperCall (core_call c)
  of_call at c ts (is_call root steps paren right args a b h k place is e) s =
      let r = subst AreSpelled e s in
      let q = spelled_parts a (mark (codes "(") paren ∷ (b ++ mark (codes ")") right ∷ [])) r.1 in
      let t = spelled_parts b (mark (codes ")") right ∷ []) q.1.1 in
      subst ProperCall (sym (ap core_call is ∙ core_called root steps paren args)) (r.0, of_steps steps a h q.0, of_args args b k t.0)

  of_args : (args : List Arg) (ts : Tokens) → AreArgs args ts → AreSpelled ts → ProperArgs (core_args args)
  of_args args ts (none_args is e) s = subst (λ args. ProperArgs (core_args args)) (sym is) tt
  of_args args ts (some_args h) s = of_some_args args ts h s

  of_some_args : (args : List Arg) (ts : Tokens) → AreSomeArgs args ts → AreSpelled ts → ProperArgs (core_args args)
  of_some_args args ts (one_arg x h is) s = subst (λ args. ProperArgs (core_args args)) (sym is) (of_arg x ts h s (core_args []) tt)
  of_some_args args ts (more_arg x rest comma a b h m is e) s =
      let q = spelled_parts a (mark (codes ",") comma ∷ b) (subst AreSpelled e s) in
      subst (λ args. ProperArgs (core_args args)) (sym is) (of_arg x a h q.0 (core_args rest) (of_some_args rest b m q.1.1))

  of_arg : (x : Arg) (ts : Tokens) → IsArg x ts → AreSpelled ts → (rest : CoreArgs) → ProperArgs rest → ProperArgs (core_arg x rest)
  of_arg x ts (value_argument v h is) s rest more = subst ProperArgs (sym (ap (λ x. core_arg x rest) is ∙ lemmas.arg_value rest v)) (of_level _ v ts h s, more)
  of_arg x ts (ref_argument at root steps a h is e) s rest more =
      let q = (subst AreSpelled e s).1 in
      subst ProperArgs (sym (ap (λ x. core_arg x rest) is ∙ core_ref rest at root steps)) (q.0, of_steps steps a h q.1, more)

  of_block : (b : Block) (ts : Tokens) → IsBlock b ts → AreSpelled ts → ProperBlock (core_block b)
  of_block b ts (is_block left right stmts a h is e) s =
      subst ProperBlock (sym (ap core_block is ∙ core_body stmts right)) (of_stmts stmts a h (spelled_parts a (mark (codes "}") right ∷ []) (subst AreSpelled e s).1).0)

  of_stmts : (stmts : List Stmt) (ts : Tokens) → AreStmts stmts ts → AreSpelled ts → ProperStmts (core_stmts stmts)
  of_stmts stmts ts (none_stmts is e) s = subst (λ stmts. ProperStmts (core_stmts stmts)) (sym is) tt
  of_stmts stmts ts (more_stmts x rest a m b h k more is e) s =
      let q = spelled_parts a (m ++ b) (subst AreSpelled e s) in
      subst (λ stmts. ProperStmts (core_stmts stmts)) (sym is) (of_stmt x a h q.0, of_stmts rest b more (spelled_parts m b q.1).1)
  of_stmts stmts ts (bare_return_stmts at semicolon rest b more is e) s =
      subst (λ stmts. ProperStmts (core_stmts stmts)) (sym is) (subst ProperStmt (sym (core_return at)) tt, of_stmts rest b more (subst AreSpelled e s).1.1)
  of_stmts stmts ts (last_return_stmts at is e) s = subst (λ stmts. ProperStmts (core_stmts stmts)) (sym is) (subst ProperStmt (sym (core_return at)) tt, tt)

  of_stmt : (x : Stmt) (ts : Tokens) → IsStmt x ts → AreSpelled ts → ProperStmt (core_stmt x)
  of_stmt x ts (var_stmt at colon name t a h is e) s =
      let q = (subst AreSpelled e s).1 in
      subst ProperStmt (sym (ap core_stmt is ∙ core_var at name t)) (q.0, of_type t a h q.1.1)
  of_stmt x ts (var_with_stmt at colon equals name t v a b h k is e) s =
      let q = (subst AreSpelled e s).1 in
      let r = spelled_parts a (mark (codes "=") equals ∷ b) q.1.1 in
      subst ProperStmt (sym (ap core_stmt is ∙ core_var_with at name t v)) (q.0, of_type t a h r.0, of_level _ v b k r.1.1)
  of_stmt x ts (let_stmt at colon equals name t v a b h k is e) s =
      let q = (subst AreSpelled e s).1 in
      let r = spelled_parts a (mark (codes "=") equals ∷ b) q.1.1 in
      subst ProperStmt (sym (ap core_stmt is ∙ core_let at name t v)) (q.0, of_type t a h r.0, of_level _ v b k r.1.1)
  of_stmt x ts (inout_stmt at colon equals ref name t root steps a b h k is e) s =
      let q = (subst AreSpelled e s).1 in
      let r = spelled_parts a (mark (codes "=") equals ∷ mark (codes "&") ref ∷ word root ∷ b) q.1.1 in
      subst ProperStmt (sym (ap core_stmt is ∙ core_inout at name t root steps)) (q.0, of_type t a h r.0, r.1.1.1.0, of_steps steps b k r.1.1.1.1)
  of_stmt x ts (assign_stmt at equals root steps v a b h k is e) s =
      let q = (subst AreSpelled e s).1 in
      let r = spelled_parts a (mark (codes "=") equals ∷ b) q.1 in
      subst ProperStmt (sym (ap core_stmt is ∙ core_assign at root steps v)) (q.0, of_steps steps a h r.0, of_level _ v b k r.1.1)
  of_stmt x ts (if_stmt at branches otherwise h is) s = subst ProperStmt (sym (ap core_stmt is ∙ core_if at branches otherwise)) (of_branches at branches otherwise ts h s)
  of_stmt x ts (while_stmt at test body a b h k is e) s =
      let q = spelled_parts a b (subst AreSpelled e s).1 in
      subst ProperStmt (sym (ap core_stmt is ∙ core_while at test body)) (of_level _ test a h q.0, of_block body b k q.1)
  of_stmt x ts (return_stmt at v a h is e) s = subst ProperStmt (sym (ap core_stmt is ∙ core_return_with at v)) (of_level _ v a h (subst AreSpelled e s).1)
  of_stmt x ts (print_stmt at left right v a h is e) s =
      subst ProperStmt (sym (ap core_stmt is ∙ core_print at v)) (of_level _ v a h (spelled_parts a (mark (codes ")") right ∷ []) (subst AreSpelled e s).1.1).0)
  of_stmt x ts (task_stmt at equals spawn left right name result budget c first a b d h k m is e) s =
      let q = (subst AreSpelled e s).1 in
      let r = spelled_parts a (mark (codes "=") equals ∷ keyword (codes "spawn") spawn ∷ mark (codes "(") left ∷ (b ++ mark (codes ")") right ∷ d)) q.1 in
      let t = spelled_parts b (mark (codes ")") right ∷ d) r.1.1.1.1 in
      subst ProperStmt (sym (ap core_stmt is ∙ core_task at name result spawn budget c)) (q.0, of_task_type result a h r.0, of_level _ budget b k t.0, of_call first c d m t.1.1)
  of_stmt x ts (await_stmt at name is e) s = subst ProperStmt (sym (ap core_stmt is ∙ core_awaits_alone at name)) (subst AreSpelled e s).1.0
  of_stmt x ts (call_stmt at c h is) s = subst ProperStmt (sym (ap core_stmt is ∙ core_calls_alone at c)) (of_call at c ts h s)
  of_stmt x ts (block_stmt left b a h e is) s = subst ProperStmt (sym (ap core_stmt is ∙ core_bare left b)) (of_block b ts h s)

  of_branches : (at : Place) (branches : List Branch) (otherwise : Option Block) (ts : Tokens) → AreBranches at branches otherwise ts → AreSpelled ts →
      HasTest (core_branches branches otherwise) × ProperBranches (core_branches branches otherwise)
  of_branches at branches otherwise ts (last_branch test body a b h k is none e) s =
      let q = spelled_parts a b (subst AreSpelled e s).1 in
      subst BranchesSay (sym (ap (λ l. core_branches l otherwise) is ∙ core_test test body (core_option_block otherwise))) (tt, (of_level _ test a h q.0, of_block body b k q.1, subst (λ o. ProperBranches (core_option_block o)) (sym none) tt))
  of_branches at branches otherwise ts (last_else_branch test body final else a b c h k m is some e) s =
      let q = spelled_parts a (b ++ keyword (codes "else") else ∷ c) (subst AreSpelled e s).1 in
      let r = spelled_parts b (keyword (codes "else") else ∷ c) q.1 in
      subst BranchesSay (sym (ap (λ l. core_branches l otherwise) is ∙ core_test test body (core_option_block otherwise)))
      (tt, (of_level _ test a h q.0, of_block body b k r.0, subst (λ o. ProperBranches (core_option_block o)) (sym some) (of_block final c m r.1.1)))
  of_branches at branches otherwise ts (more_branch test body else next rest a b c h k m is e) s =
      let q = spelled_parts a (b ++ keyword (codes "else") else ∷ c) (subst AreSpelled e s).1 in
      let r = spelled_parts b (keyword (codes "else") else ∷ c) q.1 in
      subst BranchesSay (sym (ap (λ l. core_branches l otherwise) is ∙ core_test test body (core_branches rest otherwise)))
      (tt, (of_level _ test a h q.0, of_block body b k r.0, (of_branches next rest otherwise c m r.1.1).1))

-- ---- declarations

of_fields : (fields : List Field) (ts : Tokens) → AreFields fields ts → AreSpelled ts → ProperFields (map core_field fields)
of_fields fields ts (no_fields is e) s = subst (λ fields. ProperFields (map core_field fields)) (sym is) tt
of_fields fields ts (more_fields var colon name t rest a m b h k more is e) s =
    let q = (subst AreSpelled e s).1 in
    let r = spelled_parts a (m ++ b) q.1.1 in
    subst (λ fields. ProperFields (map core_field fields)) (sym is) (q.0, of_type t a h r.0, of_fields rest b more (spelled_parts m b r.1).1)

of_decl : (d : Decl) (ts : Tokens) → IsDecl d ts → AreSpelled ts → ProperDecl (core_decl d)
of_decl d ts (struct_decl at left right name fields a h is e) s =
    let q = (subst AreSpelled e s).1 in
    subst (λ d. ProperDecl (core_decl d)) (sym is) (q.0, of_fields fields a h (spelled_parts a (mark (codes "}") right ∷ []) q.1.1).0)
of_decl d ts (fun_decl at left right name params result body a b c hp hr hb is e) s =
    let q = (subst AreSpelled e s).1 in
    let r = spelled_parts a (mark (codes ")") right ∷ (b ++ c)) q.1.1 in
    let t = spelled_parts b c r.1.1 in
    subst (λ d. ProperDecl (core_decl d)) (sym is) (q.0, of_params params a hp r.0, of_return result b hr t.0, of_block body c hb t.1)

of_decls : (ds : List Decl) (ts : Tokens) → AreDecls ds ts → AreSpelled ts → ProperDecls (map core_decl ds)
of_decls ds ts (no_decls is e) s = subst (λ ds. ProperDecls (map core_decl ds)) (sym is) tt
of_decls ds ts (more_decls d rest a b h m is e) s =
    let q = spelled_parts a b (subst AreSpelled e s) in
    subst (λ ds. ProperDecls (map core_decl ds)) (sym is) (of_decl d a h q.0, of_decls rest b m q.1)

pub proper : (tree : Tree) (ts : Tokens) → Spells tree ts → AreSpelled ts → ProperDecls (core_tree tree).decls
proper tree ts h s = of_decls tree.decls ts h.decls s
