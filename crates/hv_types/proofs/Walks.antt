-- What is judged wrong at the sites of each part, by the part's variant.
use Rattle.std.proofs.Common.{◌≡◌, ℕ, List, [], ◌∷◌, ◌++◌, map, Option, Some, None, refl, sym, ap, ◌∙◌, ◌+◌, ◌<◌, length, drop, get_or, append_assoc, append-nil}
use Rattle.hv_tree.specs.declared.place.Place.{Place}
use Rattle.hv_tree.specs.declared.types.Name.{Name}
use Rattle.hv_tree.specs.declared.types.Ty.{Ty}
use Rattle.hv_tree.specs.declared.refusal.Refusal.{Refusal}
use Rattle.hv_tree.specs.declared.ast.Operator.{Operator}
use Rattle.hv_tree.specs.declared.ast.Arg.{Arg, out-Arg}
use Rattle.hv_tree.specs.declared.ast.Block.{Block, out-Block}
use Rattle.hv_tree.specs.declared.ast.Branch.{Branch, out-Branch}
use Rattle.hv_tree.specs.declared.ast.Call.{Call, out-Call}
use Rattle.hv_tree.specs.declared.ast.Expr.{Expr, out-Expr}
use Rattle.hv_tree.specs.declared.ast.ExprKind.{ExprKind, out-ExprKind}
use Rattle.hv_tree.specs.declared.ast.Param.{Param}
use Rattle.hv_tree.specs.declared.ast.PlaceExpr.{PlaceExpr, out-PlaceExpr}
use Rattle.hv_tree.specs.declared.ast.Step.{Step, out-Step}
use Rattle.hv_tree.specs.declared.ast.Stmt.{Stmt, out-Stmt}
use Rattle.hv_tree.specs.declared.ast.StmtKind.{StmtKind, out-StmtKind}
use Rattle.hv_tree.specs.declared.ast.Arg.TheOpen.{Arg-F, ExprKind-F, Step-F, StmtKind-F}
use Rattle.hv_tree.specs.Core as core
use Rattle.hv_tree.proofs.CoreLemmas as lemmas
use Rattle.hv_tree.specs.declared.ast.Decl.{Decl}
use Rattle.hv_tree.specs.declared.ast.Decl.TheVariants as decl
use Rattle.hv_tree.specs.declared.ast.FunDecl.{FunDecl}
use Rattle.hv_tree.specs.declared.ast.StructDecl.{StructDecl}
use Rattle.hv_decls.specs.Locals.{Local, param_local, binds, listed, fun_body}
use Rattle.hv_decls.specs.Sites as sites
use Rattle.hv_decls.specs.Sites.{Scope, Site, ExprPart, StmtPart, CallPart, PlacePart, TestPart, site}
use Rattle.hv_scope.specs.declared.known.Known.{Known}
use Rattle.hv_scope.specs.Known.{local_by, core_fun}
use Rattle.hv_lemmas.proofs.Lists.{first_left}
use Rattle.hv_type_judge.specs.Judged as spec
use Rattle.hv_types.specs.declared.here.Program.{Program}
use Rattle.hv_types.specs.Walked as walked

-- ---- sites

pub sites_append : (tree : core.Core) (holding : List (List ℕ)) (a b : List Site) → spec.sites_judged tree holding (a ++ b) ≡ spec.sites_judged tree holding a ++ spec.sites_judged tree holding b
sites_append tree holding [] b = refl
sites_append tree holding (w ∷ a) b =
    let first = spec.judged tree holding w.scope w.part in
    ap (λ l. first ++ l) (sites_append tree holding a b) ∙ sym (append_assoc first (spec.sites_judged tree holding a) (spec.sites_judged tree holding b))

expr_tail : (x : core.CoreExpr) (s : Scope) → sites.expr_sites x s ≡ site s (ExprPart x) ∷ walked.inside_sites x s
expr_tail (core.Number at z) s = refl
expr_tail (core.Truth at b) s = refl
expr_tail (core.Path at root steps) s = refl
expr_tail (core.Calls at call) s = refl
expr_tail (core.Awaits at name) s = refl
expr_tail (core.Array at xs) s = refl
expr_tail (core.Filled at len value) s = refl
expr_tail (core.Count at root steps) s = refl
expr_tail (core.Lambda at captures params result body) s = refl
expr_tail (core.Prefix at o x) s = refl
expr_tail (core.Chain at first links) s = refl

stmt_tail : (x : core.CoreStmt) (s : Scope) → sites.stmt_sites x s ≡ site s (StmtPart x) ∷ walked.within_sites x s
stmt_tail (core.Var at name t) s = refl
stmt_tail (core.VarWith at name t x) s = refl
stmt_tail (core.Let at name t x) s = refl
stmt_tail (core.Inout at name t root steps) s = refl
stmt_tail (core.Assign at root steps x) s = refl
stmt_tail (core.If at branches) s = refl
stmt_tail (core.While at test body) s = refl
stmt_tail (core.Return at) s = refl
stmt_tail (core.ReturnWith at x) s = refl
stmt_tail (core.Print at x) s = refl
stmt_tail (core.Task at name t spawn budget call) s = refl
stmt_tail (core.AwaitsAlone at name) s = refl
stmt_tail (core.CallsAlone at call) s = refl
stmt_tail (core.Bare at block) s = refl

module _ (p : Program) where
  joined : (a b : List Site) → walked.judged p (a ++ b) ≡ walked.judged p a ++ walked.judged p b
  joined a b = sites_append (core.core_tree p.declared.now) p.holding.now a b

  -- the body of a lambda, where what it sees at its beginning is known
  pub lambda_inside : (visible inner : List Known) (captured : List Known) (captures : List Name) (params : List Param) (result : Option Ty) (body : Block) →
      map local_by captured ≡ map (sites.capture_local (map local_by visible)) captures → map local_by inner ≡ map local_by captured ++ map param_local (map core.core_param params) →
      walked.block_walked p inner result body ≡ walked.lambda_walked p visible captures params result body
  lambda_inside visible inner captured captures params result body e f =
      ap (λ (v : List Local). walked.judged p (sites.block_sites (core.core_block body) (record { visible = v; result = core.core_option_ty result })))
      (f ∙ ap (λ l. l ++ map param_local (map core.core_param params)) e)

  module _ (visible : List Known) (returned : Option Ty) where
    -- ---- expressions

    pub expr_split : (x : Expr) → walked.expr_walked p visible returned x ≡ walked.expr_here p visible returned x ++ walked.inside_walked p visible returned x
    expr_split x = ap (walked.judged p) (expr_tail (core.core_of x) (walked.scope_of visible returned))

    pub place_split : (place : PlaceExpr) → walked.place_walked p visible returned place ≡ walked.place_here p visible returned place ++ walked.steps_walked p visible returned (out-PlaceExpr place).steps
    place_split place = ap (λ (q : Name × core.CoreSteps). walked.place_here p visible returned place ++ walked.judged p (sites.step_sites q.1 (walked.scope_of visible returned))) (lemmas.opened_place place)

    unfoldable pub inside_by : ExprKind-F Arg ExprKind Step StmtKind Block Branch Call Expr PlaceExpr Stmt → List Refusal
    inside_by (ExprKind-F.Int z) = []
    inside_by (ExprKind-F.Bool b) = []
    inside_by (ExprKind-F.Path place) = walked.place_walked p visible returned place
    inside_by (ExprKind-F.ExprKind::Call call) = walked.call_walked p visible returned call
    inside_by (ExprKind-F.ExprKind::Await handle) = []
    inside_by (ExprKind-F.ArrayLit xs) = walked.exprs_walked p visible returned xs
    inside_by (ExprKind-F.Filled len value) = walked.expr_walked p visible returned len ++ walked.expr_walked p visible returned value
    inside_by (ExprKind-F.Count place) = walked.place_walked p visible returned place
    inside_by (ExprKind-F.Lambda captures params result body) = walked.lambda_walked p visible captures params result body
    inside_by (ExprKind-F.Prefix o x) = walked.expr_walked p visible returned x
    inside_by (ExprKind-F.Chain first links) = walked.expr_walked p visible returned first ++ walked.links_walked p visible returned links

    abbrev inner : core.CoreExpr → List Refusal
    inner x = walked.judged p (walked.inside_sites x (walked.scope_of visible returned))

    by_kind : (k : ExprKind) (at : Place) (u : ExprKind-F Arg ExprKind Step StmtKind Block Branch Call Expr PlaceExpr Stmt) → out-ExprKind k ≡ u → inner (core.core_kind k at) ≡ inside_by u
    unfolding inside_by
    by_kind k at (ExprKind-F.Int z) e = ap inner (lemmas.kind_int k at z e)
    by_kind k at (ExprKind-F.Bool b) e = ap inner (lemmas.kind_bool k at b e)
    by_kind k at (ExprKind-F.Path place) e = ap inner (lemmas.kind_path k at place e)
    by_kind k at (ExprKind-F.ExprKind::Call call) e = ap inner (lemmas.kind_call k at call e)
    by_kind k at (ExprKind-F.ExprKind::Await handle) e = ap inner (lemmas.kind_await k at handle e)
    by_kind k at (ExprKind-F.ArrayLit xs) e = ap inner (lemmas.kind_array_lit k at xs e)
    by_kind k at (ExprKind-F.Filled len value) e =
        ap inner (lemmas.kind_filled k at len value e)
        ∙ joined (sites.expr_sites (core.core_of len) (walked.scope_of visible returned)) (sites.expr_sites (core.core_of value) (walked.scope_of visible returned))
    by_kind k at (ExprKind-F.Count place) e = ap inner (lemmas.kind_count k at place e)
    by_kind k at (ExprKind-F.Lambda captures params result body) e = ap inner (lemmas.kind_lambda k at captures params result body e)
    by_kind k at (ExprKind-F.Prefix o x) e = ap inner (lemmas.kind_prefix k at o x e)
    by_kind k at (ExprKind-F.Chain first links) e =
        ap inner (lemmas.kind_chain k at first links e)
        ∙ joined (sites.expr_sites (core.core_of first) (walked.scope_of visible returned)) (sites.link_sites (core.core_links links) (walked.scope_of visible returned))

    pub inside_opened : (x : Expr) → walked.inside_walked p visible returned x ≡ inside_by (out-ExprKind (out-Expr x).kind)
    inside_opened x = ap inner (lemmas.opened_expr x) ∙ by_kind (out-Expr x).kind (out-Expr x).place (out-ExprKind (out-Expr x).kind) refl

    -- ---- lists

    pub exprs_next : (xs : List Expr) (i : ℕ) (x : Expr) → i < length xs → x ≡ get_or xs i x →
        walked.exprs_walked p visible returned (drop i xs) ≡ walked.expr_walked p visible returned x ++ walked.exprs_walked p visible returned (drop (i + 1) xs)
    exprs_next xs i x within is =
        ap (walked.exprs_walked p visible returned) (first_left xs i x within is)
        ∙ joined (sites.expr_sites (core.core_of x) (walked.scope_of visible returned)) (sites.exprs_sites (core.core_exprs (drop (i + 1) xs)) (walked.scope_of visible returned))

    pub links_next : (links : List (Operator × Place × Expr)) (i : ℕ) (l : Operator × Place × Expr) → i < length links → l ≡ get_or links i l →
        walked.links_walked p visible returned (drop i links) ≡ walked.expr_walked p visible returned l.2 ++ walked.links_walked p visible returned (drop (i + 1) links)
    links_next links i l within is =
        ap (walked.links_walked p visible returned) (first_left links i l within is)
        ∙ joined (sites.expr_sites (core.core_of l.2) (walked.scope_of visible returned)) (sites.link_sites (core.core_links (drop (i + 1) links)) (walked.scope_of visible returned))

    unfoldable pub step_by : Step-F Arg ExprKind Step StmtKind Block Branch Call Expr PlaceExpr Stmt → List Refusal
    step_by (Step-F.Field name) = []
    step_by (Step-F.Index at x) = walked.expr_walked p visible returned x

    abbrev in_steps : core.CoreSteps → List Refusal
    in_steps s = walked.judged p (sites.step_sites s (walked.scope_of visible returned))

    by_step : (s : Step) (rest : core.CoreSteps) (u : Step-F Arg ExprKind Step StmtKind Block Branch Call Expr PlaceExpr Stmt) → out-Step s ≡ u → in_steps (core.core_step s rest) ≡ step_by u ++ in_steps rest
    unfolding step_by
    by_step s rest (Step-F.Field name) e = ap in_steps (lemmas.by_field s rest name e)
    by_step s rest (Step-F.Index at x) e =
        ap in_steps (lemmas.by_index s rest at x e) ∙ joined (sites.expr_sites (core.core_of x) (walked.scope_of visible returned)) (sites.step_sites rest (walked.scope_of visible returned))

    pub step_opened : (s : Step) → walked.step_walked p visible returned s ≡ step_by (out-Step s)
    step_opened s = by_step s core.NoSteps (out-Step s) refl ∙ append-nil (step_by (out-Step s))

    pub steps_next : (steps : List Step) (i : ℕ) (s : Step) → i < length steps → s ≡ get_or steps i s →
        walked.steps_walked p visible returned (drop i steps) ≡ walked.step_walked p visible returned s ++ walked.steps_walked p visible returned (drop (i + 1) steps)
    steps_next steps i s within is =
        ap (walked.steps_walked p visible returned) (first_left steps i s within is)
        ∙ by_step s (core.core_steps (drop (i + 1) steps)) (out-Step s) refl
        ∙ ap (λ l. l ++ walked.steps_walked p visible returned (drop (i + 1) steps)) (sym (step_opened s))

    -- ---- calls

    pub call_split : (call : Call) →
        walked.call_walked p visible returned call
        ≡ walked.call_here p visible returned call ++ (walked.place_walked p visible returned (out-Call call).callee ++ walked.args_walked p visible returned (out-Call call).args)
    call_split call =
        let root = (core.core_place (out-Call call).callee).0 in
        let steps = (core.core_place (out-Call call).callee).1 in
        let args = core.core_args (out-Call call).args in
        let opened = core.CallOf root steps (out-Call call).paren args in
        ap (λ c. walked.judged p (sites.call_sites c (walked.scope_of visible returned))) (lemmas.opened_call call)
        ∙ joined (site (walked.scope_of visible returned) (CallPart opened) ∷ (site (walked.scope_of visible returned) (PlacePart root steps) ∷ sites.step_sites steps (walked.scope_of visible returned))) (sites.arg_sites args (walked.scope_of visible returned))
        ∙ append_assoc (spec.call_judged (core.core_tree p.declared.now) p.holding.now (walked.scope_of visible returned) opened) (walked.place_walked p visible returned (out-Call call).callee) (walked.args_walked p visible returned (out-Call call).args)
        ∙ ap (λ c. spec.call_judged (core.core_tree p.declared.now) p.holding.now (walked.scope_of visible returned) c ++ (walked.place_walked p visible returned (out-Call call).callee ++ walked.args_walked p visible returned (out-Call call).args))
        (sym (lemmas.opened_call call))

    unfoldable pub arg_by : Arg-F Arg ExprKind Step StmtKind Block Branch Call Expr PlaceExpr Stmt → List Refusal
    arg_by (Arg-F.Value x) = walked.expr_walked p visible returned x
    arg_by (Arg-F.Ref at place) = walked.place_walked p visible returned place

    abbrev in_args : core.CoreArgs → List Refusal
    in_args a = walked.judged p (sites.arg_sites a (walked.scope_of visible returned))

    by_arg : (a : Arg) (rest : core.CoreArgs) (u : Arg-F Arg ExprKind Step StmtKind Block Branch Call Expr PlaceExpr Stmt) → out-Arg a ≡ u → in_args (core.core_arg a rest) ≡ arg_by u ++ in_args rest
    unfolding arg_by
    by_arg a rest (Arg-F.Value x) e =
        ap in_args (lemmas.by_value a rest x e) ∙ joined (sites.expr_sites (core.core_of x) (walked.scope_of visible returned)) (sites.arg_sites rest (walked.scope_of visible returned))
    by_arg a rest (Arg-F.Ref at place) e =
        let root = (core.core_place place).0 in
        let steps = (core.core_place place).1 in
        ap in_args (lemmas.by_ref a rest at place e)
        ∙ joined (site (walked.scope_of visible returned) (PlacePart root steps) ∷ sites.step_sites steps (walked.scope_of visible returned)) (sites.arg_sites rest (walked.scope_of visible returned))

    pub arg_opened : (a : Arg) → walked.arg_walked p visible returned a ≡ arg_by (out-Arg a)
    arg_opened a = by_arg a core.NoArgs (out-Arg a) refl ∙ append-nil (arg_by (out-Arg a))

    pub args_next : (args : List Arg) (i : ℕ) (a : Arg) → i < length args → a ≡ get_or args i a →
        walked.args_walked p visible returned (drop i args) ≡ walked.arg_walked p visible returned a ++ walked.args_walked p visible returned (drop (i + 1) args)
    args_next args i a within is =
        ap (walked.args_walked p visible returned) (first_left args i a within is)
        ∙ by_arg a (core.core_args (drop (i + 1) args)) (out-Arg a) refl
        ∙ ap (λ l. l ++ walked.args_walked p visible returned (drop (i + 1) args)) (sym (arg_opened a))

    -- ---- statements

    pub block_opened : (b : Block) → walked.block_walked p visible returned b ≡ walked.stmts_walked p visible returned (out-Block b).stmts
    block_opened b = ap (λ c. walked.judged p (sites.block_sites c (walked.scope_of visible returned))) (lemmas.opened_block b)

    pub stmt_split : (x : Stmt) → walked.stmt_walked p visible returned x ≡ walked.stmt_here p visible returned x ++ walked.within_walked p visible returned x
    stmt_split x = ap (walked.judged p) (stmt_tail (core.core_stmt x) (walked.scope_of visible returned))

    abbrev in_branches : core.CoreBranches → List Refusal
    in_branches b = walked.judged p (sites.branch_sites b (walked.scope_of visible returned))

    branches_split : (b : Branch) (rest : core.CoreBranches) → in_branches (core.core_branch b rest) ≡ walked.branch_walked p visible returned b ++ in_branches rest
    branches_split b rest =
        let test = core.core_of (out-Branch b).test in
        let body = core.core_block (out-Branch b).body in
        ap in_branches (lemmas.opened_branch b rest)
        ∙ joined (site (walked.scope_of visible returned) (TestPart test) ∷ sites.expr_sites test (walked.scope_of visible returned)) (sites.block_sites body (walked.scope_of visible returned) ++ sites.branch_sites rest (walked.scope_of visible returned))
        ∙ ap (λ l. walked.test_walked p visible returned (out-Branch b).test ++ l) (joined (sites.block_sites body (walked.scope_of visible returned)) (sites.branch_sites rest (walked.scope_of visible returned)))
        ∙ sym (append_assoc (walked.test_walked p visible returned (out-Branch b).test) (walked.block_walked p visible returned (out-Branch b).body) (in_branches rest))

    branches_else : (branches : List Branch) (otherwise : Option Block) → in_branches (core.core_branches branches otherwise) ≡ walked.branches_walked p visible returned branches ++ walked.option_block_walked p visible returned otherwise
    branches_else [] None = refl
    branches_else [] (Some b) = refl
    branches_else (b ∷ more) otherwise =
        let first = walked.branch_walked p visible returned b in
        branches_split b (core.core_branches more otherwise)
        ∙ ap (λ l. first ++ l) (branches_else more otherwise)
        ∙ sym (append_assoc first (walked.branches_walked p visible returned more) (walked.option_block_walked p visible returned otherwise))
        ∙ ap (λ l. l ++ walked.option_block_walked p visible returned otherwise) (sym (branches_split b (core.core_branches more None)))

    pub branches_next : (branches : List Branch) (i : ℕ) (b : Branch) → i < length branches → b ≡ get_or branches i b →
        walked.branches_walked p visible returned (drop i branches) ≡ walked.branch_walked p visible returned b ++ walked.branches_walked p visible returned (drop (i + 1) branches)
    branches_next branches i b within is = ap (walked.branches_walked p visible returned) (first_left branches i b within is) ∙ branches_split b (core.core_branches (drop (i + 1) branches) None)

    unfoldable pub within_by : StmtKind-F Arg ExprKind Step StmtKind Block Branch Call Expr PlaceExpr Stmt → List Refusal
    within_by (StmtKind-F.Var name t value) = walked.option_expr_walked p visible returned value
    within_by (StmtKind-F.Let name t value) = walked.expr_walked p visible returned value
    within_by (StmtKind-F.Inout name t place) = walked.place_walked p visible returned place
    within_by (StmtKind-F.Assign place value) = walked.place_walked p visible returned place ++ walked.expr_walked p visible returned value
    within_by (StmtKind-F.If branches otherwise) = walked.branches_walked p visible returned branches ++ walked.option_block_walked p visible returned otherwise
    within_by (StmtKind-F.While test body) = walked.test_walked p visible returned test ++ walked.block_walked p visible returned body
    within_by (StmtKind-F.Return value) = walked.option_expr_walked p visible returned value
    within_by (StmtKind-F.Print value) = walked.expr_walked p visible returned value
    within_by (StmtKind-F.Task handle t spawn budget call) = walked.expr_walked p visible returned budget ++ walked.call_walked p visible returned call
    within_by (StmtKind-F.StmtKind::Await handle) = []
    within_by (StmtKind-F.StmtKind::Call call) = walked.call_walked p visible returned call
    within_by (StmtKind-F.Block b) = walked.block_walked p visible returned b

    abbrev inner_stmt : core.CoreStmt → List Refusal
    inner_stmt x = walked.judged p (walked.within_sites x (walked.scope_of visible returned))

    by_stmt : (k : StmtKind) (at : Place) (u : StmtKind-F Arg ExprKind Step StmtKind Block Branch Call Expr PlaceExpr Stmt) → out-StmtKind k ≡ u → inner_stmt (core.core_stmt_kind k at) ≡ within_by u
    unfolding within_by
    by_stmt k at (StmtKind-F.Var name t None) e = ap inner_stmt (lemmas.alone_var k at name t e)
    by_stmt k at (StmtKind-F.Var name t (Some x)) e = ap inner_stmt (lemmas.alone_var_with k at name t x e)
    by_stmt k at (StmtKind-F.Let name t x) e = ap inner_stmt (lemmas.alone_let k at name t x e)
    by_stmt k at (StmtKind-F.Inout name t place) e = ap inner_stmt (lemmas.alone_inout k at name t place e)
    by_stmt k at (StmtKind-F.Assign place x) e =
        let root = (core.core_place place).0 in
        let steps = (core.core_place place).1 in
        ap inner_stmt (lemmas.alone_assign k at place x e)
        ∙ joined (site (walked.scope_of visible returned) (PlacePart root steps) ∷ sites.step_sites steps (walked.scope_of visible returned)) (sites.expr_sites (core.core_of x) (walked.scope_of visible returned))
    by_stmt k at (StmtKind-F.If branches otherwise) e = ap inner_stmt (lemmas.alone_if k at branches otherwise e) ∙ branches_else branches otherwise
    by_stmt k at (StmtKind-F.While test body) e =
        ap inner_stmt (lemmas.alone_while k at test body e)
        ∙ joined (site (walked.scope_of visible returned) (TestPart (core.core_of test)) ∷ sites.expr_sites (core.core_of test) (walked.scope_of visible returned)) (sites.block_sites (core.core_block body) (walked.scope_of visible returned))
    by_stmt k at (StmtKind-F.Return None) e = ap inner_stmt (lemmas.alone_return k at e)
    by_stmt k at (StmtKind-F.Return (Some x)) e = ap inner_stmt (lemmas.alone_return_with k at x e)
    by_stmt k at (StmtKind-F.Print x) e = ap inner_stmt (lemmas.alone_print k at x e)
    by_stmt k at (StmtKind-F.Task handle t spawn budget c) e =
        ap inner_stmt (lemmas.alone_task k at handle t spawn budget c e)
        ∙ joined (sites.expr_sites (core.core_of budget) (walked.scope_of visible returned)) (sites.call_sites (core.core_call c) (walked.scope_of visible returned))
    by_stmt k at (StmtKind-F.StmtKind::Await handle) e = ap inner_stmt (lemmas.alone_await k at handle e)
    by_stmt k at (StmtKind-F.StmtKind::Call c) e = ap inner_stmt (lemmas.alone_call k at c e)
    by_stmt k at (StmtKind-F.Block b) e = ap inner_stmt (lemmas.alone_block k at b e)

    pub within_opened : (x : Stmt) → walked.within_walked p visible returned x ≡ within_by (out-StmtKind (out-Stmt x).kind)
    within_opened x = ap inner_stmt (lemmas.opened_stmt x) ∙ by_stmt (out-Stmt x).kind (out-Stmt x).place (out-StmtKind (out-Stmt x).kind) refl

  -- a statement, and those behind it, which see what it declares
  pub stmts_next : (visible now : List Known) (returned : Option Ty) (stmts : List Stmt) (i : ℕ) (x : Stmt) → i < length stmts → x ≡ get_or stmts i x →
      map local_by now ≡ listed (binds (core.core_stmt x)) ++ map local_by visible →
      walked.stmts_walked p visible returned (drop i stmts) ≡ walked.stmt_walked p visible returned x ++ walked.stmts_walked p now returned (drop (i + 1) stmts)
  stmts_next visible now returned stmts i x within is e =
      let rest = core.core_stmts (drop (i + 1) stmts) in
      ap (walked.stmts_walked p visible returned) (first_left stmts i x within is)
      ∙ joined (sites.stmt_sites (core.core_stmt x) (walked.scope_of visible returned)) (sites.stmts_sites rest (sites.scope_behind (core.core_stmt x) (walked.scope_of visible returned)))
      ∙ ap (λ (v : List Local). walked.stmt_walked p visible returned x ++ walked.judged p (sites.stmts_sites rest (record { visible = v; result = core.core_option_ty returned }))) (sym e)

  -- ---- declarations

  -- the body of a function, where what it sees at its beginning is known
  pub function_inside : (visible : List Known) (none : List Known) (f : FunDecl) → none ≡ [] → map local_by visible ≡ map local_by none ++ map param_local (map core.core_param f.params) →
      walked.block_walked p visible f.result f.body ≡ walked.function_walked p f
  function_inside visible none f n e =
      ap (λ (v : List Local). walked.judged p (sites.block_sites (core.core_block f.body) (record { visible = v; result = core.core_option_ty f.result })))
      (e ∙ ap (λ (l : List Known). map local_by l ++ map param_local (map core.core_param f.params)) n)

  pub struct_nothing : (d : Decl) (s : StructDecl) → d ≡ decl.Struct s → walked.decl_walked p d ≡ []
  struct_nothing d s e = ap (walked.decl_walked p) e

  pub function_alone : (d : Decl) (f : FunDecl) → d ≡ decl.Fun f → walked.decl_walked p d ≡ walked.function_walked p f
  function_alone d f e = ap (walked.decl_walked p) e ∙ joined (sites.sites_of_body (fun_body (core_fun f))) [] ∙ append-nil (walked.function_walked p f)

  by_decl : (d : core.CoreDecl) (ds : List core.CoreDecl) → walked.judged p (sites.decl_sites (d ∷ ds)) ≡ walked.judged p (sites.decl_sites (d ∷ [])) ++ walked.judged p (sites.decl_sites ds)
  by_decl (core.StructOf s) ds = refl
  by_decl (core.FunOf f) ds =
      let first = sites.sites_of_body (fun_body f) in
      joined first (sites.decl_sites ds) ∙ ap (λ l. l ++ walked.judged p (sites.decl_sites ds)) (sym (joined first [] ∙ append-nil (walked.judged p first)))

  pub decls_next : (ds : List Decl) (i : ℕ) (d : Decl) → i < length ds → d ≡ get_or ds i d → walked.decls_walked p (drop i ds) ≡ walked.decl_walked p d ++ walked.decls_walked p (drop (i + 1) ds)
  decls_next ds i d within is = ap (walked.decls_walked p) (first_left ds i d within is) ∙ by_decl (core.core_decl d) (map core.core_decl (drop (i + 1) ds))
