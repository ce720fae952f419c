-- The names that blocks declare, part by part, as code meets them.
use Rattle.std.proofs.Common.{◌≡◌, ℕ, List, [], ◌∷◌, ◌++◌, map, Option, Some, None, refl, sym, ap, ◌∙◌, ◌+◌, ◌<◌, length, drop, get_or, append_assoc, append-nil}
use Rattle.std.proofs.lemmas.List.{map-append}
use Rattle.hv_tree.specs.declared.place.Place.{Place}
use Rattle.hv_tree.specs.declared.types.Name.{Name}
use Rattle.hv_tree.specs.declared.refusal.Refusal.{Refusal}
use Rattle.hv_tree.specs.declared.ast.Param.{Param}
use Rattle.hv_tree.specs.declared.ast.Arg.{Arg}
use Rattle.hv_tree.specs.declared.ast.Block.{Block, out-Block}
use Rattle.hv_tree.specs.declared.ast.Branch.{Branch, out-Branch}
use Rattle.hv_tree.specs.declared.ast.Call.{Call}
use Rattle.hv_tree.specs.declared.ast.Expr.{Expr}
use Rattle.hv_tree.specs.declared.ast.ExprKind.{ExprKind}
use Rattle.hv_tree.specs.declared.ast.PlaceExpr.{PlaceExpr}
use Rattle.hv_tree.specs.declared.ast.Step.{Step}
use Rattle.hv_tree.specs.declared.ast.Stmt.{Stmt, out-Stmt}
use Rattle.hv_tree.specs.declared.ast.StmtKind.{StmtKind, out-StmtKind}
use Rattle.hv_tree.specs.declared.ast.StmtKind.TheVariants as stmt
use Rattle.hv_tree.specs.declared.ast.Arg.TheOpen.{StmtKind-F}
use Rattle.hv_tree.specs.Core as core
use Rattle.hv_tree.proofs.CoreLemmas as lemmas
use Rattle.hv_type_names.specs.declared.program.Program.{Program}
use Rattle.hv_type_names.specs.Found as spec
use Rattle.hv_lemmas.proofs.Lists.{first_left, extended, nothing, two}

-- ---- one after the other

pub locals_append : (p : Program) (known : List (List ℕ)) (a b : List Name) → spec.locals_found p known (a ++ b) ≡ spec.locals_found p known a ++ spec.locals_found p (known ++ spec.texts_of a) b
locals_append p known [] b = ap (λ k. spec.locals_found p k b) (sym (append-nil known))
locals_append p known (n ∷ ns) b =
    ap (λ l. spec.local_found p known n ++ l)
    (locals_append p (known ++ n.text ∷ []) ns b ∙ ap (λ k. spec.locals_found p (known ++ n.text ∷ []) ns ++ spec.locals_found p k b) (append_assoc known (n.text ∷ []) (spec.texts_of ns)))
    ∙ sym (append_assoc (spec.local_found p known n) (spec.locals_found p (known ++ n.text ∷ []) ns) (spec.locals_found p (known ++ n.text ∷ spec.texts_of ns) b))

pub texts_append : (known : List (List ℕ)) (a b : List Name) → known ++ spec.texts_of (a ++ b) ≡ (known ++ spec.texts_of a) ++ spec.texts_of b
texts_append known a b = ap (λ t. known ++ t) (map-append spec.name_text a b) ∙ sym (append_assoc known (spec.texts_of a) (spec.texts_of b))

-- one more turn of a loop that declares
pub turn_found : (p : Program) (known more : List (List ℕ)) (piece rest left : List Name) (was now whole : List Refusal) →
    now ≡ was ++ spec.locals_found p known piece → more ≡ known ++ spec.texts_of piece → left ≡ piece ++ rest → was ++ spec.locals_found p known left ≡ whole → now ++ spec.locals_found p more rest ≡ whole
turn_found p known more piece rest left was now whole e f g h =
    extended was now (spec.locals_found p known piece) (spec.locals_found p more rest) (spec.locals_found p known left) whole e
    (ap (spec.locals_found p known) g ∙ locals_append p known piece rest ∙ ap (λ k. spec.locals_found p known piece ++ spec.locals_found p k rest) (sym f)) h

pub turn_known : (known more whole : List (List ℕ)) (piece rest left : List Name) → more ≡ known ++ spec.texts_of piece → left ≡ piece ++ rest → known ++ spec.texts_of left ≡ whole → more ++ spec.texts_of rest ≡ whole
turn_known known more whole piece rest left e f h = ap (λ k. k ++ spec.texts_of rest) e ∙ sym (texts_append known piece rest) ∙ ap (λ l. known ++ spec.texts_of l) (sym f) ∙ h

pub params_next : (params : List Param) (i : ℕ) (x : Param) → i < length params → x ≡ get_or params i x →
    map spec.param_name (map core.core_param (drop i params)) ≡ (x.name ∷ []) ++ map spec.param_name (map core.core_param (drop (i + 1) params))
params_next params i x within is = ap (λ xs. map spec.param_name (map core.core_param xs)) (first_left params i x within is)

pub stmts_next : (stmts : List Stmt) (i : ℕ) (x : Stmt) → i < length stmts → x ≡ get_or stmts i x →
    spec.stmts_names (core.core_stmts (drop i stmts)) ≡ spec.stmt_names (core.core_stmt x) ++ spec.stmts_names (core.core_stmts (drop (i + 1) stmts))
stmts_next stmts i x within is = ap (λ xs. spec.stmts_names (core.core_stmts xs)) (first_left stmts i x within is)

pub branches_next : (branches : List Branch) (i : ℕ) (x : Branch) → i < length branches → x ≡ get_or branches i x →
    spec.branches_names (core.core_branches (drop i branches) None) ≡ spec.block_names (core.core_block (out-Branch x).body) ++ spec.branches_names (core.core_branches (drop (i + 1) branches) None)
branches_next branches i x within is =
    ap (λ xs. spec.branches_names (core.core_branches xs None)) (first_left branches i x within is)
    ∙ ap spec.branches_names (lemmas.opened_branch x (core.core_branches (drop (i + 1) branches) None))

-- ---- what a part declares

pub branches_else : (branches : List Branch) (otherwise : Option Block) → spec.branches_names (core.core_branches branches otherwise) ≡ spec.branches_names (core.core_branches branches None) ++ spec.else_names otherwise
branches_else [] None = refl
branches_else [] (Some b) = refl
branches_else (x ∷ xs) otherwise =
    ap spec.branches_names (lemmas.opened_branch x (core.core_branches xs otherwise))
    ∙ ap (λ l. spec.block_names (core.core_block (out-Branch x).body) ++ l) (branches_else xs otherwise)
    ∙ sym (append_assoc (spec.block_names (core.core_block (out-Branch x).body)) (spec.branches_names (core.core_branches xs None)) (spec.else_names otherwise))
    ∙ ap (λ l. l ++ spec.else_names otherwise) (sym (ap spec.branches_names (lemmas.opened_branch x (core.core_branches xs None))))

pub block_opened : (b : Block) → spec.block_names (core.core_block b) ≡ spec.stmts_names (core.core_stmts (out-Block b).stmts)
block_opened b = ap spec.block_names (lemmas.opened_block b)

abbrev pub KindLayer : Type 0
KindLayer = StmtKind-F Arg ExprKind Step StmtKind Block Branch Call Expr PlaceExpr Stmt

unfoldable pub bound_by : KindLayer → Option Name
bound_by (StmtKind-F.Var name t value) = Some name
bound_by (StmtKind-F.Let name t value) = Some name
bound_by (StmtKind-F.Inout name t place) = Some name
bound_by (StmtKind-F.Task handle t spawn budget call) = Some handle
bound_by _ = None

unfoldable pub inner_by : KindLayer → List Name
inner_by (StmtKind-F.If branches otherwise) = spec.branches_names (core.core_branches branches None) ++ spec.else_names otherwise
inner_by (StmtKind-F.While test body) = spec.block_names (core.core_block body)
inner_by (StmtKind-F.Block b) = spec.block_names (core.core_block b)
inner_by _ = []

bound_kind : (k : StmtKind) (at : Place) (u : KindLayer) → out-StmtKind k ≡ u → spec.bound (core.core_stmt_kind k at) ≡ bound_by u
unfolding bound_by
bound_kind k at (StmtKind-F.Var name t None) e = ap spec.bound (lemmas.alone_var k at name t e)
bound_kind k at (StmtKind-F.Var name t (Some x)) e = ap spec.bound (lemmas.alone_var_with k at name t x e)
bound_kind k at (StmtKind-F.Let name t x) e = ap spec.bound (lemmas.alone_let k at name t x e)
bound_kind k at (StmtKind-F.Inout name t place) e = ap spec.bound (lemmas.alone_inout k at name t place e)
bound_kind k at (StmtKind-F.Assign place x) e = ap spec.bound (lemmas.alone_assign k at place x e)
bound_kind k at (StmtKind-F.If branches otherwise) e = ap spec.bound (lemmas.alone_if k at branches otherwise e)
bound_kind k at (StmtKind-F.While test body) e = ap spec.bound (lemmas.alone_while k at test body e)
bound_kind k at (StmtKind-F.Return None) e = ap spec.bound (lemmas.alone_return k at e)
bound_kind k at (StmtKind-F.Return (Some x)) e = ap spec.bound (lemmas.alone_return_with k at x e)
bound_kind k at (StmtKind-F.Print x) e = ap spec.bound (lemmas.alone_print k at x e)
bound_kind k at (StmtKind-F.Task handle t spawn budget c) e = ap spec.bound (lemmas.alone_task k at handle t spawn budget c e)
bound_kind k at (StmtKind-F.StmtKind::Await handle) e = ap spec.bound (lemmas.alone_await k at handle e)
bound_kind k at (StmtKind-F.StmtKind::Call c) e = ap spec.bound (lemmas.alone_call k at c e)
bound_kind k at (StmtKind-F.Block b) e = ap spec.bound (lemmas.alone_block k at b e)

pub bound_opened : (s : Stmt) → spec.bound (core.core_stmt s) ≡ bound_by (out-StmtKind (out-Stmt s).kind)
bound_opened s = ap spec.bound (lemmas.opened_stmt s) ∙ bound_kind (out-Stmt s).kind (out-Stmt s).place (out-StmtKind (out-Stmt s).kind) refl

inner_kind : (k : StmtKind) (at : Place) (u : KindLayer) → out-StmtKind k ≡ u → spec.inner_names (core.core_stmt_kind k at) ≡ inner_by u
unfolding inner_by
inner_kind k at (StmtKind-F.Var name t None) e = ap spec.inner_names (lemmas.alone_var k at name t e)
inner_kind k at (StmtKind-F.Var name t (Some x)) e = ap spec.inner_names (lemmas.alone_var_with k at name t x e)
inner_kind k at (StmtKind-F.Let name t x) e = ap spec.inner_names (lemmas.alone_let k at name t x e)
inner_kind k at (StmtKind-F.Inout name t place) e = ap spec.inner_names (lemmas.alone_inout k at name t place e)
inner_kind k at (StmtKind-F.Assign place x) e = ap spec.inner_names (lemmas.alone_assign k at place x e)
inner_kind k at (StmtKind-F.If branches otherwise) e = ap spec.inner_names (lemmas.alone_if k at branches otherwise e) ∙ branches_else branches otherwise
inner_kind k at (StmtKind-F.While test body) e = ap spec.inner_names (lemmas.alone_while k at test body e)
inner_kind k at (StmtKind-F.Return None) e = ap spec.inner_names (lemmas.alone_return k at e)
inner_kind k at (StmtKind-F.Return (Some x)) e = ap spec.inner_names (lemmas.alone_return_with k at x e)
inner_kind k at (StmtKind-F.Print x) e = ap spec.inner_names (lemmas.alone_print k at x e)
inner_kind k at (StmtKind-F.Task handle t spawn budget c) e = ap spec.inner_names (lemmas.alone_task k at handle t spawn budget c e)
inner_kind k at (StmtKind-F.StmtKind::Await handle) e = ap spec.inner_names (lemmas.alone_await k at handle e)
inner_kind k at (StmtKind-F.StmtKind::Call c) e = ap spec.inner_names (lemmas.alone_call k at c e)
inner_kind k at (StmtKind-F.Block b) e = ap spec.inner_names (lemmas.alone_block k at b e)

pub inner_opened : (s : Stmt) → spec.inner_names (core.core_stmt s) ≡ inner_by (out-StmtKind (out-Stmt s).kind)
inner_opened s = ap spec.inner_names (lemmas.opened_stmt s) ∙ inner_kind (out-Stmt s).kind (out-Stmt s).place (out-StmtKind (out-Stmt s).kind) refl

-- ---- pieces of names

pub none_found : (p : Program) (known : List (List ℕ)) (names : List Name) (was : List Refusal) → names ≡ [] → was ≡ was ++ spec.locals_found p known names
none_found p known names was e = nothing was (spec.locals_found p known names) (ap (spec.locals_found p known) e)

pub none_known : (known : List (List ℕ)) (names : List Name) → names ≡ [] → known ≡ known ++ spec.texts_of names
none_known known names e = nothing known (spec.texts_of names) (ap spec.texts_of e)

pub two_found : (p : Program) (known more : List (List ℕ)) (a b all : List Name) (was now then : List Refusal) → now ≡ was ++ spec.locals_found p known a → more ≡ known ++ spec.texts_of a → then ≡ now ++ spec.locals_found p more b → all ≡ a ++ b →
    then ≡ was ++ spec.locals_found p known all
two_found p known more a b all was now then e f g h =
    two was now then (spec.locals_found p known a) (spec.locals_found p more b) (spec.locals_found p known all) e g
    (ap (spec.locals_found p known) h ∙ locals_append p known a b ∙ ap (λ k. spec.locals_found p known a ++ spec.locals_found p k b) (sym f))

pub two_known : (known more most : List (List ℕ)) (a b all : List Name) → more ≡ known ++ spec.texts_of a → most ≡ more ++ spec.texts_of b → all ≡ a ++ b → most ≡ known ++ spec.texts_of all
two_known known more most a b all e f g = f ∙ ap (λ k. k ++ spec.texts_of b) e ∙ sym (texts_append known a b) ∙ ap (λ l. known ++ spec.texts_of l) (sym g)

pub inner_if : (s : Stmt) (branches : List Branch) (otherwise : Option Block) → (out-Stmt s).kind ≡ stmt.If branches otherwise → spec.inner_names (core.core_stmt s) ≡ spec.branches_names (core.core_branches branches None) ++ spec.else_names otherwise
inner_if s branches otherwise h = ap spec.inner_names (lemmas.stmt_if s branches otherwise h) ∙ branches_else branches otherwise
