-- The tokens of printed chains, blocks and branches spell them, places aside, given that those of their parts do.
use Rattle.std.proofs.Common.{◌≡◌, inl, inr, ℕ, zero, suc, ◌+◌, length, List, [], ◌∷◌, ◌++◌, Option, Some, None, codes, refl, sym, ap, ◌∙◌, subst, append-nil, arith}
use Rattle.hv_tree.specs.declared.place.Place.{Place}
use Rattle.hv_tree.specs.declared.ast.Operator.{Operator}
use Rattle.hv_tree.specs.declared.ast.Operator.TheVariants as operator
use Rattle.hv_tree.specs.declared.ast.Block.{Block, roll-Block}
use Rattle.hv_tree.specs.declared.ast.Branch.{Branch, roll-Branch}
use Rattle.hv_tree.specs.declared.ast.Call.{Call}
use Rattle.hv_tree.specs.declared.ast.Expr.{Expr}
use Rattle.hv_tree.specs.declared.ast.ExprKind.TheVariants as expr
use Rattle.hv_tree.specs.declared.ast.Stmt.{Stmt}
use Rattle.hv_tree.specs.declared.ast.StmtKind.TheVariants as stmt
use Rattle.hv_tree.specs.Tokens.{Tokens, mark, keyword, Level, Comparisons}
use Rattle.hv_tree.specs.Grammar.{expr_at, stmt_at, place_of, no_semicolon, chain_level, AreLinks, last_link, more_link, negated_unary, inverted_unary, IsOperand, IsBlock, is_block, AreStmts, more_stmts, bare_return_stmts, IsStmt, AreBranches, last_branch, last_else_branch, more_branch}
use Rattle.hv_tree.specs.Core.{CoreExpr, Prefix, Chain, CoreLinks, NoLinks, LinkOf, CoreCall, CoreBlock, BlockOf, CoreStmts, StmtOf, CoreBranches, NoElse, Else, BranchOf, CoreStmt, Return, core_call, core_block, core_stmt, core_links, core_stmts, core_branches}
use Rattle.hv_print.specs.Aside.{nowhere, expr_aside, links_aside, call_aside, block_aside, stmts_aside, branches_aside, stmt_aside}
use Rattle.hv_print.specs.Pieces.{Piece, Space, LineFeed, KeywordOf, MarkOf, piece_bytes, here, tokens_of, indent_pieces, operator_piece, operand_pieces, expr_pieces, links_pieces, block_pieces, bare_pieces, stmts_pieces, branches_pieces, stmt_pieces}
use Rattle.hv_tree.proofs.CoreParts.{core_prefix, core_chain, core_body, core_test, core_return}
use Rattle.hv_print.proofs.Proper.{IsOf, IsPrefix}
use Rattle.hv_print.proofs.SpelledTypes.{Reads, behind, split}
use Rattle.hv_print.proofs.Levels.{AtLeast, level_tightness, operand_at, chain_at, no_tighter, sign_at, infix_at, sign_first, seen_expr, ExprReads, any_expr, of_operand}

abbrev pub seen_links : List (Operator × Place × Expr) → CoreLinks
seen_links links = links_aside (core_links links)

abbrev pub seen_call : Call → CoreCall
seen_call c = call_aside (core_call c)

abbrev pub seen_block : Block → CoreBlock
seen_block b = block_aside (core_block b)

abbrev pub seen_stmts : List Stmt → CoreStmts
seen_stmts xs = stmts_aside (core_stmts xs)

abbrev pub seen_stmt : Stmt → CoreStmt
seen_stmt x = stmt_aside (core_stmt x)

abbrev pub seen_branches : List Branch × Option Block → CoreBranches
seen_branches t = branches_aside (core_branches t.0 t.1)

pub margin : (at d : ℕ) (more : List Piece) → tokens_of at (indent_pieces d ++ more) ≡ tokens_of (behind at (indent_pieces d)) more
margin at zero more = refl
margin at (suc d) more = margin (at + 1 + 1) d more

-- ---- chains

abbrev pub operand : ℕ → Level → CoreExpr → List Piece
operand d l x = operand_pieces (level_tightness l) x (expr_pieces d x)

operand_reads : (at d : ℕ) (l : Level) (x : CoreExpr) → ((a : ℕ) → ExprReads a d x) → Reads (IsOperand l) seen_expr (tokens_of at (operand d l x)) (expr_aside x)
operand_reads at d l x i =
    let r = of_operand at d (level_tightness l) x (no_tighter l) i in
    record { tree = r.tree; spelled = operand_at l r.tree _ r.spelled; same = r.same }

-- the links of a chain of that level
abbrev pub LinksRead : ℕ → ℕ → Level → CoreLinks → Type 0
LinksRead at d l links = Reads (AreLinks l) seen_links (tokens_of at (links_pieces d (level_tightness l) links)) (links_aside links)

pub put_last : (at d : ℕ) (l : Level) (o : Operator) (q : Place) (x : CoreExpr) → IsOf l o → ((a : ℕ) → ExprReads a d x) → LinksRead at d l (LinkOf o q x NoLinks)
put_last at d l o q x is i =
    let a1 = at + 1 + length (piece_bytes (operator_piece o)) + 1 in
    let r = operand_reads a1 d l x i in
    record {
      tree = (o, here (at + 1), r.tree) ∷ [];
      spelled = last_link o (here (at + 1)) (sign_at (at + 1) o) r.tree (tokens_of a1 (operand d l x)) (infix_at (at + 1) l o is) r.spelled refl
          (sign_first (at + 1) o (Space ∷ (operand d l x ++ [])) ∙ ap (λ t. sign_at (at + 1) o ∷ tokens_of a1 t) (append-nil (operand d l x)));
      same = ap (λ x. LinkOf o nowhere x NoLinks) r.same;
    }

pub put_link : (at d : ℕ) (l : Level) (o : Operator) (q : Place) (x : CoreExpr) (more : CoreLinks) → IsOf l o → ((a : ℕ) → ExprReads a d x) → (l ≡ Comparisons → ⊥) →
    LinksRead (behind (at + 1 + length (piece_bytes (operator_piece o)) + 1) (operand d l x)) d l more → LinksRead at d l (LinkOf o q x more)
put_link at d l o q x more is i ne m =
    let a1 = at + 1 + length (piece_bytes (operator_piece o)) + 1 in
    let r = operand_reads a1 d l x i in
    record {
      tree = (o, here (at + 1), r.tree) ∷ m.tree;
      spelled = more_link o (here (at + 1)) (sign_at (at + 1) o) r.tree m.tree (tokens_of a1 (operand d l x)) (tokens_of (behind a1 (operand d l x)) (links_pieces d (level_tightness l) more)) ne (infix_at (at + 1) l o is) r.spelled m.spelled refl
          (sign_first (at + 1) o (Space ∷ (operand d l x ++ links_pieces d (level_tightness l) more)) ∙ ap (λ t. sign_at (at + 1) o ∷ t) (split a1 (operand d l x) (links_pieces d (level_tightness l) more)));
      same = ap (λ x. LinkOf o nowhere x (seen_links m.tree)) r.same ∙ ap (LinkOf o nowhere (expr_aside x)) m.same;
    }

-- a chain of the level, its operators printed as those of that tightness
abbrev pub ChainReads : ℕ → ℕ → ℕ → CoreExpr → CoreLinks → Type 0
ChainReads at d tight first links =
    Reads (AtLeast tight) seen_expr (tokens_of at (operand_pieces tight first (expr_pieces d first) ++ links_pieces d tight links)) (Chain nowhere (expr_aside first) (links_aside links))

pub put_chain : (at d : ℕ) (l : Level) (first : CoreExpr) (links : CoreLinks) → ((a : ℕ) → ExprReads a d first) → LinksRead (behind at (operand d l first)) d l links → ChainReads at d (level_tightness l) first links
put_chain at d l first links i m =
    let r = operand_reads at d l first i in
    record {
      tree = expr_at (place_of r.tree) (expr.Chain r.tree m.tree);
      spelled = chain_at l _ _ (chain_level r.tree m.tree (tokens_of at (operand d l first)) _ r.spelled m.spelled refl (split at (operand d l first) (links_pieces d (level_tightness l) links)));
      same = ap expr_aside (core_chain (place_of r.tree) r.tree m.tree) ∙ ap (λ x. Chain nowhere x (seen_links m.tree)) r.same ∙ ap (Chain nowhere (expr_aside first)) m.same;
    }

pub put_prefix : (at d : ℕ) (p : Place) (o : Operator) (x : CoreExpr) → IsPrefix o → ((a : ℕ) → ExprReads a d x) → ExprReads at d (Prefix p o x)
put_prefix at d p o x (inl e) i =
    let r = of_operand (at + 1) d 5 x (omega arith) i in
    subst (λ o. ExprReads at d (Prefix p o x)) (sym e) (record {
      tree = expr_at (here at) (expr.Prefix operator.Neg r.tree);
      spelled = negated_unary (here at) r.tree _ r.spelled refl refl;
      same = ap expr_aside (core_prefix (here at) operator.Neg r.tree) ∙ ap (Prefix nowhere operator.Neg) r.same;
    })
put_prefix at d p o x (inr e) i =
    let r = of_operand (at + 1) d 5 x (omega arith) i in
    subst (λ o. ExprReads at d (Prefix p o x)) (sym e) (record {
      tree = expr_at (here at) (expr.Prefix operator.Not r.tree);
      spelled = inverted_unary (here at) r.tree _ r.spelled refl refl;
      same = ap expr_aside (core_prefix (here at) operator.Not r.tree) ∙ ap (Prefix nowhere operator.Not) r.same;
    })

-- ---- statements

-- the tokens of a printed statement spell it, or it is a `return` without expression
pub data StmtReads (at d : ℕ) (x : CoreStmt) : Type 0 where
  plainly : Reads IsStmt seen_stmt (tokens_of at (stmt_pieces d x)) (stmt_aside x) → StmtReads at d x
  barely : tokens_of at (stmt_pieces d x) ≡ keyword (codes "return") (here at) ∷ mark (codes ";") (here (at + 6)) ∷ [] → stmt_aside x ≡ Return nowhere → StmtReads at d x

abbrev pub StmtsRead : ℕ → ℕ → CoreStmts → Type 0
StmtsRead at d xs = Reads AreStmts seen_stmts (tokens_of at (stmts_pieces d xs)) (stmts_aside xs)

pub put_stmt : (at d : ℕ) (x : CoreStmt) (more : CoreStmts) → StmtReads (behind at (indent_pieces d)) d x → StmtsRead (behind (behind at (indent_pieces d)) (stmt_pieces d x) + 1) d more → StmtsRead at d (StmtOf x more)
put_stmt at d x more (plainly r) m =
    let a0 = behind at (indent_pieces d) in
    record {
      tree = r.tree ∷ m.tree;
      spelled = more_stmts r.tree m.tree (tokens_of a0 (stmt_pieces d x)) [] _ r.spelled (no_semicolon refl) m.spelled refl
          (margin at d (stmt_pieces d x ++ LineFeed ∷ stmts_pieces d more) ∙ split a0 (stmt_pieces d x) (LineFeed ∷ stmts_pieces d more));
      same = ap (λ x. StmtOf x (seen_stmts m.tree)) r.same ∙ ap (StmtOf (stmt_aside x)) m.same;
    }
put_stmt at d x more (barely e is) m =
    let a0 = behind at (indent_pieces d) in
    record {
      tree = stmt_at (here a0) (stmt.Return None) ∷ m.tree;
      spelled = bare_return_stmts (here a0) (here (a0 + 6)) m.tree _ m.spelled refl
          (margin at d (stmt_pieces d x ++ LineFeed ∷ stmts_pieces d more) ∙ split a0 (stmt_pieces d x) (LineFeed ∷ stmts_pieces d more) ∙ ap (λ t. t ++ tokens_of (behind a0 (stmt_pieces d x) + 1) (stmts_pieces d more)) e);
      same = ap (λ x. StmtOf (stmt_aside x) (seen_stmts m.tree)) (core_return (here a0)) ∙ ap (λ x. StmtOf x (seen_stmts m.tree)) (sym is) ∙ ap (StmtOf (stmt_aside x)) m.same;
    }

pub put_bare : (at d : ℕ) (xs : CoreStmts) (end : Place) → StmtsRead (at + 1 + 1) (suc d) xs → Reads IsBlock seen_block (tokens_of at (bare_pieces d (BlockOf xs end))) (BlockOf (stmts_aside xs) nowhere)
put_bare at d xs end r =
    let a1 = behind (at + 1 + 1) (stmts_pieces (suc d) xs) in
    let close = behind a1 (indent_pieces d) in
    record {
      tree = roll-Block (record { stmts = r.tree; end = here close });
      spelled = is_block (here at) (here close) r.tree (tokens_of (at + 1 + 1) (stmts_pieces (suc d) xs)) r.spelled refl
          (ap (λ t. mark (codes "{") (here at) ∷ t) (split (at + 1 + 1) (stmts_pieces (suc d) xs) (indent_pieces d ++ MarkOf (codes "}") ∷ []) ∙ ap (λ t. tokens_of (at + 1 + 1) (stmts_pieces (suc d) xs) ++ t) (margin a1 d (MarkOf (codes "}") ∷ []))));
      same = ap block_aside (core_body r.tree (here close)) ∙ ap (λ x. BlockOf x nowhere) r.same;
    }

abbrev pub BlockReads : ℕ → ℕ → CoreBlock → Type 0
BlockReads at d b = Reads IsBlock seen_block (tokens_of at (block_pieces d b)) (block_aside b)

-- ---- branches

abbrev pub lead : List Piece
lead = Space ∷ KeywordOf (codes "else") ∷ Space ∷ KeywordOf (codes "if") ∷ Space ∷ []

-- the branches from a word `if` on
abbrev pub BranchesRead : ℕ → ℕ → CoreExpr → CoreBlock → CoreBranches → Type 0
BranchesRead at d test body more =
    Reads (λ t ts. AreBranches (here at) t.0 t.1 ts) seen_branches (keyword (codes "if") (here at) ∷ tokens_of (at + 2 + 1) (expr_pieces d test ++ (block_pieces d body ++ branches_pieces d lead more))) (BranchOf (expr_aside test) (block_aside body) (branches_aside more))

-- what stands behind a block of an `if`
pub data BranchesAfter (at d : ℕ) (more : CoreBranches) : Type 0 where
  no_branch : branches_pieces d lead more ≡ [] → branches_aside more ≡ NoElse → BranchesAfter at d more
  else_branch : (rest : Tokens) → tokens_of at (branches_pieces d lead more) ≡ keyword (codes "else") (here (at + 1)) ∷ rest → (final : CoreBlock) → Reads IsBlock seen_block rest final → branches_aside more ≡ Else final → BranchesAfter at d more
  next_branch : (next : Place) (rest : Tokens) → tokens_of at (branches_pieces d lead more) ≡ keyword (codes "else") (here (at + 1)) ∷ rest →
      Reads (λ t ts. AreBranches next t.0 t.1 ts) seen_branches rest (branches_aside more) → BranchesAfter at d more

pub put_branch : (at d : ℕ) (test : CoreExpr) (body : CoreBlock) (more : CoreBranches) → ExprReads (at + 2 + 1) d test → ((a : ℕ) → BlockReads a d body) →
    BranchesAfter (behind (behind (at + 2 + 1) (expr_pieces d test)) (block_pieces d body)) d more → BranchesRead at d test body more
put_branch at d test body more i b (no_branch none last) =
    let a1 = at + 2 + 1 in
    let a2 = behind a1 (expr_pieces d test) in
    let x = any_expr a1 d test i in
    let y = b a2 in
    let branch : Branch = roll-Branch (record { test = x.tree; body = y.tree }) in
    record {
      tree = (branch ∷ [], None);
      spelled = last_branch x.tree y.tree (tokens_of a1 (expr_pieces d test)) (tokens_of a2 (block_pieces d body)) x.spelled y.spelled refl refl
          (ap (λ t. keyword (codes "if") (here at) ∷ t) (split a1 (expr_pieces d test) _ ∙ ap (λ t. tokens_of a1 (expr_pieces d test) ++ tokens_of a2 (block_pieces d body ++ t)) none ∙ ap (λ t. tokens_of a1 (expr_pieces d test) ++ tokens_of a2 t) (append-nil (block_pieces d body))));
      same = ap branches_aside (core_test x.tree y.tree NoElse) ∙ ap (λ x. BranchOf x (seen_block y.tree) NoElse) x.same ∙ ap (λ b. BranchOf (expr_aside test) b NoElse) y.same ∙ ap (BranchOf (expr_aside test) (block_aside body)) (sym last);
    }
put_branch at d test body more i b (else_branch rest e final m is) =
    let a1 = at + 2 + 1 in
    let a2 = behind a1 (expr_pieces d test) in
    let a3 = behind a2 (block_pieces d body) in
    let x = any_expr a1 d test i in
    let y = b a2 in
    let branch : Branch = roll-Branch (record { test = x.tree; body = y.tree }) in
    record {
      tree = (branch ∷ [], Some m.tree);
      spelled = last_else_branch x.tree y.tree m.tree (here (a3 + 1)) (tokens_of a1 (expr_pieces d test)) (tokens_of a2 (block_pieces d body)) rest x.spelled y.spelled m.spelled refl refl
          (ap (λ t. keyword (codes "if") (here at) ∷ t) (split a1 (expr_pieces d test) _ ∙ ap (λ t. tokens_of a1 (expr_pieces d test) ++ t) (split a2 (block_pieces d body) _ ∙ ap (λ t. tokens_of a2 (block_pieces d body) ++ t) e)));
      same = ap branches_aside (core_test x.tree y.tree (Else (core_block m.tree))) ∙ ap (λ x. BranchOf x (seen_block y.tree) (Else (seen_block m.tree))) x.same ∙ ap (λ b. BranchOf (expr_aside test) b (Else (seen_block m.tree))) y.same ∙
          ap (λ b. BranchOf (expr_aside test) (block_aside body) (Else b)) m.same ∙ ap (BranchOf (expr_aside test) (block_aside body)) (sym is);
    }
put_branch at d test body more i b (next_branch next rest e m) =
    let a1 = at + 2 + 1 in
    let a2 = behind a1 (expr_pieces d test) in
    let a3 = behind a2 (block_pieces d body) in
    let x = any_expr a1 d test i in
    let y = b a2 in
    let branch : Branch = roll-Branch (record { test = x.tree; body = y.tree }) in
    record {
      tree = (branch ∷ m.tree.0, m.tree.1);
      spelled = more_branch x.tree y.tree (here (a3 + 1)) next m.tree.0 (tokens_of a1 (expr_pieces d test)) (tokens_of a2 (block_pieces d body)) rest x.spelled y.spelled m.spelled refl
          (ap (λ t. keyword (codes "if") (here at) ∷ t) (split a1 (expr_pieces d test) _ ∙ ap (λ t. tokens_of a1 (expr_pieces d test) ++ t) (split a2 (block_pieces d body) _ ∙ ap (λ t. tokens_of a2 (block_pieces d body) ++ t) e)));
      same = ap branches_aside (core_test x.tree y.tree (core_branches m.tree.0 m.tree.1)) ∙ ap (λ x. BranchOf x (seen_block y.tree) (seen_branches m.tree)) x.same ∙ ap (λ b. BranchOf (expr_aside test) b (seen_branches m.tree)) y.same ∙
          ap (BranchOf (expr_aside test) (block_aside body)) m.same;
    }
