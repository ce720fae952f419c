-- The other statements of one form are read exactly.
use Rattle.std.proofs.Common.{◌≡◌, ℕ, Bool, false, ◌||◌, [], ◌∷◌, ◌++◌, Option, Some, None, inl, inr, refl, sym, ◌∙◌, ap, subst, append_assoc}
use Rattle.std.specs.Prelude.{codes}
use Rattle.hv_tree.specs.declared.place.Place.{Place}
use Rattle.hv_tree.specs.declared.token.Token.{Token}
use Rattle.hv_tree.specs.declared.types.Name.{Name}
use Rattle.hv_tree.specs.declared.types.Ty.{Ty}
use Rattle.hv_tree.specs.declared.ast.Expr.{Expr}
use Rattle.hv_tree.specs.declared.ast.Block.{Block}
use Rattle.hv_tree.specs.declared.ast.Call.{Call}
use Rattle.hv_tree.specs.declared.ast.Stmt.{Stmt}
use Rattle.hv_tree.specs.declared.ast.StmtKind.TheVariants as stmt
use Rattle.hv_tree.specs.Tokens.{Tokens, mark, keyword, word, Ors}
use Rattle.hv_tree.specs.Types.{IsType}
use Rattle.hv_tree.specs.Grammar.{stmt_at, IsLevel, IsBlock, is_block, IsCall, IsTaskType, no_task_type, one_task_type, IsStmt, while_stmt, print_stmt, task_stmt, await_stmt, call_stmt, block_stmt}
use Rattle.hv_tree.specs.Refusal.{is_mark}
use Rattle.hv_syn_grammar.specs.Parser.{◌>>=◌, done}
use Rattle.hv_syn_grammar.specs.Lexemes.{after_mark}
use Rattle.hv_syn_grammar.specs.Expressions.{Inner, call}
use Rattle.hv_syn_grammar.specs.Statements as s
use Rattle.hv_syn_exact.proofs.Exact.{Exact, Stops, Then, Either, Nothing, then_exact, done_exact, choose_exact, exact_by, nowhere, never}
use Rattle.hv_syn_exact.proofs.Lexemes.{After, a_mark, a_keyword, a_word, next_exact, bracketed_exact}
use Rattle.hv_syn_exact.proofs.Inner.{on_type, on_expr, IsPlacedCall, IsPlacedBlock}
use Rattle.hv_syn_exact.proofs.Shorts.{off_at, on_at, empty_stops, stops_left, stops_right, zero_at, can_after, can_then, can_nothing}
use Rattle.hv_syn_exact.proofs.Mapped.{Mapped, mapped_exact}
use Rattle.hv_syn_exact.proofs.Parts.{Parts}

-- ---- the relations

abbrev pub While : Stmt → Tokens → Type 0
While = After (keyword (codes "while")) (λ at. Then (IsLevel Ors) (λ test. Mapped (λ body. stmt_at at (stmt.While test body)) IsBlock))

abbrev PrintRest : Place → Stmt → Tokens → Type 0
PrintRest at = After (mark (codes "(")) (λ left. Then (IsLevel Ors) (λ v. After (mark (codes ")")) (λ right. Nothing (stmt_at at (stmt.Print v)))))

abbrev pub Print : Stmt → Tokens → Type 0
Print = After (keyword (codes "print")) PrintRest

abbrev BudgetRest : Place → Place × Expr → Tokens → Type 0
BudgetRest spawn = After (mark (codes "(")) (λ left. Then (IsLevel Ors) (λ b. After (mark (codes ")")) (λ right. Nothing (spawn, b))))

abbrev Budget : Place × Expr → Tokens → Type 0
Budget = After (keyword (codes "spawn")) BudgetRest

abbrev TaskType : Option Ty → Tokens → Type 0
TaskType = Either (After (mark (codes ":")) (λ colon. Mapped (λ t. Some t) IsType)) (Nothing None)

abbrev Started : Place → Name → Option Ty → Stmt → Tokens → Type 0
Started at name result = After (mark (codes "=")) (λ equals. Then Budget (λ b. Mapped (λ c. stmt_at at (stmt.Task name result b.0 b.1 c.1)) IsPlacedCall))

abbrev pub Task : Stmt → Tokens → Type 0
Task = After (keyword (codes "task")) (λ at. After word (λ name. Then IsTaskType (λ result. Started at name result)))

abbrev pub Await : Stmt → Tokens → Type 0
Await = After (keyword (codes "await")) (λ at. After word (λ name. Nothing (stmt_at at (stmt.Await name))))

abbrev pub CallAlone : Stmt → Tokens → Type 0
CallAlone = Mapped (λ c. stmt_at c.0 (stmt.Call c.1)) IsPlacedCall

abbrev pub BlockAlone : Stmt → Tokens → Type 0
BlockAlone = Mapped (λ b. stmt_at b.0 (stmt.Block b.1)) IsPlacedBlock

-- ---- what they say

pub to_while : (x : Stmt) (ts : Tokens) → While x ts → IsStmt x ts
to_while x ts c = let t = c.2 in let m = t.4 in while_stmt c.0 t.0 m.0 t.1 t.2 t.3 m.1 m.2 (c.3 ∙ ap (λ y. keyword (codes "while") c.0 ∷ y) t.5)

pub from_while : (x : Stmt) (ts : Tokens) (at : Place) (test : Expr) (body : Block) (a b : Tokens) → IsLevel Ors test a → IsBlock body b → x ≡ stmt_at at (stmt.While test body) → ts ≡ keyword (codes "while") at ∷ (a ++ b) → While x ts
from_while x ts at test body a b h k e is = (at, a ++ b, (test, a, b, h, (body, k, e), refl), is)

pub to_print : (x : Stmt) (ts : Tokens) → Print x ts → IsStmt x ts
to_print x ts c =
    let q = c.2 in
    let t = q.2 in
    let r = t.4 in
    let flat : q.1 ≡ t.1 ++ mark (codes ")") r.0 ∷ [] = cc in
    print_stmt c.0 q.0 r.0 t.0 t.1 t.3 r.2.0 (c.3 ∙ ap (λ y. keyword (codes "print") c.0 ∷ y) (q.3 ∙ ap (λ y. mark (codes "(") q.0 ∷ y) flat))

pub from_print : (x : Stmt) (ts : Tokens) (at left right : Place) (v : Expr) (a : Tokens) → IsLevel Ors v a → x ≡ stmt_at at (stmt.Print v) → ts ≡ keyword (codes "print") at ∷ mark (codes "(") left ∷ (a ++ mark (codes ")") right ∷ []) → Print x ts
from_print x ts at left right v a h e is = (at, mark (codes "(") left ∷ (a ++ mark (codes ")") right ∷ []), (left, a ++ mark (codes ")") right ∷ [], (v, a, mark (codes ")") right ∷ [], h, (right, [], (e, refl), refl), refl), refl), is)

to_task_type : (o : Option Ty) (ts : Tokens) → TaskType o ts → IsTaskType o ts
to_task_type o ts (inl c) = let m = c.2 in one_task_type c.0 m.0 c.1 m.1 m.2 c.3
to_task_type o ts (inr n) = no_task_type n.0 n.1

from_task_type : (o : Option Ty) (ts : Tokens) → IsTaskType o ts → TaskType o ts
from_task_type o ts (no_task_type e is) = inr (e, is)
from_task_type o ts (one_task_type colon t a h e is) = inl (colon, a, (t, h, e), is)

to_budget : (b : Place × Expr) (ts : Tokens) → Budget b ts → (left : Place) × (right : Place) × (a : Tokens) × IsLevel Ors b.1 a × (ts ≡ keyword (codes "spawn") b.0 ∷ mark (codes "(") left ∷ (a ++ mark (codes ")") right ∷ []))
to_budget b ts c =
    let q = c.2 in
    let t = q.2 in
    let r = t.4 in
    let flat : q.1 ≡ t.1 ++ mark (codes ")") r.0 ∷ [] = cc in (
      q.0,
      r.0,
      t.1,
      subst (λ b. IsLevel Ors b.1 t.1) (sym r.2.0) t.3,
      c.3 ∙ ap (λ y. keyword (codes "spawn") c.0 ∷ y) (q.3 ∙ ap (λ y. mark (codes "(") q.0 ∷ y) flat) ∙ ap (λ b. keyword (codes "spawn") b.0 ∷ mark (codes "(") q.0 ∷ (t.1 ++ mark (codes ")") r.0 ∷ [])) (sym r.2.0),
    )

from_budget : (spawn left right : Place) (b : Expr) (a : Tokens) → IsLevel Ors b a → Budget (spawn, b) (keyword (codes "spawn") spawn ∷ mark (codes "(") left ∷ (a ++ mark (codes ")") right ∷ []))
from_budget spawn left right b a h = (spawn, mark (codes "(") left ∷ (a ++ mark (codes ")") right ∷ []), (left, a ++ mark (codes ")") right ∷ [], (b, a, mark (codes ")") right ∷ [], h, (right, [], (refl, refl), refl), refl), refl), refl)

pub to_task : (x : Stmt) (ts : Tokens) → Task x ts → IsStmt x ts
to_task x ts c =
    let w = c.2 in
    let t = w.2 in
    let q = t.4 in
    let u = q.2 in
    let b = to_budget u.0 u.1 u.3 in
    let m = u.4 in
    task_stmt c.0 q.0 u.0.0 b.0 b.1 w.0 t.0 u.0.1 m.0.1 m.0.0 t.1 b.2 u.2 t.3 b.3 m.1 m.2
    (c.3 ∙ ap (λ y. keyword (codes "task") c.0 ∷ y) (w.3 ∙ ap (λ y. word w.0 ∷ y) t.5) ∙ ap (λ y. keyword (codes "task") c.0 ∷ word w.0 ∷ (t.1 ++ y)) (q.3 ∙ ap (λ y. mark (codes "=") q.0 ∷ y) (u.5 ∙ ap (λ z. z ++ u.2) b.4)) ∙ ap (λ y. keyword (codes "task") c.0 ∷ word w.0 ∷ (t.1 ++ mark (codes "=") q.0 ∷ keyword (codes "spawn") u.0.0 ∷ mark (codes "(") b.0 ∷ y)) (append_assoc b.2 (mark (codes ")") b.1 ∷ []) u.2))

pub from_task : (x : Stmt) (ts : Tokens) (at equals spawn left right : Place) (name : Name) (result : Option Ty) (budget : Expr) (c : Call) (first : Place) (a b e : Tokens) → IsTaskType result a → IsLevel Ors budget b → IsCall first c e → x ≡ stmt_at at (stmt.Task name result spawn budget c) →
    ts ≡ keyword (codes "task") at ∷ word name ∷ (a ++ mark (codes "=") equals ∷ keyword (codes "spawn") spawn ∷ mark (codes "(") left ∷ (b ++ mark (codes ")") right ∷ e)) → Task x ts
from_task x ts at equals spawn left right name result budget c first a b e h k l is is' = (
  at,
  word name ∷ (a ++ mark (codes "=") equals ∷ keyword (codes "spawn") spawn ∷ mark (codes "(") left ∷ (b ++ mark (codes ")") right ∷ e)),
  (
    name,
    a ++ mark (codes "=") equals ∷ keyword (codes "spawn") spawn ∷ mark (codes "(") left ∷ (b ++ mark (codes ")") right ∷ e),
    (
      result,
      a,
      mark (codes "=") equals ∷ keyword (codes "spawn") spawn ∷ mark (codes "(") left ∷ (b ++ mark (codes ")") right ∷ e),
      h,
      (
        equals,
        keyword (codes "spawn") spawn ∷ mark (codes "(") left ∷ (b ++ mark (codes ")") right ∷ e),
        (
          (spawn, budget),
          keyword (codes "spawn") spawn ∷ mark (codes "(") left ∷ (b ++ mark (codes ")") right ∷ []),
          e,
          from_budget spawn left right budget b k,
          ((first, c), l, is),
          ap (λ y. keyword (codes "spawn") spawn ∷ mark (codes "(") left ∷ y) (sym (append_assoc b (mark (codes ")") right ∷ []) e)),
        ),
        refl,
      ),
      refl,
    ),
    refl,
  ),
  is',
)

pub to_await : (x : Stmt) (ts : Tokens) → Await x ts → IsStmt x ts
to_await x ts c = let w = c.2 in await_stmt c.0 w.0 w.2.0 (c.3 ∙ ap (λ y. keyword (codes "await") c.0 ∷ y) (w.3 ∙ ap (λ y. word w.0 ∷ y) w.2.1))

pub from_await : (x : Stmt) (ts : Tokens) (at : Place) (name : Name) → x ≡ stmt_at at (stmt.Await name) → ts ≡ keyword (codes "await") at ∷ word name ∷ [] → Await x ts
from_await x ts at name e is = (at, word name ∷ [], (name, [], (e, refl), refl), is)

pub to_call_alone : (x : Stmt) (ts : Tokens) → CallAlone x ts → IsStmt x ts
to_call_alone x ts m = call_stmt m.0.0 m.0.1 m.1 m.2

pub from_call_alone : (x : Stmt) (ts : Tokens) (at : Place) (c : Call) → IsCall at c ts → x ≡ stmt_at at (stmt.Call c) → CallAlone x ts
from_call_alone x ts at c h e = ((at, c), h, e)

pub to_block_alone : (x : Stmt) (ts : Tokens) → BlockAlone x ts → IsStmt x ts
to_block_alone x ts m = let p = m.1 in block_stmt m.0.0 m.0.1 p.1.0 p.0 p.1.1 m.2

pub from_block_alone : (x : Stmt) (ts : Tokens) (left : Place) (b : Block) (a : Tokens) → IsBlock b ts → ts ≡ mark (codes "{") left ∷ a → x ≡ stmt_at left (stmt.Block b) → BlockAlone x ts
from_block_alone x ts left b a h is e = ((left, b), (h, (a, is)), e)

-- a block after a part stops what can't go on with '{'
pub block_stops : (on : Token → Bool) → ((at : Place) → on (mark (codes "{") at) ≡ false) → (b : Block) (y rest : Tokens) → IsBlock b y → Stops on (y ++ rest)
block_stops on off b y rest (is_block left right stmts a h e is) = off_at on _ y (a ++ mark (codes "}") right ∷ []) rest is (off left)

-- ---- they are read exactly

module _ (d : ℕ) (i : Inner) (P : Parts d i) where
  pub while_exact : Exact d d nowhere While (s.while_stmt d i)
  unfolding s.while_stmt
  while_exact =
      next_exact _ _ _ (a_keyword (codes "while")) _ _ d d d nowhere (λ v. refl)
      (λ at. then_exact d d d on_expr nowhere (IsLevel Ors) (λ test. Mapped (λ body. stmt_at at (stmt.While test body)) IsBlock) _ _ P.expr
      (λ test. mapped_exact d d nowhere (λ body. stmt_at at (stmt.While test body)) IsBlock _ P.block)
      (λ test x y rest m h. block_stops on_expr (λ at. refl) m.0 y rest m.1))

  pub print_exact : Exact d d nowhere Print (s.print_stmt d i)
  unfolding s.print_stmt
  print_exact =
      next_exact _ _ _ (a_keyword (codes "print")) PrintRest _ d d d nowhere (λ v. refl)
      (λ at. bracketed_exact _ _ _ (a_mark (codes "(")) _ _ d d nowhere
      (λ left. can_then (IsLevel Ors) (λ v. After (mark (codes ")")) (λ right. Nothing (stmt_at at (stmt.Print v)))) P.expr.can (can_after _ _ zero_at (can_nothing (stmt_at at (stmt.Print P.expr.can.0)))))
      (λ v. refl)
      (λ n is left. then_exact n n d on_expr nowhere (IsLevel Ors) (λ v. After (mark (codes ")")) (λ right. Nothing (stmt_at at (stmt.Print v)))) _ _ (P.inner.expr n is)
      (λ v. next_exact _ _ _ (a_mark (codes ")")) _ _ n d d nowhere (λ v. ap Some (sym is)) (λ right. done_exact d nowhere (stmt_at at (stmt.Print v))))
      (λ v x y rest c h. off_at on_expr _ y c.1 rest c.3 refl)))

  budget_exact : Exact d d nowhere Budget (s.budget d i)
  unfolding s.budget
  budget_exact =
      next_exact _ _ _ (a_keyword (codes "spawn")) BudgetRest _ d d d nowhere (λ v. refl)
      (λ spawn. bracketed_exact _ _ _ (a_mark (codes "(")) _ _ d d nowhere
      (λ left. can_then (IsLevel Ors) (λ b. After (mark (codes ")")) (λ right. Nothing (spawn, b))) P.expr.can (can_after _ _ zero_at (can_nothing (spawn, P.expr.can.0))))
      (λ v. refl)
      (λ n is left. then_exact n n d on_expr nowhere (IsLevel Ors) (λ b. After (mark (codes ")")) (λ right. Nothing (spawn, b))) _ _ (P.inner.expr n is)
      (λ b. next_exact _ _ _ (a_mark (codes ")")) _ _ n d d nowhere (λ v. ap Some (sym is)) (λ right. done_exact d nowhere (spawn, b)))
      (λ b x y rest c h. off_at on_expr _ y c.1 rest c.3 refl)))

  abbrev on_task_type : Token → Bool
  on_task_type k = is_mark (codes ":") k || on_type k

  task_type_exact : Exact d d on_task_type IsTaskType (s.task_type d i)
  unfolding s.task_type
  task_type_exact =
      exact_by d d on_task_type TaskType IsTaskType _
      (choose_exact d d (is_mark (codes ":")) _ (Nothing None) _ _ on_task_type on_type nowhere
      (next_exact _ _ _ (a_mark (codes ":")) _ _ d d d on_type (λ v. refl) (λ colon. mapped_exact d d on_type (λ t. Some t) IsType _ P.type)) (done_exact d nowhere None)
      (λ o ts c. on_at (is_mark (codes ":")) _ ts c.1 c.3 refl)
      (λ o ts rest n h. empty_stops (is_mark (codes ":")) ts rest n.1 (stops_left (is_mark (codes ":")) on_type rest h))
      (λ rest h. stops_right (is_mark (codes ":")) on_type rest h) (λ rest h. never rest))
      to_task_type from_task_type

  started_exact : (at : Place) (name : Name) (result : Option Ty) → Exact d d nowhere (Started at name result) (after_mark (codes "=") (λ equals. s.budget d i >>= (λ b. call d i >>= (λ c. done (stmt_at at (stmt.Task name result b.0 b.1 c.1))))))
  started_exact at name result =
      next_exact _ _ _ (a_mark (codes "=")) _ _ d d d nowhere (λ v. refl)
      (λ equals. then_exact d d d nowhere nowhere Budget (λ b. Mapped (λ c. stmt_at at (stmt.Task name result b.0 b.1 c.1)) IsPlacedCall) _ _ budget_exact
      (λ b. mapped_exact d d nowhere (λ c. stmt_at at (stmt.Task name result b.0 b.1 c.1)) IsPlacedCall _ P.call)
      (λ b x y rest m h. never (y ++ rest)))

  pub task_exact : Exact d d nowhere Task (s.task_stmt d i)
  unfolding s.task_stmt
  task_exact =
      next_exact _ _ _ (a_keyword (codes "task")) _ _ d d d nowhere (λ v. refl)
      (λ at. next_exact _ _ _ a_word _ _ d d d nowhere (λ v. refl)
      (λ name. then_exact d d d on_task_type nowhere IsTaskType (λ result. Started at name result) _ _ task_type_exact
      (λ result. started_exact at name result)
      (λ result x y rest c h. off_at on_task_type _ y c.1 rest c.3 refl)))

  pub await_exact : Exact d d nowhere Await (s.await_stmt d i)
  unfolding s.await_stmt
  await_exact =
      next_exact _ _ _ (a_keyword (codes "await")) _ _ d d d nowhere (λ v. refl)
      (λ at. next_exact _ _ _ a_word _ _ d d d nowhere (λ v. refl) (λ name. done_exact d nowhere (stmt_at at (stmt.Await name))))

  pub call_alone_exact : Exact d d nowhere CallAlone (s.call_stmt d i)
  unfolding s.call_stmt
  call_alone_exact = mapped_exact d d nowhere (λ c. stmt_at c.0 (stmt.Call c.1)) IsPlacedCall _ P.call

  pub block_alone_exact : Exact d d nowhere BlockAlone (s.block_stmt d i)
  unfolding s.block_stmt
  block_alone_exact = mapped_exact d d nowhere (λ b. stmt_at b.0 (stmt.Block b.1)) IsPlacedBlock _ P.placed_block
