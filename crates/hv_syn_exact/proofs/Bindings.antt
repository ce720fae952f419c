-- Bindings and assignments are read exactly.
use Rattle.std.proofs.Common.{◌≡◌, ℕ, Bool, ◌||◌, List, [], ◌∷◌, ◌++◌, Option, Some, None, inl, inr, refl, sym, ◌∙◌, ap, subst, append-nil}
use Rattle.std.specs.Prelude.{codes}
use Rattle.hv_tree.specs.declared.place.Place.{Place}
use Rattle.hv_tree.specs.declared.token.Token.{Token}
use Rattle.hv_tree.specs.declared.types.Name.{Name}
use Rattle.hv_tree.specs.declared.types.Ty.{Ty}
use Rattle.hv_tree.specs.declared.ast.Expr.{Expr}
use Rattle.hv_tree.specs.declared.ast.Step.{Step}
use Rattle.hv_tree.specs.declared.ast.PlaceExpr.{PlaceExpr}
use Rattle.hv_tree.specs.declared.ast.Stmt.{Stmt}
use Rattle.hv_tree.specs.declared.ast.StmtKind.TheVariants as stmt
use Rattle.hv_tree.specs.Tokens.{Tokens, mark, keyword, word, Ors, Ands, Comparisons, Sums, Products}
use Rattle.hv_tree.specs.Types.{IsType}
use Rattle.hv_tree.specs.Grammar.{stmt_at, path_of, IsLevel, AreSteps, IsStmt, var_stmt, var_with_stmt, let_stmt, inout_stmt, assign_stmt}
use Rattle.hv_tree.specs.Refusal.{is_mark}
use Rattle.hv_syn_grammar.specs.Levels.{is_infix}
use Rattle.hv_syn_grammar.specs.Expressions.{Inner, begins_step}
use Rattle.hv_syn_grammar.specs.Statements as s
use Rattle.hv_syn_exact.proofs.Exact.{Exact, Stops, Then, Either, Nothing, then_exact, done_exact, choose_exact, exact_on, nowhere, never}
use Rattle.hv_syn_exact.proofs.Lexemes.{After, a_mark, a_keyword, a_word, next_exact}
use Rattle.hv_syn_exact.proofs.Inner.{on_type, on_expr, on_conjunction, on_comparison, on_sum, on_product, on_path, IsPlace}
use Rattle.hv_syn_exact.proofs.Shorts.{off_at, on_at, empty_stops, stops_left, stops_right}
use Rattle.hv_syn_exact.proofs.Mapped.{Mapped, mapped_exact}
use Rattle.hv_syn_exact.proofs.Parts.{Parts}

-- ---- the relations

abbrev pub TypedName : Name × Ty → Tokens → Type 0
TypedName = After word (λ name. After (mark (codes ":")) (λ colon. Mapped (λ t. (name, t)) IsType))

abbrev pub Initial : Option Expr → Tokens → Type 0
Initial = Either (After (mark (codes "=")) (λ equals. Mapped (λ v. Some v) (IsLevel Ors))) (Nothing None)

abbrev pub Var : Stmt → Tokens → Type 0
Var = After (keyword (codes "var")) (λ at. Then TypedName (λ n. Mapped (λ v. stmt_at at (stmt.Var n.0 n.1 v)) Initial))

abbrev pub Let : Stmt → Tokens → Type 0
Let = After (keyword (codes "let")) (λ at. Then TypedName (λ n. After (mark (codes "=")) (λ equals. Mapped (λ v. stmt_at at (stmt.Let n.0 n.1 v)) (IsLevel Ors))))

abbrev pub Inout : Stmt → Tokens → Type 0
Inout =
    After (keyword (codes "inout")) (λ at. Then TypedName (λ n. After (mark (codes "=")) (λ equals. After (mark (codes "&")) (λ ref.
    Mapped (λ p. stmt_at at (stmt.Inout n.0 n.1 p)) IsPlace))))

abbrev pub Assign : Stmt → Tokens → Type 0
Assign = After (mark (codes "&")) (λ at. Then IsPlace (λ p. After (mark (codes "=")) (λ equals. Mapped (λ v. stmt_at at (stmt.Assign p v)) (IsLevel Ors))))

-- ---- what they say

to_typed : (n : Name × Ty) (u : Tokens) → TypedName n u → (colon : Place) × (a : Tokens) × IsType n.1 a × (u ≡ word n.0 ∷ mark (codes ":") colon ∷ a)
to_typed n u c =
    let t = c.2.2 in
    (c.2.0, c.2.1, subst (λ q. IsType q.1 c.2.1) (sym t.2) t.1, c.3 ∙ ap (λ y. word c.0 ∷ y) c.2.3 ∙ ap (λ q. word q.0 ∷ mark (codes ":") c.2.0 ∷ c.2.1) (sym t.2))

from_typed : (name : Name) (t : Ty) (colon : Place) (a : Tokens) → IsType t a → TypedName (name, t) (word name ∷ mark (codes ":") colon ∷ a)
from_typed name t colon a h = (name, mark (codes ":") colon ∷ a, (colon, a, (t, h, refl), refl), refl)

to_place : (p : PlaceExpr) (u : Tokens) → IsPlace p u → (root : Name) × (ss : List Step) × (a : Tokens) × AreSteps ss a × (p ≡ path_of root ss) × (u ≡ word root ∷ a)
to_place p u c = let t = c.2 in (c.0, t.0, t.1, t.3, t.4.0, c.3 ∙ ap (λ y. word c.0 ∷ y) (t.5 ∙ ap (λ z. t.1 ++ z) t.4.1 ∙ append-nil t.1))

from_place : (root : Name) (ss : List Step) (a : Tokens) → AreSteps ss a → IsPlace (path_of root ss) (word root ∷ a)
from_place root ss a h = (root, a, (ss, a, [], h, (refl, refl), sym (append-nil a)), refl)

to_var_by : (x : Stmt) (ts : Tokens) (at : Place) (n : Name × Ty) (u v : Tokens) (o : Option Expr) → TypedName n u → Initial o v → x ≡ stmt_at at (stmt.Var n.0 n.1 o) → ts ≡ keyword (codes "var") at ∷ (u ++ v) → IsStmt x ts
to_var_by x ts at n u v o h (inl c) e is =
    let t = to_typed n u h in
    let m = c.2 in
    var_with_stmt at t.0 c.0 n.0 n.1 m.0 t.1 c.1 t.2 m.1 (e ∙ ap (λ o. stmt_at at (stmt.Var n.0 n.1 o)) m.2)
    (is ∙ ap (λ z. keyword (codes "var") at ∷ (z ++ v)) t.3 ∙ ap (λ z. keyword (codes "var") at ∷ word n.0 ∷ mark (codes ":") t.0 ∷ (t.1 ++ z)) c.3)
to_var_by x ts at n u v o h (inr c) e is =
    let t = to_typed n u h in
    var_stmt at t.0 n.0 n.1 t.1 t.2 (e ∙ ap (λ o. stmt_at at (stmt.Var n.0 n.1 o)) c.0)
    (is ∙ ap (λ z. keyword (codes "var") at ∷ (z ++ v)) t.3 ∙ ap (λ z. keyword (codes "var") at ∷ word n.0 ∷ mark (codes ":") t.0 ∷ (t.1 ++ z)) c.1 ∙ ap (λ z. keyword (codes "var") at ∷ word n.0 ∷ mark (codes ":") t.0 ∷ z) (append-nil t.1))

pub to_var : (x : Stmt) (ts : Tokens) → Var x ts → IsStmt x ts
to_var x ts c = let t = c.2 in let m = t.4 in to_var_by x ts c.0 t.0 t.1 t.2 m.0 t.3 m.1 m.2 (c.3 ∙ ap (λ y. keyword (codes "var") c.0 ∷ y) t.5)

pub to_let : (x : Stmt) (ts : Tokens) → Let x ts → IsStmt x ts
to_let x ts c =
    let w = c.2 in
    let t = to_typed w.0 w.1 w.3 in
    let q = w.4 in
    let m = q.2 in
    let_stmt c.0 t.0 q.0 w.0.0 w.0.1 m.0 t.1 q.1 t.2 m.1 m.2
    (c.3 ∙ ap (λ y. keyword (codes "let") c.0 ∷ y) w.5 ∙ ap (λ z. keyword (codes "let") c.0 ∷ (z ++ w.2)) t.3 ∙ ap (λ z. keyword (codes "let") c.0 ∷ word w.0.0 ∷ mark (codes ":") t.0 ∷ (t.1 ++ z)) q.3)

pub to_inout : (x : Stmt) (ts : Tokens) → Inout x ts → IsStmt x ts
to_inout x ts c =
    let w = c.2 in
    let t = to_typed w.0 w.1 w.3 in
    let q = w.4 in
    let r = q.2 in
    let m = r.2 in
    let p = to_place m.0 r.1 m.1 in
    inout_stmt c.0 t.0 q.0 r.0 w.0.0 w.0.1 p.0 p.1 t.1 p.2 t.2 p.3 (m.2 ∙ ap (λ p. stmt_at c.0 (stmt.Inout w.0.0 w.0.1 p)) p.4)
    (c.3 ∙ ap (λ y. keyword (codes "inout") c.0 ∷ y) w.5 ∙ ap (λ z. keyword (codes "inout") c.0 ∷ (z ++ w.2)) t.3 ∙ ap (λ z. keyword (codes "inout") c.0 ∷ word w.0.0 ∷ mark (codes ":") t.0 ∷ (t.1 ++ z)) (q.3 ∙ ap (λ z. mark (codes "=") q.0 ∷ z) (r.3 ∙ ap (λ z. mark (codes "&") r.0 ∷ z) p.5)))

pub to_assign : (x : Stmt) (ts : Tokens) → Assign x ts → IsStmt x ts
to_assign x ts c =
    let w = c.2 in
    let p = to_place w.0 w.1 w.3 in
    let q = w.4 in
    let m = q.2 in
    assign_stmt c.0 q.0 p.0 p.1 m.0 p.2 q.1 p.3 m.1 (m.2 ∙ ap (λ p. stmt_at c.0 (stmt.Assign p m.0)) p.4)
    (c.3 ∙ ap (λ y. mark (codes "&") c.0 ∷ y) w.5 ∙ ap (λ z. mark (codes "&") c.0 ∷ (z ++ w.2)) p.5 ∙ ap (λ z. mark (codes "&") c.0 ∷ word p.0 ∷ (p.2 ++ z)) q.3)

pub from_var : (x : Stmt) (ts : Tokens) (at colon : Place) (name : Name) (t : Ty) (a : Tokens) → IsType t a → x ≡ stmt_at at (stmt.Var name t None) → ts ≡ keyword (codes "var") at ∷ word name ∷ mark (codes ":") colon ∷ a → Var x ts
from_var x ts at colon name t a h e is = (at, word name ∷ mark (codes ":") colon ∷ a, ((name, t), word name ∷ mark (codes ":") colon ∷ a, [], from_typed name t colon a h, (None, inr (refl, refl), e), sym (append-nil (word name ∷ mark (codes ":") colon ∷ a))), is)

pub from_var_with : (x : Stmt) (ts : Tokens) (at colon equals : Place) (name : Name) (t : Ty) (v : Expr) (a b : Tokens) → IsType t a → IsLevel Ors v b → x ≡ stmt_at at (stmt.Var name t (Some v)) →
    ts ≡ keyword (codes "var") at ∷ word name ∷ mark (codes ":") colon ∷ (a ++ mark (codes "=") equals ∷ b) → Var x ts
from_var_with x ts at colon equals name t v a b h k e is =
    (at, word name ∷ mark (codes ":") colon ∷ (a ++ mark (codes "=") equals ∷ b), ((name, t), word name ∷ mark (codes ":") colon ∷ a, mark (codes "=") equals ∷ b, from_typed name t colon a h, (Some v, inl (equals, b, (v, k, refl), refl), e), refl), is)

pub from_let : (x : Stmt) (ts : Tokens) (at colon equals : Place) (name : Name) (t : Ty) (v : Expr) (a b : Tokens) → IsType t a → IsLevel Ors v b → x ≡ stmt_at at (stmt.Let name t v) →
    ts ≡ keyword (codes "let") at ∷ word name ∷ mark (codes ":") colon ∷ (a ++ mark (codes "=") equals ∷ b) → Let x ts
from_let x ts at colon equals name t v a b h k e is =
    (at, word name ∷ mark (codes ":") colon ∷ (a ++ mark (codes "=") equals ∷ b), ((name, t), word name ∷ mark (codes ":") colon ∷ a, mark (codes "=") equals ∷ b, from_typed name t colon a h, (equals, b, (v, k, e), refl), refl), is)

pub from_inout : (x : Stmt) (ts : Tokens) (at colon equals ref : Place) (name : Name) (t : Ty) (root : Name) (steps : List Step) (a b : Tokens) → IsType t a → AreSteps steps b → x ≡ stmt_at at (stmt.Inout name t (path_of root steps)) →
    ts ≡ keyword (codes "inout") at ∷ word name ∷ mark (codes ":") colon ∷ (a ++ mark (codes "=") equals ∷ mark (codes "&") ref ∷ word root ∷ b) → Inout x ts
from_inout x ts at colon equals ref name t root steps a b h k e is = (
  at,
  word name ∷ mark (codes ":") colon ∷ (a ++ mark (codes "=") equals ∷ mark (codes "&") ref ∷ word root ∷ b),
  (
    (name, t),
    word name ∷ mark (codes ":") colon ∷ a,
    mark (codes "=") equals ∷ mark (codes "&") ref ∷ word root ∷ b,
    from_typed name t colon a h,
    (equals, mark (codes "&") ref ∷ word root ∷ b, (ref, word root ∷ b, (path_of root steps, from_place root steps b k, e), refl), refl),
    refl,
  ),
  is,
)

pub from_assign : (x : Stmt) (ts : Tokens) (at equals : Place) (root : Name) (steps : List Step) (v : Expr) (a b : Tokens) → AreSteps steps a → IsLevel Ors v b → x ≡ stmt_at at (stmt.Assign (path_of root steps) v) →
    ts ≡ mark (codes "&") at ∷ word root ∷ (a ++ mark (codes "=") equals ∷ b) → Assign x ts
from_assign x ts at equals root steps v a b h k e is =
    (at, word root ∷ (a ++ mark (codes "=") equals ∷ b), (path_of root steps, word root ∷ a, mark (codes "=") equals ∷ b, from_place root steps a h, (equals, b, (v, k, e), refl), refl), is)

-- ---- what goes on after them

abbrev pub on_initial : Token → Bool
on_initial k = is_mark (codes "=") k || on_expr k

abbrev pub on_var : Token → Bool
on_var k = on_type k || on_initial k

pub expr_stops_steps : (rest : Tokens) → Stops on_expr rest → Stops begins_step rest
expr_stops_steps rest h =
    let a = stops_right (is_infix Ors) on_conjunction rest h in
    let b = stops_right (is_infix Ands) on_comparison rest a in
    let c = stops_right (is_infix Comparisons) on_sum rest b in
    let e = stops_right (is_infix Sums) on_product rest c in
    let f = stops_right (is_infix Products) on_path rest e in
    stops_right (is_mark (codes "(")) begins_step rest f

-- ---- they are read exactly

module _ (d : ℕ) (i : Inner) (P : Parts d i) where
  typed_name_exact : Exact d d on_type TypedName (s.typed_name d i)
  unfolding s.typed_name
  typed_name_exact =
      next_exact _ _ _ a_word _ _ d d d on_type (λ v. refl)
      (λ name. next_exact _ _ _ (a_mark (codes ":")) _ _ d d d on_type (λ v. refl)
      (λ colon. mapped_exact d d on_type (λ t. (name, t)) IsType _ P.type))

  initial_exact : Exact d d on_initial Initial (s.initial d i)
  unfolding s.initial
  initial_exact =
      choose_exact d d (is_mark (codes "=")) _ (Nothing None) _ _ on_initial on_expr nowhere
      (next_exact _ _ _ (a_mark (codes "=")) _ _ d d d on_expr (λ v. refl) (λ equals. mapped_exact d d on_expr (λ v. Some v) (IsLevel Ors) _ P.expr)) (done_exact d nowhere None)
      (λ o ts c. on_at (is_mark (codes "=")) _ ts c.1 c.3 refl)
      (λ o ts rest n h. empty_stops (is_mark (codes "=")) ts rest n.1 (stops_left (is_mark (codes "=")) on_expr rest h))
      (λ rest h. stops_right (is_mark (codes "=")) on_expr rest h) (λ rest h. never rest)

  initial_follows : (o : Option Expr) (y rest : Tokens) → Initial o y → Stops on_var rest → Stops on_type (y ++ rest)
  initial_follows o y rest (inl c) h = off_at on_type _ y c.1 rest c.3 refl
  initial_follows o y rest (inr n) h = empty_stops on_type y rest n.1 (stops_left on_type on_initial rest h)

  pub var_exact : Exact d d on_var Var (s.var_stmt d i)
  unfolding s.var_stmt
  var_exact =
      next_exact _ _ _ (a_keyword (codes "var")) _ _ d d d on_var (λ v. refl)
      (λ at. then_exact d d d on_type on_var TypedName (λ n. Mapped (λ v. stmt_at at (stmt.Var n.0 n.1 v)) Initial) _ _ typed_name_exact
      (λ n. mapped_exact d d on_var (λ v. stmt_at at (stmt.Var n.0 n.1 v)) Initial _ (exact_on d d on_initial on_var Initial _ initial_exact (λ rest h. stops_right on_type on_initial rest h)))
      (λ n x y rest m h. initial_follows m.0 y rest m.1 h))

  pub let_exact : Exact d d on_expr Let (s.let_stmt d i)
  unfolding s.let_stmt
  let_exact =
      next_exact _ _ _ (a_keyword (codes "let")) _ _ d d d on_expr (λ v. refl)
      (λ at. then_exact d d d on_type on_expr TypedName (λ n. After (mark (codes "=")) (λ equals. Mapped (λ v. stmt_at at (stmt.Let n.0 n.1 v)) (IsLevel Ors))) _ _ typed_name_exact
      (λ n. next_exact _ _ _ (a_mark (codes "=")) _ _ d d d on_expr (λ v. refl) (λ equals. mapped_exact d d on_expr (λ v. stmt_at at (stmt.Let n.0 n.1 v)) (IsLevel Ors) _ P.expr))
      (λ n x y rest c h. off_at on_type _ y c.1 rest c.3 refl))

  pub inout_exact : Exact d d begins_step Inout (s.inout_stmt d i)
  unfolding s.inout_stmt
  inout_exact =
      next_exact _ _ _ (a_keyword (codes "inout")) _ _ d d d begins_step (λ v. refl)
      (λ at. then_exact d d d on_type begins_step TypedName (λ n. After (mark (codes "=")) (λ equals. After (mark (codes "&")) (λ ref. Mapped (λ p. stmt_at at (stmt.Inout n.0 n.1 p)) IsPlace))) _ _ typed_name_exact
      (λ n. next_exact _ _ _ (a_mark (codes "=")) _ _ d d d begins_step (λ v. refl)
      (λ equals. next_exact _ _ _ (a_mark (codes "&")) _ _ d d d begins_step (λ v. refl) (λ ref. mapped_exact d d begins_step (λ p. stmt_at at (stmt.Inout n.0 n.1 p)) IsPlace _ P.place)))
      (λ n x y rest c h. off_at on_type _ y c.1 rest c.3 refl))

  pub assign_exact : Exact d d on_expr Assign (s.assign_stmt d i)
  unfolding s.assign_stmt
  assign_exact =
      next_exact _ _ _ (a_mark (codes "&")) _ _ d d d on_expr (λ v. refl)
      (λ at. then_exact d d d begins_step on_expr IsPlace (λ p. After (mark (codes "=")) (λ equals. Mapped (λ v. stmt_at at (stmt.Assign p v)) (IsLevel Ors))) _ _ P.place
      (λ p. next_exact _ _ _ (a_mark (codes "=")) _ _ d d d on_expr (λ v. refl) (λ equals. mapped_exact d d on_expr (λ v. stmt_at at (stmt.Assign p v)) (IsLevel Ors) _ P.expr))
      (λ p x y rest c h. off_at begins_step _ y c.1 rest c.3 refl))
