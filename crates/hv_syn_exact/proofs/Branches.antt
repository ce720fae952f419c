-- An `if` with its other branches is read exactly.
use Rattle.std.proofs.Common.{◌≡◌, ℕ, true, false, List, [], ◌∷◌, ◌++◌, Option, Some, inl, inr, refl, sym, ◌∙◌, ap, subst, append-nil, append_assoc}
use Rattle.std.specs.Prelude.{codes}
use Rattle.hv_tree.specs.declared.place.Place.{Place}
use Rattle.hv_tree.specs.declared.ast.Expr.{Expr}
use Rattle.hv_tree.specs.declared.ast.Block.{Block}
use Rattle.hv_tree.specs.declared.ast.Branch.{Branch, roll-Branch}
use Rattle.hv_tree.specs.declared.ast.Stmt.{Stmt}
use Rattle.hv_tree.specs.declared.ast.StmtKind.TheVariants as stmt
use Rattle.hv_tree.specs.Tokens.{Tokens, keyword, Ors}
use Rattle.hv_tree.specs.Grammar.{stmt_at, IsLevel, IsBlock, IsStmt, if_stmt, AreBranches, last_branch, last_else_branch, more_branch}
use Rattle.hv_syn_grammar.specs.declared.parts.ElsePart.{ElsePart}
use Rattle.hv_syn_grammar.specs.declared.parts.ElsePart.TheVariants as part
use Rattle.hv_syn_grammar.specs.Lexemes.{is_keyword}
use Rattle.hv_syn_grammar.specs.Expressions.{Inner}
use Rattle.hv_syn_grammar.specs.Statements as s
use Rattle.hv_syn_grammar.specs.Statements.{is_last, branches_of, otherwise_of}
use Rattle.hv_syn_exact.proofs.Exact.{Exact, Stops, Then, Either, then_exact, choose_exact, nowhere, never}
use Rattle.hv_syn_exact.proofs.Lexemes.{After, a_keyword, next_exact}
use Rattle.hv_syn_exact.proofs.Until.{Until, until_exact}
use Rattle.hv_syn_exact.proofs.At.{at_each}
use Rattle.hv_syn_exact.proofs.Inner.{on_expr}
use Rattle.hv_syn_exact.proofs.Shorts.{on_at}
use Rattle.hv_syn_exact.proofs.Mapped.{Mapped, mapped_exact}
use Rattle.hv_syn_exact.proofs.Actions.{block_stops}
use Rattle.hv_syn_exact.proofs.Parts.{Parts}

-- ---- the relations

abbrev branch_of : Expr → Block → Branch
branch_of test body = roll-Branch (record { test = test; body = body })

abbrev OneBranch : Branch → Tokens → Type 0
OneBranch = After (keyword (codes "if")) (λ at. Then (IsLevel Ors) (λ test. Mapped (λ body. branch_of test body) IsBlock))

abbrev OnePart : ElsePart → Tokens → Type 0
OnePart = After (keyword (codes "else")) (λ else. Either (Mapped (λ b. part.Test b) OneBranch) (Mapped (λ b. part.Last b) IsBlock))

abbrev ElseParts : List Branch × Option Block → Tokens → Type 0
ElseParts = Mapped (λ parts. (branches_of parts, otherwise_of parts)) (Until OnePart is_last)

abbrev pub If : Stmt → Tokens → Type 0
If = After (keyword (codes "if")) (λ at. Then (IsLevel Ors) (λ test. Then IsBlock (λ body. Mapped (λ more. stmt_at at (stmt.If (branch_of test body ∷ more.0) more.1)) ElseParts)))

-- ---- what they say

test_same : (b c : Branch) → part.Test b ≡ part.Test c → b ≡ c
test_same b c e = cc

last_same : (b c : Block) → part.Last b ≡ part.Last c → b ≡ c
last_same b c e = cc

none_after : (parts : List ElsePart) (y : Tokens) → parts ≡ [] → Until OnePart is_last parts y → y ≡ []
none_after [] y e m = m
none_after (x ∷ parts) y e m = absurd (cc)

to_branches : (parts : List ElsePart) (at : Place) (test : Expr) (body : Block) (a b c ts : Tokens) → IsLevel Ors test a → IsBlock body b → Until OnePart is_last parts c → ts ≡ keyword (codes "if") at ∷ (a ++ (b ++ c)) →
    AreBranches at (branch_of test body ∷ branches_of parts) (otherwise_of parts) ts
to_branches [] at test body a b c ts h k m is = last_branch test body a b h k refl refl (is ∙ ap (λ c. keyword (codes "if") at ∷ (a ++ (b ++ c))) m ∙ ap (λ z. keyword (codes "if") at ∷ (a ++ z)) (append-nil b))
to_branches (part.Test next ∷ parts) at test body a b c ts h k m is = with_test (λ at test body a b h k. to_branches parts at test body a b m.1 (keyword (codes "if") at ∷ (a ++ (b ++ m.1))) h k m.3 refl) m.2.2
  where
    with_test : ((at : Place) (test : Expr) (body : Block) (a b : Tokens) → IsLevel Ors test a → IsBlock body b → AreBranches at (branch_of test body ∷ branches_of parts) (otherwise_of parts) (keyword (codes "if") at ∷ (a ++ (b ++ m.1)))) →
        Either (Mapped (λ b. part.Test b) OneBranch) (Mapped (λ b. part.Last b) IsBlock) (part.Test next) m.2.1 → AreBranches at (branch_of test body ∷ next ∷ branches_of parts) (otherwise_of parts) ts
    with_test onward (inl q) =
        let o = q.1 in
        let t = o.2 in
        let n = t.4 in
        let e : next ≡ branch_of t.0 n.0 = test_same next q.0 q.2 ∙ n.2 in
        let is_next : m.2.1 ≡ keyword (codes "if") o.0 ∷ (t.1 ++ t.2) = o.3 ∙ ap (λ y. keyword (codes "if") o.0 ∷ y) t.5 in
        more_branch test body m.2.0 o.0 (branch_of t.0 n.0 ∷ branches_of parts) a b (keyword (codes "if") o.0 ∷ (t.1 ++ (t.2 ++ m.1))) h k (onward o.0 t.0 n.0 t.1 t.2 t.3 n.1)
        (ap (λ z. branch_of test body ∷ z ∷ branches_of parts) e)
        (is ∙ ap (λ c. keyword (codes "if") at ∷ (a ++ (b ++ c))) (m.5 ∙ ap (λ x. x ++ m.1) (m.2.3 ∙ ap (λ y. keyword (codes "else") m.2.0 ∷ y) is_next) ∙ ap (λ y. keyword (codes "else") m.2.0 ∷ keyword (codes "if") o.0 ∷ y) (append_assoc t.1 t.2 m.1)))
    with_test onward (inr q) = absurd (clash q.0 q.2)
      where
        clash : (final : Block) → part.Test next ≡ part.Last final → ⊥
        clash final e = cc
to_branches (part.Last final ∷ parts) at test body a b c ts h k m is = with_last m.2.2
  where
    with_last : Either (Mapped (λ b. part.Test b) OneBranch) (Mapped (λ b. part.Last b) IsBlock) (part.Last final) m.2.1 → AreBranches at (branch_of test body ∷ []) (Some final) ts
    with_last (inl q) = absurd (clash q.0 q.2)
      where
        clash : (next : Branch) → part.Last final ≡ part.Test next → ⊥
        clash next e = cc
    with_last (inr q) =
        last_else_branch test body final m.2.0 a b m.2.1 h k (subst (λ f. IsBlock f m.2.1) (sym (last_same final q.0 q.2)) q.1) refl refl
        (is ∙ ap (λ c. keyword (codes "if") at ∷ (a ++ (b ++ c))) (m.5 ∙ ap (λ y. m.0 ++ y) (none_after parts m.1 (m.4 refl) m.3) ∙ append-nil m.0 ∙ m.2.3))

-- the branches as they are read
record Read (at : Place) (branches : List Branch) (otherwise : Option Block) (ts : Tokens) : Type 0 where
  test : Expr
  body : Block
  a : Tokens
  b : Tokens
  parts : List ElsePart
  c : Tokens
  tested : IsLevel Ors test a
  block : IsBlock body b
  more : Until OnePart is_last parts c
  first : branches ≡ branch_of test body ∷ branches_of parts
  last : otherwise ≡ otherwise_of parts
  is : ts ≡ keyword (codes "if") at ∷ (a ++ (b ++ c))

from_branches : (at : Place) (branches : List Branch) (otherwise : Option Block) (ts : Tokens) → AreBranches at branches otherwise ts → Read at branches otherwise ts
from_branches at branches otherwise ts (last_branch test body a b h k e e' is) = record {
  test = test;
  body = body;
  a = a;
  b = b;
  parts = [];
  c = [];
  tested = h;
  block = k;
  more = refl;
  first = e;
  last = e';
  is = is ∙ ap (λ z. keyword (codes "if") at ∷ (a ++ z)) (sym (append-nil b));
}
from_branches at branches otherwise ts (last_else_branch test body final else a b c h k l e e' is) = record {
  test = test;
  body = body;
  a = a;
  b = b;
  parts = part.Last final ∷ [];
  c = keyword (codes "else") else ∷ c;
  tested = h;
  block = k;
  more = (keyword (codes "else") else ∷ c, [], (else, c, inr (final, l, refl), refl), refl, (λ q. refl), sym (append-nil (keyword (codes "else") else ∷ c)));
  first = e;
  last = e';
  is = is;
}
from_branches at branches otherwise ts (more_branch test body else next rest a b c h k l e is) =
    let r = from_branches next rest otherwise c l in
    record {
      test = test;
      body = body;
      a = a;
      b = b;
      parts = part.Test (branch_of r.test r.body) ∷ r.parts;
      c = keyword (codes "else") else ∷ c;
      tested = h;
      block = k;
      more = (
        keyword (codes "else") else ∷ keyword (codes "if") next ∷ (r.a ++ r.b),
        r.c,
        (else, keyword (codes "if") next ∷ (r.a ++ r.b), inl (branch_of r.test r.body, (next, r.a ++ r.b, (r.test, r.a, r.b, r.tested, (r.body, r.block, refl), refl), refl), refl), refl),
        r.more,
        (λ q. absurd (clash q)),
        ap (λ z. keyword (codes "else") else ∷ z) (r.is ∙ ap (λ z. keyword (codes "if") next ∷ z) (sym (append_assoc r.a r.b r.c))),
      );
      first = e ∙ ap (λ z. branch_of test body ∷ z) r.first;
      last = r.last;
      is = is;
    }
  where
    clash : false ≡ true → ⊥
    clash q = cc

pub to_if : (x : Stmt) (ts : Tokens) → If x ts → IsStmt x ts
to_if x ts c =
    let t = c.2 in
    let u = t.4 in
    let m = u.4 in
    let p = m.1 in
    if_stmt c.0 (branch_of t.0 u.0 ∷ m.0.0) m.0.1
    (subst (λ o. AreBranches c.0 (branch_of t.0 u.0 ∷ o.0) o.1 ts) (sym p.2) (to_branches p.0 c.0 t.0 u.0 t.1 u.1 u.2 ts t.3 u.3 p.1 (c.3 ∙ ap (λ y. keyword (codes "if") c.0 ∷ y) (t.5 ∙ ap (λ z. t.1 ++ z) u.5))))
    m.2

pub from_if : (x : Stmt) (ts : Tokens) (at : Place) (branches : List Branch) (otherwise : Option Block) → AreBranches at branches otherwise ts → x ≡ stmt_at at (stmt.If branches otherwise) → If x ts
from_if x ts at branches otherwise h e =
    let r = from_branches at branches otherwise ts h in (
      at,
      r.a ++ (r.b ++ r.c),
      (
        r.test,
        r.a,
        r.b ++ r.c,
        r.tested,
        (r.body, r.b, r.c, r.block, ((branches_of r.parts, otherwise_of r.parts), (r.parts, r.more, refl), e ∙ ap (λ z. stmt_at at (stmt.If z otherwise)) r.first ∙ ap (λ z. stmt_at at (stmt.If (branch_of r.test r.body ∷ branches_of r.parts) z)) r.last), refl),
        refl,
      ),
      r.is,
    )

-- ---- they are read exactly

module _ (d : ℕ) (i : Inner) (P : Parts d i) where
  branch_exact : Exact d d nowhere OneBranch (s.branch d i)
  unfolding s.branch
  branch_exact =
      next_exact _ _ _ (a_keyword (codes "if")) _ _ d d d nowhere (λ v. refl)
      (λ at. then_exact d d d on_expr nowhere (IsLevel Ors) (λ test. Mapped (λ body. branch_of test body) IsBlock) _ _ P.expr
      (λ test. mapped_exact d d nowhere (λ body. branch_of test body) IsBlock _ P.block)
      (λ test x y rest m h. block_stops on_expr (λ at. refl) m.0 y rest m.1))

  part_exact : Exact d d nowhere OnePart (s.else_part d i)
  unfolding s.else_part
  part_exact =
      next_exact _ _ _ (a_keyword (codes "else")) _ _ d d d nowhere (λ v. refl)
      (λ else. choose_exact d d (is_keyword (codes "if")) (Mapped (λ b. part.Test b) OneBranch) (Mapped (λ b. part.Last b) IsBlock) _ _ nowhere nowhere nowhere
      (mapped_exact d d nowhere (λ b. part.Test b) OneBranch _ branch_exact) (mapped_exact d d nowhere (λ b. part.Last b) IsBlock _ P.block)
      (λ x ts m. on_at (is_keyword (codes "if")) _ ts m.1.1 m.1.3 refl)
      (λ x ts rest m h. block_stops (is_keyword (codes "if")) (λ at. refl) m.0 ts rest m.1)
      (λ rest h. never rest) (λ rest h. never rest))

  parts_exact : Exact d d (is_keyword (codes "else")) ElseParts (s.else_parts d i)
  unfolding s.else_parts
  parts_exact =
      mapped_exact d d (is_keyword (codes "else")) (λ parts. (branches_of parts, otherwise_of parts)) (Until OnePart is_last) _
      (until_exact d (is_keyword (codes "else")) is_last (λ a. nowhere) OnePart (s.else_part d i) (at_each d d nowhere OnePart _ part_exact)
      (λ a x c. on_at (is_keyword (codes "else")) _ x c.1 c.3 refl)
      (is_keyword (codes "else")) (λ rest h. h) (λ a rest h. never rest) (λ a k e e'. refl))

  pub if_exact : Exact d d (is_keyword (codes "else")) If (s.if_stmt d i)
  unfolding s.if_stmt
  if_exact =
      next_exact _ _ _ (a_keyword (codes "if")) _ _ d d d (is_keyword (codes "else")) (λ v. refl)
      (λ at. then_exact d d d on_expr (is_keyword (codes "else")) (IsLevel Ors) (λ test. Then IsBlock (λ body. Mapped (λ more. stmt_at at (stmt.If (branch_of test body ∷ more.0) more.1)) ElseParts)) _ _ P.expr
      (λ test. then_exact d d d nowhere (is_keyword (codes "else")) IsBlock (λ body. Mapped (λ more. stmt_at at (stmt.If (branch_of test body ∷ more.0) more.1)) ElseParts) _ _ P.block
      (λ body. mapped_exact d d (is_keyword (codes "else")) (λ more. stmt_at at (stmt.If (branch_of test body ∷ more.0) more.1)) ElseParts _ parts_exact)
      (λ body x y rest m h. never (y ++ rest)))
      (λ test x y rest t h. front_of t.0 t.1 t.2 y rest t.5 t.3))
    where
      front_of : (body : Block) (u v y rest : Tokens) → y ≡ u ++ v → IsBlock body u → Stops on_expr (y ++ rest)
      front_of body u v y rest e h = subst (λ z. Stops on_expr (z ++ rest)) (sym e) (subst (Stops on_expr) (sym (append_assoc u v rest)) (block_stops on_expr (λ at. refl) body u (v ++ rest) h))
