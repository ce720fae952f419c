-- A statement other than a `return` is read exactly.
use Rattle.std.proofs.Common.{◌≡◌, ℕ, Bool, true, false, ◌||◌, ◌∷◌, Some, ◌⊎◌, inl, inr, refl, subst}
use Rattle.std.specs.Prelude.{codes}
use Rattle.hv_tree.specs.declared.place.Place.{Place}
use Rattle.hv_tree.specs.declared.token.Token.{Token}
use Rattle.hv_tree.specs.declared.ast.Expr.{Expr}
use Rattle.hv_tree.specs.declared.ast.Call.{Call}
use Rattle.hv_tree.specs.declared.ast.Stmt.{Stmt}
use Rattle.hv_tree.specs.declared.ast.StmtKind.TheVariants as stmt
use Rattle.hv_tree.specs.Tokens.{Tokens, keyword, word, Ors}
use Rattle.hv_tree.specs.Grammar.{stmt_at, IsLevel, IsCall, is_call, IsStmt, var_stmt, var_with_stmt, let_stmt, inout_stmt, assign_stmt, if_stmt, while_stmt, return_stmt, print_stmt, task_stmt, await_stmt, call_stmt, block_stmt}
use Rattle.hv_tree.specs.Refusal.{is_mark}
use Rattle.hv_syn_grammar.specs.Parser.{Parser, choose}
use Rattle.hv_syn_grammar.specs.Lexemes.{is_word, is_keyword}
use Rattle.hv_syn_grammar.specs.Expressions.{Inner, begins_step}
use Rattle.hv_syn_grammar.specs.Statements as s
use Rattle.hv_syn_grammar.specs.Statements.{begins_stmt}
use Rattle.hv_syn_exact.proofs.Exact.{Exact, Stops, Begins, Either, choose_exact, exact_by, exact_on, nowhere, never}
use Rattle.hv_syn_exact.proofs.Inner.{on_type, on_expr}
use Rattle.hv_syn_exact.proofs.Shorts.{on_at, stops_left, stops_right, begins_wider, begins_stops, excludes, excludes_keyword, excludes_by}
use Rattle.hv_lemmas.proofs.Bools.{or_left, or_right}
use Rattle.hv_syn_exact.proofs.Lexemes.{a_word}
use Rattle.hv_syn_exact.proofs.Parts.{Parts}
use Rattle.hv_syn_exact.proofs.Bindings.{Var, Let, Inout, Assign, to_var, to_let, to_inout, to_assign, from_var, from_var_with, from_let, from_inout, from_assign, on_initial, on_var, expr_stops_steps, var_exact, let_exact, inout_exact, assign_exact}
use Rattle.hv_syn_exact.proofs.Actions.{While, Print, Task, Await, CallAlone, BlockAlone, to_while, to_print, to_task, to_await, to_call_alone, to_block_alone, from_while, from_print, from_task, from_await, from_call_alone, from_block_alone, while_exact, print_exact, task_exact, await_exact, call_alone_exact, block_alone_exact}
use Rattle.hv_syn_exact.proofs.Branches.{If, to_if, from_if, if_exact}

-- ---- the relations

abbrev IsOneOf : Type 1
IsOneOf = Stmt → Tokens → Type 0

abbrev Named : IsOneOf
Named = Either CallAlone BlockAlone

abbrev Plain : IsOneOf
Plain = Either Assign Named

abbrev Awaited : IsOneOf
Awaited = Either Await Plain

abbrev Tasked : IsOneOf
Tasked = Either Task Awaited

abbrev Printed : IsOneOf
Printed = Either Print Tasked

abbrev Looped : IsOneOf
Looped = Either While Printed

abbrev Action : IsOneOf
Action = Either If Looped

abbrev Bound : IsOneOf
Bound = Either Inout Action

abbrev Given : IsOneOf
Given = Either Let Bound

abbrev Other : IsOneOf
Other = Either Var Given

-- `return` with an expression
abbrev pub ValuedReturn : Stmt → Tokens → Type 0
ValuedReturn x ts = (at : Place) × (v : Expr) × (a : Tokens) × IsLevel Ors v a × (x ≡ stmt_at at (stmt.Return (Some v))) × (ts ≡ keyword (codes "return") at ∷ a)

-- a statement that doesn't begin with `return`
abbrev pub IsOther : Stmt → Tokens → Type 0
IsOther x ts = IsStmt x ts × Begins begins_stmt ts

-- ---- what they say

to_named : (x : Stmt) (ts : Tokens) → Named x ts → IsStmt x ts
to_named x ts (inl h) = to_call_alone x ts h
to_named x ts (inr h) = to_block_alone x ts h

to_plain : (x : Stmt) (ts : Tokens) → Plain x ts → IsStmt x ts
to_plain x ts (inl h) = to_assign x ts h
to_plain x ts (inr h) = to_named x ts h

to_tasked : (x : Stmt) (ts : Tokens) → Tasked x ts → IsStmt x ts
to_tasked x ts (inl h) = to_task x ts h
to_tasked x ts (inr (inl h)) = to_await x ts h
to_tasked x ts (inr (inr h)) = to_plain x ts h

to_action : (x : Stmt) (ts : Tokens) → Action x ts → IsStmt x ts
to_action x ts (inl h) = to_if x ts h
to_action x ts (inr (inl h)) = to_while x ts h
to_action x ts (inr (inr (inl h))) = to_print x ts h
to_action x ts (inr (inr (inr h))) = to_tasked x ts h

to_other : (x : Stmt) (ts : Tokens) → Other x ts → IsStmt x ts
to_other x ts (inl h) = to_var x ts h
to_other x ts (inr (inl h)) = to_let x ts h
to_other x ts (inr (inr (inl h))) = to_inout x ts h
to_other x ts (inr (inr (inr h))) = to_action x ts h

from_action : (x : Stmt) (ts : Tokens) → Action x ts → Other x ts ⊎ ValuedReturn x ts
from_action x ts h = inl (inr (inr (inr h)))

from_stmt : (x : Stmt) (ts : Tokens) → IsStmt x ts → Other x ts ⊎ ValuedReturn x ts
from_stmt x ts (var_stmt at colon name t a h e is) = inl (inl (from_var x ts at colon name t a h e is))
from_stmt x ts (var_with_stmt at colon equals name t v a b h k e is) = inl (inl (from_var_with x ts at colon equals name t v a b h k e is))
from_stmt x ts (let_stmt at colon equals name t v a b h k e is) = inl (inr (inl (from_let x ts at colon equals name t v a b h k e is)))
from_stmt x ts (inout_stmt at colon equals ref name t root steps a b h k e is) = inl (inr (inr (inl (from_inout x ts at colon equals ref name t root steps a b h k e is))))
from_stmt x ts (assign_stmt at equals root steps v a b h k e is) = from_action x ts (inr (inr (inr (inr (inr (inl (from_assign x ts at equals root steps v a b h k e is)))))))
from_stmt x ts (if_stmt at branches otherwise h e) = from_action x ts (inl (from_if x ts at branches otherwise h e))
from_stmt x ts (while_stmt at test body a b h k e is) = from_action x ts (inr (inl (from_while x ts at test body a b h k e is)))
from_stmt x ts (return_stmt at v a h e is) = inr (at, v, a, h, e, is)
from_stmt x ts (print_stmt at left right v a h e is) = from_action x ts (inr (inr (inl (from_print x ts at left right v a h e is))))
from_stmt x ts (task_stmt at equals spawn left right name result budget c first a b d h k l e is) =
    from_action x ts (inr (inr (inr (inl (from_task x ts at equals spawn left right name result budget c first a b d h k l e is)))))
from_stmt x ts (await_stmt at name e is) = from_action x ts (inr (inr (inr (inr (inl (from_await x ts at name e is))))))
from_stmt x ts (call_stmt at c h e) = from_action x ts (inr (inr (inr (inr (inr (inr (inl (from_call_alone x ts at c h e))))))))
from_stmt x ts (block_stmt left b a h is e) = from_action x ts (inr (inr (inr (inr (inr (inr (inr (from_block_alone x ts left b a h is e))))))))

-- ---- what they begin with

abbrev begins_named : Token → Bool
begins_named k = is_word k || is_mark (codes "{") k

abbrev begins_plain : Token → Bool
begins_plain k = is_mark (codes "&") k || begins_named k

abbrev begins_awaited : Token → Bool
begins_awaited k = is_keyword (codes "await") k || begins_plain k

abbrev begins_tasked : Token → Bool
begins_tasked k = is_keyword (codes "task") k || begins_awaited k

abbrev begins_printed : Token → Bool
begins_printed k = is_keyword (codes "print") k || begins_tasked k

abbrev begins_looped : Token → Bool
begins_looped k = is_keyword (codes "while") k || begins_printed k

abbrev begins_action : Token → Bool
begins_action k = is_keyword (codes "if") k || begins_looped k

abbrev begins_bound : Token → Bool
begins_bound k = is_keyword (codes "inout") k || begins_action k

abbrev begins_given : Token → Bool
begins_given k = is_keyword (codes "let") k || begins_bound k

call_begins : (at : Place) (c : Call) (ts : Tokens) → IsCall at c ts → Begins is_word ts
call_begins at c ts (is_call root steps paren right args a b h k e e' is) = on_at is_word (word root) ts _ is refl

either_begins : (test more : Token → Bool) (R S : IsOneOf) → ((x : Stmt) (ts : Tokens) → R x ts → Begins test ts) → ((x : Stmt) (ts : Tokens) → S x ts → Begins more ts) → (x : Stmt) (ts : Tokens) → Either R S x ts → Begins (λ k. test k || more k) ts
either_begins test more R S first other x ts (inl h) = begins_wider test (λ k. test k || more k) (λ k e. or_left (test k) (more k) e) ts (first x ts h)
either_begins test more R S first other x ts (inr h) = begins_wider more (λ k. test k || more k) (λ k e. or_right (test k) (more k) e) ts (other x ts h)

word_begins : (x : Stmt) (ts : Tokens) → CallAlone x ts → Begins is_word ts
word_begins x ts m = call_begins m.0.0 m.0.1 ts m.1

brace_begins : (x : Stmt) (ts : Tokens) → BlockAlone x ts → Begins (is_mark (codes "{")) ts
brace_begins x ts m = on_at (is_mark (codes "{")) _ ts m.1.1.0 m.1.1.1 refl

assign_begins : (x : Stmt) (ts : Tokens) → Assign x ts → Begins (is_mark (codes "&")) ts
assign_begins x ts c = on_at (is_mark (codes "&")) _ ts c.1 c.3 refl

await_begins : (x : Stmt) (ts : Tokens) → Await x ts → Begins (is_keyword (codes "await")) ts
await_begins x ts c = on_at (is_keyword (codes "await")) _ ts c.1 c.3 refl

task_begins : (x : Stmt) (ts : Tokens) → Task x ts → Begins (is_keyword (codes "task")) ts
task_begins x ts c = on_at (is_keyword (codes "task")) _ ts c.1 c.3 refl

print_begins : (x : Stmt) (ts : Tokens) → Print x ts → Begins (is_keyword (codes "print")) ts
print_begins x ts c = on_at (is_keyword (codes "print")) _ ts c.1 c.3 refl

while_begins : (x : Stmt) (ts : Tokens) → While x ts → Begins (is_keyword (codes "while")) ts
while_begins x ts c = on_at (is_keyword (codes "while")) _ ts c.1 c.3 refl

if_begins : (x : Stmt) (ts : Tokens) → If x ts → Begins (is_keyword (codes "if")) ts
if_begins x ts c = on_at (is_keyword (codes "if")) _ ts c.1 c.3 refl

inout_begins : (x : Stmt) (ts : Tokens) → Inout x ts → Begins (is_keyword (codes "inout")) ts
inout_begins x ts c = on_at (is_keyword (codes "inout")) _ ts c.1 c.3 refl

let_begins : (x : Stmt) (ts : Tokens) → Let x ts → Begins (is_keyword (codes "let")) ts
let_begins x ts c = on_at (is_keyword (codes "let")) _ ts c.1 c.3 refl

var_begins : (x : Stmt) (ts : Tokens) → Var x ts → Begins (is_keyword (codes "var")) ts
var_begins x ts c = on_at (is_keyword (codes "var")) _ ts c.1 c.3 refl

named_begins : (x : Stmt) (ts : Tokens) → Named x ts → Begins begins_named ts
named_begins = either_begins is_word (is_mark (codes "{")) CallAlone BlockAlone word_begins brace_begins

plain_begins : (x : Stmt) (ts : Tokens) → Plain x ts → Begins begins_plain ts
plain_begins = either_begins (is_mark (codes "&")) begins_named Assign Named assign_begins named_begins

awaited_begins : (x : Stmt) (ts : Tokens) → Awaited x ts → Begins begins_awaited ts
awaited_begins = either_begins (is_keyword (codes "await")) begins_plain Await Plain await_begins plain_begins

tasked_begins : (x : Stmt) (ts : Tokens) → Tasked x ts → Begins begins_tasked ts
tasked_begins = either_begins (is_keyword (codes "task")) begins_awaited Task Awaited task_begins awaited_begins

printed_begins : (x : Stmt) (ts : Tokens) → Printed x ts → Begins begins_printed ts
printed_begins = either_begins (is_keyword (codes "print")) begins_tasked Print Tasked print_begins tasked_begins

looped_begins : (x : Stmt) (ts : Tokens) → Looped x ts → Begins begins_looped ts
looped_begins = either_begins (is_keyword (codes "while")) begins_printed While Printed while_begins printed_begins

action_begins : (x : Stmt) (ts : Tokens) → Action x ts → Begins begins_action ts
action_begins = either_begins (is_keyword (codes "if")) begins_looped If Looped if_begins looped_begins

bound_begins : (x : Stmt) (ts : Tokens) → Bound x ts → Begins begins_bound ts
bound_begins = either_begins (is_keyword (codes "inout")) begins_action Inout Action inout_begins action_begins

given_begins : (x : Stmt) (ts : Tokens) → Given x ts → Begins begins_given ts
given_begins = either_begins (is_keyword (codes "let")) begins_bound Let Bound let_begins bound_begins

other_begins : (x : Stmt) (ts : Tokens) → Other x ts → Begins begins_stmt ts
other_begins x ts (inl c) = on_at begins_stmt _ ts c.1 c.3 refl
other_begins x ts (inr (inl c)) = on_at begins_stmt _ ts c.1 c.3 refl
other_begins x ts (inr (inr (inl c))) = on_at begins_stmt _ ts c.1 c.3 refl
other_begins x ts (inr (inr (inr (inl c)))) = on_at begins_stmt _ ts c.1 c.3 refl
other_begins x ts (inr (inr (inr (inr (inl c))))) = on_at begins_stmt _ ts c.1 c.3 refl
other_begins x ts (inr (inr (inr (inr (inr (inl c)))))) = on_at begins_stmt _ ts c.1 c.3 refl
other_begins x ts (inr (inr (inr (inr (inr (inr (inl c))))))) = on_at begins_stmt _ ts c.1 c.3 refl
other_begins x ts (inr (inr (inr (inr (inr (inr (inr (inl c)))))))) = on_at begins_stmt _ ts c.1 c.3 refl
other_begins x ts (inr (inr (inr (inr (inr (inr (inr (inr (inl c))))))))) = on_at begins_stmt _ ts c.1 c.3 refl
other_begins x ts (inr (inr (inr (inr (inr (inr (inr (inr (inr (inl m)))))))))) = at m.0.0 m.0.1 m.1
  where
    at : (p : Place) (c : Call) → IsCall p c ts → Begins begins_stmt ts
    at p c (is_call root steps paren right args a b h k e e' is) = on_at begins_stmt (word root) ts _ is refl
other_begins x ts (inr (inr (inr (inr (inr (inr (inr (inr (inr (inr m)))))))))) = on_at begins_stmt _ ts m.1.1.0 m.1.1.1 refl

-- ---- a statement other than a `return`, or one

pub split_stmt : (x : Stmt) (ts : Tokens) → IsStmt x ts → IsOther x ts ⊎ ValuedReturn x ts
split_stmt x ts h = at (from_stmt x ts h)
  where
    at : Other x ts ⊎ ValuedReturn x ts → IsOther x ts ⊎ ValuedReturn x ts
    at (inl o) = inl (h, other_begins x ts o)
    at (inr r) = inr r

from_other : (x : Stmt) (ts : Tokens) → IsOther x ts → Other x ts
from_other x ts h = at (from_stmt x ts h.0)
  where
    clash : (at : Place) → begins_stmt (keyword (codes "return") at) ≡ true → ⊥
    clash at e = cc

    at : Other x ts ⊎ ValuedReturn x ts → Other x ts
    at (inl o) = o
    at (inr r) = absurd (clash r.0 (subst (Begins begins_stmt) r.5 h.1))

-- ---- what goes on after it

abbrev pub on_stmt : Token → Bool
on_stmt k = is_keyword (codes "else") k || on_var k

pub stmt_stops_expr : (rest : Tokens) → Stops on_stmt rest → Stops on_expr rest
stmt_stops_expr rest h = stops_right (is_mark (codes "=")) on_expr rest (stops_right on_type on_initial rest (stops_right (is_keyword (codes "else")) on_var rest h))

-- ---- it is read exactly

pick : (d : ℕ) (test more : Token → Bool) (R S : IsOneOf) (p q : Parser Stmt) → Exact d d on_stmt R p → Exact d d on_stmt S q → ((x : Stmt) (ts : Tokens) → R x ts → Begins test ts) → ((x : Stmt) (ts : Tokens) → S x ts → Begins more ts) →
    ((k : Token) → more k ≡ true → test k ≡ false) → Exact d d on_stmt (Either R S) (choose test p q)
pick d test more R S p q P Q first other apart =
    choose_exact d d test R S p q on_stmt on_stmt on_stmt P Q first (λ x ts rest h stops. begins_stops more test apart ts rest (other x ts h)) (λ rest h. h) (λ rest h. h)

always : (d : ℕ) (R : IsOneOf) (p : Parser Stmt) → Exact d d nowhere R p → Exact d d on_stmt R p
always d R p P = exact_on d d nowhere on_stmt R p P (λ rest h. never rest)

module _ (d : ℕ) (i : Inner) (P : Parts d i) where
  plain_exact : Exact d d on_stmt Plain (s.plain_stmt d i)
  unfolding s.plain_stmt
  plain_exact =
      pick d (is_mark (codes "&")) begins_named Assign Named _ _ (exact_on d d on_expr on_stmt Assign _ (assign_exact d i P) stmt_stops_expr)
      (pick d is_word (is_mark (codes "{")) CallAlone BlockAlone _ _ (always d CallAlone _ (call_alone_exact d i P)) (always d BlockAlone _ (block_alone_exact d i P)) word_begins brace_begins (excludes_by _ is_word _ a_word (is_mark (codes "{")) (λ v. refl)))
      assign_begins named_begins (excludes (codes "&") begins_named (λ at. refl))

  action_exact : Exact d d on_stmt Action (s.action d i)
  unfolding s.action
  action_exact =
      pick d (is_keyword (codes "if")) begins_looped If Looped _ _ (exact_on d d (is_keyword (codes "else")) on_stmt If _ (if_exact d i P) (λ rest h. stops_left (is_keyword (codes "else")) on_var rest h))
      (pick d (is_keyword (codes "while")) begins_printed While Printed _ _ (always d While _ (while_exact d i P))
      (pick d (is_keyword (codes "print")) begins_tasked Print Tasked _ _ (always d Print _ (print_exact d i P))
      (pick d (is_keyword (codes "task")) begins_awaited Task Awaited _ _ (always d Task _ (task_exact d i P))
      (pick d (is_keyword (codes "await")) begins_plain Await Plain _ _ (always d Await _ (await_exact d i P)) plain_exact
      await_begins plain_begins (excludes_keyword (codes "await") begins_plain (λ at. refl)))
      task_begins awaited_begins (excludes_keyword (codes "task") begins_awaited (λ at. refl)))
      print_begins tasked_begins (excludes_keyword (codes "print") begins_tasked (λ at. refl)))
      while_begins printed_begins (excludes_keyword (codes "while") begins_printed (λ at. refl)))
      if_begins looped_begins (excludes_keyword (codes "if") begins_looped (λ at. refl))

  pub other_stmt_exact : Exact d d on_stmt IsOther (s.other_stmt d i)
  unfolding s.other_stmt
  other_stmt_exact =
      exact_by d d on_stmt Other IsOther _
      (pick d (is_keyword (codes "var")) begins_given Var Given _ _ (exact_on d d on_var on_stmt Var _ (var_exact d i P) (λ rest h. stops_right (is_keyword (codes "else")) on_var rest h))
      (pick d (is_keyword (codes "let")) begins_bound Let Bound _ _ (exact_on d d on_expr on_stmt Let _ (let_exact d i P) stmt_stops_expr)
      (pick d (is_keyword (codes "inout")) begins_action Inout Action _ _ (exact_on d d begins_step on_stmt Inout _ (inout_exact d i P) (λ rest h. expr_stops_steps rest (stmt_stops_expr rest h))) action_exact
      inout_begins action_begins (excludes_keyword (codes "inout") begins_action (λ at. refl)))
      let_begins bound_begins (excludes_keyword (codes "let") begins_bound (λ at. refl)))
      var_begins given_begins (excludes_keyword (codes "var") begins_given (λ at. refl)))
      (λ x ts h. (to_other x ts h, other_begins x ts h)) from_other
