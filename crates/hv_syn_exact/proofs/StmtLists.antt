-- Lists of statements are read exactly.
use Rattle.std.proofs.Common.{◌≡◌, ℕ, Bool, true, false, ◌||◌, List, [], ◌∷◌, ◌++◌, Some, None, ◌⊎◌, inl, inr, refl, sym, ◌∙◌, ap, subst, append_assoc, append-nil}
use Rattle.std.specs.Prelude.{codes, not, map}
use Rattle.hv_tree.specs.declared.place.Place.{Place}
use Rattle.hv_tree.specs.declared.token.Token.{Token}
use Rattle.hv_tree.specs.declared.ast.Expr.{Expr}
use Rattle.hv_tree.specs.declared.ast.Stmt.{Stmt}
use Rattle.hv_tree.specs.declared.ast.StmtKind.TheVariants as stmt
use Rattle.hv_tree.specs.Tokens.{Tokens, mark, keyword, Ors}
use Rattle.hv_tree.specs.Grammar.{stmt_at, IsLevel, return_stmt, IsOptionalSemicolon, AreStmts, none_stmts, more_stmts, bare_return_stmts, last_return_stmts}
use Rattle.hv_tree.specs.Refusal.{is_mark}
use Rattle.hv_syn_grammar.specs.Parser.{Parser, ◌>>=◌, done, choose}
use Rattle.hv_syn_grammar.specs.Lexemes.{is_word, is_keyword, after_mark}
use Rattle.hv_syn_grammar.specs.Expressions.{Inner, begins_expr}
use Rattle.hv_syn_grammar.specs.Statements as s
use Rattle.hv_syn_grammar.specs.Statements.{Item, return_item, not_closing, begins_stmt, begins_item}
use Rattle.hv_syn_exact.proofs.Exact.{Exact, Stops, Begins, Then, Either, Nothing, then_exact, done_exact, choose_exact, exact_by, exact_on, nowhere, never}
use Rattle.hv_syn_exact.proofs.Lexemes.{After, a_mark, a_keyword, a_word, next_exact}
use Rattle.hv_syn_exact.proofs.Until.{ExactAt, Until, until_exact}
use Rattle.hv_syn_exact.proofs.At.{at_each, choose_at, next_at}
use Rattle.hv_syn_exact.proofs.Inner.{on_expr}
use Rattle.hv_syn_exact.proofs.Shorts.{on_at, empty_stops, stops_left, stops_right, begins_more, begins_wider, front_stops, excludes, excludes_keyword, fails, fails_keyword, fails_by}
use Rattle.hv_lemmas.proofs.Bools.{or_right, neither}
use Rattle.hv_syn_exact.proofs.Mapped.{Mapped, mapped_exact}
use Rattle.hv_syn_exact.proofs.Semicolons.{IsSemicolon, on_semicolon, semicolon_exact, semicolon_stops}
use Rattle.hv_syn_exact.proofs.Others.{IsOther, ValuedReturn, split_stmt, on_stmt, stmt_stops_expr, other_stmt_exact}
use Rattle.hv_syn_exact.proofs.Parts.{Parts}

-- ---- the relations

abbrev Valued : Place → Item → Tokens → Type 0
Valued at = Then (IsLevel Ors) (λ v. Mapped (λ u. return_item at (Some v) false) IsSemicolon)

abbrev Bare : Place → Item → Tokens → Type 0
Bare at = After (mark (codes ";")) (λ semi. Nothing (return_item at None false))

abbrev Ended : Place → Item → Tokens → Type 0
Ended at = Either (Bare at) (Valued at)

abbrev AfterReturn : Place → Item → Tokens → Type 0
AfterReturn at = Either (Ended at) (Nothing (return_item at None true))

abbrev Returned : Item → Tokens → Type 0
Returned = After (keyword (codes "return")) AfterReturn

abbrev Plain : Item → Tokens → Type 0
Plain = Then IsOther (λ x. Mapped (λ u. (x, false)) IsSemicolon)

abbrev pub IsItem : Item → Tokens → Type 0
IsItem = Either Returned Plain

abbrev must_be_last : Item → Bool
must_be_last a = a.1

abbrev pub Items : List Item → Tokens → Type 0
Items = Until IsItem must_be_last

-- ---- what they say

abbrev stmts_of : List Item → List Stmt
stmts_of found = map (λ a. a.0) found

none_after : (l : List Item) (y : Tokens) → l ≡ [] → Items l y → y ≡ []
none_after [] y e m = m
none_after (x ∷ l) y e m = absurd (cc)

to_ended : (at : Place) (a : Item) (l : List Stmt) (x y z ts : Tokens) → Ended at a y → AreStmts l z → ts ≡ x ++ z → x ≡ keyword (codes "return") at ∷ y → AreStmts (a.0 ∷ l) ts
to_ended at a l x y z ts (inl c) h is e =
    bare_return_stmts at c.0 l z h (ap (λ a. a.0 ∷ l) c.2.0) (is ∙ ap (λ x. x ++ z) (e ∙ ap (λ y. keyword (codes "return") at ∷ y) (c.3 ∙ ap (λ y. mark (codes ";") c.0 ∷ y) c.2.1)))
to_ended at a l x y z ts (inr t) h is e =
    let m = t.4 in
    more_stmts (stmt_at at (stmt.Return (Some t.0))) l (keyword (codes "return") at ∷ t.1) t.2 z (return_stmt at t.0 t.1 t.3 refl refl) m.1 h (ap (λ a. a.0 ∷ l) m.2)
    (is ∙ ap (λ x. x ++ z) (e ∙ ap (λ y. keyword (codes "return") at ∷ y) t.5) ∙ ap (λ y. keyword (codes "return") at ∷ y) (append_assoc t.1 t.2 z))

to_one : (a : Item) (l : List Item) (x z ts : Tokens) → IsItem a x → Items l z → AreStmts (stmts_of l) z → (a.1 ≡ true → l ≡ []) → ts ≡ x ++ z → AreStmts (a.0 ∷ stmts_of l) ts
to_one a l x z ts (inl (at, y, inl e, is)) m h final is' = to_ended at a (stmts_of l) x y z ts e h is' is
to_one a l x z ts (inl (at, y, inr n, is)) m h final is' =
    let empty : l ≡ [] = final (ap (λ a. a.1) n.0) in
    last_return_stmts at (ap (λ a. a.0 ∷ stmts_of l) n.0 ∙ ap (λ l. stmt_at at (stmt.Return None) ∷ stmts_of l) empty)
    (is' ∙ ap (λ z. x ++ z) (none_after l z empty m) ∙ append-nil x ∙ is ∙ ap (λ y. keyword (codes "return") at ∷ y) n.1)
to_one a l x z ts (inr t) m h final is' =
    let q = t.4 in
    more_stmts t.0 (stmts_of l) t.1 t.2 z t.3.0 q.1 h (ap (λ a. a.0 ∷ stmts_of l) q.2) (is' ∙ ap (λ x. x ++ z) t.5 ∙ append_assoc t.1 t.2 z)

to_list : (l : List Item) (ts : Tokens) → Items l ts → AreStmts (stmts_of l) ts
to_list [] ts m = none_stmts refl m
to_list (a ∷ l) ts m = to_one a l m.0 m.1 ts m.2 m.3 (to_list l m.1 m.3) m.4 m.5

to_stmts : (l : List Stmt) (ts : Tokens) → Mapped stmts_of Items l ts → AreStmts l ts
to_stmts l ts m = subst (λ l. AreStmts l ts) (sym m.2) (to_list m.0 ts m.1)

from_one : (x : Stmt) (l rest : List Stmt) (ts a m b : Tokens) → IsOther x a ⊎ ValuedReturn x a → IsOptionalSemicolon m → Mapped stmts_of Items rest b → l ≡ x ∷ rest → ts ≡ a ++ (m ++ b) → Mapped stmts_of Items l ts
from_one x l rest ts a m b (inl o) h r e is =
    ((x, false) ∷ r.0, (a ++ m, b, inr (x, a, m, o, (tt, h, refl), refl), r.1, (λ q. absurd (cc)), is ∙ sym (append_assoc a m b)), e ∙ ap (λ l. x ∷ l) r.2)
from_one x l rest ts a m b (inr (at, v, y, h', e', is')) h r e is =
    let item : Item = return_item at (Some v) false in (
      item ∷ r.0,
      (
        keyword (codes "return") at ∷ (y ++ m),
        b,
        inl (at, y ++ m, inl (inr (v, y, m, h', (tt, h, refl), refl)), refl),
        r.1,
        (λ q. absurd (cc)),
        is ∙ ap (λ a. a ++ (m ++ b)) is' ∙ ap (λ z. keyword (codes "return") at ∷ z) (sym (append_assoc y m b)),
      ),
      e ∙ ap (λ x. x ∷ rest) e' ∙ ap (λ l. item.0 ∷ l) r.2,
    )

from_stmts : (l : List Stmt) (ts : Tokens) → AreStmts l ts → Mapped stmts_of Items l ts
from_stmts l ts (none_stmts e is) = ([], is, e)
from_stmts l ts (more_stmts x rest a m b h k r e is) = from_one x l rest ts a m b (split_stmt x a h) k (from_stmts rest b r) e is
from_stmts l ts (bare_return_stmts at semi rest b r e is) =
    let f = from_stmts rest b r in
    let item : Item = return_item at None false in (
      item ∷ f.0,
      (keyword (codes "return") at ∷ mark (codes ";") semi ∷ [], b, inl (at, mark (codes ";") semi ∷ [], inl (inl (semi, [], (refl, refl), refl)), refl), f.1, (λ q. absurd (cc)), is),
      e ∙ ap (λ l. item.0 ∷ l) f.2,
    )
from_stmts l ts (last_return_stmts at e is) =
    (return_item at None true ∷ [], (keyword (codes "return") at ∷ [], [], inl (at, [], inr (refl, refl), refl), refl, (λ q. refl), is), e)

-- ---- what goes on after an item

abbrev on_value : Token → Bool
on_value k = on_semicolon k || on_expr k

-- what may follow an item, a semicolon or more of it
abbrev on_more : Token → Bool
on_more k = on_semicolon k || on_stmt k

abbrev on_last : Bool → Token → Bool
on_last true k = not_closing k
on_last false k = on_more k

abbrev on_item : Item → Token → Bool
on_item a = on_last a.1

both_stop : (on on' : Token → Bool) (rest : Tokens) → Stops on rest → Stops on' rest → Stops (λ k. on k || on' k) rest
both_stop on on' [] x y = tt
both_stop on on' (k ∷ rest) x y = neither (on k) (on' k) x y

more_stops_value : (rest : Tokens) → Stops on_more rest → Stops on_value rest
more_stops_value rest h = both_stop on_semicolon on_expr rest (stops_left on_semicolon on_stmt rest h) (stmt_stops_expr rest (stops_right on_semicolon on_stmt rest h))

item_stops : (a : Item) (rest : Tokens) → a.1 ≡ false → Stops (on_item a) rest → Stops on_more rest
item_stops a rest e h = at a.1 e h
  where
    at : (b : Bool) → b ≡ false → Stops (on_last b) rest → Stops on_more rest
    at true e h = absurd (cc)
    at false e h = h

closing_at : (test : Token → Bool) → ((at : Place) → test (mark (codes "}") at) ≡ false) → (rest : Tokens) → Stops not_closing rest → Stops test rest
closing_at test off [] h = tt
closing_at test off (k ∷ rest) h = fails (codes "}") test off k (not_false (is_mark (codes "}") k) h)
  where
    not_false : (b : Bool) → not b ≡ false → b ≡ true
    not_false true e = refl
    not_false false e = absurd (cc)

closing_stops : (a : Item) (rest : Tokens) → Stops not_closing rest → Stops (on_item a) rest
closing_stops a rest h = at a.1
  where
    at : (b : Bool) → Stops (on_last b) rest
    at true = h
    at false = closing_at on_more (λ p. refl) rest h

-- ---- no item goes on with a token that begins one

either_off : (a b c : Bool) → (a ≡ true → c ≡ false) → (b ≡ true → c ≡ false) → (a || b) ≡ true → c ≡ false
either_off true b c x y e = x refl
either_off false b c x y e = y e

keyword_off : (s : List ℕ) (k : Token) → ((at : Place) → on_more (keyword s at) ≡ false) → is_keyword s k ≡ true → on_more k ≡ false
keyword_off s k off e = fails_keyword s on_more off k e

begins_off : (k : Token) → begins_item k ≡ true → on_more k ≡ false
begins_off k e =
    either_off _ _ (on_more k) (keyword_off (codes "return") k (λ at. refl))
    (either_off _ _ (on_more k) (keyword_off (codes "var") k (λ at. refl))
    (either_off _ _ (on_more k) (keyword_off (codes "let") k (λ at. refl))
    (either_off _ _ (on_more k) (keyword_off (codes "inout") k (λ at. refl))
    (either_off _ _ (on_more k) (fails (codes "&") on_more (λ at. refl) k)
    (either_off _ _ (on_more k) (keyword_off (codes "if") k (λ at. refl))
    (either_off _ _ (on_more k) (keyword_off (codes "while") k (λ at. refl))
    (either_off _ _ (on_more k) (keyword_off (codes "print") k (λ at. refl))
    (either_off _ _ (on_more k) (keyword_off (codes "task") k (λ at. refl))
    (either_off _ _ (on_more k) (keyword_off (codes "await") k (λ at. refl))
    (either_off _ _ (on_more k) (fails_by _ is_word _ a_word on_more (λ v. refl) k) (fails (codes "{") on_more (λ at. refl) k))))))))))) e

items_apart : (a : Item) (k : Token) → a.1 ≡ false → begins_item k ≡ true → on_item a k ≡ false
items_apart a k e h = at a.1 e
  where
    at : (b : Bool) → b ≡ false → on_last b k ≡ false
    at true e = absurd (cc)
    at false e = begins_off k h

-- ---- they are read exactly

item_begins : (a : Item) (ts : Tokens) → IsItem a ts → Begins begins_item ts
item_begins a ts (inl c) = on_at begins_item _ ts c.1 c.3 refl
item_begins a ts (inr t) = begins_wider begins_stmt begins_item (λ k e. or_right (is_keyword (codes "return") k) (begins_stmt k) e) ts (begins_more begins_stmt t.1 t.2 ts t.3.1 t.5)

module _ (d : ℕ) (i : Inner) (P : Parts d i) where
  valued_exact : (at : Place) → Exact d d on_value (Valued at) (s.valued_return d i at)
  unfolding s.valued_return
  valued_exact at =
      then_exact d d d on_expr on_value (IsLevel Ors) (λ v. Mapped (λ u. return_item at (Some v) false) IsSemicolon) _ _ P.expr
      (λ v. exact_on d d on_semicolon on_value _ _ (mapped_exact d d on_semicolon (λ u. return_item at (Some v) false) IsSemicolon _ (semicolon_exact d)) (λ rest h. stops_left on_semicolon on_expr rest h))
      (λ v b y rest m h. semicolon_stops on_expr (λ at. refl) y rest m.1 h)

  plain_exact : Exact d d on_more Plain (s.other_stmt d i >>= (λ x. s.semicolon >>= (λ u. done (x, false))))
  plain_exact =
      then_exact d d d on_stmt on_more IsOther (λ x. Mapped (λ u. (x, false)) IsSemicolon) _ _ (other_stmt_exact d i P)
      (λ x. exact_on d d on_semicolon on_more _ _ (mapped_exact d d on_semicolon (λ u. (x, false)) IsSemicolon _ (semicolon_exact d)) (λ rest h. stops_left on_semicolon on_stmt rest h))
      (λ x b y rest m h. semicolon_stops on_stmt (λ at. refl) y rest m.1 h)

  expr_stops : (test : Token → Bool) → ((k : Token) → begins_expr k ≡ true → test k ≡ false) → (v : Expr) (u w ts rest : Tokens) → IsLevel Ors v u → ts ≡ u ++ w → Stops test (ts ++ rest)
  expr_stops test off v u w ts rest h e = front_stops begins_expr test off u w ts rest (P.begins Ors v u h) e

  abbrev some_return : Place → Parser Item
  some_return at = choose (is_mark (codes ";")) (after_mark (codes ";") (λ semi. done (return_item at None false))) (s.valued_return d i at)

  ended_exact : (at : Place) → Exact d d on_value (Ended at) (some_return at)
  ended_exact at =
      choose_exact d d on_semicolon (Bare at) (Valued at) _ _ on_value nowhere on_value
      (next_exact _ _ _ (a_mark (codes ";")) _ _ d d d nowhere (λ v. refl) (λ semi. done_exact d nowhere (return_item at None false))) (valued_exact at)
      (λ x ts c. on_at on_semicolon _ ts c.1 c.3 refl)
      (λ x ts rest t h. expr_stops on_semicolon (excludes (codes ";") begins_expr (λ at. refl)) t.0 t.1 t.2 ts rest t.3 t.5)
      (λ rest h. never rest) (λ rest h. h)

  after_return_exact : (at : Place) → ExactAt d d on_item (AfterReturn at) (s.after_return d i at)
  unfolding s.after_return
  after_return_exact at =
      choose_at d d not_closing (Ended at) (Nothing (return_item at None true)) (some_return at) _ on_item (λ a. on_value) (λ a. nowhere)
      (at_each d d on_value _ _ (ended_exact at)) (at_each d d nowhere _ _ (done_exact d nowhere (return_item at None true)))
      first
      (λ a ts rest n h. empty_stops not_closing ts rest n.1 (subst (λ a. Stops (on_item a) rest) n.0 h))
      (λ a ts r rest h. more_stops_value rest (item_stops a rest (not_last a ts r) h))
      (λ a ts n rest h. never rest)
    where
      opens : (k : Token) → begins_expr k ≡ true → not_closing k ≡ true
      opens k e = ap not (excludes (codes "}") begins_expr (λ at. refl) k e)

      begun : (u v ts rest : Tokens) → Begins not_closing u → ts ≡ u ++ v → Begins not_closing (ts ++ rest)
      begun u v ts rest b e = begins_more not_closing ts rest (ts ++ rest) (begins_more not_closing u v ts b e) refl

      first : (a : Item) (ts rest : Tokens) → Ended at a ts → Stops (on_item a) rest → Begins not_closing (ts ++ rest)
      first a ts rest (inl c) h = begun (mark (codes ";") c.0 ∷ []) c.1 ts rest refl c.3
      first a ts rest (inr t) h = begun t.1 t.2 ts rest (begins_wider begins_expr not_closing opens t.1 (P.begins Ors t.0 t.1 t.3)) t.5

      not_last : (a : Item) (ts : Tokens) → Ended at a ts → a.1 ≡ false
      not_last a ts (inl c) = ap (λ a. a.1) c.2.0
      not_last a ts (inr t) = ap (λ a. a.1) t.4.2

  item_exact : ExactAt d d on_item IsItem (s.item d i)
  unfolding s.item
  item_exact =
      choose_at d d (is_keyword (codes "return")) Returned Plain _ _ on_item on_item (λ a. on_more)
      (next_at _ _ _ (a_keyword (codes "return")) AfterReturn _ d d d on_item (λ v. refl) after_return_exact) (at_each d d on_more _ _ plain_exact)
      (λ a ts rest c h. begins_more (is_keyword (codes "return")) ts rest (ts ++ rest) (on_at (is_keyword (codes "return")) _ ts c.1 c.3 refl) refl)
      (λ a ts rest t h. front_stops begins_stmt (is_keyword (codes "return")) (excludes_keyword (codes "return") begins_stmt (λ at. refl)) t.1 t.2 ts rest t.3.1 t.5)
      (λ a ts c rest h. h)
      (λ a ts t rest h. item_stops a rest (ap (λ a. a.1) t.4.2) h)

  pub items_exact : Exact d d not_closing Items (s.items d i)
  unfolding s.items
  items_exact = until_exact d begins_item must_be_last on_item IsItem (s.item d i) item_exact item_begins not_closing (closing_at begins_item (λ p. refl)) closing_stops items_apart

  pub stmts_exact : Exact d d not_closing AreStmts (s.stmts d i)
  unfolding s.stmts
  stmts_exact = exact_by d d not_closing (Mapped stmts_of Items) AreStmts _ (mapped_exact d d not_closing stmts_of Items _ items_exact) to_stmts from_stmts
