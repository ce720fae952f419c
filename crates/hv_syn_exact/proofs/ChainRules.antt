-- Operands with operators between, as many as there are or one at most.
use Rattle.std.proofs.Common.{◌≡◌, ℕ, Bool, true, false, ◌||◌, List, [], ◌∷◌, ◌++◌, inl, inr, refl, sym, ◌∙◌, ap, subst, append-nil}
use Rattle.std.specs.Prelude.{◌≢◌}
use Rattle.hv_tree.specs.declared.place.Place.{Place}
use Rattle.hv_tree.specs.declared.token.Token.{Token}
use Rattle.hv_tree.specs.declared.ast.Expr.{Expr}
use Rattle.hv_tree.specs.declared.ast.ExprKind.TheVariants as variant
use Rattle.hv_tree.specs.Tokens.{Tokens, mark, Level, Comparisons}
use Rattle.hv_tree.specs.Grammar.{expr_at, place_of, IsOperand, IsLevel, AreLinks, alone_level, chain_level, last_link, more_link}
use Rattle.hv_syn_grammar.specs.Parser.{Parser}
use Rattle.hv_syn_grammar.specs.Levels.{infixes, is_infix}
use Rattle.hv_syn_grammar.specs.Expressions.{Link, link, links, chained, repeated, at_most_one}
use Rattle.hv_syn_exact.proofs.Exact.{Exact, Stops, Begins, Then, Either, Nothing, Many, then_exact, done_exact, choose_exact, many_exact, exact_by, nowhere, never}
use Rattle.hv_syn_exact.proofs.Shorts.{empty_stops, begins_more, begins_stops, stops_left, stops_right}
use Rattle.hv_syn_exact.proofs.Between.{Mapped, mapped_exact, mapped_parts, mapped_by}
use Rattle.hv_syn_exact.proofs.InfixSigns.{AllEntries, infix_fails, LinkBy, link_exact, link_begins, link_parts, linked_by}

abbrev pub Repeated : Level → (Expr → Tokens → Type 0) → Expr → Tokens → Type 0
Repeated l P = Then P (λ first. Mapped (Many (LinkBy l P)) (chained first))

abbrev pub chained_one : Expr → Link → Expr
chained_one first x = chained first (x ∷ [])

abbrev pub OneOrNone : Level → (Expr → Tokens → Type 0) → Expr → Expr → Tokens → Type 0
OneOrNone l P first = Either (Mapped (LinkBy l P) (chained_one first)) (Nothing first)

abbrev pub AtMostOne : Level → (Expr → Tokens → Type 0) → Expr → Tokens → Type 0
AtMostOne l P = Then P (OneOrNone l P)

-- ---- what is read

module _ (d : ℕ) (l : Level) (P : Expr → Tokens → Type 0) (on : Token → Bool) (operand : Parser Expr) (O : Exact d d on P operand) (some : Token) (passed : is_infix l some ≡ true) (apart : (at : Place) → AllEntries (λ text op. on (mark text at) ≡ false) (infixes l)) where
  abbrev on_more : Token → Bool
  on_more k = is_infix l k || on k

  not_on : (k : Token) → is_infix l k ≡ true → on k ≡ false
  not_on k e = infix_fails l on apart k e

  links_exact : Exact d d on_more (Many (LinkBy l P)) (links l operand)
  unfolding links
  links_exact = many_exact d (is_infix l) on (LinkBy l P) _ (link_exact d l P on operand O some passed) (link_begins l P) on_more (λ rest s. stops_left (is_infix l) on rest s) (λ rest s. stops_right (is_infix l) on rest s) not_on

  links_stop : (found : List Link) (u rest : Tokens) → Many (LinkBy l P) found u → Stops on_more rest → Stops on (u ++ rest)
  links_stop [] u rest m s = empty_stops on u rest m (stops_right (is_infix l) on rest s)
  links_stop (x ∷ found) u rest m s = begins_stops (is_infix l) on not_on u rest (begins_more (is_infix l) m.0 m.1 u (link_begins l P x m.0 m.2) m.4)

  pub repeated_exact : Exact d d on_more (Repeated l P) (repeated l operand)
  repeated_exact =
      then_exact d d d on on_more P (λ first. Mapped (Many (LinkBy l P)) (chained first)) operand _ O
      (λ first. mapped_exact d d on_more (Many (LinkBy l P)) (links l operand) (chained first) links_exact)
      (λ first x y rest t s. let m = mapped_parts (Many (LinkBy l P)) (chained first) x y t in links_stop m.0 y rest m.1 s)

  one_begins : (first : Expr) (x : Expr) (ts : Tokens) → Mapped (LinkBy l P) (chained_one first) x ts → Begins (is_infix l) ts
  one_begins first x ts t = let m = mapped_parts (LinkBy l P) (chained_one first) x ts t in link_begins l P m.0 ts m.1

  one_stops : (first : Expr) (x : Expr) (y rest : Tokens) → OneOrNone l P first x y → Stops on_more rest → Stops on (y ++ rest)
  one_stops first x y rest (inl t) s = begins_stops (is_infix l) on not_on y rest (one_begins first x y t)
  one_stops first x y rest (inr n) s = empty_stops on y rest n.1 (stops_right (is_infix l) on rest s)

  pub at_most_one_exact : Exact d d on_more (AtMostOne l P) (at_most_one l operand)
  at_most_one_exact =
      then_exact d d d on on_more P (OneOrNone l P) operand _ O
      (λ first. choose_exact d d (is_infix l) (Mapped (LinkBy l P) (chained_one first)) (Nothing first) _ _ on_more on nowhere
      (mapped_exact d d on (LinkBy l P) (link l operand) (chained_one first) (link_exact d l P on operand O some passed))
      (done_exact d nowhere first)
      (one_begins first)
      (λ x ts rest n s. empty_stops (is_infix l) ts rest n.1 (stops_left (is_infix l) on rest s))
      (λ rest s. stops_right (is_infix l) on rest s) (λ rest s. never rest))
      one_stops

-- ---- and that it is the grammar's, where there may be many

to_links : (l : Level) → l ≢ Comparisons → (y : Link) (found : List Link) (ts : Tokens) → Many (LinkBy l (IsOperand l)) (y ∷ found) ts → AreLinks l (y ∷ found) ts
to_links l ne y [] ts m =
    let p = link_parts l (IsOperand l) y m.0 m.2 in
    last_link _ _ p.sign p.operand p.front p.spelled p.reads (ap (λ y. y ∷ []) p.value) (m.4 ∙ ap (λ v. m.0 ++ v) m.3 ∙ append-nil m.0 ∙ p.is)
to_links l ne y (z ∷ found) ts m =
    let p = link_parts l (IsOperand l) y m.0 m.2 in
    more_link _ _ p.sign p.operand (z ∷ found) p.front m.1 ne p.spelled p.reads (to_links l ne z found m.1 m.3) (ap (λ y. y ∷ z ∷ found) p.value) (m.4 ∙ ap (λ u. u ++ m.1) p.is)

from_links : (l : Level) (found : List Link) (ts : Tokens) → AreLinks l found ts → Many (LinkBy l (IsOperand l)) found ts
from_links l found ts (last_link op at sign x a spelled h e is) =
    subst (λ y. Many (LinkBy l (IsOperand l)) y ts) (sym e) (sign ∷ a, [], linked_by l (IsOperand l) op at sign x a spelled h, refl, is ∙ sym (append-nil (sign ∷ a)))
from_links l found ts (more_link op at sign x rest a b ne spelled h hs e is) =
    subst (λ y. Many (LinkBy l (IsOperand l)) y ts) (sym e) (sign ∷ a, b, linked_by l (IsOperand l) op at sign x a spelled h, from_links l rest b hs, is)

some_link : (l : Level) (ts : Tokens) → AreLinks l [] ts → ⊥
some_link l ts (last_link op at sign x a spelled h e is) = cc
some_link l ts (more_link op at sign x rest a b ne spelled h hs e is) = cc

to_level_at : (l : Level) → l ≢ Comparisons → (x first : Expr) (found : List Link) (ts u a : Tokens) → IsOperand l first u → Many (LinkBy l (IsOperand l)) found a → x ≡ chained first found → ts ≡ u ++ a → IsLevel l x ts
to_level_at l ne x first [] ts u a h m e is = alone_level (subst (λ x. IsOperand l x ts) (sym e) (subst (IsOperand l first) (sym (is ∙ ap (λ a. u ++ a) m ∙ append-nil u)) h))
to_level_at l ne x first (y ∷ found) ts u a h m e is = chain_level first (y ∷ found) u a h (to_links l ne y found a m) e is

to_level : (l : Level) → l ≢ Comparisons → (x : Expr) (ts : Tokens) → Repeated l (IsOperand l) x ts → IsLevel l x ts
to_level l ne x ts t = let m = mapped_parts (Many (LinkBy l (IsOperand l))) (chained t.0) x t.2 t.4 in to_level_at l ne x t.0 m.0 ts t.1 t.2 t.3 m.1 m.2 t.5

from_chain : (l : Level) (x first : Expr) (found : List Link) (ts a b : Tokens) → IsOperand l first a → AreLinks l found b → x ≡ expr_at (place_of first) (variant.Chain first found) → ts ≡ a ++ b → Repeated l (IsOperand l) x ts
from_chain l x first [] ts a b h k e is = absurd (some_link l b k)
from_chain l x first (y ∷ found) ts a b h k e is = (first, a, b, h, mapped_by (Many (LinkBy l (IsOperand l))) (chained first) (y ∷ found) x b (from_links l (y ∷ found) b k) e, is)

from_level : (l : Level) (x : Expr) (ts : Tokens) → IsLevel l x ts → Repeated l (IsOperand l) x ts
from_level l x ts (alone_level h) = (x, ts, [], h, mapped_by (Many (LinkBy l (IsOperand l))) (chained x) [] x [] refl refl, sym (append-nil ts))
from_level l x ts (chain_level first found a b h k e is) = from_chain l x first found ts a b h k e is

-- ---- where there may be one

to_comparison_at : (x first : Expr) (ts u w : Tokens) → IsOperand Comparisons first u → ts ≡ u ++ w → OneOrNone Comparisons (IsOperand Comparisons) first x w → IsLevel Comparisons x ts
to_comparison_at x first ts u w h is (inl t) =
    let m = mapped_parts (LinkBy Comparisons (IsOperand Comparisons)) (chained_one first) x w t in
    let p = link_parts Comparisons (IsOperand Comparisons) m.0 w m.1 in
    chain_level first (m.0 ∷ []) u w h (last_link _ _ p.sign p.operand p.front p.spelled p.reads (ap (λ y. y ∷ []) p.value) p.is) m.2 is
to_comparison_at x first ts u w h is (inr n) = alone_level (subst (λ x. IsOperand Comparisons x ts) (sym n.0) (subst (IsOperand Comparisons first) (sym (is ∙ ap (λ a. u ++ a) n.1 ∙ append-nil u)) h))

to_comparison : (x : Expr) (ts : Tokens) → AtMostOne Comparisons (IsOperand Comparisons) x ts → IsLevel Comparisons x ts
to_comparison x ts t = to_comparison_at x t.0 ts t.1 t.2 t.3 t.5 t.4

one_of : (first : Expr) (l : Level) (found : List Link) (x : Expr) (b : Tokens) → l ≡ Comparisons → AreLinks l found b → x ≡ expr_at (place_of first) (variant.Chain first found) → OneOrNone l (IsOperand l) first x b
one_of first l found x b same (last_link op at sign y c spelled h e is) value =
    inl (mapped_by (LinkBy l (IsOperand l)) (chained_one first) (op, at, y) x b (subst (λ b. LinkBy l (IsOperand l) (op, at, y) b) (sym is) (linked_by l (IsOperand l) op at sign y c spelled h)) (value ∙ ap (λ found. expr_at (place_of first) (variant.Chain first found)) e))
one_of first l found x b same (more_link op at sign y rest c d ne spelled h hs e is) value = absurd (ne same)

from_comparison : (x : Expr) (ts : Tokens) → IsLevel Comparisons x ts → AtMostOne Comparisons (IsOperand Comparisons) x ts
from_comparison x ts (alone_level h) = (x, ts, [], h, inr (refl, refl), sym (append-nil ts))
from_comparison x ts (chain_level first found a b h k e is) = (first, a, b, h, one_of first Comparisons found x b refl k e, is)

-- ---- a level by its operands, which have another relation at the same tokens

module _ (d : ℕ) (l : Level) (P : Expr → Tokens → Type 0) (on : Token → Bool) (operand : Parser Expr) (O : Exact d d on P operand) (to : (x : Expr) (ts : Tokens) → P x ts → IsOperand l x ts) (from : (x : Expr) (ts : Tokens) → IsOperand l x ts → P x ts) (some : Token) (passed : is_infix l some ≡ true) (apart : (at : Place) → AllEntries (λ text op. on (mark text at) ≡ false) (infixes l)) where
  operand_exact : Exact d d on (IsOperand l) operand
  operand_exact = exact_by d d on P (IsOperand l) operand O to from

  pub level_exact : l ≢ Comparisons → Exact d d (λ k. is_infix l k || on k) (IsLevel l) (repeated l operand)
  level_exact ne = exact_by d d (λ k. is_infix l k || on k) _ (IsLevel l) (repeated l operand) (repeated_exact d l (IsOperand l) on operand operand_exact some passed apart) (to_level l ne) (from_level l)

pub comparisons_exact : (d : ℕ) (P : Expr → Tokens → Type 0) (on : Token → Bool) (operand : Parser Expr) → Exact d d on P operand → ((x : Expr) (ts : Tokens) → P x ts → IsOperand Comparisons x ts) → ((x : Expr) (ts : Tokens) → IsOperand Comparisons x ts → P x ts) → (some : Token) → is_infix Comparisons some ≡ true → ((at : Place) → AllEntries (λ text op. on (mark text at) ≡ false) (infixes Comparisons)) → Exact d d (λ k. is_infix Comparisons k || on k) (IsLevel Comparisons) (at_most_one Comparisons operand)
comparisons_exact d P on operand O to from some passed apart =
    exact_by d d (λ k. is_infix Comparisons k || on k) _ (IsLevel Comparisons) (at_most_one Comparisons operand)
    (at_most_one_exact d Comparisons (IsOperand Comparisons) on operand (exact_by d d on P (IsOperand Comparisons) operand O to from) some passed apart)
    to_comparison from_comparison
