-- Primaries, and what may stand before one.
use Rattle.std.proofs.Common.{◌≡◌, ℕ, Bool, true, false, ◌||◌, List, [], ◌∷◌, ◌++◌, Some, inl, inr, refl, sym, ap}
use Rattle.std.specs.Prelude.{codes}
use Rattle.hv_tree.specs.declared.place.Place.{Place}
use Rattle.hv_tree.specs.declared.token.Token.{Token}
use Rattle.hv_tree.specs.declared.types.Name.{Name}
use Rattle.hv_tree.specs.declared.ast.Expr.{Expr}
use Rattle.hv_tree.specs.declared.ast.ExprKind.TheVariants as variant
use Rattle.hv_tree.specs.declared.ast.Step.{Step}
use Rattle.hv_tree.specs.Tokens.{Tokens, mark, keyword, Separated, one_part, Ors}
use Rattle.hv_tree.specs.Types.{IsReturn}
use Rattle.hv_tree.specs.Grammar.{expr_at, AreNames, IsLevel, IsPrimary, AreSteps, IsBlock, no_names}
use Rattle.hv_tree.specs.Refusal.{is_mark}
use Rattle.hv_syn_grammar.specs.Lexemes.{is_word, is_number, is_keyword, separated}
use Rattle.hv_syn_grammar.specs.Signatures.{names, bracketed_params, returned}
use Rattle.hv_syn_grammar.specs.Expressions as mirror
use Rattle.hv_syn_grammar.specs.Expressions.{Inner, begins_step, begins_primary}
use Rattle.hv_syn_exact.proofs.Exact.{Exact, Stops, Then, Either, Nothing, then_exact, done_exact, choose_exact, exact_by, nowhere, never}
use Rattle.hv_syn_exact.proofs.Lexemes.{a_mark, a_keyword, a_word, a_number, next_exact, bracketed_exact}
use Rattle.hv_syn_exact.proofs.Inner.{on_type, on_path, on_expr, IsPlace, InnerExact}
use Rattle.hv_syn_exact.proofs.Shorts.{off_at, on_at, empty_stops, stops_left, stops_right, after_off, either_off, zero_at, Can, can_after, can_then}
use Rattle.hv_syn_exact.proofs.Between.{Mapped, mapped_exact, mapped_parts, closed_exact, can_closed, brackets_exact}
use Rattle.hv_syn_exact.proofs.Beginnings.{some_expr, some_place, block_off}
use Rattle.hv_syn_exact.proofs.StepRules.{CallRest, steps_exact, call_rest_exact, block_exact}
use Rattle.hv_syn_exact.proofs.PrimaryParts.{Number, path_expr, call_expr, Called, Named, same_expr, Group, array_by, Array, Truth, Falsehood, Awaited, filled_by, FilledRest, Filled, count_by, Counted, same_names, Captures, Params, lambda_by, Lambda, FromCounted, FromFilled, FromAwaited, FromFalsehood, Worded, FromArray, FromGroup, FromNamed, Primary, to_primary, from_primary}
use Rattle.hv_syn_exact.proofs.Separated.{separated_exact}
use Rattle.hv_syn_exact.proofs.ParamRules.{names_exact, bracketed_params_exact, returned_exact}

-- ---- tests that the first tokens of the later alternatives fail

from_counted_off : (on : Token → Bool) → ((at : Place) → on (keyword (codes "count") at) ≡ false) → ((at : Place) → on (keyword (codes "fun") at) ≡ false) → (x : Expr) (ts rest : Tokens) → FromCounted x ts → Stops on (ts ++ rest)
from_counted_off on count fun = either_off Counted Lambda on (after_off _ _ on count) (after_off _ _ on fun)

from_filled_off : (on : Token → Bool) → ((at : Place) → on (keyword (codes "filled") at) ≡ false) → ((at : Place) → on (keyword (codes "count") at) ≡ false) → ((at : Place) → on (keyword (codes "fun") at) ≡ false) → (x : Expr) (ts rest : Tokens) → FromFilled x ts → Stops on (ts ++ rest)
from_filled_off on filled count fun = either_off Filled FromCounted on (after_off _ _ on filled) (from_counted_off on count fun)

from_awaited_off : (on : Token → Bool) → ((at : Place) → on (keyword (codes "await") at) ≡ false) → ((at : Place) → on (keyword (codes "filled") at) ≡ false) → ((at : Place) → on (keyword (codes "count") at) ≡ false) → ((at : Place) → on (keyword (codes "fun") at) ≡ false) → (x : Expr) (ts rest : Tokens) → FromAwaited x ts → Stops on (ts ++ rest)
from_awaited_off on await filled count fun = either_off Awaited FromFilled on (after_off _ _ on await) (from_filled_off on filled count fun)

from_falsehood_off : (on : Token → Bool) → ((s : List ℕ) (at : Place) → on (keyword s at) ≡ false) → (x : Expr) (ts rest : Tokens) → FromFalsehood x ts → Stops on (ts ++ rest)
from_falsehood_off on off = either_off Falsehood FromAwaited on (after_off _ _ on (off (codes "false"))) (from_awaited_off on (off (codes "await")) (off (codes "filled")) (off (codes "count")) (off (codes "fun")))

not_truth : (x : Expr) (ts rest : Tokens) → FromFalsehood x ts → Stops (is_keyword (codes "true")) (ts ++ rest)
not_truth = either_off Falsehood FromAwaited _ (after_off _ _ _ (λ at. refl)) (from_awaited_off _ (λ at. refl) (λ at. refl) (λ at. refl) (λ at. refl))

worded_off : (on : Token → Bool) → ((s : List ℕ) (at : Place) → on (keyword s at) ≡ false) → (x : Expr) (ts rest : Tokens) → Worded x ts → Stops on (ts ++ rest)
worded_off on off = either_off Truth FromFalsehood on (after_off _ _ on (off (codes "true"))) (from_falsehood_off on off)

not_array : (x : Expr) (ts rest : Tokens) → Worded x ts → Stops (is_mark (codes "[")) (ts ++ rest)
not_array = worded_off (is_mark (codes "[")) (λ s at. refl)

from_array_off : (on : Token → Bool) → ((at : Place) → on (mark (codes "[") at) ≡ false) → ((s : List ℕ) (at : Place) → on (keyword s at) ≡ false) → (x : Expr) (ts rest : Tokens) → FromArray x ts → Stops on (ts ++ rest)
from_array_off on array off = either_off Array Worded on (after_off _ _ on array) (worded_off on off)

from_group_off : (on : Token → Bool) → ((at : Place) → on (mark (codes "(") at) ≡ false) → ((at : Place) → on (mark (codes "[") at) ≡ false) → ((s : List ℕ) (at : Place) → on (keyword s at) ≡ false) → (x : Expr) (ts rest : Tokens) → FromGroup x ts → Stops on (ts ++ rest)
from_group_off on group array off = either_off Group FromArray on (after_off _ _ on group) (from_array_off on array off)

not_number : (x : Expr) (ts rest : Tokens) → FromNamed x ts → Stops is_number (ts ++ rest)
not_number = either_off Named FromGroup is_number (after_off _ _ is_number (λ name. refl)) (from_group_off is_number (λ at. refl) (λ at. refl) (λ s at. refl))

-- ---- that there are such parts

some_elements : Can (Separated (IsLevel Ors))
some_elements = (some_expr.0 ∷ [], some_expr.1, one_part some_expr.0 some_expr.2 refl)

some_names : Can AreNames
some_names = ([], [], no_names refl refl)

some_filled_rest : (at : Place) → Can (Then (IsLevel Ors) (FilledRest at))
some_filled_rest at = can_then (IsLevel Ors) (FilledRest at) some_expr (can_after _ _ zero_at (can_closed (codes ")") (IsLevel Ors) (filled_by at some_expr.0) some_expr))

-- ---- the parsers that need no list

module _ (d : ℕ) (i : Inner) (inner : InnerExact d i) where
  number_exact : Exact d d nowhere Number (mirror.numeral d i)
  number_exact = next_exact _ _ _ a_number _ _ d d d nowhere (λ v. refl) (λ v. done_exact d nowhere (expr_at v.1 (variant.Int v.0)))

  truth_exact : Exact d d nowhere Truth (mirror.truth d i)
  truth_exact = next_exact _ _ _ (a_keyword (codes "true")) _ _ d d d nowhere (λ at. refl) (λ at. done_exact d nowhere (expr_at at (variant.Bool true)))

  falsehood_exact : Exact d d nowhere Falsehood (mirror.falsehood d i)
  falsehood_exact = next_exact _ _ _ (a_keyword (codes "false")) _ _ d d d nowhere (λ at. refl) (λ at. done_exact d nowhere (expr_at at (variant.Bool false)))

  awaited_exact : Exact d d nowhere Awaited (mirror.awaited d i)
  awaited_exact =
      next_exact _ _ _ (a_keyword (codes "await")) _ _ d d d nowhere (λ at. refl)
      (λ at. next_exact _ _ _ a_word _ _ d d d nowhere (λ name. refl) (λ name. done_exact d nowhere (expr_at at (variant.Await name))))

  group_exact : Exact d d nowhere Group (mirror.group d i)
  unfolding mirror.group
  group_exact = brackets_exact (codes "(") (codes ")") (IsLevel Ors) same_expr d on_expr i.expr some_expr inner.expr (λ at. refl) (λ at. refl) (λ n at. refl)

  counted_exact : Exact d d nowhere Counted (mirror.counted d i)
  unfolding mirror.counted
  counted_exact =
      next_exact _ _ _ (a_keyword (codes "count")) _ _ d d d nowhere (λ at. refl)
      (λ at. brackets_exact (codes "(") (codes ")") IsPlace (count_by at) d begins_step i.place some_place inner.place (λ at. refl) (λ at. refl) (λ n at. refl))

  filled_exact : Exact d d nowhere Filled (mirror.filled d i)
  unfolding mirror.filled
  filled_exact =
      next_exact _ _ _ (a_keyword (codes "filled")) _ _ d d d nowhere (λ at. refl)
      (λ at. bracketed_exact _ _ _ (a_mark (codes "(")) _ _ d d nowhere (λ left. some_filled_rest at) (λ left. refl)
      (λ n is left. then_exact n n d on_expr nowhere (IsLevel Ors) (FilledRest at) i.expr _ (inner.expr n is)
      (λ len. next_exact _ _ _ (a_mark (codes ",")) _ _ n n d nowhere (λ comma. refl)
      (λ comma. closed_exact n d (codes ")") on_expr (IsLevel Ors) i.expr (filled_by at len) (inner.expr n is) (λ right. refl) (λ right. ap Some (sym is))))
      (λ len x y rest c s. off_at on_expr _ y c.1 rest c.3 refl)))

-- ---- the others

module _ (d : ℕ) (i : Inner) (inner : InnerExact d i) where
  array_exact : Exact d d nowhere Array (mirror.array d i)
  unfolding mirror.array
  array_exact =
      brackets_exact (codes "[") (codes "]") (Separated (IsLevel Ors)) array_by d (λ k. is_mark (codes ",") k || on_expr k) (separated i.expr) some_elements
      (λ n is. separated_exact (IsLevel Ors) n on_expr i.expr (inner.expr n is) (λ at. refl)) (λ at. refl) (λ at. refl) (λ n at. refl)

  captures_exact : Exact d d nowhere Captures (mirror.captures d i)
  unfolding mirror.captures
  captures_exact = brackets_exact (codes "[") (codes "]") AreNames same_names d (λ k. is_mark (codes ",") k || is_word k) names some_names (λ n is. names_exact n) (λ at. refl) (λ at. refl) (λ n at. refl)

  lambda_exact : Exact d d nowhere Lambda (mirror.lambda d i)
  unfolding mirror.lambda
  lambda_exact =
      next_exact _ _ _ (a_keyword (codes "fun")) _ _ d d d nowhere (λ at. refl)
      (λ at. then_exact d d d nowhere nowhere Captures _ (mirror.captures d i) _ captures_exact
      (λ cs. then_exact d d d nowhere nowhere Params _ (bracketed_params d) _ (bracketed_params_exact d)
      (λ ps. then_exact d d d on_type nowhere IsReturn (λ result. Mapped IsBlock (lambda_by at cs ps result)) (returned d) _ (returned_exact d)
      (λ result. mapped_exact d d nowhere IsBlock (mirror.block d i) (lambda_by at cs ps result) (block_exact d i inner))
      (λ result x y rest t s. let m = mapped_parts IsBlock (lambda_by at cs ps result) x y t in block_off on_type (λ at. refl) m.0 y rest m.1))
      (λ ps x y rest t s. never (y ++ rest)))
      (λ cs x y rest t s. never (y ++ rest)))

  worded_exact : Exact d d nowhere Worded (mirror.worded d i)
  unfolding mirror.worded
  worded_exact =
      choose_exact d d (is_keyword (codes "true")) Truth FromFalsehood _ _ nowhere nowhere nowhere (truth_exact d i inner)
      (choose_exact d d (is_keyword (codes "false")) Falsehood FromAwaited _ _ nowhere nowhere nowhere (falsehood_exact d i inner)
      (choose_exact d d (is_keyword (codes "await")) Awaited FromFilled _ _ nowhere nowhere nowhere (awaited_exact d i inner)
      (choose_exact d d (is_keyword (codes "filled")) Filled FromCounted _ _ nowhere nowhere nowhere (filled_exact d i inner)
      (choose_exact d d (is_keyword (codes "count")) Counted Lambda _ _ nowhere nowhere nowhere (counted_exact d i inner) lambda_exact
      (λ x ts f. on_at _ _ ts f.1 f.3 refl) (λ x ts rest f s. off_at _ _ ts f.1 rest f.3 refl) (λ rest s. s) (λ rest s. s))
      (λ x ts f. on_at _ _ ts f.1 f.3 refl) (λ x ts rest f s. from_counted_off _ (λ at. refl) (λ at. refl) x ts rest f) (λ rest s. s) (λ rest s. s))
      (λ x ts f. on_at _ _ ts f.1 f.3 refl) (λ x ts rest f s. from_filled_off _ (λ at. refl) (λ at. refl) (λ at. refl) x ts rest f) (λ rest s. s) (λ rest s. s))
      (λ x ts f. on_at _ _ ts f.1 f.3 refl) (λ x ts rest f s. from_awaited_off _ (λ at. refl) (λ at. refl) (λ at. refl) (λ at. refl) x ts rest f) (λ rest s. s) (λ rest s. s))
      (λ x ts f. on_at _ _ ts f.1 f.3 refl) (λ x ts rest f s. not_truth x ts rest f) (λ rest s. s) (λ rest s. s)

  named_exact : Exact d d on_path Named (mirror.named d i)
  unfolding mirror.named
  named_exact =
      next_exact _ _ _ a_word _ _ d d d on_path (λ name. refl)
      (λ root. then_exact d d d begins_step on_path AreSteps (λ ss. Either (Called root ss) (Nothing (path_expr root ss))) (mirror.steps d i) _ (steps_exact d i inner)
      (λ ss. choose_exact d d (is_mark (codes "(")) (Called root ss) (Nothing (path_expr root ss)) _ _ on_path nowhere nowhere
      (mapped_exact d d nowhere (CallRest root ss) (mirror.call_rest d i root ss) (call_expr root) (call_rest_exact d i inner root ss))
      (done_exact d nowhere (path_expr root ss))
      (λ x ts t. let m = mapped_parts (CallRest root ss) (call_expr root) x ts t in on_at (is_mark (codes "(")) _ ts m.1.1 m.1.3 refl)
      (λ x ts rest n s. empty_stops (is_mark (codes "(")) ts rest n.1 (stops_left (is_mark (codes "(")) begins_step rest s))
      (λ rest s. never rest) (λ rest s. never rest))
      (λ ss x y rest t s. follows root ss x y rest t s))
    where
      follows : (root : Name) (ss : List Step) (x : Expr) (y rest : Tokens) → Either (Called root ss) (Nothing (path_expr root ss)) x y → Stops on_path rest → Stops begins_step (y ++ rest)
      follows root ss x y rest (inl t) s = let m = mapped_parts (CallRest root ss) (call_expr root) x y t in off_at begins_step _ y m.1.1 rest m.1.3 refl
      follows root ss x y rest (inr n) s = empty_stops begins_step y rest n.1 (stops_right (is_mark (codes "(")) begins_step rest s)

  pub primary_exact : Exact d d on_path IsPrimary (mirror.primary d i)
  unfolding mirror.primary
  primary_exact =
      exact_by d d on_path Primary IsPrimary _
      (choose_exact d d is_number Number FromNamed _ _ on_path nowhere on_path (number_exact d i inner)
      (choose_exact d d is_word Named FromGroup _ _ on_path on_path nowhere named_exact
      (choose_exact d d (is_mark (codes "(")) Group FromArray _ _ nowhere nowhere nowhere (group_exact d i inner)
      (choose_exact d d (is_mark (codes "[")) Array Worded _ _ nowhere nowhere nowhere array_exact worded_exact
      (λ x ts f. on_at _ _ ts f.1 f.3 refl) (λ x ts rest f s. not_array x ts rest f) (λ rest s. s) (λ rest s. s))
      (λ x ts f. on_at _ _ ts f.1 f.3 refl) (λ x ts rest f s. from_array_off (is_mark (codes "(")) (λ at. refl) (λ s at. refl) x ts rest f) (λ rest s. s) (λ rest s. s))
      (λ x ts f. on_at _ _ ts f.1 f.3 refl) (λ x ts rest f s. from_group_off is_word (λ at. refl) (λ at. refl) (λ s at. refl) x ts rest f) (λ rest s. s) (λ rest s. never rest))
      (λ x ts f. on_at _ _ ts f.1 f.3 refl) (λ x ts rest f s. not_number x ts rest f) (λ rest s. never rest) (λ rest s. s))
      to_primary from_primary
