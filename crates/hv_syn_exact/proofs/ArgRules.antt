-- Arguments, where the parsers right inside the bracket are exact.
use Rattle.std.proofs.Common.{◌≡◌, ℕ, Bool, ◌||◌, List, [], ◌∷◌, inl, inr, refl, ◌∙◌, ap}
use Rattle.std.specs.Prelude.{codes}
use Rattle.hv_tree.specs.declared.token.Token.{Token}
use Rattle.hv_tree.specs.declared.types.Name.{Name}
use Rattle.hv_tree.specs.declared.ast.PlaceExpr.{PlaceExpr}
use Rattle.hv_tree.specs.declared.ast.Step.{Step}
use Rattle.hv_tree.specs.declared.ast.Arg.{Arg}
use Rattle.hv_tree.specs.declared.ast.Arg.TheVariants as variant
use Rattle.hv_tree.specs.Tokens.{Tokens, mark, word, Separated, one_part, more_parts, Ors, Ands, Comparisons, Sums, Products}
use Rattle.hv_tree.specs.Grammar.{path_of, IsLevel, AreSteps, AreArgs, AreSomeArgs, IsArg, none_args, some_args, one_arg, more_arg, value_argument, ref_argument}
use Rattle.hv_tree.specs.Refusal.{is_mark}
use Rattle.hv_syn_grammar.specs.Expressions.{Inner, argument, arguments, begins_step, begins_arg}
use Rattle.hv_syn_exact.proofs.Exact.{Exact, Stops, Begins, Either, Nothing, choose_exact, done_exact, exact_by, nowhere, never}
use Rattle.hv_syn_exact.proofs.Lexemes.{After, a_mark, next_exact}
use Rattle.hv_syn_exact.proofs.Inner.{on_path, on_product, on_sum, on_comparison, on_conjunction, on_expr, IsPlace}
use Rattle.hv_syn_exact.proofs.Shorts.{on_at, empty_stops, begins_more, stops_left, stops_right}
use Rattle.hv_syn_exact.proofs.Between.{Mapped, mapped_exact, mapped_parts, mapped_by}
use Rattle.hv_syn_exact.proofs.Beginnings.{arg_begins, expr_off}
use Rattle.hv_syn_grammar.specs.Levels.{is_infix}
use Rattle.hv_syn_exact.proofs.Separated.{separated_exact}

-- ---- places

pub record PlaceParts (p : PlaceExpr) (ts : Tokens) : Type 0 where
  pub root : Name
  pub steps : List Step
  pub front : Tokens
  pub reads : AreSteps steps front
  pub value : p ≡ path_of root steps
  pub is : ts ≡ word root ∷ front

pub place_parts : (p : PlaceExpr) (ts : Tokens) → IsPlace p ts → PlaceParts p ts
place_parts p ts t =
    let m = mapped_parts AreSteps (path_of t.0) p t.1 t.2 in
    record { root = t.0; steps = m.0; front = t.1; reads = m.1; value = m.2; is = t.3 }

pub place_by : (root : Name) (steps : List Step) (a : Tokens) (p : PlaceExpr) (ts : Tokens) → AreSteps steps a → p ≡ path_of root steps → ts ≡ word root ∷ a → IsPlace p ts
place_by root steps a p ts h e is = (root, a, mapped_by AreSteps (path_of root) steps p a h e, is)

-- ---- what goes on after an expression

pub expr_stops_path : (rest : Tokens) → Stops on_expr rest → Stops on_path rest
expr_stops_path rest s =
    let a = stops_right (is_infix Ors) on_conjunction rest s in
    let b = stops_right (is_infix Ands) on_comparison rest a in
    let c = stops_right (is_infix Comparisons) on_sum rest b in
    let d = stops_right (is_infix Sums) on_product rest c in
    stops_right (is_infix Products) on_path rest d

pub expr_stops_step : (rest : Tokens) → Stops on_expr rest → Stops begins_step rest
expr_stops_step rest s = stops_right (is_mark (codes "(")) begins_step rest (expr_stops_path rest s)

-- ---- one argument

abbrev RefArg : Arg → Tokens → Type 0
RefArg = After (mark (codes "&")) (λ at. Mapped IsPlace (variant.Ref at))

abbrev ValueArg : Arg → Tokens → Type 0
ValueArg = Mapped (IsLevel Ors) variant.Value

to_arg : (x : Arg) (ts : Tokens) → Either RefArg ValueArg x ts → IsArg x ts
to_arg x ts (inl f) =
    let m = mapped_parts IsPlace (variant.Ref f.0) x f.1 f.2 in
    let p = place_parts m.0 f.1 m.1 in
    ref_argument f.0 p.root p.steps p.front p.reads (m.2 ∙ ap (variant.Ref f.0) p.value) (f.3 ∙ ap (λ y. mark (codes "&") f.0 ∷ y) p.is)
to_arg x ts (inr t) = let m = mapped_parts (IsLevel Ors) variant.Value x ts t in value_argument m.0 m.1 m.2

from_arg : (x : Arg) (ts : Tokens) → IsArg x ts → Either RefArg ValueArg x ts
from_arg x ts (value_argument v h e) = inr (mapped_by (IsLevel Ors) variant.Value v x ts h e)
from_arg x ts (ref_argument at root steps a h e is) = inl (at, word root ∷ a, mapped_by IsPlace (variant.Ref at) (path_of root steps) x (word root ∷ a) (place_by root steps a (path_of root steps) (word root ∷ a) h refl refl) e, is)

-- ---- lists of arguments

to_some_args : (xs : List Arg) (ts : Tokens) → Separated IsArg xs ts → AreSomeArgs xs ts
to_some_args xs ts (one_part x h e) = one_arg x h e
to_some_args xs ts (more_parts x a comma rest b h k e is) = more_arg x rest comma a b h (to_some_args rest b k) e is

from_some_args : (xs : List Arg) (ts : Tokens) → AreSomeArgs xs ts → Separated IsArg xs ts
from_some_args xs ts (one_arg x h e) = one_part x h e
from_some_args xs ts (more_arg x rest comma a b h k e is) = more_parts x a comma rest b h (from_some_args rest b k) e is

to_args : (xs : List Arg) (ts : Tokens) → Either (Separated IsArg) (Nothing []) xs ts → AreArgs xs ts
to_args xs ts (inl h) = some_args (to_some_args xs ts h)
to_args xs ts (inr n) = none_args n.0 n.1

from_args : (xs : List Arg) (ts : Tokens) → AreArgs xs ts → Either (Separated IsArg) (Nothing []) xs ts
from_args xs ts (none_args e is) = inr (e, is)
from_args xs ts (some_args h) = inl (from_some_args xs ts h)

separated_begins : (xs : List Arg) (ts : Tokens) → Separated IsArg xs ts → Begins begins_arg ts
separated_begins xs ts (one_part x h e) = arg_begins x ts h
separated_begins xs ts (more_parts x a comma rest b h k e is) = begins_more begins_arg a (mark (codes ",") comma ∷ b) ts (arg_begins x a h) is

-- ---- the parsers

abbrev pub on_some_args : Token → Bool
on_some_args k = is_mark (codes ",") k || on_expr k

abbrev pub on_args : Token → Bool
on_args k = begins_arg k || on_some_args k

module _ (n : ℕ) (i : Inner) (expr : Exact n n on_expr (IsLevel Ors) i.expr) (place : Exact n n begins_step IsPlace i.place) where
  pub argument_exact : Exact n n on_expr IsArg (argument i)
  unfolding argument
  argument_exact =
      exact_by n n on_expr (Either RefArg ValueArg) IsArg _
      (choose_exact n n (is_mark (codes "&")) RefArg ValueArg _ _ on_expr begins_step on_expr
      (next_exact _ _ _ (a_mark (codes "&")) _ _ n n n begins_step (λ at. refl) (λ at. mapped_exact n n begins_step IsPlace i.place (variant.Ref at) place))
      (mapped_exact n n on_expr (IsLevel Ors) i.expr variant.Value expr)
      (λ x ts f. on_at (is_mark (codes "&")) _ ts f.1 f.3 refl)
      (λ x ts rest t s. let m = mapped_parts (IsLevel Ors) variant.Value x ts t in expr_off Ors (codes "&") (λ at. refl) m.0 ts rest m.1)
      expr_stops_step (λ rest s. s))
      to_arg from_arg

  pub arguments_exact : Exact n n on_args AreArgs (arguments i)
  unfolding arguments
  arguments_exact =
      exact_by n n on_args (Either (Separated IsArg) (Nothing [])) AreArgs _
      (choose_exact n n begins_arg (Separated IsArg) (Nothing []) _ _ on_args on_some_args nowhere
      (separated_exact IsArg n on_expr (argument i) argument_exact (λ at. refl))
      (done_exact n nowhere [])
      separated_begins
      (λ xs ts rest e s. empty_stops begins_arg ts rest e.1 (stops_left begins_arg on_some_args rest s))
      (λ rest s. stops_right begins_arg on_some_args rest s)
      (λ rest s. never rest))
      to_args from_args
