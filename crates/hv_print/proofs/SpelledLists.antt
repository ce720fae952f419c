-- The tokens of printed lists of elements, of arguments and of links spell them, places aside, given that those of their parts do.
use Rattle.std.proofs.Common.{◌≡◌, ℕ, List, [], ◌∷◌, ◌++◌, codes, refl, sym, ap, ◌∙◌, subst, append-nil}
use Rattle.hv_tree.specs.declared.place.Place.{Place}
use Rattle.hv_tree.specs.declared.types.Name.{Name}
use Rattle.hv_tree.specs.declared.ast.Arg.{Arg}
use Rattle.hv_tree.specs.declared.ast.Arg.TheVariants as arg
use Rattle.hv_tree.specs.declared.ast.Expr.{Expr}
use Rattle.hv_tree.specs.declared.ast.Step.{Step}
use Rattle.hv_tree.specs.Tokens.{Tokens, mark, word, Ors}
use Rattle.hv_tree.specs.Grammar.{path_of, IsLevel, AreElements, one_element, more_element, AreArgs, some_args, AreSomeArgs, one_arg, more_arg, IsArg, value_argument, ref_argument, AreSteps}
use Rattle.hv_tree.specs.Core.{CoreExpr, CoreExprs, NoExprs, ExprOf, CoreArgs, NoArgs, ValueArg, RefArg, CoreSteps, core_exprs, core_args, core_steps}
use Rattle.hv_tree.proofs.CoreLemmas as lemmas
use Rattle.hv_print.specs.Aside.{nowhere, name_aside, exprs_aside, args_aside, steps_aside}
use Rattle.hv_print.specs.Pieces.{Piece, here, tokens_of}
use Rattle.hv_tree.proofs.CoreParts.{core_ref}
use Rattle.hv_print.proofs.SpelledTypes.{Reads, behind, split}
use Rattle.hv_print.proofs.Levels.{seen_expr}

-- ---- elements

abbrev pub seen_exprs : List Expr → CoreExprs
seen_exprs xs = exprs_aside (core_exprs xs)

-- what stands behind an element: nothing, or a comma and more elements
pub data ElementsAfter (at : ℕ) (tail : List Piece) (want : CoreExprs) : Type 0 where
  no_element : tail ≡ [] → want ≡ NoExprs → ElementsAfter at tail want
  next_element : (rest : Tokens) → tokens_of at tail ≡ mark (codes ",") (here at) ∷ rest → Reads AreElements seen_exprs rest want → ElementsAfter at tail want

pub put_element : (at : ℕ) (head tail : List Piece) (x : CoreExpr) (want : CoreExprs) → Reads (IsLevel Ors) seen_expr (tokens_of at head) x → ElementsAfter (behind at head) tail want → Reads AreElements seen_exprs (tokens_of at (head ++ tail)) (ExprOf x want)
put_element at head tail x want r (no_element none last) = record {
  tree = r.tree ∷ [];
  spelled = one_element r.tree (subst (IsLevel Ors r.tree) (ap (tokens_of at) (sym (append-nil head) ∙ ap (λ t. head ++ t) (sym none))) r.spelled) refl;
  same = ap (λ x. ExprOf x NoExprs) r.same ∙ ap (ExprOf x) (sym last);
}
put_element at head tail x want r (next_element rest e m) = record {
  tree = r.tree ∷ m.tree;
  spelled = more_element r.tree m.tree (here (behind at head)) (tokens_of at head) rest r.spelled m.spelled refl (split at head tail ∙ ap (λ t. tokens_of at head ++ t) e);
  same = ap (λ x. ExprOf x (seen_exprs m.tree)) r.same ∙ ap (ExprOf x) m.same;
}

-- ---- arguments

abbrev pub seen_args : List Arg → CoreArgs
seen_args xs = args_aside (core_args xs)

-- what stands behind an argument: nothing, or a comma and more arguments
pub data ArgsAfter (at : ℕ) (tail : List Piece) (want : CoreArgs) : Type 0 where
  no_argument : tail ≡ [] → want ≡ NoArgs → ArgsAfter at tail want
  next_argument : (rest : Tokens) → tokens_of at tail ≡ mark (codes ",") (here at) ∷ rest → Reads AreSomeArgs seen_args rest want → ArgsAfter at tail want

put_argument : (at : ℕ) (head tail : List Piece) (x : Arg) (f : CoreArgs → CoreArgs) (want : CoreArgs) → IsArg x (tokens_of at head) → ((rest : List Arg) → seen_args (x ∷ rest) ≡ f (seen_args rest)) →
    ArgsAfter (behind at head) tail want → Reads AreSomeArgs seen_args (tokens_of at (head ++ tail)) (f want)
put_argument at head tail x f want h same (no_argument none last) = record {
  tree = x ∷ [];
  spelled = one_arg x (subst (IsArg x) (ap (tokens_of at) (sym (append-nil head) ∙ ap (λ t. head ++ t) (sym none))) h) refl;
  same = same [] ∙ ap f (sym last);
}
put_argument at head tail x f want h same (next_argument rest e m) = record {
  tree = x ∷ m.tree;
  spelled = more_arg x m.tree (here (behind at head)) (tokens_of at head) rest h m.spelled refl (split at head tail ∙ ap (λ t. tokens_of at head ++ t) e);
  same = same m.tree ∙ ap f m.same;
}

pub put_value : (at : ℕ) (head tail : List Piece) (x : CoreExpr) (want : CoreArgs) → Reads (IsLevel Ors) seen_expr (tokens_of at head) x → ArgsAfter (behind at head) tail want →
    Reads AreSomeArgs seen_args (tokens_of at (head ++ tail)) (ValueArg x want)
put_value at head tail x want r after =
    put_argument at head tail (arg.Value r.tree) (ValueArg x) want (value_argument r.tree r.spelled refl)
    (λ rest. ap args_aside (lemmas.arg_value (core_args rest) r.tree) ∙ ap (λ x. ValueArg x (seen_args rest)) r.same) after

abbrev pub seen_steps : List Step → CoreSteps
seen_steps xs = steps_aside (core_steps xs)

-- the head is the `&`, the root and the steps
pub put_ref : (at : ℕ) (head tail : List Piece) (root : Name) (steps : CoreSteps) (want : CoreArgs) → (place : Place) (name : Name) → name_aside name ≡ name_aside root →
    (a : Tokens) → Reads AreSteps seen_steps a steps → tokens_of at head ≡ mark (codes "&") place ∷ word name ∷ a → ArgsAfter (behind at head) tail want →
    Reads AreSomeArgs seen_args (tokens_of at (head ++ tail)) (RefArg nowhere (name_aside root) steps want)
put_ref at head tail root steps want place name same a r e after =
    put_argument at head tail (arg.Ref place (path_of name r.tree)) (RefArg nowhere (name_aside root) steps) want (ref_argument place name r.tree a r.spelled refl e)
    (λ rest.
    ap args_aside (core_ref (core_args rest) place name r.tree)
    ∙ ap (λ s. RefArg nowhere (name_aside name) s (seen_args rest)) r.same
    ∙ ap (λ n. RefArg nowhere n steps (seen_args rest)) same) after

pub all_args : {ts : Tokens} {want : CoreArgs} → Reads AreSomeArgs seen_args ts want → Reads AreArgs seen_args ts want
all_args r = record { tree = r.tree; spelled = some_args r.spelled; same = r.same }
