-- What is judged wrong in arguments, one after the other.
use Rattle.std.proofs.Common.{◌≡◌, ℕ, suc, Bool, true, false, not, if◌then◌else◌, ◌+◌, ◌<◌, List, [], ◌∷◌, ◌++◌, length, drop, get_or, Option, Some, None, refl, sym, ap, ◌∙◌, append_assoc, append-nil}
use Rattle.hv_tree.specs.declared.place.Place.{Place}
use Rattle.hv_tree.specs.declared.types.Name.{Name}
use Rattle.hv_tree.specs.declared.types.Conv.{Conv}
use Rattle.hv_tree.specs.declared.refusal.Refusal.{Refusal}
use Rattle.hv_tree.specs.declared.refusal.Rule.TheVariants as rule
use Rattle.hv_tree.specs.declared.ast.Arg.{Arg, out-Arg}
use Rattle.hv_tree.specs.declared.ast.Arg.TheVariants as arg
use Rattle.hv_tree.specs.declared.ast.Block.{Block}
use Rattle.hv_tree.specs.declared.ast.Branch.{Branch}
use Rattle.hv_tree.specs.declared.ast.Call.{Call, out-Call}
use Rattle.hv_tree.specs.declared.ast.Expr.{Expr, out-Expr}
use Rattle.hv_tree.specs.declared.ast.ExprKind.{ExprKind}
use Rattle.hv_tree.specs.declared.ast.PlaceExpr.{PlaceExpr, out-PlaceExpr}
use Rattle.hv_tree.specs.declared.ast.Step.{Step}
use Rattle.hv_tree.specs.declared.ast.Stmt.{Stmt}
use Rattle.hv_tree.specs.declared.ast.StmtKind.{StmtKind}
use Rattle.hv_tree.specs.declared.ast.Arg.TheOpen.{Arg-F}
use Rattle.hv_tree.specs.Core.{CoreArgs, NoArgs, ValueArg, RefArg, core_of, core_arg, core_args, core_place}
use Rattle.hv_tree.proofs.CoreLemmas as lemmas
use Rattle.hv_type_rules.specs.TypeRules.{expr_place}
use Rattle.hv_type_rules.specs.Typing.{Wanted}
use Rattle.hv_lemmas.proofs.Lists.{first_left}
use Rattle.hv_type_synth.specs.declared.around.Around.{Around}
use Rattle.hv_type_synth.specs.Here as here
use Rattle.hv_type_synth.specs.Tests as tests
use Rattle.hv_type_judge.specs.Judged as spec
use Rattle.hv_type_judge.specs.Seen as seen
use Rattle.hv_type_judge.proofs.Places.{place_of}
use Rattle.hv_type_judge.proofs.Roots.{root_of}

abbrev ArgLayer : Type 0
ArgLayer = Arg-F Arg ExprKind Step StmtKind Block Branch Call Expr PlaceExpr Stmt

module _ (a : Around) where
  abbrev t1 : List Wanted → CoreArgs → List Refusal
  t1 ws s = spec.arg_t1 (here.tree_in a) (here.holding_in a) (here.scope_in a) ws s

  abbrev t5 : List Wanted → CoreArgs → List Refusal
  t5 ws s = spec.mark_t5 (here.tree_in a) (here.holding_in a) (here.scope_in a) ws s

  abbrev t6 : CoreArgs → List Refusal
  t6 s = spec.lent_t6 (here.tree_in a) (here.holding_in a) (here.scope_in a) s

  abbrev t7 : List Wanted → CoreArgs → List Refusal
  t7 ws s = spec.arg_t7 (here.tree_in a) (here.holding_in a) (here.scope_in a) ws s

  -- ---- an argument alone, by its variant

  none_by : (x : Arg) (u : ArgLayer) → out-Arg x ≡ u → t1 [] (core_arg x NoArgs) ≡ []
  none_by x (Arg-F.Value y) e = ap (t1 []) (lemmas.by_value x NoArgs y e)
  none_by x (Arg-F.Ref at p) e = ap (t1 []) (lemmas.by_ref x NoArgs at p e)

  pub no_value : (x : Arg) → seen.this_t1 a [] x ≡ []
  no_value x = none_by x (out-Arg x) refl

  unmarked_by : (x : Arg) (u : ArgLayer) → out-Arg x ≡ u → t5 [] (core_arg x NoArgs) ≡ []
  unmarked_by x (Arg-F.Value y) e = ap (t5 []) (lemmas.by_value x NoArgs y e)
  unmarked_by x (Arg-F.Ref at p) e = ap (t5 []) (lemmas.by_ref x NoArgs at p e)

  pub no_mark : (x : Arg) → seen.this_t5 a [] x ≡ []
  no_mark x = unmarked_by x (out-Arg x) refl

  module _ (w : Wanted) (ws : List Wanted) where
    pub value_type : (x : Arg) (y : Expr) → x ≡ arg.Value y → seen.this_t1 a (w ∷ ws) x ≡ seen.wrong a (Some w.ty) y
    value_type x y e = ap (seen.this_t1 a (w ∷ ws)) e ∙ ap (t1 (w ∷ ws)) (lemmas.arg_value NoArgs y) ∙ append-nil (seen.wrong a (Some w.ty) y)

    pub lent_type : (x : Arg) (at : Place) (p : PlaceExpr) → x ≡ arg.Ref at p → seen.this_t1 a (w ∷ ws) x ≡ spec.only (tests.other w.ty (here.place_here a p)) (spec.refusal rule.T1 (out-PlaceExpr p).root.place)
    lent_type x at p e =
        ap (seen.this_t1 a (w ∷ ws)) e ∙ ap (t1 (w ∷ ws)) (lemmas.arg_ref NoArgs at p)
        ∙ append-nil (spec.only (tests.other w.ty (here.place_here a p)) (spec.refusal rule.T1 (core_place p).0.place))
        ∙ ap (λ (n : Name). spec.only (tests.other w.ty (here.place_here a p)) (spec.refusal rule.T1 n.place)) (root_of p)

    pub value_mark : (x : Arg) (y : Expr) → x ≡ arg.Value y → seen.this_t5 a (w ∷ ws) x ≡ spec.only (tests.is_changed w.conv) (spec.refusal rule.T5 (out-Expr y).place)
    value_mark x y e =
        ap (seen.this_t5 a (w ∷ ws)) e ∙ ap (t5 (w ∷ ws)) (lemmas.arg_value NoArgs y)
        ∙ append-nil (spec.only (tests.is_changed w.conv) (spec.refusal rule.T5 (expr_place (core_of y))))
        ∙ ap (λ p. spec.only (tests.is_changed w.conv) (spec.refusal rule.T5 p)) (place_of y)

    pub lent_mark : (x : Arg) (at : Place) (p : PlaceExpr) → x ≡ arg.Ref at p → seen.this_t5 a (w ∷ ws) x ≡ spec.only (not (tests.is_changed w.conv)) (spec.refusal rule.T5 at)
    lent_mark x at p e =
        ap (seen.this_t5 a (w ∷ ws)) e ∙ ap (t5 (w ∷ ws)) (lemmas.arg_ref NoArgs at p) ∙ append-nil (spec.only (not (tests.is_changed w.conv)) (spec.refusal rule.T5 at))

  pub value_root : (x : Arg) (y : Expr) → x ≡ arg.Value y → seen.this_t6 a x ≡ []
  value_root x y e = ap (seen.this_t6 a) e ∙ ap t6 (lemmas.arg_value NoArgs y)

  pub lent_root : (x : Arg) (at : Place) (p : PlaceExpr) → x ≡ arg.Ref at p → seen.this_t6 a x ≡ seen.root_t6 a (out-PlaceExpr p).root
  lent_root x at p e = ap (seen.this_t6 a) e ∙ ap t6 (lemmas.arg_ref NoArgs at p) ∙ append-nil (seen.root_t6 a (core_place p).0) ∙ ap (seen.root_t6 a) (root_of p)

  passed_as : (ws : List Wanted) (y : Expr) → t7 ws (ValueArg (core_of y) NoArgs) ≡ (if seen.next_moved ws then seen.move_t7 a y else [])
  passed_as [] y = refl
  passed_as (w ∷ ws) y = append-nil (if tests.is_moved w.conv then seen.move_t7 a y else [])

  pub value_moved : (ws : List Wanted) (x : Arg) (y : Expr) → x ≡ arg.Value y → seen.next_moved ws ≡ true → seen.this_t7 a ws x ≡ seen.move_t7 a y
  value_moved ws x y e f = ap (seen.this_t7 a ws) e ∙ ap (t7 ws) (lemmas.arg_value NoArgs y) ∙ passed_as ws y ∙ ap (λ b. if b then seen.move_t7 a y else []) f

  pub value_kept : (ws : List Wanted) (x : Arg) (y : Expr) → x ≡ arg.Value y → seen.next_moved ws ≡ false → seen.this_t7 a ws x ≡ []
  value_kept ws x y e f = ap (seen.this_t7 a ws) e ∙ ap (t7 ws) (lemmas.arg_value NoArgs y) ∙ passed_as ws y ∙ ap (λ b. if b then seen.move_t7 a y else []) f

  changed_as : (ws : List Wanted) (at : Place) (p : PlaceExpr) → t7 ws (RefArg at (core_place p).0 (core_place p).1 NoArgs) ≡ seen.root_t7 a (core_place p).0
  changed_as [] at p = append-nil (seen.root_t7 a (core_place p).0)
  changed_as (w ∷ ws) at p = append-nil (seen.root_t7 a (core_place p).0)

  pub lent_changed : (ws : List Wanted) (x : Arg) (at : Place) (p : PlaceExpr) → x ≡ arg.Ref at p → seen.this_t7 a ws x ≡ seen.root_t7 a (out-PlaceExpr p).root
  lent_changed ws x at p e = ap (seen.this_t7 a ws) e ∙ ap (t7 ws) (lemmas.arg_ref NoArgs at p) ∙ changed_as ws at p ∙ ap (seen.root_t7 a) (root_of p)

  -- ---- an argument and those behind it

  abbrev Splits : (List Wanted → CoreArgs → List Refusal) → List Wanted → CoreArgs → CoreArgs → CoreArgs → Type 0
  Splits f ws whole alone rest = f ws whole ≡ f ws alone ++ f (drop 1 ws) rest

  rest_t1 : (rest : CoreArgs) → t1 [] rest ≡ []
  rest_t1 NoArgs = refl
  rest_t1 (ValueArg x rest) = refl
  rest_t1 (RefArg at root s rest) = refl

  rest_t5 : (rest : CoreArgs) → t5 [] rest ≡ []
  rest_t5 NoArgs = refl
  rest_t5 (ValueArg x rest) = refl
  rest_t5 (RefArg at root s rest) = refl

  -- the first piece has nothing behind it where it stands alone
  alone : (p r : List Refusal) → p ++ r ≡ (p ++ []) ++ r
  alone p r = ap (λ l. l ++ r) (sym (append-nil p))

  value_t1 : (ws : List Wanted) (y : Expr) (r : CoreArgs) → Splits t1 ws (ValueArg (core_of y) r) (ValueArg (core_of y) NoArgs) r
  value_t1 [] y r = sym (rest_t1 r)
  value_t1 (w ∷ ws) y r = alone (seen.wrong a (Some w.ty) y) (t1 ws r)

  ref_t1 : (ws : List Wanted) (at : Place) (p : PlaceExpr) (r : CoreArgs) → Splits t1 ws (RefArg at (core_place p).0 (core_place p).1 r) (RefArg at (core_place p).0 (core_place p).1 NoArgs) r
  ref_t1 [] at p r = sym (rest_t1 r)
  ref_t1 (w ∷ ws) at p r = alone (spec.only (tests.other w.ty (here.place_here a p)) (spec.refusal rule.T1 (core_place p).0.place)) (t1 ws r)

  value_t5 : (ws : List Wanted) (y : Expr) (r : CoreArgs) → Splits t5 ws (ValueArg (core_of y) r) (ValueArg (core_of y) NoArgs) r
  value_t5 [] y r = sym (rest_t5 r)
  value_t5 (w ∷ ws) y r = alone (spec.only (tests.is_changed w.conv) (spec.refusal rule.T5 (expr_place (core_of y)))) (t5 ws r)

  ref_t5 : (ws : List Wanted) (at : Place) (p : PlaceExpr) (r : CoreArgs) → Splits t5 ws (RefArg at (core_place p).0 (core_place p).1 r) (RefArg at (core_place p).0 (core_place p).1 NoArgs) r
  ref_t5 [] at p r = sym (rest_t5 r)
  ref_t5 (w ∷ ws) at p r = alone (spec.only (not (tests.is_changed w.conv)) (spec.refusal rule.T5 at)) (t5 ws r)

  value_t7 : (ws : List Wanted) (y : Expr) (r : CoreArgs) → Splits t7 ws (ValueArg (core_of y) r) (ValueArg (core_of y) NoArgs) r
  value_t7 [] y r = refl
  value_t7 (w ∷ ws) y r = alone (if tests.is_moved w.conv then seen.move_t7 a y else []) (t7 ws r)

  ref_t7 : (ws : List Wanted) (at : Place) (p : PlaceExpr) (r : CoreArgs) → Splits t7 ws (RefArg at (core_place p).0 (core_place p).1 r) (RefArg at (core_place p).0 (core_place p).1 NoArgs) r
  ref_t7 [] at p r = alone (seen.root_t7 a (core_place p).0) (t7 [] r)
  ref_t7 (w ∷ ws) at p r = alone (seen.root_t7 a (core_place p).0) (t7 ws r)

  split_t1 : (ws : List Wanted) (x : Arg) (rest : CoreArgs) (u : ArgLayer) → out-Arg x ≡ u → Splits t1 ws (core_arg x rest) (core_arg x NoArgs) rest
  split_t1 ws x rest (Arg-F.Value y) e = rw (lemmas.by_value x rest y e) (rw (lemmas.by_value x NoArgs y e) (value_t1 ws y rest))
  split_t1 ws x rest (Arg-F.Ref at p) e = rw (lemmas.by_ref x rest at p e) (rw (lemmas.by_ref x NoArgs at p e) (ref_t1 ws at p rest))

  split_t5 : (ws : List Wanted) (x : Arg) (rest : CoreArgs) (u : ArgLayer) → out-Arg x ≡ u → Splits t5 ws (core_arg x rest) (core_arg x NoArgs) rest
  split_t5 ws x rest (Arg-F.Value y) e = rw (lemmas.by_value x rest y e) (rw (lemmas.by_value x NoArgs y e) (value_t5 ws y rest))
  split_t5 ws x rest (Arg-F.Ref at p) e = rw (lemmas.by_ref x rest at p e) (rw (lemmas.by_ref x NoArgs at p e) (ref_t5 ws at p rest))

  split_t7 : (ws : List Wanted) (x : Arg) (rest : CoreArgs) (u : ArgLayer) → out-Arg x ≡ u → Splits t7 ws (core_arg x rest) (core_arg x NoArgs) rest
  split_t7 ws x rest (Arg-F.Value y) e = rw (lemmas.by_value x rest y e) (rw (lemmas.by_value x NoArgs y e) (value_t7 ws y rest))
  split_t7 ws x rest (Arg-F.Ref at p) e = rw (lemmas.by_ref x rest at p e) (rw (lemmas.by_ref x NoArgs at p e) (ref_t7 ws at p rest))

  split_t6 : (x : Arg) (rest : CoreArgs) (u : ArgLayer) → out-Arg x ≡ u → t6 (core_arg x rest) ≡ t6 (core_arg x NoArgs) ++ t6 rest
  split_t6 x rest (Arg-F.Value y) e = rw (lemmas.by_value x rest y e) (rw (lemmas.by_value x NoArgs y e) refl)
  split_t6 x rest (Arg-F.Ref at p) e = rw (lemmas.by_ref x rest at p e) (rw (lemmas.by_ref x NoArgs at p e) (alone (seen.root_t6 a (core_place p).0) (t6 rest)))

  module _ (args : List Arg) (i : ℕ) (x : Arg) (within : i < length args) (is : x ≡ get_or args i x) where
    pub next_t1 : (ws : List Wanted) → seen.arg_t1 a ws (drop i args) ≡ seen.this_t1 a ws x ++ seen.arg_t1 a (drop 1 ws) (drop (i + 1) args)
    next_t1 ws = ap (λ w. t1 ws (core_args w)) (first_left args i x within is) ∙ split_t1 ws x (core_args (drop (i + 1) args)) (out-Arg x) refl

    pub next_t5 : (ws : List Wanted) → seen.mark_t5 a ws (drop i args) ≡ seen.this_t5 a ws x ++ seen.mark_t5 a (drop 1 ws) (drop (i + 1) args)
    next_t5 ws = ap (λ w. t5 ws (core_args w)) (first_left args i x within is) ∙ split_t5 ws x (core_args (drop (i + 1) args)) (out-Arg x) refl

    pub next_t6 : seen.lent_t6 a (drop i args) ≡ seen.this_t6 a x ++ seen.lent_t6 a (drop (i + 1) args)
    next_t6 = ap (λ w. t6 (core_args w)) (first_left args i x within is) ∙ split_t6 x (core_args (drop (i + 1) args)) (out-Arg x) refl

    pub next_t7 : (ws : List Wanted) → seen.arg_t7 a ws (drop i args) ≡ seen.this_t7 a ws x ++ seen.arg_t7 a (drop 1 ws) (drop (i + 1) args)
    next_t7 ws = ap (λ w. t7 ws (core_args w)) (first_left args i x within is) ∙ split_t7 ws x (core_args (drop (i + 1) args)) (out-Arg x) refl

  -- ---- calls

  pub call_opened : (c : Call) → seen.call_judged a c ≡ seen.signed_judged a (here.signature_of a (out-Call c).callee) c
  call_opened c = ap (spec.call_judged (here.tree_in a) (here.holding_in a) (here.scope_in a)) (lemmas.opened_call c)

-- ---- how many

counted_by : (x : Arg) (rest : CoreArgs) (u : ArgLayer) → out-Arg x ≡ u → spec.count_of (core_arg x rest) ≡ suc (spec.count_of rest)
counted_by x rest (Arg-F.Value y) e = ap spec.count_of (lemmas.by_value x rest y e)
counted_by x rest (Arg-F.Ref at p) e = ap spec.count_of (lemmas.by_ref x rest at p e)

pub args_counted : (args : List Arg) → spec.count_of (core_args args) ≡ length args
args_counted [] = refl
args_counted (x ∷ args) = counted_by x (core_args args) (out-Arg x) refl ∙ ap suc (args_counted args)
