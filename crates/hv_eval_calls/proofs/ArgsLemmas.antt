-- The arguments of a call, one after the other.
use Rattle.std.proofs.Common.{◌≡◌, ◌<◌, ◌≤◌, ◌+◌, ℕ, zero, suc, List, [], ◌∷◌, ◌++◌, length, map, drop, get_or, slice_get, Some, None, refl, sym, ap, ◌∙◌, arith}
use Rattle.std.proofs.lemmas.Option.{slice_get_within, get_or_from_slice_get}
use Rattle.std.proofs.lemmas.List.{drop_all, length-drop}
use Rattle.std.proofs.Math.Seq.{drop-nil}
use Rattle.hv_tree.specs.declared.ast.Param.{Param}
use Rattle.hv_tree.specs.declared.ast.Arg.{Arg, out-Arg}
use Rattle.hv_tree.specs.declared.ast.Block.{Block}
use Rattle.hv_tree.specs.declared.ast.Branch.{Branch}
use Rattle.hv_tree.specs.declared.ast.Call.{Call}
use Rattle.hv_tree.specs.declared.ast.Expr.{Expr}
use Rattle.hv_tree.specs.declared.ast.ExprKind.{ExprKind}
use Rattle.hv_tree.specs.declared.ast.PlaceExpr.{PlaceExpr}
use Rattle.hv_tree.specs.declared.ast.Step.{Step}
use Rattle.hv_tree.specs.declared.ast.Stmt.{Stmt}
use Rattle.hv_tree.specs.declared.ast.StmtKind.{StmtKind}
use Rattle.hv_tree.specs.declared.ast.Arg.TheOpen.{Arg-F}
use Rattle.hv_tree.specs.Core.{CoreArgs, NoArgs, core_arg, core_args, core_param}
use Rattle.hv_tree.proofs.CoreLemmas as lemmas
use Rattle.hv_sem_copying.specs.declared.end.Cause.TheVariants.{Kinds}
use Rattle.hv_sem_copying.specs.Run.{Res, Now, Is, Halted, Stuck, after, and_then, ◌>>=◌, pure, halt, counted_from}
use Rattle.hv_sem_copying.specs.Ops.{Passed, Lent}
use Rattle.hv_sem_copying.specs.Copying.{Locals}
use Rattle.hv_sem_flat.specs.Accesses.{Plain, Access, access, opened}
use Rattle.hv_sem_flat.specs.Parts as parts
use Rattle.hv_sem_flat.specs.Flat as flat
use Rattle.hv_eval_state.specs.declared.task.Task.{Task}
use Rattle.hv_eval_state.specs.declared.task.Halt.{Halt}
use Rattle.hv_eval_state.specs.Gives.{now_of, from, halted}
use Rattle.hv_lemmas.proofs.Lists.{first_left}
use Rattle.hv_eval_env.specs.declared.level.Level.{Level}
use Rattle.hv_eval_env.specs.Level.{tree_in, locals_in, deeper_in}
use Rattle.hv_eval_calls.specs.Arguments.{Sofar, taken_one}
use Rattle.hv_eval_calls.specs.Calling.{first_argument, argument_in, one_in, args_in}

abbrev pub ArgLayer : Type 0
ArgLayer = Arg-F Arg ExprKind Step StmtKind Block Branch Call Expr PlaceExpr Stmt

-- what follows an argument
abbrev Rest : Type 0
Rest = ℕ → List Passed → List Access → Plain parts.Given

lends : (go : Rest) (n : ℕ) (r : Res (Now Locals × Unit {0})) (x : Sofar) → after r (λ z. go x.0 x.1 x.2 n tt z.0) ≡ after {A = Now Locals × Sofar} (after r (λ z. Is (z.0, x))) (λ q. go q.1.0 q.1.1 q.1.2 n tt q.0)
lends go n (Is z) x = refl
lends go n (Halted h w) x = refl

-- an argument is taken, and the rest follows
took : (g : parts.Argument) (m : ℕ) (ps : List Passed) (opens : List Access) (go : Rest) (n : ℕ) (s : Now Locals) → parts.taken g m ps opens go n tt s ≡ after (taken_one g m ps opens n tt s) (λ q. go q.1.0 q.1.1 q.1.2 n tt q.0)
unfolding and_then pure
took (parts.Owns mode t) m ps opens go n s = refl
took (parts.Lends mode p) m ps opens go n s = lends go n (opened (access mode m p) n tt s) (suc m, ps ++ Lent m ∷ [], access mode m p ∷ opens)

evaluated : (go : Rest) (m : ℕ) (ps : List Passed) (opens : List Access) (n : ℕ) (r : Res (Now Locals × parts.Argument)) (z : Res (Now Locals × Sofar)) →
    after r (λ y. taken_one y.1 m ps opens n tt y.0) ≡ z → after r (λ y. parts.taken y.1 m ps opens go n tt y.0) ≡ after z (λ q. go q.1.0 q.1.1 q.1.2 n tt q.0)
evaluated go m ps opens n (Is y) z h = took y.1 m ps opens go n y.0 ∙ ap (λ w. after w (λ q. go q.1.0 q.1.1 q.1.2 n tt q.0)) h
evaluated go m ps opens n (Halted h w) z k = ap (λ x. after x (λ q. go q.1.0 q.1.1 q.1.2 n tt q.0)) k

module _ (l : Level) (a : Arg) (args : List Arg) (p : Param) (params : List Param) (m : ℕ) (ps : List Passed) (opens : List Access) where
  -- the arguments behind this one
  abbrev rest : Rest
  rest k qs more = flat.args_from (tree_in l) (locals_in l) (deeper_in l) (core_args args) (map core_param params) k qs more

  abbrev all : CoreArgs → Plain parts.Given
  all c = flat.args_from (tree_in l) (locals_in l) (deeper_in l) c (map core_param (p ∷ params)) m ps opens

  abbrev first : CoreArgs → Plain parts.Given
  first c = counted_from m (first_argument l p.conv c) >>= (λ g. parts.taken g m ps opens rest)

  by_variant : (u : ArgLayer) → out-Arg a ≡ u → all (core_arg a (core_args args)) ≡ first (core_arg a NoArgs)
  by_variant (Arg-F.Value x) e = ap all (lemmas.by_value a (core_args args) x e) ∙ sym (ap first (lemmas.by_value a NoArgs x e))
  by_variant (Arg-F.Ref at q) e = ap all (lemmas.by_ref a (core_args args) at q e) ∙ sym (ap first (lemmas.by_ref a NoArgs at q e))

  args_step : (n : ℕ) (t : Task) (z : Res (Now Locals × Sofar)) → from (one_in l p.conv a m ps opens) n t ≡ z → from (args_in l (a ∷ args) (p ∷ params) m ps opens) n t ≡ after z (λ q. rest q.1.0 q.1.1 q.1.2 n tt q.0)
  unfolding one_in args_in argument_in and_then counted_from
  args_step n t z h = ap (λ (r : Plain parts.Given). from r n t) (by_variant (out-Arg a) refl) ∙ evaluated rest m ps opens n (first_argument l p.conv (core_arg a NoArgs) m tt (now_of t)) z h

module _ (l : Level) (a : Arg) (args : List Arg) (m : ℕ) (ps : List Passed) (opens : List Access) where
  -- where there is no parameter
  abbrev none : CoreArgs → Plain parts.Given
  none c = flat.args_from (tree_in l) (locals_in l) (deeper_in l) c [] m ps opens

  many : (u : ArgLayer) (n : ℕ) (t : Task) → out-Arg a ≡ u → from (none (core_arg a (core_args args))) n t ≡ Halted (Stuck Kinds) (now_of t).task
  unfolding halt
  many (Arg-F.Value x) n t e = ap (λ c. from (none c) n t) (lemmas.by_value a (core_args args) x e)
  many (Arg-F.Ref at q) n t e = ap (λ c. from (none c) n t) (lemmas.by_ref a (core_args args) at q e)

pub first_got : {A : Type 0} (xs : List A) (i : ℕ) (x : A) → slice_get xs i ≡ Some x → drop i xs ≡ x ∷ drop (i + 1) xs
first_got xs i x h = first_left xs i x (slice_get_within xs i x h) (sym (get_or_from_slice_get xs i x x h))

pub none_got : {A : Type 0} (xs : List A) (i : ℕ) → slice_get xs i ≡ None → drop i xs ≡ []
none_got [] i h = drop-nil i
none_got (x ∷ xs) zero h = cc
none_got (x ∷ xs) (suc i) h = none_got xs i h

module _ (l : Level) (args : List Arg) (params : List Param) (i : ℕ) (a : Arg) (m : ℕ) (ps : List Passed) (opens : List Access) where
  pub args_on : (p : Param) (n : ℕ) (t u : Task) (x : Sofar) → i < length args → a ≡ get_or args i a → slice_get params i ≡ Some p → from (one_in l p.conv a m ps opens) n t ≡ Is (now_of u, x) →
      from (args_in l (drop (i + 1) args) (drop (i + 1) params) x.0 x.1 x.2) n u ≡ from (args_in l (drop i args) (drop i params) m ps opens) n t
  unfolding args_in
  args_on p n t u x within is k h =
      sym (ap (λ bs. from (args_in l bs (drop i params) m ps opens) n t) (first_left args i a within is)
      ∙ ap (λ qs. from (args_in l (a ∷ drop (i + 1) args) qs m ps opens) n t) (first_got params i p k)
      ∙ args_step l a (drop (i + 1) args) p (drop (i + 1) params) m ps opens n t (Is (now_of u, x)) h)

  pub args_halted : (p : Param) (n : ℕ) (t u : Task) (h : Halt) → i < length args → a ≡ get_or args i a → slice_get params i ≡ Some p → from (one_in l p.conv a m ps opens) n t ≡ halted h u →
      from (args_in l (drop i args) (drop i params) m ps opens) n t ≡ halted h u
  args_halted p n t u h within is k e =
      ap (λ bs. from (args_in l bs (drop i params) m ps opens) n t) (first_left args i a within is)
      ∙ ap (λ qs. from (args_in l (a ∷ drop (i + 1) args) qs m ps opens) n t) (first_got params i p k)
      ∙ args_step l a (drop (i + 1) args) p (drop (i + 1) params) m ps opens n t (halted h u) e

  pub args_many : (n : ℕ) (t : Task) → i < length args → a ≡ get_or args i a → slice_get params i ≡ None → from (args_in l (drop i args) (drop i params) m ps opens) n t ≡ Halted (Stuck Kinds) (now_of t).task
  unfolding args_in
  args_many n t within is k =
      ap (λ bs. from (args_in l bs (drop i params) m ps opens) n t) (first_left args i a within is)
      ∙ ap (λ qs. from (args_in l (a ∷ drop (i + 1) args) qs m ps opens) n t) (none_got params i k)
      ∙ many l a (drop (i + 1) args) m ps opens (out-Arg a) n t refl

module _ (l : Level) (args : List Arg) (params : List Param) (i : ℕ) (m : ℕ) (ps : List Passed) (opens : List Access) (n : ℕ) (t : Task) where
  few : (qs : List Param) → 0 < length qs → from (args_in l [] qs m ps opens) n t ≡ Halted (Stuck Kinds) (now_of t).task
  unfolding args_in halt
  few [] h = absurd (omega (arith, h))
  few (q ∷ qs) h = refl

  pub args_few : length args ≤ i → i < length params → from (args_in l (drop i args) (drop i params) m ps opens) n t ≡ Halted (Stuck Kinds) (now_of t).task
  args_few past more =
      ap (λ bs. from (args_in l bs (drop i params) m ps opens) n t) (drop_all i args past)
      ∙ few (drop i params) (let long = length-drop i params in omega (arith, long, more))

  pub args_all : length args ≤ i → length params ≤ i → from (args_in l (drop i args) (drop i params) m ps opens) n t ≡ Is (now_of t, (ps, opens))
  unfolding args_in pure
  args_all past none =
      ap (λ bs. from (args_in l bs (drop i params) m ps opens) n t) (drop_all i args past)
      ∙ ap (λ qs. from (args_in l [] qs m ps opens) n t) (drop_all i params none)
