-- The callee of a spawn and its arguments, as code meets them.
use Rattle.std.proofs.Common.{◌≡◌, ◌<◌, ◌≤◌, ◌+◌, ℕ, List, [], ◌∷◌, ◌++◌, length, map, drop, get_or, slice_get, Option, Some, None, refl, sym, ap, ◌∙◌, arith}
use Rattle.std.proofs.lemmas.List.{drop_all, length-drop}
use Rattle.hv_tree.specs.declared.place.Place.{Place}
use Rattle.hv_tree.specs.declared.types.Name.{Name}
use Rattle.hv_tree.specs.declared.types.Conv.{Conv}
use Rattle.hv_tree.specs.declared.ast.Param.{Param}
use Rattle.hv_tree.specs.declared.ast.Arg.{Arg, out-Arg}
use Rattle.hv_tree.specs.declared.ast.Arg.TheVariants as arg
use Rattle.hv_tree.specs.declared.ast.Arg.TheOpen.{Arg-F}
use Rattle.hv_tree.specs.declared.ast.Call.{Call, out-Call}
use Rattle.hv_tree.specs.declared.ast.Expr.{Expr}
use Rattle.hv_tree.specs.declared.ast.PlaceExpr.{PlaceExpr, out-PlaceExpr}
use Rattle.hv_tree.specs.Core.{CoreArgs, NoArgs, CallOf, CoreSteps, core_of, core_arg, core_args, core_param}
use Rattle.hv_tree.proofs.CoreLemmas as lemmas
use Rattle.hv_decls.specs.Locals.{CoreBody}
use Rattle.hv_decls.specs.Sites.{bodies_of}
use Rattle.hv_value.specs.ValueTree.{Parts}
use Rattle.hv_sem_copying.specs.declared.end.Cause.TheVariants.{Kinds}
use Rattle.hv_sem_copying.specs.Run.{Res, Now, Is, Halted, Stuck, after, and_then, ◌>>=◌, pure, halt}
use Rattle.hv_sem_copying.specs.Ops as ops
use Rattle.hv_sem_copying.specs.Copying.{Locals}
use Rattle.hv_sem_copying.specs.Calls.{Callee, Constructs, Enters, Child, child_by, passed_captures}
use Rattle.hv_sem_flat.specs.Accesses.{Plain, Spot}
use Rattle.hv_sem_flat.specs.Parts as parts
use Rattle.hv_sem_flat.specs.Flat as flat
use Rattle.hv_eval_state.specs.declared.task.Task.{Task}
use Rattle.hv_eval_state.specs.declared.task.Halt.{Halt}
use Rattle.hv_eval_state.specs.Gives.{now_of, from, halted}
use Rattle.hv_scope.specs.declared.bodies.Body.{Body}
use Rattle.hv_scope.specs.Bodies.{body_by}
use Rattle.hv_lemmas.proofs.Lists.{first_left}
use Rattle.hv_eval_env.specs.declared.level.Level.{Level}
use Rattle.hv_eval_env.specs.Level.{tree_in, locals_in, deeper_in, value_in}
use Rattle.hv_eval_calls.specs.declared.passed.Passed.{Passed}
use Rattle.hv_eval_calls.specs.Passes.{passed_by}
use Rattle.hv_eval_calls.specs.Calling.{place_of, callee_in, first_owned, owned_in, all_owned_in, owns_of, begun_in, child_in}
use Rattle.hv_eval_calls.proofs.ArgsLemmas.{ArgLayer, first_got, none_got}

-- ---- an argument by its variant

pub value_owned : (l : Level) (c : Conv) (a : Arg) (x : Expr) (o : Option (Plain Spot)) → a ≡ arg.Value x → o ≡ place_of l (core_of x) → owned_in l c a ≡ parts.own_value c o (value_in l x)
unfolding owned_in
value_owned l c a x o h k = ap (owned_in l c) h ∙ ap (first_owned l c) (lemmas.arg_value NoArgs x) ∙ ap (λ p. parts.own_value c p (value_in l x)) (sym k)

pub ref_owned : (l : Level) (c : Conv) (a : Arg) (at : Place) (p : PlaceExpr) (n : ℕ) (t : Task) → a ≡ arg.Ref at p → from (owned_in l c a) n t ≡ Halted (Stuck Kinds) (now_of t).task
unfolding owned_in halt
ref_owned l c a at p n t h = ap (λ b. from (owned_in l c b) n t) h ∙ ap (λ u. from (first_owned l c u) n t) (lemmas.arg_ref NoArgs at p)

-- ---- arguments in order

module _ (l : Level) (a : Arg) (args : List Arg) (p : Param) (params : List Param) (ps : List ops.Passed) (n : ℕ) (t : Task) where
  -- the arguments behind this one
  abbrev rest : Now Locals × ops.Passed → Res (Now Locals × List ops.Passed)
  rest q = flat.own_values (tree_in l) (locals_in l) (deeper_in l) (core_args args) (map core_param params) (ps ++ q.1 ∷ []) n tt q.0

  abbrev all : CoreArgs → Res (Now Locals × List ops.Passed)
  all c = from (flat.own_values (tree_in l) (locals_in l) (deeper_in l) c (map core_param (p ∷ params)) ps) n t

  abbrev first : CoreArgs → Res (Now Locals × List ops.Passed)
  first c = after (from (first_owned l p.conv c) n t) rest

  by_variant : (u : ArgLayer) → out-Arg a ≡ u → all (core_arg a (core_args args)) ≡ first (core_arg a NoArgs)
  unfolding and_then halt
  by_variant (Arg-F.Value x) e = ap all (lemmas.by_value a (core_args args) x e) ∙ sym (ap first (lemmas.by_value a NoArgs x e))
  by_variant (Arg-F.Ref at q) e = ap all (lemmas.by_ref a (core_args args) at q e) ∙ sym (ap first (lemmas.by_ref a NoArgs at q e))

  owned_step : (z : Res (Now Locals × ops.Passed)) → from (owned_in l p.conv a) n t ≡ z → from (all_owned_in l (a ∷ args) (p ∷ params) ps) n t ≡ after z rest
  unfolding owned_in all_owned_in
  owned_step z h = by_variant (out-Arg a) refl ∙ ap (λ r. after r rest) h

module _ (l : Level) (a : Arg) (args : List Arg) (ps : List ops.Passed) (n : ℕ) (t : Task) where
  -- where there is no parameter
  abbrev none : CoreArgs → Res (Now Locals × List ops.Passed)
  none c = from (flat.own_values (tree_in l) (locals_in l) (deeper_in l) c [] ps) n t

  many : (u : ArgLayer) → out-Arg a ≡ u → none (core_arg a (core_args args)) ≡ Halted (Stuck Kinds) (now_of t).task
  unfolding halt
  many (Arg-F.Value x) e = ap none (lemmas.by_value a (core_args args) x e)
  many (Arg-F.Ref at q) e = ap none (lemmas.by_ref a (core_args args) at q e)

module _ (l : Level) (args : List Arg) (params : List Param) (i : ℕ) (a : Arg) (ps : List ops.Passed) (n : ℕ) (t : Task) where
  behind : (p : Param) (z : Res (Now Locals × ops.Passed)) → i < length args → a ≡ get_or args i a → slice_get params i ≡ Some p → from (owned_in l p.conv a) n t ≡ z →
      from (all_owned_in l (drop i args) (drop i params) ps) n t ≡ after z (rest l a (drop (i + 1) args) p (drop (i + 1) params) ps n t)
  behind p z within is k h =
      ap (λ bs. from (all_owned_in l bs (drop i params) ps) n t) (first_left args i a within is)
      ∙ ap (λ qs. from (all_owned_in l (a ∷ drop (i + 1) args) qs ps) n t) (first_got params i p k)
      ∙ owned_step l a (drop (i + 1) args) p (drop (i + 1) params) ps n t z h

  pub owned_on : (p : Param) (u : Task) (x : ops.Passed) → i < length args → a ≡ get_or args i a → slice_get params i ≡ Some p → from (owned_in l p.conv a) n t ≡ Is (now_of u, x) →
      from (all_owned_in l (drop (i + 1) args) (drop (i + 1) params) (ps ++ x ∷ [])) n u ≡ from (all_owned_in l (drop i args) (drop i params) ps) n t
  unfolding all_owned_in
  owned_on p u x within is k h = sym (behind p (Is (now_of u, x)) within is k h)

  pub owned_halted : (p : Param) (u : Task) (h : Halt) → i < length args → a ≡ get_or args i a → slice_get params i ≡ Some p → from (owned_in l p.conv a) n t ≡ halted h u →
      from (all_owned_in l (drop i args) (drop i params) ps) n t ≡ halted h u
  owned_halted p u h within is k e = behind p (halted h u) within is k e

  pub owned_many : i < length args → a ≡ get_or args i a → slice_get params i ≡ None → from (all_owned_in l (drop i args) (drop i params) ps) n t ≡ Halted (Stuck Kinds) (now_of t).task
  unfolding all_owned_in
  owned_many within is k =
      ap (λ bs. from (all_owned_in l bs (drop i params) ps) n t) (first_left args i a within is)
      ∙ ap (λ qs. from (all_owned_in l (a ∷ drop (i + 1) args) qs ps) n t) (none_got params i k)
      ∙ many l a (drop (i + 1) args) ps n t (out-Arg a) refl

module _ (l : Level) (args : List Arg) (params : List Param) (i : ℕ) (ps : List ops.Passed) (n : ℕ) (t : Task) where
  few : (qs : List Param) → 0 < length qs → from (all_owned_in l [] qs ps) n t ≡ Halted (Stuck Kinds) (now_of t).task
  unfolding all_owned_in halt
  few [] h = absurd (omega (arith, h))
  few (q ∷ qs) h = refl

  pub owned_few : length args ≤ i → i < length params → from (all_owned_in l (drop i args) (drop i params) ps) n t ≡ Halted (Stuck Kinds) (now_of t).task
  owned_few past more =
      ap (λ bs. from (all_owned_in l bs (drop i params) ps) n t) (drop_all i args past)
      ∙ few (drop i params) (let long = length-drop i params in omega (arith, long, more))

  pub owned_all : length args ≤ i → length params ≤ i → from (all_owned_in l (drop i args) (drop i params) ps) n t ≡ Is (now_of t, ps)
  unfolding all_owned_in pure
  owned_all past none =
      ap (λ bs. from (all_owned_in l bs (drop i params) ps) n t) (drop_all i args past)
      ∙ ap (λ qs. from (all_owned_in l [] qs ps) n t) (drop_all i params none)

-- ---- bodies

child_runs : (l : Level) (args : List Arg) (f : ℕ) (captures : Parts) (body : CoreBody) (n : ℕ) (t : Task) (z : Res (Now Locals × List ops.Passed)) → slice_get (bodies_of (tree_in l)) f ≡ Some body →
    from (owns_of l (core_args args) f captures body) n t ≡ z → from (begun_in l args f captures) n t ≡ after z (λ x. Is (x.0, record { number = f; body = body; given = x.1 }))
unfolding begun_in and_then pure
child_runs l args f captures body n t z e h = rw e (rw h refl)

-- the body that stands under the number, behind whose captures the arguments come
pub begun_runs : (l : Level) (args : List Arg) (f : ℕ) (captures : Parts) (b : Body) (given : List Passed) (n : ℕ) (t : Task) (z : Res (Now Locals × List ops.Passed)) →
    slice_get (bodies_of (tree_in l)) f ≡ Some (body_by b) → map passed_by given ≡ passed_captures captures → from (all_owned_in l args b.params.now (map passed_by given)) n t ≡ z →
    from (begun_in l args f captures) n t ≡ after z (λ x. Is (x.0, record { number = f; body = body_by b; given = x.1 }))
unfolding all_owned_in
begun_runs l args f captures b given n t z e k h =
    child_runs l args f captures (body_by b) n t z e (sym (ap (λ ps. from (all_owned_in l args b.params.now ps) n t) k) ∙ h)

pub begun_lacks : (l : Level) (args : List Arg) (f : ℕ) (captures : Parts) (n : ℕ) (t : Task) → slice_get (bodies_of (tree_in l)) f ≡ None → from (begun_in l args f captures) n t ≡ Halted (Stuck Kinds) (now_of t).task
unfolding begun_in and_then halt
begun_lacks l args f captures n t e = rw e refl

-- ---- children by what is called

abbrev child_of : Level → Call → Callee → Plain Child
child_of l c who = child_by (tree_in l) who (owns_of l (core_args (out-Call c).args))

child_opened : (l : Level) (c : Call) → child_in l c ≡ callee_in l (out-PlaceExpr (out-Call c).callee).root (out-PlaceExpr (out-Call c).callee).steps >>= child_of l c
unfolding child_in
child_opened l c =
    ap (flat.child (tree_in l) (locals_in l) (deeper_in l)) (lemmas.opened_call c)
    ∙ ap (λ (q : Name × CoreSteps). flat.child (tree_in l) (locals_in l) (deeper_in l) (CallOf q.0 q.1 (out-Call c).paren (core_args (out-Call c).args))) (lemmas.opened_place (out-Call c).callee)

callee_done : (l : Level) (c : Call) (n : ℕ) (t : Task) (z : Res (Now Locals × Callee)) → from (callee_in l (out-PlaceExpr (out-Call c).callee).root (out-PlaceExpr (out-Call c).callee).steps) n t ≡ z →
    from (child_in l c) n t ≡ after z (λ x. child_of l c x.1 n tt x.0)
unfolding and_then
callee_done l c n t z h = ap (λ (r : Plain Child). from r n t) (child_opened l c) ∙ ap (λ (r : Res (Now Locals × Callee)). after r (λ x. child_of l c x.1 n tt x.0)) h

pub child_constructs : (l : Level) (c : Call) (n : ℕ) (t u : Task) → from (callee_in l (out-PlaceExpr (out-Call c).callee).root (out-PlaceExpr (out-Call c).callee).steps) n t ≡ Is (now_of u, Constructs) →
    from (child_in l c) n t ≡ Halted (Stuck Kinds) (now_of u).task
unfolding halt
child_constructs l c n t u h = callee_done l c n t (Is (now_of u, Constructs)) h

pub child_enters : (l : Level) (c : Call) (f : ℕ) (captures : Parts) (n : ℕ) (t u : Task) → from (callee_in l (out-PlaceExpr (out-Call c).callee).root (out-PlaceExpr (out-Call c).callee).steps) n t ≡ Is (now_of u, Enters f captures) →
    from (child_in l c) n t ≡ from (begun_in l (out-Call c).args f captures) n u
unfolding begun_in
child_enters l c f captures n t u h = callee_done l c n t (Is (now_of u, Enters f captures)) h

pub child_halted : (l : Level) (c : Call) (n : ℕ) (t u : Task) (h : Halt) → from (callee_in l (out-PlaceExpr (out-Call c).callee).root (out-PlaceExpr (out-Call c).callee).steps) n t ≡ halted h u → from (child_in l c) n t ≡ halted h u
child_halted l c n t u h k = callee_done l c n t (halted h u) k
