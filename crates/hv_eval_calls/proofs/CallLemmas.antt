-- Calls, as code meets them.
use Rattle.std.proofs.Common.{◌≡◌, ◌<◌, ◌≤◌, ◌+◌, ℕ, List, [], ◌∷◌, ◌++◌, length, map, drop, get_or, slice_get, Some, None, refl, sym, ap, ◌∙◌}
use Rattle.std.proofs.lemmas.List.{drop_all}
use Rattle.hv_tree.specs.declared.place.Place.{Place}
use Rattle.hv_tree.specs.declared.types.Name.{Name}
use Rattle.hv_tree.specs.declared.ast.Arg.{Arg}
use Rattle.hv_tree.specs.declared.ast.Arg.TheVariants as arg
use Rattle.hv_tree.specs.declared.ast.Call.{Call, out-Call}
use Rattle.hv_tree.specs.declared.ast.Expr.{Expr}
use Rattle.hv_tree.specs.declared.ast.PlaceExpr.{PlaceExpr, out-PlaceExpr}
use Rattle.hv_tree.specs.Core.{CallOf, CoreSteps, core_args}
use Rattle.hv_tree.proofs.CoreLemmas as lemmas
use Rattle.hv_decls.specs.Locals.{CoreBody}
use Rattle.hv_decls.specs.Sites.{bodies_of}
use Rattle.hv_value.specs.ValueTree.{ValueTree, Parts}
use Rattle.hv_sem_copying.specs.declared.end.Cause.TheVariants.{Kinds}
use Rattle.hv_sem_copying.specs.Run.{Res, Now, Is, Halted, Stuck, Flow, after, and_then, ◌>>=◌, pure, halt}
use Rattle.hv_sem_copying.specs.Copying.{Locals}
use Rattle.hv_sem_copying.specs.Calls.{Callee, Constructs, Enters, call_by, passed_captures, result_of}
use Rattle.hv_sem_flat.specs.Accesses.{Plain}
use Rattle.hv_sem_flat.specs.Parts.{counting}
use Rattle.hv_sem_flat.specs.Flat as flats
use Rattle.hv_eval_state.specs.declared.task.Task.{Task}
use Rattle.hv_eval_state.specs.declared.task.Halt.{Halt}
use Rattle.hv_eval_state.specs.Gives.{now_of, from, halted}
use Rattle.hv_eval_state.specs.declared.access.Access.{Access}
use Rattle.hv_eval_state.specs.Opened.{last_first}
use Rattle.hv_scope.specs.declared.bodies.Body.{Body}
use Rattle.hv_scope.specs.Bodies.{body_by}
use Rattle.hv_lemmas.proofs.Lists.{first_left}
use Rattle.hv_eval_env.specs.declared.level.Level.{Level}
use Rattle.hv_eval_env.specs.Level.{tree_in, locals_in, deeper_in, value_in}
use Rattle.hv_eval_calls.specs.declared.passed.Passed.{Passed}
use Rattle.hv_eval_calls.specs.Passes.{passed_by}
use Rattle.hv_eval_calls.specs.Entered.{entered_in}
use Rattle.hv_eval_calls.specs.Calling.{callee_in, args_in, parts_in, constructed_in, bodied_in, runs_of, called_in, call_in}

-- ---- constructions

pub part_next : (l : Level) (vs : List ValueTree) (args : List Arg) (i : ℕ) (a : Arg) (x : Expr) (v : ValueTree) (n : ℕ) (t u : Task) → i < length args → a ≡ get_or args i a → a ≡ arg.Value x →
    from (value_in l x) n t ≡ Is (now_of u, v) → from (parts_in l (vs ++ v ∷ []) (drop (i + 1) args)) n u ≡ from (parts_in l vs (drop i args)) n t
unfolding parts_in and_then
part_next l vs args i a x v n t u within is h e =
    sym (ap (λ (bs : List Arg). from (parts_in l vs bs) n t) (first_left args i a within is ∙ ap (λ b. b ∷ drop (i + 1) args) h)
    ∙ ap (λ c. from (flats.parts_from (tree_in l) (locals_in l) (deeper_in l) vs c) n t) (lemmas.arg_value (core_args (drop (i + 1) args)) x)
    ∙ ap (λ (r : Res (Now Locals × ValueTree)). after r (λ z. parts_in l (vs ++ z.1 ∷ []) (drop (i + 1) args) n tt z.0)) e)

pub part_halted : (l : Level) (vs : List ValueTree) (args : List Arg) (i : ℕ) (a : Arg) (x : Expr) (n : ℕ) (t u : Task) (h : Halt) → i < length args → a ≡ get_or args i a → a ≡ arg.Value x →
    from (value_in l x) n t ≡ halted h u → from (parts_in l vs (drop i args)) n t ≡ halted h u
unfolding parts_in and_then
part_halted l vs args i a x n t u h within is k e =
    ap (λ (bs : List Arg). from (parts_in l vs bs) n t) (first_left args i a within is ∙ ap (λ b. b ∷ drop (i + 1) args) k)
    ∙ ap (λ c. from (flats.parts_from (tree_in l) (locals_in l) (deeper_in l) vs c) n t) (lemmas.arg_value (core_args (drop (i + 1) args)) x)
    ∙ ap (λ (r : Res (Now Locals × ValueTree)). after r (λ z. parts_in l (vs ++ z.1 ∷ []) (drop (i + 1) args) n tt z.0)) e

pub part_ref : (l : Level) (vs : List ValueTree) (args : List Arg) (i : ℕ) (a : Arg) (at : Place) (p : PlaceExpr) (n : ℕ) (t : Task) → i < length args → a ≡ get_or args i a → a ≡ arg.Ref at p →
    from (parts_in l vs (drop i args)) n t ≡ Halted (Stuck Kinds) (now_of t).task
unfolding parts_in halt
part_ref l vs args i a at p n t within is k =
    ap (λ (bs : List Arg). from (parts_in l vs bs) n t) (first_left args i a within is ∙ ap (λ b. b ∷ drop (i + 1) args) k)
    ∙ ap (λ c. from (flats.parts_from (tree_in l) (locals_in l) (deeper_in l) vs c) n t) (lemmas.arg_ref (core_args (drop (i + 1) args)) at p)

pub parts_all : (l : Level) (vs : List ValueTree) (args : List Arg) (i n : ℕ) (t : Task) → length args ≤ i → from (parts_in l vs (drop i args)) n t ≡ Is (now_of t, vs)
unfolding parts_in pure
parts_all l vs args i n t past = ap (λ bs. from (parts_in l vs bs) n t) (drop_all i args past)

-- ---- bodies

body_runs : (l : Level) (at : Place) (args : List Arg) (f : ℕ) (captures : Parts) (body : CoreBody) (n : ℕ) (t : Task) (z : Res (Now Locals × Flow)) → slice_get (bodies_of (tree_in l)) f ≡ Some body →
    from (runs_of l at (core_args args) f captures body) n t ≡ z → from (called_in l at args f captures) n t ≡ after z (λ x. Is (x.0, result_of x.1))
unfolding called_in and_then pure
body_runs l at args f captures body n t z e h = rw e (rw h refl)

-- the body that stands under the number, behind whose captures the arguments come
pub called_runs : (l : Level) (at : Place) (args : List Arg) (f : ℕ) (captures : Parts) (b : Body) (given : List Passed) (opens : List Access) (n : ℕ) (t : Task) (z : Res (Now Locals × Flow)) →
    slice_get (bodies_of (tree_in l)) f ≡ Some (body_by b) → map passed_by given ≡ passed_captures captures → opens ≡ [] →
    from (bodied_in l at f (body_by b) b.params.now args n (map passed_by given) (last_first opens)) n t ≡ z →
    from (called_in l at args f captures) n t ≡ after z (λ x. Is (x.0, result_of x.1))
unfolding bodied_in args_in entered_in counting and_then
called_runs l at args f captures b given opens n t z e k none h =
    body_runs l at args f captures (body_by b) n t z e
    (sym (ap (λ ps. from (bodied_in l at f (body_by b) b.params.now args n ps (last_first opens)) n t) k ∙ ap (λ os. from (bodied_in l at f (body_by b) b.params.now args n (passed_captures captures) (last_first os)) n t) none) ∙ h)

pub called_lacks : (l : Level) (at : Place) (args : List Arg) (f : ℕ) (captures : Parts) (n : ℕ) (t : Task) → slice_get (bodies_of (tree_in l)) f ≡ None → from (called_in l at args f captures) n t ≡ Halted (Stuck Kinds) (now_of t).task
unfolding called_in and_then halt
called_lacks l at args f captures n t e = rw e refl

-- ---- calls by what is called

abbrev called_by : Level → Call → Callee → Plain ValueTree
called_by l c who = call_by (tree_in l) who (flats.parts_from (tree_in l) (locals_in l) (deeper_in l) [] (core_args (out-Call c).args)) (runs_of l (out-Call c).paren (core_args (out-Call c).args))

call_opened : (l : Level) (c : Call) → call_in l c ≡ callee_in l (out-PlaceExpr (out-Call c).callee).root (out-PlaceExpr (out-Call c).callee).steps >>= called_by l c
unfolding call_in
call_opened l c =
    ap (flats.call (tree_in l) (locals_in l) (deeper_in l)) (lemmas.opened_call c)
    ∙ ap (λ (q : Name × CoreSteps). flats.call (tree_in l) (locals_in l) (deeper_in l) (CallOf q.0 q.1 (out-Call c).paren (core_args (out-Call c).args))) (lemmas.opened_place (out-Call c).callee)

callee_done : (l : Level) (c : Call) (n : ℕ) (t : Task) (z : Res (Now Locals × Callee)) → from (callee_in l (out-PlaceExpr (out-Call c).callee).root (out-PlaceExpr (out-Call c).callee).steps) n t ≡ z →
    from (call_in l c) n t ≡ after z (λ x. called_by l c x.1 n tt x.0)
unfolding and_then
callee_done l c n t z h = ap (λ (r : Plain ValueTree). from r n t) (call_opened l c) ∙ ap (λ (r : Res (Now Locals × Callee)). after r (λ x. called_by l c x.1 n tt x.0)) h

pub call_constructs : (l : Level) (c : Call) (n : ℕ) (t u : Task) → from (callee_in l (out-PlaceExpr (out-Call c).callee).root (out-PlaceExpr (out-Call c).callee).steps) n t ≡ Is (now_of u, Constructs) →
    from (call_in l c) n t ≡ from (constructed_in l (out-Call c).args) n u
unfolding constructed_in parts_in
call_constructs l c n t u h = callee_done l c n t (Is (now_of u, Constructs)) h

pub call_enters : (l : Level) (c : Call) (f : ℕ) (captures : Parts) (n : ℕ) (t u : Task) → from (callee_in l (out-PlaceExpr (out-Call c).callee).root (out-PlaceExpr (out-Call c).callee).steps) n t ≡ Is (now_of u, Enters f captures) →
    from (call_in l c) n t ≡ from (called_in l (out-Call c).paren (out-Call c).args f captures) n u
unfolding called_in
call_enters l c f captures n t u h = callee_done l c n t (Is (now_of u, Enters f captures)) h

pub call_halted : (l : Level) (c : Call) (n : ℕ) (t u : Task) (h : Halt) → from (callee_in l (out-PlaceExpr (out-Call c).callee).root (out-PlaceExpr (out-Call c).callee).steps) n t ≡ halted h u → from (call_in l c) n t ≡ halted h u
call_halted l c n t u h k = callee_done l c n t (halted h u) k
