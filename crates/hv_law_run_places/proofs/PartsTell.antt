-- Each construct ends only at such places, where its parts do.
use Rattle.std.proofs.Common.{ℕ, zero, suc, ◌+◌, ℤ, pos, negsuc, List, [], ◌∷◌, length, Option, Some, None}
use Rattle.std.specs.List.{slice_get}
use Rattle.hv_tree.specs.declared.place.Place.{Place}
use Rattle.hv_tree.specs.declared.types.Name.{Name}
use Rattle.hv_tree.specs.declared.types.Conv.{Conv}
use Rattle.hv_tree.specs.declared.types.Conv.TheVariants as conv
use Rattle.hv_tree.specs.Core.{Core, CoreFun, CoreStruct, CoreTy, CoreSteps, NoSteps, FieldStep, IndexStep}
use Rattle.hv_decls.specs.Types.{fun_in, struct_in}
use Rattle.hv_decls.specs.Locals.{Local, CoreBody, locals_of, number_in}
use Rattle.hv_decls.specs.Sites.{bodies_of}
use Rattle.hv_decls.specs.Statics.{static_steps}
use Rattle.hv_value.specs.ValueTree.{ValueTree, Hole, Number, Truth, Fields, Elements, Closure, Parts, Nil, Cons, row}
use Rattle.hv_value.specs.Holes.{is_whole, emptied}
use Rattle.hv_value.specs.Operators.{Given, Gives, Overflow, DivZero, BadLength, TooLong, filled, length_of}
use Rattle.hv_value.specs.Walk.{Link}
use Rattle.hv_value.specs.Sizes.{copy_cost, fill_cost}
use Rattle.hv_sem_copying.specs.declared.end.TrapKind.TheVariants as trap_kind
use Rattle.hv_sem_copying.specs.declared.end.Cause.TheVariants.{Kinds, Holes}
use Rattle.hv_sem_copying.specs.Run.{Run, Flow}
use Rattle.hv_sem_copying.specs.Ops.{Spot, Mode, Reads, Writes, Sets, Passed, Value, Lent, Ops}
use Rattle.hv_sem_copying.specs.Operations.{number, truth, given, applied, natural, filled_with}
use Rattle.hv_sem_copying.specs.Places.{body_number, type_of, whole, local, found, copied, moved, counted, all_of, all_found, declared, captured}
use Rattle.hv_sem_copying.specs.Calls.{Callee, Constructs, Enters, Placed, Deeper, result_of, ended, value_callee, struct_callee, fun_callee, top_callee, body_of, callee, lent, pass_value, pass_place, own_value, if_deeper, entered, call_by, Child, child_by, budget_of, spawned}
use Rattle.hv_sem_copying.specs.Blocks.{chosen, turns, repeated, bound}
use Rattle.hv_sem_copying.specs.Evaluate.{function_value, top_value, named, if_local}
use Rattle.hv_law_places.specs.Places.{in_names}
use Rattle.hv_lemmas.proofs.Each.{Each}
use Rattle.hv_law_run_places.proofs.Tells.{Tells, Any, LinkTells, Telling, bind, next, pure_tells, stuck_tells, trap_tells, spent_tells, known_tells, if_tells, pay_tells, reference_tells, unless_tells}

-- a place that is there or not
abbrev pub PlacedTells : {C S : Type 0} → (Place → Type 0) → Placed C S → Type 0
PlacedTells P None = Unit {0}
PlacedTells P (Some p) = Tells P Any p

-- bodies to enter, or none
abbrev pub DeeperTells : {C S : Type 0} → (Place → Type 0) → Deeper C S → Type 0
DeeperTells P None = Unit {0}
DeeperTells P (Some f) = (b : ℕ) → Tells P Any (f b)

module _ {C S : Type 0} (P : Place → Type 0) (o : Ops C S) (ok : Telling P o) where
  abbrev Goes : {X : Type 0} → Run C S X → Type 0
  Goes p = Tells P Any p

  -- ---- values and operators

  pub number_tells : (v : ValueTree) → Goes (number v)
  number_tells (Number z) = pure_tells z tt
  number_tells Hole = stuck_tells Kinds
  number_tells (Truth b) = stuck_tells Kinds
  number_tells (Fields ts) = stuck_tells Kinds
  number_tells (Elements ts) = stuck_tells Kinds
  number_tells (Closure f ts) = stuck_tells Kinds

  truth_tells : (v : ValueTree) → Goes (truth v)
  truth_tells (Truth b) = pure_tells b tt
  truth_tells Hole = stuck_tells Kinds
  truth_tells (Number z) = stuck_tells Kinds
  truth_tells (Fields ts) = stuck_tells Kinds
  truth_tells (Elements ts) = stuck_tells Kinds
  truth_tells (Closure f ts) = stuck_tells Kinds

  given_tells : (at : Place) → P at → (g : Given) → Goes (given at g)
  given_tells at h (Gives v) = pure_tells v tt
  given_tells at h Overflow = trap_tells trap_kind.Overflow at h
  given_tells at h DivZero = trap_tells trap_kind.DivZero at h
  given_tells at h BadLength = trap_tells trap_kind.BadLength at h
  given_tells at h TooLong = trap_tells trap_kind.TooLong at h

  pub applied_tells : (at : Place) → P at → (g : Option Given) → Goes (applied at g)
  applied_tells at h g = next (known_tells Kinds g) (given_tells at h)

  pub filled_tells : (at : Place) → P at → (v : ValueTree) (z : ℤ) → Goes (filled_with at v z)
  filled_tells at h v z = next (given_tells at h (filled z v)) (λ array. next (pay_tells (fill_cost (natural z) v) at h) (λ paid. pure_tells array tt))

  -- ---- places

  whole_tells : (t : ValueTree) → Goes (whole t)
  whole_tells t = if_tells (is_whole t) (pure_tells t tt) (stuck_tells Holes)

  pub copied_tells : (at : Place) → P at → {p : Run C S (Spot × ValueTree)} → Goes p → Goes (copied at p)
  copied_tells at h k = next k (λ f. next (whole_tells f.1) (λ v. next (pay_tells (copy_cost v) at h) (λ paid. pure_tells v tt)))

  pub counted_tells : (f : Spot × ValueTree) → Goes (counted f)
  counted_tells f = known_tells Holes (length_of f.1)

  moved_tells : (f : Spot × ValueTree) → Goes (moved o f)
  moved_tells f = next (whole_tells f.1) (λ v. next (ok.write f.0 (emptied v)) (λ done. pure_tells v tt))

  module _ (locals : List Local) where
    pub local_tells : (name : Name) → Goes (local locals name)
    local_tells name = known_tells Kinds (number_in locals name.text)

    pub found_tells : (tree : Core) (root : Name) (steps : CoreSteps) {p : Run C S (List (Link Place))} → Tells P (Each (LinkTells P)) p → Goes (found o locals tree root steps p)
    found_tells tree root steps h =
        next (local_tells root) (λ x. bind {Q = Each (LinkTells P)} h (λ links k. ok.look (record { root = x; written = static_steps tree (type_of locals root) steps; links = links }) k))

    pub declared_tells : (name : Name) (v : ValueTree) → Goes (declared o locals name v)
    declared_tells name v = next (local_tells name) (λ x. ok.write (all_of x) v)

    all_found_tells : (name : Name) → Goes (all_found o locals name)
    all_found_tells name = next (local_tells name) (λ x. ok.look (record { root = x; written = []; links = [] }) tt)

    pub captured_tells : (names : List Name) → Each P (in_names names) → Goes (captured o locals names)
    captured_tells [] h = pure_tells Nil tt
    captured_tells (name ∷ names) h = next (copied_tells name.place h.0 (all_found_tells name)) (λ v. next (captured_tells names h.1) (λ vs. pure_tells (Cons v vs) tt))

    pub bound_tells : (name : Name) (p : Placed C S) → PlacedTells P p → {x : Run C S ValueTree} → Goes x → (go : Run C S Flow) → Goes go → Goes (bound o locals name p x go)
    bound_tells name (Some p) h k go g = next h (λ a. next (local_tells name) (λ r. ok.under Reads r a.0 go g))
    bound_tells name None h k go g = next k (λ v. next (declared_tells name v) (λ done. g))

  -- ---- names

  module _ (tree : Core) where
    function_value_tells : (f : Option CoreFun) → Goes (function_value tree f)
    function_value_tells None = stuck_tells Kinds
    function_value_tells (Some f) = next (known_tells Kinds (body_number (bodies_of tree) f.body)) (λ n. pure_tells (Closure n Nil) tt)

    top_value_tells : (root : Name) (steps : CoreSteps) → Goes (top_value tree root steps)
    top_value_tells root NoSteps = function_value_tells (fun_in tree.decls root.text)
    top_value_tells root (FieldStep name rest) = stuck_tells Kinds
    top_value_tells root (IndexStep at x rest) = stuck_tells Kinds

    pub named_tells : (x : Option ℕ) (root : Name) (steps : CoreSteps) → P root.place → {p : Run C S (Spot × ValueTree)} → Goes p → Goes (named tree x root steps p)
    named_tells None root steps h k = top_value_tells root steps
    named_tells (Some x) root steps h k = copied_tells root.place h k

  pub placed_tells : (x : Option ℕ) {p : Run C S (Spot × ValueTree)} → Goes p → PlacedTells P (if_local x p)
  placed_tells None h = tt
  placed_tells (Some x) h = h

  -- ---- tests and loops

  pub chosen_tells : {x : Run C S ValueTree} {p q : Run C S Flow} → Goes x → Goes p → Goes q → Goes (chosen x p q)
  chosen_tells h k l = next h (λ v. next (truth_tells v) (λ b. if_tells b k l))

  turns_tell : (n : ℕ) (at : Place) → P at → {x : Run C S ValueTree} {p : Run C S Flow} → Goes x → Goes p → Goes (turns n at x p)
  turns_tell zero at h k l = spent_tells at h
  turns_tell (suc n) at h k l = next (pay_tells 1 at h) (λ paid. chosen_tells k (next l (unless_tells (turns_tell n at h k l))) (pure_tells None tt))

  pub repeated_tells : (at : Place) → P at → {x : Run C S ValueTree} {p : Run C S Flow} → Goes x → Goes p → Goes (repeated at x p)
  unfolding repeated
  repeated_tells at h k l = record { tells = λ n c s e. (turns_tell (suc s.task.steps) at h k l).tells n c s e }

  -- ---- calls

  pub ended_tells : (result : Option CoreTy) (flow : Flow) → Goes (ended result flow)
  ended_tells (Some t) None = stuck_tells Holes
  ended_tells (Some t) (Some v) = pure_tells (Some v) tt
  ended_tells None flow = pure_tells flow tt

  value_callee_tells : (v : ValueTree) → Goes (value_callee v)
  value_callee_tells (Closure f ts) = pure_tells (Enters f ts) tt
  value_callee_tells Hole = stuck_tells Kinds
  value_callee_tells (Number z) = stuck_tells Kinds
  value_callee_tells (Truth b) = stuck_tells Kinds
  value_callee_tells (Fields ts) = stuck_tells Kinds
  value_callee_tells (Elements ts) = stuck_tells Kinds

  module _ (tree : Core) where
    struct_callee_tells : (s : Option CoreStruct) → Goes (struct_callee tree s)
    struct_callee_tells None = stuck_tells Kinds
    struct_callee_tells (Some s) = pure_tells Constructs tt

    fun_callee_tells : (f : Option CoreFun) (s : Option CoreStruct) → Goes (fun_callee tree f s)
    fun_callee_tells None s = struct_callee_tells s
    fun_callee_tells (Some f) s = next (known_tells Kinds (body_number (bodies_of tree) f.body)) (λ n. pure_tells (Enters n Nil) tt)

    top_callee_tells : (root : Name) (steps : CoreSteps) → Goes (top_callee tree root steps)
    top_callee_tells root NoSteps = fun_callee_tells (fun_in tree.decls root.text) (struct_in tree.decls root.text)
    top_callee_tells root (FieldStep name rest) = stuck_tells Kinds
    top_callee_tells root (IndexStep at x rest) = stuck_tells Kinds

    pub callee_tells : (x : Option ℕ) (root : Name) (steps : CoreSteps) → P root.place → {p : Run C S (Spot × ValueTree)} → Goes p → Goes (callee tree x root steps p)
    callee_tells None root steps h k = top_callee_tells root steps
    callee_tells (Some x) root steps h k = next (copied_tells root.place h k) value_callee_tells

    body_tells : (f : ℕ) → Goes (body_of tree f)
    body_tells f = known_tells Kinds (slice_get (bodies_of tree) f)

    pub call_by_tells : (who : Callee) {p : Run C S (List ValueTree)} → Goes p → (go : ℕ → Parts → CoreBody → Run C S Flow) →
        ((n : ℕ) (captures : Parts) (body : CoreBody) → Goes (go n captures body)) → Goes (call_by tree who p go)
    call_by_tells Constructs h go k = next h (λ vs. pure_tells (Fields (row vs)) tt)
    call_by_tells (Enters n captures) h go k = next (body_tells n) (λ body. next (k n captures body) (λ flow. pure_tells (result_of flow) tt))

    pub child_by_tells : (who : Callee) (go : ℕ → Parts → CoreBody → Run C S (List Passed)) →
        ((n : ℕ) (captures : Parts) (body : CoreBody) → Goes (go n captures body)) → Goes (child_by tree who go)
    child_by_tells Constructs go k = stuck_tells Kinds
    child_by_tells (Enters n captures) go k =
        next (body_tells n) (λ body. next (k n captures body) (λ ps. pure_tells (record { number = n; body = body; given = ps }) tt))

  -- ---- arguments

  lent_tells : (mode : Mode) (p : Spot) (go : Passed → Run C S Flow) → ((a : Passed) → Goes (go a)) → Goes (lent o mode p go)
  lent_tells mode p go h = reference_tells (λ r. o.under mode r p (go (Lent r))) (λ r. ok.under mode r p (go (Lent r)) (h (Lent r)))

  pub pass_value_tells : (c : Conv) (p : Placed C S) → PlacedTells P p → {x : Run C S ValueTree} → Goes x → (go : Passed → Run C S Flow) → ((a : Passed) → Goes (go a)) → Goes (pass_value o c p x go)
  pass_value_tells conv.Let (Some p) h k go g = next h (λ a. lent_tells Reads a.0 go g)
  pass_value_tells conv.Let None h k go g = next k (λ v. g (Value Reads v))
  pass_value_tells conv.Sink (Some p) h k go g = next h (λ a. next (moved_tells a) (λ v. g (Value Writes v)))
  pass_value_tells conv.Sink None h k go g = next k (λ v. g (Value Writes v))
  pass_value_tells conv.Inout p h k go g = stuck_tells Kinds
  pass_value_tells conv.Set p h k go g = stuck_tells Kinds

  pub pass_place_tells : (c : Conv) {p : Run C S (Spot × ValueTree)} → Goes p → (go : Passed → Run C S Flow) → ((a : Passed) → Goes (go a)) → Goes (pass_place o c p go)
  pass_place_tells conv.Inout h go g = next h (λ a. lent_tells Writes a.0 go g)
  pass_place_tells conv.Set h go g = next h (λ a. next (ok.write a.0 (emptied a.1)) (λ done. lent_tells Sets a.0 go g))
  pass_place_tells conv.Let h go g = stuck_tells Kinds
  pass_place_tells conv.Sink h go g = stuck_tells Kinds

  pub own_value_tells : (c : Conv) (p : Placed C S) → PlacedTells P p → {x : Run C S ValueTree} → Goes x → Goes (own_value o c p x)
  own_value_tells conv.Let p h k = next k (λ v. pure_tells (Value Reads v) tt)
  own_value_tells conv.Sink (Some p) h k = next h (λ a. next (moved_tells a) (λ v. pure_tells (Value Writes v) tt))
  own_value_tells conv.Sink None h k = next k (λ v. pure_tells (Value Writes v) tt)
  own_value_tells conv.Inout p h k = stuck_tells Kinds
  own_value_tells conv.Set p h k = stuck_tells Kinds

  -- ---- activations

  deeper_tells : {X : Type 0} (d : Deeper C S) → DeeperTells P d → (at : Place) → P at → (go : (ℕ → Run C S Flow) → Run C S X) →
      ((run : ℕ → Run C S Flow) → ((b : ℕ) → Goes (run b)) → Goes (go run)) → Goes (if_deeper d at go)
  deeper_tells None h at p go k = trap_tells trap_kind.TooDeep at p
  deeper_tells (Some run) h at p go k = k run h

  budget_tells : (at : Place) → P at → (z : ℤ) → Goes (budget_of at z)
  budget_tells at h (pos zero) = trap_tells trap_kind.BadBudget at h
  budget_tells at h (pos (suc k)) = pure_tells (suc k) tt
  budget_tells at h (negsuc k) = trap_tells trap_kind.BadBudget at h

  module _ (deeper : Deeper C S) (down : DeeperTells P deeper) where
    pub entered_tells : (at : Place) → P at → (f : ℕ) (body : CoreBody) (given : List Passed) → Goes (entered o deeper at f body given)
    entered_tells at h f body given = deeper_tells deeper down at h _ (λ run k. next (pay_tells 1 at h) (λ paid. ok.call (length (locals_of body)) given (run f) (k f)))

    pub spawned_tells : (h : ℕ) (at : Place) → P at → (z : ℤ) (child : Child) → Goes (spawned o deeper h at z child)
    spawned_tells h at p z child =
        next (budget_tells at p z) (λ k.
        deeper_tells deeper down at p _ (λ run e. next (pay_tells (1 + k) at p) (λ paid. ok.spawn h k (length (locals_of child.body)) child.given (run child.number) (e child.number))))
