-- Each construct is alike over related operations, where its parts are.
use Rattle.std.proofs.Common.{◌≡◌, ◌≤◌, ◌⊎◌, inl, inr, ℕ, zero, suc, ◌+◌, ℤ, pos, negsuc, List, [], ◌∷◌, length, Option, Some, None, arith}
use Rattle.std.specs.List.{slice_get}
use Rattle.hv_tree.specs.declared.place.Place.{Place}
use Rattle.hv_tree.specs.declared.types.Name.{Name}
use Rattle.hv_tree.specs.declared.types.Conv.{Conv}
use Rattle.hv_tree.specs.declared.types.Conv.TheVariants as conv
use Rattle.hv_tree.specs.Core.{Core, CoreFun, CoreStruct, CoreTy, CoreSteps, NoSteps, FieldStep, IndexStep}
use Rattle.hv_decls.specs.Types.{fun_in, struct_in}
use Rattle.hv_decls.specs.Locals.{Local, CoreBody, locals_of, number_in}
use Rattle.hv_decls.specs.Sites.{bodies_of}
use Rattle.hv_value.specs.ValueTree.{ValueTree, Hole, Number, Truth, Fields, Elements, Closure, Parts, Nil, Cons, row}
use Rattle.hv_value.specs.Holes.{is_whole, emptied}
use Rattle.hv_value.specs.Operators.{Given, Gives, Overflow, DivZero, BadLength, TooLong, filled, length_of}
use Rattle.hv_value.specs.Walk.{Link}
use Rattle.hv_value.specs.Sizes.{copy_cost, fill_cost}
use Rattle.hv_sem_copying.specs.declared.end.TrapKind.TheVariants as trap_kind
use Rattle.hv_sem_copying.specs.declared.end.Cause.TheVariants.{Kinds, Holes}
use Rattle.hv_sem_copying.specs.Run.{Run, Flow}
use Rattle.hv_sem_copying.specs.Ops.{Spot, Mode, Reads, Writes, Sets, Passed, Value, Lent, Ops}
use Rattle.hv_sem_copying.specs.Operations.{number, truth, given, applied, natural, filled_with}
use Rattle.hv_sem_copying.specs.Places.{body_number, type_of, whole, local, found, copied, moved, counted, all_of, all_found, declared, captured}
use Rattle.hv_decls.specs.Statics.{static_steps}
use Rattle.hv_sem_copying.specs.Calls.{Callee, Constructs, Enters, Placed, Deeper, result_of, ended, value_callee, struct_callee, fun_callee, top_callee, body_of, callee, lent, pass_value, pass_place, own_value, if_deeper, entered, call_by, Child, child_by, budget_of, spawned}
use Rattle.hv_sem_copying.specs.Blocks.{chosen, turns, repeated, bound}
use Rattle.hv_sem_copying.specs.Evaluate.{function_value, top_value, named, if_local}
use Rattle.hv_sem_copying.specs.Alike.{Relation, Alike, Related}
use Rattle.hv_sem_copying.proofs.Both.{bind, pure_alike, stuck_alike, trap_alike, spent_alike, loose_alike, known_alike, if_alike, reference_alike, unless_alike}

-- both are places, or none is
abbrev pub AlikePlaced : {C D S T : Type 0} → Relation C D S T → Placed C S → Placed D T → Type 0
AlikePlaced r None None = Unit {0}
AlikePlaced r (Some p) (Some q) = Alike r p q
AlikePlaced r _ _ = ⊥

-- both have bodies to enter, or none has
abbrev pub AlikeDeeper : {C D S T : Type 0} → Relation C D S T → Deeper C S → Deeper D T → Type 0
AlikeDeeper r None None = Unit {0}
AlikeDeeper r (Some f) (Some g) = (b : ℕ) → Alike r (f b) (g b)
AlikeDeeper r _ _ = ⊥

module _ {C D S T : Type 0} (r : Relation C D S T) (A : Ops C S) (B : Ops D T) (ok : Related r A B) where
  -- ---- values and operators

  pub number_alike : (v : ValueTree) → Alike r (number v) (number v)
  number_alike (Number z) = pure_alike r ok.kept z
  number_alike Hole = stuck_alike r ok.kept Kinds
  number_alike (Truth b) = stuck_alike r ok.kept Kinds
  number_alike (Fields ts) = stuck_alike r ok.kept Kinds
  number_alike (Elements ts) = stuck_alike r ok.kept Kinds
  number_alike (Closure f ts) = stuck_alike r ok.kept Kinds

  pub truth_alike : (v : ValueTree) → Alike r (truth v) (truth v)
  truth_alike (Truth b) = pure_alike r ok.kept b
  truth_alike Hole = stuck_alike r ok.kept Kinds
  truth_alike (Number z) = stuck_alike r ok.kept Kinds
  truth_alike (Fields ts) = stuck_alike r ok.kept Kinds
  truth_alike (Elements ts) = stuck_alike r ok.kept Kinds
  truth_alike (Closure f ts) = stuck_alike r ok.kept Kinds

  pub given_alike : (at : Place) (g : Given) → Alike r (given at g) (given at g)
  given_alike at (Gives v) = pure_alike r ok.kept v
  given_alike at Overflow = trap_alike r ok.kept trap_kind.Overflow at
  given_alike at DivZero = trap_alike r ok.kept trap_kind.DivZero at
  given_alike at BadLength = trap_alike r ok.kept trap_kind.BadLength at
  given_alike at TooLong = trap_alike r ok.kept trap_kind.TooLong at

  pub applied_alike : (at : Place) (g : Option Given) → Alike r (applied at g) (applied at g)
  applied_alike at g = bind r ok.kept (known_alike r ok.kept Kinds g) (given_alike at)

  pub filled_alike : (at : Place) (v : ValueTree) (z : ℤ) → Alike r (filled_with at v z) (filled_with at v z)
  filled_alike at v z =
      bind r ok.kept (given_alike at (filled z v)) (λ array. bind r ok.kept (ok.pays (fill_cost (natural z) v) at) (λ paid. pure_alike r ok.kept array))

  -- ---- places

  pub whole_alike : (t : ValueTree) → Alike r (whole t) (whole t)
  whole_alike t = if_alike r ok.kept (is_whole t) (pure_alike r ok.kept t) (stuck_alike r ok.kept Holes)

  pub copied_alike : (at : Place) {p : Run C S (Spot × ValueTree)} {q : Run D T (Spot × ValueTree)} → Alike r p q → Alike r (copied at p) (copied at q)
  copied_alike at h =
      bind r ok.kept h (λ f. bind r ok.kept (whole_alike f.1) (λ v. bind r ok.kept (ok.pays (copy_cost v) at) (λ paid. pure_alike r ok.kept v)))

  pub counted_alike : (f : Spot × ValueTree) → Alike r (counted f) (counted f)
  counted_alike f = known_alike r ok.kept Holes (length_of f.1)

  pub moved_alike : (f : Spot × ValueTree) → Alike r (moved A f) (moved B f)
  moved_alike f = bind r ok.kept (whole_alike f.1) (λ v. bind r ok.kept (ok.write f.0 (emptied v)) (λ done. pure_alike r ok.kept v))

  module _ (locals : List Local) where
    pub local_alike : (name : Name) → Alike r (local locals name) (local locals name)
    local_alike name = known_alike r ok.kept Kinds (number_in locals name.text)

    pub found_alike : (tree : Core) (root : Name) (steps : CoreSteps) {p : Run C S (List (Link Place))} {q : Run D T (List (Link Place))} → Alike r p q → Alike r (found A locals tree root steps p) (found B locals tree root steps q)
    found_alike tree root steps h =
        bind r ok.kept (local_alike root) (λ x.
        bind r ok.kept h (λ links. ok.look (record { root = x; written = static_steps tree (type_of locals root) steps; links = links })))

    pub declared_alike : (name : Name) (v : ValueTree) → Alike r (declared A locals name v) (declared B locals name v)
    declared_alike name v = bind r ok.kept (local_alike name) (λ x. ok.write (all_of x) v)

    all_found_alike : (name : Name) → Alike r (all_found A locals name) (all_found B locals name)
    all_found_alike name = bind r ok.kept (local_alike name) (λ x. ok.look (record { root = x; written = []; links = [] }))

    pub captured_alike : (names : List Name) → Alike r (captured A locals names) (captured B locals names)
    captured_alike [] = pure_alike r ok.kept Nil
    captured_alike (name ∷ names) =
        bind r ok.kept (copied_alike name.place (all_found_alike name)) (λ v. bind r ok.kept (captured_alike names) (λ vs. pure_alike r ok.kept (Cons v vs)))

    pub bound_alike : (name : Name) (p : Placed C S) (q : Placed D T) → AlikePlaced r p q →
        {x : Run C S ValueTree} {y : Run D T ValueTree} → Alike r x y → {f : Run C S Flow} {g : Run D T Flow} → Alike r f g → Alike r (bound A locals name p x f) (bound B locals name q y g)
    bound_alike name (Some p) (Some q) h k {f} {g} go = bind r ok.kept h (λ a. bind r ok.kept (local_alike name) (λ n. ok.under Reads n a.0 f g go))
    bound_alike name None None h k go = bind r ok.kept k (λ v. bind r ok.kept (declared_alike name v) (λ done. go))
    bound_alike name (Some p) None h k go = absurd h
    bound_alike name None (Some q) h k go = absurd h

  -- ---- names

  module _ (tree : Core) where
    function_value_alike : (f : Option CoreFun) → Alike r (function_value tree f) (function_value tree f)
    function_value_alike None = stuck_alike r ok.kept Kinds
    function_value_alike (Some f) = bind r ok.kept (known_alike r ok.kept Kinds (body_number (bodies_of tree) f.body)) (λ n. pure_alike r ok.kept (Closure n Nil))

    top_value_alike : (root : Name) (steps : CoreSteps) → Alike r (top_value tree root steps) (top_value tree root steps)
    top_value_alike root NoSteps = function_value_alike (fun_in tree.decls root.text)
    top_value_alike root (FieldStep name rest) = stuck_alike r ok.kept Kinds
    top_value_alike root (IndexStep at x rest) = stuck_alike r ok.kept Kinds

    pub named_alike : (o : Option ℕ) (root : Name) (steps : CoreSteps) {p : Run C S (Spot × ValueTree)} {q : Run D T (Spot × ValueTree)} → Alike r p q → Alike r (named tree o root steps p) (named tree o root steps q)
    named_alike None root steps h = top_value_alike root steps
    named_alike (Some x) root steps h = copied_alike root.place h

  pub placed_alike : (o : Option ℕ) {p : Run C S (Spot × ValueTree)} {q : Run D T (Spot × ValueTree)} → Alike r p q → AlikePlaced r (if_local o p) (if_local o q)
  placed_alike None h = tt
  placed_alike (Some x) h = h

  -- ---- tests and loops

  pub chosen_alike : {x : Run C S ValueTree} {y : Run D T ValueTree} {f f' : Run C S Flow} {g g' : Run D T Flow} → Alike r x y → Alike r f g → Alike r f' g' → Alike r (chosen x f f') (chosen y g g')
  chosen_alike h k k' = bind r ok.kept h (λ v. bind r ok.kept (truth_alike v) (λ b. if_alike r ok.kept b k k'))

  pub turns_alike : (n m : ℕ) → (n ≡ m) ⊎ (r.loose × (n ≤ m)) → (at : Place) {x : Run C S ValueTree} {y : Run D T ValueTree} {f : Run C S Flow} {g : Run D T Flow} → Alike r x y → Alike r f g → Alike r (turns n at x f) (turns m at y g)
  turns_alike zero zero e at h k = spent_alike r ok.kept at
  turns_alike zero (suc m) (inl e) at h k = absurd (omega (arith, e))
  turns_alike zero (suc m) (inr l) at h k = loose_alike r ok.kept at _ l.0
  turns_alike (suc n) zero (inl e) at h k = absurd (omega (arith, e))
  turns_alike (suc n) zero (inr l) at h k = absurd (omega (arith, l.1))
  turns_alike (suc n) (suc m) e at h k =
      bind r ok.kept (ok.pays 1 at) (λ paid.
      chosen_alike h (bind r ok.kept k (unless_alike r ok.kept (turns_alike n m (fewer e) at h k))) (pure_alike r ok.kept None))
    where
      fewer : (suc n ≡ suc m) ⊎ (r.loose × (suc n ≤ suc m)) → (n ≡ m) ⊎ (r.loose × (n ≤ m))
      fewer (inl e) = inl (omega (arith, e))
      fewer (inr l) = inr (l.0, omega (arith, l.1))

  pub repeated_alike : (at : Place) {x : Run C S ValueTree} {y : Run D T ValueTree} {f : Run C S Flow} {g : Run D T Flow} → Alike r x y → Alike r f g → Alike r (repeated at x f) (repeated at y g)
  unfolding repeated
  repeated_alike at h k =
      record { alike = λ n c d s t e. (turns_alike (suc s.task.steps) (suc t.task.steps) (more (ok.kept.limit c d s t e)) at h k).alike n c d s t e }
    where
      more : {n m : ℕ} → (n ≡ m) ⊎ (r.loose × (n ≤ m)) → (suc n ≡ suc m) ⊎ (r.loose × (suc n ≤ suc m))
      more (inl e) = inl (omega (arith, e))
      more (inr l) = inr (l.0, omega (arith, l.1))

  -- ---- calls

  pub ended_alike : (result : Option CoreTy) (flow : Flow) → Alike r (ended result flow) (ended result flow)
  ended_alike (Some t) None = stuck_alike r ok.kept Holes
  ended_alike (Some t) (Some v) = pure_alike r ok.kept (Some v)
  ended_alike None flow = pure_alike r ok.kept flow

  value_callee_alike : (v : ValueTree) → Alike r (value_callee v) (value_callee v)
  value_callee_alike (Closure f ts) = pure_alike r ok.kept (Enters f ts)
  value_callee_alike Hole = stuck_alike r ok.kept Kinds
  value_callee_alike (Number z) = stuck_alike r ok.kept Kinds
  value_callee_alike (Truth b) = stuck_alike r ok.kept Kinds
  value_callee_alike (Fields ts) = stuck_alike r ok.kept Kinds
  value_callee_alike (Elements ts) = stuck_alike r ok.kept Kinds

  module _ (tree : Core) where
    struct_callee_alike : (s : Option CoreStruct) → Alike r (struct_callee tree s) (struct_callee tree s)
    struct_callee_alike None = stuck_alike r ok.kept Kinds
    struct_callee_alike (Some s) = pure_alike r ok.kept Constructs

    fun_callee_alike : (f : Option CoreFun) (s : Option CoreStruct) → Alike r (fun_callee tree f s) (fun_callee tree f s)
    fun_callee_alike None s = struct_callee_alike s
    fun_callee_alike (Some f) s = bind r ok.kept (known_alike r ok.kept Kinds (body_number (bodies_of tree) f.body)) (λ n. pure_alike r ok.kept (Enters n Nil))

    top_callee_alike : (root : Name) (steps : CoreSteps) → Alike r (top_callee tree root steps) (top_callee tree root steps)
    top_callee_alike root NoSteps = fun_callee_alike (fun_in tree.decls root.text) (struct_in tree.decls root.text)
    top_callee_alike root (FieldStep name rest) = stuck_alike r ok.kept Kinds
    top_callee_alike root (IndexStep at x rest) = stuck_alike r ok.kept Kinds

    pub callee_alike : (o : Option ℕ) (root : Name) (steps : CoreSteps) {p : Run C S (Spot × ValueTree)} {q : Run D T (Spot × ValueTree)} → Alike r p q → Alike r (callee tree o root steps p) (callee tree o root steps q)
    callee_alike None root steps h = top_callee_alike root steps
    callee_alike (Some x) root steps h = bind r ok.kept (copied_alike root.place h) value_callee_alike

    body_alike : (f : ℕ) → Alike r (body_of tree f) (body_of tree f)
    body_alike f = known_alike r ok.kept Kinds (slice_get (bodies_of tree) f)

    pub call_by_alike : (who : Callee) {p : Run C S (List ValueTree)} {q : Run D T (List ValueTree)} → Alike r p q → (f : ℕ → Parts → CoreBody → Run C S Flow) (g : ℕ → Parts → CoreBody → Run D T Flow) →
        ((n : ℕ) (captures : Parts) (body : CoreBody) → Alike r (f n captures body) (g n captures body)) → Alike r (call_by tree who p f) (call_by tree who q g)
    call_by_alike Constructs h f g k = bind r ok.kept h (λ vs. pure_alike r ok.kept (Fields (row vs)))
    call_by_alike (Enters n captures) h f g k = bind r ok.kept (body_alike n) (λ body. bind r ok.kept (k n captures body) (λ flow. pure_alike r ok.kept (result_of flow)))

    pub child_by_alike : (who : Callee) (f : ℕ → Parts → CoreBody → Run C S (List Passed)) (g : ℕ → Parts → CoreBody → Run D T (List Passed)) →
        ((n : ℕ) (captures : Parts) (body : CoreBody) → Alike r (f n captures body) (g n captures body)) → Alike r (child_by tree who f) (child_by tree who g)
    child_by_alike Constructs f g k = stuck_alike r ok.kept Kinds
    child_by_alike (Enters n captures) f g k =
        bind r ok.kept (body_alike n) (λ body. bind r ok.kept (k n captures body) (λ ps. pure_alike r ok.kept (record { number = n; body = body; given = ps })))

  -- ---- arguments

  lent_alike : (mode : Mode) (p : Spot) (f : Passed → Run C S Flow) (g : Passed → Run D T Flow) → ((a : Passed) → Alike r (f a) (g a)) → Alike r (lent A mode p f) (lent B mode p g)
  lent_alike mode p f g h =
      reference_alike r ok.kept (λ n. A.under mode n p (f (Lent n))) (λ n. B.under mode n p (g (Lent n))) (λ n. ok.under mode n p (f (Lent n)) (g (Lent n)) (h (Lent n)))

  pub pass_value_alike : (cv : Conv) (p : Placed C S) (q : Placed D T) → AlikePlaced r p q →
      {x : Run C S ValueTree} {y : Run D T ValueTree} → Alike r x y → (f : Passed → Run C S Flow) (g : Passed → Run D T Flow) → ((a : Passed) → Alike r (f a) (g a)) →
      Alike r (pass_value A cv p x f) (pass_value B cv q y g)
  pass_value_alike conv.Let (Some p) (Some q) h k f g go = bind r ok.kept h (λ a. lent_alike Reads a.0 f g go)
  pass_value_alike conv.Let None None h k f g go = bind r ok.kept k (λ v. go (Value Reads v))
  pass_value_alike conv.Let (Some p) None h k f g go = absurd h
  pass_value_alike conv.Let None (Some q) h k f g go = absurd h
  pass_value_alike conv.Sink (Some p) (Some q) h k f g go = bind r ok.kept h (λ a. bind r ok.kept (moved_alike a) (λ v. go (Value Writes v)))
  pass_value_alike conv.Sink None None h k f g go = bind r ok.kept k (λ v. go (Value Writes v))
  pass_value_alike conv.Sink (Some p) None h k f g go = absurd h
  pass_value_alike conv.Sink None (Some q) h k f g go = absurd h
  pass_value_alike conv.Inout p q h k f g go = stuck_alike r ok.kept Kinds
  pass_value_alike conv.Set p q h k f g go = stuck_alike r ok.kept Kinds

  pub pass_place_alike : (cv : Conv) {p : Run C S (Spot × ValueTree)} {q : Run D T (Spot × ValueTree)} → Alike r p q → (f : Passed → Run C S Flow) (g : Passed → Run D T Flow) → ((a : Passed) → Alike r (f a) (g a)) →
      Alike r (pass_place A cv p f) (pass_place B cv q g)
  pass_place_alike conv.Inout h f g go = bind r ok.kept h (λ a. lent_alike Writes a.0 f g go)
  pass_place_alike conv.Set h f g go = bind r ok.kept h (λ a. bind r ok.kept (ok.write a.0 (emptied a.1)) (λ done. lent_alike Sets a.0 f g go))
  pass_place_alike conv.Let h f g go = stuck_alike r ok.kept Kinds
  pass_place_alike conv.Sink h f g go = stuck_alike r ok.kept Kinds

  pub own_value_alike : (cv : Conv) (p : Placed C S) (q : Placed D T) → AlikePlaced r p q → {x : Run C S ValueTree} {y : Run D T ValueTree} → Alike r x y →
      Alike r (own_value A cv p x) (own_value B cv q y)
  own_value_alike conv.Let p q h k = bind r ok.kept k (λ v. pure_alike r ok.kept (Value Reads v))
  own_value_alike conv.Sink (Some p) (Some q) h k = bind r ok.kept h (λ a. bind r ok.kept (moved_alike a) (λ v. pure_alike r ok.kept (Value Writes v)))
  own_value_alike conv.Sink None None h k = bind r ok.kept k (λ v. pure_alike r ok.kept (Value Writes v))
  own_value_alike conv.Sink (Some p) None h k = absurd h
  own_value_alike conv.Sink None (Some q) h k = absurd h
  own_value_alike conv.Inout p q h k = stuck_alike r ok.kept Kinds
  own_value_alike conv.Set p q h k = stuck_alike r ok.kept Kinds

  -- ---- activations

  deeper_alike : {X : Type 0} (d : Deeper C S) (d' : Deeper D T) → AlikeDeeper r d d' → (at : Place) (f : (ℕ → Run C S Flow) → Run C S X) (g : (ℕ → Run D T Flow) → Run D T X) →
      ((p : ℕ → Run C S Flow) (q : ℕ → Run D T Flow) → ((b : ℕ) → Alike r (p b) (q b)) → Alike r (f p) (g q)) → Alike r (if_deeper d at f) (if_deeper d' at g)
  deeper_alike None None h at f g k = trap_alike r ok.kept trap_kind.TooDeep at
  deeper_alike (Some p) (Some q) h at f g k = k p q h
  deeper_alike None (Some q) h at f g k = absurd h
  deeper_alike (Some p) None h at f g k = absurd h

  budget_alike : (at : Place) (z : ℤ) → Alike r (budget_of at z) (budget_of at z)
  budget_alike at (pos zero) = trap_alike r ok.kept trap_kind.BadBudget at
  budget_alike at (pos (suc k)) = pure_alike r ok.kept (suc k)
  budget_alike at (negsuc k) = trap_alike r ok.kept trap_kind.BadBudget at

  module _ (deeper : Deeper C S) (deeper' : Deeper D T) (down : AlikeDeeper r deeper deeper') where
    pub entered_alike : (at : Place) (f : ℕ) (body : CoreBody) (given : List Passed) → Alike r (entered A deeper at f body given) (entered B deeper' at f body given)
    entered_alike at f body given =
        deeper_alike deeper deeper' down at _ _ (λ p q h. bind r ok.kept (ok.pays 1 at) (λ paid. ok.call (length (locals_of body)) given (p f) (q f) (h f)))

    pub spawned_alike : (h : ℕ) (at : Place) (z : ℤ) (child : Child) → Alike r (spawned A deeper h at z child) (spawned B deeper' h at z child)
    spawned_alike h at z child =
        bind r ok.kept (budget_alike at z) (λ k.
        deeper_alike deeper deeper' down at _ _ (λ p q e. bind r ok.kept (ok.pays (1 + k) at) (λ paid. ok.spawn h k (length (locals_of child.body)) child.given (p child.number) (q child.number) (e child.number))))
