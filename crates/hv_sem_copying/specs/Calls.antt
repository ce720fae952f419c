-- Calls: callees, what is passed, and the entry into a body.
use Rattle.std.specs.Prelude.{ℕ, zero, suc, ◌+◌, ℤ, pos, negsuc, List, [], ◌∷◌, length, Option, Some, None}
use Rattle.std.specs.List.{slice_get}
use Rattle.hv_tree.specs.declared.place.Place.{Place}
use Rattle.hv_tree.specs.declared.types.Name.{Name}
use Rattle.hv_tree.specs.declared.types.Conv.{Conv}
use Rattle.hv_tree.specs.declared.types.Conv.TheVariants as conv
use Rattle.hv_tree.specs.Core.{Core, CoreFun, CoreStruct, CoreTy, CoreSteps, NoSteps, FieldStep, IndexStep}
use Rattle.hv_decls.specs.Types.{fun_in, struct_in}
use Rattle.hv_decls.specs.Locals.{CoreBody, locals_of}
use Rattle.hv_decls.specs.Sites.{bodies_of}
use Rattle.hv_value.specs.ValueTree.{ValueTree, Fields, Closure, Parts, Nil, Cons, row}
use Rattle.hv_value.specs.Holes.{emptied}
use Rattle.hv_sem_copying.specs.declared.end.TrapKind.TheVariants as trap_kind
use Rattle.hv_sem_copying.specs.declared.end.Cause.TheVariants.{Kinds, Holes}
use Rattle.hv_sem_copying.specs.Run.{Run, Flow, ◌>>=◌, pure, stuck, trap, known, pay, with_reference}
use Rattle.hv_sem_copying.specs.Ops.{Spot, Mode, Reads, Writes, Sets, Passed, Value, Lent, Ops}
use Rattle.hv_sem_copying.specs.Places.{body_number, copied, moved}

pub data Callee : Type 0 where
  -- a struct's name
  Constructs : Callee
  -- a body with the captures
  Enters : ℕ → Parts → Callee

-- what a child runs: a body, and what that is entered with
pub record Child : Type 0 where
  pub number : ℕ
  pub body : CoreBody
  pub given : List Passed

-- what a call without result gives is a struct without fields
abbrev pub result_of : Flow → ValueTree
result_of None = Fields Nil
result_of (Some v) = v

-- the end of a body with a result isn't reached
abbrev pub ended : {C S : Type 0} → Option CoreTy → Flow → Run C S Flow
ended (Some t) None = stuck Holes
ended (Some t) (Some v) = pure (Some v)
ended None flow = pure flow

-- a body begins with its captures
abbrev pub passed_captures : Parts → List Passed
passed_captures Nil = []
passed_captures (Cons t ts) = Value Reads t ∷ passed_captures ts

abbrev pub value_callee : {C S : Type 0} → ValueTree → Run C S Callee
value_callee (Closure f captures) = pure (Enters f captures)
value_callee _ = stuck Kinds

-- ---- callees

module _ {C S : Type 0} (tree : Core) where
  abbrev pub struct_callee : Option CoreStruct → Run C S Callee
  struct_callee None = stuck Kinds
  struct_callee (Some s) = pure Constructs

  abbrev pub fun_callee : Option CoreFun → Option CoreStruct → Run C S Callee
  fun_callee None s = struct_callee s
  fun_callee (Some f) s = known Kinds (body_number (bodies_of tree) f.body) >>= (λ n. pure (Enters n Nil))

  -- a top-level name
  abbrev pub top_callee : Name → CoreSteps → Run C S Callee
  top_callee root NoSteps = fun_callee (fun_in tree.decls root.text) (struct_in tree.decls root.text)
  top_callee root (FieldStep name rest) = stuck Kinds
  top_callee root (IndexStep at x rest) = stuck Kinds

  -- a callee that is a local is copied
  abbrev pub callee : Option ℕ → Name → CoreSteps → Run C S (Spot × ValueTree) → Run C S Callee
  callee None root steps place = top_callee root steps
  callee (Some x) root steps place = copied root.place place >>= value_callee

  abbrev pub body_of : ℕ → Run C S CoreBody
  body_of f = known Kinds (slice_get (bodies_of tree) f)

  -- a construction of its parts, or the run of a body that gives its result
  abbrev pub call_by : Callee → Run C S (List ValueTree) → (ℕ → Parts → CoreBody → Run C S Flow) → Run C S ValueTree
  call_by Constructs parts go = parts >>= (λ vs. pure (Fields (row vs)))
  call_by (Enters f captures) parts go = body_of f >>= (λ body. go f captures body >>= (λ flow. pure (result_of flow)))

  abbrev pub child_by : Callee → (ℕ → Parts → CoreBody → Run C S (List Passed)) → Run C S Child
  child_by Constructs go = stuck Kinds
  child_by (Enters f captures) go = body_of f >>= (λ body. go f captures body >>= (λ ps. pure (record { number = f; body = body; given = ps })))

-- ---- arguments

-- a place with what stands there, of an expression that is one
abbrev pub Placed : Type 0 → Type 0 → Type 0
Placed C S = Option (Run C S (Spot × ValueTree))

module _ {C S : Type 0} (o : Ops C S) where
  -- an access is open while the rest runs
  abbrev pub lent : Mode → Spot → (Passed → Run C S Flow) → Run C S Flow
  lent mode spot go = with_reference (λ r. o.under mode r spot (go (Lent r)))

  -- an argument without `&`
  abbrev pub pass_value : Conv → Placed C S → Run C S ValueTree → (Passed → Run C S Flow) → Run C S Flow
  pass_value conv.Let (Some place) x go = place >>= (λ f. lent Reads f.0 go)
  pass_value conv.Let None x go = x >>= (λ v. go (Value Reads v))
  pass_value conv.Sink (Some place) x go = place >>= (λ f. moved o f >>= (λ v. go (Value Writes v)))
  pass_value conv.Sink None x go = x >>= (λ v. go (Value Writes v))
  pass_value conv.Inout place x go = stuck Kinds
  pass_value conv.Set place x go = stuck Kinds

  -- an argument with `&`; for `set` the callee finds holes
  abbrev pub pass_place : Conv → Run C S (Spot × ValueTree) → (Passed → Run C S Flow) → Run C S Flow
  pass_place conv.Inout place go = place >>= (λ f. lent Writes f.0 go)
  pass_place conv.Set place go = place >>= (λ f. o.write f.0 (emptied f.1) >>= (λ done. lent Sets f.0 go))
  pass_place conv.Let place go = stuck Kinds
  pass_place conv.Sink place go = stuck Kinds

  -- an argument of a spawn, which takes values alone
  abbrev pub own_value : Conv → Placed C S → Run C S ValueTree → Run C S Passed
  own_value conv.Let place x = x >>= (λ v. pure (Value Reads v))
  own_value conv.Sink (Some place) x = place >>= (λ f. moved o f >>= (λ v. pure (Value Writes v)))
  own_value conv.Sink None x = x >>= (λ v. pure (Value Writes v))
  own_value conv.Inout place x = stuck Kinds
  own_value conv.Set place x = stuck Kinds

-- ---- activations

-- what runs a body one activation further in; none where this activation is the last
abbrev pub Deeper : Type 0 → Type 0 → Type 0
Deeper C S = Option (ℕ → Run C S Flow)

abbrev pub if_deeper : {C S A : Type 0} → Deeper C S → Place → ((ℕ → Run C S Flow) → Run C S A) → Run C S A
if_deeper None at go = trap trap_kind.TooDeep at
if_deeper (Some run) at go = go run

-- a budget is at least 1
abbrev pub budget_of : {C S : Type 0} → Place → ℤ → Run C S ℕ
budget_of at (pos zero) = trap trap_kind.BadBudget at
budget_of at (pos (suc k)) = pure (suc k)
budget_of at (negsuc k) = trap trap_kind.BadBudget at

module _ {C S : Type 0} (o : Ops C S) (deeper : Deeper C S) where
  -- the test of depth, then the cost at the `(`
  abbrev pub entered : Place → ℕ → CoreBody → List Passed → Run C S Flow
  entered at f body given = if_deeper deeper at (λ run. pay 1 at >>= (λ paid. o.call (length (locals_of body)) given (run f)))

  -- the budget and the depth are tested, then 1 and the budget are paid
  abbrev pub spawned : ℕ → Place → ℤ → Child → Run C S (Unit {0})
  spawned h at z child =
      budget_of at z >>= (λ k.
      if_deeper deeper at (λ run.
      pay (1 + k) at >>= (λ paid. o.spawn h k (length (locals_of child.body)) child.given (run child.number))))
