-- What a few lists of events leave.
use Rattle.std.proofs.Common.{◌≡◌, ℕ, pos, true, false, List, [], ◌∷◌, Some, refl}
use Rattle.hv_decls.specs.declared.path.StaticStep.TheVariants as static
use Rattle.hv_decls.specs.declared.path.StaticPath.{StaticPath}
use Rattle.hv_rules.specs.declared.event.FlowEvent.TheVariants as event
use Rattle.hv_rules.specs.Events.{Mark, mark, declaring, moves, inits, reads, sets, whole}
use Rattle.hv_rules.specs.States.{Leaf, Reading, Writing, NotSpawned, Spawned, Filled, Open, Handles}
use Rattle.hv_decls.proofs.Programs.{o}

abbrev leaf : ℕ → List ℕ → Leaf
leaf n fields = record { root = n; fields = fields }

abbrev field : ℕ → StaticPath
field f = record { root = 0; steps = static.Field f ∷ [] }

abbrev element : StaticPath
element = record { root = 0; steps = static.Literal (pos 3) ∷ [] }

abbrev declare : Mark
declare = mark (event.Declare 0) o

-- ---- leaves

-- an Init of one field leaves the other empty
one_field : Filled (declare ∷ (inits (field 0) o ∷ [])) (leaf 0 (0 ∷ [])) ≡ true
one_field = refl

other_field : Filled (declare ∷ (inits (field 0) o ∷ [])) (leaf 0 (1 ∷ [])) ≡ false
other_field = refl

-- a Move empties its part
moved_field : Filled (declare ∷ (inits (whole 0) o ∷ (moves (field 0) o ∷ []))) (leaf 0 (0 ∷ [])) ≡ false
moved_field = refl

kept_field : Filled (declare ∷ (inits (whole 0) o ∷ (moves (field 0) o ∷ []))) (leaf 0 (1 ∷ [])) ≡ true
kept_field = refl

-- an Init or a Move with an index changes no leaf
index_fills_nothing : Filled (declare ∷ (inits element o ∷ [])) (leaf 0 []) ≡ false
index_fills_nothing = refl

index_moves_nothing : Filled (declare ∷ (inits (whole 0) o ∷ (moves element o ∷ []))) (leaf 0 []) ≡ true
index_moves_nothing = refl

-- a set access empties its place, and its Close fills it
set_open : Filled (declare ∷ (inits (whole 0) o ∷ (sets (whole 0) o ∷ []))) (leaf 0 []) ≡ false
set_open = refl

set_closed : Filled (declare ∷ (inits (whole 0) o ∷ (sets (whole 0) o ∷ (mark event.Close o ∷ [])))) (leaf 0 []) ≡ true
set_closed = refl

-- a new Declare empties the local
declared_again : Filled (declare ∷ (inits (whole 0) o ∷ (declare ∷ []))) (leaf 0 []) ≡ false
declared_again = refl

-- ---- accesses

-- a Close takes the newest access of a call, and leaves that of a binding
bound_stays : Open (declaring 1 (event.OpenWrite (whole 0)) o ∷ (reads (whole 2) o ∷ (mark event.Close o ∷ []))) ≡ record { path = whole 0; mode = Writing; binding = Some 1 } ∷ []
bound_stays = refl

bound_is_passed_over : Open (reads (whole 2) o ∷ (declaring 1 (event.OpenWrite (whole 0)) o ∷ (mark event.Close o ∷ []))) ≡ record { path = whole 0; mode = Writing; binding = Some 1 } ∷ []
bound_is_passed_over = refl

-- the end of a block closes the accesses of its bindings alone
inner_end : Open (declaring 1 (event.OpenRead (whole 0)) o ∷ (declaring 2 (event.OpenWrite (whole 3)) o ∷ (mark (event.ScopeEnd 2) o ∷ []))) ≡ record { path = whole 0; mode = Reading; binding = Some 1 } ∷ []
inner_end = refl

-- ---- handles

not_yet : Handles [] 0 ≡ NotSpawned
not_yet = refl

spawned_again : Handles (mark (event.Spawn 0) o ∷ (mark (event.Await 0) o ∷ (mark (event.Spawn 0) o ∷ []))) 0 ≡ Spawned
spawned_again = refl

other_handle : Handles (mark (event.Spawn 0) o ∷ (mark (event.Await 1) o ∷ [])) 0 ≡ Spawned
other_handle = refl
