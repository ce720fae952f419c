-- Constructs over the runs of their parts.
use Rattle.std.specs.Prelude.{ℕ, suc, pos, List, [], ◌∷◌, ◌++◌, Option, Some, None}
use Rattle.hv_tree.specs.declared.place.Place.{Place}
use Rattle.hv_tree.specs.declared.types.Name.{Name}
use Rattle.hv_tree.specs.declared.types.Conv.{Conv}
use Rattle.hv_tree.specs.declared.types.Conv.TheVariants as conv
use Rattle.hv_tree.specs.Core.{Core, CoreSteps}
use Rattle.hv_decls.specs.Locals.{Local}
use Rattle.hv_value.specs.ValueTree.{ValueTree, Number}
use Rattle.hv_value.specs.Walk.{Link}
use Rattle.hv_value.specs.Holes.{emptied}
use Rattle.hv_value.specs.Operators.{length_of}
use Rattle.hv_value.specs.Sizes.{copy_cost}
use Rattle.hv_sem_copying.specs.declared.end.Cause.TheVariants.{Kinds, Holes}
use Rattle.hv_sem_copying.specs.Run.{Flow, ◌>>=◌, pure, stuck, known, pay}
use Rattle.hv_sem_copying.specs.Ops.{Mode, Reads, Writes, Sets, Passed, Value, Lent}
use Rattle.hv_sem_copying.specs.Places.{whole, local}
use Rattle.hv_sem_copying.specs.Calls.{Callee, top_callee, value_callee}
use Rattle.hv_sem_copying.specs.Evaluate.{top_value}
use Rattle.hv_sem_flat.specs.Accesses.{Plain, Spot, there, put_at, look, Access, access, opened}

-- ---- places

-- a place in value position is copied, which is paid at its root name
abbrev pub copied : Place → Plain Spot → Plain ValueTree
copied at place = place >>= (λ p. there p >>= (λ t. whole t >>= (λ v. pay (copy_cost v) at >>= (λ paid. pure v))))

-- its holes stay behind
abbrev pub moved : Spot → Plain ValueTree
moved p = there p >>= (λ t. whole t >>= (λ v. put_at p (emptied v) >>= (λ done. pure v)))

abbrev pub counted : Plain Spot → Plain ValueTree
counted place = place >>= (λ p. there p >>= (λ t. known Holes (length_of t) >>= (λ n. pure (Number (pos n)))))

abbrev pub all_of : ℕ → Spot
all_of x = record { root = x; path = [] }

-- ---- what is passed

pub data Argument : Type 0 where
  Owns : Mode → ValueTree → Argument
  Lends : Mode → Spot → Argument

-- an argument without `&`
abbrev pub value_given : Conv → Option (Plain Spot) → Plain ValueTree → Plain Argument
value_given conv.Let (Some place) x = place >>= (λ p. pure (Lends Reads p))
value_given conv.Let None x = x >>= (λ v. pure (Owns Reads v))
value_given conv.Sink (Some place) x = place >>= (λ p. moved p >>= (λ v. pure (Owns Writes v)))
value_given conv.Sink None x = x >>= (λ v. pure (Owns Writes v))
value_given conv.Inout place x = stuck Kinds
value_given conv.Set place x = stuck Kinds

-- an argument with `&`
abbrev pub place_given : Conv → Plain Spot → Plain Argument
place_given conv.Inout place = place >>= (λ p. pure (Lends Writes p))
place_given conv.Set place = place >>= (λ p. there p >>= (λ t. put_at p (emptied t) >>= (λ done. pure (Lends Sets p))))
place_given conv.Let place = stuck Kinds
place_given conv.Sink place = stuck Kinds

-- the arguments so far, and the accesses that they opened
abbrev pub Given : Type 0
Given = List Passed × List Access

-- an argument more, where m references are in use
abbrev pub taken : Argument → ℕ → List Passed → List Access → (ℕ → List Passed → List Access → Plain Given) → Plain Given
taken (Owns mode t) m ps opens go = go m (ps ++ Value mode t ∷ []) opens
taken (Lends mode p) m ps opens go = opened (access mode m p) >>= (λ done. go (suc m) (ps ++ Lent m ∷ []) (access mode m p ∷ opens))

-- goes on with the number of references in use
unfoldable pub counting : {A : Type 0} → (ℕ → Plain A) → Plain A
counting go n c s = go n n c s

-- ---- statements

-- how a statement leaves its block, or goes on
pub data Went : Type 0 where
  Leaves : ValueTree → Went
  Goes : Went
  Opens : Access → Went

abbrev pub flowed : Flow → Plain Went
flowed None = pure Goes
flowed (Some v) = pure (Leaves v)

abbrev pub went : Went → List Access → (List Access → Plain (Flow × List Access)) → Plain (Flow × List Access)
went (Leaves v) opens go = pure (Some v, opens)
went Goes opens go = go opens
went (Opens a) opens go = go (a ∷ opens)

abbrev pub opening : Mode → ℕ → Spot → Plain Went
opening mode r p = opened (access mode r p) >>= (λ done. pure (Opens (access mode r p)))

-- an argument of a spawn, which takes values alone
abbrev pub own_value : Conv → Option (Plain Spot) → Plain ValueTree → Plain Passed
own_value conv.Let place x = x >>= (λ v. pure (Value Reads v))
own_value conv.Sink (Some place) x = place >>= (λ p. moved p >>= (λ v. pure (Value Writes v)))
own_value conv.Sink None x = x >>= (λ v. pure (Value Writes v))
own_value conv.Inout place x = stuck Kinds
own_value conv.Set place x = stuck Kinds

-- ---- names

-- a local's place is copied, else the name is a function's
abbrev pub named : Core → Option ℕ → Name → CoreSteps → Plain Spot → Plain ValueTree
named tree None root steps place = top_value tree root steps
named tree (Some x) root steps place = copied root.place place

-- a callee that is a local is copied
abbrev pub callee : Core → Option ℕ → Name → CoreSteps → Plain Spot → Plain Callee
callee tree None root steps place = top_callee tree root steps
callee tree (Some x) root steps place = copied root.place place >>= value_callee

module _ (locals : List Local) where
  -- the place that a root and steps name, over the run of the indices
  abbrev pub found : Name → Plain (List (Link Place)) → Plain Spot
  found root indices = local locals root >>= (λ x. indices >>= look x)

  -- the captures in order, each paid at the captured name
  abbrev pub captured_from : List ValueTree → List Name → Plain (List ValueTree)
  captured_from vs [] = pure vs
  captured_from vs (name ∷ names) = copied name.place (local locals name >>= (λ x. look x [])) >>= (λ v. captured_from (vs ++ v ∷ []) names)

  abbrev pub declared : Name → ValueTree → Plain Went
  declared name v = local locals name >>= (λ x. put_at (all_of x) v >>= (λ done. pure Goes))

  -- a binding over a place reads it there; any other value is the binding's own
  abbrev pub bound : Name → Option (Plain Spot) → Plain ValueTree → Plain Went
  bound name (Some place) x = place >>= (λ p. local locals name >>= (λ r. opening Reads r p))
  bound name None x = x >>= (λ v. declared name v)
