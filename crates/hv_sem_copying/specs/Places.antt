-- Places: names, reading, moving and declaring.
use Rattle.std.specs.Prelude.{ℕ, suc, ◌==◌, if◌then◌else◌, Bool, List, [], ◌∷◌, Option, Some, None}
use Rattle.hv_tree.specs.declared.place.Place.{Place}
use Rattle.hv_tree.specs.declared.types.Name.{Name}
use Rattle.hv_tree.specs.Core.{Core, CoreTy, CoreSteps, CoreBlock, end_of}
use Rattle.hv_decls.specs.Types.{ValueType, meant, most_depth, TypeShape, LeafShape, StructShape, TypeShapes, NoShapes, ShapeOf, shape}
use Rattle.hv_decls.specs.Locals.{Local, CoreBody, number_in, local_in, value_of}
use Rattle.hv_decls.specs.Statics.{static_steps}
use Rattle.hv_value.specs.ValueTree.{ValueTree, Hole, Parts, Nil, Cons}
use Rattle.hv_value.specs.Holes.{is_whole, emptied, fields_or_hole}
use Rattle.hv_value.specs.Sizes.{copy_cost}
use Rattle.hv_value.specs.Operators.{length_of}
use Rattle.hv_value.specs.Walk.{Link}
use Rattle.hv_sem_copying.specs.declared.end.Cause.TheVariants.{Kinds, Holes}
use Rattle.hv_sem_copying.specs.Run.{Run, ◌>>=◌, pure, stuck, known, pay}
use Rattle.hv_sem_copying.specs.Ops.{Spot, Ops}

-- ---- holes of a type

abbrev mutual
  -- a hole for each leaf
  pub hollow : TypeShape → ValueTree
  hollow LeafShape = Hole
  hollow (StructShape shapes) = fields_or_hole (hollows shapes)

  pub hollows : TypeShapes → Parts
  hollows NoShapes = Nil
  hollows (ShapeOf s rest) = Cons (hollow s) (hollows rest)

abbrev pub holes : Core → CoreTy → ValueTree
holes tree t = hollow (shape tree most_depth (meant t))

-- ---- the number of a body

abbrev pub same_place : Place → Place → Bool
same_place a b = a.start == b.start

abbrev pub number_from : ℕ → List CoreBody → Place → Option ℕ
number_from n [] at = None
number_from n (b ∷ bs) at = if same_place (end_of b.block) at then Some n else number_from (suc n) bs at

-- bodies are told by the place of their `}`
abbrev pub body_number : List CoreBody → CoreBlock → Option ℕ
body_number bodies block = number_from 0 bodies (end_of block)

-- ---- places

-- the type of a local that is a value
abbrev pub type_of : List Local → Name → Option ValueType
type_of locals root = value_of (local_in locals root.text)

abbrev pub local : {C S : Type 0} → List Local → Name → Run C S ℕ
local locals name = known Kinds (number_in locals name.text)

-- all of a local
abbrev pub all_of : ℕ → Spot
all_of x = record { root = x; written = []; path = [] }

abbrev pub whole : {C S : Type 0} → ValueTree → Run C S ValueTree
whole t = if is_whole t then pure t else stuck Holes

-- a place in value position is copied, which is paid at its root name
abbrev pub copied : {C S : Type 0} → Place → Run C S (Spot × ValueTree) → Run C S ValueTree
copied at place = place >>= (λ f. whole f.1 >>= (λ v. pay (copy_cost v) at >>= (λ paid. pure v)))

-- the length of the array at a place
abbrev pub counted : {C S : Type 0} → Spot × ValueTree → Run C S ℕ
counted f = known Holes (length_of f.1)

module _ {C S : Type 0} (o : Ops C S) where
  -- what is moved leaves its holes behind
  abbrev pub moved : Spot × ValueTree → Run C S ValueTree
  moved f = whole f.1 >>= (λ v. o.write f.0 (emptied v) >>= (λ done. pure v))

  module _ (locals : List Local) where
    -- the place that a root and steps name: the indices are evaluated, and then each is tested
    abbrev pub found : Core → Name → CoreSteps → Run C S (List (Link Place)) → Run C S (Spot × ValueTree)
    found tree root steps indices =
        local locals root >>= (λ x.
        indices >>= (λ links. o.look (record { root = x; written = static_steps tree (type_of locals root) steps; links = links })))

    abbrev pub declared : Name → ValueTree → Run C S (Unit {0})
    declared name v = local locals name >>= (λ x. o.write (all_of x) v)

    abbrev pub all_found : Name → Run C S (Spot × ValueTree)
    all_found name = local locals name >>= (λ x. o.look (record { root = x; written = []; links = [] }))

    -- the captures in order, each paid at the captured name
    abbrev pub captured : List Name → Run C S Parts
    captured [] = pure Nil
    captured (name ∷ names) = copied name.place (all_found name) >>= (λ v. captured names >>= (λ vs. pure (Cons v vs)))
