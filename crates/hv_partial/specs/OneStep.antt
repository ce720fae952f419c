-- One step of a way.
use Rattle.std.specs.Prelude.{ℤ, pos, negsuc, Option, Some, None}
use Rattle.hv_tree.specs.declared.place.Place.{Place}
use Rattle.hv_value.specs.declared.value.PathStep.{PathStep}
use Rattle.hv_value.specs.declared.value.PathStep.TheVariants.{Field, At}
use Rattle.hv_value.specs.ValueTree.{ValueTree, Fields, Elements}
use Rattle.hv_value.specs.Places.{nth}
use Rattle.hv_value.specs.Walk.{Link, ToField, ToIndex}
use Rattle.hv_partial.specs.declared.way.Stepped.{Stepped}
use Rattle.hv_partial.specs.declared.way.Stepped.TheVariants as stepped
use Rattle.hv_partial.specs.HeldTree.{held_tree}

pub data Taken : Type 0 where
  Onto : PathStep → ValueTree → Taken
  Off : Place → Taken
  Nowhere : Taken

abbrev pub taken_of : Stepped → Taken
taken_of (stepped.Onto s part) = Onto s (held_tree part.now)
taken_of (stepped.Outside at) = Off at
taken_of stepped.Lost = Nowhere

-- onto the part, or the other answer where there is none
abbrev pub onto : PathStep → Taken → Option ValueTree → Taken
onto s other None = other
onto s other (Some c) = Onto s c

abbrev pub one_step : Link Place → ValueTree → Taken
one_step (ToField k) (Fields ts) = onto (Field k) Nowhere (nth ts k)
one_step (ToIndex (pos k) at) (Elements ts) = onto (At k) (Off at) (nth ts k)
one_step (ToIndex (negsuc k) at) (Elements ts) = Off at
one_step _ _ = Nowhere
