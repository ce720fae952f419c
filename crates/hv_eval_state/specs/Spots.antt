-- Places in locals.
use Rattle.std.specs.Prelude.{◌≡◌, ◌⊎◌, Bool, false, Option, Some, None}
use Rattle.hv_tree.specs.declared.place.Place.{Place}
use Rattle.hv_value.specs.ValueTree.{ValueTree, Hole}
use Rattle.hv_value.specs.Holes.{is_whole}
use Rattle.hv_value.specs.Sizes.{copy_cost}
use Rattle.hv_sem_copying.specs.Run.{◌>>=◌, pure, pay}
use Rattle.hv_sem_copying.specs.Places.{whole}
use Rattle.hv_sem_flat.specs.Accesses as flat
use Rattle.hv_sem_flat.specs.Accesses.{Plain, there}
use Rattle.hv_eval_state.specs.declared.spot.Spot.{Spot}

abbrev pub spot_of : Spot → flat.Spot
spot_of s = record { root = s.root; path = s.path }

-- what stands there, or none where that is nothing or a hole
abbrev pub Found : Option ValueTree → Option ValueTree → Type 0
Found o None = (o ≡ None) ⊎ (o ≡ Some Hole)
Found o (Some t) = o ≡ Some t

-- a tree without holes stands there
abbrev pub whole_there : Option ValueTree → Bool
whole_there None = false
whole_there (Some t) = is_whole t

-- what stands there is copied, which is paid at this place
unfoldable pub copied_there : Place → flat.Spot → Plain ValueTree
copied_there at p = there p >>= (λ t. whole t >>= (λ v. pay (copy_cost v) at >>= (λ paid. pure v)))
