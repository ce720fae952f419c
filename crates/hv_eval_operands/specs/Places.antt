-- Places at a level.
use Rattle.std.specs.Prelude.{pos, List}
use Rattle.hv_tree.specs.declared.types.Name.{Name}
use Rattle.hv_tree.specs.declared.ast.PlaceExpr.{PlaceExpr, out-PlaceExpr}
use Rattle.hv_tree.specs.declared.ast.Step.{Step}
use Rattle.hv_value.specs.ValueTree.{ValueTree, Number}
use Rattle.hv_value.specs.Operators.{length_of}
use Rattle.hv_sem_copying.specs.declared.end.Cause.TheVariants.{Holes}
use Rattle.hv_sem_copying.specs.Run.{◌>>=◌, pure, known}
use Rattle.hv_sem_copying.specs.Places.{type_of}
use Rattle.hv_sem_flat.specs.Accesses.{Plain, Spot, there}
use Rattle.hv_sem_flat.specs.Parts.{found, moved}
use Rattle.hv_eval_env.specs.declared.level.Level.{Level}
use Rattle.hv_eval_env.specs.Level.{locals_in}
use Rattle.hv_eval_operands.specs.Links.{links_in}

-- the place that a root and steps name
abbrev pub found_in : Level → Name → List Step → Plain Spot
found_in l root steps = found (locals_in l) root (links_in l (type_of (locals_in l) root) steps)

abbrev pub found_by : Level → PlaceExpr → Plain Spot
found_by l p = found_in l (out-PlaceExpr p).root (out-PlaceExpr p).steps

-- what stands at a place is moved
abbrev pub moved_from : Plain Spot → Plain ValueTree
moved_from place = place >>= moved

-- ---- inside

-- the length of the array at a place
unfoldable pub count_there : Spot → Plain ValueTree
count_there p = there p >>= (λ t. known Holes (length_of t) >>= (λ n. pure (Number (pos n))))
