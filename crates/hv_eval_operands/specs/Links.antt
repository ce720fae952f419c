-- The steps of places at a level.
use Rattle.std.specs.Prelude.{ℤ, List, [], Option, Some}
use Rattle.std.specs.Borrow.{Bor}
use Rattle.std.specs.Option.{option_copied}
use Rattle.hv_tree.specs.declared.place.Place.{Place}
use Rattle.hv_tree.specs.declared.types.Ty.{Ty}
use Rattle.hv_tree.specs.declared.ast.Step.{Step}
use Rattle.hv_tree.specs.Core.{CoreExpr, CoreSteps, NoSteps, FieldStep, IndexStep, core_step, core_steps}
use Rattle.hv_decls.specs.Types.{ValueType, FieldAt}
use Rattle.hv_decls.specs.Statics.{field_at, element_at}
use Rattle.hv_value.specs.ValueTree.{ValueTree}
use Rattle.hv_value.specs.Walk.{Link, ToField, ToIndex}
use Rattle.hv_sem_copying.specs.declared.end.Cause.TheVariants.{Kinds}
use Rattle.hv_sem_copying.specs.Run.{◌>>=◌, pure, stuck, known}
use Rattle.hv_sem_copying.specs.Operations.{number}
use Rattle.hv_sem_flat.specs.Accesses.{Plain}
use Rattle.hv_sem_flat.specs.Flat.{value, links_from}
use Rattle.hv_scope.specs.Known.{typed}
use Rattle.hv_partial.specs.declared.way.Link.{Link as HeldLink}
use Rattle.hv_partial.specs.Ways.{link_of}
use Rattle.hv_eval_env.specs.declared.level.Level.{Level}
use Rattle.hv_eval_env.specs.Level.{tree_in, locals_in, deeper_in}

-- what an expression in its plain form does
abbrev pub value_by : Level → CoreExpr → Plain ValueTree
value_by l x = value (tree_in l) (locals_in l) (deeper_in l) x

-- the steps behind something of this type, their indices evaluated in order
abbrev pub links_in : Level → Option ValueType → List Step → Plain (List (Link Place))
links_in l t steps = links_from (tree_in l) (locals_in l) (deeper_in l) [] t (core_steps steps)

-- ---- inside

-- an index
abbrev pub index_by : Level → CoreExpr → Plain ℤ
index_by l x = value_by l x >>= number

-- a step's link, and the type of what it leads to
abbrev pub to_field : FieldAt → Plain (Link Place × Option ValueType)
to_field f = pure (ToField f.number, Some f.ty)

abbrev pub to_index : Place → Option ValueType → ℤ → Plain (Link Place × Option ValueType)
to_index at t z = pure (ToIndex z at, element_at t)

abbrev pub first_link : Level → Option ValueType → CoreSteps → Plain (Link Place × Option ValueType)
first_link l t NoSteps = stuck Kinds
first_link l t (FieldStep name rest) = known Kinds (field_at (tree_in l) t name) >>= to_field
first_link l t (IndexStep at x rest) = index_by l x >>= to_index at t

abbrev pub link_in : Level → Option ValueType → Step → Plain (Link Place × Option ValueType)
link_in l t s = first_link l t (core_step s NoSteps)

abbrev pub linked : HeldLink × Option (Bor Ty) → Link Place × Option ValueType
linked r = (link_of r.0, typed (option_copied r.1))
