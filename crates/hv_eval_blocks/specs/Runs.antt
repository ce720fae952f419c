-- What statements do over the runs of their parts.
use Rattle.std.specs.Prelude.{Bool, if◌then◌else◌, List, [], ◌∷◌, ◌++◌, Option, Some, None}
use Rattle.hv_tree.specs.declared.place.Place.{Place}
use Rattle.hv_tree.specs.declared.types.Name.{Name}
use Rattle.hv_decls.specs.Locals.{Local}
use Rattle.hv_value.specs.ValueTree.{ValueTree}
use Rattle.hv_value.specs.Texts.{text}
use Rattle.hv_sem_copying.specs.Run.{Flow, ◌>>=◌, pure, pay, say}
use Rattle.hv_sem_copying.specs.Operations as operations
use Rattle.hv_sem_copying.specs.Ops.{Mode}
use Rattle.hv_sem_copying.specs.Places.{local}
use Rattle.hv_sem_copying.specs.Copying.{copying}
use Rattle.hv_sem_flat.specs.Accesses.{Plain, Spot, put_at}
use Rattle.hv_sem_flat.specs.Parts.{Went, Goes, declared, opening}

unfoldable pub tested : Plain ValueTree → Plain Bool
tested x = x >>= operations.truth

abbrev pub after_body : Flow → Plain (Option Flow)
after_body None = pure None
after_body (Some v) = pure (Some (Some v))

abbrev pub turn_by : Plain Flow → Bool → Plain (Option Flow)
turn_by body b = if b then body >>= after_body else pure (Some None)

-- one turn of a loop, whose test is paid
unfoldable pub turn : Place → Plain ValueTree → Plain Flow → Plain (Option Flow)
turn at test body = pay 1 at >>= (λ paid. tested test >>= turn_by body)

unfoldable pub assigned : Plain ValueTree → Plain Spot → Plain Went
assigned x place = x >>= (λ w. place >>= (λ p. put_at p w >>= (λ done. pure Goes)))

unfoldable pub printed : Plain ValueTree → Plain Went
printed x = x >>= (λ w. say (text w ++ 10 ∷ []) >>= (λ done. pure Goes))

-- a local that begins with a value
unfoldable pub given : List Local → Name → Plain ValueTree → Plain Went
given locals name x = x >>= (λ w. declared locals name w)

-- a reference that stands for a place
unfoldable pub referred : List Local → Mode → Name → Plain Spot → Plain Went
referred locals mode name place = place >>= (λ p. local locals name >>= (λ r. opening mode r p))

unfoldable pub awaited : List Local → Name → Plain Went
awaited locals name = local locals name >>= (λ h. copying.await h >>= (λ w. pure Goes))

-- a value that goes
unfoldable pub dropped : Plain ValueTree → Plain Went
dropped x = x >>= (λ w. pure Goes)
