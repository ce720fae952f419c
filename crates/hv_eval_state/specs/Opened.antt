-- Accesses that are open.
use Rattle.std.specs.Prelude.{List, [], ◌∷◌}
use Rattle.hv_sem_copying.specs.Ops as ops
use Rattle.hv_sem_flat.specs.Accesses as flat
use Rattle.hv_eval_state.specs.declared.access.Access.{Access}
use Rattle.hv_eval_state.specs.declared.access.Mode.{Mode}
use Rattle.hv_eval_state.specs.declared.access.Mode.TheVariants as mode
use Rattle.hv_eval_state.specs.Spots.{spot_of}

abbrev pub mode_of : Mode → ops.Mode
mode_of mode.Reads = ops.Reads
mode_of mode.Writes = ops.Writes
mode_of mode.Sets = ops.Sets

abbrev pub access_of : Access → flat.Access
access_of a = record { mode = mode_of a.mode; reference = a.reference; place = spot_of a.place }

abbrev pub onto : List flat.Access → List Access → List flat.Access
onto done [] = done
onto done (a ∷ more) = onto (access_of a ∷ done) more

-- in the order in which they close
abbrev pub last_first : List Access → List flat.Access
last_first opened = onto [] opened
