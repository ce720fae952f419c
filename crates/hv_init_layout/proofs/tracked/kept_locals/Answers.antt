use Rattle.std.proofs.Common.{inl, inr, arith, map}
use Rattle.hv_scope.specs.Known.{local_by}
use Rattle.hv_init_cells.specs.Plain.{kept}
use Rattle.hv_init_layout.specs.Tracked.{flag_at}
use Rattle.hv_init_layout.proofs.Tracking.{kept_all}
use Rattle.hv_init_layout.proofs.tracked.kept_locals.Goals.{in_default, in-len1-up+in_default-left_flags}
use Rattle.hv_init_layout.proofs.tracked.kept_locals.Goals as goal

pub returns : goal.returns
returns c =
    kept_all c.loop-left.found c.loop-left.left.now c.loop-left.left_flags.now (kept (flag_at c.args.flags.now) (map local_by c.args.locals.now)) c.loop-left.invariant
    (elim c.if-left-lt1.branch [
      | in_default w ↦ inl (omega (arith, w.in_default))
      | in-len1-up+in_default-left_flags w ↦ inr (omega (arith, w.in_default-left_flags))
    ])
