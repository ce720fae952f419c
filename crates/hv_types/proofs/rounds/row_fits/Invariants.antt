use Rattle.std.proofs.Common.{◌≡◌, drop}
use Rattle.hv_types.specs.Rounds as spec
use Rattle.hv_types.proofs.rounds.row_fits.Given as goal

abbrev pub invariant-loop-field : goal.invariant-loop-field
invariant-loop-field l = spec.row_fits l.depths l.most (drop l.field-index l.row) ≡ spec.row_fits l.depths l.most l.row
