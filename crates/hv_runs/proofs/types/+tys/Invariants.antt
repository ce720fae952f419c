use Rattle.std.proofs.Common.{◌≡◌, drop}
use Rattle.hv_runs.specs.Parts as parts
use Rattle.hv_runs.proofs.types.+tys.Given as goal

abbrev pub invariant-tys_read-loop-conv : goal.invariant-tys_read-loop-conv
invariant-tys_read-loop-conv l = parts.pairs_read (drop l.conv-index l.tys) ≡ parts.pairs_read l.fn.tys
