use Rattle.std.proofs.Common.{take}
use Rattle.hv_tree.specs.Core.{Core}
use Rattle.hv_tree.specs.Earlier.{IsFirst}
use Rattle.hv_excl.specs.Violations.{ArePlanned, IsViolatedAmong}
use Rattle.hv_excl.proofs.excl.first_among.Given as goal

abbrev pub invariant-loop-planned : goal.invariant-loop-planned
invariant-loop-planned l = (tree : Core) → ArePlanned tree l.all → IsFirst (IsViolatedAmong tree (take l.planned-index l.all)) l.first
