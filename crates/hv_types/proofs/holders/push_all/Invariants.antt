use Rattle.std.proofs.Common.{◌≡◌, ◌++◌, drop}
use Rattle.hv_types.proofs.holders.push_all.Given as goal

abbrev pub invariant-loop-number : goal.invariant-loop-number
invariant-loop-number l = l.found ++ drop l.number-index l.more ≡ l.fn.found ++ l.more
