use Rattle.std.proofs.Common.{◌≡◌, ◌++◌, take}
use Rattle.hv_flow.proofs.build.add.Given as goal

abbrev pub invariant-loop-k : goal.invariant-loop-k
invariant-loop-k l = l.next ≡ l.fn.next ++ take l.k-index l.to
