use Rattle.std.proofs.Common.{take}
use Rattle.hv_tree.specs.Earlier.{IsFirst}
use Rattle.hv_lemmas.proofs.Members.{Among}
use Rattle.hv_tree.proofs.least.first.Given as goal

abbrev pub invariant-loop-refusal : goal.invariant-loop-refusal
invariant-loop-refusal l = IsFirst (Among (take l.refusal-index l.found)) l.best
