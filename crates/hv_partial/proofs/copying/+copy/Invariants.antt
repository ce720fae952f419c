use Rattle.std.proofs.Common.{◌≡◌, take}
use Rattle.hv_partial.proofs.copying.+copy.Given as goal

abbrev pub invariant-copy_all-loop-part : goal.invariant-copy_all-loop-part
invariant-copy_all-loop-part l = l.copies.items ≡ take l.part-index l.parts
