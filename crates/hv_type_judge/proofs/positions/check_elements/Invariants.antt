use Rattle.std.proofs.Common.{◌≡◌, ◌++◌, drop}
use Rattle.hv_type_synth.specs.Held.{known_by}
use Rattle.hv_type_judge.specs.Seen as seen
use Rattle.hv_type_judge.proofs.positions.check_elements.Given as goal

abbrev pub invariant-loop-element : goal.invariant-loop-element
invariant-loop-element l = l.found.items ++ seen.element_t1 l.around (known_by l.first) (drop l.element-index l.elements) ≡ l.fn.found.items ++ seen.element_t1 l.around (known_by l.first) l.elements
