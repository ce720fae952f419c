use Rattle.std.proofs.Common.{◌≡◌, drop}
use Rattle.hv_value.specs.Walk.{walk}
use Rattle.hv_partial.specs.HeldTree.{held_tree}
use Rattle.hv_partial.specs.Ways.{links_of}
use Rattle.hv_partial.proofs.WayLemmas.{behind}
use Rattle.hv_partial.proofs.way.walk.Given as goal

abbrev pub invariant-loop-link : goal.invariant-loop-link
invariant-loop-link l = behind l.path.items (walk (links_of (drop l.link-index l.links)) (held_tree l.place)) ≡ walk (links_of l.links) (held_tree l.held)
