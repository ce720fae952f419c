use Rattle.std.proofs.Common.{◌≡◌, ◌+◌, ◌*◌, ◌++◌, map, drop}
use Rattle.hv_tree.specs.Core.{core_tree}
use Rattle.hv_partial.specs.HeldTree.{held_tree}
use Rattle.hv_eval_blocks.specs.Hollows.{hollow_field}
use Rattle.hv_eval_blocks.proofs.hollow.+holes.Given as goal

abbrev pub decreases-holes_within : goal.decreases-holes_within
decreases-holes_within l = 2 * l.depth

abbrev pub decreases-holes_of_fields : goal.decreases-holes_of_fields
decreases-holes_of_fields l = 2 * l.depth + 1

abbrev pub invariant-holes_of_fields-loop-field : goal.invariant-holes_of_fields-loop-field
invariant-holes_of_fields-loop-field l = map held_tree l.parts ++ map (hollow_field (core_tree l.declared) l.depth) (drop l.field-index l.fields) ≡ map (hollow_field (core_tree l.declared) l.depth) l.fields
