use Rattle.std.proofs.Common.{◌≡◌, ◌≤◌, ◌+◌, take, count_by}
use Rattle.std.specs.List.{after_last}
use Rattle.hv_tree.specs.Place.{is_line_feed, begins_character}
use Rattle.hv_tree.proofs.place.line_col.Given as goal

abbrev pub invariant-loop-byte : goal.invariant-loop-byte
invariant-loop-byte l = record {
  line : l.line ≡ 1 + count_by is_line_feed (take l.byte-index l.byte-items);
  column : l.column ≡ 1 + count_by begins_character (after_last is_line_feed (take l.byte-index l.byte-items));
  few_lines : l.line ≤ 1 + l.byte-index;
  few_columns : l.column ≤ 1 + l.byte-index;
}
