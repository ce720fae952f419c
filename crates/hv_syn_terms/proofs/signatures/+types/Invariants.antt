use Rattle.std.proofs.Common.{◌≡◌, ◌+◌, ◌-◌, ◌*◌, ◌++◌}
use Rattle.std.specs.Prelude.{codes}
use Rattle.hv_tree.specs.Refusal.{is_mark}
use Rattle.hv_syn_grammar.specs.Parser.{many_within, read_then, done}
use Rattle.hv_syn_grammar.specs.Lexemes.{after_mark}
use Rattle.hv_syn_grammar.specs.Signatures as sig
use Rattle.hv_syn_terms.specs.Parts.{parts_after}
use Rattle.hv_syn_terms.proofs.signatures.+types.Given as goal

abbrev pub decreases-array_type : goal.decreases-array_type
decreases-array_type l = l.room * 16 + 1

abbrev pub decreases-group_type : goal.decreases-group_type
decreases-group_type l = l.room * 16 + 1

abbrev pub decreases-result_type : goal.decreases-result_type
decreases-result_type l = l.room * 16 + 2

abbrev pub decreases-function_result : goal.decreases-function_result
decreases-function_result l = l.room * 16 + 3

abbrev pub decreases-function_type : goal.decreases-function_type
decreases-function_type l = l.room * 16 + 4

abbrev pub decreases-any_type : goal.decreases-any_type
decreases-any_type l = l.room * 16 + 5

abbrev pub decreases-conv_type : goal.decreases-conv_type
decreases-conv_type l = l.room * 16 + 6

abbrev pub decreases-more_types : goal.decreases-more_types
decreases-more_types l = l.room * 16 + 7

abbrev pub decreases-types : goal.decreases-types
decreases-types l = l.room * 16 + 8

abbrev pub invariant-more_types-loop-turn : goal.invariant-more_types-loop-turn
invariant-more_types-loop-turn l = parts_after l.fn.first (sig.conv_type l.room (sig.inner_types l.room)) l.fn.cursor ≡ read_then (many_within (l._turn-end - l._turn) (is_mark (codes ",")) (after_mark (codes ",") (λ comma. sig.conv_type l.room (sig.inner_types l.room))) l.cursor) (λ more. done (l.found ++ more))
