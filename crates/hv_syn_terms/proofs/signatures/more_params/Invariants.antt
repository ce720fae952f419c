use Rattle.std.proofs.Common.{◌≡◌, ◌-◌, ◌++◌}
use Rattle.std.specs.Prelude.{codes}
use Rattle.hv_tree.specs.Refusal.{is_mark}
use Rattle.hv_syn_grammar.specs.Parser.{many_within, read_then, done}
use Rattle.hv_syn_grammar.specs.Lexemes.{after_mark}
use Rattle.hv_syn_grammar.specs.Signatures as sig
use Rattle.hv_syn_terms.specs.Parts.{parts_after}
use Rattle.hv_syn_terms.proofs.signatures.more_params.Given as goal

abbrev pub invariant-loop-turn : goal.invariant-loop-turn
invariant-loop-turn l = parts_after l.fn.first (sig.param l.room) l.fn.cursor ≡ read_then (many_within (l._turn-end - l._turn) (is_mark (codes ",")) (after_mark (codes ",") (λ comma. sig.param l.room)) l.cursor) (λ more. done (l.found ++ more))
