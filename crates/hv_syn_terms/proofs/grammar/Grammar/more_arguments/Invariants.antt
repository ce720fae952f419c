use Rattle.std.proofs.Common.{◌≡◌, ◌-◌, ◌++◌}
use Rattle.std.specs.Prelude.{codes}
use Rattle.hv_tree.specs.Refusal.{is_mark}
use Rattle.hv_syn_grammar.specs.Parser.{many_within, read_then, done}
use Rattle.hv_syn_grammar.specs.Lexemes.{after_mark}
use Rattle.hv_syn_grammar.specs.Expressions as rule
use Rattle.hv_syn_grammar.specs.Declarations.{inner}
use Rattle.hv_syn_terms.specs.Parts.{parts_after}
use Rattle.hv_syn_terms.proofs.grammar.Grammar.more_arguments.Given as goal

abbrev pub invariant-loop-turn : goal.invariant-loop-turn
invariant-loop-turn g l = parts_after l.fn.first (rule.argument (inner l.self.room)) l.fn.cursor ≡ read_then (many_within (l._turn-end - l._turn) (is_mark (codes ",")) (after_mark (codes ",") (λ comma. rule.argument (inner l.self.room))) l.cursor) (λ more. done (l.found ++ more))
