use Rattle.std.proofs.Common.{◌≡◌, ◌+◌, ◌-◌, ◌*◌, ◌++◌}
use Rattle.hv_syn_grammar.specs.Parser.{many_within, read_then, done}
use Rattle.hv_syn_grammar.specs.Levels.{level_of, is_infix}
use Rattle.hv_syn_grammar.specs.Expressions as rule
use Rattle.hv_syn_grammar.specs.Declarations.{inner}
use Rattle.hv_syn_terms.proofs.Weight.{weight}
use Rattle.hv_syn_terms.proofs.grammar.Grammar.+levels.Given as goal

abbrev pub decreases-operand : goal.decreases-operand
decreases-operand g l = 5 * weight l.strength + 1

abbrev pub decreases-link : goal.decreases-link
decreases-link g l = 5 * weight l.strength + 2

abbrev pub decreases-links : goal.decreases-links
decreases-links g l = 5 * weight l.strength + 3

abbrev pub decreases-repeated : goal.decreases-repeated
decreases-repeated g l = 5 * weight l.strength + 4

abbrev pub decreases-at_most_one : goal.decreases-at_most_one
decreases-at_most_one g l = 5 * weight l.strength + 4

abbrev pub decreases-level : goal.decreases-level
decreases-level g l = 5 * weight l.strength + 5

abbrev pub invariant-links-loop-turn : goal.invariant-links-loop-turn
invariant-links-loop-turn g l = rule.links (level_of l.strength) (rule.operand (level_of l.strength) l.self.room (inner l.self.room)) l.fn.cursor ≡ read_then (many_within (l._turn-end - l._turn) (is_infix (level_of l.strength)) (rule.link (level_of l.strength) (rule.operand (level_of l.strength) l.self.room (inner l.self.room))) l.cursor) (λ more. done (l.found ++ more))
