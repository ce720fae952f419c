use Rattle.std.proofs.Common.{◌≡◌, ◌-◌, ◌++◌}
use Rattle.hv_syn_grammar.specs.Parser.{many_within, read_then, done}
use Rattle.hv_syn_grammar.specs.Expressions as rule
use Rattle.hv_syn_grammar.specs.Declarations.{inner}
use Rattle.hv_syn_terms.proofs.grammar.Grammar.steps.Given as goal

abbrev pub invariant-loop-turn : goal.invariant-loop-turn
invariant-loop-turn g l = rule.steps l.self.room (inner l.self.room) l.fn.cursor ≡ read_then (many_within (l._turn-end - l._turn) rule.begins_step (rule.one_step l.self.room (inner l.self.room)) l.cursor) (λ more. done (l.found ++ more))
