use Rattle.std.proofs.Common.{sym, ◌∙◌}
use Rattle.hv_syn_grammar.proofs.Loops.{turn_more}
use Rattle.hv_syn_grammar.specs.Levels.{level_of, is_infix}
use Rattle.hv_syn_grammar.specs.Expressions as rule
use Rattle.hv_syn_grammar.specs.Declarations.{inner}
use Rattle.hv_syn_terms.proofs.grammar.Grammar.+levels.Goals as goal

pub links-loop-turn-preserved : goal.links-loop-turn-preserved
links-loop-turn-preserved g t c =
    rw c.in_ok-push.ensures.ok
    (c.loop-turn.invariant
    ∙ turn_more c.left-turn-end.result c.loop-turn._turn (is_infix (level_of c.args.strength)) (rule.link (level_of c.args.strength) (rule.operand (level_of c.args.strength) c.args.self.now.room (inner c.args.self.now.room))) c.loop-turn.cursor c.link.new.cursor c.loop-turn.found c.in_ok-link.link c.loop-turn-test.true (sym c.sees_infix.ensures ∙ c.if-not-sees_infix.false) c.in_ok-link.ensures)
