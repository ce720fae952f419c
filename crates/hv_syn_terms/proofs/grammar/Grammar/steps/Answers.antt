use Rattle.std.proofs.Common.{sym, ◌∙◌}
use Rattle.hv_syn_grammar.proofs.Loops.{turn_more}
use Rattle.hv_syn_grammar.specs.Expressions as rule
use Rattle.hv_syn_grammar.specs.Declarations.{inner}
use Rattle.hv_syn_terms.proofs.grammar.Grammar.steps.Goals as goal

pub loop-turn-preserved : goal.loop-turn-preserved
loop-turn-preserved g c =
    rw c.in_ok-push.ensures.ok
    (c.loop-turn.invariant
    ∙ turn_more c.left-turn-end.result c.loop-turn._turn rule.begins_step (rule.one_step c.args.self.now.room (inner c.args.self.now.room)) c.loop-turn.cursor c.one_step.new.cursor c.loop-turn.found c.in_ok-step.step c.loop-turn-test.true (sym c.begins_step.ensures ∙ c.if-not-begins_step.false) c.in_ok-step.ensures)
