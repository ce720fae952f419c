use Rattle.std.proofs.Common.{sym, ◌∙◌}
use Rattle.hv_syn_grammar.specs.Declarations.{inner}
use Rattle.hv_syn_grammar.specs.Statements as spec
use Rattle.hv_parse.proofs.ItemTurns.{items_more}
use Rattle.hv_parse.proofs.statements.Statements.stmts.Goals as goal

pub loop-turn-preserved : goal.loop-turn-preserved
loop-turn-preserved g c =
    c.loop-turn.invariant
    ∙ items_more c.left-turn-end.result c.loop-turn._turn (spec.item c.args.self.now.terms.room (inner c.args.self.now.terms.room)) c.loop-turn.cursor c.one_more.new.cursor c.loop-turn.found c.one_more.new.found c.in_ok-one_more.field-0 c.loop-turn-test.true (sym c.begins_item.ensures ∙ c.if-not-begins_item.false) c.in_ok-one_more.ensures c.if-branch.false
