use Rattle.std.proofs.Common.{sym, ◌∙◌}
use Rattle.std.specs.Prelude.{codes}
use Rattle.hv_syn_grammar.specs.Lexemes.{is_keyword}
use Rattle.hv_syn_grammar.specs.Declarations.{field}
use Rattle.hv_syn_grammar.proofs.Loops.{turn_more}
use Rattle.hv_parse.proofs.declarations.fields.Goals as goal

pub loop-turn-preserved : goal.loop-turn-preserved
loop-turn-preserved c =
    rw c.in_ok-push.ensures.ok
    (c.loop-turn.invariant
    ∙ turn_more c.left-turn-end.result c.loop-turn._turn (is_keyword (codes "var")) (field c.args.room) c.loop-turn.cursor c.field.new.cursor c.loop-turn.found c.in_ok-field.field c.loop-turn-test.true (sym c.sees_keyword.ensures ∙ c.if-not-sees_keyword.false) c.in_ok-field.ensures)
