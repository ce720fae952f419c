use Rattle.std.proofs.Common.{sym, ◌∙◌}
use Rattle.hv_syn_grammar.specs.Declarations.{one_decl, begins_decl}
use Rattle.hv_syn_grammar.proofs.Loops.{turn_more}
use Rattle.hv_parse.proofs.declarations.decls.Goals as goal

pub loop-turn-preserved : goal.loop-turn-preserved
loop-turn-preserved c =
    rw c.in_ok-push.ensures.ok
    (c.loop-turn.invariant
    ∙ turn_more c.left-turn-end.result c.loop-turn._turn begins_decl (one_decl c.args.room) c.loop-turn.cursor c.one_decl.new.cursor c.loop-turn.found c.in_ok-decl.decl c.loop-turn-test.true (sym c.begins_decl.ensures ∙ c.if-not-begins_decl.false) c.in_ok-decl.ensures)
