use Rattle.std.proofs.Common.{sym, ◌∙◌, ap}
use Rattle.std.specs.Prelude.{codes}
use Rattle.hv_tree.specs.Refusal.{is_mark}
use Rattle.hv_syn_grammar.specs.Parser.{read_then}
use Rattle.hv_syn_grammar.specs.Lexemes.{after_mark}
use Rattle.hv_syn_grammar.proofs.Loops.{turn_more}
use Rattle.hv_syn_grammar.specs.Signatures as sig
use Rattle.hv_syn_terms.proofs.signatures.more_params.Goals as goal

pub loop-turn-preserved : goal.loop-turn-preserved
loop-turn-preserved c =
    rw c.in_ok-push-2.ensures.ok
    (c.loop-turn.invariant
    ∙ turn_more c.left-turn-end.result c.loop-turn._turn (is_mark (codes ",")) (after_mark (codes ",") (λ comma. sig.param c.args.room)) c.loop-turn.cursor c.param.new.cursor c.loop-turn.found c.in_ok-next.next c.loop-turn-test.true (sym c.sees_mark.ensures ∙ c.if-not-sees_mark.false)
    (ap (λ q. read_then q (λ comma. sig.param c.args.room)) c.in_ok-mark.ensures ∙ c.in_ok-next.ensures))
