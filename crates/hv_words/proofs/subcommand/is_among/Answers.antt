use Rattle.std.proofs.Common.{◌∙◌, sym}
use Rattle.hv_words.proofs.LineLemmas.{among_here, among_on}
use Rattle.hv_words.proofs.subcommand.is_among.Goals as goal

pub returns-then-eq : goal.returns-then-eq
returns-then-eq c =
    among_here _ _ _ _ _ c.loop-other-test.true (sym c.eq.ensures ∙ c.if-eq.true) c.loop-other.invariant

pub loop-other-preserved : goal.loop-other-preserved
loop-other-preserved c =
    among_on _ _ _ _ _ c.loop-other-test.true (sym c.eq.ensures ∙ c.if-eq.false) c.loop-other.invariant
