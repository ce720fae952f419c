use Rattle.std.proofs.Common.{sym, ◌∙◌}
use Rattle.hv_token.specs.Cutting.{has}
use Rattle.hv_token.proofs.Scanning.{shorter, scan_stop, scan_end}
use Rattle.hv_token.proofs.piece.front_len.Goals as goal
use Rattle.hv_token.proofs.piece.front_len.Goals.{in-Some+then-not-has, in_default}

pub loop-c-smaller : goal.loop-c-smaller
loop-c-smaller c = shorter c.loop-c.rest.now c.in-Some.c c.in-Some.after.now c.in-Some.ensures

pub returns-clause-value : goal.returns-clause-value
returns-clause-value c =
    elim c.match-first_char.branch [
      | in-Some+then-not-has w ↦ scan_stop (has c.args.class) c.args.text.now c.loop-c.rest.now w.in-Some.c w.in-Some.after.now c.loop-c.invariant.1 w.in-Some.ensures (sym w.has.ensures ∙ w.if-not-has.true)
      | in_default w ↦ scan_end (has c.args.class) c.args.text.now c.loop-c.rest.now c.loop-c.invariant.1 w.in_default.ensures.0
    ]
