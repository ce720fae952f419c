use Rattle.std.proofs.Common.{◌≡◌, ◌<◌, ◌≤◌, length, sym, ap, ◌∙◌, arith}
use Rattle.hv_scope.specs.Oldest.{oldest}
use Rattle.hv_scope.proofs.OldestLemmas.{oldest_all, oldest_next}
use Rattle.hv_scope.proofs.EntryLemmas.{length_seen}
use Rattle.hv_scope.proofs.visible.Visible.shorten.Goals as goal

pub loop-self-preserved : goal.loop-self-preserved
loop-self-preserved c =
    let size : c.len.result ≡ length c.loop-self.self = c.len.ensures ∙ length_seen c.loop-self.self c.self.inside.list (sym c.self.view_is) in
    let longer : c.args.len < length c.loop-self.self = omega (arith, size, c.loop-self-test.true) in
    ap (oldest c.args.len) c.pop.ensures ∙ oldest_next c.args.len c.loop-self.self longer ∙ c.loop-self.invariant

pub returns : goal.returns
returns c =
    let size : c.len.result ≡ length c.loop-self.self = c.len.ensures ∙ length_seen c.loop-self.self c.self.inside.list (sym c.self.view_is) in
    let shorter : length c.loop-self.self ≤ c.args.len = omega (arith, size, c.loop-self-test.false) in
    sym (oldest_all c.args.len c.loop-self.self shorter) ∙ c.loop-self.invariant
