use Rattle.std.proofs.Common.{◌≡◌, ◌++◌, drop}
use Rattle.hv_flow_ends.proofs.span.push_spans.Given as goal

abbrev pub invariant-loop-span : goal.invariant-loop-span
invariant-loop-span l = l.spans ++ drop l.span-index l.more ≡ l.fn.spans ++ l.more
