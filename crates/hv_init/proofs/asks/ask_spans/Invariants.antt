use Rattle.std.proofs.Common.{◌≡◌, ◌++◌, map, drop}
use Rattle.hv_init_layout.specs.Laid.{laid}
use Rattle.hv_init.specs.Words.{span_asked}
use Rattle.hv_init.proofs.asks.ask_spans.Given as goal

abbrev pub invariant-loop-span : goal.invariant-loop-span
invariant-loop-span l = l.acts ++ map (span_asked (laid l.layout) l.place) (drop l.span-index l.spans) ≡ l.fn.acts ++ map (span_asked (laid l.layout) l.place) l.spans
