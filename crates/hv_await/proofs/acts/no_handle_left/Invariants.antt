use Rattle.std.proofs.Common.{◌≡◌, ◌++◌, map, drop}
use Rattle.hv_await.specs.Acts as spec
use Rattle.hv_await.proofs.acts.no_handle_left.Given as goal

abbrev pub invariant-loop-span : goal.invariant-loop-span
invariant-loop-span l = l.acts ++ map (spec.none_left l.at) (drop l.span-index l.handles) ≡ map (spec.none_left l.at) l.handles
