use Rattle.std.proofs.Common.{◌≡◌, [], length}
use Rattle.std.specs.Vec.Iter.{into_iter_items, into_iter_len}
use Rattle.hv_flow.specs.Reading.{read_all}
use Rattle.hv_flow.proofs.build.read_all.Given as goal

abbrev pub invariant-loop-op : goal.invariant-loop-op
invariant-loop-op l = (into_iter_len l.op-iterator ≡ length (into_iter_items l.op-iterator)) × (read_all (into_iter_items l.op-iterator) l.waiting l.nodes.items ≡ read_all l.fn.plan.items [] [])
