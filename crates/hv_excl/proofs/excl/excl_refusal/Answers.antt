use Rattle.hv_tree.specs.Core.{core_tree}
use Rattle.hv_excl.proofs.Firsts.{program_of}
use Rattle.hv_excl.proofs.excl.excl_refusal.Goals as goal

pub returns : goal.returns
returns c = record {
  first = program_of (core_tree c.args.tree.now) c.in_ok-all.all.items c.as_slice.result.now c.in_ok-first.first c.as_slice.ensures.value c.in_ok-all.ensures (c.in_ok-first.ensures.first (core_tree c.args.tree.now));
}
