use Rattle.std.proofs.Common.{rules}
use Rattle.hv_partial.proofs.VariantLemmas.{filled_held}
use Rattle.hv_partial.proofs.arrays.filled.Goals as goal

pub returns : goal.returns
returns c = filled_held c.args.n c.args.held.now _ (search rules)
