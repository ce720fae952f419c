use Rattle.std.proofs.Common.{rules}
use Rattle.hv_partial.proofs.VariantLemmas.{emptied_held}
use Rattle.hv_partial.proofs.holes.+emptied.Goals as goal

pub emptied-returns-in_ok-all_emptied-in-Struct : goal.emptied-returns-in_ok-all_emptied-in-Struct
emptied-returns-in_ok-all_emptied-in-Struct t c = emptied_held _ c.in-Struct.parts _ c.in-Struct.is (search rules) (search rules)
