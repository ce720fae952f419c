use Rattle.std.proofs.Common.{◌≡◌, [], None, length, replicate}
use Rattle.hv_init_needs.specs.declared.standing.Standing.TheVariants.{Unfilled}
use Rattle.hv_init_needs.specs.Standings.{marked_by}
use Rattle.hv_init_needs.specs.Words.{seen_words}
use Rattle.hv_init_needs.proofs.needs.mark_words.Given as goal

abbrev pub invariant-loop-left : goal.invariant-loop-left
invariant-loop-left l = marked_by (seen_words l.before l.sight l.left) l.all ≡ marked_by (seen_words None [] l.plan) (replicate l.count Unfilled)

abbrev pub decreases-loop-left : goal.decreases-loop-left
decreases-loop-left l = length l.left
