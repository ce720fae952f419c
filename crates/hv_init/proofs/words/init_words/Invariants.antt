use Rattle.std.proofs.Common.{◌≡◌, ◌++◌, [], None, length}
use Rattle.hv_init_layout.specs.Laid.{laid}
use Rattle.hv_init.specs.Words.{init_words}
use Rattle.hv_init.proofs.words.init_words.Given as goal

abbrev pub invariant-loop-left : goal.invariant-loop-left
invariant-loop-left l = l.acts ++ init_words (laid l.layout) l.before l.opened l.to_come l.left ≡ init_words (laid l.layout) None [] l.ends l.words

abbrev pub decreases-loop-left : goal.decreases-loop-left
decreases-loop-left l = length l.left
