use Rattle.std.proofs.Common.{◌≡◌, map, drop}
use Rattle.hv_words.specs.Taken.{is_among}
use Rattle.hv_words.proofs.subcommand.is_among.Given as goal

abbrev pub invariant-loop-other : goal.invariant-loop-other
invariant-loop-other l =
    is_among l.word (map (λ s. s.now) (drop l.other-index l.words))
    ≡ is_among l.word (map (λ s. s.now) l.words)
