use Rattle.std.proofs.Common.{rules}
use Rattle.hv_words.specs.Line.{seen_of}
use Rattle.hv_words.proofs.LineLemmas.{steps_as, value_taken}
use Rattle.hv_words.proofs.line.Line.take_value.Goals as goal

pub returns : goal.returns
returns c =
    steps_as _ _ _ _ (value_taken c.args.word.now (seen_of c.args.self.now) (search rules)) c.keep.ensures
