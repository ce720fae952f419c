use Rattle.std.proofs.Common.{◌∙◌, rules}
use Rattle.hv_words.specs.Line.{seen_of}
use Rattle.hv_words.proofs.LineLemmas.{name_kept, name_taken, steps_as}
use Rattle.hv_words.proofs.line.Line.take_name.Goals as goal

pub returns-in-Ok : goal.returns-in-Ok
returns-in-Ok c = steps_as _ _ _ _
    (name_taken c.args.waits c.args.word.now (seen_of c.args.self.now) (search rules)
    ∙ name_kept c.args.waits c.args.word.now (seen_of c.args.self.now) (seen_of c.note.new.self) c.in-Ok.ensures) c.keep.ensures
