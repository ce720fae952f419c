use Rattle.hv_words.specs.Line.{form_of, seen_of}
use Rattle.hv_words.proofs.LineLemmas.{Goes}
use Rattle.hv_words.proofs.line.part.Given as goal

abbrev pub invariant-loop-word : goal.invariant-loop-word
invariant-loop-word l = Goes (form_of l.form) l.words l.word-index (seen_of l.line)
