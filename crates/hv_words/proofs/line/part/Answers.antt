use Rattle.hv_words.specs.Line.{form_of, seen_of}
use Rattle.hv_words.proofs.LineLemmas.{goes_off, goes_on, goes_out}
use Rattle.hv_words.proofs.line.part.Goals as goal

pub loop-word-preserved : goal.loop-word-preserved
loop-word-preserved c =
    goes_on (form_of c.args.form.now) _ _ c.word-item.result c.as_str.result.now _ (seen_of c.take.new.self)
    c.loop-word-test.true c.word-item.is c.as_str.ensures.value c.in_default.ensures c.loop-word.invariant

pub returns-in-Err : goal.returns-in-Err
returns-in-Err c =
    goes_off (form_of c.args.form.now) _ _ c.word-item.result c.as_str.result.now _ (seen_of c.take.new.self) c.in-Err.end
    c.loop-word-test.true c.word-item.is c.as_str.ensures.value c.in-Err.ensures c.loop-word.invariant

pub returns : goal.returns
returns c = goes_out (form_of c.args.form.now) _ _ _ c.finish.result c.loop-word-test.false c.finish.ensures c.loop-word.invariant
