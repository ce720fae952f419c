use Rattle.std.proofs.Common.{refl, subst, ap, ◌∙◌, map, Err}
use Rattle.std.specs.Prelude.{string_bytes}
use Rattle.hv_words.specs.Answers.{asked_of}
use Rattle.hv_driver.specs.Answer.{Answers}
use Rattle.hv_driver.specs.Delivers.{Delivers}
use Rattle.hv_driver.specs.Took.{ReadsFile}
use Rattle.hv_driver.proofs.Ends.{answered, unless}
use Rattle.hv_driver.proofs.top.alone.Goals as goal

pub returns-in-Err-Usage-clause-untaken : goal.returns-in-Err-Usage-clause-untaken
returns-in-Err-Usage-clause-untaken g c = λ n. (refl, unless c.deliver.result _ c.deliver.ensures)

pub returns-in-Err-Usage-clause-usage_only : goal.returns-in-Err-Usage-clause-usage_only
returns-in-Err-Usage-clause-usage_only g c = λ e. c.order_of.ensures.usage_only (c.in-Err-Usage.is ∙ ap Err c.in-Err-Usage.field-0-is)

pub returns-in-Err-Usage-clause-answer : goal.returns-in-Err-Usage-clause-answer
returns-in-Err-Usage-clause-answer g c = λ asked taken. absurd (c.order_of.ensures.usage_only (c.in-Err-Usage.is ∙ ap Err c.in-Err-Usage.field-0-is) asked taken)

pub returns-in-Err-Fault-clause-untaken : goal.returns-in-Err-Fault-clause-untaken
returns-in-Err-Fault-clause-untaken g c = λ n. absurd (n (asked_of c.in-Ok.order) c.in-Ok.ensures.taken.0)

pub returns-in-Err-Memory-clause-untaken : goal.returns-in-Err-Memory-clause-untaken
returns-in-Err-Memory-clause-untaken g c = λ n. absurd (n (asked_of c.in-Ok.order) c.in-Ok.ensures.taken.0)

pub returns-clause-untaken : goal.returns-clause-untaken
returns-clause-untaken g c = λ n. absurd (n (asked_of c.in-Ok.order) c.in-Ok.ensures.taken.0)

pub returns-clause-answer : goal.returns-clause-answer
returns-clause-answer g c =
    let one = asked_of c.in-Ok.order in
    let source = c.in-Ok-read_file.source.items in
    let status = c.in-Ok-answer.status in
    let text = c.in-Ok-answer.text.items in
    let end = c.deliver-in-Ok-answer in
    let read = subst (λ f. ReadsFile (g.S.Source.files c.args.src.now f) (g.S.Source.left c.read_file.new.src) source) c.file_of.ensures c.in-Ok-read_file.ensures.bytes in
    let ans : Answers one source status text = subst (λ bs. Answers one bs status text) c.as_slice.ensures.value c.in-Ok-answer.ensures in
    let d = subst (λ t. Delivers status end.result t (g.K.Sink.written c.args.out.now) (g.K.Sink.written end.new.out) (g.K.Sink.faults c.args.out.now) (g.K.Sink.faults end.new.out)) c.as_slice-in-Ok-answer.ensures.value end.ensures in
    answered (map string_bytes c.args.words.now) one (g.S.Source.files c.args.src.now) _ source status end.result text _ _ _ _ c.in-Ok.ensures.taken.1 read ans d
