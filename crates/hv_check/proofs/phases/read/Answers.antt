use Rattle.std.proofs.Common.{subst, Err}
use Rattle.hv_parse.specs.Answers.{Parses}
use Rattle.hv_check.proofs.Sources.{parsed_reads, refused_unread}
use Rattle.hv_check.proofs.phases.read.Goals as goal

pub returns-in-Ok-parse : goal.returns-in-Ok-parse
returns-in-Ok-parse c =
    let l = c.in-Ok.lexed in
    parsed_reads c.args.source.now l.tokens l.stop c.in-Ok-parse.tree c.in-Ok.ensures.lexes c.in-Ok-parse.ensures

pub returns-in-Err-Refused : goal.returns-in-Err-Refused
returns-in-Err-Refused c =
    let l = c.in-Ok.lexed in
    refused_unread c.args.source.now l.tokens l.stop l.end c.in-Err-Refused.refusal c.in-Ok.ensures.lexes c.in-Ok.ensures.end
    (subst (λ e. Parses l.tokens l.stop l.end (Err e)) c.in-Err-Refused.field-0-is c.in-Err-Refused.ensures)
