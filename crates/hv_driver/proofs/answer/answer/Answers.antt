use Rattle.std.proofs.Common.{refl, ap, subst, Err}
use Rattle.std.specs.Prelude.{string_bytes}
use Rattle.hv_words.specs.Answers.{asked_of}
use Rattle.hv_check.specs.Checks.{Checks}
use Rattle.hv_driver.specs.Answer.{refused, checked, shown}
use Rattle.hv_driver.proofs.answer.answer.Goals as goal

pub returns-in-Err-Refused : goal.returns-in-Err-Refused
returns-in-Err-Refused c =
    let r = c.in-Err-Refused in
    refused r.refusal (subst (λ e. Checks c.args.source.now (Err e)) r.field-0-is r.ensures).0 refl c.in_ok-text-in-Err-Refused.ensures

pub returns-in-Check : goal.returns-in-Check
returns-in-Check c = checked c.in-Ok.tree c.in-Ok.ensures.0 (string_bytes c.in-Check.file, ap asked_of c.in-Check.is) refl c.in_ok-from_slice-in-Check.ensures.items

pub returns-in-Show : goal.returns-in-Show
returns-in-Show c = shown c.in-Ok.tree c.in-Ok.ensures.0 (string_bytes c.in-Show.file, ap asked_of c.in-Show.is) refl c.in_ok-print-in-Show.ensures
