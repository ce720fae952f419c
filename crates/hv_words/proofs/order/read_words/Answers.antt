use Rattle.std.proofs.Common.{◌≡◌, ◌∙◌, ap, arith, length, map, rules, subst, sym, []}
use Rattle.std.proofs.lemmas.List.{take_rest}
use Rattle.std.specs.Prelude.{option_map, string_bytes}
use Rattle.hv_words.specs.Answers.{asked_of}
use Rattle.hv_words.specs.Line.{form_of}
use Rattle.hv_words.specs.Taken.{asked_by}
use Rattle.hv_words.specs.Telling.{said_of}
use Rattle.hv_words.proofs.AnswerLemmas.{begin, no_words, said_end, said_taken, unnamed}
use Rattle.hv_words.proofs.SettingsLemmas.{row_sound}
use Rattle.hv_words.proofs.order.read_words.Goals as goal

pub returns-in-Err : goal.returns-in-Err
returns-in-Err c =
    let begins = begin c.args.words.now _ c.name-item.result c.as_str.result.now c.in-len1-up.len_at_least
    (take_rest c.args.words.now 1) (c.as_str.ensures.value ∙ ap string_bytes c.name-item.is) in
    let named = sym c.named.ensures ∙ ap (option_map form_of) c.in-Some.is in
    said_end _ _ c.as_str.result.now begins (form_of c.in-Some.form) c.in-Err.end named
    (c.in-Err.ensures (row_sound c.as_str.result.now (form_of c.in-Some.form) named))

pub returns-in-Ok-from_str : goal.returns-in-Ok-from_str
returns-in-Ok-from_str c =
    let begins = begin c.args.words.now _ c.name-item.result c.as_str.result.now c.in-len1-up.len_at_least
    (take_rest c.args.words.now 1) (c.as_str.ensures.value ∙ ap string_bytes c.name-item.is) in
    let named = sym c.named.ensures ∙ ap (option_map form_of) c.in-Some.is in
    let same : string_bytes c.in-Ok-from_str.word ≡ c.in-Ok.said.word.now = search rules in
    let is = subst (λ w. asked_of c.order_of.result ≡ asked_by c.in-Some.form.subcommand (record (said_of c.in-Ok.said) { word = w })) same c.order_of.ensures in
    said_taken _ _ c.as_str.result.now begins (form_of c.in-Some.form) (said_of c.in-Ok.said) (asked_of c.order_of.result) named
    (c.in-Ok.ensures (row_sound c.as_str.result.now (form_of c.in-Some.form) named)) is
