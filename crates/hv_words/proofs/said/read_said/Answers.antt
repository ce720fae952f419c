use Rattle.std.proofs.Common.{◌∙◌, ap, map, subst, sym}
use Rattle.std.specs.Prelude.{Err, Ok}
use Rattle.hv_words.specs.Line.{form_of}
use Rattle.hv_words.specs.Settings.{ReadsLeft, entry_of}
use Rattle.hv_words.proofs.AnswerLemmas.{numbers_end, part_end, settings_end, told, uncounted}
use Rattle.hv_words.proofs.said.read_said.Goals as goal

pub returns-in-Err : goal.returns-in-Err
returns-in-Err c = λ sound. part_end (form_of c.args.form.now) _ c.in-Err.end c.in-Err.ensures

pub returns-in_default : goal.returns-in_default
returns-in_default c = λ sound.
    uncounted (form_of c.args.form.now) _ c.in-Ok.parted.file.now _ c.in-Ok.ensures (sym c.count_of.ensures ∙ c.in_default.is)

pub returns-in-Err-read_settings : goal.returns-in-Err-read_settings
returns-in-Err-read_settings c = λ sound.
    settings_end (form_of c.args.form.now) _ c.in-Ok.parted.file.now _ c.in-Ok.ensures c.in-Err-read_settings.end
    (subst (λ l. ReadsLeft (form_of c.args.form.now) l (Err c.in-Err-read_settings.end)) (ap (map (λ s. s.now)) c.as_slice.ensures.value) (c.in-Err-read_settings.ensures sound))

pub returns-in-Err-numbers : goal.returns-in-Err-numbers
returns-in-Err-numbers c = λ sound.
    numbers_end (form_of c.args.form.now) _ c.in-Ok.parted.file.now _ c.in-Ok.ensures sound c.in-Ok-read_settings.settings
    (subst (λ l. ReadsLeft (form_of c.args.form.now) l (Ok c.in-Ok-read_settings.settings)) (ap (map (λ s. s.now)) c.as_slice.ensures.value) (c.in-Ok-read_settings.ensures sound))
    c.in-Err-numbers.end c.in-Err-numbers.ensures

pub returns : goal.returns
returns c = λ sound.
    told (form_of c.args.form.now) _ c.in-Ok.parted.file.now _ c.in-Ok.ensures sound c.in-Ok-read_settings.settings
    (subst (λ l. ReadsLeft (form_of c.args.form.now) l (Ok c.in-Ok-read_settings.settings)) (ap (map (λ s. s.now)) c.as_slice.ensures.value) (c.in-Ok-read_settings.ensures sound))
    c.in-Some.count (map entry_of c.in-Ok-numbers.numbers.items) (map entry_of c.in-Ok-marks.marks.items)
    (sym c.count_of.ensures ∙ c.in-Some.is) c.in-Ok-numbers.ensures c.in-Ok-marks.ensures
