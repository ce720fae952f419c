use Rattle.std.proofs.Common.{◌∙◌, ap}
use Rattle.clap.specs.Words.{app_of}
use Rattle.hv_words.specs.Line.{form_of}
use Rattle.hv_words.proofs.SettingsLemmas.{read_err, read_ok, sound_parts}
use Rattle.hv_words.proofs.settings.read_settings.Goals as goal

pub returns-in-Ok-try_get_matches_from : goal.returns-in-Ok-try_get_matches_from
returns-in-Ok-try_get_matches_from c = λ sound items fits new left.
    read_ok (form_of c.args.form.now) (sound_parts (form_of c.args.form.now) sound) items fits new _ left (app_of c.in-Ok.command) c.in-Ok.ensures
    (record { matches = c.in-Ok-try_get_matches_from.matches }) c.in-Ok-try_get_matches_from.ensures.matches c.in-Ok-try_get_matches_from.ensures.kinds

pub returns-in-Err-try_get_matches_from : goal.returns-in-Err-try_get_matches_from
returns-in-Err-try_get_matches_from c = λ sound items fits new left.
    read_err (form_of c.args.form.now) (sound_parts (form_of c.args.form.now) sound) items fits new _ left (app_of c.in-Ok.command) c.in-Ok.ensures
    c.in-Err-try_get_matches_from.error c.end_of.result c.in-Err-try_get_matches_from.ensures.kinds c.end_of.ensures
