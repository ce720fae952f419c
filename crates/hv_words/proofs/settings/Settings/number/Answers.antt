use Rattle.std.specs.Str.Parse.{ExplainsUnsignedError, HasUnsignedDigitsIfOk, ParsesUnsigned}
use Rattle.hv_words.specs.Line.{setting_of}
use Rattle.hv_words.specs.Settings.{text_at}
use Rattle.hv_words.proofs.SettingsLemmas.{number_is}
use Rattle.hv_words.proofs.settings.Settings.number.Goals as goal

pub returns : goal.returns
returns c =
    number_is (λ bs r. ParsesUnsigned 64 10 bs r × ExplainsUnsignedError 10 bs r × HasUnsignedDigitsIfOk bs r) (λ u x g. g.0)
    (setting_of c.args.setting.now) (text_at c.args.self.now c.args.setting.now.name.now) c.get_one.result c.or.result
    c.get_one.ensures.none c.get_one.ensures.value c.or.ensures
