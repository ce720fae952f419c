use Rattle.std.proofs.Common.{map}
use Rattle.hv_words.specs.Line.{setting_of}
use Rattle.hv_words.specs.Settings.{AreNumbersOf, entry_of}
use Rattle.hv_words.proofs.SettingsLemmas.{all_gone}
use Rattle.hv_words.proofs.settings.Settings.numbers.Goals as goal

pub returns : goal.returns
returns c =
    all_gone (λ options entries. AreNumbersOf c.args.self.now (map setting_of options) entries)
    (λ entries. AreNumbersOf c.args.self.now (map setting_of c.args.options.now) entries)
    c.args.options.now c.loop-setting.setting-index (map entry_of c.loop-setting.numbers.items) c.loop-setting-test.false tt c.loop-setting.invariant
