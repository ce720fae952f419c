use Rattle.std.proofs.Common.{map}
use Rattle.hv_words.specs.Settings.{AreMarksOf, entry_of}
use Rattle.hv_words.proofs.SettingsLemmas.{all_gone}
use Rattle.hv_words.proofs.settings.Settings.marks.Goals as goal

pub returns : goal.returns
returns c =
    all_gone (λ flags entries. AreMarksOf c.args.self.now (map (λ s. s.now) flags) entries)
    (λ entries. AreMarksOf c.args.self.now (map (λ s. s.now) c.args.flags.now) entries)
    c.args.flags.now c.loop-name.name-index (map entry_of c.loop-name.marks.items) c.loop-name-test.false tt c.loop-name.invariant
