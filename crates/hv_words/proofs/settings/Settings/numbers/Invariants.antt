use Rattle.std.proofs.Common.{◌++◌, List, drop, map, ℕ}
use Rattle.hv_words.specs.Line.{setting_of}
use Rattle.hv_words.specs.Settings.{AreNumbersOf, entry_of}
use Rattle.hv_words.specs.Taken.{Word}
use Rattle.hv_words.proofs.settings.Settings.numbers.Given as goal

-- what is right for the options that are left makes the whole
abbrev pub invariant-loop-setting : goal.invariant-loop-setting
invariant-loop-setting l = (more : List (Word × ℕ)) →
    AreNumbersOf l.self (map setting_of (drop l.setting-index l.options)) more →
    AreNumbersOf l.self (map setting_of l.options) (map entry_of l.numbers.items ++ more)
