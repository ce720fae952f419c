use Rattle.std.proofs.Common.{◌++◌, Bool, List, drop, map}
use Rattle.hv_words.specs.Settings.{AreMarksOf, entry_of}
use Rattle.hv_words.specs.Taken.{Word}
use Rattle.hv_words.proofs.settings.Settings.marks.Given as goal

-- what is right for the flags that are left makes the whole
abbrev pub invariant-loop-name : goal.invariant-loop-name
invariant-loop-name l = (more : List (Word × Bool)) →
    AreMarksOf l.self (map (λ s. s.now) (drop l.name-index l.flags)) more →
    AreMarksOf l.self (map (λ s. s.now) l.flags) (map entry_of l.marks.items ++ more)
