use Rattle.std.proofs.Common.{◌≡◌, drop, false, map}
use Rattle.hv_words.specs.Settings.{entry_of}
use Rattle.hv_words.specs.Taken.{by_name}
use Rattle.hv_words.proofs.said.Said.mark.Given as goal

abbrev pub invariant-loop-entry : goal.invariant-loop-entry
invariant-loop-entry l =
    by_name l.name false (map entry_of (drop l.entry-index l.self.marks.items))
    ≡ by_name l.name false (map entry_of l.self.marks.items)
