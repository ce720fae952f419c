use Rattle.std.proofs.Common.{◌≡◌, drop, map}
use Rattle.hv_words.specs.Settings.{entry_of}
use Rattle.hv_words.specs.Taken.{by_name}
use Rattle.hv_words.proofs.said.Said.number.Given as goal

abbrev pub invariant-loop-entry : goal.invariant-loop-entry
invariant-loop-entry l =
    by_name l.name 0 (map entry_of (drop l.entry-index l.self.numbers.items))
    ≡ by_name l.name 0 (map entry_of l.self.numbers.items)
