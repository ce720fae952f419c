use Rattle.std.proofs.Common.{◌≡◌, map, drop}
use Rattle.hv_excl.specs.Access.{entry_by}
use Rattle.hv_excl.specs.Clashes.{clashes}
use Rattle.hv_excl.proofs.clash.clash_among.Given as goal

abbrev pub invariant-loop-entry : goal.invariant-loop-entry
invariant-loop-entry l = clashes l.reading l.path (map entry_by (drop l.entry-index l.entries)) ≡ clashes l.reading l.path (map entry_by l.entries)
