use Rattle.std.proofs.Common.{◌≡◌, ◌++◌, [], drop}
use Rattle.std.specs.Prelude.{string_bytes}
use denote.Text.{Utf8}
use denote.Shadow.{shadow}
use Rattle.hv_tree.specs.Printed as printed
use Rattle.hv_print.proofs.types.push_names.Given as goal

abbrev pub invariant-loop-name : goal.invariant-loop-name
invariant-loop-name l = shadow (Utf8 l.before) × (string_bytes l.out ++ printed.names_text l.before (drop l.name-index l.names) ≡ string_bytes l.fn.out ++ printed.names_text [] l.fn.names)
