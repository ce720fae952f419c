use Rattle.std.proofs.Common.{◌≡◌, ◌++◌, [], drop, map}
use Rattle.std.specs.Prelude.{string_bytes}
use denote.Text.{Utf8}
use denote.Shadow.{shadow}
use Rattle.hv_tree.specs.Core.{core_param}
use Rattle.hv_tree.specs.Printed as printed
use Rattle.hv_print.proofs.types.push_params.Given as goal

abbrev pub invariant-loop-param : goal.invariant-loop-param
invariant-loop-param l = shadow (Utf8 l.before) × (string_bytes l.out ++ printed.params_text l.before (map core_param (drop l.param-index l.params)) ≡ string_bytes l.fn.out ++ printed.params_text [] (map core_param l.fn.params))
