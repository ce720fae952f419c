use Rattle.std.proofs.Common.{◌≡◌, ◌++◌, [], drop}
use Rattle.std.specs.Prelude.{string_bytes}
use denote.Text.{Utf8}
use denote.Shadow.{shadow}
use Rattle.hv_print.specs.Texts as texts
use Rattle.hv_print.proofs.types.+tys.Given as goal

abbrev pub invariant-push_tys-loop-conv : goal.invariant-push_tys-loop-conv
invariant-push_tys-loop-conv l = shadow (Utf8 l.before) × (string_bytes l.out ++ texts.tys_text l.before (drop l.conv-index l.params) ≡ string_bytes l.fn.out ++ texts.tys_text [] l.fn.params)
