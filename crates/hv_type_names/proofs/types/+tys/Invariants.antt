use Rattle.std.proofs.Common.{◌≡◌, ◌++◌, drop}
use Rattle.hv_type_names.specs.Parts as parts
use Rattle.hv_type_names.proofs.types.+tys.Given as goal

abbrev pub invariant-walk_tys-loop-ty : goal.invariant-walk_tys-loop-ty
invariant-walk_tys-loop-ty l = l.found.items ++ parts.pairs_found l.program (drop l.ty-index l.tys) ≡ l.fn.found.items ++ parts.pairs_found l.program l.fn.tys
