use Rattle.std.proofs.Common.{◌≡◌, drop, map}
use Rattle.hv_tree.specs.Core.{core_decl}
use Rattle.hv_type_names.specs.Found as spec
use Rattle.hv_type_names.proofs.decls.has_main.Given as goal

abbrev pub invariant-loop-decl : goal.invariant-loop-decl
invariant-loop-decl l = spec.has_main (map core_decl (drop l.decl-index l.decls)) ≡ spec.has_main (map core_decl l.fn.decls)
