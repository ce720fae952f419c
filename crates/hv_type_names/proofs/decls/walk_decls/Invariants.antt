use Rattle.std.proofs.Common.{◌≡◌, ◌++◌, drop, map}
use Rattle.hv_tree.specs.Core.{core_decl}
use Rattle.hv_type_names.specs.Found as spec
use Rattle.hv_type_names.proofs.decls.walk_decls.Given as goal

abbrev pub invariant-loop-decl : goal.invariant-loop-decl
invariant-loop-decl l = (l.found.items ++ spec.decls_found l.fn.program l.number (map core_decl (drop l.decl-index l.decls)) ≡ l.fn.found.items ++ spec.decls_found l.fn.program 0 (map core_decl l.fn.decls))
    × (l.number ≡ l.decl-index) × (spec.in_decl l.program 0 ≡ spec.in_decl l.fn.program 0)
