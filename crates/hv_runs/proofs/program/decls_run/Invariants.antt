use Rattle.std.proofs.Common.{◌≡◌, drop, map}
use Rattle.hv_tree.specs.Core.{core_decl}
use Rattle.hv_runs.specs.Walked as spec
use Rattle.hv_runs.proofs.program.decls_run.Given as goal

abbrev pub invariant-loop-decl : goal.invariant-loop-decl
invariant-loop-decl l = spec.decls_run (map core_decl (drop l.decl-index l.decls)) ≡ spec.decls_run (map core_decl l.fn.decls)
