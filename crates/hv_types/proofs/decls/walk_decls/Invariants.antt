use Rattle.std.proofs.Common.{◌≡◌, ◌++◌, drop}
use Rattle.hv_types.specs.Walked as walked
use Rattle.hv_types.proofs.decls.walk_decls.Given as goal

abbrev pub invariant-loop-decl : goal.invariant-loop-decl
invariant-loop-decl l = l.found.items ++ walked.decls_walked l.program (drop l.decl-index l.decls) ≡ l.fn.found.items ++ walked.decls_walked l.program l.decls
