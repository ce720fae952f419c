use Rattle.std.proofs.Common.{◌≡◌, ◌++◌, drop, map}
use Rattle.std.specs.Prelude.{string_bytes}
use Rattle.hv_tree.specs.Core.{core_decl}
use Rattle.hv_tree.specs.Printed.{decls_text}
use Rattle.hv_print.proofs.program.push_decls.Given as goal

abbrev pub invariant-loop-decl : goal.invariant-loop-decl
invariant-loop-decl l = string_bytes l.out ++ decls_text (map core_decl (drop l.decl-index l.decls)) ≡ string_bytes l.fn.out ++ decls_text (map core_decl l.fn.decls)
