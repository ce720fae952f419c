use Rattle.std.proofs.Common.{◌≡◌, ◌++◌, map, drop}
use Rattle.std.specs.Borrow.{Bor}
use Rattle.hv_tree.specs.Core.{core_tree}
use Rattle.hv_tree.specs.declared.ast.StructDecl.{StructDecl}
use Rattle.hv_scope.specs.Known.{core_struct}
use Rattle.hv_scope.specs.Tops.{structs_in}
use Rattle.hv_types.specs.Structs as spec
use Rattle.hv_types.proofs.structs.judge_structs.Given as goal

abbrev pub invariant-loop-judged : goal.invariant-loop-judged
invariant-loop-judged l =
    l.found.items ++ spec.great_judged (core_tree l.declared) l.depths l.counts (map (λ (d : Bor StructDecl). core_struct d.now) (drop l.judged-index l.judged-items))
    ≡ l.fn.found.items ++ spec.great_judged (core_tree l.declared) l.depths l.counts (structs_in (core_tree l.declared).decls)
