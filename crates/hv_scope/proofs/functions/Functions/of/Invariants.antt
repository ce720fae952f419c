use Rattle.std.proofs.Common.{◌≡◌, ◌++◌, map, drop, Bor}
use Rattle.hv_tree.specs.declared.ast.FunDecl.{FunDecl}
use Rattle.hv_scope.specs.Tops.{fun_decls, name_of_fun}
use Rattle.hv_scope.proofs.functions.Functions.of.Given as goal

abbrev pub invariant-loop-decl : goal.invariant-loop-decl
invariant-loop-decl l =
    (map (λ (d : Bor FunDecl). d.now) l.list ++ fun_decls (drop l.decl-index l.decls) ≡ fun_decls l.decls) × (l.names ++ map name_of_fun (fun_decls (drop l.decl-index l.decls)) ≡ map name_of_fun (fun_decls l.decls))
