use Rattle.std.proofs.Common.{◌≡◌, ◌++◌, map, drop, Bor}
use Rattle.hv_tree.specs.declared.ast.StructDecl.{StructDecl}
use Rattle.hv_scope.specs.Tops.{struct_decls, name_of_struct, field_texts}
use Rattle.hv_scope.proofs.structs.Structs.of.Given as goal

abbrev pub invariant-loop-decl : goal.invariant-loop-decl
invariant-loop-decl l =
    (map (λ (d : Bor StructDecl). d.now) l.list ++ struct_decls (drop l.decl-index l.decls) ≡ struct_decls l.decls)
    × (l.names ++ map name_of_struct (struct_decls (drop l.decl-index l.decls)) ≡ map name_of_struct (struct_decls l.decls))
    × (l.fields ++ map field_texts (struct_decls (drop l.decl-index l.decls)) ≡ map field_texts (struct_decls l.decls))
