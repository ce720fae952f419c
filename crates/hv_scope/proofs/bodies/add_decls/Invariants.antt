use Rattle.std.proofs.Common.{◌≡◌, ◌++◌, map, drop}
use Rattle.hv_tree.specs.Core.{core_decl}
use Rattle.hv_decls.specs.Sites.{decl_bodies}
use Rattle.hv_scope.specs.Bodies.{body_by}
use Rattle.hv_scope.proofs.bodies.add_decls.Given as goal

abbrev pub invariant-loop-decl : goal.invariant-loop-decl
invariant-loop-decl l = map body_by l.bodies.items ++ decl_bodies (map core_decl (drop l.decl-index l.decls)) ≡ map body_by l.fn.bodies.items ++ decl_bodies (map core_decl l.decls)
