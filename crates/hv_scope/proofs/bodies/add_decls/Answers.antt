use Rattle.std.proofs.Common.{map}
use Rattle.hv_scope.specs.Bodies.{body_by}
use Rattle.hv_lemmas.proofs.Lists.{extended}
use Rattle.hv_scope.proofs.DeclBodies.{decls_next}
use Rattle.hv_scope.proofs.bodies.add_decls.Goals as goal

pub loop-decl-preserved : goal.loop-decl-preserved
loop-decl-preserved c =
    extended (map body_by c.loop-decl.bodies.items) (map body_by c.add_decl.new.bodies.items) _ _ _ _ c.in_ok-add_decl.ensures
    (decls_next c.args.decls.now c.loop-decl.decl-index c.decl-item.result c.loop-decl-test.true c.decl-item.is) c.loop-decl.invariant
