use Rattle.hv_lemmas.proofs.Lists.{extended}
use Rattle.hv_types.proofs.Walks.{decls_next}
use Rattle.hv_types.proofs.decls.walk_decls.Goals as goal

pub loop-decl-preserved : goal.loop-decl-preserved
loop-decl-preserved c =
    extended c.loop-decl.found.items c.walk_decl.new.found.items _ _ _ _ c.in_ok-walk_decl.ensures
    (decls_next c.args.program.now c.args.decls.now c.loop-decl.decl-index c.decl-item.result c.loop-decl-test.true c.decl-item.is) c.loop-decl.invariant
