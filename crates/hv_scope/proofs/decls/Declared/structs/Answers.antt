use Rattle.std.proofs.Common.{◌≡◌, ap, ◌∙◌}
use Rattle.hv_tree.specs.declared.ast.Tree.{Tree}
use Rattle.hv_scope.specs.Tops.{struct_decls}
use Rattle.hv_scope.proofs.Places.{structs_kept}
use Rattle.hv_scope.proofs.decls.Declared.structs.Goals as goal

pub returns : goal.returns
returns c =
    let structs : c.self.inside.structs ≡ struct_decls c.args.self.now.decls = c.self.invariant.0 ∙ ap (λ (t : Tree). struct_decls t.decls) c.self.view_is in
    structs_kept c.as_slice.result.now c.self.inside.structs c.args.self.now.decls c.as_slice.ensures structs
