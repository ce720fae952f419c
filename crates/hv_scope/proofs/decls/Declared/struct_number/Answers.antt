use Rattle.std.proofs.Common.{◌≡◌, ap, ◌∙◌}
use Rattle.hv_tree.specs.declared.ast.Tree.{Tree}
use Rattle.hv_scope.specs.Tops.{struct_decls}
use Rattle.hv_scope.proofs.Places.{struct_number_kept}
use Rattle.hv_scope.proofs.decls.Declared.struct_number.Goals as goal

pub returns : goal.returns
returns c =
    let structs : c.self.inside.structs ≡ struct_decls c.args.self.now.decls = c.self.invariant.0 ∙ ap (λ (t : Tree). struct_decls t.decls) c.self.view_is in
    struct_number_kept c.self.inside.structs c.args.self.now.decls c.args.text.now c.find.result structs c.find.ensures
