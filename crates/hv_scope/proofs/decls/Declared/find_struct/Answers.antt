use Rattle.std.proofs.Common.{◌≡◌, Some, None, refl, sym, ap, ◌∙◌}
use Rattle.std.specs.Option.{option_copied}
use Rattle.hv_tree.specs.declared.ast.Tree.{Tree}
use Rattle.hv_scope.specs.Tops.{struct_decls}
use Rattle.hv_scope.proofs.Places.{struct_kept}
use Rattle.hv_scope.proofs.decls.Declared.find_struct.Goals as goal

pub returns-in-Some : goal.returns-in-Some
returns-in-Some c =
    let structs : c.self.inside.structs ≡ struct_decls c.args.self.now.decls = c.self.invariant.0 ∙ ap (λ (t : Tree). struct_decls t.decls) c.self.view_is in
    struct_kept c.self.inside.structs c.args.self.now.decls c.args.text.now (Some c.in-Some.number) (option_copied c.get.result) structs (sym c.in-Some.is ∙ c.find.ensures) c.get.ensures

pub returns-in-None : goal.returns-in-None
returns-in-None c =
    let structs : c.self.inside.structs ≡ struct_decls c.args.self.now.decls = c.self.invariant.0 ∙ ap (λ (t : Tree). struct_decls t.decls) c.self.view_is in
    struct_kept c.self.inside.structs c.args.self.now.decls c.args.text.now None None structs (sym c.in-None.is ∙ c.find.ensures) refl
