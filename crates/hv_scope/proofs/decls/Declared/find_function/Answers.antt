use Rattle.std.proofs.Common.{◌≡◌, sym, ap, ◌∙◌}
use Rattle.hv_tree.specs.declared.ast.Tree.{Tree}
use Rattle.hv_scope.specs.Known.{option_function}
use Rattle.hv_scope.specs.Tops.{fun_decls, first_by, name_of_fun}
use Rattle.hv_scope.proofs.Places.{first_fun}
use Rattle.hv_scope.proofs.decls.Declared.find_function.Goals as goal

pub returns : goal.returns
returns c =
    let functions : c.self.inside.functions ≡ fun_decls c.args.self.now.decls = c.self.invariant.1 ∙ ap (λ (t : Tree). fun_decls t.decls) c.self.view_is in
    ap option_function (c.find.ensures ∙ ap (λ l. first_by name_of_fun l c.args.text.now) functions) ∙ sym (first_fun c.args.self.now.decls c.args.text.now)
