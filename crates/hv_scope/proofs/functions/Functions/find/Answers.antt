use Rattle.std.proofs.Common.{Some, None, sym, ◌∙◌, refl}
use Rattle.std.specs.Option.{option_copied}
use Rattle.hv_scope.specs.Tops.{name_of_fun}
use Rattle.hv_scope.proofs.Places.{first_kept}
use Rattle.hv_scope.proofs.functions.Functions.find.Goals as goal

pub returns-in-Some : goal.returns-in-Some
returns-in-Some c = first_kept name_of_fun c.args.self.now _ c.self.inside.names c.args.text.now (Some c.in-Some.number) (option_copied c.get.result) (sym c.self.view_is) c.self.invariant (sym c.in-Some.is ∙ c.find.ensures) c.get.ensures

pub returns-in-None : goal.returns-in-None
returns-in-None c = first_kept name_of_fun c.args.self.now _ c.self.inside.names c.args.text.now None None (sym c.self.view_is) c.self.invariant (sym c.in-None.is ∙ c.find.ensures) refl
