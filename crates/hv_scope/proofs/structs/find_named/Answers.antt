use Rattle.std.proofs.Common.{Some, None, sym, ap, ◌∙◌, refl}
use Rattle.std.specs.Option.{option_copied}
use Rattle.hv_scope.proofs.Places.{field_kept}
use Rattle.hv_scope.proofs.structs.find_named.Goals as goal

pub returns-in-Some-get : goal.returns-in-Some-get
returns-in-Some-get c =
    field_kept c.args.fields.now c.args.names.now c.args.text.now (Some c.in-Some.place) (Some c.in-Some-get.field.now) c.requires.names (sym c.in-Some.is ∙ c.find.ensures) (sym (ap option_copied c.in-Some-get.is) ∙ c.get.ensures.value)

pub returns-in-None-get : goal.returns-in-None-get
returns-in-None-get c = field_kept c.args.fields.now c.args.names.now c.args.text.now (Some c.in-Some.place) None c.requires.names (sym c.in-Some.is ∙ c.find.ensures) (sym (ap option_copied c.in-None-get.is) ∙ c.get.ensures.value)

pub returns-in-None : goal.returns-in-None
returns-in-None c = field_kept c.args.fields.now c.args.names.now c.args.text.now None None c.requires.names (sym c.in-None.is ∙ c.find.ensures) refl
