use Rattle.std.proofs.Common.{Some, None, sym, ap, ◌∙◌}
use Rattle.std.specs.Option.{option_copied}
use Rattle.hv_scope.proofs.Places.{local_kept, number_kept}
use Rattle.hv_scope.proofs.locals.Locals.find.Goals as goal

pub returns-in-Some-get-clause-local : goal.returns-in-Some-get-clause-local
returns-in-Some-get-clause-local c =
    local_kept c.args.self.now c.self.inside.list c.self.inside.names c.args.text.now (Some c.in-Some.number) (Some c.in-Some-get.known.now) (sym c.self.view_is) c.self.invariant (sym c.in-Some.is ∙ c.find.ensures)
    (sym (ap option_copied c.in-Some-get.is) ∙ c.get.ensures.value)

pub returns-in-None-get-clause-number : goal.returns-in-None-get-clause-number
returns-in-None-get-clause-number c =
    number_kept c.args.self.now c.self.inside.list c.self.inside.names c.args.text.now (Some c.in-Some.number) (sym c.self.view_is) c.self.invariant (sym c.in-Some.is ∙ c.find.ensures)
    (sym c.get.ensures.value ∙ ap option_copied c.in-None-get.is)

pub returns-in-None-get-clause-local : goal.returns-in-None-get-clause-local
returns-in-None-get-clause-local c =
    local_kept c.args.self.now c.self.inside.list c.self.inside.names c.args.text.now (Some c.in-Some.number) None (sym c.self.view_is) c.self.invariant (sym c.in-Some.is ∙ c.find.ensures)
    (sym (ap option_copied c.in-None-get.is) ∙ c.get.ensures.value)
