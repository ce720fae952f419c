use Rattle.std.proofs.Common.{Some, None, refl, sym, ap, ◌∙◌}
use Rattle.std.specs.Option.{option_copied}
use Rattle.hv_scope.proofs.EntryLemmas.{found_kept}
use Rattle.hv_scope.proofs.visible.Visible.find.Goals as goal

pub returns-in-Some-get : goal.returns-in-Some-get
returns-in-Some-get c =
    found_kept c.args.self.now c.self.inside.list c.args.text.now (Some c.in-Some.place) (Some c.in-Some-get.entry.now) (sym c.self.view_is) (sym c.in-Some.is ∙ c.copied.ensures ∙ c.get.ensures.value ∙ c.self.invariant.0 c.args.text.now)
    (sym (ap option_copied c.in-Some-get.is) ∙ c.get-in-Some.ensures.value)

pub returns-in-None-get : goal.returns-in-None-get
returns-in-None-get c =
    found_kept c.args.self.now c.self.inside.list c.args.text.now (Some c.in-Some.place) None (sym c.self.view_is) (sym c.in-Some.is ∙ c.copied.ensures ∙ c.get.ensures.value ∙ c.self.invariant.0 c.args.text.now)
    (sym (ap option_copied c.in-None-get.is) ∙ c.get-in-Some.ensures.value)

pub returns-in-None : goal.returns-in-None
returns-in-None c =
    found_kept c.args.self.now c.self.inside.list c.args.text.now None None (sym c.self.view_is) (sym c.in-None.is ∙ c.copied.ensures ∙ c.get.ensures.value ∙ c.self.invariant.0 c.args.text.now) refl
