use Rattle.std.proofs.Common.{sym, ap, ◌∙◌}
use Rattle.std.specs.Option.{option_copied}
use Rattle.hv_tree.specs.Core.{core_tree}
use Rattle.hv_decls.specs.Statics as statics
use Rattle.hv_scope.specs.Known.{typed, field_found}
use Rattle.hv_scope.proofs.TypeLemmas.{behind_field}
use Rattle.hv_scope.proofs.types.behind.Goals as goal

pub returns-in-Some : goal.returns-in-Some
returns-in-Some c =
    sym (behind_field (core_tree c.args.declared.now) (typed (option_copied c.args.ty)) c.args.step.now c.in-Field.name c.in-Field.is
    ∙ ap statics.type_at (sym c.field_at.ensures ∙ ap field_found c.in-Some.is))

pub returns-in-None : goal.returns-in-None
returns-in-None c =
    sym (behind_field (core_tree c.args.declared.now) (typed (option_copied c.args.ty)) c.args.step.now c.in-Field.name c.in-Field.is
    ∙ ap statics.type_at (sym c.field_at.ensures ∙ ap field_found c.in-None.is))
