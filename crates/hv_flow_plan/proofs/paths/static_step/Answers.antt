use Rattle.std.proofs.Common.{ℕ, List, [], ◌∷◌, sym, ap, ◌∙◌, arith}
use Rattle.std.proofs.lemmas.Grind.{common_steps}
use Rattle.std.specs.Option.{option_copied}
use Rattle.hv_tree.specs.Core.{core_tree}
use Rattle.hv_decls.specs.declared.path.StaticStep.{StaticStep}
use Rattle.hv_decls.specs.declared.path.StaticStep.TheVariants as static
use Rattle.hv_decls.specs.Statics as statics
use Rattle.hv_scope.specs.Known.{typed, field_found}
use Rattle.hv_flow_plan.proofs.TypeLemmas.{step_field}
use Rattle.hv_flow_plan.proofs.paths.static_step.Goals as goal

abbrev numbered : ℕ → List StaticStep
numbered n = static.Field n ∷ []

pub returns-in-Ok : goal.returns-in-Ok
returns-in-Ok c =
    let found = step_field (core_tree c.args.declared.now) (typed (option_copied c.args.ty)) c.args.step.now c.in-Field.name c.in-Field.is
    ∙ ap (λ f. numbered (statics.number_at f)) (sym c.field_at.ensures ∙ ap field_found c.in-Some.is) in
    grind (arith, common_steps)

pub returns-in-None : goal.returns-in-None
returns-in-None c =
    step_field (core_tree c.args.declared.now) (typed (option_copied c.args.ty)) c.args.step.now c.in-Field.name c.in-Field.is
    ∙ ap (λ f. numbered (statics.number_at f)) (sym c.field_at.ensures ∙ ap field_found c.in-None.is)
