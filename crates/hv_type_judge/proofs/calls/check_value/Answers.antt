use Rattle.std.proofs.Common.{◌≡◌, sym, ap, ◌∙◌}
use Rattle.hv_tree.specs.declared.refusal.Rule.TheVariants as rule
use Rattle.hv_tree.specs.declared.ast.PlaceExpr.{out-PlaceExpr}
use Rattle.hv_type_synth.specs.Held.{ty_by, wanted_next, wants_by}
use Rattle.hv_type_synth.specs.Tests as tests
use Rattle.hv_type_judge.specs.Judged as spec
use Rattle.hv_type_judge.specs.Seen as seen
use Rattle.hv_type_judge.proofs.Args.{value_type, lent_type}
use Rattle.hv_type_judge.proofs.calls.check_value.Goals as goal

pub returns-in-Value : goal.returns-in-Value
returns-in-Value c =
    let a = c.args.around.now in
    let e = ap (λ w. seen.this_t1 a (wanted_next w) c.args.arg.now) c.in-Some.is
    ∙ value_type a (record { conv = c.in-Some.field-0-0; ty = ty_by c.in-Some.ty.now }) (wants_by c.in-Some.field-0-2) c.args.arg.now c.in-Value.x c.in-Value.is in
    rw e c.check_base.ensures

pub returns-in-Ref : goal.returns-in-Ref
returns-in-Ref c =
    let a = c.args.around.now in
    let e = ap (λ w. seen.this_t1 a (wanted_next w) c.args.arg.now) c.in-Some.is
    ∙ lent_type a (record { conv = c.in-Some.field-0-0; ty = ty_by c.in-Some.ty.now }) (wants_by c.in-Some.field-0-2) c.args.arg.now c.in-Ref.field-0 c.in-Ref.place c.in-Ref.is
    ∙ ap (λ b. spec.only b (spec.refusal rule.T1 (out-PlaceExpr c.in-Ref.place).root.place)) (sym (c.other.ensures ∙ ap (tests.other (ty_by c.in-Some.ty.now)) c.place_type.ensures)) in
    rw e c.refuse_if.ensures
