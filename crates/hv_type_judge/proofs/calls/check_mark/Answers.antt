use Rattle.std.proofs.Common.{◌≡◌, not, sym, ap, ◌∙◌}
use Rattle.hv_tree.specs.declared.refusal.Rule.TheVariants as rule
use Rattle.hv_tree.specs.declared.ast.Expr.{out-Expr}
use Rattle.hv_type_synth.specs.Held.{ty_by, wanted_next, wants_by}
use Rattle.hv_type_judge.specs.Judged as spec
use Rattle.hv_type_judge.specs.Seen as seen
use Rattle.hv_lemmas.proofs.Lists.{nothing}
use Rattle.hv_type_judge.proofs.Args.{no_mark, value_mark, lent_mark}
use Rattle.hv_type_judge.proofs.calls.check_mark.Goals as goal

pub returns-in_default : goal.returns-in_default
returns-in_default c = nothing _ _ (ap (λ w. seen.this_t5 c.args.around.now (wanted_next w) c.args.arg.now) c.in_default.is ∙ no_mark c.args.around.now c.args.arg.now)

pub returns-in-Value : goal.returns-in-Value
returns-in-Value c =
    let a = c.args.around.now in
    let e = ap (λ w. seen.this_t5 a (wanted_next w) c.args.arg.now) c.in-Some.is
    ∙ value_mark a (record { conv = c.in-Some.conv; ty = ty_by c.in-Some.field-0-1.now }) (wants_by c.in-Some.field-0-2) c.args.arg.now c.in-Value.x c.in-Value.is
    ∙ ap (λ b. spec.only b (spec.refusal rule.T5 (out-Expr c.in-Value.x).place)) (sym c.is_changed.ensures) in
    rw e c.refuse_if.ensures

pub returns-in-Ref : goal.returns-in-Ref
returns-in-Ref c =
    let a = c.args.around.now in
    let e = ap (λ w. seen.this_t5 a (wanted_next w) c.args.arg.now) c.in-Some.is
    ∙ lent_mark a (record { conv = c.in-Some.conv; ty = ty_by c.in-Some.field-0-1.now }) (wants_by c.in-Some.field-0-2) c.args.arg.now c.in-Ref.at c.in-Ref.field-1 c.in-Ref.is
    ∙ ap (λ b. spec.only (not b) (spec.refusal rule.T5 c.in-Ref.at)) (sym c.is_changed-in-Ref.ensures) in
    rw e c.refuse_if-in-Ref.ensures
