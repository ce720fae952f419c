use Rattle.std.proofs.Common.{sym, ap, ◌∙◌, arith}
use Rattle.hv_type_synth.specs.Held.{option_base, base_by}
use Rattle.hv_type_synth.proofs.Opened.{fewer_first, fewer_second, same_first, same_second}
use Rattle.hv_type_synth.proofs.same.same_held.Goals as goal

pub returns-in-Some : goal.returns-in-Some
returns-in-Some c =
    c.same_base.ensures
    ∙ ap (λ o. same_first o (base_by c.args.b.now.base)) (sym (ap option_base c.in-Some.is) ∙ c.inside.ensures)
    ∙ sym (fewer_first c.args.a.now.arrays c.args.b.now.arrays (base_by c.args.a.now.base) (base_by c.args.b.now.base) (omega (arith, c.if-a-b.true)))

pub returns-in-None : goal.returns-in-None
returns-in-None c =
    ap (λ o. same_first o (base_by c.args.b.now.base)) (sym (ap option_base c.in-None.is) ∙ c.inside.ensures)
    ∙ sym (fewer_first c.args.a.now.arrays c.args.b.now.arrays (base_by c.args.a.now.base) (base_by c.args.b.now.base) (omega (arith, c.if-a-b.true)))

pub returns-in-Some-inside : goal.returns-in-Some-inside
returns-in-Some-inside c =
    c.same_base-in-Some-inside.ensures
    ∙ ap (same_second (base_by c.args.a.now.base)) (sym (ap option_base c.in-Some-inside.is) ∙ c.inside-else-a-b.ensures)
    ∙ sym (fewer_second c.args.a.now.arrays c.args.b.now.arrays (base_by c.args.a.now.base) (base_by c.args.b.now.base) (omega (arith, c.if-a-b.false)))

pub returns-in-None-inside : goal.returns-in-None-inside
returns-in-None-inside c =
    ap (same_second (base_by c.args.a.now.base)) (sym (ap option_base c.in-None-inside.is) ∙ c.inside-else-a-b.ensures)
    ∙ sym (fewer_second c.args.a.now.arrays c.args.b.now.arrays (base_by c.args.a.now.base) (base_by c.args.b.now.base) (omega (arith, c.if-a-b.false)))
