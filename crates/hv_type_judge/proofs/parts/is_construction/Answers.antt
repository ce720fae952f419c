use Rattle.std.proofs.Common.{◌≡◌, [], true, false, sym, ◌∙◌}
use Rattle.hv_tree.specs.declared.ast.PlaceExpr.{out-PlaceExpr}
use Rattle.hv_type_judge.proofs.Roots.{construct_alone, construct_placed}
use Rattle.hv_type_judge.proofs.parts.is_construction.Goals as goal

pub returns-then-is_empty : goal.returns-then-is_empty
returns-then-is_empty c = c.is_struct_alone.ensures ∙ sym (construct_alone c.args.around.now c.args.callee.now (c.is_empty.ensures.0 c.if-is_empty.true))

pub returns-else-is_empty : goal.returns-else-is_empty
returns-else-is_empty c =
    let none : (out-PlaceExpr c.args.callee.now).steps ≡ [] → ⊥ = λ e. let t : true ≡ false = sym (c.is_empty.ensures.1 e) ∙ c.if-is_empty.false in cc in
    sym (construct_placed c.args.around.now c.args.callee.now none)
