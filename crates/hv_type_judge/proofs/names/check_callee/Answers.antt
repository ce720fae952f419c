use Rattle.std.proofs.Common.{◌≡◌, [], true, false, sym, ap, ◌∙◌}
use Rattle.hv_tree.specs.declared.ast.PlaceExpr.{out-PlaceExpr}
use Rattle.hv_type_judge.proofs.Roots.{callee_placed}
use Rattle.hv_type_judge.proofs.names.check_callee.Goals as goal

pub returns-else-is_empty : goal.returns-else-is_empty
returns-else-is_empty c =
    let none : (out-PlaceExpr c.args.callee.now).steps ≡ [] → ⊥ = λ e. let t : true ≡ false = sym (c.is_empty.ensures.1 e) ∙ c.if-is_empty.false in cc in
    rw (← callee_placed c.args.around.now c.args.callee.now none) c.check_root.ensures
