use Rattle.std.proofs.Common.{List, map, ap, subst, ◌∙◌}
use Rattle.hv_tree.specs.declared.ast.Tree.{Tree}
use Rattle.hv_tree.specs.Core.{core_tree}
use Rattle.hv_tree.specs.Earlier.{IsFirst}
use Rattle.hv_decls.specs.Locals.{CoreBody}
use Rattle.hv_scope.specs.Bodies.{body_by}
use Rattle.hv_init_cells.specs.Law.{IsViolatedAmong}
use Rattle.hv_init_cells.proofs.Phase.{program_first}
use Rattle.hv_init.proofs.init.init_refusal.Goals as goal

pub returns : goal.returns
returns c =
    let first = c.in_ok-first.first in
    let tree = core_tree c.args.tree.now in
    let found = subst (λ (t : Tree). IsFirst (IsViolatedAmong (core_tree t) (map body_by c.as_slice.result.now)) first) c.in_ok-declared.ensures (c.in_ok-first.ensures c.in_ok-sizes.ensures) in
    record { first = program_first tree first (subst (λ (bs : List CoreBody). IsFirst (IsViolatedAmong tree bs) first) (ap (map body_by) c.as_slice.ensures.value ∙ c.in_ok-bodies.ensures) found) }
