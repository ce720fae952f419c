use Rattle.std.proofs.Common.{List, map, sym, ap, subst, ◌∙◌}
use Rattle.hv_tree.specs.declared.refusal.Refusal.{Refusal}
use Rattle.hv_tree.specs.declared.ast.Tree.{Tree}
use Rattle.hv_tree.specs.Core.{core_tree}
use Rattle.hv_scope.specs.Bodies.{body_by}
use Rattle.hv_await.specs.Found.{Adds, OfBodies}
use Rattle.hv_await.proofs.Phase.{handles_first}
use Rattle.hv_await.proofs.judge.await_refusal.Goals as goal

pub returns : goal.returns
returns c =
    let adds =
    subst (λ (t : Tree). Adds (OfBodies (core_tree t) (map body_by c.as_slice.result.now)) c.new-found.result.items c.judge_bodies.new.found.items) c.in_ok-declared.ensures c.in_ok-judge_bodies.ensures in
    record {
      first = handles_first (core_tree c.args.tree.now) (map body_by c.as_slice.result.now) c.new-found.result.items c.as_slice-2.result.now c.first.result (ap (map body_by) c.as_slice.ensures.value ∙ c.in_ok-bodies.ensures)
          c.new-found.ensures.items
          (subst (λ (rs : List Refusal). Adds (OfBodies (core_tree c.args.tree.now) (map body_by c.as_slice.result.now)) c.new-found.result.items rs) (sym c.as_slice-2.ensures.value) adds) c.first.ensures;
    }
