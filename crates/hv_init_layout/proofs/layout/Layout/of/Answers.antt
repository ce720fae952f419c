use Rattle.std.proofs.Common.{◌<◌, ℕ, Bool, List, get_or, false, sym, ap, subst, ◌∙◌, map}
use Rattle.hv_tree.specs.Core.{core_tree}
use Rattle.hv_scope.specs.declared.known.Known.{Known}
use Rattle.hv_scope.specs.Known.{local_by}
use Rattle.hv_scope.specs.Bodies.{body_by}
use Rattle.hv_init_cells.specs.Plain.{kept}
use Rattle.hv_init_leaves.specs.Leaves.{AreLeavesOf}
use Rattle.hv_init_layout.specs.Tracked.{flag_at}
use Rattle.hv_init_layout.proofs.Fitting.{known_fits}
use Rattle.hv_init_layout.proofs.Following.{laid_follow}
use Rattle.hv_init_layout.proofs.layout.Layout.of.Goals as goal

pub returns-clause-fits : goal.returns-clause-fits
returns-clause-fits c =
    let tree = core_tree c.args.declared.now in
    let body = body_by c.args.body.now in
    let flags = c.in_ok-flags.flags in
    let tracked = c.in_ok-tracked.tracked in
    let leaves = c.in_ok-leaves.leaves in
    known_fits tree body c.args.sizes.now leaves c.as_slice.result.now c.in_ok-kept.kept tracked c.in_ok-count.count c.args.plan.now c.in_ok-positions.positions c.in_ok-cuts.cuts
    (ap (map local_by) c.as_slice.ensures ∙ c.in_ok-locals.ensures)
    (λ planned k h. ap (λ (fs : List Bool). get_or fs k false) c.in_ok-tracked.ensures ∙ c.in_ok-flags.ensures.exact tree body planned k h)
    (c.in_ok-kept.ensures ∙ ap (λ (fs : List Bool). kept (flag_at fs) (map local_by c.as_slice-2.result.now)) (c.as_slice-3.ensures ∙ sym c.in_ok-tracked.ensures)
    ∙ ap (λ (ks : List Known). kept (flag_at tracked) (map local_by ks)) (c.as_slice-2.ensures ∙ sym c.as_slice.ensures))
    (c.in_ok-count.ensures ∙ c.len.ensures) (λ sized. subst (λ (ks : List Known). AreLeavesOf tree (map local_by ks) leaves) c.as_slice-4.ensures (c.in_ok-leaves.ensures sized)) c.in_ok-positions.ensures c.in_ok-cuts.ensures

pub returns-clause-follow : goal.returns-clause-follow
returns-clause-follow c =
    λ sized. laid_follow (core_tree c.args.declared.now) (map local_by c.as_slice-4.result.now) (flag_at c.in_ok-tracked.tracked) c.args.sizes.now c.in_ok-leaves.leaves c.in_ok-cuts.cuts sized (c.in_ok-leaves.ensures sized)
