use Rattle.std.proofs.Common.{◌≡◌, ℕ, nat_lt, reverse, slice_get, sym, subst, ◌∙◌, ap, rules, List}
use Rattle.std.proofs.lemmas.List.Sorted.{IsPartitionPoint-from_clause}
use Rattle.hv_init_needs.specs.Needs.{is_in}
use Rattle.hv_init_needs.specs.Ordered.{Falls}
use Rattle.hv_init_needs.proofs.Falling.{parted, found}
use Rattle.hv_init_needs.proofs.sight.Sight.sees.Goals as goal

pub returns : goal.returns
returns c =
    let list : List ℕ = c.as_slice.result.now in
    let up : Falls (reverse list) = subst (λ (ks : List ℕ). Falls (reverse ks)) (sym c.as_slice.ensures) c.self.invariant in
    let point = IsPartitionPoint-from_clause (λ (n : ℕ). nat_lt n c.args.k) list c.partition_point-at.result c.partition_point-at.ensures.partitioned (parted c.args.k list up) (λ a r q k. search rules) in
    let read : slice_get list c.partition_point-at.result ≡ c.copied.result = ap (λ (ks : List ℕ). slice_get ks c.partition_point-at.result) c.as_slice.ensures ∙ sym (c.copied.ensures ∙ c.get.ensures.value) in
    c.is_that.ensures ∙ found list c.args.k c.partition_point-at.result c.copied.result up c.partition_point-at.ensures.bound point read
    ∙ ap (λ (ks : List ℕ). is_in (reverse ks) c.args.k) c.as_slice.ensures ∙ ap (λ (ks : List ℕ). is_in ks c.args.k) c.self.view_is
