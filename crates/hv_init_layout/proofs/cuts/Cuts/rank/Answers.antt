use Rattle.std.proofs.Common.{◌≡◌, ℕ, nat_le, sym, subst, ◌∙◌, ap, rules, List}
use Rattle.std.specs.Prelude.{IfOk}
use Rattle.std.proofs.lemmas.List.Sorted.{IsPartitionPoint-from_clause}
use Rattle.hv_init_cells.specs.Ranked.{rank}
use Rattle.hv_init_layout.specs.Cuts.{Ascends, stands}
use Rattle.hv_init_layout.proofs.CutLemmas.{parted, rank_at}
use Rattle.hv_init_layout.proofs.cuts.Cuts.rank.Goals as goal

pub returns : goal.returns
returns c =
    let list : List ℕ = c.as_slice.result.now in
    let up : Ascends 0 list = subst (Ascends 0) (sym c.as_slice.ensures) c.self.invariant in
    let point = IsPartitionPoint-from_clause (λ (cut : ℕ). nat_le cut c.args.position) list c.partition_point-count.result c.partition_point-count.ensures.partitioned (parted c.args.position list up) (λ a r q k. search rules) in
    let count : c.partition_point-count.result ≡ rank (stands c.args.self.now) c.args.position =
    rank_at c.partition_point-count.result c.args.position list up c.partition_point-count.ensures.bound point ∙ ap (λ (cs : List ℕ). rank (stands cs) c.args.position) (c.as_slice.ensures ∙ c.self.view_is) in
    subst (λ (k : ℕ). IfOk c.number.result (λ n. n ≡ k)) count c.number.ensures
