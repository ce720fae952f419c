use Rattle.std.proofs.Common.{◌≡◌, ◌↔◌, ◌<◌, ℕ, true, List, Contains, sym, subst, ◌∙◌, ap}
use Rattle.hv_init_layout.specs.Cuts.{Ascends, rising, stands}
use Rattle.hv_init_layout.proofs.CutLemmas.{ascends, kept_of}
use Rattle.hv_init_layout.proofs.cuts.Cuts.of.Goals as goal

pub invariant_of-result : goal.invariant_of-result
invariant_of-result c = subst (Ascends 0) (sym c.in_ok-rising.ensures) (ascends 0 c.as_slice.result.now)

pub returns : goal.returns
returns c = λ n.
    subst (λ (ns : List ℕ). (stands c.in_ok-rising.field-0 n ≡ true) ↔ ((0 < n) × Contains ns n)) c.into_vec-sorted.ensures
    (subst (λ (cs : List ℕ). (stands cs n ≡ true) ↔ ((0 < n) × Contains c.into_vec-sorted.result.items n)) (sym (c.in_ok-rising.ensures ∙ ap (rising 0) c.as_slice.ensures.value))
    (kept_of c.into_vec-sorted.result.items c.sort_unstable.new.self.items c.sort_unstable.ensures.permutation c.sort_unstable.ensures.sorted n))
