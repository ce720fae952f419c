-- One more edge.
use Rattle.std.proofs.Common.{◌≡◌, ℕ, zero, suc, ◌<◌, ◌≤◌, List, [], ◌∷◌, ◌++◌, length, get_or, refl, ◌∙◌, ap, arith}
use Rattle.std.proofs.Math.ListN.{set}
use Rattle.hv_flow.specs.declared.nodes.Node.{Node}
use Rattle.hv_flow.specs.Graphs.{extend_at, linked}

pub extend_set : (at : ℕ) (to : List ℕ) (ns : List Node) (d : Node) → at < length ns → extend_at at to ns ≡ set ns at (record (get_or ns at d) { next = (get_or ns at d).next ++ to })
extend_set at to [] d h = absurd (omega (arith, h))
extend_set zero to (n ∷ ns) d h = refl
extend_set (suc at) to (n ∷ ns) d h = ap (λ (w : List Node). n ∷ w) (extend_set at to ns d (omega (arith, h)))

pub extend_past : (at : ℕ) (to : List ℕ) (ns : List Node) → length ns ≤ at → extend_at at to ns ≡ ns
extend_past at to [] h = refl
extend_past zero to (n ∷ ns) h = absurd (omega (arith, h))
extend_past (suc at) to (n ∷ ns) h = ap (λ (w : List Node). n ∷ w) (extend_past at to ns (omega (arith, h)))

pub length_extend : (at : ℕ) (to : List ℕ) (ns : List Node) → length (extend_at at to ns) ≡ length ns
length_extend at to [] = refl
length_extend zero to (n ∷ ns) = refl
length_extend (suc at) to (n ∷ ns) = ap suc (length_extend at to ns)

pub length_linked : (from to : List ℕ) (ns : List Node) → length (linked from to ns) ≡ length ns
length_linked [] to ns = refl
length_linked (i ∷ from) to ns = length_linked from to (extend_at i to ns) ∙ length_extend i to ns
