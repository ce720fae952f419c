-- Places at which a source is refused.
use Rattle.std.specs.Prelude.{◌≡◌, ◌⊎◌, ℕ, List, length}
use Rattle.hv_tree.specs.declared.refusal.Rule.TheVariants.{P1, N3}
use Rattle.hv_tree.specs.declared.refusal.Refusal.{Refusal}
use Rattle.hv_law_checked.specs.Inside.{LiesIn}

-- the place is that of a byte, or the source's end for P1, or its beginning for N3
abbrev pub IsPlaced : List ℕ → Refusal → Type 0
IsPlaced bytes r = LiesIn bytes r.place ⊎ ((r.rule ≡ P1) × (r.place.start ≡ length bytes)) ⊎ ((r.rule ≡ N3) × (r.place.start ≡ 0))
