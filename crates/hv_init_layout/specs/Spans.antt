-- The cells of locals that follow one another.
use Rattle.std.specs.Prelude.{◌≡◌, ℕ, suc, ◌+◌, ◌-◌, []}
use Rattle.hv_flow_pass.specs.declared.act.Range.{Range}
use Rattle.hv_init_cells.specs.Layout.{Layout}

-- where the cells of a local begin
abbrev pub begin : Layout → ℕ → ℕ
begin l n = (l.range_of n []).from

-- the cells from where those of this local begin up to where those of the local so many further on do
abbrev pub span_of : Layout → ℕ → ℕ → Range
span_of l first count = record { from = begin l first; count = begin l (first + count) - begin l first }

-- the cells of each local end where those of the next one begin
abbrev pub FollowOneAnother : Layout → Type 0
FollowOneAnother l = (n : ℕ) → begin l n + (l.range_of n []).count ≡ begin l (suc n)
