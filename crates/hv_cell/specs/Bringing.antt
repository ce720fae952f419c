-- What a party of a cell has in hand.
use Rattle.std.specs.Prelude.{◌≡◌, ℕ, Bool, false, [], ◌∷◌}
use Rattle.atomic_table.specs.Seated.{TableId}
use Rattle.atomic_table.specs.declared.badge.Badge.{Badge}
use Rattle.hv_cell.specs.declared.cell_view.Role.TheVariants.{Free, Party}
use Rattle.hv_cell.specs.declared.cell_view.View.{View}
use Rattle.hv_cell.specs.CellRule.{view}
use Rattle.hv_cell.specs.Heads.{task_in}

module _ {K : Type 0} where
  -- the badge of a party that is to come
  abbrev pub IsRole : Bool → ℕ → K → Badge (View K) → Type 0
  IsRole s c k b = b.views ≡ view (Party s false) c (task_in b.views) k b.table_id ∷ []

  -- the badge of a free cell
  abbrev pub IsFreeBadge : ℕ → K → TableId → Badge (View K) → Type 0
  IsFreeBadge c k z b = (b.table_id ≡ z) × (b.views ≡ view Free c [] k z ∷ [])
