-- What a party gets, by cases.
use Rattle.hv_cell.specs.declared.cells.Finished.{Finished}
use Rattle.hv_cell.specs.declared.cells.Finished.TheVariants.{First, Last}
use Rattle.hv_cell.specs.declared.cells.Parked.{Parked}
use Rattle.hv_cell.specs.declared.cells.Parked.TheVariants.{First as Left, Last as Taken}
use Rattle.hv_cell.specs.Tokens.{Vacancy, Gone}

module _ {P K S D : Type 0} where
  abbrev pub MatchFinished : Finished P K S D → (Gone → Type 0) → (S → D → Vacancy K → Type 0) → Type 0
  MatchFinished (First p) F L = F p
  MatchFinished (Last s d c) F L = L s d c

  abbrev pub MatchParked : Parked P K S D → (Gone → Type 0) → (S → D → Vacancy K → Type 0) → Type 0
  MatchParked (Left p) F L = F p
  MatchParked (Taken s d c) F L = L s d c
