-- What contracts see of cells, of the rights to them and of watches.
use Rattle.std.specs.Prelude.{ℕ, List, [], Option, Some}
use Rattle.atomic_table.specs.Seated.{TableId}
use Rattle.atomic_table.specs.declared.badge.Badge.{Badge}
use Rattle.hv_cell.specs.declared.why.Reasons.{Reasons}

-- where a right belongs: a table, and the kin that it was made with
pub record Home (K : Type 0) : Type 0 where
  pub table : TableId
  pub kin : Option K

-- cells: their kin, their table, and the table of their stop word
pub record Made (K : Type 0) : Type 0 where
  pub kin : K
  pub cells : TableId
  pub stop : TableId

-- a cell that nobody uses, and the seat that has it
pub record Vacancy (K : Type 0) : Type 0 where
  pub home : Home K
  pub cell : ℕ
  pub seat : ℕ

-- the right of a party of a cell: the task that it stands for, and its seat
pub record Right (K : Type 0) : Type 0 where
  pub home : Home K
  pub cell : ℕ
  pub task : List ℕ
  pub seat : ℕ

-- a seat whose view is spent
pub record Gone : Type 0 where
  pub table : TableId
  pub seat : ℕ

-- a watch: what it has seen and set, and how often it looked
pub record Watching (K : Type 0) : Type 0 where
  pub home : Home K
  pub seen : Reasons
  pub asked : Reasons
  pub looks : ℕ

module _ {K : Type 0} where
  abbrev pub home_at : TableId → K → Home K
  home_at z k = record { table = z; kin = Some k }

  -- where the rights to these cells belong, and where their watches do
  abbrev pub home_of : Made K → Home K
  home_of m = home_at m.cells m.kin

  abbrev pub stop_home_of : Made K → Home K
  stop_home_of m = home_at m.stop m.kin

abbrev pub no_table : TableId
no_table = record { words = 0; slots = 0; views_name = 0; atom = 0; block = 0; offset = 0; slot_names = [] }

abbrev pub naming : TableId → Badge (Unit {0})
naming z = record { marker = record {}; table_id = z; id = 0; views = [] }
