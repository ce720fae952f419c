-- What contracts see of a source over real files.
use Rattle.std.specs.Prelude.{ℕ, List, Option}

-- the name asked for, and the faults so far
pub record Asking : Type 0 where
  pub asked : Option (List ℕ)
  pub faults : ℕ
