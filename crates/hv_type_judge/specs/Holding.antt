-- Which structs hold function values.
use Rattle.std.specs.Prelude.{◌≡◌, ◌↔◌, ℕ, true, List}
use Rattle.hv_tree.specs.Core.{Core}
use Rattle.hv_symbols.specs.Texts.{has}
use Rattle.hv_decls.specs.Types.{StructType}
use Rattle.hv_type_rules.specs.TypeRules.{HoldsFunction}

-- the list names exactly the structs whose values have function values in them
abbrev pub NamesHolders : Core → List (List ℕ) → Type 0
NamesHolders tree holding = (s : List ℕ) → (has holding s ≡ true) ↔ HoldsFunction tree (StructType s)
