-- What the table says of structs by name, and all that is judged wrong in a program.
use Rattle.std.specs.Prelude.{◌≡◌, ℕ, Bool, false, if◌then◌else◌, not, ◌||◌, nat_eq, nat_lt, List, [], ◌∷◌, ◌++◌, get_or, Option, Some, None, Decides}
use Rattle.std.specs.List.{slice_get}
use Rattle.hv_tree.specs.declared.refusal.Rule.TheVariants as rule
use Rattle.hv_tree.specs.declared.refusal.Refusal.{Refusal}
use Rattle.hv_tree.specs.Core.{Core, CoreStruct}
use Rattle.hv_decls.specs.Types.{StructType, most_depth, most_leaves}
use Rattle.hv_type_rules.specs.TypeRules.{HoldsFunction}
use Rattle.hv_scope.specs.Tops.{structs_in, struct_number}
use Rattle.hv_symbols.specs.Texts.{has}
use Rattle.hv_type_judge.specs.Judged.{only, refusal, all_judged}
use Rattle.hv_types.specs.Depths.{settled}

-- ---- structs that have functions in them

abbrev pub is_number : Option ℕ → ℕ → Bool
is_number None i = false
is_number (Some j) i = nat_eq j i

-- the name of a struct, where it is the first with that name
abbrev pub name_of : Core → ℕ → Option CoreStruct → List (List ℕ)
name_of tree i None = []
name_of tree i (Some s) = if is_number (struct_number tree.decls s.name.text) i then s.name.text ∷ [] else []

-- the names of the structs with these numbers
abbrev pub names_of : Core → List ℕ → List (List ℕ)
names_of tree [] = []
names_of tree (i ∷ is) = name_of tree i (slice_get (structs_in tree.decls) i) ++ names_of tree is

-- the list names exactly the structs whose values have function values in them
abbrev pub NamesHolders : Core → List (List ℕ) → Type 0
NamesHolders tree names = (s : List ℕ) → Decides (has names s) (HoldsFunction tree (StructType s))

-- ---- structs that are too great

-- its depth isn't known, or it has too many leaves
abbrev pub is_great : List ℕ → List ℕ → Option ℕ → Bool
is_great depths counts None = false
is_great depths counts (Some i) = not (settled most_depth (get_or depths i 0)) || nat_lt most_leaves (get_or counts i 1)

-- the structs that are too great
abbrev pub great_judged : Core → List ℕ → List ℕ → List CoreStruct → List Refusal
great_judged tree depths counts [] = []
great_judged tree depths counts (s ∷ ss) = only (is_great depths counts (struct_number tree.decls s.name.text)) (refusal rule.T4 s.name.place) ++ great_judged tree depths counts ss

-- ---- all

-- what is judged wrong in the whole program
abbrev pub IsAllJudged : Core → List Refusal → Type 0
IsAllJudged tree found = (names : List (List ℕ)) × NamesHolders tree names × (found ≡ all_judged tree names)
