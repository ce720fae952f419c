-- The structs that have functions in them, found from field to struct: each struct's users are taken once.
use Rattle.std.specs.Prelude.{◌↔◌, ℕ, zero, suc, Bool, true, false, if◌then◌else◌, ◌||◌, List, [], ◌∷◌, ◌++◌, get_or, Contains}
use Rattle.hv_types.specs.declared.fields.FieldType.{FieldType}
use Rattle.hv_types.specs.declared.fields.FieldBase.{FieldBase}
use Rattle.hv_types.specs.declared.fields.FieldBase.TheVariants as base
use Rattle.hv_types.specs.Table.{HoldsAt}

-- ---- functions in fields

abbrev pub is_function : FieldBase → Bool
is_function base.Plain = false
is_function base.Function = true
is_function (base.Struct i) = false

-- one of the fields is a function or an array of functions
abbrev pub has_function : List FieldType → Bool
has_function [] = false
has_function (t ∷ ts) = is_function t.base || has_function ts

-- the numbers of the structs with such a field, of which the first has the number k
abbrev pub direct_from : ℕ → List (List FieldType) → List ℕ
direct_from k [] = []
direct_from k (row ∷ rows) = (if has_function row then k ∷ [] else []) ++ direct_from (suc k) rows

-- ---- users

-- one more user of the struct with the number j
abbrev pub with_user : List (List ℕ) → ℕ → ℕ → List (List ℕ)
with_user [] j i = []
with_user (us ∷ rest) zero i = (us ++ i ∷ []) ∷ rest
with_user (us ∷ rest) (suc j) i = us ∷ with_user rest j i

-- the struct with the number i has a field of this type
abbrev pub with_field : List (List ℕ) → ℕ → FieldBase → List (List ℕ)
with_field users i base.Plain = users
with_field users i base.Function = users
with_field users i (base.Struct j) = with_user users j i

-- it has these fields
abbrev pub with_row : List (List ℕ) → ℕ → List FieldType → List (List ℕ)
with_row users i [] = users
with_row users i (t ∷ ts) = with_row (with_field users i t.base) i ts

-- the structs from the number k on have these fields
abbrev pub with_rows : List (List ℕ) → ℕ → List (List FieldType) → List (List ℕ)
with_rows users k [] = users
with_rows users k (row ∷ rows) = with_rows (with_row users k row) (suc k) rows

-- nobody uses a struct
abbrev pub nobody : List (List FieldType) → List (List ℕ)
nobody [] = []
nobody (row ∷ rows) = [] ∷ nobody rows

-- for each struct the numbers of those that have it as a field
abbrev pub users_of : List (List FieldType) → List (List ℕ)
users_of rows = with_rows (nobody rows) 0 rows

-- those of the struct with the number j
abbrev pub users_at : List (List ℕ) → ℕ → List ℕ
users_at users j = get_or users j []

-- the users of the struct with the number j are taken away
abbrev pub without : List (List ℕ) → ℕ → List (List ℕ)
without [] j = []
without (us ∷ rest) zero = [] ∷ rest
without (us ∷ rest) (suc j) = us ∷ without rest j

-- ---- what is reached

-- it is in the first list, or a user of what is reached
pub data Reached (users : List (List ℕ)) (first : List ℕ) : ℕ → Type 0 where
  begins : (i : ℕ) → Contains first i → Reached users first i
  follows : (j : ℕ) (i : ℕ) → Reached users first j → Contains (users_at users j) i → Reached users first i

-- a list with exactly what is reached
abbrev pub IsReached : List (List ℕ) → List ℕ → List ℕ → Type 0
IsReached users first found = (i : ℕ) → Contains found i ↔ Reached users first i

-- a list with exactly the structs that have functions in them
abbrev pub AreHolders : List (List FieldType) → List ℕ → Type 0
AreHolders rows found = (i : ℕ) → Contains found i ↔ HoldsAt rows i
