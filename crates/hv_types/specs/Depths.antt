-- The depths of structs, found in rounds: after the n-th one those of depth at most n are known.
use Rattle.std.specs.Prelude.{ℕ, zero, suc, Bool, true, false, if◌then◌else◌, nat_lt, List, [], ◌∷◌, map, Option, Some, None}
use Rattle.std.specs.List.{list_all}
use Rattle.hv_tree.specs.Core.{Core, CoreStruct}
use Rattle.hv_decls.specs.Types.{ValueType, IntType, BoolType, StructType, ArrayType, FunType, FunToType, type_of_field}
use Rattle.hv_scope.specs.Tops.{structs_in, struct_number}

-- a depth that is known and at most this; 0 stands for one that isn't known
abbrev pub settled : ℕ → ℕ → Bool
settled n zero = false
settled n (suc d) = nat_lt d n

-- the depth of the struct with this number
abbrev pub depth_at : List ℕ → ℕ → ℕ
depth_at [] i = 0
depth_at (d ∷ ds) zero = d
depth_at (d ∷ ds) (suc i) = depth_at ds i

-- the depth of the struct with this number is at most n; what is no struct has no fields
abbrev pub fits_number : List ℕ → ℕ → Option ℕ → Bool
fits_number ds n None = true
fits_number ds n (Some i) = settled n (depth_at ds i)

-- the depth of the type is at most so much, by the depths that are known
abbrev pub fits : Core → List ℕ → ℕ → ValueType → Bool
fits tree ds zero t = false
fits tree ds (suc n) IntType = true
fits tree ds (suc n) BoolType = true
fits tree ds (suc n) (StructType s) = fits_number ds (suc n) (struct_number tree.decls s)
fits tree ds (suc n) (ArrayType t) = fits tree ds n t
fits tree ds (suc n) (FunType params) = true
fits tree ds (suc n) (FunToType params t) = true

-- all fields have a depth of at most n
abbrev pub fields_fit : Core → List ℕ → ℕ → CoreStruct → Bool
fields_fit tree ds n s = list_all (fits tree ds n) (map type_of_field s.fields)

-- the depth of a struct behind a round, given the depth before it
abbrev pub next_depth : Core → List ℕ → ℕ → CoreStruct → ℕ → ℕ
next_depth tree ds n s zero = if fields_fit tree ds n s then suc n else 0
next_depth tree ds n s (suc d) = suc d

-- a round over structs
abbrev pub round : Core → List ℕ → ℕ → List CoreStruct → List ℕ → List ℕ
round tree ds n [] old = []
round tree ds n (s ∷ ss) [] = []
round tree ds n (s ∷ ss) (d ∷ old) = next_depth tree ds n s d ∷ round tree ds n ss old

-- no depth is known
abbrev pub unknown : List CoreStruct → List ℕ
unknown [] = []
unknown (s ∷ ss) = 0 ∷ unknown ss

-- the depths that are known after so many rounds
abbrev pub depths : Core → ℕ → List ℕ
depths tree zero = unknown (structs_in tree.decls)
depths tree (suc n) = round tree (depths tree n) n (structs_in tree.decls) (depths tree n)
