-- When two static paths overlap.
use Rattle.std.specs.Prelude.{◌≡◌, ◌⊎◌, ◌==◌, ℤ, pos, negsuc, Bool, true, false, ◌&&◌, List, [], ◌∷◌}
use Rattle.hv_decls.specs.declared.path.StaticStep.{StaticStep}
use Rattle.hv_decls.specs.declared.path.StaticStep.TheVariants as step
use Rattle.hv_decls.specs.declared.path.StaticPath.{StaticPath}

-- ---- the relation

-- two equal fields, or two index steps unless both are literals that differ
abbrev pub Compatible : StaticStep → StaticStep → Type 0
Compatible (step.Field x) (step.Field y) = x ≡ y
Compatible (step.Field x) (step.Literal y) = ⊥
Compatible (step.Field x) step.Any = ⊥
Compatible (step.Literal x) (step.Field y) = ⊥
Compatible (step.Literal x) (step.Literal y) = x ≡ y
Compatible (step.Literal x) step.Any = Unit {0}
Compatible step.Any (step.Field y) = ⊥
Compatible step.Any (step.Literal y) = Unit {0}
Compatible step.Any step.Any = Unit {0}

-- the first list is a prefix of the second, step by step
abbrev pub IsPrefix : List StaticStep → List StaticStep → Type 0
IsPrefix [] ys = Unit {0}
IsPrefix (x ∷ xs) [] = ⊥
IsPrefix (x ∷ xs) (y ∷ ys) = Compatible x y × IsPrefix xs ys

-- the same root, and one is a prefix of the other
abbrev pub Overlap : StaticPath → StaticPath → Type 0
Overlap a b = (a.root ≡ b.root) × (IsPrefix a.steps b.steps ⊎ IsPrefix b.steps a.steps)

-- ---- as the code computes it

-- two numbers are equal
abbrev pub same_int : ℤ → ℤ → Bool
same_int (pos x) (pos y) = x == y
same_int (pos x) (negsuc y) = false
same_int (negsuc x) (pos y) = false
same_int (negsuc x) (negsuc y) = x == y

-- the test of two steps
abbrev pub compatible : StaticStep → StaticStep → Bool
compatible (step.Field x) (step.Field y) = x == y
compatible (step.Field x) (step.Literal y) = false
compatible (step.Field x) step.Any = false
compatible (step.Literal x) (step.Field y) = false
compatible (step.Literal x) (step.Literal y) = same_int x y
compatible (step.Literal x) step.Any = true
compatible step.Any (step.Field y) = false
compatible step.Any (step.Literal y) = true
compatible step.Any step.Any = true

-- one list is a prefix of the other
abbrev pub steps_meet : List StaticStep → List StaticStep → Bool
steps_meet [] ys = true
steps_meet (x ∷ xs) [] = true
steps_meet (x ∷ xs) (y ∷ ys) = compatible x y && steps_meet xs ys

-- whether a step is an index
abbrev pub has_index : List StaticStep → Bool
has_index [] = false
has_index (step.Field f ∷ steps) = has_index steps
has_index (step.Literal n ∷ steps) = true
has_index (step.Any ∷ steps) = true
