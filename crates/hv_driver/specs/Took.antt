-- What reading takes from a source.
use Rattle.std.specs.Prelude.{◌≡◌, ◌≤◌, ℕ, List, ◌++◌, length, take, Option, IfSome}
use Rattle.std.specs.Io.KnownBytes.{Consumes, IsAtEnd}

-- n bytes moved from those left to the end; none at the end
abbrev pub TakesPart : Option (List ℕ) → Option (List ℕ) → List ℕ → List ℕ → ℕ → Type 0
TakesPart left now before after n =
    (part : List ℕ) × (after ≡ before ++ part) × (length part ≡ n) × Consumes left now part × (n ≡ 0 → IsAtEnd now)

-- the bytes are those that there were, up to their end or to one more than a source may have
pub record ReadsFile (told left : Option (List ℕ)) (bytes : List ℕ) : Type 0 where
  pub moved : Consumes told left bytes
  pub first : IfSome told (λ all. bytes ≡ take 1048577 all)
  pub few : length bytes ≤ 1048577
