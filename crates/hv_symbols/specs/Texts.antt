-- Lists of texts as they are looked up.
use Rattle.std.specs.Prelude.{ℕ, suc, Bool, if◌then◌else◌, List, [], ◌∷◌, Option, Some, None, is_some}
use Rattle.std.specs.Str.{bytes_eq}

-- the place of the first such text, counted from n
abbrev pub index_from : ℕ → List (List ℕ) → List ℕ → Option ℕ
index_from n [] text = None
index_from n (t ∷ ts) text = if bytes_eq text t then Some n else index_from (suc n) ts text

-- the place of the first such text
unfoldable pub index_of : List (List ℕ) → List ℕ → Option ℕ
index_of ts text = index_from 0 ts text

-- the text is in the list
abbrev pub has : List (List ℕ) → List ℕ → Bool
has ts text = is_some (index_of ts text)
