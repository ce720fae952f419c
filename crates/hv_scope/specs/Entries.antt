-- Visible locals with what each hides, the newest first.
use Rattle.std.specs.Prelude.{◌≡◌, ℕ, if◌then◌else◌, List, [], ◌∷◌, length, map, Option, Some, None}
use Rattle.std.specs.Str.{bytes_eq}
use Rattle.hv_scope.specs.declared.known.Entry.{Entry}
use Rattle.hv_scope.specs.declared.known.Known.{Known}
use Rattle.hv_scope.specs.Known.{text_of}

-- the local itself
abbrev pub known_of : Entry → Known
known_of e = e.known

-- the locals
abbrev pub seen : List Entry → List Known
seen es = map known_of es

-- the place of the newest one with the name, counted from the oldest
abbrev pub place_of : List Entry → List ℕ → Option ℕ
place_of [] text = None
place_of (e ∷ es) text = if bytes_eq text (text_of e.known) then Some (length es) else place_of es text

-- each knows the place of what it hides
abbrev pub Restores : List Entry → Type 0
Restores [] = Unit {0}
Restores (e ∷ es) = (e.hides ≡ place_of es (text_of e.known)) × Restores es
