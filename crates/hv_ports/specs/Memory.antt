-- What a source and a sink in memory hold.
use Rattle.std.specs.Prelude.{◌≡◌, ℕ, ◌+◌, ◌-◌, ◌^◌, ◌<◌, min, true, ◌==◌, cond, List, [], ◌∷◌, Option, Some, None, String, Vec, string_bytes, bytes_eq, length}
use Rattle.std.specs.List.{list_any}
use Rattle.std.specs.declared.alloc.Global.{Global}

-- a name and the bytes under it
abbrev pub File : Type 0
File = List ℕ × List ℕ

abbrev pub file_of : String Global × Vec ℕ Global → File
file_of file = (string_bytes file.0, file.1.items)

-- the bytes of the first file of that name
abbrev pub bytes_named : List File → List ℕ → Option (List ℕ)
bytes_named [] name = None
bytes_named (file ∷ files) name = cond (bytes_eq file.0 name) (Some file.1) (bytes_named files name)

-- the bytes of a file that may be none
abbrev pub bytes_of : Option File → List ℕ
bytes_of None = []
bytes_of (Some file) = file.1

-- named files, the numbers of the calls that fail, the most bytes of one read, the calls and the
-- faults so far, the name asked for, and the bytes left of the started file
pub record Stored : Type 0 where
  pub files : List File
  pub fails : List ℕ
  pub most : ℕ
  pub calls : ℕ
  pub faults : ℕ
  pub asked : Option (List ℕ)
  pub left : List ℕ

-- this call's number is one of those that fail
abbrev pub IsDue : Stored → Type 0
IsDue s = list_any (λ n. n == s.calls) s.fails ≡ true

-- one more, up to the greatest number of 64 bits
abbrev pub one_more : ℕ → ℕ
one_more n = min (n + 1) (2 ^ 64 - 1)

-- a call was counted, and neither the files nor what it is asked to do have changed
pub record Counted (old new : Stored) : Type 0 where
  pub files : new.files ≡ old.files
  pub fails : new.fails ≡ old.fails
  pub most : new.most ≡ old.most
  pub calls : new.calls ≡ one_more old.calls

-- the bytes taken, the most that it takes, and the faults so far
pub record Taking : Type 0 where
  pub written : List ℕ
  pub limit : ℕ
  pub faults : ℕ

-- a piece comes that isn't empty, and there is no room
pub record IsFull (sink : Taking) (piece : List ℕ) : Type 0 where
  pub some : 0 < length piece
  pub full : length sink.written ≡ sink.limit
