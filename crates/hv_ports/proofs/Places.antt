-- The file at a place.
use Rattle.std.proofs.Common.{◌≡◌, ◌<◌, ℕ, zero, suc, true, cond, List, [], ◌∷◌, Some, ap, sym, ◌∙◌, map, length, drop, get_or, arith}
use Rattle.std.specs.Prelude.{String, Vec, string_bytes, bytes_eq, slice_get}
use Rattle.std.specs.Option.{option_map}
use Rattle.std.specs.declared.alloc.Global.{Global}
use Rattle.hv_ports.specs.Memory.{bytes_named, bytes_of, file_of}

pub named_here : (files : List (String Global × Vec ℕ Global)) (i : ℕ) (name : List ℕ) (file : String Global × Vec ℕ Global) → i < length files → file ≡ get_or files i file → bytes_eq (string_bytes file.0) name ≡ true → bytes_named (map file_of (drop i files)) name ≡ Some (bytes_of (option_map file_of (slice_get files i)))
named_here [] i name file within is h = absurd (omega arith)
named_here (f ∷ fs) zero name file within is h =
    ap (λ b. cond b (Some f.1.items) (bytes_named (map file_of fs) name)) (ap (λ (x : String Global × Vec ℕ Global). bytes_eq (string_bytes x.0) name) (sym is) ∙ h)
named_here (f ∷ fs) (suc i) name file within is h = named_here fs i name file (omega arith) is h
