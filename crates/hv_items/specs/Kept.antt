-- A value that is kept while another may or may not come.
use Rattle.std.specs.Prelude.{Result, Ok, Err}

abbrev pub paired : {A B E : Type 0} → A → Result B E → Result (A × B) E
paired kept (Ok other) = Ok (kept, other)
paired kept (Err e) = Err e
