-- What a function that parses ensures: the parser's outcome, unless memory fails.
use Rattle.std.specs.Prelude.{◌≡◌, Result, Ok, Err}
use Rattle.hv_tree.specs.Tokens.{Tokens}
use Rattle.hv_syn_grammar.specs.Parser.{Read, Got, Off, Deep}
use Rattle.hv_syn_grammar.specs.declared.stop.Stop.{Stop}
use Rattle.hv_syn_grammar.specs.declared.stop.Stop.TheVariants as stop

abbrev pub Reads : {A : Type 0} → Read A → Result A Stop → Tokens → Type 0
Reads read (Ok a) rest = read ≡ Got a rest
Reads read (Err stop.Off) rest = read ≡ Off rest
Reads read (Err stop.Deep) rest = read ≡ Deep rest
Reads read (Err stop.NoMemory) rest = Unit {0}
