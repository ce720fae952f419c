-- How the words are read one by one, for the functions inside.
use Rattle.std.specs.Prelude.{◌≡◌, ⊤, Result, Ok, Err, Bool, true, false, List, [], ◌∷◌, ◌++◌, map, Option, Some, None, option_map, option_and_then, if◌then◌else◌}
use Rattle.clap.specs.Lexer.{strip_byte}
use Rattle.hv_words.specs.Taken.{Form, Setting, Word, flag_words, is_among, is_number, is_positional, option_words}
use Rattle.hv_words.specs.declared.line.Line.{Line}
use Rattle.hv_words.specs.declared.line.Parted.{Parted}
use Rattle.hv_words.specs.declared.order.WordsEnd.{WordsEnd}
use Rattle.hv_words.specs.declared.order.WordsEnd.TheVariants.{Usage, NoMemory}
use Rattle.hv_words.specs.declared.subcommand.Kind.{Kind}
use Rattle.hv_words.specs.declared.subcommand.Kind.TheVariants.{Valued, Flag, Positional, Unknown}
use Rattle.hv_words.specs.declared.subcommand.Form.{Form as DeclaredForm}
use Rattle.hv_words.specs.declared.subcommand.Setting.{Setting as DeclaredSetting}

-- an option and a row of the table as code has them
abbrev pub setting_of : DeclaredSetting → Setting
setting_of s = record { name = s.name.now; least = s.least; most = s.most; fallback = s.fallback }

abbrev pub form_of : DeclaredForm → Form
form_of f = record {
  subcommand = f.subcommand;
  name = f.name.now;
  takes = f.takes;
  options = map setting_of f.options.now;
  flags = map (λ s. s.now) f.flags.now;
}

-- the name of an option or a flag in its word
abbrev pub name_of : Word → Option Word
name_of word = option_and_then (strip_byte 45) (strip_byte 45 word)

abbrev pub kind_of : Form → Word → Kind
kind_of f word = if is_among word (option_words f) then Valued
    else (if is_among word (flag_words f) then Flag
    else (if is_positional word then Positional else Unknown))

-- what was read of a line: its positional, the words that are left, the names among these, and
-- whether the next word is a value
pub record Seen : Type 0 where
  pub file : Option Word
  pub left : List Word
  pub names : List Word
  pub waits : Bool

abbrev pub nothing_seen : Seen
nothing_seen = record { file = None; left = []; names = []; waits = false }

abbrev pub seen_of : Line → Seen
seen_of l = record {
  file = option_map (λ s. s.now) l.file;
  left = map (λ s. s.now) l.left.items;
  names = map (λ s. s.now) l.names.items;
  waits = l.waits;
}

-- with one more word that is left
abbrev pub kept : Word → Seen → Seen
kept word s = record s { left = s.left ++ word ∷ [] }

abbrev pub value_step : Word → Seen → Option Seen
value_step word s = if is_number word then Some (kept word (record s { waits = false })) else None

-- with one more name
abbrev pub noted : Word → Seen → Seen
noted word s = record s { names = s.names ++ word ∷ [] }

abbrev pub named : Bool → Word → Seen → Seen
named waits word s = record (noted word s) { waits = waits }

abbrev pub name_step : Bool → Word → Seen → Option Seen
name_step waits word s =
    if is_among word s.names then None else Some (kept word (named waits word s))

abbrev pub file_step : Option Word → Word → Seen → Option Seen
file_step None word s = Some (record s { file = Some word })
file_step (Some file) word s = None

abbrev pub kind_step : Kind → Word → Seen → Option Seen
kind_step Valued word s = name_step true word s
kind_step Flag word s = name_step false word s
kind_step Positional word s = file_step s.file word s
kind_step Unknown word s = None

-- after one more word
abbrev pub step : Form → Word → Seen → Option Seen
step f word s = if s.waits then value_step word s else kind_step (kind_of f word) word s

abbrev pub scan : Form → List Word → Seen → Option Seen
scan f [] s = Some s
scan f (word ∷ words) s = option_and_then (scan f words) (step f word s)

abbrev pub ended : Seen → Option (Word × List Word)
ended s = if s.waits then None else option_map (λ file. (file, s.left)) s.file

-- the word was taken, and this was seen then, or it has no place there
abbrev pub Steps : Option Seen → Seen → Result Unit WordsEnd → Type 0
Steps next now (Ok u) = next ≡ Some now
Steps next now (Err Usage) = next ≡ None
Steps next now (Err NoMemory) = ⊤

-- the positional, and the words that are left
abbrev pub line_of : Form → List Word → Option (Word × List Word)
line_of f words = option_and_then ended (scan f words nothing_seen)

abbrev pub Parts : Option (Word × List Word) → Result Parted WordsEnd → Type 0
Parts line (Ok p) = line ≡ Some (p.file.now, map (λ s. s.now) p.left.items)
Parts line (Err Usage) = line ≡ None
Parts line (Err NoMemory) = ⊤
