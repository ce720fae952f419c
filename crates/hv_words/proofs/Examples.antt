-- Words that are taken, with what they ask for, words that aren't, and rows with every column.
use Rattle.std.proofs.Common.{◌≡◌, [], ◌∷◌, List, codes, false, refl, true, arith}
use Rattle.std.specs.Prelude.{Option, Some, None}
use Rattle.std.specs.List.{list_all}
use Rattle.clap.proofs.OnLiterals.{clap_on_literals}
use Rattle.hv_words.specs.Taken.{Asked, Form, Said, Says, Setting, Taken, Word, asked_by, check, flag, option, plain, positional, row_named, run, steps_option}
use Rattle.hv_words.specs.Line.{line_of}
use Rattle.hv_words.specs.Reading.{app_by}
use Rattle.hv_words.specs.Rows.{is_sound}
use Rattle.hv_words.specs.declared.order.WordsEnd.TheVariants.{Usage}
use Rattle.hv_words.specs.declared.subcommand.Positional.TheVariants.{File, Number}
use Rattle.hv_words.specs.declared.subcommand.Subcommand.TheVariants.{Check, Run}
use Rattle.hv_words.proofs.AnswerLemmas.{nothing_said, said_end}

abbrev row_or_none : Option Form → Form
row_or_none (Some row) = row
row_or_none None = record { subcommand = Check; name = []; takes = File; options = []; flags = [] }

abbrev row_of : Word → Form
row_of name = row_or_none (row_named name)

taken : (name : Word) (rest : List Word) (said : Said) → row_named name ≡ Some (row_of name) → Says (row_of name) rest said → Taken (name ∷ rest) (asked_by (row_of name).subcommand said)
taken name rest said named says = record {
  name = name;
  rest = rest;
  row = row_of name;
  said = said;
  begins = refl;
  named = named;
  says = says;
  is = refl;
}

refused : (name : Word) (rest : List Word) → row_named name ≡ Some (row_of name) → line_of (row_of name) rest ≡ None → (a : Asked) → Taken (name ∷ rest) a → ⊥
refused name rest named none = said_end (name ∷ rest) rest name refl (row_of name) Usage named (nothing_said (row_of name) rest none)

check_file : Taken (codes "check" ∷ codes "F" ∷ []) (check (codes "F"))
check_file = taken (codes "check") _
    (record { word = codes "F"; count = 0; numbers = []; marks = [] }) refl
    (positional (codes "F") ∷ [], refl, ((refl, refl, refl), tt), tt, (refl, refl, tt, refl))

-- the positional last
run_steps : Taken (codes "run" ∷ codes "--steps" ∷ codes "13" ∷ codes "F" ∷ []) (run (codes "F") 13 false)
run_steps = taken (codes "run") _
    (record { word = codes "F"; count = 0; numbers = (codes "steps", 13) ∷ []; marks = (codes "trace", false) ∷ [] }) refl (
      option (codes "--steps") (codes "13") ∷ positional (codes "F") ∷ [],
      refl,
      ((refl, refl), ((refl, refl, refl), tt)),
      (refl, tt),
      (refl, refl, (refl, (refl, omega arith, omega arith), tt), refl),
    )

-- the steps that stand for the option
plain_trace : Taken (codes "plain" ∷ codes "-" ∷ codes "--trace" ∷ []) (plain (codes "-") 10000000 true)
plain_trace = taken (codes "plain") _
    (record { word = codes "-"; count = 0; numbers = (codes "steps", 10000000) ∷ []; marks = (codes "trace", true) ∷ [] }) refl (
      positional (codes "-") ∷ flag (codes "--trace") ∷ [],
      refl,
      ((refl, refl, refl), ((refl, refl), tt)),
      (refl, tt),
      (refl, refl, (refl, refl, tt), refl),
    )

-- a flag twice
trace_twice : (a : Asked) → Taken (codes "run" ∷ codes "--trace" ∷ codes "F" ∷ codes "--trace" ∷ []) a → ⊥
trace_twice = refused (codes "run") _ refl refl

-- an option of another subcommand
check_steps : (a : Asked) → Taken (codes "check" ∷ codes "F" ∷ codes "--steps" ∷ codes "5" ∷ []) a → ⊥
check_steps = refused (codes "check") _ refl refl

-- an option without its value
steps_alone : (a : Asked) → Taken (codes "run" ∷ codes "F" ∷ codes "--steps" ∷ []) a → ⊥
steps_alone = refused (codes "run") _ refl refl

-- ---- rows with the columns that no subcommand has yet

seed : Setting
seed = record { name = codes "seed"; least = 0; most = 18446744073709551615; fallback = None }

-- an option that must be given
seeded : Form
seeded = record { subcommand = Run; name = codes "seeded"; takes = File; options = seed ∷ steps_option ∷ []; flags = codes "events" ∷ [] }

-- a positional that is a number
counted : Form
counted = record { subcommand = Run; name = codes "counted"; takes = Number 1 4096; options = []; flags = codes "events" ∷ [] }

rows_pass : list_all is_sound (seeded ∷ counted ∷ []) ≡ true
unfolding app_by clap_on_literals seed seeded counted
rows_pass = refl

seed_given : Says seeded (codes "F" ∷ codes "--seed" ∷ codes "7" ∷ [])
    (record { word = codes "F"; count = 0; numbers = (codes "seed", 7) ∷ (codes "steps", 10000000) ∷ []; marks = (codes "events", false) ∷ [] })
unfolding seed seeded
seed_given = (
  positional (codes "F") ∷ option (codes "--seed") (codes "7") ∷ [],
  refl,
  ((refl, refl, refl), ((refl, refl), tt)),
  (refl, tt),
  (refl, refl, (refl, (refl, omega arith, omega arith), (refl, refl, tt)), refl),
)

three : Says counted (codes "--events" ∷ codes "03" ∷ [])
    (record { word = codes "03"; count = 3; numbers = []; marks = (codes "events", true) ∷ [] })
unfolding counted
three = (
  flag (codes "--events") ∷ positional (codes "03") ∷ [],
  refl,
  ((refl, refl), ((refl, refl, refl), tt)),
  (refl, tt),
  (refl, (refl, refl, omega arith, omega arith), tt, refl),
)
