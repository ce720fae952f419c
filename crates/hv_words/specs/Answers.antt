-- What `read_words` answers.
use Rattle.std.specs.Prelude.{◌≡◌, List, Result, Ok, Err, string_bytes}
use Rattle.hv_words.specs.Taken.{Asked, Taken, Word, check, plain, run, show}
use Rattle.hv_words.specs.declared.order.Order.{Order}
use Rattle.hv_words.specs.declared.order.Order.TheVariants.{Check, Show, Plain, Run}
use Rattle.hv_words.specs.declared.order.WordsEnd.{WordsEnd}
use Rattle.hv_words.specs.declared.order.WordsEnd.TheVariants.{Usage, NoMemory}

-- an order, with its file's name as bytes
abbrev pub asked_of : Order → Asked
asked_of (Check file) = check (string_bytes file)
asked_of (Show file) = show (string_bytes file)
asked_of (Plain file steps trace) = plain (string_bytes file) steps trace
asked_of (Run file steps trace) = run (string_bytes file) steps trace

-- the order is the one that the words ask for, and usage comes where they ask for none
abbrev pub Answers : List Word → Result Order WordsEnd → Type 0
Answers words (Ok order) = Taken words (asked_of order)
    × ((other : Asked) → Taken words other → other ≡ asked_of order)
Answers words (Err Usage) = (asked : Asked) → Taken words asked → ⊥
Answers words (Err NoMemory) = Unit {0}
