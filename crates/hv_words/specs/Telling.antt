-- What the functions inside make of the words behind a name.
use Rattle.std.specs.Prelude.{◌≡◌, ◌&&◌, ℕ, List, nat_le, map, if◌then◌else◌, Option, Some, None, Result, Ok, Err}
use Rattle.hv_words.specs.Taken.{Form, Says, Word, is_number, number_of, Said}
use Rattle.hv_words.specs.Settings.{entry_of}
use Rattle.hv_words.specs.declared.order.WordsEnd.{WordsEnd}
use Rattle.hv_words.specs.declared.order.WordsEnd.TheVariants.{Usage, NoMemory}
use Rattle.hv_words.specs.declared.said.Said.{Said as DeclaredSaid}
use Rattle.hv_words.specs.declared.subcommand.Positional.{Positional}
use Rattle.hv_words.specs.declared.subcommand.Positional.TheVariants.{File, Number}

-- the number that a word writes, in a range
abbrev pub number_in : ℕ → ℕ → Word → Option ℕ
number_in least most word =
    if is_number word && (nat_le least (number_of word) && nat_le (number_of word) most)
    then Some (number_of word) else None

abbrev pub count_of : Positional → Word → Option ℕ
count_of File word = Some 0
count_of (Number least most) word = number_in least most word

-- what was said, with the words as bytes
abbrev pub said_of : DeclaredSaid → Said
said_of s = record {
  word = s.word.now;
  count = s.count;
  numbers = map entry_of s.numbers.items;
  marks = map entry_of s.marks.items;
}

-- the words say this, and usage comes where they say nothing
abbrev pub Hears : Form → List Word → Result DeclaredSaid WordsEnd → Type 0
Hears row words (Ok said) = Says row words (said_of said)
Hears row words (Err Usage) = (said : Said) → Says row words said → ⊥
Hears row words (Err NoMemory) = Unit {0}
