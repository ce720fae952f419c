-- Which words are taken, and what they ask for. A word is seen as its bytes.
use Rattle.std.specs.Prelude.{◌≡◌, ◌==◌, ◌&&◌, ◌||◌, ◌+◌, ◌-◌, ◌*◌, ◌^◌, ◌≤◌, nat_le, not, ℕ, Bool, true, false, List, [], ◌∷◌, ◌++◌, length, map, codes, Option, Some, None, find, if◌then◌else◌}
use Rattle.std.specs.List.{list_all, list_any}
use Rattle.std.specs.Str.{bytes_eq}
use Rattle.hv_words.specs.declared.subcommand.Positional.{Positional}
use Rattle.hv_words.specs.declared.subcommand.Positional.TheVariants.{File, Number}
use Rattle.hv_words.specs.declared.subcommand.Subcommand.{Subcommand}
use Rattle.hv_words.specs.declared.subcommand.Subcommand.TheVariants.{Check, Show, Plain, Run}

abbrev pub Word : Type 0
Word = List ℕ

abbrev pub is_among : Word → List Word → Bool
is_among word words = list_any (λ other. bytes_eq word other) words

-- ---- numbers

abbrev pub is_digit : ℕ → Bool
is_digit b = nat_le 48 b && nat_le b 57

-- one to twenty digits, of which the first ones may be zeros
abbrev pub is_number : Word → Bool
is_number word = nat_le 1 (length word) && (nat_le (length word) 20 && list_all is_digit word)

-- what digits write: each counts as many tens as digits stand behind it
abbrev pub number_of : Word → ℕ
number_of [] = 0
number_of (digit ∷ rest) = (digit - 48) * 10 ^ length rest + number_of rest

-- ---- the table

-- an option by its name, the numbers that it takes, and the number that stands for it where it isn't
-- given; one without such a number must be given
pub record Setting : Type 0 where
  pub name : Word
  pub least : ℕ
  pub most : ℕ
  pub fallback : Option ℕ

abbrev pub steps_option : Setting
steps_option = record { name = codes "steps"; least = 1; most = 1073741824; fallback = Some 10000000 }

abbrev pub trace_flag : Word
trace_flag = codes "trace"

-- a row: a subcommand, its name, what its one positional is, its options, and the names of its flags
pub record Form : Type 0 where
  pub subcommand : Subcommand
  pub name : Word
  pub takes : Positional
  pub options : List Setting
  pub flags : List Word

abbrev pub table : List Form
table =
    record { subcommand = Check; name = codes "check"; takes = File; options = []; flags = [] }
    ∷ record { subcommand = Show; name = codes "show"; takes = File; options = []; flags = [] }
    ∷ record { subcommand = Plain; name = codes "plain"; takes = File; options = steps_option ∷ []; flags = trace_flag ∷ [] }
    ∷ record { subcommand = Run; name = codes "run"; takes = File; options = steps_option ∷ []; flags = trace_flag ∷ [] }
    ∷ []

-- the row of a name
abbrev pub row_named : Word → Option Form
row_named name = find (λ row. bytes_eq name row.name) table

-- ---- what may be asked for

-- what words behind a name say: the positional, the number that it is where the row takes one, and by
-- their names a number for each option and whether each flag is given
pub record Said : Type 0 where
  pub word : Word
  pub count : ℕ
  pub numbers : List (Word × ℕ)
  pub marks : List (Word × Bool)

-- what stands by a name
abbrev pub by_name : {A : Type 0} → Word → A → List (Word × A) → A
by_name name other [] = other
by_name name other (entry ∷ entries) = if bytes_eq name entry.0 then entry.1 else by_name name other entries

abbrev pub number_said : Said → Word → ℕ
number_said said name = by_name name 0 said.numbers

abbrev pub is_said : Said → Word → Bool
is_said said name = by_name name false said.marks

pub data Asked : Type 0 where
  check : Word → Asked
  show : Word → Asked
  plain : Word → ℕ → Bool → Asked
  run : Word → ℕ → Bool → Asked

-- what a subcommand asks for
abbrev pub asked_by : Subcommand → Said → Asked
asked_by Check said = check said.word
asked_by Show said = show said.word
asked_by Plain said = plain said.word (number_said said steps_option.name) (is_said said trace_flag)
asked_by Run said = run said.word (number_said said steps_option.name) (is_said said trace_flag)

-- ---- the words behind the name

-- the word that gives an option or a flag: its name behind two hyphens
abbrev pub dashed : Word → Word
dashed name = 45 ∷ 45 ∷ name

abbrev pub option_words : Form → List Word
option_words form = map (λ o. dashed o.name) form.options

abbrev pub flag_words : Form → List Word
flag_words form = map dashed form.flags

-- a positional, an option with the word behind it, or a flag
pub data Item : Type 0 where
  positional : Word → Item
  option : Word → Word → Item
  flag : Word → Item

-- the words of the items, one item after the other
abbrev pub spelled : List Item → List Word
spelled [] = []
spelled (positional word ∷ items) = word ∷ spelled items
spelled (option name value ∷ items) = name ∷ value ∷ spelled items
spelled (flag name ∷ items) = name ∷ spelled items

-- `-`, or a word that isn't empty and doesn't begin with `-`
abbrev pub is_positional : Word → Bool
is_positional [] = false
is_positional (b ∷ rest) = not (b == 45) || length rest == 0

-- the subcommand takes the item: a word that is an option or a flag is no positional
abbrev pub FitsForm : Form → Item → Type 0
FitsForm form (positional word) = (is_among word (option_words form) ≡ false)
    × (is_among word (flag_words form) ≡ false) × (is_positional word ≡ true)
FitsForm form (option name value) =
    (is_among name (option_words form) ≡ true) × (is_number value ≡ true)
FitsForm form (flag name) =
    (is_among name (option_words form) ≡ false) × (is_among name (flag_words form) ≡ true)

abbrev pub AllFit : Form → List Item → Type 0
AllFit form [] = Unit {0}
AllFit form (item ∷ items) = FitsForm form item × AllFit form items

-- no option and no flag stands twice, or is one of those before
abbrev pub AreNew : List Word → List Item → Type 0
AreNew before [] = Unit {0}
AreNew before (positional word ∷ items) = AreNew before items
AreNew before (option name value ∷ items) =
    (is_among name before ≡ false) × AreNew (before ++ name ∷ []) items
AreNew before (flag name ∷ items) =
    (is_among name before ≡ false) × AreNew (before ++ name ∷ []) items

-- ---- what the items say

abbrev pub positionals : List Item → List Word
positionals [] = []
positionals (positional word ∷ items) = word ∷ positionals items
positionals (option name value ∷ items) = positionals items
positionals (flag name ∷ items) = positionals items

-- the value of an option
abbrev pub value_of : Word → List Item → Option Word
value_of wanted [] = None
value_of wanted (positional word ∷ items) = value_of wanted items
value_of wanted (option name value ∷ items) =
    if bytes_eq name wanted then Some value else value_of wanted items
value_of wanted (flag name ∷ items) = value_of wanted items

abbrev pub has_flag : Word → List Item → Bool
has_flag wanted [] = false
has_flag wanted (positional word ∷ items) = has_flag wanted items
has_flag wanted (option name value ∷ items) = has_flag wanted items
has_flag wanted (flag name ∷ items) = bytes_eq name wanted || has_flag wanted items

-- the positional is of this kind, and the number that it writes; a file's name writes none
abbrev pub Counts : Positional → Word → ℕ → Type 0
Counts File word n = n ≡ 0
Counts (Number least most) word n =
    (is_number word ≡ true) × (n ≡ number_of word) × (least ≤ n) × (n ≤ most)

-- the number that an option's value writes, in its range, or what stands for the option
abbrev pub SetsTo : Setting → Option Word → ℕ → Type 0
SetsTo setting None n = setting.fallback ≡ Some n
SetsTo setting (Some value) n =
    (n ≡ number_of value) × (setting.least ≤ n) × (n ≤ setting.most)

abbrev pub Sets : Setting → List Item → ℕ → Type 0
Sets setting items n = SetsTo setting (value_of (dashed setting.name) items) n

-- each option has its number
abbrev pub SetsEach : List Setting → List Item → List (Word × ℕ) → Type 0
SetsEach [] items [] = Unit {0}
SetsEach (setting ∷ settings) items (entry ∷ entries) =
    (entry.0 ≡ setting.name) × Sets setting items entry.1 × SetsEach settings items entries
SetsEach [] items (entry ∷ entries) = ⊥
SetsEach (setting ∷ settings) items [] = ⊥

abbrev pub mark_of : List Item → Word → Word × Bool
mark_of items name = (name, has_flag (dashed name) items)

-- the items say this for the row
abbrev pub Tells : Form → List Item → Said → Type 0
Tells row items said = (positionals items ≡ said.word ∷ []) × Counts row.takes said.word said.count
    × SetsEach row.options items said.numbers × (said.marks ≡ map (mark_of items) row.flags)

-- the words say this for the row: they are items that it takes, each option and each flag once at most
abbrev pub Says : Form → List Word → Said → Type 0
Says row words said = (items : List Item) × (words ≡ spelled items) × AllFit row items × AreNew [] items
    × Tells row items said

-- the words are taken, and ask for this: the first is the name of a row, and those behind it say for
-- this row what is asked for
pub record Taken (words : List Word) (asked : Asked) : Type 0 where
  pub name : Word
  pub rest : List Word
  pub row : Form
  pub said : Said
  pub begins : words ≡ name ∷ rest
  pub named : row_named name ≡ Some row
  pub says : Says row rest said
  pub is : asked ≡ asked_by row.subcommand said
