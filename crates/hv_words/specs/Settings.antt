-- What clap makes of the words that are left.
use Rattle.std.specs.Prelude.{◌≡◌, ◌<◌, ◌≤◌, ◌^◌, ℕ, Bool, true, List, [], ◌∷◌, codes, Option, Some, None, Result, Ok, Err, if◌then◌else◌}
use Rattle.std.specs.Borrow.{Bor}
use Rattle.std.specs.List.{Contains}
use Rattle.clap.specs.Words.{found_of, one_text}
use Rattle.hv_words.specs.Taken.{AllFit, AreNew, Form, Item, Setting, SetsEach, Word, dashed, flag, has_flag, is_number, number_of, option, positional, value_of}
use Rattle.hv_words.specs.declared.order.WordsEnd.{WordsEnd}
use Rattle.hv_words.specs.declared.order.WordsEnd.TheVariants.{Usage, NoMemory}
use Rattle.hv_words.specs.declared.settings.Settings.{Settings}

-- the words of the items but for the positionals
abbrev pub left_of : List Item → List Word
left_of [] = []
left_of (positional word ∷ items) = left_of items
left_of (option name value ∷ items) = name ∷ value ∷ left_of items
left_of (flag name ∷ items) = name ∷ left_of items

-- what was read for a name
abbrev pub text_at : Settings → Word → Option Word
text_at s name = one_text (found_of s.matches) name

-- the value, if there is one, is a number word in the option's range
abbrev pub IsInRange : Setting → Option Word → Type 0
IsInRange setting None = Unit {0}
IsInRange setting (Some value) = (is_number value ≡ true) × (setting.least ≤ number_of value)
    × (number_of value ≤ setting.most)

-- the option's value was read, and is in its range
abbrev pub HasOption : Settings → List Item → Setting → Type 0
HasOption s items setting = (text_at s setting.name ≡ value_of (dashed setting.name) items)
    × IsInRange setting (value_of (dashed setting.name) items)

abbrev pub HasOptions : Settings → List Item → List Setting → Type 0
HasOptions s items [] = Unit {0}
HasOptions s items (setting ∷ settings) = HasOption s items setting × HasOptions s items settings

abbrev pub flag_text : Bool → Word
flag_text b = if b then codes "true" else codes "false"

-- whether the flag is given was read
abbrev pub HasFlag : Settings → List Item → Word → Type 0
HasFlag s items name = text_at s name ≡ Some (flag_text (has_flag (dashed name) items))

abbrev pub HasFlags : Settings → List Item → List Word → Type 0
HasFlags s items [] = Unit {0}
HasFlags s items (name ∷ names) = HasFlag s items name × HasFlags s items names

abbrev pub HasSettings : Form → List Item → Result Settings WordsEnd → Type 0
HasSettings form items (Ok s) = HasOptions s items form.options × HasFlags s items form.flags
HasSettings form items (Err Usage) = (ns : List (Word × ℕ)) → SetsEach form.options items ns → ⊥
HasSettings form items (Err NoMemory) = Unit {0}

-- the settings of whatever items the words are left of
abbrev pub ReadsLeft : Form → List Word → Result Settings WordsEnd → Type 0
ReadsLeft form left result = (items : List Item) → AllFit form items → AreNew [] items
    → left_of items ≡ left → HasSettings form items result

-- the number of an option, if there is one, by what was read for its name
abbrev pub IsNumberOf : Setting → Option Word → Option ℕ → Type 0
IsNumberOf setting None n = n ≡ setting.fallback
IsNumberOf setting (Some value) n =
    is_number value ≡ true → number_of value < 2 ^ 64 → n ≡ Some (number_of value)

abbrev pub AreNumbersOf : Settings → List Setting → List (Word × ℕ) → Type 0
AreNumbersOf s [] [] = Unit {0}
AreNumbersOf s (setting ∷ settings) (entry ∷ entries) = (entry.0 ≡ setting.name)
    × IsNumberOf setting (text_at s setting.name) (Some entry.1) × AreNumbersOf s settings entries
AreNumbersOf s [] (entry ∷ entries) = ⊥
AreNumbersOf s (setting ∷ settings) [] = ⊥

-- an option has no number
abbrev pub Lacks : Settings → List Setting → WordsEnd → Type 0
Lacks s options Usage =
    (o : Setting) × Contains options o × IsNumberOf o (text_at s o.name) None
Lacks s options NoMemory = Unit {0}

-- whether a flag is given, by what was read for its name
abbrev pub IsMarkOf : Option Word → Bool → Type 0
IsMarkOf text mark = (b : Bool) → text ≡ Some (flag_text b) → mark ≡ b

abbrev pub AreMarksOf : Settings → List Word → List (Word × Bool) → Type 0
AreMarksOf s [] [] = Unit {0}
AreMarksOf s (name ∷ names) (entry ∷ entries) =
    (entry.0 ≡ name) × IsMarkOf (text_at s name) entry.1 × AreMarksOf s names entries
AreMarksOf s [] (entry ∷ entries) = ⊥
AreMarksOf s (name ∷ names) [] = ⊥

-- a number or a mark with its name as bytes
abbrev pub entry_of : {A : Type 0} → Bor Word × A → Word × A
entry_of entry = (entry.0.now, entry.1)
