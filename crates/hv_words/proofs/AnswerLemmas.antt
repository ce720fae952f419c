-- From a line and its settings to what is said, and to the order.
use Rattle.std.proofs.Common.{◌≡◌, ◌∙◌, ◌≤◌, ℕ, Bool, true, false, List, [], ◌∷◌, ◌++◌, map, length, drop, sym, ap, arith}
use Rattle.std.specs.Prelude.{Option, Some, None, Result, Ok, Err, String, string_bytes}
use Rattle.std.specs.List.{slice_index_or}
use Rattle.clap.proofs.WalkLemmas.{both}
use Rattle.hv_words.specs.Taken.{AllFit, AreNew, Asked, Form, Item, Said, Says, Taken, Tells, Word, asked_by, row_named, spelled}
use Rattle.hv_words.specs.Line.{Parts, line_of}
use Rattle.hv_words.specs.Rows.{is_sound}
use Rattle.hv_words.specs.Settings.{AreMarksOf, AreNumbersOf, HasSettings, Lacks, ReadsLeft, left_of}
use Rattle.hv_words.specs.Telling.{Hears, count_of}
use Rattle.hv_words.specs.Answers.{Answers}
use Rattle.hv_words.proofs.TakenLemmas.{Read, sound, state, whole}
use Rattle.hv_words.proofs.NumberLemmas.{counted, counts}
use Rattle.hv_words.proofs.OrderLemmas.{said_for, taken_once}
use Rattle.hv_words.proofs.SettingsLemmas.{IsSound, lacks_none, marks_are, numbers_set, sound_parts}
use Rattle.hv_words.specs.declared.settings.Settings.{Settings}
use Rattle.hv_words.specs.declared.order.WordsEnd.{WordsEnd}
use Rattle.hv_words.specs.declared.order.WordsEnd.TheVariants.{Usage, NoMemory}

-- the line of words that say something
pub record Lined (f : Form) (words : List Word) (d : Said) : Type 0 where
  pub items : List Item
  pub fits : AllFit f items
  pub new : AreNew [] items
  pub tells : Tells f items d
  pub line : line_of f words ≡ Some (d.word, left_of items)

lined : (f : Form) (words : List Word) (d : Said) → Says f words d → Lined f words d
lined f words d p = record {
  items = p.0;
  fits = p.2;
  new = p.3;
  tells = p.4;
  line = ap (line_of f) p.1 ∙ whole f p.0 None [] [] d.word p.2 p.3 p.4.0;
}

pub nothing_said : (f : Form) (words : List Word) → line_of f words ≡ None → (d : Said) → Says f words d → ⊥
nothing_said f words none d p =
    let bad : ◌≡◌ {A = Option (Word × List Word)} (Some (d.word, left_of (lined f words d p).items)) None = sym (lined f words d p).line ∙ none in
    absurd cc

pub part_end : (f : Form) (words : List Word) (end : WordsEnd) → Parts (line_of f words) (Err end) → Hears f words (Err end)
part_end f words NoMemory h = tt
part_end f words Usage h = nothing_said f words h

module _ (f : Form) (words : List Word) (word : Word) (left : List Word) (line : line_of f words ≡ Some (word, left)) where
  read : Read f words (state None [] [] false) word left
  read = sound f words None [] [] false word left line

  words_are : words ≡ spelled read.items
  words_are = read.words_are ∙ ap (λ l. l ++ spelled read.items) read.waiting

  left_is : left_of read.items ≡ left
  left_is = sym (read.left ∙ ap (λ l. l ++ left_of read.items) read.waiting)

  same_line : (v : Word) (l : List Word) → line_of f words ≡ Some (v, l) → (v ≡ word) × (l ≡ left)
  same_line v l e =
      let some : ◌≡◌ {A = Option (Word × List Word)} (Some (v, l)) (Some (word, left)) = sym e ∙ line in
      let pair : ◌≡◌ {A = Word × List Word} (v, l) (word, left) = cc in
      (ap (λ (p : Word × List Word). p.0) pair, ap (λ (p : Word × List Word). p.1) pair)

  pub uncounted : count_of f.takes word ≡ None → Hears f words (Err Usage)
  uncounted none = λ d p.
      let l = lined f words d p in
      let same = same_line d.word (left_of l.items) l.line in
      let bad : Some d.count ≡ None = sym (counted f.takes d.word d.count l.tells.1) ∙ ap (count_of f.takes) same.0 ∙ none in
      absurd cc

  pub settings_end : (end : WordsEnd) → ReadsLeft f left (Err end) → Hears f words (Err end)
  settings_end NoMemory reads = tt
  settings_end Usage reads = λ d p.
      let l = lined f words d p in
      let same = same_line d.word (left_of l.items) l.line in
      reads l.items l.fits l.new same.1 d.numbers l.tells.2

  module _ (is : is_sound f ≡ true) (s : Settings) (reads : ReadsLeft f left (Ok s)) where
    names : IsSound f
    names = sound_parts f is

    pub numbers_end : (end : WordsEnd) → Lacks s f.options end → Hears f words (Err end)
    numbers_end NoMemory lacks = tt
    numbers_end Usage lacks = λ d p.
        let l = lined f words d p in
        let same = same_line d.word (left_of l.items) l.line in
        let has : HasSettings f l.items (Ok s) = reads l.items l.fits l.new same.1 in
        lacks_none s l.items f.options d.numbers (both _ _ names.named).0 has.0 l.tells.2 lacks.0 lacks.1.0 lacks.1.1 lacks.1.2 lacks.2

    pub told : (count : ℕ) (numbers : List (Word × ℕ)) (marks : List (Word × Bool)) → count_of f.takes word ≡ Some count
        → AreNumbersOf s f.options numbers → AreMarksOf s f.flags marks
        → Says f words (record { word = word; count = count; numbers = numbers; marks = marks })
    told count numbers marks is_count are given =
        let has : HasSettings f read.items (Ok s) = reads read.items read.fits read.new left_is in (
          read.items,
          words_are,
          read.fits,
          read.new,
          (
            read.one,
            counts f.takes word count is_count,
            numbers_set s read.items f.options numbers (both _ _ names.named).0 has.0 are,
            marks_are s read.items f.flags marks has.1 given,
          ),
        )

-- ---- all words

-- the words are taken so, and in no other way
abbrev pub IsTaken : List Word → Asked → Type 0
IsTaken words a = Taken words a × ((other : Asked) → Taken words other → other ≡ a)

pub is_taken : (words : List Word) (a : Asked) → Taken words a → IsTaken words a
is_taken words a t = (t, λ other o. taken_once words other a o t)

module _ (words rest : List Word) (name : Word) (begins : words ≡ name ∷ rest) where
  pub unnamed : row_named name ≡ None → (a : Asked) → Taken words a → ⊥
  unnamed none a t =
      let both : t.name ∷ t.rest ≡ name ∷ rest = sym t.begins ∙ begins in
      let names : t.name ≡ name = cc in
      let bad : Some t.row ≡ None = sym t.named ∙ ap row_named names ∙ none in
      absurd cc

  pub said_end : (f : Form) (end : WordsEnd) → row_named name ≡ Some f → Hears f rest (Err end) → Answers words (Err end)
  said_end f NoMemory named h = tt
  said_end f Usage named h = λ a t. h t.said (said_for words rest name f a begins named t).0

  pub said_taken : (f : Form) (d : Said) (a : Asked) → row_named name ≡ Some f → Says f rest d → a ≡ asked_by f.subcommand d → IsTaken words a
  said_taken f d a named says is = is_taken words a (record {
    name = name;
    rest = rest;
    row = f;
    said = d;
    begins = begins;
    named = named;
    says = says;
    is = is;
  })

pub no_words : (words : List Word) → words ≡ [] → (a : Asked) → Taken words a → ⊥
no_words words none a t =
    let bad : [] ≡ t.name ∷ t.rest = sym none ∙ t.begins in
    absurd cc

-- the name and the words behind it
pub begin : {A : Type 0} (words rest : List (String A)) (d : String A) (name : Word) → 1 ≤ length words → rest ≡ drop 1 words
    → name ≡ string_bytes (slice_index_or words 0 d) → map string_bytes words ≡ name ∷ map string_bytes rest
begin [] rest d name some is text = absurd (omega arith)
begin (x ∷ xs) rest d name some is text =
    let rests : map string_bytes rest ≡ map string_bytes xs = ap (map string_bytes) is in
    cc
