-- What clap's walk holds after the words that are left of items, and which fault it has.
use Rattle.std.proofs.Common.{◌≡◌, ◌∙◌, ◌&&◌, ◌||◌, ℕ, Bool, true, false, List, [], ◌∷◌, ◌++◌, drop, codes, sym, subst, ap, refl, true≢false, append_assoc, append-nil}
use Rattle.std.specs.Prelude.{◌==◌, Option, Some, None}
use Rattle.std.specs.List.{fold, list_all}
use Rattle.std.specs.Option.{option_map_or}
use Rattle.std.specs.Str.{bytes_eq}
use Rattle.clap.specs.Lexer.{long_of, short_of}
use Rattle.clap.specs.Walk.{Held, Row, Rule, Text, Walk, arg_by_id, arg_by_long, at_row, has_row, more_values, reacted, settled, takes_values, walk_from, walked, with_values, without, option}
use Rattle.clap.proofs.WalkLemmas.{both}
use Rattle.clap.specs.Kinds.{Kinds, or_else, value_kinds}
use Rattle.clap.specs.declared.builder.value_parser.Reading.TheVariants.{AsWritten}
use Rattle.clap.specs.declared.builder.value_parser.ValueParser.TheVariants.{Unsigned}
use Rattle.clap.specs.declared.parser.matches.ValueSource.TheVariants.{CommandLine}
use Rattle.hv_words.specs.Taken.{AllFit, AreNew, Form, Item, Setting, Word, dashed, flag, is_among, is_number, positional}
use Rattle.hv_words.specs.Taken as taken
use Rattle.hv_words.specs.Settings.{left_of}
use Rattle.hv_words.specs.Rows.{Names, is_name, is_named, setting_by}
use Rattle.hv_words.proofs.NumberLemmas.{by_digit, first_digit}
use Rattle.hv_words.proofs.Rules.{FlagAt, OptionAt, flag_at, flag_by_long, flag_full, full_rules, long_is, no_option, option_at, option_by_id, option_by_long, option_full, same_bytes, turned}

-- between two items
abbrev pub at : Held → Walk
at h = walk_from h

-- a value of this option may come
abbrev pub waits : Held → Text → Walk
waits h id = record (at h) { waiting = option id }

-- ---- one word

pub named_word : (c : List Rule) (h : Held) (word name : Text) (a : Rule) → bytes_eq word (45 ∷ 45 ∷ []) ≡ false → long_of word ≡ Some (name, None)
    → arg_by_long c name ≡ Some a → takes_values a ≡ true
    → walked c [] (at h) word ≡ waits (record (settled c h) { pending = Some (a.id, []) }) a.id
unfolding walked
named_word c h word name a apart long found takes = rw (apart, long, found, takes) refl

flag_word : (c : List Rule) (h : Held) (word name : Text) (a : Rule) → bytes_eq word (45 ∷ 45 ∷ []) ≡ false → long_of word ≡ Some (name, None)
    → arg_by_long c name ≡ Some a → takes_values a ≡ false
    → walked c [] (at h) word ≡ at (reacted c a [] h)
unfolding walked
flag_word c h word name a apart long found takes = rw (apart, long, found, takes) refl

-- a number word begins with no hyphen
pub record IsPlain (word : Text) : Type 0 where
  pub apart : bytes_eq word (45 ∷ 45 ∷ []) ≡ false
  pub long : long_of word ≡ None
  pub short : short_of word ≡ None

pub plain_number : (word : Word) → is_number word ≡ true → IsPlain word
plain_number [] e = absurd (true≢false (sym e))
plain_number (d ∷ ds) e =
    let first = first_digit d ds e in
    let other : (d == 45) ≡ false = by_digit (λ k. (k == 45) ≡ false) refl refl refl refl refl refl refl refl refl refl d first.0 first.1 in
    record { apart = rw other refl; long = rw other refl; short = rw other refl }

value_word : (c : List Rule) (rows : List Row) (skip : ℕ) (o : Setting) (word : Text) → IsPlain word → arg_by_id c o.name ≡ Some (option_full o)
    → walked c [] (waits (record { rows = rows; pending = Some (o.name, []); skip = skip }) o.name) word
    ≡ at (record { rows = rows; pending = Some (o.name, word ∷ []); skip = skip })
unfolding walked
value_word c rows skip o word p found = rw (p.apart, p.long, p.short, found, same_bytes o.name) refl

-- ---- what is held

module _ (c : List Rule) where
  -- after an option with its value
  abbrev pub with_option : Text → Word → Held → Held
  with_option name value h = record (settled c h) { pending = Some (name, value ∷ []) }

  -- after a flag
  abbrev pub with_flag : Text → Held → Held
  with_flag name h = reacted c (flag_full name) [] h

  abbrev pub after : Held → List Item → Held
  after h [] = h
  after h (positional word ∷ items) = after h items
  after h (taken.option name value ∷ items) = after (with_option (drop 2 name) value h) items
  after h (flag name ∷ items) = after (with_flag (drop 2 name) h) items

  abbrev pub over : Walk → List Text → Walk
  over w words = fold (walked c []) w words

  pub option_step : (h : Held) (o : Setting) (value : Word) → is_name o.name ≡ true → is_number value ≡ true
      → arg_by_long c o.name ≡ Some (option_full o) → arg_by_id c o.name ≡ Some (option_full o)
      → walked c [] (walked c [] (at h) (dashed o.name)) value ≡ at (with_option o.name value h)
  option_step h o value name number long id =
      let l = long_is o.name name in
      ap (λ w. walked c [] w value) (named_word c h (dashed o.name) o.name (option_full o) l.1 l.0 long refl)
      ∙ value_word c (settled c h).rows h.skip o value (plain_number value number) id

  pub flag_step : (h : Held) (name : Word) → is_name name ≡ true → arg_by_long c name ≡ Some (flag_full name)
      → walked c [] (at h) (dashed name) ≡ at (with_flag name h)
  flag_step h name is long =
      let l = long_is name is in
      flag_word c h (dashed name) name (flag_full name) l.1 l.0 long refl

-- ---- a row of the table

-- the rows of items, one for each option and each flag
abbrev pub row_of : Text → Text → Row
row_of id value = record { id = id; values = value ∷ []; count = None; source = Some CommandLine; reading = AsWritten }

abbrev pub rows_of : List Item → List Row
rows_of [] = []
rows_of (positional word ∷ items) = rows_of items
rows_of (taken.option name value ∷ items) = row_of (drop 2 name) value ∷ rows_of items
rows_of (flag name ∷ items) = row_of (drop 2 name) (codes "true") ∷ rows_of items

-- the fault of an option's value
abbrev pub value_fault : Option Setting → Word → Kinds
value_fault o value = option_map_or (λ s. value_kinds false (Unsigned s.least s.most) value) o []

abbrev pub items_fault : List Setting → List Item → Kinds
items_fault options [] = []
items_fault options (positional word ∷ items) = items_fault options items
items_fault options (taken.option name value ∷ items) = or_else (value_fault (setting_by options (drop 2 name)) value) (items_fault options items)
items_fault options (flag name ∷ items) = items_fault options items

-- ---- rows

pub not_there : (id : Text) (change : Row → List Row) (missing rows : List Row) → has_row id rows ≡ false → at_row id change missing rows ≡ rows ++ missing
not_there id change missing [] e = refl
not_there id change missing (r ∷ rows) e = go (not_there id change missing rows) (bytes_eq r.id id) refl
  where
    go : (has_row id rows ≡ false → at_row id change missing rows ≡ rows ++ missing) → (b : Bool) → bytes_eq r.id id ≡ b
        → at_row id change missing (r ∷ rows) ≡ r ∷ rows ++ missing
    go more true h =
        let bad = rw h at e in
        absurd (true≢false bad)
    go more false h =
        let rest = rw h at e in
        rw h (ap (λ rs. r ∷ rs) (more rest))

pub row_added : (id : Text) (value : Text) (rows : List Row) → has_row id rows ≡ false
    → with_values id AsWritten CommandLine (value ∷ []) (without id rows) ≡ rows ++ row_of id value ∷ []
row_added id value rows e =
    ap (with_values id AsWritten CommandLine (value ∷ [])) (not_there id (λ _. []) [] rows e ∙ append-nil rows) ∙ not_there id (more_values CommandLine (value ∷ [])) (row_of id value ∷ []) rows e

-- rows are of names that were given before
abbrev pub Known : List Word → List Row → Type 0
Known before rows = (id : Text) → is_among (dashed id) before ≡ false → has_row id rows ≡ false

either : (a b : Bool) → (a || b) ≡ false → (a ≡ false) × (b ≡ false)
either false b e = (refl, e)
either true b e = absurd (true≢false e)

neither : (a b : Bool) → a ≡ false → b ≡ false → (a || b) ≡ false
neither a b e f = rw e f

among_parts : (word last : Word) (xs : List Word) → is_among word (xs ++ last ∷ []) ≡ false → (is_among word xs ≡ false) × (bytes_eq word last ≡ false)
among_parts word last [] e = (refl, (either _ _ e).0)
among_parts word last (x ∷ xs) e =
    let p = either _ _ e in
    let r = among_parts word last xs p.1 in
    (neither _ _ p.0 r.0, r.1)

row_last : (id : Text) (r : Row) (rows : List Row) → has_row id rows ≡ false → bytes_eq r.id id ≡ false → has_row id (rows ++ r ∷ []) ≡ false
row_last id r [] e f = neither _ _ f refl
row_last id r (x ∷ rows) e f =
    let p = either _ _ e in
    neither _ _ p.0 (row_last id r rows p.1 f)

pub known_more : (before : List Word) (rows : List Row) (id value : Text) → Known before rows → Known (before ++ dashed id ∷ []) (rows ++ row_of id value ∷ [])
known_more before rows id value known other new =
    let p = among_parts (dashed other) (dashed id) before new in
    row_last other (row_of id value) rows (known other p.0) (turned id other ∙ p.1)

-- ---- all items

pub or_else-nil : (k : Kinds) → or_else k [] ≡ k
or_else-nil [] = refl
or_else-nil (k ∷ ks) = refl

pub or_else-assoc : (a b c : Kinds) → or_else (or_else a b) c ≡ or_else a (or_else b c)
or_else-assoc [] b c = refl
or_else-assoc (a ∷ rest) b c = refl

module _ (f : Form) (named : is_named f ≡ true) where
  abbrev c : List Rule
  c = full_rules f

  options_named : Names f.options ≡ true
  options_named = (both _ _ named).0

  flags_named : list_all is_name f.flags ≡ true
  flags_named = (both _ _ named).1

  pub option_found : (word : Word) → is_among word (taken.option_words f) ≡ true → OptionAt f.options word
  option_found word e = option_at f.options word options_named e

  pub flag_found : (word : Word) → is_among word (taken.flag_words f) ≡ true → FlagAt f.flags word
  flag_found word e = flag_at f.flags word flags_named e

  pub long_flag : (word : Word) (x : FlagAt f.flags word) → is_among word (taken.option_words f) ≡ false → arg_by_long c x.name ≡ Some (flag_full x.name)
  long_flag word x none =
      flag_by_long f.options f.flags x.name (no_option f.options x.name (subst (λ w. is_among w (taken.option_words f) ≡ false) x.is none)) x.known

  pub walk_is : (h : Held) (items : List Item) → AllFit f items → over c (at h) (left_of items) ≡ at (after c h items)
  walk_is h [] fits = refl
  walk_is h (positional word ∷ items) fits = walk_is h items fits.1
  walk_is h (taken.option name value ∷ items) fits =
      let o = option_found name fits.0.0 in
      subst (λ n. over c (at h) (n ∷ value ∷ left_of items) ≡ at (after c (with_option c (drop 2 n) value h) items)) (sym o.is)
      (ap (λ w. over c w (left_of items))
      (option_step c h o.setting value o.named fits.0.1 (option_by_long f.options f.flags _ _ o.first) (option_by_id f.options f.flags _ _ o.first))
      ∙ walk_is (with_option c o.setting.name value h) items fits.1)
  walk_is h (flag name ∷ items) fits =
      let x = flag_found name fits.0.1 in
      subst (λ n. over c (at h) (n ∷ left_of items) ≡ at (after c (with_flag c (drop 2 n) h) items)) (sym x.is)
      (ap (λ w. over c w (left_of items)) (flag_step c h x.name x.named (long_flag name x fits.0.0))
      ∙ walk_is (with_flag c x.name h) items fits.1)

  pub settled_option : (h : Held) (o : Setting) (value : Word) → setting_by f.options o.name ≡ Some o → has_row o.name (settled c h).rows ≡ false
      → (settled c (with_option c o.name value h)).rows ≡ (settled c h).rows ++ row_of o.name value ∷ []
  settled_option h o value first none =
      rw (option_by_id f.options f.flags o.name o first) (row_added o.name value (settled c h).rows none)

  pub rows_are : (h : Held) (items : List Item) (before : List Word) → AllFit f items → AreNew before items → Known before (settled c h).rows
      → (settled c (after c h items)).rows ≡ (settled c h).rows ++ rows_of items
  rows_are h [] before fits new known = sym (append-nil (settled c h).rows)
  rows_are h (positional word ∷ items) before fits new known = rows_are h items before fits.1 new known
  rows_are h (taken.option name value ∷ items) before fits new known =
      let o = option_found name fits.0.0 in
      let fresh : is_among (dashed o.setting.name) before ≡ false = subst (λ n. is_among n before ≡ false) o.is new.0 in
      let step = settled_option h o.setting value o.first (known o.setting.name fresh) in
      let later : AreNew (before ++ dashed o.setting.name ∷ []) items = subst (λ n. AreNew (before ++ n ∷ []) items) o.is new.1 in
      let more = known_more before (settled c h).rows o.setting.name value known in
      subst (λ n. (settled c (after c (with_option c (drop 2 n) value h) items)).rows ≡ (settled c h).rows ++ row_of (drop 2 n) value ∷ rows_of items) (sym o.is)
      (rows_are (with_option c o.setting.name value h) items (before ++ dashed o.setting.name ∷ []) fits.1 later
      (subst (Known (before ++ dashed o.setting.name ∷ [])) (sym step) more)
      ∙ ap (λ rs. rs ++ rows_of items) step ∙ simp append_assoc)
  rows_are h (flag name ∷ items) before fits new known =
      let x = flag_found name fits.0.1 in
      let fresh : is_among (dashed x.name) before ≡ false = subst (λ n. is_among n before ≡ false) x.is new.0 in
      let step : (settled c (with_flag c x.name h)).rows ≡ (settled c h).rows ++ row_of x.name (codes "true") ∷ [] = row_added x.name (codes "true") (settled c h).rows (known x.name fresh) in
      let later : AreNew (before ++ dashed x.name ∷ []) items = subst (λ n. AreNew (before ++ n ∷ []) items) x.is new.1 in
      let more = known_more before (settled c h).rows x.name (codes "true") known in
      subst (λ n. (settled c (after c (with_flag c (drop 2 n) h) items)).rows ≡ (settled c h).rows ++ row_of (drop 2 n) (codes "true") ∷ rows_of items) (sym x.is)
      (rows_are (with_flag c x.name h) items (before ++ dashed x.name ∷ []) fits.1 later
      (subst (Known (before ++ dashed x.name ∷ [])) (sym step) more)
      ∙ ap (λ rs. rs ++ rows_of items) step ∙ simp append_assoc)
