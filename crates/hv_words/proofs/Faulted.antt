-- The fault that clap has with the words that are left of items is that of their values.
use Rattle.std.proofs.Common.{◌≡◌, ◌∙◌, ◌&&◌, Bool, true, false, not, List, [], ◌∷◌, ◌++◌, map, drop, codes, sym, subst, ap, ap₂, refl}
use Rattle.std.specs.Prelude.{Some, None}
use Rattle.std.specs.List.{list_any}
use Rattle.clap.specs.Lexer.{long_of}
use Rattle.clap.specs.Walk.{Held, Row, Rule, Text, Walk, arg_by_long, finished, has_row, nothing_held, settled, takes_values, with_default}
use Rattle.clap.specs.Simple.{Shape, entered}
use Rattle.clap.specs.Takes.{is_given}
use Rattle.clap.specs.Faults.{built_fault, check_fault, defaults_fault, entered_fault, fault_of, react_fault, settle_fault, turn_fault, walk_fault}
use Rattle.clap.specs.Kinds.{Kinds, or_else}
use Rattle.std.specs.Str.{bytes_eq}
use Rattle.hv_words.specs.Taken.{AllFit, AreNew, Form, Item, Setting, Word, dashed, flag, is_among, is_number, positional}
use Rattle.hv_words.specs.Taken as taken
use Rattle.hv_words.specs.Settings.{left_of}
use Rattle.hv_words.specs.Reading.{app_by}
use Rattle.hv_words.specs.Rows.{is_name, is_named, setting_by}
use Rattle.hv_words.proofs.Rules.{fault_is, flag_full, full_of, full_rules, long_is, option_by_id, option_by_long, option_full, shape_by, whole_app}
use Rattle.hv_words.proofs.Walks.{IsPlain, Known, after, at, flag_found, items_fault, known_more, long_flag, named_word, option_found, option_step, flag_step, or_else-assoc, or_else-nil, over, plain_number, row_added, row_of, settled_option, value_fault, waits, walk_is, with_flag, with_option}

-- ---- one word

named_fault : (s : Shape) (h : Held) (word name : Text) (a : Rule) → bytes_eq word (45 ∷ 45 ∷ []) ≡ false → long_of word ≡ Some (name, None)
    → arg_by_long s.rules name ≡ Some a → takes_values a ≡ true
    → turn_fault s [] (at h) word ≡ settle_fault s.rules s.args_override_self h
named_fault s h word name a apart long found takes = rw (apart, long, found, takes) (or_else-nil (settle_fault s.rules s.args_override_self h))

flag_fault : (s : Shape) (h : Held) (word name : Text) (a : Rule) → bytes_eq word (45 ∷ 45 ∷ []) ≡ false → long_of word ≡ Some (name, None)
    → arg_by_long s.rules name ≡ Some a → takes_values a ≡ false
    → turn_fault s [] (at h) word ≡ react_fault s.rules s.args_override_self a [] h
flag_fault s h word name a apart long found takes = rw (apart, long, found, takes) (or_else-nil (react_fault s.rules s.args_override_self a [] h))

no_fault : (s : Shape) (h : Held) (id word : Text) → IsPlain word → turn_fault s [] (waits h id) word ≡ []
no_fault s h id word p = rw (p.apart, p.long, p.short) refl

module _ (f : Form) (named : is_named f ≡ true) where
  abbrev c : List Rule
  c = full_rules f

  abbrev s : Shape
  s = shape_by (full_rules f)

  abbrev settle : Held → Kinds
  settle h = settle_fault (full_rules f) false h

  two_words : (h : Held) (o : Setting) (value : Word) (rest : List Word) → is_name o.name ≡ true → is_number value ≡ true → setting_by f.options o.name ≡ Some o
      → walk_fault s [] (at h) (dashed o.name ∷ value ∷ rest) ≡ or_else (settle h) (walk_fault s [] (at (with_option c o.name value h)) rest)
  unfolding walk_fault
  two_words h o value rest name number first =
      let l = long_is o.name name in
      let long = option_by_long f.options f.flags o.name o first in
      let id = option_by_id f.options f.flags o.name o first in
      ap₂ or_else (named_fault s h (dashed o.name) o.name (option_full o) l.1 l.0 long refl)
      (ap₂ or_else
      (ap (λ w. turn_fault s [] w value) (named_word c h (dashed o.name) o.name (option_full o) l.1 l.0 long refl)
      ∙ no_fault s (record (settled c h) { pending = Some (o.name, []) }) o.name value (plain_number value number))
      (ap (λ w. walk_fault s [] w rest) (option_step c h o value name number long id)))

  one_word : (h : Held) (name : Word) (rest : List Word) → is_name name ≡ true → arg_by_long c name ≡ Some (flag_full name)
      → walk_fault s [] (at h) (dashed name ∷ rest) ≡ or_else (react_fault c false (flag_full name) [] h) (walk_fault s [] (at (with_flag c name h)) rest)
  unfolding walk_fault
  one_word h name rest is long =
      let l = long_is name is in
      ap₂ or_else (flag_fault s h (dashed name) name (flag_full name) l.1 l.0 long refl)
      (ap (λ w. walk_fault s [] w rest) (flag_step c h name is long))

  settle_option : (h : Held) (o : Setting) (value : Word) → setting_by f.options o.name ≡ Some o → has_row o.name (settled c h).rows ≡ false
      → settle (with_option c o.name value h) ≡ value_fault (setting_by f.options o.name) value
  settle_option h o value first none =
      rw (option_by_id f.options f.flags o.name o first, first, none) (or_else-nil (value_fault (Some o) value))

  react_flag : (h : Held) (name : Word) → has_row name (settled c h).rows ≡ false → react_fault c false (flag_full name) [] h ≡ settle h
  react_flag h name none = rw none (or_else-nil (settle h))

  abbrev total : Held → List Item → Kinds
  total h items = or_else (walk_fault s [] (at h) (left_of items)) (settle (after c h items))

  nothing_left : (h : Held) → total h [] ≡ or_else (settle h) []
  unfolding walk_fault
  nothing_left h = sym (or_else-nil (settle h))

  pub faults_are : (h : Held) (items : List Item) (before : List Word) → AllFit f items → AreNew before items → Known before (settled c h).rows
      → total h items ≡ or_else (settle h) (items_fault f.options items)
  faults_are h [] before fits new known = nothing_left h
  faults_are h (positional word ∷ items) before fits new known = faults_are h items before fits.1 new known
  faults_are h (taken.option name value ∷ items) before fits new known =
      let o = option_found f named name fits.0.0 in
      let fresh : is_among (dashed o.setting.name) before ≡ false = subst (λ n. is_among n before ≡ false) o.is new.0 in
      let none = known o.setting.name fresh in
      let step = settled_option f named h o.setting value o.first none in
      let later : AreNew (before ++ dashed o.setting.name ∷ []) items = subst (λ n. AreNew (before ++ n ∷ []) items) o.is new.1 in
      let more = known_more before (settled c h).rows o.setting.name value known in
      let next = with_option c o.setting.name value h in
      subst (λ n. or_else (walk_fault s [] (at h) (n ∷ value ∷ left_of items)) (settle (after c (with_option c (drop 2 n) value h) items))
      ≡ or_else (settle h) (or_else (value_fault (setting_by f.options (drop 2 n)) value) (items_fault f.options items))) (sym o.is)
      (ap (λ k. or_else k (settle (after c next items))) (two_words h o.setting value (left_of items) o.named fits.0.1 o.first)
      ∙ or_else-assoc (settle h) (walk_fault s [] (at next) (left_of items)) (settle (after c next items))
      ∙ ap (or_else (settle h))
      (faults_are next items (before ++ dashed o.setting.name ∷ []) fits.1 later (subst (Known (before ++ dashed o.setting.name ∷ [])) (sym step) more)
      ∙ ap (λ k. or_else k (items_fault f.options items)) (settle_option h o.setting value o.first none)))
  faults_are h (flag name ∷ items) before fits new known =
      let x = flag_found f named name fits.0.1 in
      let fresh : is_among (dashed x.name) before ≡ false = subst (λ n. is_among n before ≡ false) x.is new.0 in
      let none = known x.name fresh in
      let step : (settled c (with_flag c x.name h)).rows ≡ (settled c h).rows ++ row_of x.name (codes "true") ∷ [] = row_added x.name (codes "true") (settled c h).rows none in
      let later : AreNew (before ++ dashed x.name ∷ []) items = subst (λ n. AreNew (before ++ n ∷ []) items) x.is new.1 in
      let more = known_more before (settled c h).rows x.name (codes "true") known in
      let next = with_flag c x.name h in
      subst (λ n. or_else (walk_fault s [] (at h) (n ∷ left_of items)) (settle (after c (with_flag c (drop 2 n) h) items)) ≡ or_else (settle h) (items_fault f.options items)) (sym x.is)
      (ap (λ k. or_else k (settle (after c next items))) (one_word h x.name (left_of items) x.named (long_flag f named name x fits.0.0)
      ∙ ap (λ k. or_else k (walk_fault s [] (at next) (left_of items))) (react_flag h x.name none))
      ∙ or_else-assoc (settle h) (walk_fault s [] (at next) (left_of items)) (settle (after c next items))
      ∙ ap (or_else (settle h))
      (faults_are next items (before ++ dashed x.name ∷ []) fits.1 later (subst (Known (before ++ dashed x.name ∷ [])) (sym step) more)))

-- ---- after the walk

flags_pass : (rows : List Row) (flags : List Word) → defaults_fault rows (map flag_full flags) ≡ []
unfolding defaults_fault
flags_pass rows [] = refl
flags_pass rows (name ∷ flags) = go (has_row name rows) refl (flags_pass (with_default rows (flag_full name)) flags)
  where
    go : (b : Bool) → has_row name rows ≡ b → defaults_fault (with_default rows (flag_full name)) (map flag_full flags) ≡ [] → defaults_fault rows (map flag_full (name ∷ flags)) ≡ []
    go true h more = rw h (rw h at more)
    go false h more = rw h (rw h at more)

defaults_pass : (rows : List Row) (options : List Setting) (flags : List Word) → defaults_fault rows (full_of options flags) ≡ []
unfolding defaults_fault
defaults_pass rows [] flags = flags_pass rows flags
defaults_pass rows (o ∷ options) flags = go (has_row o.name rows) refl (defaults_pass (with_default rows (option_full o)) options flags)
  where
    go : (b : Bool) → has_row o.name rows ≡ b → defaults_fault (with_default rows (option_full o)) (full_of options flags) ≡ [] → defaults_fault rows (full_of (o ∷ options) flags) ≡ []
    go true h more = rw h (rw h at more)
    go false h more = rw h (rw h at more)

none_required : (rows : List Row) (options : List Setting) (flags : List Word) → list_any (λ a. a.required && not (is_given a.id rows)) (full_of options flags) ≡ false
none_required rows [] [] = refl
none_required rows [] (name ∷ flags) = none_required rows [] flags
none_required rows (o ∷ options) flags = none_required rows options flags

module _ (f : Form) (named : is_named f ≡ true) (items : List Item) (fits : AllFit f items) (new : AreNew [] items) where
  abbrev by_walk : Walk → Kinds
  by_walk w = or_else (walk_fault (shape_by (full_rules f)) [] (at nothing_held) (left_of items))
      (or_else (entered_fault (whole_app f) w.stopped)
      (or_else (settle_fault (full_rules f) false w.held)
      (or_else (defaults_fault (settled (full_rules f) w.held).rows (full_rules f))
      (check_fault (shape_by (full_rules f)) (finished (full_rules f) w.held) (Rattle.std.specs.Option.is_some (entered (whole_app f) w.stopped))))))

  pub fault_of_items : fault_of (app_by f) (left_of items) ≡ items_fault f.options items
  fault_of_items =
      let end = after (full_rules f) nothing_held items in
      let walk_end : over (full_rules f) (at nothing_held) (left_of items) ≡ at end = walk_is f named nothing_held items fits in
      let walked_end : built_fault (whole_app f) nothing_held (left_of items) ≡ by_walk (at end) = ap by_walk walk_end in
      let checked : check_fault (shape_by (full_rules f)) (finished (full_rules f) end) false ≡ [] = rw (none_required (finished (full_rules f) end) f.options f.flags) refl in
      let defaults = defaults_pass (settled (full_rules f) end).rows f.options f.flags in
      let totals = faults_are f named nothing_held items [] fits new (λ id e. refl) in
      fault_is f (left_of items) ∙ walked_end
      ∙ ap₂ (λ d k. or_else (walk_fault (shape_by (full_rules f)) [] (at nothing_held) (left_of items)) (or_else (settle_fault (full_rules f) false end) (or_else d k))) defaults checked
      ∙ ap (or_else (walk_fault (shape_by (full_rules f)) [] (at nothing_held) (left_of items))) (or_else-nil (settle_fault (full_rules f) false end))
      ∙ totals
