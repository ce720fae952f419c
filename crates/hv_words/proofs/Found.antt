-- What is found for a name after the words that are left of items.
use Rattle.std.proofs.Common.{◌≡◌, ◌∙◌, ◌||◌, Bool, true, false, cond, List, [], ◌∷◌, ◌++◌, map, drop, codes, sym, subst, ap, refl, true≢false}
use Rattle.std.specs.Prelude.{Option, Some, None, find, option_and_then}
use Rattle.std.specs.List.{fold}
use Rattle.std.specs.Option.{is_some}
use Rattle.std.specs.Str.{bytes_eq}
use Rattle.clap.specs.Walk.{Row, Text, has_row, more_values, nothing_held, one_of, row_text, settled, with_default}
use Rattle.clap.specs.Simple.{matches_of}
use Rattle.clap.specs.declared.builder.value_parser.Reading.TheVariants.{AsWritten}
use Rattle.clap.specs.declared.parser.matches.ValueSource.TheVariants.{DefaultValue}
use Rattle.hv_words.specs.Taken.{AllFit, AreNew, Form, Item, Setting, Word, dashed, flag, flag_words, has_flag, is_among, option_words, positional, value_of}
use Rattle.hv_words.specs.Taken as taken
use Rattle.hv_words.specs.Settings.{flag_text, left_of}
use Rattle.hv_words.specs.Reading.{app_by}
use Rattle.hv_words.specs.Rows.{is_named}
use Rattle.hv_words.proofs.Rules.{flag_full, full_of, full_rules, matches_are, option_full, same_word, turned}
use Rattle.hv_words.proofs.Walks.{after, at, flag_found, not_there, option_found, over, row_of, rows_are, walk_is}
use Rattle.hv_words.proofs.Walks as walks

-- ---- the row of a name

abbrev pub look : Text → List Row → Option Row
look id rows = find (λ r. bytes_eq r.id id) rows

abbrev pub row_or : Option Row → Option Row → Option Row
row_or (Some r) other = Some r
row_or None other = other

has_is : (id : Text) (rows : List Row) → has_row id rows ≡ is_some (look id rows)
has_is id [] = refl
has_is id (r ∷ rows) = go (bytes_eq r.id id) (has_is id rows)
  where
    go : (b : Bool) → has_row id rows ≡ is_some (look id rows) → (b || has_row id rows) ≡ is_some (cond b (Some r) (look id rows))
    go true e = refl
    go false e = e

look_last : (id : Text) (r : Row) (rows : List Row) → look id (rows ++ r ∷ []) ≡ row_or (look id rows) (cond (bytes_eq r.id id) (Some r) None)
look_last id r [] = refl
look_last id r (x ∷ rows) = go (bytes_eq x.id id) (look_last id r rows)
  where
    go : (b : Bool) → look id (rows ++ r ∷ []) ≡ row_or (look id rows) (cond (bytes_eq r.id id) (Some r) None)
        → cond b (Some x) (look id (rows ++ r ∷ [])) ≡ row_or (cond b (Some x) (look id rows)) (cond (bytes_eq r.id id) (Some r) None)
    go true e = refl
    go false e = e

-- ---- defaults

abbrev pub unset_row : Text → Row
unset_row id = record { id = id; values = codes "false" ∷ []; count = None; source = Some DefaultValue; reading = AsWritten }

row_there : (o p : Option Row) → is_some o ≡ true → row_or o p ≡ o
row_there (Some r) p e = refl
row_there None p e = absurd (true≢false (sym e))

row_or-none : (o : Option Row) → row_or o None ≡ o
row_or-none (Some r) = refl
row_or-none None = refl

option_kept : (rows : List Row) (o : Setting) → with_default rows (option_full o) ≡ rows
option_kept rows o = go (has_row o.name rows) refl
  where
    go : (b : Bool) → has_row o.name rows ≡ b → with_default rows (option_full o) ≡ rows
    go true h = rw h refl
    go false h = rw h refl

unset_added : (id : Text) (rows : List Row) (name : Text) (b c : Bool) → has_row name rows ≡ b → bytes_eq name id ≡ c
    → look id (with_default rows (flag_full name)) ≡ row_or (look id rows) (cond (bytes_eq name id) (Some (unset_row name)) None)
unset_added id rows name true true there same =
    let is = same_word name id same in
    let some : is_some (look id rows) ≡ true = sym (has_is id rows) ∙ (sym (ap (λ n. has_row n rows) is) ∙ there) in
    rw there (sym (row_there (look id rows) (cond (bytes_eq name id) (Some (unset_row name)) None) some))
unset_added id rows name true false there other = rw (there, other) (sym (row_or-none (look id rows)))
unset_added id rows name false c none same =
    rw none (ap (look id) (not_there name (more_values DefaultValue (codes "false" ∷ [])) (unset_row name ∷ []) rows none) ∙ look_last id (unset_row name) rows)

row_twice : (o : Option Row) (r : Row) (p : Option Row) → row_or (row_or o (Some r)) p ≡ row_or o (Some r)
row_twice (Some x) r p = refl
row_twice None r p = refl

flags_look : (id : Text) (flags : List Word) (rows : List Row)
    → look id (fold with_default rows (map flag_full flags)) ≡ row_or (look id rows) (cond (is_among id flags) (Some (unset_row id)) None)
flags_look id [] rows = sym (row_or-none (look id rows))
flags_look id (name ∷ flags) rows =
    flags_look id flags (with_default rows (flag_full name))
    ∙ ap (λ o. row_or o (cond (is_among id flags) (Some (unset_row id)) None)) (unset_added id rows name (has_row name rows) (bytes_eq name id) refl refl)
    ∙ go (bytes_eq name id) refl
  where
    go : (b : Bool) → bytes_eq name id ≡ b
        → row_or (row_or (look id rows) (cond (bytes_eq name id) (Some (unset_row name)) None)) (cond (is_among id flags) (Some (unset_row id)) None)
        ≡ row_or (look id rows) (cond (bytes_eq id name || is_among id flags) (Some (unset_row id)) None)
    go true h =
        let back : bytes_eq id name ≡ true = turned id name ∙ h in
        let is = same_word name id h in
        rw (h, back) (row_twice (look id rows) (unset_row name) (cond (is_among id flags) (Some (unset_row id)) None) ∙ ap (λ n. row_or (look id rows) (Some (unset_row n))) is)
    go false h =
        let back : bytes_eq id name ≡ false = turned id name ∙ h in
        rw (h, back) (ap (λ o. row_or o (cond (is_among id flags) (Some (unset_row id)) None)) (row_or-none (look id rows)))

all_look : (id : Text) (options : List Setting) (flags : List Word) (rows : List Row)
    → look id (fold with_default rows (full_of options flags)) ≡ row_or (look id rows) (cond (is_among id flags) (Some (unset_row id)) None)
all_look id [] flags rows = flags_look id flags rows
all_look id (o ∷ options) flags rows = ap (λ rs. look id (fold with_default rs (full_of options flags))) (option_kept rows o) ∙ all_look id options flags rows

-- ---- items

abbrev pub text_of : Option Row → Option Text
text_of o = option_and_then row_text o

module _ (f : Form) (named : is_named f ≡ true) where
  pub option_text : (name : Word) (items : List Item) → is_among (dashed name) (option_words f) ≡ true → AllFit f items
      → text_of (look name (walks.rows_of items)) ≡ value_of (dashed name) items
  option_text name [] known fits = refl
  option_text name (positional word ∷ items) known fits = option_text name items known fits.1
  option_text name (taken.option n value ∷ items) known fits =
      let o = option_found f named n fits.0.0 in
      let more = option_text name items known fits.1 in
      subst (λ w. text_of (look name (row_of (drop 2 w) value ∷ walks.rows_of items)) ≡ value_of (dashed name) (taken.option w value ∷ items)) (sym o.is)
      (go o.setting.name (bytes_eq o.setting.name name) more)
    where
      go : (own : Word) (b : Bool) → text_of (look name (walks.rows_of items)) ≡ value_of (dashed name) items
          → text_of (cond b (Some (row_of own value)) (look name (walks.rows_of items))) ≡ cond b (Some value) (value_of (dashed name) items)
      go own true e = refl
      go own false e = e
  option_text name (flag n ∷ items) known fits =
      let x = flag_found f named n fits.0.1 in
      let none : is_among (dashed x.name) (option_words f) ≡ false = subst (λ w. is_among w (option_words f) ≡ false) x.is fits.0.0 in
      subst (λ w. text_of (look name (row_of (drop 2 w) (codes "true") ∷ walks.rows_of items)) ≡ value_of (dashed name) items) (sym x.is)
      (go x.name (bytes_eq x.name name) refl none (option_text name items known fits.1))
    where
      go : (own : Word) (b : Bool) → bytes_eq own name ≡ b → is_among (dashed own) (option_words f) ≡ false
          → text_of (look name (walks.rows_of items)) ≡ value_of (dashed name) items
          → text_of (look name (row_of own (codes "true") ∷ walks.rows_of items)) ≡ value_of (dashed name) items
      go own true h none e = absurd (true≢false (sym known ∙ (sym (ap (λ w. is_among (dashed w) (option_words f)) (same_word own name h)) ∙ none)))
      go own false h none e = rw h e

  pub flag_text_is : (name : Word) (items : List Item) → is_among (dashed name) (option_words f) ≡ false → AllFit f items
      → text_of (row_or (look name (walks.rows_of items)) (Some (unset_row name))) ≡ Some (flag_text (has_flag (dashed name) items))
  flag_text_is name [] none fits = refl
  flag_text_is name (positional word ∷ items) none fits = flag_text_is name items none fits.1
  flag_text_is name (taken.option n value ∷ items) none fits =
      let o = option_found f named n fits.0.0 in
      let known : is_among (dashed o.setting.name) (option_words f) ≡ true = subst (λ w. is_among w (option_words f) ≡ true) o.is fits.0.0 in
      subst (λ w. text_of (row_or (look name (row_of (drop 2 w) value ∷ walks.rows_of items)) (Some (unset_row name))) ≡ Some (flag_text (has_flag (dashed name) items))) (sym o.is)
      (go o.setting.name (bytes_eq o.setting.name name) refl known (flag_text_is name items none fits.1))
    where
      go : (own : Word) (b : Bool) → bytes_eq own name ≡ b → is_among (dashed own) (option_words f) ≡ true
          → text_of (row_or (look name (walks.rows_of items)) (Some (unset_row name))) ≡ Some (flag_text (has_flag (dashed name) items))
          → text_of (row_or (look name (row_of own value ∷ walks.rows_of items)) (Some (unset_row name))) ≡ Some (flag_text (has_flag (dashed name) items))
      go own true h known e = absurd (true≢false (sym known ∙ (ap (λ w. is_among (dashed w) (option_words f)) (same_word own name h) ∙ none)))
      go own false h known e = rw h e
  flag_text_is name (flag n ∷ items) none fits =
      let x = flag_found f named n fits.0.1 in
      subst (λ w. text_of (row_or (look name (row_of (drop 2 w) (codes "true") ∷ walks.rows_of items)) (Some (unset_row name))) ≡ Some (flag_text (has_flag (dashed name) (flag w ∷ items)))) (sym x.is)
      (go x.name (bytes_eq x.name name) (flag_text_is name items none fits.1))
    where
      go : (own : Word) (b : Bool) → text_of (row_or (look name (walks.rows_of items)) (Some (unset_row name))) ≡ Some (flag_text (has_flag (dashed name) items))
          → text_of (row_or (cond b (Some (row_of own (codes "true"))) (look name (walks.rows_of items))) (Some (unset_row name)))
          ≡ Some (flag_text (b || has_flag (dashed name) items))
      go own true e = refl
      go own false e = e

  -- ---- the matches

  module _ (items : List Item) (fits : AllFit f items) (new : AreNew [] items) where
    rows_end : matches_of (app_by f) (left_of items) ≡ fold with_default (walks.rows_of items) (full_rules f)
    rows_end =
        matches_are f (left_of items)
        ∙ ap (λ w. fold with_default (settled (full_rules f) w.held).rows (full_rules f)) (walk_is f named nothing_held items fits)
        ∙ ap (λ rs. fold with_default rs (full_rules f)) (rows_are f named nothing_held items [] fits new (λ id e. refl))

    pub option_read : (name : Word) → is_among (dashed name) (option_words f) ≡ true → is_among name f.flags ≡ false
        → one_of name (matches_of (app_by f) (left_of items)) ≡ value_of (dashed name) items
    option_read name known apart =
        ap (one_of name) rows_end
        ∙ ap text_of (all_look name f.options f.flags (walks.rows_of items)
        ∙ ap (λ b. row_or (look name (walks.rows_of items)) (cond b (Some (unset_row name)) None)) apart ∙ row_or-none (look name (walks.rows_of items)))
        ∙ option_text name items known fits

    pub flag_read : (name : Word) → is_among (dashed name) (option_words f) ≡ false → is_among name f.flags ≡ true
        → one_of name (matches_of (app_by f) (left_of items)) ≡ Some (flag_text (has_flag (dashed name) items))
    flag_read name none known =
        ap (one_of name) rows_end
        ∙ ap text_of (all_look name f.options f.flags (walks.rows_of items)
        ∙ ap (λ b. row_or (look name (walks.rows_of items)) (cond b (Some (unset_row name)) None)) known)
        ∙ flag_text_is name items none fits
