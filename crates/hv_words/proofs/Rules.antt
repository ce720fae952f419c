-- The arguments of a row of the table as clap finds them.
use Rattle.std.proofs.Common.{◌≡◌, ◌∙◌, ◌&&◌, ◌||◌, ◌^◌, Bool, true, false, not, List, [], ◌∷◌, ◌++◌, map, length, sym, ap, refl, true≢false, append_assoc, append-nil}
use Rattle.std.specs.Prelude.{◌==◌, Option, Some, None, find, nat_lt}
use Rattle.std.specs.List.{before_first, list_all}
use Rattle.std.specs.Str.{bytes_eq}
use Rattle.std.specs.Cmp.Lexicographic.{nat_list_eq_equiv}
use Rattle.std.proofs.lemmas.Slice.Eq.{bytes_eq-Decides}
use Rattle.clap.specs.Lexer.{has_byte, long_of}
use Rattle.clap.specs.Faults.{built_fault, fault_of}
use Rattle.clap.specs.Walk.{Rule, Text, arg_by_id, arg_by_long, nothing_held, rows_after}
use Rattle.clap.specs.Simple.{App, Shape, built, filled, filled_from, matches_of, on_top, with_index, with_rule}
use Rattle.clap.proofs.SimpleLemmas.{is_false}
use Rattle.clap.proofs.WalkLemmas.{both}
use Rattle.hv_words.specs.Taken.{Form, Setting, Word, dashed, is_among}
use Rattle.hv_words.specs.Rows.{Names, is_name, setting_by}
use Rattle.hv_words.specs.Reading.{app_by, bare_app, flag_rule, option_rule, rules_of, with_rules}

-- ---- words

pub same_bytes : (a : Word) → bytes_eq a a ≡ true
same_bytes a = (bytes_eq-Decides a a).1 refl

pub same_word : (a b : Word) → bytes_eq a b ≡ true → a ≡ b
same_word a b e = (bytes_eq-Decides a b).0 e

pub turned : (a b : Word) → bytes_eq a b ≡ bytes_eq b a
turned a b = nat_list_eq_equiv.symm a b

pub long_is : (name : Word) → is_name name ≡ true → (long_of (dashed name) ≡ Some (name, None)) × (bytes_eq (dashed name) (45 ∷ 45 ∷ []) ≡ false)
long_is [] e = absurd (true≢false (sym e))
long_is (x ∷ xs) e =
    let k = both _ _ e in
    let m = both _ _ k.1 in
    let none : has_byte 61 (x ∷ xs) ≡ false = is_false _ m.0 in
    let same : before_first (λ x. x == 61) (x ∷ xs) ≡ x ∷ xs = same_word _ _ m.1 in
    (rw (none, same) refl, refl)

-- ---- the arguments with what they left out

abbrev pub option_full : Setting → Rule
option_full s = with_index 1 (filled (option_rule s))

abbrev pub flag_full : Word → Rule
flag_full name = with_index 1 (filled (flag_rule name))

abbrev pub full_of : List Setting → List Word → List Rule
full_of options flags = map option_full options ++ map flag_full flags

abbrev pub full_rules : Form → List Rule
full_rules f = full_of f.options f.flags

flags_filled : (flags : List Word) → filled_from 1 (map flag_rule flags) ≡ map flag_full flags
flags_filled [] = refl
flags_filled (name ∷ flags) = ap (λ rs. flag_full name ∷ rs) (flags_filled flags)

all_filled : (options : List Setting) (flags : List Word) → filled_from 1 (map option_rule options ++ map flag_rule flags) ≡ full_of options flags
all_filled [] flags = flags_filled flags
all_filled (o ∷ options) flags = ap (λ rs. option_full o ∷ rs) (all_filled options flags)

abbrev with_all : App → List Rule → App
with_all a rules = on_top (λ s. record s { rules = s.rules ++ rules }) a

all_added : (a : App) (rules : List Rule) → with_rules a rules ≡ with_all a rules
all_added a [] = ap (λ rs. on_top (λ s. record s { rules = rs }) a) (sym (append-nil a.top.rules))
all_added a (r ∷ rules) = all_added (with_rule a r) rules ∙ ap (λ rs. on_top (λ s. record s { rules = rs }) a) (simp append_assoc)

pub all_more : (a : App) (xs ys : List Rule) → with_rules (with_rules a xs) ys ≡ with_rules a (xs ++ ys)
all_more a [] ys = refl
all_more a (x ∷ xs) ys = all_more (with_rule a x) xs ys

-- what a parse reads of the command
abbrev pub shape_by : List Rule → Shape
shape_by rules = record {
  name = bare_app.top.name;
  aliases = [];
  rules = rules;
  is_plain = true;
  is_leaf = true;
  no_binary_name = true;
  disable_help_flag = true;
  disable_help_subcommand = true;
  disable_version_flag = false;
  propagate_version = false;
  has_version = false;
  has_long_version = false;
  args_override_self = false;
  arg_required_else_help = false;
  subcommand_required = false;
  subcommand_negates_reqs = false;
  is_built = true;
}

abbrev pub whole_app : Form → App
whole_app f = record { top = shape_by (full_rules f); subs = [] }

pub built_is : (f : Form) → built (app_by f) ≡ whole_app f
unfolding app_by
built_is f =
    ap built (all_added bare_app (rules_of f)) ∙ ap (λ rs. record { top = shape_by rs; subs = [] }) (all_filled f.options f.flags)

pub fault_is : (f : Form) (words : List Text) → fault_of (app_by f) words ≡ built_fault (whole_app f) nothing_held words
unfolding app_by
fault_is f words =
    ap (λ a. fault_of a words) (all_added bare_app (rules_of f))
    ∙ ap (λ rs. built_fault (record { top = shape_by rs; subs = [] }) nothing_held words) (all_filled f.options f.flags)

pub matches_are : (f : Form) (words : List Text) → matches_of (app_by f) words ≡ rows_after (full_rules f) [] words
unfolding app_by
matches_are f words =
    ap (λ a. matches_of a words) (all_added bare_app (rules_of f)) ∙ ap (λ rs. rows_after rs [] words) (all_filled f.options f.flags)

-- ---- the arguments by their names

pub option_by_long : (options : List Setting) (flags : List Word) (name : Word) (o : Setting) → setting_by options name ≡ Some o
    → arg_by_long (full_of options flags) name ≡ Some (option_full o)
option_by_long [] flags name o e = absurd cc
option_by_long (x ∷ options) flags name o e = go (option_by_long options flags name o) (bytes_eq x.name name) refl
  where
    go : (setting_by options name ≡ Some o → arg_by_long (full_of options flags) name ≡ Some (option_full o)) → (b : Bool) → bytes_eq x.name name ≡ b → arg_by_long (full_of (x ∷ options) flags) name ≡ Some (option_full o)
    go more true h =
        let found = rw h at e in
        let is : x ≡ o = cc in
        rw h (ap (λ s. Some (option_full s)) is)
    go more false h =
        let rest = rw h at e in
        rw h (more rest)

pub option_by_id : (options : List Setting) (flags : List Word) (name : Word) (o : Setting) → setting_by options name ≡ Some o
    → arg_by_id (full_of options flags) name ≡ Some (option_full o)
option_by_id [] flags name o e = absurd cc
option_by_id (x ∷ options) flags name o e = go (option_by_id options flags name o) (bytes_eq x.name name) refl
  where
    go : (setting_by options name ≡ Some o → arg_by_id (full_of options flags) name ≡ Some (option_full o)) → (b : Bool) → bytes_eq x.name name ≡ b → arg_by_id (full_of (x ∷ options) flags) name ≡ Some (option_full o)
    go more true h =
        let found = rw h at e in
        let is : x ≡ o = cc in
        rw h (ap (λ s. Some (option_full s)) is)
    go more false h =
        let rest = rw h at e in
        rw h (more rest)

flag_alone : (flags : List Word) (name : Word) → is_among name flags ≡ true → arg_by_long (map flag_full flags) name ≡ Some (flag_full name)
flag_alone [] name e = absurd (true≢false (sym e))
flag_alone (x ∷ flags) name e = go (flag_alone flags name) (bytes_eq x name) refl
  where
    go : (is_among name flags ≡ true → arg_by_long (map flag_full flags) name ≡ Some (flag_full name)) → (b : Bool) → bytes_eq x name ≡ b
        → arg_by_long (map flag_full (x ∷ flags)) name ≡ Some (flag_full name)
    go more true h = rw h (ap (λ n. Some (flag_full n)) (same_word x name h))
    go more false h =
        let other : bytes_eq name x ≡ false = turned name x ∙ h in
        let rest = rw other at e in
        rw h (more rest)

pub flag_by_long : (options : List Setting) (flags : List Word) (name : Word) → setting_by options name ≡ None → is_among name flags ≡ true
    → arg_by_long (full_of options flags) name ≡ Some (flag_full name)
flag_by_long [] flags name e known = flag_alone flags name known
flag_by_long (x ∷ options) flags name e known = go (λ none. flag_by_long options flags name none known) (bytes_eq x.name name) refl
  where
    go : (setting_by options name ≡ None → arg_by_long (full_of options flags) name ≡ Some (flag_full name)) → (b : Bool) → bytes_eq x.name name ≡ b
        → arg_by_long (full_of (x ∷ options) flags) name ≡ Some (flag_full name)
    go more true h =
        let found = rw h at e in
        absurd cc
    go more false h =
        let rest = rw h at e in
        rw h (more rest)

-- ---- words of items, by the table

-- the option that a word gives
pub record OptionAt (options : List Setting) (word : Word) : Type 0 where
  pub setting : Setting
  pub is : word ≡ dashed setting.name
  pub first : setting_by options setting.name ≡ Some setting
  pub named : is_name setting.name ≡ true
  pub bounded : nat_lt setting.most (2 ^ 64) ≡ true

pub option_at : (options : List Setting) (word : Word) → Names options ≡ true → is_among word (map (λ o. dashed o.name) options) ≡ true → OptionAt options word
option_at [] word names e = absurd (true≢false (sym e))
option_at (x ∷ options) word names e = go (option_at options word (both _ _ names).1) (bytes_eq word (dashed x.name)) refl
  where
    go : (is_among word (map (λ o. dashed o.name) options) ≡ true → OptionAt options word) → (b : Bool) → bytes_eq word (dashed x.name) ≡ b → OptionAt (x ∷ options) word
    go more true h = record {
      setting = x;
      is = same_word _ _ h;
      first = rw (same_bytes x.name) refl;
      named = (both _ _ (both _ _ names).0).0;
      bounded = (both _ _ (both _ _ names).0).1;
    }
    go more false h =
        let rest = rw h at e in
        let r = more rest in
        let other : bytes_eq x.name r.setting.name ≡ false = turned x.name r.setting.name ∙ (sym (ap (λ w. bytes_eq w (dashed x.name)) r.is) ∙ h) in
        record {
          setting = r.setting;
          is = r.is;
          first = rw other r.first;
          named = r.named;
          bounded = r.bounded;
        }

pub no_option : (options : List Setting) (name : Word) → is_among (dashed name) (map (λ o. dashed o.name) options) ≡ false → setting_by options name ≡ None
no_option [] name e = refl
no_option (x ∷ options) name e = go (no_option options name) (bytes_eq name x.name) refl
  where
    go : (is_among (dashed name) (map (λ o. dashed o.name) options) ≡ false → setting_by options name ≡ None) → (b : Bool) → bytes_eq name x.name ≡ b
        → setting_by (x ∷ options) name ≡ None
    go more true h =
        let bad = rw h at e in
        absurd (true≢false bad)
    go more false h =
        let rest = rw h at e in
        let other : bytes_eq x.name name ≡ false = turned x.name name ∙ h in
        rw other (more rest)

-- the flag that a word gives
pub record FlagAt (flags : List Word) (word : Word) : Type 0 where
  pub name : Word
  pub is : word ≡ dashed name
  pub known : is_among name flags ≡ true
  pub named : is_name name ≡ true

pub flag_at : (flags : List Word) (word : Word) → list_all is_name flags ≡ true → is_among word (map dashed flags) ≡ true → FlagAt flags word
flag_at [] word names e = absurd (true≢false (sym e))
flag_at (x ∷ flags) word names e = go (flag_at flags word (both _ _ names).1) (bytes_eq word (dashed x)) refl
  where
    among : {c : Bool} (b : Bool) → c ≡ true → (b || c) ≡ true
    among true k = refl
    among false k = k

    go : (is_among word (map dashed flags) ≡ true → FlagAt flags word) → (b : Bool) → bytes_eq word (dashed x) ≡ b → FlagAt (x ∷ flags) word
    go more true h = record {
      name = x;
      is = same_word _ _ h;
      known = rw (same_bytes x) refl;
      named = (both _ _ names).0;
    }
    go more false h =
        let rest = rw h at e in
        let r = more rest in
        record { name = r.name; is = r.is; known = among (bytes_eq r.name x) r.known; named = r.named }
