-- From what clap found to the settings.
use Rattle.std.proofs.Common.{◌≡◌, ◌∙◌, ◌&&◌, ◌≤◌, ◌^◌, ◌<◌, ℕ, Bool, true, false, not, List, [], ◌∷◌, ◌++◌, append-nil, drop, map, length, sym, subst, ap, ap₂, refl, arith, inl, inr, true≢false, ltb-true, zero, suc}
use Rattle.std.specs.Prelude.{◌==◌, Option, Some, None, find, Result, Ok, Err}
use Rattle.std.specs.List.{list_all, slice_index_or}
use Rattle.std.specs.Option.{option_map_or, option_or}
use Rattle.std.specs.Str.{bytes_eq}
use Rattle.std.specs.Str.Parse.{ParsesUnsigned}
use Rattle.std.proofs.lemmas.Bool.{eqb-true}
use Rattle.std.proofs.lemmas.List.{drop_all}
use Rattle.clap.specs.Walk.{one_of}
use Rattle.clap.specs.Simple.{App, HasMatchesOf, is_simple, matches_of}
use Rattle.clap.specs.Matches.{ReadsOne, found_of}
use Rattle.clap.specs.Faults.{fault_of, is_simple_and_free}
use Rattle.clap.specs.Kinds.{HasKind, Kinds}
use Rattle.clap.specs.Values.{kind_of}
use Rattle.clap.specs.declared.error.Error.{Error}
use Rattle.clap.specs.declared.error.kind.ErrorKind.TheVariants.{OutOfMemory}
use Rattle.clap.proofs.OnLiterals.{clap_on_literals}
use Rattle.clap.proofs.SimpleLemmas.{is_false}
use Rattle.clap.proofs.WalkLemmas.{both, one_text-rows}
use Rattle.hv_words.specs.Taken.{AllFit, AreNew, Form, Item, Setting, SetsEach, SetsTo, Word, dashed, has_flag, is_among, is_number, mark_of, number_of, option_words, row_named, table, value_of}
use Rattle.hv_words.specs.Settings.{AreMarksOf, AreNumbersOf, HasFlags, HasOptions, HasSettings, IsInRange, IsNumberOf, left_of, text_at}
use Rattle.hv_words.specs.Reading.{app_by, end_by}
use Rattle.hv_words.specs.declared.order.WordsEnd.{WordsEnd}
use Rattle.hv_words.specs.declared.order.WordsEnd.TheVariants.{Usage, NoMemory}
use Rattle.hv_words.specs.declared.settings.Settings.{Settings}
use Rattle.hv_words.specs.Rows.{Names, is_apart, is_flag, is_named, is_own, is_same_number, is_same_setting, is_sound, setting_by}
use Rattle.hv_words.proofs.Faulted.{fault_of_items}
use Rattle.hv_words.proofs.Found.{flag_read, option_read}
use Rattle.hv_words.proofs.NumberLemmas.{number_read}
use Rattle.hv_words.proofs.Ranges.{InRanges, in_range_without_fault, no_fault_in_range, ranges_of}
use Rattle.hv_words.proofs.Rules.{same_word}

-- ---- tests of a row of the table

pub record IsSound (f : Form) : Type 0 where
  pub named : is_named f ≡ true
  pub apart : is_apart f ≡ true
  pub free : is_simple_and_free (app_by f) ≡ true

pub sound_parts : (f : Form) → is_sound f ≡ true → IsSound f
sound_parts f e =
    let k = both (is_named f) (is_apart f && is_simple_and_free (app_by f)) e in
    let m = both (is_apart f) (is_simple_and_free (app_by f)) k.1 in
    record { named = k.0; apart = m.0; free = m.1 }

-- every row of the table passes
rows_sound : list_all is_sound table ≡ true
unfolding app_by clap_on_literals
rows_sound = refl

found_passes : (p q : Form → Bool) (rows : List Form) (f : Form) → find p rows ≡ Some f → list_all q rows ≡ true → q f ≡ true
found_passes p q [] f e all = absurd cc
found_passes p q (x ∷ rows) f e all = go (p x) refl (found_passes p q rows f)
  where
    go : (b : Bool) → p x ≡ b → (find p rows ≡ Some f → list_all q rows ≡ true → q f ≡ true) → q f ≡ true
    go true h more =
        let found = rw h at e in
        let is : x ≡ f = cc in
        ap q (sym is) ∙ (both _ _ all).0
    go false h more =
        let rest = rw h at e in
        more rest (both _ _ all).1

pub row_sound : (name : Word) (f : Form) → row_named name ≡ Some f → is_sound f ≡ true
row_sound name f e = found_passes (λ row. bytes_eq name row.name) is_sound table f e rows_sound

found_named : (options : List Setting) (name : Word) (p : Setting) → setting_by options name ≡ Some p → bytes_eq p.name name ≡ true
found_named [] name p e = absurd cc
found_named (x ∷ options) name p e = go (bytes_eq x.name name) refl (found_named options name p)
  where
    go : (b : Bool) → bytes_eq x.name name ≡ b → (setting_by options name ≡ Some p → bytes_eq p.name name ≡ true) → bytes_eq p.name name ≡ true
    go true h more =
        let found = rw h at e in
        let is : x ≡ p = cc in
        ap (λ s. bytes_eq s.name name) (sym is) ∙ h
    go false h more =
        let rest = rw h at e in
        more rest

made : Word → ℕ → ℕ → Option ℕ → Setting
made name least most fallback = record { name = name; least = least; most = most; fallback = fallback }

same_number : (a b : Option ℕ) → is_same_number a b ≡ true → a ≡ b
same_number None None e = refl
same_number (Some a) (Some b) e = ap (λ n. Some n) (eqb-true a b e)
same_number None (Some b) e = absurd (true≢false (sym e))
same_number (Some a) None e = absurd (true≢false (sym e))

own_first : (f : Form) (o : Setting) → is_own f o ≡ true → setting_by f.options o.name ≡ Some o
unfolding made
own_first f o e = go (setting_by f.options o.name) refl (both _ _ e).0
  where
    go : (p : Option Setting) → setting_by f.options o.name ≡ p
        → option_map_or (λ q. is_same_setting q o) p false ≡ true → setting_by f.options o.name ≡ Some o
    go None h k = absurd (true≢false (sym k))
    go (Some p) h k =
        let parts = both _ _ k in
        let more = both _ _ parts.1 in
        let name = same_word p.name o.name (found_named f.options o.name p h) in
        let least = eqb-true p.least o.least parts.0 in
        let most = eqb-true p.most o.most more.0 in
        let fallback = same_number p.fallback o.fallback more.1 in
        let is : made p.name p.least p.most p.fallback ≡ made o.name o.least o.most o.fallback = cc in
        h ∙ ap (λ s. Some s) is

-- ---- what was found

module _ (f : Form) (is : IsSound f) (items : List Item) (fits : AllFit f items) (new : AreNew [] items) (s : Settings)
    (text : (name : Word) → text_at s name ≡ one_of name (matches_of (app_by f) (left_of items))) (ranges : InRanges f.options items) where
  options_are : (options : List Setting) → list_all (is_own f) options ≡ true → HasOptions s items options
  options_are [] own = tt
  options_are (o ∷ options) own =
      let k = both _ _ own in
      let m = both _ _ (both _ _ k.0).1 in (
        (text o.name ∙ option_read f is.named items fits new o.name m.1 (is_false _ m.0), ranges o (own_first f o k.0)),
        options_are options k.1,
      )

  flags_are : (flags : List Word) → list_all (is_flag f) flags ≡ true → HasFlags s items flags
  flags_are [] own = tt
  flags_are (name ∷ flags) own =
      let k = both _ _ own in
      let m = both _ _ k.0 in
      (text name ∙ flag_read f is.named items fits new name (is_false _ m.0) m.1, flags_are flags k.1)

module _ (f : Form) (is : IsSound f) (items : List Item) (fits : AllFit f items) (new : AreNew [] items) (words : List Word) (left : left_of items ≡ words)
    (app : App) (app_is : app ≡ app_by f) where
  is_free : is_simple_and_free app ≡ true
  is_free = ap is_simple_and_free app_is ∙ is.free

  is_plain : is_simple app ≡ true
  is_plain = (both _ _ is_free).0

  faults : fault_of app words ≡ fault_of (app_by f) (left_of items)
  faults = ap (λ a. fault_of a words) app_is ∙ ap (fault_of (app_by f)) (sym left)

  pub read_ok : (s : Settings) → HasMatchesOf app words s.matches → (is_simple_and_free app ≡ true → fault_of app words ≡ []) → HasSettings f items (Ok s)
  read_ok s matches kinds =
      let none = sym (fault_of_items f is.named items fits new) ∙ (sym faults ∙ kinds is_free) in
      let ranges = in_range_without_fault f is.named items fits none in
      let own = both _ _ is.apart in
      let text : (name : Word) → text_at s name ≡ one_of name (matches_of (app_by f) (left_of items)) = λ name.
      one_text-rows (found_of s.matches) name
      ∙ ap (one_of name) ((matches is_plain).0 ∙ ap (λ a. matches_of a words) app_is ∙ ap (matches_of (app_by f)) (sym left)) in
      (options_are f is items fits new s text ranges f.options own.0, flags_are f is items fits new s text ranges f.flags own.1)

  memory_only : (kinds : Kinds) (e : Error) → kinds ≡ [] → HasKind kinds e → kind_of e ≡ OutOfMemory
  memory_only kinds e none h = elim (subst (λ k. HasKind k e) none h) [ inl memory ↦ memory | inr other ↦ absurd other ]

  pub read_err : (e : Error) (end : WordsEnd) → (is_simple_and_free app ≡ true → HasKind (fault_of app words) e) → end ≡ end_by (kind_of e)
      → HasSettings f items (Err end)
  read_err e NoMemory kinds end_is = tt
  read_err e Usage kinds end_is = λ ns sets.
      let none = faults ∙ fault_of_items f is.named items fits new ∙ no_fault_in_range f is.named items [] fits new (ranges_of f items ns fits sets) in
      let memory = memory_only (fault_of app words) e none (kinds is_free) in
      let bad : Usage ≡ NoMemory = end_is ∙ ap end_by memory in
      absurd cc

-- ---- numbers

module _ {E : Type 0} (gives : List ℕ → Result ℕ E → Type 0) (only : (u : List ℕ) (x : Result ℕ E) → gives u x → ParsesUnsigned 64 10 u x) where
  one_is : (v : Word) (one : Option ℕ) → is_number v ≡ true → number_of v < 2 ^ 64 → ReadsOne gives v one → one ≡ Some (number_of v)
  one_is v (Some k) number fits h =
      let read : ◌≡◌ {A = Result ℕ E} (Ok k) (Ok (number_of v)) = number_read v (Ok k) number (only v (Ok k) h) fits in
      cc
  one_is v None number fits h =
      let read : ◌≡◌ {A = Result ℕ E} (Err h.0) (Ok (number_of v)) = number_read v (Err h.0) number (only v (Err h.0) h.1) fits in
      absurd cc

  pub number_is : (o : Setting) (text : Option Word) (one n : Option ℕ) → (text ≡ None → one ≡ None)
      → ((t : List ℕ) → text ≡ Some t → ReadsOne gives t one) → n ≡ option_or one o.fallback → IsNumberOf o text n
  number_is o None one n none value n_is = n_is ∙ ap (λ x. option_or x o.fallback) (none refl)
  number_is o (Some v) one n none value n_is = λ number fits. n_is ∙ ap (λ x. option_or x o.fallback) (one_is v one number fits (value v refl))

bounded : (o : Setting) (options : List Setting) → Names (o ∷ options) ≡ true → o.most < 2 ^ 64
bounded o options names = ltb-true o.most (2 ^ 64) (both _ _ (both _ _ names).0).1

number_sets : (o : Setting) (text value : Option Word) (n : ℕ) → o.most < 2 ^ 64 → text ≡ value → IsInRange o value → IsNumberOf o text (Some n) → SetsTo o value n
number_sets o text None n room is range number = sym (subst (λ t. IsNumberOf o t (Some n)) is number)
number_sets o text (Some v) n room is range number =
    let some : Some n ≡ Some (number_of v) = subst (λ t. IsNumberOf o t (Some n)) is number range.0 (omega (arith, room, range.2)) in
    let n_is : n ≡ number_of v = cc in
    (n_is, subst (λ k. o.least ≤ k) (sym n_is) range.1, subst (λ k. k ≤ o.most) (sym n_is) range.2)

pub numbers_set : (s : Settings) (items : List Item) (options : List Setting) (ns : List (Word × ℕ)) → Names options ≡ true → HasOptions s items options → AreNumbersOf s options ns
    → SetsEach options items ns
numbers_set s items [] [] names has are = tt
numbers_set s items [] (n ∷ ns) names has are = absurd are
numbers_set s items (o ∷ options) [] names has are = absurd are
numbers_set s items (o ∷ options) (n ∷ ns) names has are = (
  are.0,
  number_sets o (text_at s o.name) (value_of (dashed o.name) items) n.1 (bounded o options names) has.0.0 has.0.1 are.1,
  numbers_set s items options ns (both _ _ names).1 has.1 are.2,
)

-- an option that has no number is not set
number_lacks : (o : Setting) (text value : Option Word) (n : ℕ) → o.most < 2 ^ 64 → text ≡ value → IsInRange o value → SetsTo o value n → IsNumberOf o text None → ⊥
number_lacks o text None n room is range sets none =
    let bad : None ≡ Some n = subst (λ t. IsNumberOf o t None) is none ∙ sets in
    absurd cc
number_lacks o text (Some v) n room is range sets none =
    let bad : None ≡ Some (number_of v) = subst (λ t. IsNumberOf o t None) is none range.0 (omega (arith, room, range.2)) in
    absurd cc

pub lacks_none : (s : Settings) (items : List Item) (options : List Setting) (ns : List (Word × ℕ)) → Names options ≡ true → HasOptions s items options → SetsEach options items ns
    → (o : Setting) (k : ℕ) → k < length options → slice_index_or options k o ≡ o → IsNumberOf o (text_at s o.name) None → ⊥
lacks_none s items [] ns names has sets o k lt place none = absurd (omega (arith, lt))
lacks_none s items (x ∷ options) [] names has sets o k lt place none = absurd sets
lacks_none s items (x ∷ options) (n ∷ ns) names has sets o zero lt place none =
    number_lacks x (text_at s x.name) (value_of (dashed x.name) items) n.1 (bounded x options names) has.0.0 has.0.1 sets.1
    (subst (λ p. IsNumberOf p (text_at s p.name) None) (sym place) none)
lacks_none s items (x ∷ options) (n ∷ ns) names has sets o (suc k) lt place none =
    lacks_none s items options ns (both _ _ names).1 has.1 sets.2 o k (omega (arith, lt)) place none

pub marks_are : (s : Settings) (items : List Item) (flags : List Word) (marks : List (Word × Bool)) → HasFlags s items flags → AreMarksOf s flags marks
    → marks ≡ map (mark_of items) flags
marks_are s items [] [] has are = refl
marks_are s items [] (m ∷ marks) has are = absurd are
marks_are s items (name ∷ flags) [] has are = absurd are
marks_are s items (name ∷ flags) ((own, mark) ∷ marks) has are =
    let first : mark ≡ has_flag (dashed name) items = are.1 (has_flag (dashed name) items) has.0 in
    let rest = marks_are s items flags marks has.1 are.2 in
    ap₂ (λ e es. e ∷ es) (ap₂ (λ n m. (n, m)) are.0 first) rest

-- what is right for the rest makes the whole, and nothing is left
pub all_gone : {X Y : Type 0} (P : List X → List Y → Type 0) (All : List Y → Type 0) (xs : List X) (i : ℕ) (ys : List Y) → length xs ≤ i → P [] []
    → ((more : List Y) → P (drop i xs) more → All (ys ++ more)) → All ys
all_gone P All xs i ys past none whole =
    subst All (append-nil ys) (whole [] (subst (λ l. P l []) (sym (drop_all i xs past)) none))
