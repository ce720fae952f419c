-- Values in the ranges of their options are those in which clap finds no fault.
use Rattle.std.proofs.Common.{◌≡◌, ◌∙◌, ◌||◌, ◌≤◌, ◌^◌, ℕ, Bool, true, false, cond, List, [], ◌∷◌, ◌++◌, drop, sym, subst, ap, ap₂, refl, true≢false, ltb-true}
use Rattle.std.specs.Prelude.{Option, Some, None, nat_lt}
use Rattle.std.specs.Str.{bytes_eq}
use Rattle.clap.specs.Kinds.{Kinds, or_else}
use Rattle.clap.specs.ValueTests.{is_unsigned_in}
use Rattle.hv_words.specs.Taken.{AllFit, AreNew, Form, Item, Sets, SetsEach, SetsTo, Setting, Word, dashed, flag, is_among, is_number, option, positional, value_of}
use Rattle.hv_words.specs.Settings.{IsInRange}
use Rattle.hv_words.specs.Rows.{is_named, setting_by}
use Rattle.hv_words.proofs.NumberLemmas.{from_range, in_range}
use Rattle.hv_words.proofs.Rules.{same_bytes, same_word}
use Rattle.hv_words.proofs.Walks.{items_fault, option_found, value_fault}

-- each option's value, if it has one, is in its range
abbrev pub InRanges : List Setting → List Item → Type 0
InRanges options items = (o : Setting) → setting_by options o.name ≡ Some o → IsInRange o (value_of (dashed o.name) items)

value_passes : (o : Setting) (value : Word) → nat_lt o.most (2 ^ 64) ≡ true → IsInRange o (Some value) → value_fault (Some o) value ≡ []
value_passes o value bounded h =
    let pass : is_unsigned_in o.least o.most value ≡ true = from_range o.least o.most value h.0 (ltb-true o.most (2 ^ 64) bounded) h.1 h.2 in
    rw pass refl

value_passed : (o : Setting) (value : Word) (b : Bool) → is_number value ≡ true → is_unsigned_in o.least o.most value ≡ b → value_fault (Some o) value ≡ []
    → IsInRange o (Some value)
value_passed o value true number pass none =
    let range = in_range o.least o.most value number pass in
    (number, range.0, range.1)
value_passed o value false number fail none =
    let bad = rw fail at none in
    absurd cc

both_none : (a b : Kinds) → or_else a b ≡ [] → (a ≡ []) × (b ≡ [])
both_none [] b e = (refl, e)
both_none (k ∷ ks) b e = absurd cc

among_here : (word last : Word) (xs : List Word) → bytes_eq word last ≡ true → is_among word (xs ++ last ∷ []) ≡ true
among_here word last [] e = rw e refl
among_here word last (x ∷ xs) e = go (bytes_eq word x) (among_here word last xs e)
  where
    go : (b : Bool) → is_among word (xs ++ last ∷ []) ≡ true → (b || is_among word (xs ++ last ∷ [])) ≡ true
    go true h = refl
    go false h = h

among_still : (word last : Word) (xs : List Word) → is_among word xs ≡ true → is_among word (xs ++ last ∷ []) ≡ true
among_still word last [] e = absurd (true≢false (sym e))
among_still word last (x ∷ xs) e = go (bytes_eq word x) (among_still word last xs) e
  where
    go : (b : Bool) → (is_among word xs ≡ true → is_among word (xs ++ last ∷ []) ≡ true) → (b || is_among word xs) ≡ true → (b || is_among word (xs ++ last ∷ [])) ≡ true
    go true h k = refl
    go false h k = h k

-- a name that was given before has no value later
not_later : (word : Word) (items : List Item) (before : List Word) → is_among word before ≡ true → AreNew before items → value_of word items ≡ None
not_later word [] before known new = refl
not_later word (positional w ∷ items) before known new = not_later word items before known new
not_later word (option n v ∷ items) before known new =
    go (bytes_eq n word) refl (not_later word items (before ++ n ∷ []) (among_still word n before known) new.1)
  where
    go : (b : Bool) → bytes_eq n word ≡ b → value_of word items ≡ None → cond b (Some v) (value_of word items) ≡ None
    go true h more = absurd (true≢false (sym (ap (λ w. is_among w before) (same_word n word h) ∙ known) ∙ new.0))
    go false h more = more
not_later word (flag n ∷ items) before known new = not_later word items (before ++ n ∷ []) (among_still word n before known) new.1

-- a value is a number word
abbrev pub NumberIf : Option Word → Type 0
NumberIf None = Unit {0}
NumberIf (Some value) = is_number value ≡ true

pub number_if : (f : Form) (word : Word) (items : List Item) → AllFit f items → NumberIf (value_of word items)
number_if f word [] fits = tt
number_if f word (positional w ∷ items) fits = number_if f word items fits.1
number_if f word (option n v ∷ items) fits = go (bytes_eq n word) (number_if f word items fits.1)
  where
    go : (b : Bool) → NumberIf (value_of word items) → NumberIf (cond b (Some v) (value_of word items))
    go true h = fits.0.1
    go false h = h
number_if f word (flag n ∷ items) fits = number_if f word items fits.1

module _ (f : Form) (named : is_named f ≡ true) where
  pub no_fault_in_range : (items : List Item) (before : List Word) → AllFit f items → AreNew before items → InRanges f.options items → items_fault f.options items ≡ []
  no_fault_in_range [] before fits new ranges = refl
  no_fault_in_range (positional w ∷ items) before fits new ranges = no_fault_in_range items before fits.1 new ranges
  no_fault_in_range (option n v ∷ items) before fits new ranges =
      let x = option_found f named n fits.0.0 in
      let o = x.setting in
      let own : IsInRange o (value_of (dashed o.name) (option (dashed o.name) v ∷ items)) = subst (λ w. IsInRange o (value_of (dashed o.name) (option w v ∷ items))) x.is (ranges o x.first) in
      let here : IsInRange o (Some v) = rw (same_bytes o.name) at own in
      let passes : value_fault (setting_by f.options o.name) v ≡ [] = ap (λ s. value_fault s v) x.first ∙ value_passes o v x.bounded here in
      let later = no_fault_in_range items (before ++ n ∷ []) fits.1 new.1 (λ p first. rest p (bytes_eq n (dashed p.name)) refl (ranges p first)) in
      subst (λ w. or_else (value_fault (setting_by f.options (drop 2 w)) v) (items_fault f.options items) ≡ []) (sym x.is) (ap₂ or_else passes later)
    where
      rest : (p : Setting) (b : Bool) → bytes_eq n (dashed p.name) ≡ b → IsInRange p (cond b (Some v) (value_of (dashed p.name) items)) → IsInRange p (value_of (dashed p.name) items)
      rest p true h k = subst (IsInRange p) (sym (not_later (dashed p.name) items (before ++ n ∷ []) (among_here (dashed p.name) n before (ap (λ w. bytes_eq (dashed p.name) w) (same_word n (dashed p.name) h) ∙ same_bytes (dashed p.name))) new.1)) tt
      rest p false h k = k
  no_fault_in_range (flag n ∷ items) before fits new ranges = no_fault_in_range items (before ++ n ∷ []) fits.1 new.1 ranges

  pub in_range_without_fault : (items : List Item) → AllFit f items → items_fault f.options items ≡ [] → InRanges f.options items
  in_range_without_fault [] fits none = λ o first. tt
  in_range_without_fault (positional w ∷ items) fits none = in_range_without_fault items fits.1 none
  in_range_without_fault (option n v ∷ items) fits none = λ p first.
      let x = option_found f named n fits.0.0 in
      let o = x.setting in
      let parts = both_none _ _ (subst (λ w. or_else (value_fault (setting_by f.options (drop 2 w)) v) (items_fault f.options items) ≡ []) x.is none) in
      let passes : value_fault (Some o) v ≡ [] = sym (ap (λ s. value_fault s v) x.first) ∙ parts.0 in
      let here = value_passed o v (is_unsigned_in o.least o.most v) fits.0.1 refl passes in
      subst (λ w. IsInRange p (cond (bytes_eq w (dashed p.name)) (Some v) (value_of (dashed p.name) items))) (sym x.is)
      (go p o first x.first here (bytes_eq o.name p.name) refl (in_range_without_fault items fits.1 parts.1 p first))
    where
      go : (p o : Setting) → setting_by f.options p.name ≡ Some p → setting_by f.options o.name ≡ Some o → IsInRange o (Some v)
          → (b : Bool) → bytes_eq o.name p.name ≡ b → IsInRange p (value_of (dashed p.name) items) → IsInRange p (cond (bytes_eq o.name p.name) (Some v) (value_of (dashed p.name) items))
      go p o first own here true h more =
          let both_are : Some o ≡ Some p = sym own ∙ (ap (setting_by f.options) (same_word o.name p.name h) ∙ first) in
          let is : o ≡ p = cc in
          rw h (subst (λ s. IsInRange s (Some v)) is here)
      go p o first own here false h more = rw h more
  in_range_without_fault (flag n ∷ items) fits none = in_range_without_fault items fits.1 none

-- ---- numbers that are asked for

found_sets : (options : List Setting) (items : List Item) (ns : List (Word × ℕ)) (name : Word) (o : Setting) → SetsEach options items ns → setting_by options name ≡ Some o
    → (n : ℕ) × Sets o items n
found_sets [] items ns name o sets first = absurd cc
found_sets (x ∷ options) items [] name o sets first = absurd sets
found_sets (x ∷ options) items (n ∷ ns) name o sets first = go (bytes_eq x.name name) refl (found_sets options items ns name o sets.2)
  where
    go : (b : Bool) → bytes_eq x.name name ≡ b → (setting_by options name ≡ Some o → (m : ℕ) × Sets o items m) → (m : ℕ) × Sets o items m
    go true h more =
        let e = rw h at first in
        let is : x ≡ o = cc in
        (n.1, subst (λ s. Sets s items n.1) is sets.1)
    go false h more =
        let e = rw h at first in
        more e

range_of : (o : Setting) (value : Option Word) (n : ℕ) → NumberIf value → SetsTo o value n → IsInRange o value
range_of o None n number sets = tt
range_of o (Some v) n number sets = (number, subst (λ k. o.least ≤ k) sets.0 sets.1, subst (λ k. k ≤ o.most) sets.0 sets.2)

pub ranges_of : (f : Form) (items : List Item) (ns : List (Word × ℕ)) → AllFit f items → SetsEach f.options items ns → InRanges f.options items
ranges_of f items ns fits sets = λ o first.
    let s = found_sets f.options items ns o.name o sets first in
    range_of o (value_of (dashed o.name) items) s.0 (number_if f (dashed o.name) items fits) s.1
