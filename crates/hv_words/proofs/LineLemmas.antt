-- One word more of a line.
use Rattle.std.proofs.Common.{◌≡◌, ◌∙◌, ℕ, ◌+◌, ◌<◌, ◌≤◌, Bool, true, false, cond, List, [], ◌∷◌, map, length, drop, sym, subst, ap, refl, drop-cons, add-one}
use Rattle.std.specs.Prelude.{Option, Some, None, option_and_then, Result, Err, String, string_bytes}
use Rattle.std.proofs.lemmas.List.{drop_all}
use Rattle.std.specs.List.{slice_index_or}
use Rattle.std.specs.Str.{bytes_eq}
use Rattle.std.specs.Borrow.{Bor}
use Rattle.hv_words.specs.Taken.{Form, Word, is_among, is_number}
use Rattle.hv_words.specs.Line.{Parts, Seen, Steps, ended, line_of, nothing_seen, kept, name_step, named, noted, scan, step, value_step}
use Rattle.hv_words.specs.declared.line.Parted.{Parted}
use Rattle.hv_words.specs.declared.order.WordsEnd.{WordsEnd}
use Rattle.hv_words.specs.declared.order.WordsEnd.TheVariants.{Usage, NoMemory}

word_first : {X : Type 0} (words : List X) (i : ℕ) (d : X) → i < length words → drop i words ≡ slice_index_or words i d ∷ drop (i + 1) words
word_first words i d lt = rw (add-one, drop-cons words i d) refl

-- whether the word is among those from place i on, by the one at that place
pub among_on : (word : Word) (words : List (Bor Word)) (i : ℕ) (d : Bor Word) (whole : Bool) → i < length words
    → bytes_eq word (slice_index_or words i d).now ≡ false
    → is_among word (map (λ s. s.now) (drop i words)) ≡ whole → is_among word (map (λ s. s.now) (drop (i + 1) words)) ≡ whole
among_on word words i d whole lt other h =
    let first = word_first words i d lt in
    let opened = rw first at h in
    rw other at opened

pub among_here : (word : Word) (words : List (Bor Word)) (i : ℕ) (d : Bor Word) (whole : Bool) → i < length words
    → bytes_eq word (slice_index_or words i d).now ≡ true
    → is_among word (map (λ s. s.now) (drop i words)) ≡ whole → true ≡ whole
among_here word words i d whole lt same h =
    let first = word_first words i d lt in
    let opened = rw first at h in
    rw same at opened

pub steps_as : (a b : Option Seen) (now : Seen) (r : Result (Unit {0}) WordsEnd) → a ≡ b → Steps b now r → Steps a now r
steps_as a b now r e h = subst (λ o. Steps o now r) (sym e) h

pub value_taken : (word : Word) (s : Seen) → is_number word ≡ true → value_step word s ≡ Some (kept word (record s { waits = false }))
value_taken word s e = ap (λ b. cond b (Some (kept word (record s { waits = false }))) None) e

pub name_taken : (waits : Bool) (word : Word) (s : Seen) → is_among word s.names ≡ false → name_step waits word s ≡ Some (kept word (named waits word s))
name_taken waits word s e = ap (λ b. cond b None (Some (kept word (named waits word s)))) e

pub name_kept : (waits : Bool) (word : Word) (s mid : Seen) → Some (noted word s) ≡ Some mid
    → Some (kept word (named waits word s)) ≡ Some (kept word (record mid { waits = waits }))
name_kept waits word s mid e =
    let same : noted word s ≡ mid = cc in
    ap (λ m. Some (kept word (record m { waits = waits }))) same

-- the invariant of the pass over the words: what was seen and the words that are left make the whole
abbrev pub Goes : {A : Type 0} → Form → List (String A) → ℕ → Seen → Type 0
Goes f words i s = scan f (map string_bytes (drop i words)) s ≡ scan f (map string_bytes words) nothing_seen

pub goes_on : {A : Type 0} (f : Form) (words : List (String A)) (i : ℕ) (x : String A) (word : Word) (s now : Seen) → i < length words
    → x ≡ slice_index_or words i x → word ≡ string_bytes x → step f word s ≡ Some now
    → Goes f words i s → Goes f words (i + 1) now
goes_on f words i x word s now lt is text taken h =
    let first : drop i words ≡ slice_index_or words i x ∷ drop (i + 1) words = word_first words i x lt in
    let here : step f (string_bytes (slice_index_or words i x)) s ≡ Some now = ap (λ y. step f (string_bytes y) s) (sym is) ∙ ap (λ w. step f w s) (sym text) ∙ taken in
    let opened = rw first at h in
    ap (λ o. option_and_then (scan f (map string_bytes (drop (i + 1) words))) o) (sym here) ∙ opened

pub goes_off : {A : Type 0} (f : Form) (words : List (String A)) (i : ℕ) (x : String A) (word : Word) (s now : Seen) (end : WordsEnd) → i < length words
    → x ≡ slice_index_or words i x → word ≡ string_bytes x → Steps (step f word s) now (Err end)
    → Goes f words i s → Parts (line_of f (map string_bytes words)) (Err end)
goes_off f words i x word s now NoMemory lt is text taken h = tt
goes_off f words i x word s now Usage lt is text taken h =
    let first : drop i words ≡ slice_index_or words i x ∷ drop (i + 1) words = word_first words i x lt in
    let here : step f (string_bytes (slice_index_or words i x)) s ≡ None = ap (λ y. step f (string_bytes y) s) (sym is) ∙ ap (λ w. step f w s) (sym text) ∙ taken in
    let opened = rw first at h in
    ap (option_and_then ended) (sym opened ∙ ap (λ o. option_and_then (scan f (map string_bytes (drop (i + 1) words))) o) here)

pub goes_out : {A : Type 0} (f : Form) (words : List (String A)) (i : ℕ) (s : Seen) (r : Result Parted WordsEnd) → length words ≤ i
    → Parts (ended s) r → Goes f words i s → Parts (line_of f (map string_bytes words)) r
goes_out f words i s r past p h =
    let none : drop i words ≡ [] = drop_all i words past in
    let opened = rw none at h in
    subst (λ o. Parts (option_and_then ended o) r) opened p
