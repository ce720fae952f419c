-- The line that is read word by word is the items of the definition.
use Rattle.std.proofs.Common.{◌≡◌, ◌∙◌, Bool, true, false, List, [], ◌∷◌, ◌++◌, sym, ap, refl, append_assoc, append-nil}
use Rattle.std.specs.Prelude.{Option, Some, None, option_and_then, option_map}
use Rattle.hv_words.specs.Taken.{AllFit, AreNew, Form, Item, Word, flag, flag_words, is_among, is_number, is_positional, option, option_words, positional, positionals, spelled}
use Rattle.hv_words.specs.Line.{Seen, ended, scan}
use Rattle.hv_words.specs.Settings.{left_of}

abbrev pub of_option : Option Word → List Word
of_option None = []
of_option (Some word) = word ∷ []

abbrev pub state : Option Word → List Word → List Word → Bool → Seen
state file left names waits = record { file = file; left = left; names = names; waits = waits }

-- ---- items that fit are read

three : {X : Type 0} (xs : List X) (a b : X) (ys : List X) → ((xs ++ a ∷ []) ++ b ∷ []) ++ ys ≡ xs ++ a ∷ b ∷ ys
three xs a b ys = simp append_assoc

two : {X : Type 0} (xs : List X) (a : X) (ys : List X) → (xs ++ a ∷ []) ++ ys ≡ xs ++ a ∷ ys
two xs a ys = simp append_assoc

pub whole : (f : Form) (items : List Item) (file : Option Word) (left names : List Word) (last : Word)
    → AllFit f items → AreNew names items → of_option file ++ positionals items ≡ last ∷ []
    → option_and_then ended (scan f (spelled items) (state file left names false)) ≡ Some (last, left ++ left_of items)
whole f [] None left names last fits new one = absurd cc
whole f [] (Some x) left names last fits new one =
    let same : x ≡ last = cc in
    rw same (simp append-nil)
whole f (positional word ∷ items) (Some x) left names last fits new one = absurd cc
whole f (positional word ∷ items) None left names last fits new one =
    rw (fits.0.0, fits.0.1, fits.0.2) (whole f items (Some word) left names last fits.1 new one)
whole f (option name value ∷ items) file left names last fits new one =
    rw (fits.0.0, new.0, fits.0.1)
    (whole f items file ((left ++ name ∷ []) ++ value ∷ []) (names ++ name ∷ []) last fits.1 new.1 one
    ∙ ap (λ l. Some (last, l)) (three left name value (left_of items)))
whole f (flag name ∷ items) file left names last fits new one =
    rw (fits.0.0, fits.0.1, new.0)
    (whole f items file (left ++ name ∷ []) (names ++ name ∷ []) last fits.1 new.1 one
    ∙ ap (λ l. Some (last, l)) (two left name (left_of items)))

-- ---- a line that is read has such items

-- what stands first, where a value is waited for
abbrev pub Waits : Bool → List Word → Type 0
Waits false before = before ≡ []
Waits true before = (value : Word) × (before ≡ value ∷ []) × (is_number value ≡ true)

pub record Read (f : Form) (words : List Word) (s : Seen) (last : Word) (rest : List Word) : Type 0 where
  pub before : List Word
  pub items : List Item
  pub waiting : Waits s.waits before
  pub words_are : words ≡ before ++ spelled items
  pub fits : AllFit f items
  pub new : AreNew s.names items
  pub one : of_option s.file ++ positionals items ≡ last ∷ []
  pub left : rest ≡ (s.left ++ before) ++ left_of items

abbrev with_left : List Word → Word → Word × List Word
with_left left word = (word, left)

end_file : (file : Option Word) (left : List Word) (last : Word) (rest : List Word) → option_map (with_left left) file ≡ Some (last, rest)
    → (of_option file ≡ last ∷ []) × (rest ≡ left)
end_file None left last rest e = absurd cc
end_file (Some x) left last rest e =
    let pair : (x, left) ≡ (last, rest) = cc in
    let first : x ≡ last = ap (λ (p : Word × List Word). p.0) pair in
    (ap (λ w. w ∷ []) first, sym (ap (λ (p : Word × List Word). p.1) pair))

read_value : (f : Form) (word : Word) (words : List Word) (file : Option Word) (left names : List Word) (last : Word) (rest : List Word)
    → is_number word ≡ true → Read f words (state file (left ++ word ∷ []) names false) last rest
    → Read f (word ∷ words) (state file left names true) last rest
read_value f word words file left names last rest number r = record {
  before = word ∷ [];
  items = r.items;
  waiting = (word, refl, number);
  words_are = ap (λ l. word ∷ l) (r.words_are ∙ ap (λ l. l ++ spelled r.items) r.waiting);
  fits = r.fits;
  new = r.new;
  one = r.one;
  left = r.left ∙ ap (λ l. ((left ++ word ∷ []) ++ l) ++ left_of r.items) r.waiting ∙ ap (λ l. l ++ left_of r.items) (simp append-nil);
}

read_option : (f : Form) (word : Word) (words : List Word) (file : Option Word) (left names : List Word) (last : Word) (rest : List Word)
    → is_among word (option_words f) ≡ true → is_among word names ≡ false
    → Read f words (state file (left ++ word ∷ []) (names ++ word ∷ []) true) last rest
    → Read f (word ∷ words) (state file left names false) last rest
read_option f word words file left names last rest known fresh r = record {
  before = [];
  items = option word r.waiting.0 ∷ r.items;
  waiting = refl;
  words_are = ap (λ l. word ∷ l) (r.words_are ∙ ap (λ l. l ++ spelled r.items) r.waiting.1);
  fits = ((known, r.waiting.2), r.fits);
  new = (fresh, r.new);
  one = r.one;
  left = r.left ∙ ap (λ l. ((left ++ word ∷ []) ++ l) ++ left_of r.items) r.waiting.1 ∙ simp append_assoc;
}

read_flag : (f : Form) (word : Word) (words : List Word) (file : Option Word) (left names : List Word) (last : Word) (rest : List Word)
    → is_among word (option_words f) ≡ false → is_among word (flag_words f) ≡ true → is_among word names ≡ false
    → Read f words (state file (left ++ word ∷ []) (names ++ word ∷ []) false) last rest
    → Read f (word ∷ words) (state file left names false) last rest
read_flag f word words file left names last rest other known fresh r = record {
  before = [];
  items = flag word ∷ r.items;
  waiting = refl;
  words_are = ap (λ l. word ∷ l) (r.words_are ∙ ap (λ l. l ++ spelled r.items) r.waiting);
  fits = ((other, known), r.fits);
  new = (fresh, r.new);
  one = r.one;
  left = r.left ∙ ap (λ l. ((left ++ word ∷ []) ++ l) ++ left_of r.items) r.waiting ∙ simp append_assoc;
}

read_file : (f : Form) (word : Word) (words : List Word) (left names : List Word) (last : Word) (rest : List Word)
    → is_among word (option_words f) ≡ false → is_among word (flag_words f) ≡ false → is_positional word ≡ true
    → Read f words (state (Some word) left names false) last rest
    → Read f (word ∷ words) (state None left names false) last rest
read_file f word words left names last rest other another fit r = record {
  before = [];
  items = positional word ∷ r.items;
  waiting = refl;
  words_are = ap (λ l. word ∷ l) (r.words_are ∙ ap (λ l. l ++ spelled r.items) r.waiting);
  fits = ((other, another, fit), r.fits);
  new = r.new;
  one = r.one;
  left = r.left ∙ ap (λ l. (left ++ l) ++ left_of r.items) r.waiting;
}

-- what is known of the words behind the first one
abbrev Rest : Form → List Word → Type 0
Rest f words = (file : Option Word) (left names : List Word) (waits : Bool) (last : Word) (rest : List Word)
    → option_and_then ended (scan f words (state file left names waits)) ≡ Some (last, rest)
    → Read f words (state file left names waits) last rest

module _ (f : Form) (word : Word) (words : List Word) (rest_is : Rest f words) (left names : List Word) (last : Word) (rest : List Word) where
  value_case : (file : Option Word) → option_and_then ended (scan f (word ∷ words) (state file left names true)) ≡ Some (last, rest)
      → (b : Bool) → is_number word ≡ b → Read f (word ∷ words) (state file left names true) last rest
  value_case file e true number =
      read_value f word words file left names last rest number (rest_is file (left ++ word ∷ []) names false last rest (rw number at e))
  value_case file e false number =
      let bad = rw number at e in
      absurd cc

  option_case : (file : Option Word) → option_and_then ended (scan f (word ∷ words) (state file left names false)) ≡ Some (last, rest)
      → is_among word (option_words f) ≡ true → (b : Bool) → is_among word names ≡ b
      → Read f (word ∷ words) (state file left names false) last rest
  option_case file e known false fresh =
      read_option f word words file left names last rest known fresh
      (rest_is file (left ++ word ∷ []) (names ++ word ∷ []) true last rest (rw (known, fresh) at e))
  option_case file e known true fresh =
      let bad = rw (known, fresh) at e in
      absurd cc

  flag_case : (file : Option Word) → option_and_then ended (scan f (word ∷ words) (state file left names false)) ≡ Some (last, rest)
      → is_among word (option_words f) ≡ false → is_among word (flag_words f) ≡ true → (b : Bool) → is_among word names ≡ b
      → Read f (word ∷ words) (state file left names false) last rest
  flag_case file e other known false fresh =
      read_flag f word words file left names last rest other known fresh
      (rest_is file (left ++ word ∷ []) (names ++ word ∷ []) false last rest (rw (other, known, fresh) at e))
  flag_case file e other known true fresh =
      let bad = rw (other, known, fresh) at e in
      absurd cc

  file_case : (file : Option Word) → option_and_then ended (scan f (word ∷ words) (state file left names false)) ≡ Some (last, rest)
      → is_among word (option_words f) ≡ false → is_among word (flag_words f) ≡ false → (b : Bool) → is_positional word ≡ b
      → Read f (word ∷ words) (state file left names false) last rest
  file_case None e other another true fit =
      read_file f word words left names last rest other another fit
      (rest_is (Some word) left names false last rest (rw (other, another, fit) at e))
  file_case (Some x) e other another true fit =
      let bad = rw (other, another, fit) at e in
      absurd cc
  file_case file e other another false fit =
      let bad = rw (other, another, fit) at e in
      absurd cc

  name_case : (file : Option Word) → option_and_then ended (scan f (word ∷ words) (state file left names false)) ≡ Some (last, rest)
      → (o g : Bool) → is_among word (option_words f) ≡ o → is_among word (flag_words f) ≡ g
      → Read f (word ∷ words) (state file left names false) last rest
  name_case file e true g known another = option_case file e known (is_among word names) refl
  name_case file e false true other known = flag_case file e other known (is_among word names) refl
  name_case file e false false other another = file_case file e other another (is_positional word) refl

pub sound : (f : Form) (words : List Word) → Rest f words
sound f [] file left names true last rest e = absurd cc
sound f [] file left names false last rest e =
    let ends = end_file file left last rest e in record {
      before = [];
      items = [];
      waiting = refl;
      words_are = refl;
      fits = tt;
      new = tt;
      one = append-nil (of_option file) ∙ ends.0;
      left = ends.1 ∙ sym (append-nil (left ++ []) ∙ append-nil left);
    }
sound f (word ∷ words) file left names true last rest e =
    value_case f word words (sound f words) left names last rest file e (is_number word) refl
sound f (word ∷ words) file left names false last rest e =
    name_case f word words (sound f words) left names last rest file e (is_among word (option_words f)) (is_among word (flag_words f)) refl refl
