-- The items of a line are the only ones, and so is what they ask for.
use Rattle.std.proofs.Common.{◌≡◌, ◌∙◌, ℕ, Bool, List, [], ◌∷◌, sym, subst, ap, ap₂, refl}
use Rattle.std.specs.Prelude.{Option, Some, None}
use Rattle.hv_words.specs.Taken.{AllFit, Asked, Counts, Form, Item, Said, Says, SetsEach, SetsTo, Setting, Taken, Tells, Word, asked_by, dashed, flag, option, positional, row_named, spelled, value_of}
use Rattle.hv_words.specs.declared.subcommand.Positional.{Positional}
use Rattle.hv_words.specs.declared.subcommand.Positional.TheVariants.{File, Number}

-- ---- a list of words is cut into items in one way

pub items_once : (f : Form) (xs ys : List Item) → AllFit f xs → AllFit f ys → spelled xs ≡ spelled ys → xs ≡ ys
items_once f [] [] a b e = refl
items_once f [] (positional v ∷ ys) a b e = absurd cc
items_once f [] (option m v ∷ ys) a b e = absurd cc
items_once f [] (flag m ∷ ys) a b e = absurd cc
items_once f (positional w ∷ xs) [] a b e = absurd cc
items_once f (option n w ∷ xs) [] a b e = absurd cc
items_once f (flag n ∷ xs) [] a b e = absurd cc
items_once f (positional w ∷ xs) (positional v ∷ ys) a b e =
    let same : spelled xs ≡ spelled ys = cc in
    let rest = items_once f xs ys a.1 b.1 same in
    cc
items_once f (option n w ∷ xs) (option m v ∷ ys) a b e =
    let same : spelled xs ≡ spelled ys = cc in
    let rest = items_once f xs ys a.1 b.1 same in
    cc
items_once f (flag n ∷ xs) (flag m ∷ ys) a b e =
    let same : spelled xs ≡ spelled ys = cc in
    let rest = items_once f xs ys a.1 b.1 same in
    cc
items_once f (positional w ∷ xs) (option m v ∷ ys) a b e =
    let same : w ≡ m = cc in
    let here = rw same at a.0.0 in
    let there = b.0.0 in
    absurd cc
items_once f (positional w ∷ xs) (flag m ∷ ys) a b e =
    let same : w ≡ m = cc in
    let here = rw same at a.0.1 in
    let there = b.0.1 in
    absurd cc
items_once f (option n w ∷ xs) (positional v ∷ ys) a b e =
    let same : n ≡ v = cc in
    let here = rw same at a.0.0 in
    let there = b.0.0 in
    absurd cc
items_once f (option n w ∷ xs) (flag m ∷ ys) a b e =
    let same : n ≡ m = cc in
    let here = rw same at a.0.0 in
    let there = b.0.0 in
    absurd cc
items_once f (flag n ∷ xs) (positional v ∷ ys) a b e =
    let same : n ≡ v = cc in
    let here = rw same at a.0.1 in
    let there = b.0.1 in
    absurd cc
items_once f (flag n ∷ xs) (option m v ∷ ys) a b e =
    let same : n ≡ m = cc in
    let here = rw same at a.0.0 in
    let there = b.0.0 in
    absurd cc

-- ---- what the words say is one thing

sets_once : (setting : Setting) (o : Option Word) (n m : ℕ) → SetsTo setting o n → SetsTo setting o m → n ≡ m
sets_once setting None n m a b =
    let same : Some n ≡ Some m = sym a ∙ b in
    cc
sets_once setting (Some value) n m a b = a.0 ∙ sym b.0

numbers_once : (options : List Setting) (items : List Item) (ns ms : List (Word × ℕ)) → SetsEach options items ns → SetsEach options items ms → ns ≡ ms
numbers_once [] items [] [] a b = refl
numbers_once [] items (n ∷ ns) ms a b = absurd a
numbers_once [] items [] (m ∷ ms) a b = absurd b
numbers_once (o ∷ options) items [] ms a b = absurd a
numbers_once (o ∷ options) items (n ∷ ns) [] a b = absurd b
numbers_once (o ∷ options) items ((n, k) ∷ ns) ((m, l) ∷ ms) a b =
    ap₂ (λ e es. e ∷ es)
    (ap₂ (λ (w : Word) (i : ℕ). (w, i)) (a.0 ∙ sym b.0) (sets_once o (value_of (dashed o.name) items) k l a.1 b.1))
    (numbers_once options items ns ms a.2 b.2)

counts_once : (p : Positional) (word : Word) (n m : ℕ) → Counts p word n → Counts p word m → n ≡ m
counts_once File word n m a b = a ∙ sym b
counts_once (Number least most) word n m a b = a.1 ∙ sym b.1

same_word : (w v : Word) (ws : List Word) → ws ≡ w ∷ [] → ws ≡ v ∷ [] → w ≡ v
same_word w v ws a b = cc

made : Word → ℕ → List (Word × ℕ) → List (Word × Bool) → Said
made word count numbers marks = record { word = word; count = count; numbers = numbers; marks = marks }

tells_once : (f : Form) (items : List Item) (d e : Said) → Tells f items d → Tells f items e → d ≡ e
unfolding made
tells_once f items d e p q =
    let word : d.word ≡ e.word = same_word d.word e.word _ p.0 q.0 in
    let count : d.count ≡ e.count = counts_once f.takes d.word d.count e.count p.1 (subst (λ w. Counts f.takes w e.count) (sym word) q.1) in
    let numbers : d.numbers ≡ e.numbers = numbers_once f.options items d.numbers e.numbers p.2 q.2 in
    let marks : d.marks ≡ e.marks = p.3 ∙ sym q.3 in
    let all : made d.word d.count d.numbers d.marks ≡ made e.word e.count e.numbers e.marks = cc in
    all

says_once : (f : Form) (words : List Word) (d e : Said) → Says f words d → Says f words e → d ≡ e
says_once f words d e p q =
    let items : p.0 ≡ q.0 = items_once f p.0 q.0 p.2 q.2 (sym p.1 ∙ q.1) in
    tells_once f p.0 d e p.4 (subst (λ xs. Tells f xs e) (sym items) q.4)

-- ---- one order

-- what is taken is said for the row of the name
pub said_for : (words rest : List Word) (name : Word) (f : Form) (a : Asked) → words ≡ name ∷ rest → row_named name ≡ Some f → (t : Taken words a)
    → Says f rest t.said × (a ≡ asked_by f.subcommand t.said)
said_for words rest name f a begins named t =
    let both : t.name ∷ t.rest ≡ name ∷ rest = sym t.begins ∙ begins in
    let names : t.name ≡ name = cc in
    let rests : t.rest ≡ rest = cc in
    let rows : Some t.row ≡ Some f = sym t.named ∙ ap row_named names ∙ named in
    let row : t.row ≡ f = cc in (
      subst (λ g. Says g rest t.said) row (subst (λ l. Says t.row l t.said) rests t.says),
      t.is ∙ ap (λ (g : Form). asked_by g.subcommand t.said) row,
    )

-- words are taken in one way
pub taken_once : (words : List Word) (a b : Asked) → Taken words a → Taken words b → a ≡ b
taken_once words a b p q =
    let other = said_for words p.rest p.name p.row b p.begins p.named q in
    let said : p.said ≡ q.said = says_once p.row p.rest p.said q.said p.says other.0 in
    p.is ∙ ap (asked_by p.row.subcommand) said ∙ sym other.1
