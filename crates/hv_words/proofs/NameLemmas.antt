-- The names in the words of options and flags.
use Rattle.std.proofs.Common.{◌≡◌, ◌∙◌, ◌||◌, Bool, true, false, List, [], ◌∷◌, map, sym, ap, ap₂, refl}
use Rattle.std.specs.Prelude.{◌==◌, Option, Some, None, option_and_then, option_map}
use Rattle.std.specs.List.{list_any}
use Rattle.std.specs.Str.{bytes_eq}
use Rattle.std.specs.Borrow.{Bor}
use Rattle.std.proofs.lemmas.Bool.{eqb-true}
use Rattle.clap.specs.Lexer.{strip_byte}
use Rattle.hv_words.specs.Taken.{Word, dashed, is_among}
use Rattle.hv_words.specs.Line.{name_of, setting_of}
use Rattle.hv_words.specs.declared.subcommand.Setting.{Setting}
use Rattle.hv_words.proofs.Rules.{same_word, turned}

stripped : (word rest : Word) → strip_byte 45 word ≡ Some rest → word ≡ 45 ∷ rest
stripped [] rest e = absurd cc
stripped (x ∷ xs) rest e = go (x == 45) refl
  where
    go : (b : Bool) → (x == 45) ≡ b → x ∷ xs ≡ 45 ∷ rest
    go true h =
        let first : x ≡ 45 = eqb-true x 45 h in
        let found = rw h at e in
        let same : xs ≡ rest = cc in
        cc
    go false h =
        let found = rw h at e in
        absurd cc

named_word : (word name : Word) → name_of word ≡ Some name → word ≡ dashed name
named_word word name e = go (strip_byte 45 word) refl e
  where
    go : (o : Option Word) → strip_byte 45 word ≡ o → option_and_then (strip_byte 45) o ≡ Some name → word ≡ dashed name
    go None h k = absurd cc
    go (Some rest) h k = stripped word rest h ∙ ap (λ w. 45 ∷ w) (stripped rest name k)

option_among : (name : Word) (options : List Setting) → is_among (dashed name) (map (λ o. dashed o.name) (map setting_of options)) ≡ list_any (λ o. bytes_eq o.name.now name) options
option_among name [] = refl
option_among name (o ∷ options) = ap₂ (λ a b. a || b) (turned name o.name.now) (option_among name options)

flag_among : (name : Word) (flags : List Word) → is_among (dashed name) (map dashed flags) ≡ is_among name flags
flag_among name [] = refl
flag_among name (x ∷ flags) = ap (λ b. bytes_eq name x || b) (flag_among name flags)

none_among : {X : Type 0} (own : X → Word) (word : Word) (xs : List X) → name_of word ≡ None → is_among word (map (λ x. dashed (own x)) xs) ≡ false
none_among own word [] e = refl
none_among own word (x ∷ xs) e = go (bytes_eq word (dashed (own x))) refl (none_among own word xs e)
  where
    go : (b : Bool) → bytes_eq word (dashed (own x)) ≡ b → is_among word (map (λ y. dashed (own y)) xs) ≡ false
        → (b || is_among word (map (λ y. dashed (own y)) xs)) ≡ false
    go true h more =
        let is = same_word word (dashed (own x)) h in
        let bad : Some (own x) ≡ None = sym (ap name_of is) ∙ e in
        absurd cc
    go false h more = more

-- whether a word is an option, by its name
pub option_by_name : (word : Word) (options : List Setting) (found : Option (Bor Word)) (name : Bor Word) (b : Bool) → found ≡ Some name
    → option_map (λ s. s.now) found ≡ name_of word → b ≡ list_any (λ o. bytes_eq o.name.now name.now) options
    → b ≡ is_among word (map (λ o. dashed o.name) (map setting_of options))
option_by_name word options found name b is e known =
    let named : name_of word ≡ Some name.now = sym e ∙ ap (option_map (λ (s : Bor Word). s.now)) is in
    known ∙ sym (ap (λ w. is_among w (map (λ o. dashed o.name) (map setting_of options))) (named_word word name.now named) ∙ option_among name.now options)

pub flag_by_name : (word : Word) (flags : List Word) (found : Option (Bor Word)) (name : Bor Word) (b : Bool) → found ≡ Some name
    → option_map (λ s. s.now) found ≡ name_of word → b ≡ is_among name.now flags → b ≡ is_among word (map dashed flags)
flag_by_name word flags found name b is e known =
    let named : name_of word ≡ Some name.now = sym e ∙ ap (option_map (λ (s : Bor Word). s.now)) is in
    known ∙ sym (ap (λ w. is_among w (map dashed flags)) (named_word word name.now named) ∙ flag_among name.now flags)

pub none_by_name : {X : Type 0} (own : X → Word) (word : Word) (xs : List X) (found : Option (Bor Word)) → found ≡ None
    → option_map (λ s. s.now) found ≡ name_of word → false ≡ is_among word (map (λ x. dashed (own x)) xs)
none_by_name own word xs found is e = sym (none_among own word xs (sym e ∙ ap (option_map (λ (s : Bor Word). s.now)) is))
