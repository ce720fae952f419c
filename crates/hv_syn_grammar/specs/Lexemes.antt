-- Tests of tokens, and what a token holds.
use Rattle.std.specs.Prelude.{◌≡◌, ℕ, Bool, true, false, List, [], ◌∷◌, codes, ℤ, pos}
use Rattle.std.specs.Str.{bytes_eq}
use Rattle.hv_tree.specs.declared.place.Place.{Place}
use Rattle.hv_tree.specs.declared.types.Name.{Name}
use Rattle.hv_tree.specs.declared.token.Token.{Token}
use Rattle.hv_tree.specs.declared.token.TokenKind.{TokenKind}
use Rattle.hv_tree.specs.declared.token.TokenKind.TheVariants as kind
use Rattle.hv_syn_grammar.specs.Parser.{Parser, take, enter, done, ◌>>=◌, many}
use Rattle.hv_tree.specs.Refusal.{is_mark}

abbrev pub is_keyword_kind : List ℕ → TokenKind → Bool
is_keyword_kind s (kind.Keyword t) = bytes_eq t s
is_keyword_kind s _ = false

abbrev pub is_keyword : List ℕ → Token → Bool
is_keyword s k = is_keyword_kind s k.kind

abbrev pub is_word_kind : TokenKind → Bool
is_word_kind (kind.Word t) = true
is_word_kind _ = false

abbrev pub is_word : Token → Bool
is_word k = is_word_kind k.kind

abbrev pub is_number_kind : TokenKind → Bool
is_number_kind (kind.Number n) = true
is_number_kind _ = false

abbrev pub is_number : Token → Bool
is_number k = is_number_kind k.kind

abbrev pub text_of : TokenKind → List ℕ
text_of (kind.Word t) = t
text_of (kind.Keyword t) = t
text_of (kind.Mark t) = t
text_of (kind.Number n) = []

abbrev pub value_of : TokenKind → ℤ
value_of (kind.Number n) = n
value_of _ = pos 0

abbrev pub name_of : Token → Name
name_of k = record { text = text_of k.kind; place = k.place }

abbrev pub place_at : Token → Place
place_at k = k.place

abbrev pub number_of : Token → ℤ × Place
number_of k = (value_of k.kind, k.place)

-- ---- a token, and what follows it

-- what the next token holds, which passes the test
unfoldable pub expect : {V : Type 0} → (Token → Bool) → (Token → V) → Parser V
expect test get = take test >>= (λ k. done (get k))

-- the same for an opening bracket, where d more of them may be open
unfoldable pub expect_opening : {V : Type 0} → ℕ → (Token → Bool) → (Token → V) → Parser V
expect_opening d test get = enter d test >>= (λ k. done (get k))

abbrev pub after_mark : {A : Type 0} → List ℕ → (Place → Parser A) → Parser A
after_mark s q = expect (is_mark s) place_at >>= q

abbrev pub after_keyword : {A : Type 0} → List ℕ → (Place → Parser A) → Parser A
after_keyword s q = expect (is_keyword s) place_at >>= q

abbrev pub after_word : {A : Type 0} → (Name → Parser A) → Parser A
after_word q = expect is_word name_of >>= q

abbrev pub after_number : {A : Type 0} → (ℤ × Place → Parser A) → Parser A
after_number q = expect is_number number_of >>= q

abbrev pub after_bracket : {A : Type 0} → ℕ → List ℕ → (Place → Parser A) → Parser A
after_bracket d s q = expect_opening d (is_mark s) place_at >>= q

-- ---- parts with commas between

unfoldable pub more_parts : {A : Type 0} → Parser A → Parser (List A)
more_parts p = many (is_mark (codes ",")) (after_mark (codes ",") (λ comma. p))

-- one or more
unfoldable pub separated : {A : Type 0} → Parser A → Parser (List A)
separated p = p >>= (λ x. more_parts p >>= (λ xs. done (x ∷ xs)))
