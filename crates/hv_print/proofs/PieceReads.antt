-- Each piece that fits what stands behind it is cut off there, and is the token that it stands for.
use Rattle.std.proofs.Common.{◌≡◌, ◌⊎◌, inl, inr, ℕ, zero, suc, ◌<◌, ◌≤◌, length, ℤ, pos, Bool, true, false, List, [], ◌∷◌, ◌++◌, Option, Some, None, codes, refl, sym, ap, ◌∙◌, subst, arith}
use Rattle.std.specs.Prelude.{if◌then◌else◌, ◌||◌, ◌&&◌, ◌==◌, not, nat_lt}
use Rattle.std.specs.Char.{is_ascii_alphabetic, is_ascii_alphanumeric}
use Rattle.std.specs.Fmt.{decimal, signed_decimal}
use Rattle.std.specs.List.{list_all}
use Rattle.std.specs.Str.{IsUtf8, chars, encode_utf8_all, IsAscii}
use Rattle.std.proofs.lemmas.Bool.{and_parts, and_from, ltb-true}
use Rattle.std.proofs.lemmas.Fmt.{IsAscii-decimal, decimal_nonempty}
use Rattle.std.proofs.lemmas.Str.{encodes-chars, encodes-IsAscii, IsUtf8-from_ascii}
use Rattle.unicode_ident.proofs.IdentLemmas.{is_xid_start-ascii, is_xid_continue-ascii}
use Rattle.hv_tree.specs.declared.token.TokenKind.{TokenKind}
use Rattle.hv_tree.specs.declared.token.TokenKind.TheVariants as kind
use Rattle.hv_tree.specs.declared.types.Name.{Name}
use Rattle.hv_token.specs.Characters.{among, is_any_of, marks, keywords, is_keyword, is_digit, starts_word, continues_word}
use Rattle.hv_token.specs.Pieces.{is_word, is_number, is_mark, value_of, word_kind, kind_of}
use Rattle.hv_token.specs.Lexes.{tokens_at, greatest}
use Rattle.hv_token.specs.Cutting.{cut}
use Rattle.hv_token.proofs.Shapes.{any_all, not_true, clash}
use Rattle.hv_print.specs.Pieces.{Piece, Space, LineFeed, WordOf, NumberOf, KeywordOf, MarkOf, piece_bytes, token_at}
use Rattle.hv_print.specs.Spellings.{IsWordText, IsNumeral}
use Rattle.hv_print.proofs.Numerals.{all_digits, value_back}
use Rattle.hv_print.proofs.Fits.{IsGood, sealed, breaks, opens, may_follow}
use Rattle.hv_print.proofs.Cutting.{Ends, CutsOff, cut_word, cut_number, cut_mark, Starts, BeginsMark, mark_begun, mark_test, sealed_test, from_no_start, from_no_continue, tested_mark, tested_sealed, start_digit, start_seconds, digit_starts, digit_seconds}

abbrev pub piece_chars : Piece → List ℕ
piece_chars Space = 32 ∷ []
piece_chars LineFeed = 10 ∷ []
piece_chars (WordOf name) = chars name.text
piece_chars (NumberOf z) = signed_decimal z
piece_chars (KeywordOf spelling) = spelling
piece_chars (MarkOf spelling) = spelling

-- ---- spellings in ASCII

abbrev low : ℕ → Bool
low c = nat_lt c 128

pub ascii_from : (bs : List ℕ) → list_all low bs ≡ true → IsAscii bs
ascii_from [] e i = omega arith
ascii_from (c ∷ cs) e zero = ltb-true c 128 (and_parts (low c) (list_all low cs) e).0
ascii_from (c ∷ cs) e (suc i) = ascii_from cs (and_parts (low c) (list_all low cs) e).1 i

keyword_ascii : (text : List ℕ) → is_any_of keywords text ≡ true → IsAscii text
keyword_ascii text e = ascii_from text (any_all (list_all low) keywords text refl e)

pub mark_ascii : (text : List ℕ) → is_any_of marks text ≡ true → IsAscii text
mark_ascii text e = ascii_from text (any_all (list_all low) marks text refl e)

-- ---- keywords are words

abbrev ascii_start : ℕ → Bool
ascii_start c = nat_lt c 128 && (is_ascii_alphabetic c || (c == 95))

from_ascii_start : (c : ℕ) → ascii_start c ≡ true → starts_word c ≡ true
from_ascii_start c e =
    let h = and_parts (nat_lt c 128) (is_ascii_alphabetic c || (c == 95)) e in
    ap (λ b. b || (c == 95)) (is_xid_start-ascii c (ltb-true c 128 h.0)) ∙ h.1

abbrev ascii_more : ℕ → Bool
ascii_more c = nat_lt c 128 && (is_ascii_alphanumeric c || (c == 95))

from_ascii_more : (cs : List ℕ) → list_all ascii_more cs ≡ true → list_all continues_word cs ≡ true
from_ascii_more [] e = refl
from_ascii_more (c ∷ cs) e =
    let h = and_parts (ascii_more c) (list_all ascii_more cs) e in
    let k = and_parts (nat_lt c 128) (is_ascii_alphanumeric c || (c == 95)) h.0 in
    and_from (continues_word c) (list_all continues_word cs) (is_xid_continue-ascii c (ltb-true c 128 k.0) ∙ k.1) (from_ascii_more cs h.1)

abbrev ascii_word : List ℕ → Bool
ascii_word [] = false
ascii_word (c ∷ cs) = ascii_start c && list_all ascii_more cs

pub from_ascii_word : (text : List ℕ) → ascii_word text ≡ true → is_word text ≡ true
from_ascii_word [] e = absurd (cc)
from_ascii_word (c ∷ cs) e =
    let h = and_parts (ascii_start c) (list_all ascii_more cs) e in
    and_from (starts_word c) (list_all continues_word cs) (from_ascii_start c h.0) (from_ascii_more cs h.1)

keyword_word : (text : List ℕ) → is_any_of keywords text ≡ true → is_word text ≡ true
keyword_word text e = from_ascii_word text (any_all ascii_word keywords text refl e)

-- ---- kinds

abbrev kinds : Bool → Bool → Bool → List ℕ → Option TokenKind
kinds w n m text = if w then Some (word_kind (encode_utf8_all text)) else (if n then Some (kind.Number (pos (value_of text))) else (if m then Some (kind.Mark (encode_utf8_all text)) else None))

word_kind_of : (text : List ℕ) → is_word text ≡ true → kind_of text ≡ Some (word_kind (encode_utf8_all text))
word_kind_of text w = ap (λ w. kinds w (is_number text) (is_mark text) text) w

number_kind_of : (text : List ℕ) → is_word text ≡ false → is_number text ≡ true → kind_of text ≡ Some (kind.Number (pos (value_of text)))
number_kind_of text w n = ap (λ w. kinds w (is_number text) (is_mark text) text) w ∙ ap (λ n. kinds false n (is_mark text) text) n

mark_kind_of : (text : List ℕ) → is_word text ≡ false → is_number text ≡ false → is_mark text ≡ true → kind_of text ≡ Some (kind.Mark (encode_utf8_all text))
mark_kind_of text w n m = ap (λ w. kinds w (is_number text) (is_mark text) text) w ∙ ap (λ n. kinds false n (is_mark text) text) n ∙ ap (λ m. kinds false false m text) m

no_kind_of : (text : List ℕ) → is_word text ≡ false → is_number text ≡ false → is_mark text ≡ false → kind_of text ≡ None
no_kind_of text w n m = ap (λ w. kinds w (is_number text) (is_mark text) text) w ∙ ap (λ n. kinds false n (is_mark text) text) n ∙ ap (λ m. kinds false false m text) m

no_and : (a b : Bool) → a ≡ false → (a && b) ≡ false
no_and a b e = ap (λ a. a && b) e

word_no_number : (text : List ℕ) → is_word text ≡ true → is_number text ≡ false
word_no_number [] w = refl
word_no_number (c ∷ cs) w = no_and (is_digit c) (list_all is_digit cs) (start_digit c (and_parts (starts_word c) (list_all continues_word cs) w).0)

number_no_word : (text : List ℕ) → is_number text ≡ true → is_word text ≡ false
number_no_word [] n = refl
number_no_word (c ∷ cs) n = no_and (starts_word c) (list_all continues_word cs) (digit_starts c (and_parts (is_digit c) (list_all is_digit cs) n).0)

-- ---- marks

begun : (text : List ℕ) → mark_test text ≡ true → (c : ℕ) (cs : List ℕ) → text ≡ c ∷ cs → BeginsMark c
begun [] e c cs is = absurd (cc)
begun (b ∷ []) e c cs is = let same : b ≡ c = cc in subst BeginsMark same (mark_begun b (and_parts _ _ e).1)
begun (b ∷ d ∷ []) e c cs is = let same : b ≡ c = cc in subst BeginsMark same (mark_begun b (and_parts _ _ e).1)
begun (b ∷ d ∷ f ∷ bs) e c cs is = absurd (cc)

mark_no_word : (text : List ℕ) → mark_test text ≡ true → is_word text ≡ false
mark_no_word [] e = refl
mark_no_word (c ∷ cs) e = no_and (starts_word c) (list_all continues_word cs) (begun (c ∷ cs) e c cs refl).start

mark_no_number : (text : List ℕ) → mark_test text ≡ true → is_number text ≡ false
mark_no_number [] e = refl
mark_no_number (c ∷ cs) e = no_and (is_digit c) (list_all is_digit cs) (begun (c ∷ cs) e c cs refl).digit

-- ---- numbers

record NumeralReads (z : ℤ) : Type 0 where
  pub first : ℕ
  pub more : List ℕ
  pub is : signed_decimal z ≡ first ∷ more
  pub digit : is_digit first ≡ true
  pub digits : list_all is_digit more ≡ true
  pub value : pos (value_of (signed_decimal z)) ≡ z
  pub fits : value_of (signed_decimal z) ≤ greatest
  pub ascii : IsAscii (signed_decimal z)

numeral_by : (z : ℤ) (n : ℕ) → z ≡ pos n → n ≤ greatest → (ds : List ℕ) → decimal n ≡ ds → NumeralReads z
numeral_by z n is le [] e =
    let some = decimal_nonempty n (omega (arith, le)) in
    absurd (omega (arith, some, ap length e))
numeral_by z n is le (c ∷ cs) e =
    let small : n < 18446744073709551616 = omega (arith, le) in
    let all = and_parts (is_digit c) (list_all is_digit cs) (subst (λ ds. list_all is_digit ds ≡ true) e (all_digits n small)) in
    let text : signed_decimal z ≡ decimal n = ap signed_decimal is in
    let back : value_of (signed_decimal z) ≡ n = ap value_of text ∙ value_back n small in
    record {
      first = c;
      more = cs;
      is = text ∙ e;
      digit = all.0;
      digits = all.1;
      value = ap pos back ∙ sym is;
      fits = omega (arith, back, le);
      ascii = subst IsAscii (sym text) (IsAscii-decimal n (omega (arith, le)));
    }

numeral_reads : (z : ℤ) → IsNumeral z → NumeralReads z
numeral_reads z h = numeral_by z h.value h.is h.fits (decimal h.value) refl

-- ---- what comes next

word_starts : (more w : List ℕ) → is_word w ≡ true → Starts (w ++ more)
word_starts more [] e = absurd (cc)
word_starts more (c ∷ cs) e = start_seconds c (and_parts (starts_word c) (list_all continues_word cs) e).0

abbrev starts_test : List ℕ → Bool
starts_test [] = false
starts_test (c ∷ cs) = not (among (61 ∷ 38 ∷ 124 ∷ 62 ∷ 47 ∷ []) c)

mark_starts : (more w : List ℕ) → starts_test w ≡ true → Starts (w ++ more)
mark_starts more [] e = absurd (cc)
mark_starts more (c ∷ cs) e = not_true (among (61 ∷ 38 ∷ 124 ∷ 62 ∷ 47 ∷ []) c) e

opened : (q : Piece) (more : List ℕ) → IsGood q → opens q ≡ true → Starts (piece_chars q ++ more)
opened Space more g e = refl
opened LineFeed more g e = refl
opened (WordOf name) more g e = word_starts more (chars name.text) g.word
opened (NumberOf z) more g e =
    let r = numeral_reads z g in
    subst (λ w. Starts (w ++ more)) (sym r.is) (digit_seconds r.first r.digit)
opened (KeywordOf text) more g e = word_starts more text (keyword_word text g)
opened (MarkOf text) more g e = mark_starts more text (any_all starts_test (codes "(" ∷ codes "[" ∷ []) text refl e)

abbrev Broken : List ℕ → Type 0
Broken after = Ends continues_word after × Ends is_digit after

mark_breaks : (more w : List ℕ) → mark_test w ≡ true → Broken (w ++ more)
mark_breaks more [] e = absurd (cc)
mark_breaks more (c ∷ cs) e = let b = begun (c ∷ cs) e c cs refl in (b.more, b.digit)

broken : (q : Piece) (more : List ℕ) → IsGood q → breaks q ≡ true → Broken (piece_chars q ++ more)
broken Space more g e = (from_no_continue 32 refl, refl)
broken LineFeed more g e = (from_no_continue 10 refl, refl)
broken (WordOf name) more g e = absurd (cc)
broken (NumberOf z) more g e = absurd (cc)
broken (KeywordOf text) more g e = absurd (cc)
broken (MarkOf text) more g e = mark_breaks more text (tested_mark text g)

-- ---- pieces

-- the piece is cut off where these characters stand behind it, and is the token that it stands for
pub record PieceReads (p : Piece) (after : List ℕ) : Type 0 where
  pub cuts : CutsOff (cut (piece_chars p ++ after)) (piece_chars p) after
  pub token : (at : ℕ) → tokens_at at (kind_of (piece_chars p)) ≡ token_at at p
  pub fits : is_number (piece_chars p) ≡ true → value_of (piece_chars p) ≤ greatest
  pub spelled : encode_utf8_all (piece_chars p) ≡ piece_bytes p
  pub utf8 : IsUtf8 (piece_bytes p)

space_reads : (after : List ℕ) → PieceReads Space after
space_reads after = record {
  cuts = (refl, refl, refl);
  token = λ at. ap (tokens_at at) (no_kind_of (32 ∷ []) (no_and (starts_word 32) true (from_no_start 32 refl)) refl refl);
  fits = λ e. absurd cc;
  spelled = encodes-IsAscii (32 ∷ []) (ascii_from (32 ∷ []) refl);
  utf8 = IsUtf8-from_ascii (32 ∷ []) (ascii_from (32 ∷ []) refl);
}

feed_reads : (after : List ℕ) → PieceReads LineFeed after
feed_reads after = record {
  cuts = (refl, refl, refl);
  token = λ at. ap (tokens_at at) (no_kind_of (10 ∷ []) (no_and (starts_word 10) true (from_no_start 10 refl)) refl refl);
  fits = λ e. absurd cc;
  spelled = encodes-IsAscii (10 ∷ []) (ascii_from (10 ∷ []) refl);
  utf8 = IsUtf8-from_ascii (10 ∷ []) (ascii_from (10 ∷ []) refl);
}

word_reads : (name : Name) (after : List ℕ) → IsWordText name.text → Ends continues_word after → PieceReads (WordOf name) after
word_reads name after g e =
    let back : encode_utf8_all (chars name.text) ≡ name.text = encodes-chars name.text g.utf8 in
    record {
      cuts = cut_word (chars name.text) after g.word e;
      token = λ at. ap (tokens_at at) (word_kind_of (chars name.text) g.word ∙ ap (λ t. Some (word_kind t)) back ∙ ap (λ b. Some (if b then kind.Keyword name.text else kind.Word name.text)) g.free);
      fits = λ n. clash (is_number (chars name.text)) n (word_no_number (chars name.text) g.word);
      spelled = back;
      utf8 = g.utf8;
    }

number_reads : (z : ℤ) (after : List ℕ) → IsNumeral z → Ends is_digit after → PieceReads (NumberOf z) after
number_reads z after g e =
    let r = numeral_reads z g in
    let n : is_number (signed_decimal z) ≡ true = subst (λ w. is_number w ≡ true) (sym r.is) (and_from (is_digit r.first) (list_all is_digit r.more) r.digit r.digits) in
    record {
      cuts = subst (λ w. CutsOff (cut (w ++ after)) w after) (sym r.is) (cut_number r.first r.more after r.digit r.digits e);
      token = λ at. ap (tokens_at at) (number_kind_of (signed_decimal z) (number_no_word (signed_decimal z) n) n ∙ ap (λ z. Some (kind.Number z)) r.value);
      fits = λ n. r.fits;
      spelled = encodes-IsAscii (signed_decimal z) r.ascii;
      utf8 = IsUtf8-from_ascii (signed_decimal z) r.ascii;
    }

keyword_known : (text : List ℕ) → is_any_of keywords text ≡ true → is_keyword text ≡ true
unfolding is_keyword
keyword_known text e = e

keyword_reads : (text after : List ℕ) → is_any_of keywords text ≡ true → Ends continues_word after → PieceReads (KeywordOf text) after
keyword_reads text after g e =
    let w = keyword_word text g in
    let back = encodes-IsAscii text (keyword_ascii text g) in
    record {
      cuts = cut_word text after w e;
      token = λ at. ap (tokens_at at) (word_kind_of text w ∙ ap (λ t. Some (word_kind t)) back ∙ ap (λ b. Some (if b then kind.Keyword text else kind.Word text)) (keyword_known text g));
      fits = λ n. clash (is_number text) n (word_no_number text w);
      spelled = back;
      utf8 = IsUtf8-from_ascii text (keyword_ascii text g);
    }

mark_reads : (text after : List ℕ) → is_any_of marks text ≡ true → (sealed_test text ≡ true) ⊎ Starts after → PieceReads (MarkOf text) after
mark_reads text after g e =
    let t = tested_mark text g in
    let n = mark_no_number text t in
    let back = encodes-IsAscii text (mark_ascii text g) in
    record {
      cuts = cut_mark text after t e;
      token = λ at. ap (tokens_at at) (mark_kind_of text (mark_no_word text t) n g ∙ ap (λ t. Some (kind.Mark t)) back);
      fits = λ h. clash (is_number text) h n;
      spelled = back;
      utf8 = IsUtf8-from_ascii text (mark_ascii text g);
    }

-- what stands behind: nothing, or a good piece that may follow
abbrev pub Follows : Piece → List ℕ → Type 0
Follows p after = (after ≡ []) ⊎ ((q : Piece) × (more : List ℕ) × (after ≡ piece_chars q ++ more) × IsGood q × (may_follow p q ≡ true))

no_more : (after : List ℕ) → after ≡ [] → Broken after
no_more [] e = (tt, tt)
no_more (c ∷ after) e = absurd (cc)

nothing_starts : (after : List ℕ) → after ≡ [] → Starts after
nothing_starts [] e = tt
nothing_starts (c ∷ after) e = absurd (cc)

-- for a piece that only white space and marks may follow
ends_word : (p : Piece) (after : List ℕ) → ((q : Piece) → may_follow p q ≡ breaks q) → Follows p after → Broken after
ends_word p after same (inl e) = no_more after e
ends_word p after same (inr f) = subst Broken (sym f.2) (broken f.0 f.1 f.3 (sym (same f.0) ∙ f.4))

mark_follows : (text after : List ℕ) → Follows (MarkOf text) after → (sealed_test text ≡ true) ⊎ Starts after
mark_follows text after (inl e) = inr (nothing_starts after e)
mark_follows text after (inr f) = at (is_any_of sealed text) refl f.4
  where
    at : (b : Bool) → is_any_of sealed text ≡ b → (b || opens f.0) ≡ true → (sealed_test text ≡ true) ⊎ Starts after
    at true e h = inl (tested_sealed text e)
    at false e h = inr (subst Starts (sym f.2) (opened f.0 f.1 f.3 h))

pub piece_reads : (p : Piece) (after : List ℕ) → IsGood p → Follows p after → PieceReads p after
piece_reads Space after g f = space_reads after
piece_reads LineFeed after g f = feed_reads after
piece_reads (WordOf name) after g f = word_reads name after g (ends_word (WordOf name) after (λ q. refl) f).0
piece_reads (NumberOf z) after g f = number_reads z after g (ends_word (NumberOf z) after (λ q. refl) f).1
piece_reads (KeywordOf text) after g f = keyword_reads text after g (ends_word (KeywordOf text) after (λ q. refl) f).0
piece_reads (MarkOf text) after g f = mark_reads text after g (mark_follows text after f)
