-- The tokens that are read of a source have spellings that a lexer makes.
use Rattle.std.proofs.Common.{◌≡◌, ℕ, ◌+◌, ◌<◌, ◌≤◌, pos, Bool, true, false, List, [], ◌∷◌, ◌++◌, Option, Some, None, refl, sym, ap, ◌∙◌, subst}
use Rattle.std.specs.Prelude.{if◌then◌else◌, ◌==◌, nat_lt}
use Rattle.std.specs.List.{concat}
use Rattle.std.specs.Str.{encode_utf8_all, all_scalars}
use Rattle.std.proofs.lemmas.Bool.{and_parts, ltb-true, ltb-false}
use Rattle.std.proofs.lemmas.List.Folds.{list_all-append}
use Rattle.std.proofs.lemmas.Str.{chars-encodes, encodes_same, encodes-IsAscii}
use Rattle.hv_tree.specs.declared.ast.Tree.{Tree}
use Rattle.hv_tree.specs.declared.token.TokenKind.{TokenKind}
use Rattle.hv_tree.specs.declared.token.TokenKind.TheVariants as kind
use Rattle.hv_tree.specs.Tokens.{Tokens}
use Rattle.hv_tree.specs.Grammar.{Spells}
use Rattle.hv_token.specs.Characters.{is_keyword}
use Rattle.hv_token.specs.Pieces.{is_word, is_number, is_mark, value_of, word_kind, kind_of, width}
use Rattle.hv_token.specs.Lexes.{order_mark, body, tokens_at, tokens_from, greatest, too_great, Lexes}
use Rattle.hv_token.proofs.Stops.{all_kept}
use Rattle.hv_token.proofs.Turns.{valid_is_text}
use Rattle.hv_print.specs.Spellings.{AreSpelled}
use Rattle.hv_print.specs.ReadBack.{IsWritten}
use Rattle.hv_print.proofs.PieceReads.{mark_ascii}

-- ---- one text

abbrev spelled_at : ℕ → Option TokenKind → Type 0
spelled_at start kind = AreSpelled (tokens_at start kind)

word_spelled : (start : ℕ) (text : List ℕ) → all_scalars text ≡ true → is_word text ≡ true → (b : Bool) → is_keyword (encode_utf8_all text) ≡ b → spelled_at start (Some (if b then kind.Keyword (encode_utf8_all text) else kind.Word (encode_utf8_all text)))
word_spelled start text s w true e = (e, tt)
word_spelled start text s w false e = (record { utf8 = (text, (s, refl)); word = ap is_word (chars-encodes text s) ∙ w; free = e }, tt)

by_kind : (start : ℕ) (text : List ℕ) → all_scalars text ≡ true → (is_number text ≡ true → value_of text ≤ greatest) → (w n m : Bool) → is_word text ≡ w → is_number text ≡ n → is_mark text ≡ m →
    spelled_at start (if w then Some (word_kind (encode_utf8_all text)) else (if n then Some (kind.Number (pos (value_of text))) else (if m then Some (kind.Mark (encode_utf8_all text)) else None)))
by_kind start text s fits true n m ew en em = word_spelled start text s ew (is_keyword (encode_utf8_all text)) refl
by_kind start text s fits false true m ew en em = (record { value = value_of text; is = refl; fits = fits en }, tt)
by_kind start text s fits false false true ew en em = (ap is_mark (encodes-IsAscii text (mark_ascii text em)) ∙ em, tt)
by_kind start text s fits false false false ew en em = tt

text_spelled : (start : ℕ) (text : List ℕ) → all_scalars text ≡ true → (is_number text ≡ true → value_of text ≤ greatest) → spelled_at start (kind_of text)
text_spelled start text s fits = by_kind start text s fits (is_word text) (is_number text) (is_mark text) refl refl refl

-- ---- all of them

both_spelled : (a b : Tokens) → AreSpelled a → AreSpelled b → AreSpelled (a ++ b)
both_spelled [] b h k = k
both_spelled (t ∷ a) b h k = (h.0, both_spelled a b h.1 k)

scalar_parts : (a b : List ℕ) → all_scalars (a ++ b) ≡ true → (all_scalars a ≡ true) × (all_scalars b ≡ true)
scalar_parts a b e = and_parts (all_scalars a) (all_scalars b) (sym (list_all-append _ a b) ∙ e)

-- no text stands for a number that is too great
abbrev AllFit : List (List ℕ) → Type 0
AllFit texts = (before : List (List ℕ)) (text : List ℕ) (after : List (List ℕ)) → texts ≡ before ++ text ∷ after → is_number text ≡ true → value_of text ≤ greatest

all_spelled : (start : ℕ) (texts : List (List ℕ)) → all_scalars (concat texts) ≡ true → AllFit texts → AreSpelled (tokens_from start texts)
all_spelled start [] s fits = tt
all_spelled start (t ∷ ts) s fits =
    let q = scalar_parts t (concat ts) s in
    both_spelled (tokens_at start (kind_of t)) (tokens_from (start + width t) ts) (text_spelled start t q.0 (fits [] t ts refl))
    (all_spelled (start + width t) ts q.1 (λ before text after e. fits (t ∷ before) text after (ap (λ l. t ∷ l) e)))

-- ---- a source that is read

scalar_body : (cs : List ℕ) → all_scalars cs ≡ true → all_scalars (body cs) ≡ true
scalar_body [] s = refl
scalar_body (c ∷ cs) s = at (c == 65279) (scalar_parts (c ∷ []) cs s).1
  where
    at : (b : Bool) → all_scalars cs ≡ true → all_scalars (if b then cs else c ∷ cs) ≡ true
    at true h = h
    at false h = s

no_greater : (v : ℕ) → (greatest < v → ⊥) → v ≤ greatest
no_greater v h = at (nat_lt greatest v) refl
  where
    at : (b : Bool) → nat_lt greatest v ≡ b → v ≤ greatest
    at true e = absurd (h (ltb-true greatest v e))
    at false e = ltb-false greatest v e

pub read_spelled : (bytes : List ℕ) (tokens : Tokens) → Lexes bytes tokens None → AreSpelled tokens
read_spelled bytes tokens l =
    let valid = valid_is_text bytes in
    let cs : valid.0 ≡ l.characters = encodes_same valid.0 l.characters (valid.1.1 ∙ sym l.front) in
    let all = scalar_body l.characters (subst (λ cs. all_scalars cs ≡ true) cs valid.1.0) in
    let texts = (scalar_parts (concat l.texts) l.rest (ap all_scalars (sym l.cut.whole) ∙ all)).0 in
    let start = width (order_mark l.characters) in
    let fits : AllFit l.texts = λ before text after e n. no_greater (value_of text) (λ big. l.first _ (too_great before text after e n big refl)) in
    subst AreSpelled (sym (l.before ∙ all_kept (tokens_from start l.texts))) (all_spelled start l.texts texts fits)

pub read_written : (bytes : List ℕ) (tokens : Tokens) (tree : Tree) → Lexes bytes tokens None → Spells tree tokens → IsWritten tree
read_written bytes tokens tree l s = record { tokens = tokens; spells = s; spelled = read_spelled bytes tokens l }
