-- The bytes of pieces that stay apart are read as the tokens among them.
use Rattle.std.proofs.Common.{◌≡◌, inl, inr, ℕ, ◌+◌, ◌≤◌, length, take, true, List, [], ◌∷◌, ◌++◌, Some, None, refl, sym, ap, ◌∙◌, subst, arith, append_assoc, append-nil, length-append}
use Rattle.std.specs.Str.{IsUtf8, encode_utf8_all}
use Rattle.std.specs.Str.Lossy.{utf8_valid_len}
use Rattle.std.proofs.lemmas.Str.{encodes-append, IsUtf8-append, IsUtf8-nil, utf8_valid_len-IsUtf8}
use Rattle.hv_tree.specs.Tokens.{Tokens}
use Rattle.hv_token.specs.Pieces.{is_number, value_of, kind_of, width}
use Rattle.hv_token.specs.Lexes.{tokens_at, greatest, most_bytes, order_mark, body, Lexes}
use Rattle.hv_token.specs.Cutting.{Cut, cut}
use Rattle.hv_token.proofs.Longest.{Answer, cut_right}
use Rattle.hv_token.proofs.Lexing.{Lexing, lexing_start, lexing_step, ended}
use Rattle.hv_print.specs.Pieces.{Piece, piece_bytes, bytes_of, token_at, tokens_of}
use Rattle.hv_print.proofs.Fits.{fits, AreApart}
use Rattle.hv_print.proofs.Cutting.{CutsOff}
use Rattle.hv_print.proofs.PieceReads.{piece_chars, Follows, PieceReads, piece_reads}

abbrev pub chars_of : List Piece → List ℕ
chars_of [] = []
chars_of (p ∷ more) = piece_chars p ++ chars_of more

follows : (p : Piece) (more : List Piece) → fits p (more ++ []) ≡ true → AreApart more [] → Follows p (chars_of more)
follows p [] f h = inl refl
follows p (q ∷ more) f h = inr (q, chars_of more, refl, h.0, f)

first_reads : (p : Piece) (more : List Piece) → AreApart (p ∷ more) [] → PieceReads p (chars_of more)
first_reads p more h = piece_reads p (chars_of more) h.0 (follows p more h.1 h.2)

-- ---- the characters spell the bytes

spelled_bytes : (ps : List Piece) → AreApart ps [] → encode_utf8_all (chars_of ps) ≡ bytes_of ps
spelled_bytes [] h = refl
spelled_bytes (p ∷ more) h =
    encodes-append (piece_chars p) (chars_of more)
    ∙ ap (λ x. x ++ encode_utf8_all (chars_of more)) (first_reads p more h).spelled
    ∙ ap (λ x. piece_bytes p ++ x) (spelled_bytes more h.2)

utf8_bytes : (ps : List Piece) → AreApart ps [] → IsUtf8 (bytes_of ps)
utf8_bytes [] h = IsUtf8-nil
utf8_bytes (p ∷ more) h = IsUtf8-append (piece_bytes p) (bytes_of more) (first_reads p more h).utf8 (utf8_bytes more h.2)

take_all : (bs : List ℕ) → take (length bs) bs ≡ bs
take_all [] = refl
take_all (b ∷ bs) = ap (λ x. b ∷ x) (take_all bs)

-- ---- one piece after the other

module _ (characters : List ℕ) where
  step : (tokens : Tokens) (at : ℕ) (left text after : List ℕ) (t : Cut) → Answer left t → CutsOff t text after → Lexing characters tokens at left → (is_number text ≡ true → value_of text ≤ greatest) →
      Lexing characters (tokens ++ tokens_at at (kind_of text)) (at + width text) after
  step tokens at left text after None a c l fits = absurd (cc)
  step tokens at left text after (Some q) a c l fits =
      subst (λ text. (is_number text ≡ true → value_of text ≤ greatest) → Lexing characters (tokens ++ tokens_at at (kind_of text)) (at + width text) after) c.1
      (λ fits. subst (λ after. Lexing characters (tokens ++ tokens_at at (kind_of q.1)) (at + width q.1) after) c.2 (lexing_step characters tokens at left q.0 q.1 q.2 l a fits)) fits

  read_on : (tokens : Tokens) (at : ℕ) (ps : List Piece) → AreApart ps [] → Lexing characters tokens at (chars_of ps) → Lexing characters (tokens ++ tokens_of at ps) (at + length (bytes_of ps)) []
  read_on tokens at [] h l =
      let same : at ≡ at + length (bytes_of []) = omega arith in
      subst (λ n. Lexing characters (tokens ++ []) n []) same (subst (λ ts. Lexing characters ts at []) (sym (append-nil tokens)) l)
  read_on tokens at (p ∷ more) h l =
      let r = first_reads p more h in
      let left = piece_chars p ++ chars_of more in
      let next = at + length (piece_bytes p) in
      let one = step tokens at left (piece_chars p) (chars_of more) (cut left) (cut_right left) r.cuts l r.fits in
      let two = subst (λ ts. Lexing characters (tokens ++ ts) (at + width (piece_chars p)) (chars_of more)) (r.token at) one in
      let three = subst (λ bs. Lexing characters (tokens ++ token_at at p) (at + length bs) (chars_of more)) r.spelled two in
      let rest = read_on (tokens ++ token_at at p) next more h.2 three in
      let place : next + length (bytes_of more) ≡ at + length (piece_bytes p ++ bytes_of more) = omega (arith, length-append (piece_bytes p) (bytes_of more)) in
      subst (λ n. Lexing characters (tokens ++ (token_at at p ++ tokens_of next more)) n []) place
      (subst (λ ts. Lexing characters ts (next + length (bytes_of more)) []) (append_assoc tokens (token_at at p) (tokens_of next more)) rest)

pub lexed : (ps : List Piece) → AreApart ps [] → order_mark (chars_of ps) ≡ [] → body (chars_of ps) ≡ chars_of ps → length (bytes_of ps) ≤ most_bytes → Lexes (bytes_of ps) (tokens_of 0 ps) None
lexed ps h no_mark all short =
    let characters = chars_of ps in
    let valid : utf8_valid_len (bytes_of ps) ≡ length (bytes_of ps) = utf8_valid_len-IsUtf8 (bytes_of ps) (utf8_bytes ps h) in
    let e : encode_utf8_all characters ≡ take (utf8_valid_len (bytes_of ps)) (bytes_of ps) = spelled_bytes ps h ∙ sym (take_all (bytes_of ps)) ∙ ap (λ n. take n (bytes_of ps)) (sym valid) in
    let start = subst (λ cs. Lexing characters [] (width (order_mark characters)) cs) all (lexing_start characters) in
    let begun : Lexing characters [] 0 characters = subst (λ m. Lexing characters [] (width m) characters) no_mark start in
    ended (bytes_of ps) characters (tokens_of 0 ps) (0 + length (bytes_of ps)) [] e short (read_on characters [] 0 ps h begun) refl (omega (arith, valid))
