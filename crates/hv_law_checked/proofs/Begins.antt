-- The tokens of a source begin inside it, each behind those before it.
use Rattle.std.proofs.Common.{◌≡◌, ◌<◌, ◌≤◌, ℕ, zero, suc, ◌+◌, List, [], ◌∷◌, ◌++◌, length, take, Option, Some, None, Contains, refl, sym, ap, subst, ◌∙◌, arith}
use Rattle.std.specs.List.{concat, filter, slice_get, All, AllPairs}
use Rattle.std.specs.Str.{encode_utf8_all}
use Rattle.std.specs.Str.Lossy.{utf8_valid_len}
use Rattle.std.proofs.lemmas.List.{length-take-le}
use Rattle.std.proofs.lemmas.List.Elements.{All-nil, All-cons, All-append, All-weaker, All-filter, All-contains}
use Rattle.std.proofs.lemmas.List.Kept.{AllPairs-cons, AllPairs-filter}
use Rattle.std.proofs.lemmas.Str.{utf8_valid_len_le}
use Rattle.hv_tree.specs.declared.token.Token.{Token}
use Rattle.hv_tree.specs.declared.token.TokenKind.{TokenKind}
use Rattle.hv_tree.specs.declared.refusal.Refusal.{Refusal}
use Rattle.hv_tree.specs.Tokens.{Tokens}
use Rattle.hv_token.specs.Pieces.{kind_of, width}
use Rattle.hv_token.specs.Lexes.{AreLongest, order_mark, body, tokens_at, tokens_from, begins_before, most_bytes, Violates, too_long, ill_formed, no_piece, too_great, Lexes}
use Rattle.hv_token.proofs.Cuts.{width_append, width_concat, wide, wide_some}
use Rattle.hv_token.proofs.Lexing.{marked_whole}
use Rattle.hv_law_places.specs.TokenPlaces.{Before, Rise}
use Rattle.hv_lemmas.proofs.Each.{Each}
use Rattle.hv_law_places.proofs.Counted.{Rises, rises}
use Rattle.hv_law_checked.specs.Inside.{LiesIn, BeginApart}

-- the token begins between these bytes
abbrev Within : ℕ → ℕ → Token → Type 0
Within from to k = (from ≤ k.place.start) × (k.place.start < to)

begins_at : (start : ℕ) (text : List ℕ) (kind : Option TokenKind) → 0 < width text → All (Within start (start + width text)) (tokens_at start kind)
begins_at start text None w = All-nil (Within start (start + width text))
begins_at start text (Some kind) w =
    All-cons (Within start (start + width text)) (record { kind = kind; place = record { start = start } }) [] (omega arith, omega (arith, w)) (All-nil (Within start (start + width text)))

within : (start : ℕ) (texts : List (List ℕ)) (rest : List ℕ) → AreLongest texts rest → All (Within start (start + width (concat texts))) (tokens_from start texts)
within start [] rest h = All-nil (Within start (start + width (concat [])))
within start (text ∷ texts) rest h =
    let whole : width (text ++ concat texts) ≡ width text + width (concat texts) = width_append text (concat texts) in
    let P = Within start (start + width (text ++ concat texts)) in
    All-append P (tokens_at start (kind_of text)) (tokens_from (start + width text) texts)
    (All-weaker (Within start (start + width text)) P (λ k i. (i.0, omega (arith, i.1, whole))) (tokens_at start (kind_of text)) (begins_at start text (kind_of text) (wide text h.0.piece)))
    (All-weaker (Within (start + width text) ((start + width text) + width (concat texts))) P (λ k i. (omega (arith, i.0), omega (arith, i.1, whole))) (tokens_from (start + width text) texts)
    (within (start + width text) texts rest h.1))

no_pairs : AllPairs Before []
no_pairs = λ i j d l m. absurd (omega (arith, l, m))

rise_behind : (start from to : ℕ) (kind : Option TokenKind) (ts : Tokens) → start < from → All (Within from to) ts → Rise ts → Rise (tokens_at start kind ++ ts)
rise_behind start from to None ts l h r = r
rise_behind start from to (Some kind) ts l h r =
    let k : Token = record { kind = kind; place = record { start = start } } in
    AllPairs-cons Before k ts (All-weaker (Within from to) (Before k) (λ m i. omega (arith, l, i.0)) ts h) r

rise : (start : ℕ) (texts : List (List ℕ)) (rest : List ℕ) → AreLongest texts rest → Rise (tokens_from start texts)
rise start [] rest h = no_pairs
rise start (text ∷ texts) rest h =
    let next = start + width text in
    rise_behind start next (next + width (concat texts)) (kind_of text) (tokens_from next texts) (omega (arith, wide text h.0.piece)) (within next texts rest h.1) (rise next texts rest h.1)

pub tokens_rise : (bytes : List ℕ) (tokens : Tokens) (stop : Option Refusal) → Lexes bytes tokens stop → Rise tokens
tokens_rise bytes tokens stop h =
    let start = width (order_mark h.characters) in
    subst Rise (sym h.before) (AllPairs-filter Before (begins_before stop) (tokens_from start h.texts) (rise start h.texts h.rest h.cut.longest))

-- the pieces, and what is left behind them, end inside the source
pieces_end : (bytes : List ℕ) (tokens : Tokens) (stop : Option Refusal) (h : Lexes bytes tokens stop) → width (order_mark h.characters) + (width (concat h.texts) + width h.rest) ≤ length bytes
pieces_end bytes tokens stop h =
    let n = utf8_valid_len bytes in
    let short : n ≤ length bytes = utf8_valid_len_le bytes in
    let all : width h.characters ≡ n = ap length h.front ∙ length-take-le n bytes short in
    let parts : width h.characters ≡ width (order_mark h.characters) + width (body h.characters) = ap width (marked_whole h.characters) ∙ width_append (order_mark h.characters) (body h.characters) in
    let cut : width (body h.characters) ≡ width (concat h.texts) + width h.rest = ap width h.cut.whole ∙ width_append (concat h.texts) h.rest in
    omega (arith, short, all, parts, cut)

pub tokens_begin : (bytes : List ℕ) (tokens : Tokens) (stop : Option Refusal) → Lexes bytes tokens stop → (token : Token) → Contains tokens token → LiesIn bytes token.place
tokens_begin bytes tokens stop h token i =
    let start = width (order_mark h.characters) in
    let P = Within start (start + width (concat h.texts)) in
    let all : All P tokens = subst (All P) (sym h.before) (All-filter (begins_before stop) P (tokens_from start h.texts) (within start h.texts h.rest h.cut.longest)) in
    let at = All-contains P tokens token all i in
    omega (arith, at.1, pieces_end bytes tokens stop h)

-- where a rule of tokens is violated, by the bytes that there are
stop_at : (bytes : List ℕ) (start : ℕ) (texts : List (List ℕ)) (rest : List ℕ) (r : Refusal) → start + (width (concat texts) + width rest) ≤ length bytes → AreLongest texts rest → Violates bytes start texts rest r → LiesIn bytes r.place
stop_at bytes start texts rest r h k (too_long l e) = subst (λ r. LiesIn bytes r.place) (sym e) (omega (arith, l))
stop_at bytes start texts rest r h k (ill_formed l e) = subst (λ r. LiesIn bytes r.place) (sym e) l
stop_at bytes start texts rest r h k (no_piece c cs i e) =
    let some : 0 < width rest = subst (λ rest. 0 < width rest) (sym i) (wide_some c cs) in subst (λ r. LiesIn bytes r.place) (sym e) (omega (arith, some, h))
stop_at bytes start texts rest r h k (too_great before text after i n g e) =
    let longest : AreLongest (before ++ text ∷ after) rest = subst (λ texts. AreLongest texts rest) i k in
    let all : width (concat texts) ≡ width (concat before) + width (concat (text ∷ after)) = ap (λ texts. width (concat texts)) i ∙ width_concat before (text ∷ after) in
    let first : width (concat (text ∷ after)) ≡ width text + width (concat after) = width_append text (concat after) in
    subst (λ r. LiesIn bytes r.place) (sym e) (omega (arith, all, first, wide_in before text after rest longest, h))
  where
    wide_in : (before : List (List ℕ)) (text : List ℕ) (after : List (List ℕ)) (rest : List ℕ) → AreLongest (before ++ text ∷ after) rest → 0 < width text
    wide_in [] text after rest h = wide text h.0.piece
    wide_in (b ∷ before) text after rest h = wide_in before text after rest h.1

pub stop_lies : (bytes : List ℕ) (tokens : Tokens) (stop : Refusal) → Lexes bytes tokens (Some stop) → LiesIn bytes stop.place
stop_lies bytes tokens stop h = stop_at bytes (width (order_mark h.characters)) h.texts h.rest stop (pieces_end bytes tokens (Some stop) h) h.cut.longest h.first.0

-- ---- tokens that rise are apart

same : (a b : Token) → Some a ≡ Some b → a ≡ b
same a b e = cc

behind : (k : Token) (ts : Tokens) → Each (Before k) ts → (n : ℕ) (b : Token) → slice_get ts n ≡ Some b → k.place.start < b.place.start
behind k [] h n b e = absurd (cc)
behind k (x ∷ ts) h zero b e = subst (Before k) (same x b e) h.0
behind k (x ∷ ts) h (suc n) b e = behind k ts h.1 n b e

apart : (ts : Tokens) → Rises ts → BeginApart ts
apart [] h m n a b e f i = absurd (cc)
apart (k ∷ ts) h zero zero a b e f i = refl
apart (k ∷ ts) h zero (suc n) a b e f i = absurd (omega (arith, behind k ts h.0 n b f, ap (λ (t : Token). t.place.start) (same k a e), i))
apart (k ∷ ts) h (suc m) zero a b e f i = absurd (omega (arith, behind k ts h.0 m a e, ap (λ (t : Token). t.place.start) (same k b f), i))
apart (k ∷ ts) h (suc m) (suc n) a b e f i = ap suc (apart ts h.1 m n a b e f i)

pub tokens_apart : (bytes : List ℕ) (tokens : Tokens) (stop : Option Refusal) → Lexes bytes tokens stop → BeginApart tokens
tokens_apart bytes tokens stop h = apart tokens (rises tokens (tokens_rise bytes tokens stop h))
