-- Every source has tokens and a stop.
use Rattle.std.proofs.Common.{◌≡◌, ℕ, zero, suc, ◌≤◌, Bool, true, false, List, [], ◌∷◌, length, take, Option, Some, None, refl, arith}
use Rattle.std.specs.Prelude.{nat_lt}
use Rattle.std.specs.Str.{chars, encode_utf8_all}
use Rattle.std.specs.Str.Lossy.{utf8_valid_len}
use Rattle.std.proofs.lemmas.Bool.{ltb-true, ltb-false}
use Rattle.std.proofs.lemmas.Str.{encodes-chars}
use Rattle.hv_tree.specs.declared.token.Token.{Token}
use Rattle.hv_tree.specs.declared.refusal.Refusal.{Refusal}
use Rattle.hv_token.specs.declared.piece.Sort.{Sort}
use Rattle.hv_token.specs.Pieces.{is_number, value_of, width}
use Rattle.hv_token.specs.Lexes.{order_mark, body, most_bytes, greatest, Lexes}
use Rattle.hv_token.specs.Cutting.{Cut, cut}
use Rattle.hv_token.proofs.Shapes.{clash}
use Rattle.hv_token.proofs.Longest.{IsFront, Answer, cut_right}
use Rattle.hv_token.proofs.Cuts.{wide_some, shorter}
use Rattle.hv_token.proofs.Lexing.{Lexing, lexing_start, lexing_step, ended, ended_ill, ended_strange, ended_great}
use Rattle.hv_token.proofs.Turns.{valid_is_text, read_long}

abbrev pub HasTokens : List ℕ → Type 0
HasTokens bytes = (tokens : List Token) × (stop : Option Refusal) × Lexes bytes tokens stop

module _ (bytes characters : List ℕ) (e : encode_utf8_all characters ≡ take (utf8_valid_len bytes) bytes) (short : length bytes ≤ most_bytes) where
  at_end : (tokens : List Token) (at : ℕ) → Lexing characters tokens at [] → (b : Bool) → nat_lt (utf8_valid_len bytes) (length bytes) ≡ b → HasTokens bytes
  at_end tokens at l true t = (tokens, _, ended_ill bytes characters tokens at [] e short l refl (ltb-true (utf8_valid_len bytes) (length bytes) t))
  at_end tokens at l false t = (tokens, _, ended bytes characters tokens at [] e short l refl (ltb-false (utf8_valid_len bytes) (length bytes) t))

  at_none : (tokens : List Token) (at : ℕ) (left : List ℕ) → Lexing characters tokens at left → Answer left None → HasTokens bytes
  at_none tokens at [] l h = at_end tokens at l (nat_lt (utf8_valid_len bytes) (length bytes)) refl
  at_none tokens at (c ∷ cs) l h = (tokens, _, ended_strange bytes characters tokens at (c ∷ cs) e short l h (wide_some c cs) c cs refl)

  at_piece : (tokens : List Token) (at : ℕ) (left : List ℕ) (s : Sort) (text after : List ℕ) → Lexing characters tokens at left → IsFront left s text after →
      ((new : List Token) (place : ℕ) → Lexing characters new place after → HasTokens bytes) → (n b : Bool) → is_number text ≡ n → nat_lt greatest (value_of text) ≡ b → HasTokens bytes
  at_piece tokens at left s text after l f go false b m g = go _ _ (lexing_step characters tokens at left s text after l f (λ is. clash (is_number text) is m))
  at_piece tokens at left s text after l f go true false m g = go _ _ (lexing_step characters tokens at left s text after l f (λ is. ltb-false greatest (value_of text) g))
  at_piece tokens at left s text after l f go true true m g = (tokens, _, ended_great bytes characters tokens at left e short l s text after f m (ltb-true greatest (value_of text) g))

  at_cut : (tokens : List Token) (at : ℕ) (left : List ℕ) (t : Cut) → Answer left t → Lexing characters tokens at left → (n : ℕ) → length left ≤ suc n →
      ((new : List Token) (place : ℕ) (after : List ℕ) → length after ≤ n → Lexing characters new place after → HasTokens bytes) → HasTokens bytes
  at_cut tokens at left None h l n le go = at_none tokens at left l h
  at_cut tokens at left (Some t) h l n le go =
      at_piece tokens at left t.0 t.1 t.2 l h (λ new place more. go new place t.2 (shorter left t.1 t.2 n h.piece h.whole le) more) (is_number t.1) (nat_lt greatest (value_of t.1)) refl refl

  read_on : (n : ℕ) (tokens : List Token) (at : ℕ) (left : List ℕ) → length left ≤ n → Lexing characters tokens at left → HasTokens bytes
  read_on zero tokens at [] le l = at_none tokens at [] l (cut_right [])
  read_on zero tokens at (c ∷ cs) le l = absurd (omega arith)
  read_on (suc n) tokens at left le l = at_cut tokens at left (cut left) (cut_right left) l n le (λ new place after le more. read_on n new place after le more)

by_length : (bytes : List ℕ) (b : Bool) → nat_lt most_bytes (length bytes) ≡ b → HasTokens bytes
by_length bytes true long = ([], _, read_long bytes (ltb-true most_bytes (length bytes) long))
by_length bytes false short =
    let characters = chars (take (utf8_valid_len bytes) bytes) in
    read_on bytes characters (encodes-chars (take (utf8_valid_len bytes) bytes) (valid_is_text bytes)) (ltb-false most_bytes (length bytes) short)
    (length (body characters)) [] (width (order_mark characters)) (body characters) (omega arith) (lexing_start characters)

pub has_tokens : (bytes : List ℕ) → HasTokens bytes
has_tokens bytes = by_length bytes (nat_lt most_bytes (length bytes)) refl
