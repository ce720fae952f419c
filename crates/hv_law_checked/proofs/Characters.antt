-- The bytes before a place at which a source is refused are whole characters.
use Rattle.std.proofs.Common.{◌≡◌, ◌⊎◌, inl, inr, ◌<◌, ◌≤◌, ◌+◌, ℕ, zero, suc, List, [], ◌∷◌, ◌++◌, length, take, drop, append_assoc, Option, Some, None, Contains, refl, sym, ap, subst, ◌∙◌, arith}
use Rattle.std.specs.List.{concat, filter, All}
use Rattle.std.specs.Str.{encode_utf8_all}
use Rattle.std.specs.Str.Lossy.{utf8_valid_len}
use Rattle.std.proofs.lemmas.List.{take-append-drop}
use Rattle.std.proofs.lemmas.List.Elements.{All-nil, All-cons, All-append, All-filter, All-contains}
use Rattle.std.proofs.lemmas.List.Folds.{concat-append}
use Rattle.std.proofs.lemmas.Str.{encodes-append, utf8_valid_len_le}
use Rattle.hv_tree.specs.declared.place.Place.{Place}
use Rattle.hv_tree.specs.declared.refusal.Rule.{Rule}
use Rattle.hv_tree.specs.declared.refusal.Rule.TheVariants.{L1, N3}
use Rattle.hv_tree.specs.declared.refusal.Refusal.{Refusal}
use Rattle.hv_tree.specs.declared.token.Token.{Token}
use Rattle.hv_tree.specs.declared.token.TokenKind.{TokenKind}
use Rattle.hv_tree.specs.declared.ast.Tree.{Tree}
use Rattle.hv_tree.specs.Tokens.{Tokens}
use Rattle.hv_tree.specs.Core.{core_tree}
use Rattle.hv_token.specs.Pieces.{kind_of, width}
use Rattle.hv_token.specs.Lexes as lexes
use Rattle.hv_token.specs.Lexes.{order_mark, body, tokens_at, tokens_from, begins_before, Violates, too_long, ill_formed, no_piece, too_great, Lexes}
use Rattle.hv_token.proofs.Cuts.{width_append}
use Rattle.hv_token.proofs.Lexing.{marked_whole}
use Rattle.hv_parse.specs.Answers.{IsRefused, unexpected, unfinished, too_deep, lexical}
use Rattle.hv_rules.specs.Accepted.{IsViolated}
use Rattle.hv_law_places.specs.Places.{IsIn}
use Rattle.hv_law_places.specs.TokenPlaces.{IsAmong}
use Rattle.hv_law_places.proofs.NamesTell.{names_tell_or_begin, types_tell}
use Rattle.hv_law_places.proofs.EventsTell.{events_tell}
use Rattle.hv_law_places.proofs.TreesSay.{places_said}
use Rattle.hv_lemmas.proofs.Lists.{front_kept, front_of}
use Rattle.hv_lemmas.proofs.Members.{in_right, contained}
use Rattle.hv_check.specs.Checks.{IsRead, IsFirst, unread, judged, judged_phases}
use Rattle.hv_law_checked.specs.Inside.{IsBehindCharacters}
use Rattle.hv_law_checked.proofs.Placed.{violated}

-- ---- fronts of characters

none_before : (bytes : List ℕ) → encode_utf8_all [] ≡ take 0 bytes
none_before [] = refl
none_before (b ∷ bytes) = refl

front : (p s : List ℕ) (n : ℕ) (bytes : List ℕ) → encode_utf8_all (p ++ s) ≡ take n bytes → encode_utf8_all p ≡ take (width p) bytes
front p s n bytes e =
    let a : List ℕ = encode_utf8_all p in
    let h : take (length a) (take n bytes) ≡ a = ap (λ l. take (length a) l) (sym e ∙ encodes-append p s) ∙ front_of a (encode_utf8_all s) in
    sym (front_kept a (take n bytes) (drop n bytes) h) ∙ ap (λ l. take (length a) l) (take-append-drop n bytes)

behind_front : (bytes p s : List ℕ) (n at : ℕ) → encode_utf8_all (p ++ s) ≡ take n bytes → width p ≡ at → IsBehindCharacters bytes (record { start = at })
behind_front bytes p s n at e f = (p, subst (λ (m : ℕ). encode_utf8_all p ≡ take m bytes) f (front p s n bytes e))

-- ---- tokens

abbrev Stands : List ℕ → Token → Type 0
Stands bytes k = IsBehindCharacters bytes k.place

token_stands : (bytes q rest : List ℕ) (n at : ℕ) (kind : Option TokenKind) → width q ≡ at → encode_utf8_all (q ++ rest) ≡ take n bytes → All (Stands bytes) (tokens_at at kind)
token_stands bytes q rest n at None e f = All-nil (Stands bytes)
token_stands bytes q rest n at (Some kind) e f = All-cons (Stands bytes) (record { kind = kind; place = record { start = at } }) [] (behind_front bytes q rest n at f e) (All-nil (Stands bytes))

tokens_stand : (bytes q : List ℕ) (texts : List (List ℕ)) (rest : List ℕ) (n at : ℕ) → width q ≡ at → encode_utf8_all (q ++ (concat texts ++ rest)) ≡ take n bytes → All (Stands bytes) (tokens_from at texts)
tokens_stand bytes q [] rest n at e f = All-nil (Stands bytes)
tokens_stand bytes q (text ∷ texts) rest n at e f =
    let wide : width (q ++ text) ≡ at + width text = width_append q text ∙ ap (λ (m : ℕ). m + width text) e in
    let same : (q ++ text) ++ (concat texts ++ rest) ≡ q ++ ((text ++ concat texts) ++ rest) = append_assoc q text (concat texts ++ rest) ∙ ap (λ l. q ++ l) (sym (append_assoc text (concat texts) rest)) in
    All-append (Stands bytes) (tokens_at at (kind_of text)) (tokens_from (at + width text) texts)
    (token_stands bytes q ((text ++ concat texts) ++ rest) n at (kind_of text) e f)
    (tokens_stand bytes (q ++ text) texts rest n (at + width text) wide (ap encode_utf8_all same ∙ f))

module _ (bytes : List ℕ) (tokens : Tokens) (stop : Option Refusal) (l : Lexes bytes tokens stop) where
  abbrev mark : List ℕ
  mark = order_mark l.characters

  cut_front : encode_utf8_all (mark ++ (concat l.texts ++ l.rest)) ≡ take (utf8_valid_len bytes) bytes
  cut_front = ap encode_utf8_all (ap (λ t. mark ++ t) (sym l.cut.whole) ∙ sym (marked_whole l.characters)) ∙ l.front

  token_behind : (k : Token) → Contains tokens k → IsBehindCharacters bytes k.place
  token_behind k c =
      let all : All (Stands bytes) (tokens_from (width mark) l.texts) = tokens_stand bytes mark l.texts l.rest (utf8_valid_len bytes) (width mark) refl cut_front in
      All-contains (Stands bytes) tokens k (subst (All (Stands bytes)) (sym l.before) (All-filter (begins_before stop) (Stands bytes) (tokens_from (width mark) l.texts) all)) c

  violation_behind : (r : Refusal) → Violates bytes (width mark) l.texts l.rest r → IsBehindCharacters bytes r.place
  violation_behind r (too_long g e) = subst (λ (r : Refusal). IsBehindCharacters bytes r.place) (sym e) ([], none_before bytes)
  violation_behind r (ill_formed g e) = subst (λ (r : Refusal). IsBehindCharacters bytes r.place) (sym e) (l.characters, l.front)
  violation_behind r (no_piece c cs g e) =
      subst (λ (r : Refusal). IsBehindCharacters bytes r.place) (sym e)
      (behind_front bytes (mark ++ concat l.texts) l.rest (utf8_valid_len bytes) (width mark + width (concat l.texts)) (ap encode_utf8_all (append_assoc mark (concat l.texts) l.rest) ∙ cut_front) (width_append mark (concat l.texts)))
  violation_behind r (too_great before text after g i n e) =
      let parts : concat l.texts ≡ concat before ++ concat (text ∷ after) = ap concat g ∙ concat-append before (text ∷ after) in
      let s : List ℕ = concat (text ∷ after) ++ l.rest in
      let same : (mark ++ concat before) ++ s ≡ mark ++ (concat l.texts ++ l.rest) =
      append_assoc mark (concat before) s ∙ ap (λ t. mark ++ t) (sym (append_assoc (concat before) (concat (text ∷ after)) l.rest) ∙ ap (λ t. t ++ l.rest) (sym parts)) in
      subst (λ (r : Refusal). IsBehindCharacters bytes r.place) (sym e)
      (behind_front bytes (mark ++ concat before) s (utf8_valid_len bytes) (width mark + width (concat before)) (ap encode_utf8_all same ∙ cut_front) (width_append mark (concat before)))

  among_behind : (b : Tokens) (k : Token) (x : Tokens) → tokens ≡ b ++ k ∷ x → IsBehindCharacters bytes k.place
  among_behind b k x e = token_behind k (subst (λ ts. Contains ts k) (sym e) (contained (b ++ k ∷ x) k (in_right b (k ∷ x) k (inl refl))))

  -- where nothing stops the lexer all bytes are characters
  end_behind : stop ≡ None → IsBehindCharacters bytes (record { start = length bytes })
  end_behind e =
      let formed : utf8_valid_len bytes < length bytes → ⊥ = λ h. subst (lexes.IsFirst (Violates bytes (width mark) l.texts l.rest)) e l.first (lexes.refusal_at L1 (utf8_valid_len bytes)) (ill_formed h refl) in
      let whole : utf8_valid_len bytes ≡ length bytes = omega (arith, utf8_valid_len_le bytes, formed) in
      (l.characters, l.front ∙ ap (λ (n : ℕ). take n bytes) whole)

  refused_behind : (r : Refusal) → IsRefused tokens stop (record { start = length bytes }) r → IsBehindCharacters bytes r.place
  refused_behind r (unexpected b k x p e) = subst (λ (r : Refusal). IsBehindCharacters bytes r.place) (sym e) (among_behind b k x p.violated.is)
  refused_behind r (unfinished b n p e) = subst (λ (r : Refusal). IsBehindCharacters bytes r.place) (sym e) (end_behind n)
  refused_behind r (too_deep b k x p e) = subst (λ (r : Refusal). IsBehindCharacters bytes r.place) (sym e) (among_behind b k x p.violated.is)
  refused_behind r (lexical n g lacks) = violation_behind r (subst (lexes.IsFirst (Violates bytes (width mark) l.texts l.rest)) n l.first).0

-- ---- programs

module _ (bytes : List ℕ) (tree : Tree) (read : IsRead bytes tree) where
  place_behind : (place : Place) → IsIn place (core_tree tree) → IsBehindCharacters bytes place
  place_behind place h =
      let k = places_said tree read.tokens read.parsed.spells place h in subst (IsBehindCharacters bytes) k.2 (token_behind bytes read.tokens None read.lexes k.0 k.1)

  judged_behind : (r : Rule) (place : Place) → IsViolated (core_tree tree) r place → IsBehindCharacters bytes place
  judged_behind r place (inl v) = by (names_tell_or_begin (core_tree tree) r place v)
    where
      by : IsIn place (core_tree tree) ⊎ ((r ≡ N3) × (place.start ≡ 0)) → IsBehindCharacters bytes place
      by (inl i) = place_behind place i
      by (inr e) = ([], none_before bytes ∙ ap (λ (n : ℕ). take n bytes) (sym e.1))
  judged_behind r place (inr (inl v)) = place_behind place (types_tell (core_tree tree) r place v)
  judged_behind r place (inr (inr v)) = place_behind place (events_tell (core_tree tree) r place v)

pub first_behind : (bytes : List ℕ) (r : Refusal) → IsFirst bytes r → IsBehindCharacters bytes r.place
first_behind bytes r (unread h) = refused_behind bytes h.tokens h.stop h.lexes r h.refused
first_behind bytes r (judged tree read h) = judged_behind bytes tree read r.rule r.place (violated judged_phases tree r h)
