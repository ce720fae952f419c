-- What the tests of tokens say.
use Rattle.std.proofs.Common.{◌≡◌, ℕ, suc, Bool, true, List, [], ◌∷◌, ◌++◌, Some, refl, sym, ◌∙◌, ap, subst}
use Rattle.std.specs.Prelude.{ℤ, pos}
use Rattle.std.specs.Str.{bytes_eq}
use Rattle.std.proofs.lemmas.Slice.Eq.{bytes_eq-Decides}
use Rattle.hv_tree.specs.declared.place.Place.{Place}
use Rattle.hv_tree.specs.declared.token.Token.{Token}
use Rattle.hv_tree.specs.declared.token.TokenKind.{TokenKind}
use Rattle.hv_tree.specs.declared.token.TokenKind.TheVariants as kind
use Rattle.hv_tree.specs.Tokens.{Tokens, mark, keyword, word, number}
use Rattle.hv_syn_grammar.specs.Parser.{Read, Got, Off, Deep, Parser, ◌>>=◌, read_then, done, take, enter}
use Rattle.hv_syn_grammar.specs.Room.{room}
use Rattle.hv_tree.specs.Refusal.{is_mark, is_mark_kind, is_opening}
use Rattle.hv_syn_grammar.specs.Lexemes.{is_keyword_kind, is_keyword, is_word_kind, is_word, is_number_kind, is_number, text_of, value_of, name_of, place_at, number_of, expect, expect_opening}
use Rattle.hv_syn_exact.proofs.Exact.{Exact, Then, One, take_exact, then_exact, bracket_exact, exact_by, exact_same, nowhere, never}

pub record Lexeme {V : Type 0} (spell : V → Token) (test : Token → Bool) (get : Token → V) : Type 0 where
  pub known : (k : Token) → test k ≡ true → k ≡ spell (get k)
  pub passed : (v : V) → test (spell v) ≡ true
  pub back : (v : V) → get (spell v) ≡ v
  pub some : V

bytes_same : (s t : List ℕ) → bytes_eq t s ≡ true → t ≡ s
bytes_same s t e = (bytes_eq-Decides t s).0 e

bytes_refl : (s : List ℕ) → bytes_eq s s ≡ true
bytes_refl s = (bytes_eq-Decides s s).1 refl

mark_known : (s : List ℕ) (m : TokenKind) → is_mark_kind s m ≡ true → m ≡ kind.Mark s
mark_known s (kind.Mark t) e = ap kind.Mark (bytes_same s t e)
mark_known s (kind.Word t) e = absurd (cc)
mark_known s (kind.Keyword t) e = absurd (cc)
mark_known s (kind.Number n) e = absurd (cc)

keyword_known : (s : List ℕ) (m : TokenKind) → is_keyword_kind s m ≡ true → m ≡ kind.Keyword s
keyword_known s (kind.Keyword t) e = ap kind.Keyword (bytes_same s t e)
keyword_known s (kind.Word t) e = absurd (cc)
keyword_known s (kind.Mark t) e = absurd (cc)
keyword_known s (kind.Number n) e = absurd (cc)

word_known : (m : TokenKind) → is_word_kind m ≡ true → m ≡ kind.Word (text_of m)
word_known (kind.Word t) e = refl
word_known (kind.Keyword t) e = absurd (cc)
word_known (kind.Mark t) e = absurd (cc)
word_known (kind.Number n) e = absurd (cc)

number_known : (m : TokenKind) → is_number_kind m ≡ true → m ≡ kind.Number (value_of m)
number_known (kind.Number n) e = refl
number_known (kind.Word t) e = absurd (cc)
number_known (kind.Keyword t) e = absurd (cc)
number_known (kind.Mark t) e = absurd (cc)

as_kind : (k : Token) (m : TokenKind) → k.kind ≡ m → k ≡ record { kind = m; place = k.place }
as_kind k m e = ap (λ m. record { kind = m; place = k.place }) e

pub a_mark : (s : List ℕ) → Lexeme (mark s) (is_mark s) place_at
a_mark s = record { known = λ k e. as_kind k (kind.Mark s) (mark_known s k.kind e); passed = λ v. bytes_refl s; back = λ v. refl; some = record { start = 0 } }

pub a_keyword : (s : List ℕ) → Lexeme (keyword s) (is_keyword s) place_at
a_keyword s = record { known = λ k e. as_kind k (kind.Keyword s) (keyword_known s k.kind e); passed = λ v. bytes_refl s; back = λ v. refl; some = record { start = 0 } }

pub a_word : Lexeme word is_word name_of
a_word = record { known = λ k e. as_kind k (kind.Word (text_of k.kind)) (word_known k.kind e); passed = λ v. refl; back = λ v. refl; some = record { text = []; place = record { start = 0 } } }

abbrev pub numbered : ℤ × Place → Token
numbered v = number v.0 v.1

pub a_number : Lexeme numbered is_number number_of
a_number = record { known = λ k e. as_kind k (kind.Number (value_of k.kind)) (number_known k.kind e); passed = λ v. refl; back = λ v. refl; some = (pos 0, record { start = 0 }) }

-- a token that spells a value, and what follows it
abbrev pub After : {V B : Type 0} → (V → Token) → (V → B → Tokens → Type 0) → B → Tokens → Type 0
After spell S b ts = (v : _) × (y : Tokens) × S v b y × (ts ≡ spell v ∷ y)

module _ {V B : Type 0} (spell : V → Token) (test : Token → Bool) (get : Token → V) (l : Lexeme spell test get) (S : V → B → Tokens → Type 0) where
  pub to_after : (b : B) (ts : Tokens) → Then (One test) (λ k. S (get k)) b ts → After spell S b ts
  to_after b ts t = (get t.0, t.2, t.4, t.5 ∙ ap (λ x. x ++ t.2) (t.3.1 ∙ ap (λ k. k ∷ []) (l.known t.0 t.3.0)))

  pub from_after : (b : B) (ts : Tokens) → After spell S b ts → Then (One test) (λ k. S (get k)) b ts
  from_after b ts t = (spell t.0, spell t.0 ∷ [], t.1, (l.passed t.0, refl), subst (λ v. S v b t.1) (sym (l.back t.0)) t.2, t.3)

  pub regroup : (q : V → Parser B) (r : Read Token) → read_then (read_then r (λ k. done (get k))) q ≡ read_then r (λ k. q (get k))
  regroup q (Got k ts) = refl
  regroup q (Off ts) = refl
  regroup q (Deep ts) = refl

  pub next_exact : (q : V → Parser B) (d e f : ℕ) (on : Token → Bool) → ((v : V) → room d (spell v ∷ []) ≡ Some e) → ((v : V) → Exact e f on (S v) (q v)) → Exact d f on (After spell S) (expect test get >>= q)
  unfolding expect
  next_exact q d e f on moves Q =
      exact_same d f on (After spell S) (take test >>= (λ k. q (get k))) (expect test get >>= q) (λ ts. regroup q (take test ts))
      (exact_by d f on (Then (One test) (λ k. S (get k))) (After spell S) (take test >>= (λ k. q (get k)))
      (then_exact d e f nowhere on (One test) (λ k. S (get k)) (take test) (λ k. q (get k))
      (take_exact d e test (spell l.some) (l.passed l.some) (λ k passed. ap (λ k. room d (k ∷ [])) (l.known k passed) ∙ moves (get k)) nowhere)
      (λ k. Q (get k)) (λ k b y rest s stops. never (y ++ rest)))
      to_after from_after)

  pub bracketed_exact : (q : V → Parser B) (d f : ℕ) (on : Token → Bool) → ((v : V) → (b : B) × (y : Tokens) × S v b y) → ((v : V) → is_opening (spell v) ≡ true) → ((e : ℕ) → d ≡ suc e → (v : V) → Exact e f on (S v) (q v)) → Exact d f on (After spell S) (expect_opening d test get >>= q)
  unfolding expect_opening
  bracketed_exact q d f on can opens Q =
      exact_same d f on (After spell S) (enter d test >>= (λ k. q (get k))) (expect_opening d test get >>= q) (λ ts. regroup q (enter d test ts))
      (exact_by d f on (Then (One test) (λ k. S (get k))) (After spell S) (enter d test >>= (λ k. q (get k)))
      (bracket_exact test (spell l.some) (l.passed l.some) (λ k passed. ap is_opening (l.known k passed) ∙ opens (get k)) f (λ k. S (get k)) (λ k. q (get k)) (λ k x r. can (get k)) d on (λ e is k. Q e is (get k)))
      to_after from_after)
