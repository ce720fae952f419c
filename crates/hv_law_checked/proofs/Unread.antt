-- The refusal of a source that isn't read is the first of all violations of the rules on tokens and on the grammar.
use Rattle.std.proofs.Common.{◌≡◌, ◌⊎◌, inl, inr, ◌<◌, ◌≤◌, ◌+◌, ℕ, zero, suc, Bool, true, List, [], ◌∷◌, ◌++◌, length, Option, Some, None, Contains, count_by, nat_lt, length-append, append_assoc, refl, sym, ap, subst, ◌∙◌, arith}
use Rattle.std.proofs.lemmas.Bool.{ltb-true}
use Rattle.std.specs.List.{filter}
use Rattle.std.proofs.lemmas.List.Elements.{All-contains, filter_passes}
use Rattle.std.proofs.lemmas.Str.{encodes_same}
use Rattle.hv_tree.specs.declared.place.Place.{Place}
use Rattle.hv_tree.specs.declared.refusal.Rule.{Rule}
use Rattle.hv_tree.specs.declared.refusal.Rule.TheVariants as rule
use Rattle.hv_tree.specs.declared.refusal.Refusal.{Refusal}
use Rattle.hv_tree.specs.declared.token.Token.{Token}
use Rattle.hv_tree.specs.declared.ast.Tree.{Tree}
use Rattle.hv_tree.specs.Tokens.{Tokens}
use Rattle.hv_tree.specs.Grammar.{Spells}
use Rattle.hv_tree.specs.Earlier.{number_of, NotAfter, IsFirst}
use Rattle.hv_tree.specs.Refusal.{CanGoOn, LeavesAt, TooManyAt, IsP1, IsP2, CountsAsP1, CountsAsP2, most_open, is_opening}
use Rattle.hv_tree.proofs.Refused.{leaves_once}
use Rattle.hv_token.specs.Pieces.{width}
use Rattle.hv_token.specs.Lexes as lexes
use Rattle.hv_token.specs.Lexes.{order_mark, body, Violates, too_long, ill_formed, no_piece, too_great, rank, IsUpTo, begins_before, tokens_from, Lexes}
use Rattle.hv_token.proofs.Cuts.{same_cut}
use Rattle.hv_token.proofs.Only.{only_one}
use Rattle.hv_syn_exact.proofs.Rooms.{longer_front, less_or}
use Rattle.hv_parse.specs.Answers.{IsParsed, IsRefused, refused}
use Rattle.hv_parse.specs.Answers as answers
use Rattle.hv_check.specs.Checks.{IsRead, IsUnread}
use Rattle.hv_law_places.specs.TokenPlaces.{Before}
use Rattle.hv_lemmas.proofs.Each.{Each, each_at}
use Rattle.hv_lemmas.proofs.Members.{in_right, contained}
use Rattle.hv_law_places.proofs.Counted.{Rises, rises}
use Rattle.hv_law_checked.specs.Unread.{IsViolatedBy, on_tokens, unexpected, unfinished, too_deep}
use Rattle.hv_law_checked.proofs.Begins.{tokens_rise, tokens_begin}

-- ---- the pieces of a source are those of its lexer, and the order of its rules is that of all

same_violation : (bytes : List ℕ) (tokens others : Tokens) (stop other : Option Refusal) (a : Lexes bytes tokens stop) (b : Lexes bytes others other) (r : Refusal) →
    Violates bytes (width (order_mark b.characters)) b.texts b.rest r → Violates bytes (width (order_mark a.characters)) a.texts a.rest r
same_violation bytes tokens others stop other a b r v =
    let cs : b.characters ≡ a.characters = encodes_same b.characters a.characters (b.front ∙ sym a.front) in
    let start : width (order_mark b.characters) ≡ width (order_mark a.characters) = ap (λ cs. width (order_mark cs)) cs in
    let cut = same_cut b.texts a.texts b.rest a.rest b.cut.longest b.cut.ends a.cut.longest a.cut.ends (sym b.cut.whole ∙ ap body cs ∙ a.cut.whole) in
    subst (λ n. Violates bytes n a.texts a.rest r) start
    (subst (λ x. Violates bytes (width (order_mark b.characters)) a.texts x r) cut.1
    (subst (λ ts. Violates bytes (width (order_mark b.characters)) ts b.rest r) cut.0 v))

ranked : (bytes : List ℕ) (start : ℕ) (texts : List (List ℕ)) (rest : List ℕ) (r : Refusal) → Violates bytes start texts rest r → number_of r.rule ≡ rank r.rule + 1
ranked bytes start texts rest r (too_long g i) = subst (λ (r : Refusal). number_of r.rule ≡ rank r.rule + 1) (sym i) refl
ranked bytes start texts rest r (ill_formed g i) = subst (λ (r : Refusal). number_of r.rule ≡ rank r.rule + 1) (sym i) refl
ranked bytes start texts rest r (no_piece c cs g i) = subst (λ (r : Refusal). number_of r.rule ≡ rank r.rule + 1) (sym i) refl
ranked bytes start texts rest r (too_great b t a g n big i) = subst (λ (r : Refusal). number_of r.rule ≡ rank r.rule + 1) (sym i) refl

in_order : (r s : Refusal) → number_of r.rule ≡ rank r.rule + 1 → number_of s.rule ≡ rank s.rule + 1 → IsUpTo r s → NotAfter r s
in_order r s e f (inl h) = inl h
in_order r s e f (inr h) = inr (h.0, omega (arith, e, f, h.1))

-- ---- tokens begin before the stop

before_stop : (bytes : List ℕ) (tokens : Tokens) (stop : Refusal) → Lexes bytes tokens (Some stop) → (k : Token) → Contains tokens k → k.place.start < stop.place.start
before_stop bytes tokens stop l k c =
    let is : nat_lt k.place.start stop.place.start ≡ true = All-contains (λ k. begins_before (Some stop) k ≡ true) (filter (begins_before (Some stop)) (tokens_from (width (order_mark l.characters)) l.texts)) k (filter_passes (begins_before (Some stop)) (tokens_from (width (order_mark l.characters)) l.texts)) (subst (λ ts. Contains ts k) l.before c) in
    ltb-true k.place.start stop.place.start is

-- ---- tokens further on begin later

after_first : (k : Token) (ts c : Tokens) (j : Token) (y : Tokens) → Each (Before k) ts → ts ≡ c ++ j ∷ y → k.place.start < j.place.start
after_first k ts c j y h e = each_at (Before k) ts j h (subst (λ ts. Contains ts j) (sym e) (contained (c ++ j ∷ y) j (in_right c (j ∷ y) j (inl refl))))

further : (ts b : Tokens) (k : Token) (x c : Tokens) (j : Token) (y : Tokens) → Rises ts → ts ≡ b ++ k ∷ x → ts ≡ c ++ j ∷ y → length b < length c → k.place.start < j.place.start
further ts b k x [] j y h e f l = absurd (omega (arith, l))
further [] [] k x (i ∷ c) j y h e f l = absurd (cc)
further (t ∷ ts) [] k x (i ∷ c) j y h e f l =
    let first : t ≡ k = cc in
    let rest : ts ≡ c ++ j ∷ y = cc in
    subst (λ (t : Token). t.place.start < j.place.start) first (after_first t ts c j y h.0 rest)
further [] (a ∷ b) k x (i ∷ c) j y h e f l = absurd (cc)
further (t ∷ ts) (a ∷ b) k x (i ∷ c) j y h e f l =
    let one : ts ≡ b ++ k ∷ x = cc in
    let other : ts ≡ c ++ j ∷ y = cc in
    further ts b k x c j y h.1 one other (omega (arith, l))

-- of two tokens of a list the one with the shorter front, where the fronts are as long both are one
not_later : (ts b : Tokens) (k : Token) (x c : Tokens) (j : Token) (y : Tokens) → Rises ts → ts ≡ b ++ k ∷ x → ts ≡ c ++ j ∷ y → length b ≤ length c → (k.place.start < j.place.start) ⊎ (k.place.start ≡ j.place.start)
not_later ts b k x c j y h e f l = by (less_or (length b) (length c))
  where
    same : (ts b : Tokens) (k : Token) (x c : Tokens) (j : Token) (y : Tokens) → ts ≡ b ++ k ∷ x → ts ≡ c ++ j ∷ y → length b ≡ length c → k ≡ j
    same ts [] k x [] j y e f l = cc
    same ts [] k x (i ∷ c) j y e f l = absurd (omega (arith, l))
    same ts (a ∷ b) k x [] j y e f l = absurd (omega (arith, l))
    same [] (a ∷ b) k x (i ∷ c) j y e f l = absurd (cc)
    same (t ∷ ts) (a ∷ b) k x (i ∷ c) j y e f l =
        let one : ts ≡ b ++ k ∷ x = cc in
        let other : ts ≡ c ++ j ∷ y = cc in
        same ts b k x c j y one other (omega (arith, l))

    by : ((length b < length c) ⊎ (length c ≤ length b)) → (k.place.start < j.place.start) ⊎ (k.place.start ≡ j.place.start)
    by (inl m) = inl (further ts b k x c j y h e f m)
    by (inr m) = inr (ap (λ (t : Token). t.place.start) (same ts b k x c j y e f (omega (arith, l, m))))

-- no bracket before one that is one too many is one
too_many_first : (ts b r c s : Tokens) → TooManyAt most_open ts b r → TooManyAt most_open ts c s → length b ≤ length c
too_many_first ts b r c s x y = by (less_or (length c) (length b))
  where
    inside : ((k : Token) × (w : Tokens) × (b ≡ c ++ k ∷ w) × (s ≡ k ∷ (w ++ r))) → length b ≤ length c
    inside n =
        let is : n.0 ≡ y.bracket = cc in
        absurd (omega (arith, x.first c n.1 n.0 n.2 (ap is_opening is ∙ y.opening), y.full))

    by : ((length c < length b) ⊎ (length b ≤ length c)) → length b ≤ length c
    by (inl h) = inside (longer_front b r c s (sym x.is ∙ y.is) h)
    by (inr h) = h

-- ---- the refusal against each violation

at_token : (k : Token) (r s : Refusal) (n : Rule) (m : Rule) (j : Token) → r ≡ refused n k.place → s ≡ refused m j.place → number_of n ≤ number_of m → (k.place.start < j.place.start) ⊎ (k.place.start ≡ j.place.start) → NotAfter r s
at_token k r s n m j e f h (inl l) = inl (omega (arith, l, ap (λ (r : Refusal). r.place.start) e, ap (λ (r : Refusal). r.place.start) f))
at_token k r s n m j e f h (inr l) = inr (ap (λ (r : Refusal). r.place.start) e ∙ l ∙ sym (ap (λ (r : Refusal). r.place.start) f), omega (arith, h, ap (λ (r : Refusal). number_of r.rule) e, ap (λ (r : Refusal). number_of r.rule) f))

sooner : (r s : Refusal) (n m : Rule) (p q : Place) → r ≡ refused n p → s ≡ refused m q → p.start < q.start → NotAfter r s
sooner r s n m p q e f l = inl (omega (arith, l, ap (λ (r : Refusal). r.place.start) e, ap (λ (r : Refusal). r.place.start) f))

-- where all tokens go on, none stops them
goes_on : (ts before : Tokens) (k : Token) (after : Tokens) → CanGoOn Spells ts → LeavesAt Spells ts before (k ∷ after) → ⊥
goes_on ts before k after g l =
    l.stops (g.0, after ++ g.1, subst (Spells g.0) (ap (λ ts. ts ++ g.1) l.is ∙ append_assoc before (k ∷ after) g.1 ∙ sym (append_assoc before (k ∷ []) (after ++ g.1))) g.2)

no_end : (b : Tokens) (k : Token) (x c : Tokens) → b ++ k ∷ x ≡ c ++ [] → length c ≤ length b → ⊥
no_end b k x c e h = omega (arith, ap length e, length-append b (k ∷ x), length-append c [], h)

some_is_not : (r : Refusal) → Some r ≡ None → ⊥
some_is_not r e = cc

module _ (bytes : List ℕ) (tokens : Tokens) (stop : Option Refusal) (l : Lexes bytes tokens stop) where
  rising : Rises tokens
  rising = rises tokens (tokens_rise bytes tokens stop l)

  stands : (b : Tokens) (k : Token) (x : Tokens) → tokens ≡ b ++ k ∷ x → Contains tokens k
  stands b k x e = subst (λ ts. Contains ts k) (sym e) (contained (b ++ k ∷ x) k (in_right b (k ∷ x) k (inl refl)))

  -- a token comes before what violates a rule on tokens
  before_lexical : (o : Option Refusal) → stop ≡ o → (k : Token) → Contains tokens k → (n : Rule) (r s : Refusal) → r ≡ refused n k.place → Violates bytes (width (order_mark l.characters)) l.texts l.rest s → NotAfter r s
  before_lexical None e k c n r s i v = absurd (subst (lexes.IsFirst (Violates bytes (width (order_mark l.characters)) l.texts l.rest)) e l.first s v)
  before_lexical (Some o) e k c n r s i v =
      let first = subst (lexes.IsFirst (Violates bytes (width (order_mark l.characters)) l.texts l.rest)) e l.first in
      let lies : k.place.start < o.place.start = before_stop bytes tokens o (subst (Lexes bytes tokens) e l) k c in
      inl (by (first.1 s v) lies)
    where
      by : IsUpTo o s → k.place.start < o.place.start → r.place.start < s.place.start
      by (inl h) m = omega (arith, h, m, ap (λ (r : Refusal). r.place.start) i)
      by (inr h) m = omega (arith, h.0, m, ap (λ (r : Refusal). r.place.start) i)

  abbrev end : Place
  end = record { start = length bytes }

  -- a violation, said of these tokens
  data Here (s : Refusal) : Type 0 where
    in_pieces : Violates bytes (width (order_mark l.characters)) l.texts l.rest s → Here s
    at_p1 : (c : Tokens) (j : Token) (y : Tokens) → IsP1 tokens c (j ∷ y) → s ≡ refused rule.P1 j.place → Here s
    at_end : stop ≡ None → (c : Tokens) → IsP1 tokens c [] → s ≡ refused rule.P1 end → Here s
    at_p2 : (c : Tokens) (j : Token) (y : Tokens) → IsP2 tokens c (j ∷ y) → s ≡ refused rule.P2 j.place → Here s

  here : (s : Refusal) → IsViolatedBy bytes s → Here s
  here s (on_tokens others other m v) = in_pieces (same_violation bytes tokens others stop other l m s v)
  here s (unexpected others other m c j y p e) = at_p1 c j y (subst (λ ts. IsP1 ts c (j ∷ y)) (only_one bytes tokens others stop other l m).0 p) e
  here s (unfinished others m c p e) = at_end (sym (only_one bytes tokens others stop None l m).1) c (subst (λ ts. IsP1 ts c []) (only_one bytes tokens others stop None l m).0 p) e
  here s (too_deep others other m c j y p e) = at_p2 c j y (subst (λ ts. IsP2 ts c (j ∷ y)) (only_one bytes tokens others stop other l m).0 p) e

  nothing_lexical : stop ≡ None → (s : Refusal) → Violates bytes (width (order_mark l.characters)) l.texts l.rest s → ⊥
  nothing_lexical e s v = subst (lexes.IsFirst (Violates bytes (width (order_mark l.characters)) l.texts l.rest)) e l.first s v

  not_after : (r s : Refusal) → IsRefused tokens stop end r → Here s → NotAfter r s
  not_after r s (answers.unexpected b k x p e) (in_pieces v) = before_lexical stop refl k (stands b k x p.violated.is) rule.P1 r s e v
  not_after r s (answers.unexpected b k x p e) (at_p1 c j y q f) =
      let same : b ≡ c = leaves_once Spells tokens b (k ∷ x) c (j ∷ y) p.violated q in
      at_token k r s rule.P1 rule.P1 j e f (omega arith) (not_later tokens b k x c j y rising p.violated.is q.is (omega (arith, ap length same)))
  not_after r s (answers.unexpected b k x p e) (at_end n c q f) =
      let same : b ≡ c = leaves_once Spells tokens b (k ∷ x) c [] p.violated q in absurd (no_end b k x c (sym p.violated.is ∙ q.is) (omega (arith, ap length same)))
  not_after r s (answers.unexpected b k x p e) (at_p2 c j y q f) = at_token k r s rule.P1 rule.P2 j e f (omega arith) (not_later tokens b k x c j y rising p.violated.is q.is (p.earlier c (j ∷ y) q))
  not_after r s (answers.unfinished b n p e) (in_pieces v) = absurd (nothing_lexical n s v)
  not_after r s (answers.unfinished b n p e) (at_p1 c j y q f) =
      let same : c ≡ b = leaves_once Spells tokens c (j ∷ y) b [] q p.violated in absurd (no_end c j y b (sym q.is ∙ p.violated.is) (omega (arith, ap length same)))
  not_after r s (answers.unfinished b n p e) (at_end m c q f) = subst (λ r. NotAfter r s) (sym (e ∙ sym f)) (inr (refl, omega arith))
  not_after r s (answers.unfinished b n p e) (at_p2 c j y q f) = absurd (no_end c j y b (sym q.is ∙ p.violated.is) (p.earlier c (j ∷ y) q))
  not_after r s (answers.too_deep b k x p e) (in_pieces v) = before_lexical stop refl k (stands b k x p.violated.is) rule.P2 r s e v
  not_after r s (answers.too_deep b k x p e) (at_p1 c j y q f) = sooner r s rule.P2 rule.P1 k.place j.place e f (further tokens b k x c j y rising p.violated.is q.is (p.earlier c (j ∷ y) q))
  not_after r s (answers.too_deep b k x p e) (at_end n c q f) = sooner r s rule.P2 rule.P1 k.place end e f (tokens_begin bytes tokens stop l k (stands b k x p.violated.is))
  not_after r s (answers.too_deep b k x p e) (at_p2 c j y q f) =
      at_token k r s rule.P2 rule.P2 j e f (omega arith) (not_later tokens b k x c j y rising p.violated.is q.is (too_many_first tokens b (k ∷ x) c (j ∷ y) p.violated q))
  not_after r s (answers.lexical n g lacks) (in_pieces v) =
      let first = subst (lexes.IsFirst (Violates bytes (width (order_mark l.characters)) l.texts l.rest)) n l.first in
      let R = ranked bytes (width (order_mark l.characters)) l.texts l.rest in
      in_order r s (R r first.0) (R s v) (first.1 s v)
  not_after r s (answers.lexical n g lacks) (at_p1 c j y q f) = absurd (goes_on tokens c j y g q)
  not_after r s (answers.lexical n g lacks) (at_end m c q f) = absurd (some_is_not r (sym n ∙ m))
  not_after r s (answers.lexical n g lacks) (at_p2 c j y q f) = absurd (lacks c (j ∷ y) q)

  is_violated : (r : Refusal) → IsRefused tokens stop end r → IsViolatedBy bytes r
  is_violated r (answers.unexpected b k x p e) = unexpected tokens stop l b k x p.violated e
  is_violated r (answers.unfinished b n p e) = unfinished tokens (subst (Lexes bytes tokens) n l) b p.violated e
  is_violated r (answers.too_deep b k x p e) = too_deep tokens stop l b k x p.violated e
  is_violated r (answers.lexical n g lacks) = on_tokens tokens stop l (subst (lexes.IsFirst (Violates bytes (width (order_mark l.characters)) l.texts l.rest)) n l.first).0

pub unread_first : (bytes : List ℕ) (r : Refusal) → IsUnread bytes r → IsFirst (IsViolatedBy bytes) (Some r)
unread_first bytes r u = (is_violated bytes u.tokens u.stop u.lexes r u.refused, λ s v. not_after bytes u.tokens u.stop u.lexes r s u.refused (here bytes u.tokens u.stop u.lexes s v))

nothing_here : (bytes : List ℕ) (tree : Tree) (u : IsRead bytes tree) (s : Refusal) → Here bytes u.tokens None u.lexes s → ⊥
nothing_here bytes tree u s (in_pieces v) = u.lexes.first s v
nothing_here bytes tree u s (at_p1 c j y q f) = u.parsed.no_p1 c (j ∷ y) q
nothing_here bytes tree u s (at_end n c q f) = u.parsed.no_p1 c [] q
nothing_here bytes tree u s (at_p2 c j y q f) = u.parsed.no_p2 c (j ∷ y) q

pub read_obeys : (bytes : List ℕ) (tree : Tree) → IsRead bytes tree → IsFirst (IsViolatedBy bytes) None
read_obeys bytes tree u = λ s v. nothing_here bytes tree u s (here bytes u.tokens None u.lexes s v)
