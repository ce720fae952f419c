-- A list of tokens is refused in one way at most, and not where it is parsed.
use Rattle.std.proofs.Common.{◌≡◌, ◌<◌, ◌≤◌, [], ◌∷◌, ◌++◌, length, Option, Some, None, ◌⊎◌, inl, inr, refl, sym, ◌∙◌, ap, subst, append_assoc, arith}
use Rattle.hv_tree.specs.declared.place.Place.{Place}
use Rattle.hv_tree.specs.declared.refusal.Refusal.{Refusal}
use Rattle.hv_tree.specs.declared.refusal.Rule.TheVariants as rule
use Rattle.hv_tree.specs.declared.token.Token.{Token}
use Rattle.hv_tree.specs.declared.ast.Tree.{Tree}
use Rattle.hv_tree.specs.Tokens.{Tokens}
use Rattle.hv_tree.specs.Grammar.{Spells}
use Rattle.hv_tree.specs.Refusal.{CanGoOn, NotWith, LeavesAt, TooManyAt, IsP1, IsP2, CountsAsP1, CountsAsP2, most_open}
use Rattle.hv_tree.proofs.Refused.{leaves_once, counts_once}
use Rattle.hv_syn_exact.proofs.Rooms.{longer_front, less_or}
use Rattle.hv_parse.specs.Answers.{IsParsed, IsRefused, unexpected, unfinished, too_deep, lexical, refused}

cancel : (b r s : Tokens) → b ++ r ≡ b ++ s → r ≡ s
cancel [] r s e = e
cancel (k ∷ b) r s e = cancel b r s (cc)

same_rest : (ts b c r s : Tokens) → b ≡ c → ts ≡ b ++ r → ts ≡ c ++ s → r ≡ s
same_rest ts b c r s e x y = cancel b r s (sym x ∙ y ∙ ap (λ c. c ++ s) (sym e))

-- where all tokens go on, no token stops them
goes_on : (ts before : Tokens) (k : Token) (after : Tokens) → CanGoOn Spells ts → LeavesAt Spells ts before (k ∷ after) → ⊥
goes_on ts before k after g l =
    l.stops (g.0, after ++ g.1, subst (Spells g.0) (ap (λ ts. ts ++ g.1) l.is ∙ append_assoc before (k ∷ after) g.1 ∙ sym (append_assoc before (k ∷ []) (after ++ g.1))) g.2)

-- a bracket that is one too many stands at one place
too_many_first : (ts b r c s : Tokens) → TooManyAt most_open ts b r → TooManyAt most_open ts c s → length c ≤ length b
too_many_first ts b r c s x y = by (less_or (length b) (length c))
  where
    inside : ((k : Token) × (w : Tokens) × (c ≡ b ++ k ∷ w) × (r ≡ k ∷ (w ++ s))) → length c ≤ length b
    inside n =
        let same : n.0 ≡ x.bracket = cc in
        absurd (omega (arith, y.first b n.1 n.0 n.2 (ap Rattle.hv_tree.specs.Refusal.is_opening same ∙ x.opening), x.full))

    by : ((length b < length c) ⊎ (length c ≤ length b)) → length c ≤ length b
    by (inl h) = inside (longer_front c s b r (sym y.is ∙ x.is) h)
    by (inr h) = h

same_length : (b r c s : Tokens) → b ++ r ≡ c ++ s → length b ≡ length c → b ≡ c
same_length [] r [] s e n = refl
same_length [] r (k ∷ c) s e n = absurd (omega (arith, n))
same_length (k ∷ b) r [] s e n = absurd (omega (arith, n))
same_length (k ∷ b) r (j ∷ c) s e n =
    let p : k ≡ j = cc in
    let q : b ++ r ≡ c ++ s = cc in
    ap (λ b. k ∷ b) (same_length b r c s q (omega (arith, n))) ∙ ap (λ k. k ∷ c) p

too_many_once : (ts b r c s : Tokens) → TooManyAt most_open ts b r → TooManyAt most_open ts c s → b ≡ c
too_many_once ts b r c s x y = same_length b r c s (sym x.is ∙ y.is) (omega (arith, too_many_first ts b r c s x y, too_many_first ts c s b r y x))

module _ (ts : Tokens) (stop : Option Refusal) (end : Place) where
  pub refused_once : (r s : Refusal) → IsRefused ts stop end r → IsRefused ts stop end s → s ≡ r
  refused_once r s (unexpected b k x p e) (unexpected c j y q f) =
      let same : k ∷ x ≡ j ∷ y = same_rest ts b c (k ∷ x) (j ∷ y) (leaves_once Spells ts b (k ∷ x) c (j ∷ y) p.violated q.violated) p.violated.is q.violated.is in
      let first : j ≡ k = cc in
      f ∙ ap (λ (k : Token). refused rule.P1 k.place) first ∙ sym e
  refused_once r s (unexpected b k x p e) (unfinished c n q f) =
      let same : k ∷ x ≡ [] = same_rest ts b c (k ∷ x) [] (leaves_once Spells ts b (k ∷ x) c [] p.violated q.violated) p.violated.is q.violated.is in absurd (cc)
  refused_once r s (unexpected b k x p e) (too_deep c j y q f) = absurd (counts_once ts b (k ∷ x) c (j ∷ y) p q)
  refused_once r s (unexpected b k x p e) (lexical n g h) = absurd (goes_on ts b k x g p.violated)
  refused_once r s (unfinished b n p e) (unexpected c j y q f) =
      let same : [] ≡ j ∷ y = same_rest ts b c [] (j ∷ y) (leaves_once Spells ts b [] c (j ∷ y) p.violated q.violated) p.violated.is q.violated.is in absurd (cc)
  refused_once r s (unfinished b n p e) (unfinished c m q f) = f ∙ sym e
  refused_once r s (unfinished b n p e) (too_deep c j y q f) = absurd (counts_once ts b [] c (j ∷ y) p q)
  refused_once r s (unfinished b n p e) (lexical m g h) = let clash : None ≡ Some s = sym n ∙ m in absurd (cc)
  refused_once r s (too_deep b k x p e) (unexpected c j y q f) = absurd (counts_once ts c (j ∷ y) b (k ∷ x) q p)
  refused_once r s (too_deep b k x p e) (unfinished c n q f) = absurd (counts_once ts c [] b (k ∷ x) q p)
  refused_once r s (too_deep b k x p e) (too_deep c j y q f) =
      let same : k ∷ x ≡ j ∷ y = same_rest ts b c (k ∷ x) (j ∷ y) (too_many_once ts b (k ∷ x) c (j ∷ y) p.violated q.violated) p.violated.is q.violated.is in
      let first : j ≡ k = cc in
      f ∙ ap (λ (k : Token). refused rule.P2 k.place) first ∙ sym e
  refused_once r s (too_deep b k x p e) (lexical n g h) = absurd (h b (k ∷ x) p.violated)
  refused_once r s (lexical n g h) (unexpected c j y q f) = absurd (goes_on ts c j y g q.violated)
  refused_once r s (lexical n g h) (unfinished c m q f) = let clash : None ≡ Some r = sym m ∙ n in absurd (cc)
  refused_once r s (lexical n g h) (too_deep c j y q f) = absurd (h c (j ∷ y) q.violated)
  refused_once r s (lexical n g h) (lexical m i j) = let both : Some s ≡ Some r = sym m ∙ n in cc

pub refused_or_parsed : (ts : Tokens) (stop : Option Refusal) (end : Place) (r : Refusal) (tree : Tree) → IsRefused ts stop end r → IsParsed ts stop tree → ⊥
refused_or_parsed ts stop end r tree (unexpected b k x p e) h = h.no_p1 b (k ∷ x) p.violated
refused_or_parsed ts stop end r tree (unfinished b n p e) h = h.no_p1 b [] p.violated
refused_or_parsed ts stop end r tree (too_deep b k x p e) h = h.no_p2 b (k ∷ x) p.violated
refused_or_parsed ts stop end r tree (lexical n g q) h = let clash : None ≡ Some r = sym h.whole ∙ n in absurd (cc)
