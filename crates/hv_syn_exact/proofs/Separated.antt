-- One or more parts with commas between are read exactly.
use Rattle.std.proofs.Common.{◌≡◌, ℕ, Bool, false, ◌||◌, List, [], ◌∷◌, ◌++◌, refl, sym, ◌∙◌, ap, subst, append-nil}
use Rattle.std.specs.Prelude.{codes}
use Rattle.hv_tree.specs.declared.place.Place.{Place}
use Rattle.hv_tree.specs.declared.token.Token.{Token}
use Rattle.hv_tree.specs.Tokens.{Tokens, mark, Separated, one_part}
use Rattle.hv_tree.specs.Tokens as t
use Rattle.hv_tree.specs.Refusal.{is_mark}
use Rattle.hv_syn_grammar.specs.Parser.{Parser}
use Rattle.hv_syn_grammar.specs.Lexemes.{more_parts, separated}
use Rattle.hv_syn_exact.proofs.Exact.{Exact, Stops, Begins, Then, Nothing, Many, then_exact, done_exact, many_exact, exact_by}
use Rattle.hv_syn_exact.proofs.Lexemes.{After, a_mark, next_exact}
use Rattle.hv_syn_exact.proofs.Shorts.{off_at, on_at, stops_left, stops_right, fails, begins_more}

module _ {A : Type 0} (R : A → Tokens → Type 0) where
  abbrev pub MorePart : A → Tokens → Type 0
  MorePart = After (mark (codes ",")) (λ comma. R)

  abbrev pub Parts : List A → Tokens → Type 0
  Parts = Then R (λ x. Then (Many MorePart) (λ more. Nothing (x ∷ more)))

  to_separated_at : (x : A) (more : List A) (ts a b : Tokens) → R x a → Many MorePart more b → ts ≡ a ++ b → Separated R (x ∷ more) ts
  to_separated_at x [] ts a b h m is = one_part x (subst (R x) (sym (is ∙ ap (λ b. a ++ b) m ∙ append-nil a)) h) refl
  to_separated_at x (y ∷ more) ts a b h m is =
      let c = m.2 in
      t.more_parts x a c.0 (y ∷ more) (c.1 ++ m.1) h (to_separated_at y more (c.1 ++ m.1) c.1 m.1 c.2 m.3 refl) refl (is ∙ ap (λ b. a ++ b) (m.4 ∙ ap (λ u. u ++ m.1) c.3))

  to_separated : (l : List A) (ts : Tokens) → Parts l ts → Separated R l ts
  to_separated l ts t =
      let s = t.4 in
      subst (λ l. Separated R l ts) (sym s.4.0) (to_separated_at t.0 s.0 ts t.1 s.1 t.3 s.3 (t.5 ∙ ap (λ y. t.1 ++ y) (s.5 ∙ ap (λ z. s.1 ++ z) s.4.1 ∙ append-nil s.1)))

  from_separated_at : (l : List A) (ts : Tokens) → Separated R l ts → (x : A) × (more : List A) × (a : Tokens) × (b : Tokens) × R x a × Many MorePart more b × (l ≡ x ∷ more) × (ts ≡ a ++ b)
  from_separated_at l ts (one_part x h is) = (x, [], ts, [], h, refl, is, sym (append-nil ts))
  from_separated_at l ts (t.more_parts x a comma rest b h k is is') =
      let r = from_separated_at rest b k in
      (x, r.0 ∷ r.1, a, mark (codes ",") comma ∷ b, h, (mark (codes ",") comma ∷ r.2, r.3, (comma, r.2, r.4, refl), r.5, ap (λ b. mark (codes ",") comma ∷ b) r.7), is ∙ ap (λ rest. x ∷ rest) r.6, is')

  from_separated : (l : List A) (ts : Tokens) → Separated R l ts → Parts l ts
  from_separated l ts h = let r = from_separated_at l ts h in (r.0, r.2, r.3, r.4, (r.1, r.3, [], r.5, (r.6, refl), sym (append-nil r.3)), r.7)

  pub separated_begins : (test : Token → Bool) → ((x : A) (ts : Tokens) → R x ts → Begins test ts) → (l : List A) (ts : Tokens) → Separated R l ts → Begins test ts
  separated_begins test first l ts h = let r = from_separated_at l ts h in begins_more test r.2 r.3 ts (first r.0 r.2 r.4) r.7

  module _ (d : ℕ) (on : Token → Bool) (p : Parser A) (P : Exact d d on R p) (off : (at : Place) → on (mark (codes ",") at) ≡ false) where
    abbrev on_more : Token → Bool
    on_more k = is_mark (codes ",") k || on k

    more_exact : Exact d d on_more (Many MorePart) (more_parts p)
    unfolding more_parts
    more_exact =
        many_exact d (is_mark (codes ",")) on MorePart _ (next_exact _ _ _ (a_mark (codes ",")) _ _ d d d on (λ v. refl) (λ comma. P))
        (λ x ts c. on_at (is_mark (codes ",")) _ ts c.1 c.3 refl) on_more
        (λ rest s. stops_left (is_mark (codes ",")) on rest s) (λ rest s. stops_right (is_mark (codes ",")) on rest s) (fails (codes ",") on off)

    follows : (more : List A) (u y rest : Tokens) → Many MorePart more u → y ≡ u → Stops on_more rest → Stops on (y ++ rest)
    follows [] u y rest m e s = subst (λ z. Stops on (z ++ rest)) (sym (e ∙ m)) (stops_right (is_mark (codes ",")) on rest s)
    follows (x ∷ more) u y rest m e s = let c = m.2 in off_at on _ y (c.1 ++ m.1) rest (e ∙ m.4 ∙ ap (λ z. z ++ m.1) c.3) (off c.0)

    parts_exact : Exact d d on_more Parts (separated p)
    unfolding separated
    parts_exact =
        then_exact d d d on on_more R (λ x. Then (Many MorePart) (λ more. Nothing (x ∷ more))) p _ P
        (λ x. then_exact d d d on_more on_more (Many MorePart) (λ more. Nothing (x ∷ more)) _ _ more_exact (λ more. done_exact d on_more (x ∷ more))
        (λ more b y rest n s. subst (λ z. Stops on_more (z ++ rest)) (sym n.1) s))
        (λ x b y rest t s. follows t.0 t.1 y rest t.3 (t.5 ∙ ap (λ z. t.1 ++ z) t.4.1 ∙ append-nil t.1) s)

    pub separated_exact : Exact d d on_more (Separated R) (separated p)
    separated_exact = exact_by d d on_more Parts (Separated R) (separated p) parts_exact to_separated from_separated
