-- A part whose value is changed, and a part between two brackets.
use Rattle.std.proofs.Common.{◌≡◌, ℕ, suc, Bool, true, false, List, [], ◌∷◌, ◌++◌, Some, refl, sym, ◌∙◌, ap, subst, append-nil, append_assoc}
use Rattle.hv_tree.specs.declared.place.Place.{Place}
use Rattle.hv_tree.specs.declared.token.Token.{Token}
use Rattle.hv_tree.specs.Tokens.{Tokens, mark}
use Rattle.hv_tree.specs.Refusal.{is_opening}
use Rattle.hv_syn_grammar.specs.Parser.{Parser, ◌>>=◌, done}
use Rattle.hv_syn_grammar.specs.Room.{room}
use Rattle.hv_syn_grammar.specs.Lexemes.{after_mark, after_bracket}
use Rattle.hv_syn_exact.proofs.Exact.{Exact, Then, Nothing, then_exact, done_exact, nowhere}
use Rattle.hv_syn_exact.proofs.Lexemes.{After, a_mark, next_exact, bracketed_exact}
use Rattle.hv_syn_exact.proofs.Shorts.{off_at, empty_stops, zero_at, Can, can_nothing, can_after, can_then}

-- ---- a part whose value is changed

abbrev pub Mapped : {A B : Type 0} → (A → Tokens → Type 0) → (A → B) → B → Tokens → Type 0
Mapped R g = Then R (λ x. Nothing (g x))

pub mapped_exact : {A B : Type 0} (d e : ℕ) (on : Token → Bool) (R : A → Tokens → Type 0) (p : Parser A) (g : A → B) → Exact d e on R p → Exact d e on (Mapped R g) (p >>= (λ x. done (g x)))
mapped_exact d e on R p g P = then_exact d e e on on R (λ x. Nothing (g x)) p (λ x. done (g x)) P (λ x. done_exact e on (g x)) (λ x b y rest n s. empty_stops on y rest n.1 s)

pub mapped_parts : {A B : Type 0} (R : A → Tokens → Type 0) (g : A → B) (b : B) (ts : Tokens) → Mapped R g b ts → (a : A) × R a ts × (b ≡ g a)
mapped_parts R g b ts t = (t.0, subst (R t.0) (sym (t.5 ∙ ap (λ z. t.1 ++ z) t.4.1 ∙ append-nil t.1)) t.3, t.4.0)

pub mapped_by : {A B : Type 0} (R : A → Tokens → Type 0) (g : A → B) (a : A) (b : B) (ts : Tokens) → R a ts → b ≡ g a → Mapped R g b ts
mapped_by R g a b ts h e = (a, ts, [], h, (e, refl), sym (append-nil ts))

-- ---- a part and a closing mark

abbrev pub Closed : {A B : Type 0} → List ℕ → (A → Tokens → Type 0) → (A → Place → B) → B → Tokens → Type 0
Closed close R g = Then R (λ x. After (mark close) (λ right. Nothing (g x right)))

pub closed_exact : {A B : Type 0} (n d : ℕ) (close : List ℕ) (on : Token → Bool) (R : A → Tokens → Type 0) (p : Parser A) (g : A → Place → B) → Exact n n on R p → ((at : Place) → on (mark close at) ≡ false) → ((at : Place) → room n (mark close at ∷ []) ≡ Some d) → Exact n d nowhere (Closed close R g) (p >>= (λ x. after_mark close (λ right. done (g x right))))
closed_exact n d close on R p g P off moves =
    then_exact n n d on nowhere R (λ x. After (mark close) (λ right. Nothing (g x right))) p (λ x. after_mark close (λ right. done (g x right))) P
    (λ x. next_exact _ _ _ (a_mark close) _ _ n d d nowhere moves (λ right. done_exact d nowhere (g x right)))
    (λ x b y rest s stops. off_at on _ y s.1 rest s.3 (off s.0))

pub can_closed : {A B : Type 0} (close : List ℕ) (R : A → Tokens → Type 0) (g : A → Place → B) → Can R → Can (Closed close R g)
can_closed close R g c = can_then R (λ x. After (mark close) (λ right. Nothing (g x right))) c (can_after (mark close) (λ right. Nothing (g c.0 right)) zero_at (can_nothing (g c.0 zero_at)))

-- ---- a part between two brackets

abbrev pub Bracketed : {A B : Type 0} → List ℕ → List ℕ → (A → Tokens → Type 0) → (Place → A → Place → B) → B → Tokens → Type 0
Bracketed open_mark close R g = After (mark open_mark) (λ left. Closed close R (g left))

pub record BracketParts {A B : Type 0} (open_mark close : List ℕ) (R : A → Tokens → Type 0) (g : Place → A → Place → B) (b : B) (ts : Tokens) : Type 0 where
  pub left : Place
  pub right : Place
  pub inside : A
  pub front : Tokens
  pub reads : R inside front
  pub value : b ≡ g left inside right
  pub is : ts ≡ mark open_mark left ∷ (front ++ mark close right ∷ [])

module _ {A B : Type 0} (open_mark close : List ℕ) (R : A → Tokens → Type 0) (g : Place → A → Place → B) where
  pub brackets_exact : (d : ℕ) (on : Token → Bool) (p : Parser A) → Can R → ((n : ℕ) → d ≡ suc n → Exact n n on R p) → ((at : Place) → is_opening (mark open_mark at) ≡ true) → ((at : Place) → on (mark close at) ≡ false) → ((n : ℕ) (at : Place) → room n (mark close at ∷ []) ≡ Some (suc n)) → Exact d d nowhere (Bracketed open_mark close R g) (after_bracket d open_mark (λ left. p >>= (λ x. after_mark close (λ right. done (g left x right)))))
  brackets_exact d on p some P opens off moves =
      bracketed_exact _ _ _ (a_mark open_mark) _ _ d d nowhere
      (λ left. can_closed close R (g left) some)
      opens
      (λ n is left. closed_exact n d close on R p (g left) (P n is) off (λ at. moves n at ∙ ap Some (sym is)))

  pub can_bracketed : Can R → Can (Bracketed open_mark close R g)
  can_bracketed some = can_after (mark open_mark) (λ left. Closed close R (g left)) zero_at (can_closed close R (g zero_at) some)

  pub bracket_parts : (b : B) (ts : Tokens) → Bracketed open_mark close R g b ts → BracketParts open_mark close R g b ts
  bracket_parts b ts t =
      let u = t.2 in let z = u.4 in
      record {
        left = t.0;
        right = z.0;
        inside = u.0;
        front = u.1;
        reads = u.3;
        value = z.2.0;
        is = t.3 ∙ ap (λ y. mark open_mark t.0 ∷ y) (u.5 ∙ ap (λ y. u.1 ++ y) (z.3 ∙ ap (λ y. mark close z.0 ∷ y) z.2.1));
      }

  pub bracketed_by : (left right : Place) (x : A) (a : Tokens) (b : B) (ts : Tokens) → R x a → b ≡ g left x right → ts ≡ mark open_mark left ∷ (a ++ mark close right ∷ []) → Bracketed open_mark close R g b ts
  bracketed_by left right x a b ts h e is = (left, a ++ mark close right ∷ [], (x, a, mark close right ∷ [], h, (right, [], (e, refl), refl), refl), is)

-- what is between brackets, and more after them
pub bracket_front : (open_mark close : List ℕ) (left right : Place) (a y : Tokens) → (mark open_mark left ∷ (a ++ mark close right ∷ [])) ++ y ≡ mark open_mark left ∷ (a ++ mark close right ∷ y)
bracket_front open_mark close left right a y = ap (λ l. mark open_mark left ∷ l) (append_assoc a (mark close right ∷ []) y)
