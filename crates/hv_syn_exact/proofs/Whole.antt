-- The answer on a whole list of tokens.
use Rattle.std.proofs.Common.{◌≡◌, ℕ, Bool, true, [], ◌∷◌, ◌++◌, Some, refl, sym, ◌∙◌, ap, subst, append-nil, append_assoc}
use Rattle.hv_tree.specs.declared.token.Token.{Token}
use Rattle.hv_tree.specs.Tokens.{Tokens}
use Rattle.hv_tree.specs.Refusal.{CanGoOn, LeavesAt, is_opening}
use Rattle.hv_syn_grammar.specs.Parser.{Parser, Read, Got, Off, Deep, ◌>>=◌, read_then}
use Rattle.hv_syn_grammar.specs.Room.{room}
use Rattle.hv_syn_grammar.specs.Declarations.{end_after}
use Rattle.hv_syn_exact.proofs.Exact.{Exact, GotBy, OffBy, Sound, Succeeds}

-- the one thing that the tokens spell, with room for its brackets
pub record IsOnly {A : Type 0} (R : A → Tokens → Type 0) (d : ℕ) (tokens : Tokens) (a : A) : Type 0 where
  pub spells : R a tokens
  pub only : (b : A) → R b tokens → b ≡ a
  pub fits : room d tokens ≡ Some d

-- the tokens leave the grammar here, and there is room for the brackets before
pub record Leaves {A : Type 0} (R : A → Tokens → Type 0) (d : ℕ) (tokens rest : Tokens) : Type 0 where
  pub before : Tokens
  pub leaves : LeavesAt R tokens before rest
  pub left : ℕ
  pub fits : room d before ≡ Some left

-- the rest begins with an opening bracket for which there is no room, and with which some list goes on
pub record TooDeep {A : Type 0} (R : A → Tokens → Type 0) (d : ℕ) (tokens rest : Tokens) : Type 0 where
  pub before : Tokens
  pub bracket : Token
  pub after : Tokens
  pub begins : rest ≡ bracket ∷ after
  pub is : tokens ≡ before ++ rest
  pub opening : is_opening bracket ≡ true
  pub full : room d before ≡ Some 0
  pub goes_on : CanGoOn R (before ++ bracket ∷ [])

abbrev pub Answers : {A : Type 0} → (A → Tokens → Type 0) → ℕ → Tokens → Read A → Type 0
Answers R d ts (Got a rest) = (rest ≡ []) × IsOnly R d ts a
Answers R d ts (Off rest) = Leaves R d ts rest
Answers R d ts (Deep rest) = TooDeep R d ts rest

module _ {A : Type 0} (d : ℕ) (on : Token → Bool) (R : A → Tokens → Type 0) (p : Parser A) (P : Exact d d on R p) where
  spelled_gets : (b : A) (ts : Tokens) → R b ts → Succeeds b [] (p ts)
  spelled_gets b ts r = subst (λ l. Succeeds b [] (p l)) (append-nil ts) (P.whole b ts [] r tt)

  answers_got : (ts : Tokens) (a : A) (rest : Tokens) → GotBy d d R p a rest ts → Answers R d ts (end_after a rest)
  answers_got ts a [] g =
      let flat : ts ≡ g.front = g.is ∙ append-nil g.front in (
        refl,
        record {
          spells = subst (R a) (sym flat) g.reads;
          fits = ap (room d) flat ∙ g.fits;
          only = λ b r.
              let e : p ts ≡ Got a [] = ap p g.is ∙ g.again [] tt in
              (subst (λ q. Succeeds b [] q) e (spelled_gets b ts r)).0;
        },
      )
  answers_got ts a (k ∷ rest) g = record {
    before = g.front;
    left = d;
    fits = g.fits;
    leaves = record {
      is = g.is;
      goes_on = (a, [], subst (R a) (sym (append-nil g.front)) g.reads);
      stops = λ v.
          let other = k ∷ v.1 in
          let whole : R v.0 (g.front ++ other) = subst (R v.0) (append_assoc g.front (k ∷ []) v.1) v.2 in
          let s = subst (λ q. Succeeds v.0 [] q) (g.again other refl) (spelled_gets v.0 (g.front ++ other) whole) in
          let apart : [] ≡ other = s.1 in cc;
    };
  }

  answers_off : (ts rest : Tokens) → OffBy d d R p rest ts → Leaves R d ts rest
  answers_off ts [] g = record {
    before = g.front;
    left = g.left;
    fits = g.fits;
    leaves = record {
      is = g.is;
      goes_on = g.viable;
      stops = λ a r.
          let e : p g.front ≡ Off [] = ap p (sym (append-nil g.front)) ∙ g.again [] tt in
          subst (λ q. Succeeds a [] q) e (spelled_gets a g.front r);
    };
  }
  answers_off ts (k ∷ rest) g = record {
    before = g.front;
    left = g.left;
    fits = g.fits;
    leaves = record {
      is = g.is;
      goes_on = g.viable;
      stops = λ v.
          let other = k ∷ v.1 in
          let whole : R v.0 (g.front ++ other) = subst (R v.0) (append_assoc g.front (k ∷ []) v.1) v.2 in
          subst (λ q. Succeeds v.0 [] q) (g.again other refl) (spelled_gets v.0 (g.front ++ other) whole);
    };
  }

  answers_by : (ts : Tokens) (r : Read A) → Sound d d R p r ts → Answers R d ts (read_then r end_after)
  answers_by ts (Got a rest) g = answers_got ts a rest g
  answers_by ts (Off rest) g = answers_off ts rest g
  answers_by ts (Deep rest) g = record {
    before = g.front;
    bracket = g.bracket;
    after = g.after;
    begins = g.begins;
    is = g.is;
    opening = g.opening;
    full = g.full;
    goes_on = g.viable;
  }

  pub answers : (ts : Tokens) → Answers R d ts ((p >>= end_after) ts)
  answers ts = answers_by ts (p ts) (P.sound ts)
