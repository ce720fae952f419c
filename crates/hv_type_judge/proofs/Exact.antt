-- A list of refusals that is exactly what a rule refuses.
use Rattle.std.proofs.Common.{◌≡◌, ◌⊎◌, inl, inr, Bool, true, false, if◌then◌else◌, List, [], ◌∷◌, ◌++◌, Decides, refl, sym, ap}
use Rattle.hv_tree.specs.declared.place.Place.{Place}
use Rattle.hv_tree.specs.declared.refusal.Rule.{Rule}
use Rattle.hv_tree.specs.declared.refusal.Refusal.{Refusal}
use Rattle.hv_type_judge.specs.Judged.{refusal, only}
use Rattle.hv_lemmas.proofs.Members.{Among, in_left, in_right, either_in}

-- each refusal of the list is of this rule and at a place where it is violated, and each such place has one
pub record Exact (xs : List Refusal) (k : Rule) (V : Place → Type 0) : Type 0 where
  pub sound : (r : Refusal) → Among xs r → (r.rule ≡ k) × V r.place
  pub whole : (place : Place) → V place → Among xs (refusal k place)

-- nothing
pub none : (k : Rule) (V : Place → Type 0) → ((place : Place) → V place → ⊥) → Exact [] k V
none k V n = record { sound = λ r h. absurd h; whole = λ place v. absurd (n place v) }

-- one refusal where the test says so
pub one : (b : Bool) (k : Rule) (at : Place) (V : Place → Type 0) → (b ≡ true → V at) → ((place : Place) → V place → (at ≡ place) × (b ≡ true)) → Exact (only b (refusal k at)) k V
one true k at V to back = record {
  sound = λ r h. found r h;
  whole = λ place v. inl (ap (refusal k) (back place v).0);
}
  where
    found : (r : Refusal) → Among (refusal k at ∷ []) r → (r.rule ≡ k) × V r.place
    found r (inl e) = rw (← e) (refl, to refl)
    found r (inr h) = absurd h
one false k at V to back = record {
  sound = λ r h. absurd h;
  whole = λ place v. let e : false ≡ true = (back place v).1 in cc;
}

-- two lists, each with what is violated by its own
pub both : (xs ys : List Refusal) (k : Rule) (V W : Place → Type 0) → Exact xs k V → Exact ys k W → Exact (xs ++ ys) k (λ place. V place ⊎ W place)
both xs ys k V W e f = record {
  sound = λ r h. found r (either_in xs ys r h);
  whole = λ place v. there place v;
}
  where
    found : (r : Refusal) → Among xs r ⊎ Among ys r → (r.rule ≡ k) × (V r.place ⊎ W r.place)
    found r (inl h) = let s = e.sound r h in (s.0, inl s.1)
    found r (inr h) = let s = f.sound r h in (s.0, inr s.1)

    there : (place : Place) → V place ⊎ W place → Among (xs ++ ys) (refusal k place)
    there place (inl v) = in_left xs ys (refusal k place) (e.whole place v)
    there place (inr v) = in_right xs ys (refusal k place) (f.whole place v)

-- ---- the place, and what is asked there

module _ (b : Bool) (k : Rule) (at : Place) where
  pub here : (A : Type 0) → Decides b A → Exact (only b (refusal k at)) k (λ place. (at ≡ place) × A)
  here A d = one b k at (λ place. (at ≡ place) × A) (λ e. (refl, d.0 e)) (λ place v. (v.0, d.1 v.1))

  pub asked : (A : Type 0) → Decides b A → Exact (only b (refusal k at)) k (λ place. A × (at ≡ place))
  asked A d = one b k at (λ place. A × (at ≡ place)) (λ e. (d.0 e, refl)) (λ place v. (v.1, d.1 v.0))

  pub between : (A B : Type 0) → Decides b (A × B) → Exact (only b (refusal k at)) k (λ place. A × (at ≡ place) × B)
  between A B d = one b k at (λ place. A × (at ≡ place) × B) (λ e. let v = d.0 e in (v.0, refl, v.1)) (λ place v. (v.1, d.1 (v.0, v.2)))
