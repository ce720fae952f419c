-- An event of a trace stands in the flow.
use Rattle.std.proofs.Common.{◌≡◌, ◌⊎◌, inl, inr, List, [], ◌∷◌, ◌++◌, subst}
use Rattle.hv_rules.specs.Flow.{Flow, Skip, Do, Stop, Then, Either, Loop, Turns, none, more, Ends, Leaves, IsWhole, IsTrace}
use Rattle.hv_lemmas.proofs.Members.{Among, in_left, either_in}

-- the event is one of the flow's
abbrev pub StandsIn : {E : Type 0} → Flow E → E → Type 0
StandsIn Skip e = ⊥
StandsIn (Do x) e = x ≡ e
StandsIn (Stop x) e = x ≡ e
StandsIn (Then a b) e = StandsIn a e ⊎ StandsIn b e
StandsIn (Either a b) e = StandsIn a e ⊎ StandsIn b e
StandsIn (Loop a) e = StandsIn a e

module _ {E : Type 0} (e : E) where
  alone : (x : E) (es : List E) → es ≡ x ∷ [] → Among es e → x ≡ e
  alone x es q h = by (subst (λ zs. Among zs e) q h)
    where
      by : Among (x ∷ []) e → x ≡ e
      by (inl p) = p
      by (inr p) = absurd p

  nowhere : (P : Type 0) (es : List E) → es ≡ [] → Among es e → P
  nowhere P es q h = absurd (subst (λ zs. Among zs e) q h)

  parted : (es xs ys : List E) → es ≡ xs ++ ys → Among es e → Among xs e ⊎ Among ys e
  parted es xs ys q h = either_in xs ys e (subst (λ zs. Among zs e) q h)

  one_of : (P Q : Type 0) (xs ys : List E) → (Among xs e → P) → (Among ys e → Q) → Among xs e ⊎ Among ys e → P ⊎ Q
  one_of P Q xs ys f g (inl h) = inl (f h)
  one_of P Q xs ys f g (inr h) = inr (g h)

  both : (P : Type 0) (xs ys : List E) → (Among xs e → P) → (Among ys e → P) → Among xs e ⊎ Among ys e → P
  both P xs ys f g (inl h) = f h
  both P xs ys f g (inr h) = g h

  turns_stand : (P : Type 0) (Turn : List E → Type 0) → ((xs : List E) → Turn xs → Among xs e → P) → (es : List E) → Turns Turn es → Among es e → P
  turns_stand P Turn f es (none q) h = nowhere P es q h
  turns_stand P Turn f es (more xs ys t ts q) h = both P xs ys (f xs t) (turns_stand P Turn f ys ts) (parted es xs ys q h)

  ends_stand : (f : Flow E) (es : List E) → Ends f es → Among es e → StandsIn f e
  ends_stand Skip es q h = nowhere ⊥ es q h
  ends_stand (Do x) es q h = alone x es q h
  ends_stand (Stop x) es q h = absurd q
  ends_stand (Then a b) es (xs, ys, p, q, s) h = one_of (StandsIn a e) (StandsIn b e) xs ys (ends_stand a xs p) (ends_stand b ys q) (parted es xs ys s h)
  ends_stand (Either a b) es (inl p) h = inl (ends_stand a es p h)
  ends_stand (Either a b) es (inr p) h = inr (ends_stand b es p h)
  ends_stand (Loop a) es t h = turns_stand (StandsIn a e) (Ends a) (ends_stand a) es t h

  leaves_stand : (f : Flow E) (es : List E) → Leaves f es → Among es e → StandsIn f e
  leaves_stand Skip es q h = absurd q
  leaves_stand (Do x) es q h = absurd q
  leaves_stand (Stop x) es q h = alone x es q h
  leaves_stand (Then a b) es (inl p) h = inl (leaves_stand a es p h)
  leaves_stand (Then a b) es (inr (xs, ys, p, q, s)) h = one_of (StandsIn a e) (StandsIn b e) xs ys (ends_stand a xs p) (leaves_stand b ys q) (parted es xs ys s h)
  leaves_stand (Either a b) es (inl p) h = inl (leaves_stand a es p h)
  leaves_stand (Either a b) es (inr p) h = inr (leaves_stand b es p h)
  leaves_stand (Loop a) es (xs, ys, t, q, s) h =
      both (StandsIn a e) xs ys (turns_stand (StandsIn a e) (Ends a) (ends_stand a) xs t) (leaves_stand a ys q) (parted es xs ys s h)

  whole_stands : (f : Flow E) (es : List E) → IsWhole f es → Among es e → StandsIn f e
  whole_stands f es (inl p) h = ends_stand f es p h
  whole_stands f es (inr p) h = leaves_stand f es p h

  pub trace_stands : (f : Flow E) (es : List E) → IsTrace f es → Among es e → StandsIn f e
  trace_stands f es (rest, w) h = whole_stands f (es ++ rest) w (in_left es rest e h)
