-- Walks and traces.
use Rattle.std.proofs.Common.{◌≡◌, ◌⊎◌, inl, inr, ℕ, ◌+◌, Bool, true, false, ◌&&◌, ◌||◌, List, [], ◌∷◌, ◌++◌, refl, sym, subst, ap, ◌∙◌, append_assoc, arith}
use Rattle.std.proofs.lemmas.List.{append-nil}
use Rattle.hv_rules.specs.Flow.{Flow, Skip, Do, Stop, Then, Either, Loop, Turns, none, more, Ends, Leaves}
use Rattle.hv_flow.specs.Positions.{places, is_empty, At, First, Last, Final, Next, Path, here, step}
use Rattle.hv_flow.proofs.Ranges.{In, at_in, first_in, last_in, final_in, next_in}
use Rattle.hv_lemmas.proofs.Bools.{and_both, or_left, or_right}

-- ---- paths

pub map_path : {E : Type 0} (k k' : ℕ) (f f' : Flow E) → ((i : ℕ) (x : E) → At k f i x → At k' f' i x) → ((i j : ℕ) → Next k f i j → Next k' f' i j) →
    (i : ℕ) (es : List E) (j : ℕ) → Path k f i es j → Path k' f' i es j
map_path k k' f f' at next i es j (here h) = here (at _ _ h)
map_path k k' f f' at next i es j (step h n p) = step (at _ _ h) (next _ _ n) (map_path k k' f f' at next _ _ _ p)

pub join_path : {E : Type 0} (k : ℕ) (f : Flow E) (i m n j : ℕ) (xs ys : List E) → Path k f i xs m → Next k f m n → Path k f n ys j → Path k f i (xs ++ ys) j
join_path k f i m n j xs ys (here h) s q = step h s q
join_path k f i m n j xs ys (step h t p) s q = step h t (join_path k f _ m n j _ ys p s q)

pub path_to : {E : Type 0} (k : ℕ) (f : Flow E) (i : ℕ) (es : List E) (j : ℕ) → Path k f i es j → In k (places f) j
path_to k f i es j (here h) = at_in k f _ _ h
path_to k f i es j (step h n p) = path_to k f _ _ _ p

-- a walk with these events, from where a run may begin to a target
pub record Through {E : Type 0} (k : ℕ) (f : Flow E) (Target : ℕ → Type 0) (es : List E) : Type 0 where
  pub from : ℕ
  pub to : ℕ
  pub first : First k f from
  pub path : Path k f from es to
  pub target : Target to

along : {E : Type 0} (k : ℕ) (f : Flow E) (T : ℕ → Type 0) (es fs : List E) → fs ≡ es → Through k f T es → Through k f T fs
along k f T es fs e t = subst (λ (x : List _). Through k f T x) (sym e) t

left_path : {E : Type 0} (k : ℕ) (a b : Flow E) (i : ℕ) (es : List E) (j : ℕ) → Path k a i es j → Path k (Then a b) i es j
left_path k a b i es j p = map_path k k a (Then a b) (λ _ _ h. inl h) (λ _ _ h. inl h) i es j p

right_path : {E : Type 0} (k : ℕ) (a b : Flow E) (i : ℕ) (es : List E) (j : ℕ) → Path (k + places a) b i es j → Path k (Then a b) i es j
right_path k a b i es j p = map_path (k + places a) k b (Then a b) (λ _ _ h. inr h) (λ _ _ h. inr (inl h)) i es j p

either_left : {E : Type 0} (k : ℕ) (a b : Flow E) (i : ℕ) (es : List E) (j : ℕ) → Path k a i es j → Path k (Either a b) i es j
either_left k a b i es j p = map_path k k a (Either a b) (λ _ _ h. inl h) (λ _ _ h. inl h) i es j p

either_right : {E : Type 0} (k : ℕ) (a b : Flow E) (i : ℕ) (es : List E) (j : ℕ) → Path (k + places a) b i es j → Path k (Either a b) i es j
either_right k a b i es j p = map_path (k + places a) k b (Either a b) (λ _ _ h. inr h) (λ _ _ h. inr h) i es j p

lap_path : {E : Type 0} (k : ℕ) (a : Flow E) (i : ℕ) (es : List E) (j : ℕ) → Path k a i es j → Path k (Loop a) i es j
lap_path k a i es j p = map_path k k a (Loop a) (λ _ _ h. h) (λ _ _ h. inl h) i es j p

-- ---- each trace is a walk

abbrev pub Walked : {E : Type 0} → ℕ → Flow E → List E → Type 0
Walked k f es = ((es ≡ []) × (is_empty f ≡ true)) ⊎ Through k f (λ j. Last k f j) es

walked_then : {E : Type 0} (k : ℕ) (a b : Flow E) (es xs ys : List E) → es ≡ xs ++ ys → Walked k a xs → Walked (k + places a) b ys → Walked k (Then a b) es
walked_then k a b es xs ys e (inl p) (inl q) = inl (cc, and_both _ _ p.1 q.1)
walked_then k a b es xs ys e (inl p) (inr t) =
    let h : es ≡ ys = cc in
    inr (along k (Then a b) _ ys es h (record { from = t.from; to = t.to; first = inr (p.1, t.first); path = right_path k a b _ _ _ t.path; target = inl t.target }))
walked_then k a b es xs ys e (inr t) (inl q) =
    let h : es ≡ xs = e ∙ (ap (λ (w : List _). xs ++ w) q.0 ∙ append-nil xs) in
    inr (along k (Then a b) _ xs es h (record { from = t.from; to = t.to; first = inl t.first; path = left_path k a b _ _ _ t.path; target = inr (q.1, t.target) }))
walked_then k a b es xs ys e (inr t) (inr u) =
    inr (along k (Then a b) _ (xs ++ ys) es e (record {
      from = t.from;
      to = u.to;
      first = inl t.first;
      path = join_path k (Then a b) _ _ _ _ xs ys (left_path k a b _ _ _ t.path) (inr (inr (t.target, u.first))) (right_path k a b _ _ _ u.path);
      target = inl u.target;
    }))

walked_turns : {E : Type 0} (k : ℕ) (a : Flow E) → ((xs : List E) → Ends a xs → Walked k a xs) → (es : List E) → Turns (Ends a) es → (es ≡ []) ⊎ Through k (Loop a) (λ j. Last k a j) es
walked_turns k a ih es (none e) = inl e
walked_turns k a ih es (more xs ys p q e) = turned (ih xs p) (walked_turns k a ih ys q)
  where
    turned : Walked k a xs → (ys ≡ []) ⊎ Through k (Loop a) (λ j. Last k a j) ys → (es ≡ []) ⊎ Through k (Loop a) (λ j. Last k a j) es
    turned (inl u) (inl v) = inl (cc)
    turned (inl u) (inr t) = let h : es ≡ ys = cc in inr (along k (Loop a) _ ys es h t)
    turned (inr t) (inl v) =
        let h : es ≡ xs = e ∙ (ap (λ (w : List _). xs ++ w) v ∙ append-nil xs) in
        inr (along k (Loop a) _ xs es h (record { from = t.from; to = t.to; first = t.first; path = lap_path k a _ _ _ t.path; target = t.target }))
    turned (inr t) (inr u) =
        inr (along k (Loop a) _ (xs ++ ys) es e (record {
          from = t.from;
          to = u.to;
          first = t.first;
          path = join_path k (Loop a) _ _ _ _ xs ys (lap_path k a _ _ _ t.path) (inr (t.target, u.first)) u.path;
          target = u.target;
        }))

loop_walked : {E : Type 0} (k : ℕ) (a : Flow E) (es : List E) → (es ≡ []) ⊎ Through k (Loop a) (λ j. Last k a j) es → Walked k (Loop a) es
loop_walked k a es (inl e) = inl (e, refl)
loop_walked k a es (inr t) = inr t

either_walked : {E : Type 0} (k : ℕ) (a b : Flow E) (es : List E) → Walked k a es ⊎ Walked (k + places a) b es → Walked k (Either a b) es
either_walked k a b es (inl (inl p)) = inl (p.0, or_left _ _ p.1)
either_walked k a b es (inl (inr t)) = inr (record { from = t.from; to = t.to; first = inl t.first; path = either_left k a b _ _ _ t.path; target = inl t.target })
either_walked k a b es (inr (inl p)) = inl (p.0, or_right _ _ p.1)
either_walked k a b es (inr (inr t)) = inr (record { from = t.from; to = t.to; first = inr t.first; path = either_right k a b _ _ _ t.path; target = inr t.target })

pub ends_walked : {E : Type 0} (k : ℕ) (f : Flow E) (es : List E) → Ends f es → Walked k f es
ends_walked k Skip es e = inl (e, refl)
ends_walked k (Do x) es e = inr (along k (Do x) _ (x ∷ []) es e (record { from = k; to = k; first = refl; path = here (refl, refl); target = refl }))
ends_walked k (Stop x) es e = absurd e
ends_walked k (Then a b) es (xs, ys, p, q, e) = walked_then k a b es xs ys e (ends_walked k a xs p) (ends_walked (k + places a) b ys q)
ends_walked k (Either a b) es (inl p) = either_walked k a b es (inl (ends_walked k a es p))
ends_walked k (Either a b) es (inr p) = either_walked k a b es (inr (ends_walked (k + places a) b es p))
ends_walked k (Loop a) es p = loop_walked k a es (walked_turns k a (ends_walked k a) es p)

-- ---- the same where the body is left

abbrev pub Left : {E : Type 0} → ℕ → Flow E → List E → Type 0
Left k f es = Through k f (λ j. Final k f j) es

left_left : {E : Type 0} (k : ℕ) (a b : Flow E) (es : List E) → Left k a es → Left k (Then a b) es
left_left k a b es t = record { from = t.from; to = t.to; first = inl t.first; path = left_path k a b _ _ _ t.path; target = inl t.target }

left_then : {E : Type 0} (k : ℕ) (a b : Flow E) (es xs ys : List E) → es ≡ xs ++ ys → Walked k a xs → Left (k + places a) b ys → Left k (Then a b) es
left_then k a b es xs ys e (inl p) t =
    let h : es ≡ ys = cc in
    along k (Then a b) _ ys es h (record { from = t.from; to = t.to; first = inr (p.1, t.first); path = right_path k a b _ _ _ t.path; target = inr t.target })
left_then k a b es xs ys e (inr t) u =
    along k (Then a b) _ (xs ++ ys) es e (record {
      from = t.from;
      to = u.to;
      first = inl t.first;
      path = join_path k (Then a b) _ _ _ _ xs ys (left_path k a b _ _ _ t.path) (inr (inr (t.target, u.first))) (right_path k a b _ _ _ u.path);
      target = inr u.target;
    })

left_loop : {E : Type 0} (k : ℕ) (a : Flow E) (es xs ys : List E) → es ≡ xs ++ ys → (xs ≡ []) ⊎ Through k (Loop a) (λ j. Last k a j) xs → Left k a ys → Left k (Loop a) es
left_loop k a es xs ys e (inl p) t =
    let h : es ≡ ys = cc in
    along k (Loop a) _ ys es h (record { from = t.from; to = t.to; first = t.first; path = lap_path k a _ _ _ t.path; target = t.target })
left_loop k a es xs ys e (inr t) u =
    along k (Loop a) _ (xs ++ ys) es e (record {
      from = t.from;
      to = u.to;
      first = t.first;
      path = join_path k (Loop a) _ _ _ _ xs ys t.path (inr (t.target, u.first)) (lap_path k a _ _ _ u.path);
      target = u.target;
    })

pub leaves_walked : {E : Type 0} (k : ℕ) (f : Flow E) (es : List E) → Leaves f es → Left k f es
leaves_walked k Skip es e = absurd e
leaves_walked k (Do x) es e = absurd e
leaves_walked k (Stop x) es e = along k (Stop x) _ (x ∷ []) es e (record { from = k; to = k; first = refl; path = here (refl, refl); target = refl })
leaves_walked k (Then a b) es (inl p) = left_left k a b es (leaves_walked k a es p)
leaves_walked k (Then a b) es (inr (xs, ys, p, q, e)) = left_then k a b es xs ys e (ends_walked k a xs p) (leaves_walked (k + places a) b ys q)
leaves_walked k (Either a b) es (inl p) =
    let t = leaves_walked k a es p in record { from = t.from; to = t.to; first = inl t.first; path = either_left k a b _ _ _ t.path; target = inl t.target }
leaves_walked k (Either a b) es (inr p) =
    let t = leaves_walked (k + places a) b es p in record { from = t.from; to = t.to; first = inr t.first; path = either_right k a b _ _ _ t.path; target = inr t.target }
leaves_walked k (Loop a) es (xs, ys, p, q, e) = left_loop k a es xs ys e (walked_turns k a (ends_walked k a) xs p) (leaves_walked k a ys q)

-- ---- and each walk a trace

-- no events, where the flow may be empty
pub empty_ends : {E : Type 0} (f : Flow E) → is_empty f ≡ true → Ends f []
empty_ends Skip h = refl
empty_ends (Do x) h = cc
empty_ends (Stop x) h = cc
empty_ends (Then a b) h = let p : is_empty a ≡ true = grind arith in let q : is_empty b ≡ true = grind arith in ([], [], empty_ends a p, empty_ends b q, refl)
empty_ends (Either a b) h = one_of (is_empty a) (is_empty b) h (empty_ends a) (empty_ends b)
  where
    one_of : (x y : Bool) → (x || y) ≡ true → (x ≡ true → Ends a []) → (y ≡ true → Ends b []) → Ends a [] ⊎ Ends b []
    one_of true y h p q = inl (p refl)
    one_of false y h p q = inr (q h)
empty_ends (Loop a) h = none refl

apart : {k m n i : ℕ} → In k m i → In (k + m) n i → ⊥
apart h g = omega (arith, h.high, g.low)

-- a walk through both of two that follow each other stays in the first, or goes on into the second
data Splits {E : Type 0} (k : ℕ) (a b : Flow E) (i : ℕ) (es : List E) (j : ℕ) : Type 0 where
  inside : Path k a i es j → Splits k a b i es j
  across : (xs ys : List E) (m n : ℕ) → Path k a i xs m → Last k a m → First (k + places a) b n → Path (k + places a) b n ys j → es ≡ xs ++ ys → Splits k a b i es j

at_left : {E : Type 0} (k : ℕ) (a b : Flow E) (i : ℕ) (x : E) → In k (places a) i → At k a i x ⊎ At (k + places a) b i x → At k a i x
at_left k a b i x h (inl g) = g
at_left k a b i x h (inr g) = absurd (apart h (at_in (k + places a) b i x g))

at_right : {E : Type 0} (k : ℕ) (a b : Flow E) (i : ℕ) (x : E) → In (k + places a) (places b) i → At k a i x ⊎ At (k + places a) b i x → At (k + places a) b i x
at_right k a b i x h (inl g) = absurd (apart (at_in k a i x g) h)
at_right k a b i x h (inr g) = g

stays : {E : Type 0} (k : ℕ) (a b : Flow E) (i : ℕ) (es : List E) (j : ℕ) → In (k + places a) (places b) i → Path k (Then a b) i es j → Path (k + places a) b i es j
stays k a b i es j w (here h) = here (at_right k a b i _ w h)
stays k a b i es j w (step h (inl s) p) = absurd (apart (next_in k a _ _ s).one w)
stays k a b i es j w (step h (inr (inl s)) p) = step (at_right k a b i _ w h) s (stays k a b _ _ j (next_in (k + places a) b _ _ s).two p)
stays k a b i es j w (step h (inr (inr s)) p) = absurd (apart (last_in k a _ s.0) w)

longer : {E : Type 0} (k : ℕ) (a b : Flow E) (i m : ℕ) (x : E) (es : List E) (j : ℕ) → At k a i x → Next k a i m → Splits k a b m es j → Splits k a b i (x ∷ es) j
longer k a b i m x es j h s (inside p) = inside (step h s p)
longer k a b i m x es j h s (across xs ys n o p l f q e) = across (x ∷ xs) ys n o (step h s p) l f q (ap (λ (w : List _). x ∷ w) e)

splits : {E : Type 0} (k : ℕ) (a b : Flow E) (i : ℕ) (es : List E) (j : ℕ) → In k (places a) i → Path k (Then a b) i es j → Splits k a b i es j
splits k a b i es j w (here h) = inside (here (at_left k a b i _ w h))
splits k a b i es j w (step h (inl s) p) = longer k a b i _ _ _ j (at_left k a b i _ w h) s (splits k a b _ _ j (next_in k a _ _ s).two p)
splits k a b i es j w (step h (inr (inl s)) p) = absurd (apart w (next_in (k + places a) b _ _ s).one)
splits k a b i es j w (step {m = m} {e = x} {es = ys} h (inr (inr s)) p) =
    across (x ∷ []) ys i m (here (at_left k a b i _ w h)) s.0 s.1 (stays k a b _ _ j (first_in (k + places a) b _ s.1) p) refl

stays_left : {E : Type 0} (k : ℕ) (a b : Flow E) (i : ℕ) (es : List E) (j : ℕ) → In k (places a) i → Path k (Either a b) i es j → Path k a i es j
stays_left k a b i es j w (here h) = here (at_left k a b i _ w h)
stays_left k a b i es j w (step h (inl s) p) = step (at_left k a b i _ w h) s (stays_left k a b _ _ j (next_in k a _ _ s).two p)
stays_left k a b i es j w (step h (inr s) p) = absurd (apart w (next_in (k + places a) b _ _ s).one)

stays_right : {E : Type 0} (k : ℕ) (a b : Flow E) (i : ℕ) (es : List E) (j : ℕ) → In (k + places a) (places b) i → Path k (Either a b) i es j → Path (k + places a) b i es j
stays_right k a b i es j w (here h) = here (at_right k a b i _ w h)
stays_right k a b i es j w (step h (inl s) p) = absurd (apart (next_in k a _ _ s).one w)
stays_right k a b i es j w (step h (inr s) p) = step (at_right k a b i _ w h) s (stays_right k a b _ _ j (next_in (k + places a) b _ _ s).two p)

-- a walk through a loop, cut where a turn ends
data Laps {E : Type 0} (k : ℕ) (a : Flow E) : ℕ → List E → ℕ → Type 0 where
  lap : {i : ℕ} {es : List E} {j : ℕ} → Path k a i es j → Laps k a i es j
  laps : {i : ℕ} {es : List E} {j : ℕ} (xs ys : List E) (m n : ℕ) → Path k a i xs m → Last k a m → First k a n → Laps k a n ys j → es ≡ xs ++ ys → Laps k a i es j

longer_lap : {E : Type 0} (k : ℕ) (a : Flow E) (i m : ℕ) (x : E) (es : List E) (j : ℕ) → At k a i x → Next k a i m → Laps k a m es j → Laps k a i (x ∷ es) j
longer_lap k a i m x es j h s (lap p) = lap (step h s p)
longer_lap k a i m x es j h s (laps xs ys n o p l f q e) = laps (x ∷ xs) ys n o (step h s p) l f q (ap (λ (w : List _). x ∷ w) e)

in_laps : {E : Type 0} (k : ℕ) (a : Flow E) (i : ℕ) (es : List E) (j : ℕ) → Path k (Loop a) i es j → Laps k a i es j
in_laps k a i es j (here h) = lap (here h)
in_laps k a i es j (step h (inl s) p) = longer_lap k a i _ _ _ j h s (in_laps k a _ _ j p)
in_laps k a i es j (step {m = m} {e = x} {es = ys} h (inr s) p) = laps (x ∷ []) ys i m (here h) s.0 s.1 (in_laps k a _ _ j p) refl

laps_end : {E : Type 0} (k : ℕ) (a : Flow E) → ((i : ℕ) (es : List E) (j : ℕ) → First k a i → Path k a i es j → Last k a j → Ends a es) →
    (i : ℕ) (es : List E) (j : ℕ) → First k a i → Laps k a i es j → Last k a j → Turns (Ends a) es
laps_end k a ih i es j f (lap p) l = more es [] (ih i es j f p l) (none refl) (sym (append-nil es))
laps_end k a ih i es j f (laps xs ys m n p l g q e) t = more xs ys (ih i xs m f p l) (laps_end k a ih n ys j g q t) e

abbrev pub LeftLoop : {E : Type 0} → Flow E → List E → Type 0
LeftLoop {E} a es = (xs : List E) × (ys : List E) × Turns (Ends a) xs × Leaves a ys × (es ≡ xs ++ ys)

turned_before : {E : Type 0} (a : Flow E) (es xs ys : List E) → Ends a xs → LeftLoop a ys → es ≡ xs ++ ys → LeftLoop a es
turned_before a es xs ys p (us, vs, q, r, e) h = (xs ++ us, vs, more xs us p q refl, r, h ∙ (ap (λ (w : List _). xs ++ w) e ∙ sym (append_assoc xs us vs)))

laps_leave : {E : Type 0} (k : ℕ) (a : Flow E) → ((i : ℕ) (es : List E) (j : ℕ) → First k a i → Path k a i es j → Last k a j → Ends a es) →
    ((i : ℕ) (es : List E) (j : ℕ) → First k a i → Path k a i es j → Final k a j → Leaves a es) →
    (i : ℕ) (es : List E) (j : ℕ) → First k a i → Laps k a i es j → Final k a j → LeftLoop a es
laps_leave k a ends leaves i es j f (lap p) l = ([], es, none refl, leaves i es j f p l, refl)
laps_leave k a ends leaves i es j f (laps xs ys m n p l g q e) t = turned_before a es xs ys (ends i xs m f p l) (laps_leave k a ends leaves n ys j g q t) e

alone_path : {E : Type 0} (k : ℕ) (x : E) (f : Flow E) → ((i j : ℕ) → Next k f i j → ⊥) → ((i : ℕ) (y : E) → At k f i y → y ≡ x) → (i : ℕ) (es : List E) (j : ℕ) → Path k f i es j → es ≡ x ∷ []
alone_path k x f no_next at i es j (here h) = ap (λ (w : _). w ∷ []) (at _ _ h)
alone_path k x f no_next at i es j (step h s p) = absurd (no_next _ _ s)

abbrev pub WalkEnds : {E : Type 0} → ℕ → Flow E → Type 0
WalkEnds {E} k f = (i : ℕ) (es : List E) (j : ℕ) → First k f i → Path k f i es j → Last k f j → Ends f es

abbrev pub WalkLeaves : {E : Type 0} → ℕ → Flow E → Type 0
WalkLeaves {E} k f = (i : ℕ) (es : List E) (j : ℕ) → First k f i → Path k f i es j → Final k f j → Leaves f es

module _ {E : Type 0} (k : ℕ) (a b : Flow E) (one : WalkEnds k a) (two : WalkEnds (k + places a) b) where
  through_both : (i : ℕ) (es : List E) (j : ℕ) → First k a i → Splits k a b i es j → Last k (Then a b) j → Ends (Then a b) es
  through_both i es j f (inside q) (inl l) = absurd (apart (path_to k a i es j q) (last_in (k + places a) b j l))
  through_both i es j f (inside q) (inr l) = (es, [], one i es j f q l.1, empty_ends b l.0, sym (append-nil es))
  through_both i es j f (across xs ys m n q r g t e) (inl l) = (xs, ys, one i xs m f q r, two n ys j g t l, e)
  through_both i es j f (across xs ys m n q r g t e) (inr l) = absurd (apart (last_in k a j l.1) (path_to (k + places a) b n ys j t))

  in_second : (i : ℕ) (es : List E) (j : ℕ) → is_empty a ≡ true → First (k + places a) b i → Path (k + places a) b i es j → Last k (Then a b) j → Ends (Then a b) es
  in_second i es j h f q (inl l) = ([], es, empty_ends a h, two i es j f q l, refl)
  in_second i es j h f q (inr l) = absurd (apart (last_in k a j l.1) (path_to (k + places a) b i es j q))

  in_left : (i : ℕ) (es : List E) (j : ℕ) → First k a i → Path k a i es j → Last k (Either a b) j → Ends (Either a b) es
  in_left i es j f q (inl l) = inl (one i es j f q l)
  in_left i es j f q (inr l) = absurd (apart (path_to k a i es j q) (last_in (k + places a) b j l))

  in_right : (i : ℕ) (es : List E) (j : ℕ) → First (k + places a) b i → Path (k + places a) b i es j → Last k (Either a b) j → Ends (Either a b) es
  in_right i es j f q (inl l) = absurd (apart (last_in k a j l) (path_to (k + places a) b i es j q))
  in_right i es j f q (inr l) = inr (two i es j f q l)

pub walk_ends : {E : Type 0} (k : ℕ) (f : Flow E) (i : ℕ) (es : List E) (j : ℕ) → First k f i → Path k f i es j → Last k f j → Ends f es
walk_ends k Skip i es j f p l = absurd f
walk_ends k (Do x) i es j f p l = alone_path k x (Do x) (λ _ _ h. h) (λ _ _ h. h.1) i es j p
walk_ends k (Stop x) i es j f p l = absurd l
walk_ends k (Then a b) i es j (inl f) p l = through_both k a b (walk_ends k a) (walk_ends (k + places a) b) i es j f (splits k a b i es j (first_in k a i f) p) l
walk_ends k (Then a b) i es j (inr f) p l =
    in_second k a b (walk_ends k a) (walk_ends (k + places a) b) i es j f.0 f.1 (stays k a b i es j (first_in (k + places a) b i f.1) p) l
walk_ends k (Either a b) i es j (inl f) p l = in_left k a b (walk_ends k a) (walk_ends (k + places a) b) i es j f (stays_left k a b i es j (first_in k a i f) p) l
walk_ends k (Either a b) i es j (inr f) p l =
    in_right k a b (walk_ends k a) (walk_ends (k + places a) b) i es j f (stays_right k a b i es j (first_in (k + places a) b i f) p) l
walk_ends k (Loop a) i es j f p l = laps_end k a (walk_ends k a) i es j f (in_laps k a i es j p) l

module _ {E : Type 0} (k : ℕ) (a b : Flow E) (ends : WalkEnds k a) (one : WalkLeaves k a) (two : WalkLeaves (k + places a) b) where
  leave_both : (i : ℕ) (es : List E) (j : ℕ) → First k a i → Splits k a b i es j → Final k (Then a b) j → Leaves (Then a b) es
  leave_both i es j f (inside q) (inl l) = inl (one i es j f q l)
  leave_both i es j f (inside q) (inr l) = absurd (apart (path_to k a i es j q) (final_in (k + places a) b j l))
  leave_both i es j f (across xs ys m n q r g t e) (inl l) = absurd (apart (final_in k a j l) (path_to (k + places a) b n ys j t))
  leave_both i es j f (across xs ys m n q r g t e) (inr l) = inr (xs, ys, ends i xs m f q r, two n ys j g t l, e)

  leave_second : (i : ℕ) (es : List E) (j : ℕ) → is_empty a ≡ true → First (k + places a) b i → Path (k + places a) b i es j → Final k (Then a b) j → Leaves (Then a b) es
  leave_second i es j h f q (inl l) = absurd (apart (final_in k a j l) (path_to (k + places a) b i es j q))
  leave_second i es j h f q (inr l) = inr ([], es, empty_ends a h, two i es j f q l, refl)

  leave_left : (i : ℕ) (es : List E) (j : ℕ) → First k a i → Path k a i es j → Final k (Either a b) j → Leaves (Either a b) es
  leave_left i es j f q (inl l) = inl (one i es j f q l)
  leave_left i es j f q (inr l) = absurd (apart (path_to k a i es j q) (final_in (k + places a) b j l))

  leave_right : (i : ℕ) (es : List E) (j : ℕ) → First (k + places a) b i → Path (k + places a) b i es j → Final k (Either a b) j → Leaves (Either a b) es
  leave_right i es j f q (inl l) = absurd (apart (final_in k a j l) (path_to (k + places a) b i es j q))
  leave_right i es j f q (inr l) = inr (two i es j f q l)

pub walk_leaves : {E : Type 0} (k : ℕ) (f : Flow E) (i : ℕ) (es : List E) (j : ℕ) → First k f i → Path k f i es j → Final k f j → Leaves f es
walk_leaves k Skip i es j f p l = absurd f
walk_leaves k (Do x) i es j f p l = absurd l
walk_leaves k (Stop x) i es j f p l = alone_path k x (Stop x) (λ _ _ h. h) (λ _ _ h. h.1) i es j p
walk_leaves k (Then a b) i es j (inl f) p l =
    leave_both k a b (walk_ends k a) (walk_leaves k a) (walk_leaves (k + places a) b) i es j f (splits k a b i es j (first_in k a i f) p) l
walk_leaves k (Then a b) i es j (inr f) p l =
    leave_second k a b (walk_ends k a) (walk_leaves k a) (walk_leaves (k + places a) b) i es j f.0 f.1 (stays k a b i es j (first_in (k + places a) b i f.1) p) l
walk_leaves k (Either a b) i es j (inl f) p l =
    leave_left k a b (walk_ends k a) (walk_leaves k a) (walk_leaves (k + places a) b) i es j f (stays_left k a b i es j (first_in k a i f) p) l
walk_leaves k (Either a b) i es j (inr f) p l =
    leave_right k a b (walk_ends k a) (walk_leaves k a) (walk_leaves (k + places a) b) i es j f (stays_right k a b i es j (first_in (k + places a) b i f) p) l
walk_leaves k (Loop a) i es j f p l = laps_leave k a (walk_ends k a) (walk_leaves k a) i es j f (in_laps k a i es j p) l
