-- An event that a run comes to ends a trace, and each trace's last event is one.
use Rattle.std.proofs.Common.{◌≡◌, ◌⊎◌, inl, inr, List, [], ◌∷◌, ◌++◌, refl, sym, ◌∙◌, subst, ap, append_assoc}
use Rattle.std.proofs.lemmas.List.{append-nil}
use Rattle.hv_rules.specs.Flow.{Flow, Skip, Do, Stop, Then, Either, Loop, Turns, none, more, Ends, Leaves, IsWhole, IsTrace}

-- a run that comes to the event after these
abbrev pub Hits : {E : Type 0} → Flow E → List E → E → Type 0
Hits Skip es e = ⊥
Hits (Do x) es e = (es ≡ []) × (e ≡ x)
Hits (Stop x) es e = (es ≡ []) × (e ≡ x)
Hits {E} (Then a b) es e = Hits a es e ⊎ ((xs : List E) × (ys : List E) × Ends a xs × Hits b ys e × (es ≡ xs ++ ys))
Hits (Either a b) es e = Hits a es e ⊎ Hits b es e
Hits {E} (Loop a) es e = (xs : List E) × (ys : List E) × Turns (Ends a) xs × Hits a ys e × (es ≡ xs ++ ys)

pub record Some_whole {E : Type 0} (f : Flow E) : Type 0 where
  pub es : List E
  pub whole : IsWhole f es

then_whole : {E : Type 0} (a b : Flow E) (xs : List E) → IsWhole a xs → Some_whole b → Some_whole (Then a b)
then_whole a b xs (inr p) t = record { es = xs; whole = inr (inl p) }
then_whole a b xs (inl p) t = by (t.whole)
  where
    by : IsWhole b t.es → Some_whole (Then a b)
    by (inl q) = record { es = xs ++ t.es; whole = inl (xs, t.es, p, q, refl) }
    by (inr q) = record { es = xs ++ t.es; whole = inr (inr (xs, t.es, p, q, refl)) }

either_whole : {E : Type 0} (a b : Flow E) (xs : List E) → IsWhole a xs ⊎ IsWhole b xs → IsWhole (Either a b) xs
either_whole a b xs (inl (inl p)) = inl (inl p)
either_whole a b xs (inl (inr p)) = inr (inl p)
either_whole a b xs (inr (inl p)) = inl (inr p)
either_whole a b xs (inr (inr p)) = inr (inr p)

pub any_whole : {E : Type 0} (f : Flow E) → Some_whole f
any_whole Skip = record { es = []; whole = inl refl }
any_whole (Do e) = record { es = e ∷ []; whole = inl refl }
any_whole (Stop e) = record { es = e ∷ []; whole = inr refl }
any_whole (Then a b) = let t = any_whole a in then_whole a b t.es t.whole (any_whole b)
any_whole (Either a b) = let t = any_whole a in record { es = t.es; whole = either_whole a b t.es (inl t.whole) }
any_whole (Loop a) = record { es = []; whole = inl (none refl) }

-- ---- what is hit is traced

shift : {E : Type 0} (xs ys : List E) (e : E) (rest : List E) → xs ++ ((ys ++ e ∷ []) ++ rest) ≡ ((xs ++ ys) ++ e ∷ []) ++ rest
shift xs ys e rest = sym (ap (λ (w : List _). w ++ rest) (append_assoc xs ys (e ∷ [])) ∙ append_assoc xs (ys ++ e ∷ []) rest)

trace_then : {E : Type 0} (a b : Flow E) (es : List E) → IsTrace a es → IsTrace (Then a b) es
trace_then a b es (rest, inr p) = (rest, inr (inl p))
trace_then {E} a b es (rest, inl p) = by (any_whole b)
  where
    by : Some_whole b → IsTrace (Then a b) es
    by t = (rest ++ t.es, along (whole_of t.whole))
      where
        along : IsWhole (Then a b) ((es ++ rest) ++ t.es) → IsWhole (Then a b) (es ++ (rest ++ t.es))
        along w = subst (λ (v : List E). IsWhole (Then a b) v) (append_assoc es rest t.es) w

        whole_of : IsWhole b t.es → IsWhole (Then a b) ((es ++ rest) ++ t.es)
        whole_of (inl q) = inl (es ++ rest, t.es, p, q, refl)
        whole_of (inr q) = inr (inr (es ++ rest, t.es, p, q, refl))

trace_after : {E : Type 0} (a b : Flow E) (xs ys : List E) (e : E) → Ends a xs → IsTrace b (ys ++ e ∷ []) → IsTrace (Then a b) ((xs ++ ys) ++ e ∷ [])
trace_after {E} a b xs ys e p (rest, inl q) = (rest, subst (λ (v : List E). IsWhole (Then a b) v) (shift xs ys e rest) (inl (xs, (ys ++ e ∷ []) ++ rest, p, q, refl)))
trace_after {E} a b xs ys e p (rest, inr q) = (rest, subst (λ (v : List E). IsWhole (Then a b) v) (shift xs ys e rest) (inr (inr (xs, (ys ++ e ∷ []) ++ rest, p, q, refl))))

turns_then : {E : Type 0} (P : List E → Type 0) (xs ys : List E) → Turns P xs → P ys → Turns P (xs ++ ys)
turns_then P xs ys (none e) p = more ys [] p (none refl) (ap (λ (w : List _). w ++ ys) e ∙ sym (append-nil ys))
turns_then P xs ys (more us vs q t e) p = more us (vs ++ ys) q (turns_then P vs ys t p) (ap (λ (w : List _). w ++ ys) e ∙ append_assoc us vs ys)

trace_turn : {E : Type 0} (a : Flow E) (xs ys : List E) (e : E) → Turns (Ends a) xs → IsTrace a (ys ++ e ∷ []) → IsTrace (Loop a) ((xs ++ ys) ++ e ∷ [])
trace_turn {E} a xs ys e p (rest, inl q) = (rest, subst (λ (v : List E). IsWhole (Loop a) v) (shift xs ys e rest) (inl (turns_then (Ends a) xs _ p q)))
trace_turn {E} a xs ys e p (rest, inr q) = (rest, subst (λ (v : List E). IsWhole (Loop a) v) (shift xs ys e rest) (inr (xs, (ys ++ e ∷ []) ++ rest, p, q, refl)))

to_trace : {E : Type 0} (f : Flow E) (es fs : List E) → es ≡ fs → IsTrace f fs → IsTrace f es
to_trace f es fs e t = subst (λ (v : List _). IsTrace f v) (sym e) t

pub hit_traced : {E : Type 0} (f : Flow E) (es : List E) (e : E) → Hits f es e → IsTrace f (es ++ e ∷ [])
hit_traced Skip es e h = absurd h
hit_traced (Do x) es e h = ([], inl (cc))
hit_traced (Stop x) es e h = ([], inr (cc))
hit_traced (Then a b) es e (inl h) = trace_then a b _ (hit_traced a es e h)
hit_traced (Then a b) es e (inr (xs, ys, p, h, q)) = to_trace (Then a b) _ _ (ap (λ (w : List _). w ++ e ∷ []) q) (trace_after a b xs ys e p (hit_traced b ys e h))
hit_traced (Either a b) es e (inl h) = let t = hit_traced a es e h in (t.0, either_whole a b _ (inl t.1))
hit_traced (Either a b) es e (inr h) = let t = hit_traced b es e h in (t.0, either_whole a b _ (inr t.1))
hit_traced (Loop a) es e (xs, ys, p, h, q) = to_trace (Loop a) _ _ (ap (λ (w : List _). w ++ e ∷ []) q) (trace_turn a xs ys e p (hit_traced a ys e h))

-- ---- what is traced is hit

-- an event of two lists together stands in the first or in the second
data Falls {E : Type 0} (xs ys es : List E) (e : E) (rest : List E) : Type 0 where
  in_first : (more : List E) → xs ≡ es ++ e ∷ more → Falls xs ys es e rest
  in_second : (skipped : List E) → es ≡ xs ++ skipped → ys ≡ skipped ++ e ∷ rest → Falls xs ys es e rest

falls : {E : Type 0} (xs ys es : List E) (e : E) (rest : List E) → xs ++ ys ≡ es ++ e ∷ rest → Falls xs ys es e rest
falls [] ys es e rest h = in_second es refl h
falls (x ∷ xs) ys [] e rest h = in_first xs (cc)
falls (x ∷ xs) ys (y ∷ es) e rest h = by (falls xs ys es e rest (cc))
  where
    by : Falls xs ys es e rest → Falls (x ∷ xs) ys (y ∷ es) e rest
    by (in_first m q) = in_first m (cc)
    by (in_second s q r) = in_second s (cc) r

alone_hit : {E : Type 0} (x : E) (es : List E) (e : E) (rest : List E) → es ++ e ∷ rest ≡ x ∷ [] → (es ≡ []) × (e ≡ x)
alone_hit x [] e rest h = (refl, cc)
alone_hit x (y ∷ []) e rest h = cc
alone_hit x (y ∷ z ∷ es) e rest h = cc

abbrev pub HitsAll : {E : Type 0} → Flow E → (List E → Type 0) → Type 0
HitsAll {E} f Is = (es : List E) (e : E) (rest : List E) → Is (es ++ e ∷ rest) → Hits f es e

hit_then : {E : Type 0} (a b : Flow E) (Is : List E → Type 0) → HitsAll a (Ends a) → HitsAll b Is → (es : List E) (e : E) (rest xs ys : List E) → Ends a xs → Is ys → es ++ e ∷ rest ≡ xs ++ ys → Hits (Then a b) es e
hit_then {E} a b Is one two es e rest xs ys p q h = by (falls xs ys es e rest (sym h))
  where
    by : Falls xs ys es e rest → Hits (Then a b) es e
    by (in_first m r) = inl (one es e m (subst (λ (w : List E). Ends a w) r p))
    by (in_second s r t) = inr (xs, s, p, two s e rest (subst (λ (w : List E). Is w) t q), r)

hit_turns : {E : Type 0} (a : Flow E) → HitsAll a (Ends a) → (es : List E) (e : E) (rest all : List E) → Turns (Ends a) all → all ≡ es ++ e ∷ rest → Hits (Loop a) es e
hit_turns a one [] e rest all (none q) h = cc
hit_turns a one (y ∷ es) e rest all (none q) h = cc
hit_turns {E} a one es e rest all (more us vs p t q) h = by (falls us vs es e rest (sym q ∙ h)) (λ s r. hit_turns a one s e rest vs t r)
  where
    by : Falls us vs es e rest → ((s : List E) → vs ≡ s ++ e ∷ rest → Hits (Loop a) s e) → Hits (Loop a) es e
    by (in_first m r) ih = ([], es, none refl, one es e m (subst (λ (w : List E). Ends a w) r p), refl)
    by (in_second s r w) ih = add (ih s w)
      where
        add : Hits (Loop a) s e → Hits (Loop a) es e
        add (xs, ys, u, k, z) = (us ++ xs, ys, more us xs p u refl, k, r ∙ (ap (λ (w : List E). us ++ w) z ∙ sym (append_assoc us xs ys)))

hit_leave : {E : Type 0} (a : Flow E) → HitsAll a (Ends a) → HitsAll a (Leaves a) → (es : List E) (e : E) (rest xs ys : List E) → Turns (Ends a) xs → Leaves a ys → es ++ e ∷ rest ≡ xs ++ ys → Hits (Loop a) es e
hit_leave {E} a one two es e rest xs ys t q h = by (falls xs ys es e rest (sym h))
  where
    by : Falls xs ys es e rest → Hits (Loop a) es e
    by (in_first m r) = hit_turns a one es e m xs t r
    by (in_second s r w) = (xs, s, t, two s e rest (subst (λ (v : List E). Leaves a v) w q), r)

pub ends_hit : {E : Type 0} (f : Flow E) (es : List E) (e : E) (rest : List E) → Ends f (es ++ e ∷ rest) → Hits f es e
ends_hit Skip [] e rest h = cc
ends_hit Skip (x ∷ es) e rest h = cc
ends_hit (Do x) es e rest h = alone_hit x es e rest h
ends_hit (Stop x) es e rest h = absurd h
ends_hit (Then a b) es e rest (xs, ys, p, q, h) = hit_then a b (Ends b) (ends_hit a) (ends_hit b) es e rest xs ys p q h
ends_hit (Either a b) es e rest (inl h) = inl (ends_hit a es e rest h)
ends_hit (Either a b) es e rest (inr h) = inr (ends_hit b es e rest h)
ends_hit (Loop a) es e rest t = hit_turns a (ends_hit a) es e rest _ t refl

pub leaves_hit : {E : Type 0} (f : Flow E) (es : List E) (e : E) (rest : List E) → Leaves f (es ++ e ∷ rest) → Hits f es e
leaves_hit Skip es e rest h = absurd h
leaves_hit (Do x) es e rest h = absurd h
leaves_hit (Stop x) es e rest h = alone_hit x es e rest h
leaves_hit (Then a b) es e rest (inl h) = inl (leaves_hit a es e rest h)
leaves_hit (Then a b) es e rest (inr (xs, ys, p, q, h)) = hit_then a b (Leaves b) (ends_hit a) (leaves_hit b) es e rest xs ys p q h
leaves_hit (Either a b) es e rest (inl h) = inl (leaves_hit a es e rest h)
leaves_hit (Either a b) es e rest (inr h) = inr (leaves_hit b es e rest h)
leaves_hit (Loop a) es e rest (xs, ys, t, q, h) = hit_leave a (ends_hit a) (leaves_hit a) es e rest xs ys t q h

whole_hit : {E : Type 0} (f : Flow E) (es : List E) (e : E) (rest : List E) → IsWhole f (es ++ e ∷ rest) → Hits f es e
whole_hit f es e rest (inl h) = ends_hit f es e rest h
whole_hit f es e rest (inr h) = leaves_hit f es e rest h

pub trace_hit : {E : Type 0} (f : Flow E) (es : List E) (e : E) → IsTrace f (es ++ e ∷ []) → Hits f es e
trace_hit {E} f es e (rest, w) = whole_hit f es e rest (subst (λ (v : List E). IsWhole f v) (append_assoc es (e ∷ []) rest) w)
