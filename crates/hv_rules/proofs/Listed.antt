-- All whole traces of a flow whose loops have no whole turn, as a list.
use Rattle.std.proofs.Common.{◌≡◌, ◌⊎◌, inl, inr, ◌↔◌, List, [], ◌∷◌, ◌++◌, refl}
use Rattle.hv_rules.specs.Flow.{Flow, Skip, Do, Stop, Then, Either, Loop, none, more, Ends, Leaves, IsWhole}

-- ---- lists of lists

abbrev pub Among : {E : Type 0} → List (List E) → List E → Type 0
Among [] es = ⊥
Among (l ∷ ls) es = (es ≡ l) ⊎ Among ls es

abbrev pub behind : {E : Type 0} → List E → List (List E) → List (List E)
behind l [] = []
behind l (k ∷ ks) = (l ++ k) ∷ behind l ks

-- each of the first and then each of the second
abbrev pub pairs : {E : Type 0} → List (List E) → List (List E) → List (List E)
pairs [] ks = []
pairs (l ∷ ls) ks = behind l ks ++ pairs ls ks

in_first : {E : Type 0} (ls ks : List (List E)) (es : List E) → Among ls es → Among (ls ++ ks) es
in_first [] ks es h = absurd h
in_first (l ∷ ls) ks es (inl e) = inl e
in_first (l ∷ ls) ks es (inr h) = inr (in_first ls ks es h)

in_second : {E : Type 0} (ls ks : List (List E)) (es : List E) → Among ks es → Among (ls ++ ks) es
in_second [] ks es h = h
in_second (l ∷ ls) ks es h = inr (in_second ls ks es h)

in_either : {E : Type 0} (ls ks : List (List E)) (es : List E) → Among (ls ++ ks) es → Among ls es ⊎ Among ks es
in_either [] ks es h = inr h
in_either (l ∷ ls) ks es (inl e) = inl (inl e)
in_either (l ∷ ls) ks es (inr h) = widened (in_either ls ks es h)
  where
    widened : Among ls es ⊎ Among ks es → Among (l ∷ ls) es ⊎ Among ks es
    widened (inl i) = inl (inr i)
    widened (inr i) = inr i

joined : {E : Type 0} (xs ys ls ks es : List E) → xs ≡ ls → ys ≡ ks → es ≡ xs ++ ys → es ≡ ls ++ ks
joined xs ys ls ks es e f g = cc

in_behind : {E : Type 0} (l xs ys es : List E) (ks : List (List E)) → xs ≡ l → Among ks ys → es ≡ xs ++ ys → Among (behind l ks) es
in_behind l xs ys es [] e h g = absurd h
in_behind l xs ys es (k ∷ ks) e (inl f) g = inl (joined xs ys l k es e f g)
in_behind l xs ys es (k ∷ ks) e (inr h) g = inr (in_behind l xs ys es ks e h g)

in_pairs : {E : Type 0} (ls ks : List (List E)) (xs ys es : List E) → Among ls xs → Among ks ys → es ≡ xs ++ ys → Among (pairs ls ks) es
in_pairs [] ks xs ys es h i g = absurd h
in_pairs (l ∷ ls) ks xs ys es (inl e) i g = in_first (behind l ks) (pairs ls ks) es (in_behind l xs ys es ks e i g)
in_pairs (l ∷ ls) ks xs ys es (inr h) i g = in_second (behind l ks) (pairs ls ks) es (in_pairs ls ks xs ys es h i g)

-- ---- the traces

abbrev pub ends_list : {E : Type 0} → Flow E → List (List E)
ends_list Skip = [] ∷ []
ends_list (Do e) = (e ∷ []) ∷ []
ends_list (Stop e) = []
ends_list (Then a b) = pairs (ends_list a) (ends_list b)
ends_list (Either a b) = ends_list a ++ ends_list b
ends_list (Loop a) = [] ∷ []

abbrev pub leaves_list : {E : Type 0} → Flow E → List (List E)
leaves_list Skip = []
leaves_list (Do e) = []
leaves_list (Stop e) = (e ∷ []) ∷ []
leaves_list (Then a b) = leaves_list a ++ pairs (ends_list a) (leaves_list b)
leaves_list (Either a b) = leaves_list a ++ leaves_list b
leaves_list (Loop a) = leaves_list a

-- no loop has a turn that comes to its end
abbrev pub TurnsNever : {E : Type 0} → Flow E → Type 0
TurnsNever Skip = Unit {0}
TurnsNever (Do e) = Unit {0}
TurnsNever (Stop e) = Unit {0}
TurnsNever (Then a b) = TurnsNever a × TurnsNever b
TurnsNever (Either a b) = TurnsNever a × TurnsNever b
TurnsNever (Loop a) = (ends_list a ≡ []) × TurnsNever a

no_turn : {E : Type 0} (ls : List (List E)) (xs : List E) → ls ≡ [] → Among ls xs → ⊥
no_turn [] xs e h = h
no_turn (l ∷ ls) xs e h = cc

ends_listed : {E : Type 0} (f : Flow E) (es : List E) → TurnsNever f → Ends f es → Among (ends_list f) es
ends_listed Skip es t h = inl h
ends_listed (Do e) es t h = inl h
ends_listed (Stop e) es t h = absurd h
ends_listed (Then a b) es t (xs, ys, p, q, e) = in_pairs (ends_list a) (ends_list b) xs ys es (ends_listed a xs t.0 p) (ends_listed b ys t.1 q) e
ends_listed (Either a b) es t (inl p) = in_first (ends_list a) (ends_list b) es (ends_listed a es t.0 p)
ends_listed (Either a b) es t (inr p) = in_second (ends_list a) (ends_list b) es (ends_listed b es t.1 p)
ends_listed (Loop a) es t (none e) = inl e
ends_listed (Loop a) es t (more xs ys p q e) = absurd (no_turn (ends_list a) xs t.0 (ends_listed a xs t.1 p))

leaves_listed : {E : Type 0} (f : Flow E) (es : List E) → TurnsNever f → Leaves f es → Among (leaves_list f) es
leaves_listed Skip es t h = absurd h
leaves_listed (Do e) es t h = absurd h
leaves_listed (Stop e) es t h = inl h
leaves_listed (Then a b) es t (inl p) = in_first (leaves_list a) (pairs (ends_list a) (leaves_list b)) es (leaves_listed a es t.0 p)
leaves_listed (Then a b) es t (inr (xs, ys, p, q, e)) =
    in_second (leaves_list a) (pairs (ends_list a) (leaves_list b)) es (in_pairs (ends_list a) (leaves_list b) xs ys es (ends_listed a xs t.0 p) (leaves_listed b ys t.1 q) e)
leaves_listed (Either a b) es t (inl p) = in_first (leaves_list a) (leaves_list b) es (leaves_listed a es t.0 p)
leaves_listed (Either a b) es t (inr p) = in_second (leaves_list a) (leaves_list b) es (leaves_listed b es t.1 p)
leaves_listed {E} (Loop a) es t (xs, ys, none e, q, f) = by (ys) e f (leaves_listed a ys t.1 q)
  where
    by : (ys : List E) → xs ≡ [] → es ≡ xs ++ ys → Among (leaves_list a) ys → Among (leaves_list a) es
    by ys e f h = let g : es ≡ ys = joined xs ys [] ys es e refl f in rw g h
leaves_listed (Loop a) es t (xs, ys, more us vs p q e, r, f) = absurd (no_turn (ends_list a) us t.0 (ends_listed a us t.1 p))

-- ---- and the other way

out_behind : {E : Type 0} (l es : List E) (ks : List (List E)) → Among (behind l ks) es → (ys : List E) × Among ks ys × (es ≡ l ++ ys)
out_behind l es [] h = absurd h
out_behind l es (k ∷ ks) (inl e) = (k, inl refl, e)
out_behind l es (k ∷ ks) (inr h) = let o = out_behind l es ks h in (o.0, inr o.1, o.2)

out_pairs : {E : Type 0} (ls ks : List (List E)) (es : List E) → Among (pairs ls ks) es → (xs : List E) × (ys : List E) × Among ls xs × Among ks ys × (es ≡ xs ++ ys)
out_pairs [] ks es h = absurd h
out_pairs {E} (l ∷ ls) ks es h = by (in_either (behind l ks) (pairs ls ks) es h) (out_pairs ls ks es)
  where
    by : Among (behind l ks) es ⊎ Among (pairs ls ks) es → (Among (pairs ls ks) es → (xs : List E) × (ys : List E) × Among ls xs × Among ks ys × (es ≡ xs ++ ys)) →
        (xs : List E) × (ys : List E) × Among (l ∷ ls) xs × Among ks ys × (es ≡ xs ++ ys)
    by (inl i) further = let o = out_behind l es ks i in (l, o.0, inl refl, o.1, o.2)
    by (inr i) further = let o = further i in (o.0, o.1, inr o.2, o.3, o.4)

listed_ends : {E : Type 0} (f : Flow E) (es : List E) → Among (ends_list f) es → Ends f es
listed_ends Skip es (inl e) = e
listed_ends Skip es (inr h) = absurd h
listed_ends (Do e) es (inl f) = f
listed_ends (Do e) es (inr h) = absurd h
listed_ends (Stop e) es h = absurd h
listed_ends (Then a b) es h = let o = out_pairs (ends_list a) (ends_list b) es h in (o.0, o.1, listed_ends a o.0 o.2, listed_ends b o.1 o.3, o.4)
listed_ends (Either a b) es h = by (in_either (ends_list a) (ends_list b) es h) (listed_ends a es) (listed_ends b es)
  where
    by : Among (ends_list a) es ⊎ Among (ends_list b) es → (Among (ends_list a) es → Ends a es) → (Among (ends_list b) es → Ends b es) → Ends a es ⊎ Ends b es
    by (inl i) f g = inl (f i)
    by (inr i) f g = inr (g i)
listed_ends (Loop a) es (inl e) = none e
listed_ends (Loop a) es (inr h) = absurd h

listed_leaves : {E : Type 0} (f : Flow E) (es : List E) → Among (leaves_list f) es → Leaves f es
listed_leaves Skip es h = absurd h
listed_leaves (Do e) es h = absurd h
listed_leaves (Stop e) es (inl f) = f
listed_leaves (Stop e) es (inr h) = absurd h
listed_leaves {E} (Then a b) es h = by (in_either (leaves_list a) (pairs (ends_list a) (leaves_list b)) es h) (listed_leaves a es) (listed_leaves b)
  where
    by : Among (leaves_list a) es ⊎ Among (pairs (ends_list a) (leaves_list b)) es → (Among (leaves_list a) es → Leaves a es) → ((ys : List E) → Among (leaves_list b) ys → Leaves b ys) → Leaves (Then a b) es
    by (inl i) f g = inl (f i)
    by (inr i) f g = let o = out_pairs (ends_list a) (leaves_list b) es i in inr (o.0, o.1, listed_ends a o.0 o.2, g o.1 o.3, o.4)
listed_leaves (Either a b) es h = by (in_either (leaves_list a) (leaves_list b) es h) (listed_leaves a es) (listed_leaves b es)
  where
    by : Among (leaves_list a) es ⊎ Among (leaves_list b) es → (Among (leaves_list a) es → Leaves a es) → (Among (leaves_list b) es → Leaves b es) → Leaves a es ⊎ Leaves b es
    by (inl i) f g = inl (f i)
    by (inr i) f g = inr (g i)
listed_leaves (Loop a) es h = ([], es, none refl, listed_leaves a es h, refl)

abbrev pub whole_list : {E : Type 0} → Flow E → List (List E)
whole_list f = ends_list f ++ leaves_list f

-- exactly the listed ones are whole traces
pub whole_listed : {E : Type 0} (f : Flow E) → TurnsNever f → (es : List E) → IsWhole f es ↔ Among (whole_list f) es
whole_listed {E} f t es = (to, λ h. from (in_either (ends_list f) (leaves_list f) es h))
  where
    to : IsWhole f es → Among (whole_list f) es
    to (inl h) = in_first (ends_list f) (leaves_list f) es (ends_listed f es t h)
    to (inr h) = in_second (ends_list f) (leaves_list f) es (leaves_listed f es t h)

    from : Among (ends_list f) es ⊎ Among (leaves_list f) es → IsWhole f es
    from (inl h) = inl (listed_ends f es h)
    from (inr h) = inr (listed_leaves f es h)
