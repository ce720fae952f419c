-- What holds of each cell, for all of them.
use Rattle.std.proofs.Common.{◌≡◌, ℕ, zero, suc, ◌+◌, ◌≤◌, inl, inr, Bool, true, false, ◌&&◌, nat_eq, if◌then◌else◌, List, [], ◌∷◌, length, map, drop, refl, sym, ◌∙◌, ap, subst, arith}
use Rattle.std.proofs.lemmas.Bool.Decides.{eqb_tells}
use Rattle.hv_flow_versions.specs.declared.history.History.{History}
use Rattle.hv_flow_versions.specs.declared.closing.Closing.{Closing}
use Rattle.hv_flow_versions.specs.declared.part.Part.{Part}
use Rattle.hv_flow_versions.specs.Lists.{over}
use Rattle.hv_flow_versions.specs.Histories.{stripped, close, closed, changed_at, is_new, closed_all, keeps, kept_at, kept_one, kept_all}
use Rattle.hv_flow_versions.specs.States.{has, Stands, Standing}
use Rattle.hv_flow_versions.proofs.Changes.{differs}
use Rattle.hv_flow_versions.proofs.OneCell.{bool_cases, strip_low, depth_at_most, IsListed}
use Rattle.hv_lemmas.proofs.Bools.{and_first}

pub map_map : {A B C : Type 0} (f : B → C) (g : A → B) (xs : List A) → map f (map g xs) ≡ map (λ x. f (g x)) xs
map_map f g [] = refl
map_map f g (x ∷ xs) = ap (λ w. f (g x) ∷ w) (map_map f g xs)

-- ---- histories of open parts

pub map_same : {B : Type 0} (trail : List ℕ) (i : ℕ) (ps : List Part) (hs : List History) (f g : History → B) → Standing trail i ps hs →
    ((j : ℕ) (h : History) → Stands trail j ps h → f h ≡ g h) → map f hs ≡ map g hs
map_same trail i ps [] f g s e = refl
map_same trail i ps (h ∷ hs) f g s e = ap (λ w. w ∷ map f hs) (e i h s.0) ∙ ap (λ w. g h ∷ w) (map_same trail (suc i) ps hs f g s.1 e)

pub standing_map : (trail left : List ℕ) (i : ℕ) (ps qs : List Part) (hs : List History) (f : History → History) → Standing trail i ps hs →
    ((j : ℕ) (h : History) → Stands trail j ps h → Stands left j qs (f h)) → Standing left i qs (map f hs)
standing_map trail left i ps qs [] f s e = tt
standing_map trail left i ps qs (h ∷ hs) f s e = (e i h s.0, standing_map trail left (suc i) ps qs hs f s.1 e)

pub standing_each : (trail left : List ℕ) (i : ℕ) (ps qs : List Part) (hs : List History) → Standing trail i ps hs →
    ((j : ℕ) (h : History) → Stands trail j ps h → Stands left j qs h) → Standing left i qs hs
standing_each trail left i ps qs [] s e = tt
standing_each trail left i ps qs (h ∷ hs) s e = (e i h s.0, standing_each trail left (suc i) ps qs hs s.1 e)

pub strip_all : (trail : List ℕ) (i : ℕ) (ps : List Part) (hs : List History) → Standing trail i ps hs → map (λ h. stripped (suc (length ps)) h) hs ≡ hs
strip_all trail i ps [] s = refl
strip_all trail i ps (h ∷ hs) s =
    let low : h.newest.depth ≤ length ps = depth_at_most trail i ps h s.0 in
    ap (λ w. w ∷ map (λ k. stripped (suc (length ps)) k) hs) (strip_low (suc (length ps)) h (omega (arith, low))) ∙ ap (λ w. h ∷ w) (strip_all trail (suc i) ps hs s.1)

-- ---- one of them is changed

pub map_changed : {B : Type 0} (f : History → History) (v : History → B) (i k : ℕ) (hs : List History) → ((h : History) → v (f h) ≡ v h) → map v (changed_at f i k hs) ≡ map v hs
map_changed f v i k [] e = refl
map_changed f v i k (h ∷ hs) e = elim (bool_cases (nat_eq k i)) [
  | inl t ↦ rw t (ap (λ w. w ∷ map v (changed_at f i (suc k) hs)) (e h) ∙ ap (λ w. v h ∷ w) (map_changed f v i (suc k) hs e))
  | inr t ↦ rw t (ap (λ w. v h ∷ w) (map_changed f v i (suc k) hs e))
]

pub map_changed_at : {B : Type 0} (f : History → History) (v : History → B) (g : B → B) (i k : ℕ) (hs : List History) → ((h : History) → v (f h) ≡ g (v h)) →
    map v (changed_at f i k hs) ≡ changed_at g i k (map v hs)
map_changed_at f v g i k [] e = refl
map_changed_at f v g i k (h ∷ hs) e = elim (bool_cases (nat_eq k i)) [
  | inl t ↦ rw t (ap (λ w. w ∷ map v (changed_at f i (suc k) hs)) (e h) ∙ ap (λ w. g (v h) ∷ w) (map_changed_at f v g i (suc k) hs e))
  | inr t ↦ rw t (ap (λ w. v h ∷ w) (map_changed_at f v g i (suc k) hs e))
]

changed_low : {A : Type 0} (g : A → A) (i k : ℕ) (xs : List A) → i + 1 ≤ k → changed_at g i k xs ≡ xs
changed_low g i k [] h = refl
changed_low g i k (x ∷ xs) h = rw (differs k i (λ e. omega (arith, h, e))) (ap (λ w. x ∷ w) (changed_low g i (suc k) xs (omega (arith, h))))

over_none : {A : Type 0} (g : A → A) (xs : List A) → over (λ k. g) 0 0 xs ≡ xs
over_none g [] = refl
over_none g (x ∷ xs) = refl

over_one_at : {A : Type 0} (g : A → A) (j i k : ℕ) (xs : List A) → i ≡ k + j → over (λ n. g) j 1 xs ≡ changed_at g i k xs
over_one_at g j i k [] e = refl
over_one_at g zero i k (x ∷ xs) e =
    let s : i + 1 ≤ suc k = omega (arith, e) in
    elim (eqb_tells k i) [
      | inl t ↦ rw t.0 (ap (λ w. g x ∷ w) (over_none g xs ∙ sym (changed_low g i (suc k) xs s)))
      | inr f ↦ absurd (f.1 (omega (arith, e)))
    ]
over_one_at g (suc j) i k (x ∷ xs) e = rw (differs k i (λ s. omega (arith, s, e))) (ap (λ w. x ∷ w) (over_one_at g j i (suc k) xs (omega (arith, e))))

pub over_one : {A : Type 0} (g : A → A) (i : ℕ) (xs : List A) → over (λ n. g) i 1 xs ≡ changed_at g i 0 xs
over_one g i xs = over_one_at g i i 0 xs (omega arith)

-- the cell of this number is listed, and so it may be changed
pub standing_changed : (trail left : List ℕ) (i k : ℕ) (ps : List Part) (hs : List History) (f : History → History) → Standing trail k ps hs →
    ((j : ℕ) (h : History) → Stands trail j ps h → Stands left j ps h) →
    (is_new (length ps) i k hs ≡ true → IsListed left i ps) →
    ((h : History) → Stands left i ps h → IsListed left i ps → Stands left i ps (f h)) →
    Standing left k ps (changed_at f i k hs)
standing_changed trail left i k ps [] f s more new each = tt
standing_changed trail left i k ps (h ∷ hs) f s more new each = elim (eqb_tells k i) [
  | inl t ↦
      let there : Stands left i ps h = subst (λ (j : ℕ). Stands left j ps h) t.1 (more k h s.0) in
      let listed : IsListed left i ps = is_listed left i ps h there (λ e. new (first t.0 e)) in
      rw t.0 (subst (λ (j : ℕ). Stands left j ps (f h)) (sym t.1) (each h there listed), standing_changed trail left i (suc k) ps hs f s.1 more (λ e. listed) each)
  | inr t ↦ rw t.0 (more k h s.0, standing_changed trail left i (suc k) ps hs f s.1 more (λ e. new (later t.0 e)) each)
]
  where
    first : nat_eq k i ≡ true → nat_eq h.newest.depth (length ps) ≡ false → is_new (length ps) i k (h ∷ hs) ≡ true
    first t e = rw (t, e)

    later : nat_eq k i ≡ false → is_new (length ps) i (suc k) hs ≡ true → is_new (length ps) i k (h ∷ hs) ≡ true
    later t e = rw t e

    is_listed : (left : List ℕ) (i : ℕ) (ps : List Part) (h : History) → Stands left i ps h → (nat_eq h.newest.depth (length ps) ≡ false → IsListed left i ps) → IsListed left i ps
    is_listed left i [] h s e = tt
    is_listed left i (p ∷ ps) h s e = elim (bool_cases (nat_eq h.newest.depth (suc (length ps)))) [ inl t ↦ (s.0 t).listed | inr f ↦ e f ]

-- ---- a part ends for the cells of a list

-- the second time nothing is done, nor for a cell that isn't in the list
pub record Settles (f : History → History) (is : List ℕ) (k : ℕ) (h : History) : Type 0 where
  pub twice : f (f h) ≡ f h
  pub others : has k is ≡ false → f h ≡ h

abbrev pub AllSettle : (History → History) → List ℕ → ℕ → List History → Type 0
AllSettle f is k [] = Unit {0}
AllSettle f is k (h ∷ hs) = Settles f is k h × AllSettle f is (suc k) hs

settle_step : (f : History → History) (i : ℕ) (is : List ℕ) (k : ℕ) (hs : List History) → AllSettle f (i ∷ is) k hs → AllSettle f is k (changed_at f i k hs)
settle_step f i is k [] s = tt
settle_step f i is k (h ∷ hs) s = elim (bool_cases (nat_eq k i)) [
  | inl t ↦ rw t (record { twice = ap f s.0.twice; others = λ e. s.0.twice }, settle_step f i is (suc k) hs s.1)
  | inr t ↦ rw t (record { twice = s.0.twice; others = λ e. s.0.others (rw t e) }, settle_step f i is (suc k) hs s.1)
]

map_step : (f : History → History) (i : ℕ) (is : List ℕ) (k : ℕ) (hs : List History) → AllSettle f (i ∷ is) k hs → map f (changed_at f i k hs) ≡ map f hs
map_step f i is k [] s = refl
map_step f i is k (h ∷ hs) s = elim (bool_cases (nat_eq k i)) [
  | inl t ↦ rw t (ap (λ w. w ∷ map f (changed_at f i (suc k) hs)) s.0.twice ∙ ap (λ w. f h ∷ w) (map_step f i is (suc k) hs s.1))
  | inr t ↦ rw t (ap (λ w. f h ∷ w) (map_step f i is (suc k) hs s.1))
]

map_none : (f : History → History) (k : ℕ) (hs : List History) → AllSettle f [] k hs → hs ≡ map f hs
map_none f k [] s = refl
map_none f k (h ∷ hs) s = ap (λ w. w ∷ hs) (sym (s.0.others refl)) ∙ ap (λ w. f h ∷ w) (map_none f (suc k) hs s.1)

pub closed_map : (d : ℕ) (c : Closing) (is : List ℕ) (hs : List History) → AllSettle (close d c) is 0 hs → closed_all d c is hs ≡ map (close d c) hs
closed_map d c [] hs s = map_none (close d c) 0 hs s
closed_map d c (i ∷ is) hs s = closed_map d c is (changed_at (close d c) i 0 hs) (settle_step (close d c) i is 0 hs s) ∙ map_step (close d c) i is 0 hs s

settle_all : (trail is : List ℕ) (i : ℕ) (ps : List Part) (hs : List History) (f : History → History) → Standing trail i ps hs →
    ((j : ℕ) (h : History) → Stands trail j ps h → Settles f is j h) → AllSettle f is i hs
settle_all trail is i ps [] f s e = tt
settle_all trail is i ps (h ∷ hs) f s e = (e i h s.0, settle_all trail is (suc i) ps hs f s.1 e)

settles : (trail : List ℕ) (j : ℕ) (p : Part) (ps : List Part) (c : Closing) (h : History) → Stands trail j (p ∷ ps) h →
    (nat_eq h.newest.depth (suc (length ps)) ≡ true → close (suc (length ps)) c (closed c h) ≡ closed c h) → Settles (close (suc (length ps)) c) (drop p.from trail) j h
settles trail j p ps c h s e = elim (bool_cases (nat_eq h.newest.depth (suc (length ps)))) [
  | inl t ↦ record { twice = rw t (e t); others = λ f. absurd (listed (s.0 t).listed f) }
  | inr t ↦ record { twice = rw (t, t); others = λ f. rw t }
]
  where
    listed : {b : Bool} → b ≡ true → b ≡ false → ⊥
    listed p q = cc

-- the cells that were changed in the innermost part are in its trail
pub closed_part : (trail : List ℕ) (p : Part) (ps : List Part) (c : Closing) (hs : List History) → Standing trail 0 (p ∷ ps) hs →
    ((j : ℕ) (h : History) → Stands trail j (p ∷ ps) h → nat_eq h.newest.depth (suc (length ps)) ≡ true → close (suc (length ps)) c (closed c h) ≡ closed c h) →
    closed_all (suc (length ps)) c (drop p.from trail) hs ≡ map (close (suc (length ps)) c) hs
closed_part trail p ps c hs s e = closed_map (suc (length ps)) c (drop p.from trail) hs
    (settle_all trail (drop p.from trail) 0 (p ∷ ps) hs (close (suc (length ps)) c) s (λ j h t. settles trail j p ps c h t (e j h t)))

-- ---- what the trail keeps

-- each cell of which the test holds is in the list
abbrev pub AllHave : (History → Bool) → List ℕ → ℕ → List History → Type 0
AllHave t is k [] = Unit {0}
AllHave t is k (h ∷ hs) = (t h ≡ true → has k is ≡ true) × AllHave t is (suc k) hs

-- the second time nothing is done, nor kept
pub record Ends (f : History → History) (t : History → Bool) (h : History) : Type 0 where
  pub twice : f (f h) ≡ f h
  pub done : t (f h) ≡ false

abbrev AllEnd : (History → History) → (History → Bool) → List History → Type 0
AllEnd f t [] = Unit {0}
AllEnd f t (h ∷ hs) = Ends f t h × AllEnd f t hs

contrary : {b : Bool} → b ≡ true → b ≡ false → ⊥
contrary p q = cc

end_step : (f : History → History) (t : History → Bool) (i k : ℕ) (hs : List History) → AllEnd f t hs → AllEnd f t (changed_at f i k hs)
end_step f t i k [] s = tt
end_step f t i k (h ∷ hs) s = elim (bool_cases (nat_eq k i)) [
  | inl e ↦ rw e (record { twice = ap f s.0.twice; done = ap t s.0.twice ∙ s.0.done }, end_step f t i (suc k) hs s.1)
  | inr e ↦ rw e (s.0, end_step f t i (suc k) hs s.1)
]

have_step : (f : History → History) (t : History → Bool) (i : ℕ) (is : List ℕ) (k : ℕ) (hs : List History) → AllEnd f t hs → AllHave t (i ∷ is) k hs → AllHave t is k (changed_at f i k hs)
have_step f t i is k [] s a = tt
have_step f t i is k (h ∷ hs) s a = elim (bool_cases (nat_eq k i)) [
  | inl e ↦ rw e (λ y. absurd (contrary y s.0.done), have_step f t i is (suc k) hs s.1 a.1)
  | inr e ↦ rw e (λ y. rw e at (a.0 y), have_step f t i is (suc k) hs s.1 a.1)
]

kept_low : (t : History → Bool) (i k : ℕ) (hs : List History) → i + 1 ≤ k → kept_at t i k hs ≡ false
kept_low t i k [] h = refl
kept_low t i k (x ∷ hs) h = rw (differs k i (λ e. omega (arith, h, e))) (kept_low t i (suc k) hs (omega (arith, h)))

has_kept : (b : Bool) (i k : ℕ) (is : List ℕ) → b ≡ true → nat_eq k i ≡ true → has k (kept_one b i is) ≡ true
has_kept true i k is p e = rw e
has_kept false i k is p e = cc

has_still : (b : Bool) (i k : ℕ) (is : List ℕ) → has k is ≡ true → has k (kept_one b i is) ≡ true
has_still true i k is h = elim (bool_cases (nat_eq k i)) [ inl e ↦ rw e | inr e ↦ rw e h ]
has_still false i k is h = h

kept_step : (f : History → History) (t : History → Bool) (i : ℕ) (rest : List ℕ) (b : Bool) (k : ℕ) (hs : List History) → (kept_at t i k hs ≡ true → b ≡ true) →
    AllHave t rest k (changed_at f i k hs) → AllHave t (kept_one b i rest) k hs
kept_step f t i rest b k [] p a = tt
kept_step f t i rest b k (h ∷ hs) p a = elim (eqb_tells k i) [
  | inl e ↦ (λ y. has_kept b i k rest (p (there e.0 y)) e.0, kept_step f t i rest b (suc k) hs (λ y. absurd (contrary y (kept_low t i (suc k) hs (omega (arith, e.1))))) a.1)
  | inr e ↦ (λ y. has_still b i k rest (a.0 (changed e.0 y)), kept_step f t i rest b (suc k) hs (λ y. p (later e.0 y)) a.1)
]
  where
    there : nat_eq k i ≡ true → t h ≡ true → kept_at t i k (h ∷ hs) ≡ true
    there e y = rw e y

    later : nat_eq k i ≡ false → kept_at t i (suc k) hs ≡ true → kept_at t i k (h ∷ hs) ≡ true
    later e y = rw e y

    changed : nat_eq k i ≡ false → t h ≡ true → t (if nat_eq k i then f h else h) ≡ true
    changed e y = rw e y

kept_have : (d : ℕ) (c : Closing) (is : List ℕ) (hs : List History) → AllEnd (close d c) (keeps d c) hs → AllHave (keeps d c) is 0 hs → AllHave (keeps d c) (kept_all d c is hs) 0 hs
kept_have d c [] hs s a = a
kept_have d c (i ∷ is) hs s a =
    kept_step (close d c) (keeps d c) i (kept_all d c is (changed_at (close d c) i 0 hs)) (kept_at (keeps d c) i 0 hs) 0 hs (λ y. y)
    (kept_have d c is (changed_at (close d c) i 0 hs) (end_step (close d c) (keeps d c) i 0 hs s) (have_step (close d c) (keeps d c) i is 0 hs s a))

have_all : (trail : List ℕ) (i : ℕ) (p : Part) (ps : List Part) (c : Closing) (hs : List History) → Standing trail i (p ∷ ps) hs → AllHave (keeps (suc (length ps)) c) (drop p.from trail) i hs
have_all trail i p ps c [] s = tt
have_all trail i p ps c (h ∷ hs) s = (λ y. (s.0.0 (and_first (nat_eq h.newest.depth (suc (length ps))) _ y)).listed, have_all trail (suc i) p ps c hs s.1)

ends : (d : ℕ) (c : Closing) (h : History) → (nat_eq h.newest.depth d ≡ true → nat_eq (closed c h).newest.depth d ≡ false) → Ends (close d c) (keeps d c) h
ends d c h e = elim (bool_cases (nat_eq h.newest.depth d)) [
  | inl t ↦ let low = e t in record { twice = rw (t, low); done = rw (t, low) }
  | inr t ↦ record { twice = rw (t, t); done = rw (t, t) }
]

ends_all : (trail : List ℕ) (i : ℕ) (ps : List Part) (d : ℕ) (c : Closing) (hs : List History) → Standing trail i ps hs →
    ((j : ℕ) (h : History) → Stands trail j ps h → nat_eq h.newest.depth d ≡ true → nat_eq (closed c h).newest.depth d ≡ false) → AllEnd (close d c) (keeps d c) hs
ends_all trail i ps d c [] s e = tt
ends_all trail i ps d c (h ∷ hs) s e = (ends d c h (e i h s.0), ends_all trail (suc i) ps d c hs s.1 e)

-- the cells whose first version outside is made stay in the trail
pub ended_part : (trail : List ℕ) (p : Part) (ps : List Part) (c : Closing) (hs : List History) → Standing trail 0 (p ∷ ps) hs →
    ((j : ℕ) (h : History) → Stands trail j (p ∷ ps) h → nat_eq h.newest.depth (suc (length ps)) ≡ true → nat_eq (closed c h).newest.depth (suc (length ps)) ≡ false) →
    AllHave (keeps (suc (length ps)) c) (kept_all (suc (length ps)) c (drop p.from trail) hs) 0 hs
ended_part trail p ps c hs s e = kept_have (suc (length ps)) c (drop p.from trail) hs (ends_all trail 0 (p ∷ ps) (suc (length ps)) c hs s e) (have_all trail 0 p ps c hs s)

pub standing_ended : (trail left kept : List ℕ) (i : ℕ) (ps qs : List Part) (hs : List History) (f : History → History) (t : History → Bool) → Standing trail i ps hs → AllHave t kept i hs →
    ((j : ℕ) (h : History) → Stands trail j ps h → (t h ≡ true → has j kept ≡ true) → Stands left j qs (f h)) → Standing left i qs (map f hs)
standing_ended trail left kept i ps qs [] f t s a e = tt
standing_ended trail left kept i ps qs (h ∷ hs) f t s a e = (e i h s.0 a.0, standing_ended trail left kept (suc i) ps qs hs f t s.1 a.1 e)
