-- One cell: what is seen of its newest version, and its history outside a part.
use Rattle.std.proofs.Common.{◌≡◌, ℕ, suc, ◌<◌, ◌≤◌, ◌⊎◌, inl, inr, Bool, true, false, not, ◌&&◌, ◌||◌, nat_eq, nat_lt, List, [], ◌∷◌, length, drop, take, refl, sym, ◌∙◌, ap, subst, arith}
use Rattle.std.proofs.lemmas.Bool.Decides.{eqb_tells, leb_tells}
use Rattle.hv_flow_versions.specs.declared.cell.Cell.{Cell}
use Rattle.hv_flow_versions.specs.declared.version.Version.{Version}
use Rattle.hv_flow_versions.specs.declared.version.Site.{Site}
use Rattle.hv_flow_versions.specs.declared.history.History.{History}
use Rattle.hv_flow_versions.specs.declared.part.Part.{Part}
use Rattle.hv_flow_versions.specs.Cells.{is_reached, set_cell, either_cell, turned_cell}
use Rattle.hv_flow_versions.specs.Stacks.{first_of}
use Rattle.hv_flow_versions.specs.Histories.{kept_cell, visible, behind, sides_at, uncovered, stripped, put_outside, set_history}
use Rattle.hv_flow_versions.specs.States.{sides_in, has, AreReached, Stands}
use Rattle.hv_flow_versions.proofs.Changes.{differs, same_number}

pub bool_cases : (b : Bool) → (b ≡ true) ⊎ (b ≡ false)
bool_cases true = inl refl
bool_cases false = inr refl

pub below_it : (a b : ℕ) → a < b → nat_lt a b ≡ true
below_it a b h = elim (leb_tells (suc a) b) [ inl t ↦ t.0 | inr f ↦ absurd (omega (arith, h, f.1)) ]

pub not_below : (a b : ℕ) → b ≤ a → nat_lt a b ≡ false
not_below a b h = elim (leb_tells (suc a) b) [ inl t ↦ absurd (omega (arith, h, t.1)) | inr f ↦ f.0 ]

-- ---- cells

same_cell : (a b c x y z : Bool) → a ≡ x → b ≡ y → c ≡ z → ◌≡◌ {A = Cell} (record { kept = a; no = b; yes = c }) (record { kept = x; no = y; yes = z })
same_cell a b c x y z p q r =
    ap (λ (w : Bool). let d : Cell = record { kept = w; no = b; yes = c } in d) p ∙
    (ap (λ (w : Bool). let d : Cell = record { kept = x; no = w; yes = c } in d) q ∙
    ap (λ (w : Bool). let d : Cell = record { kept = x; no = y; yes = w } in d) r)

or_same : (a : Bool) → (a || a) ≡ a
or_same true = refl
or_same false = refl

or_twice : (a b : Bool) → ((a || b) || b) ≡ (a || b)
or_twice true b = refl
or_twice false b = or_same b

or_nothing : (a r : Bool) → (a || (r && false)) ≡ a
or_nothing true r = refl
or_nothing false true = refl
or_nothing false false = refl

pub either_same : (c : Cell) → either_cell c c ≡ c
either_same c = same_cell _ _ _ _ _ _ (or_same c.kept) (or_same c.no) (or_same c.yes)

pub either_twice : (c d : Cell) → either_cell (either_cell c d) d ≡ either_cell c d
either_twice c d = same_cell _ _ _ _ _ _ (or_twice c.kept d.kept) (or_twice c.no d.no) (or_twice c.yes d.yes)

-- a turn that leaves the cell as it was
pub turned_kept : (c : Cell) → turned_cell c kept_cell ≡ c
turned_kept c = same_cell _ _ _ _ _ _ refl (or_nothing c.no (is_reached c)) (or_nothing c.yes (is_reached c))

pub reached_set : (v : Bool) (c : Cell) → is_reached c ≡ true → is_reached (set_cell v c) ≡ true
reached_set v c h = rw h (either v)
  where
    either : (v : Bool) → (false || ((true && not v) || (true && v))) ≡ true
    either true = refl
    either false = refl

reached_three : (a b c x y z : Bool) → (a || (b || c)) ≡ true → ((x || a) || ((y || b) || (z || c))) ≡ true
reached_three a b c true y z h = refl
reached_three true b c false y z h = refl
reached_three false b c false true z h = refl
reached_three false true c false false z h = refl
reached_three false false c false false true h = refl
reached_three false false true false false false h = refl
reached_three false false false false false false h = cc

pub reached_either : (c d : Cell) → is_reached d ≡ true → is_reached (either_cell c d) ≡ true
reached_either c d h = reached_three d.kept d.no d.yes c.kept c.no c.yes h

reached_turned_three : (a b c x y : Bool) → (a || (b || c)) ≡ true → (a || ((b || x) || (c || y))) ≡ true
reached_turned_three true b c x y h = refl
reached_turned_three false true c x y h = refl
reached_turned_three false false true true y h = refl
reached_turned_three false false true false y h = refl
reached_turned_three false false false x y h = cc

pub reached_turned : (c d : Cell) → is_reached c ≡ true → is_reached (turned_cell c d) ≡ true
reached_turned c d h = reached_turned_three c.kept c.no c.yes (is_reached c && d.no) (is_reached c && d.yes) h

-- ---- what is seen of a version

pub visible_at : (t : ℕ) (v : Version) → t ≤ v.depth → visible t v ≡ v.now
visible_at t v h = rw (not_below v.depth t h)

pub visible_old : (t : ℕ) (v : Version) → v.depth < t → visible t v ≡ kept_cell
visible_old t v h = rw (below_it v.depth t h)

pub visible_reached : (t : ℕ) (v : Version) → is_reached v.now ≡ true → is_reached (visible t v) ≡ true
visible_reached t v h = elim (bool_cases (nat_lt v.depth t)) [ inl e ↦ rw e | inr e ↦ rw e h ]

pub behind_reached : (n : ℕ) (v : Version) → AreReached v → is_reached (behind n v) ≡ true
behind_reached n v h = elim (bool_cases (nat_eq v.seen 0)) [
  | inl e ↦ rw e h.now
  | inr e ↦ elim (bool_cases (nat_lt v.seen n)) [ inl b ↦ rw (e, b) (reached_either v.sides v.now h.now) | inr b ↦ rw (e, b) h.sides ]
]

pub sides_reached : (s : Site) (v : Version) → AreReached v → is_reached (sides_at s v) ≡ true
sides_reached s v h = elim (bool_cases (nat_eq v.depth s.depth)) [ inl e ↦ rw e (behind_reached s.sides v h) | inr e ↦ rw e (visible_reached s.turn v h.now) ]

-- a change leaves what the cell may be behind the sides that are passed
pub sides_new : (d n t : ℕ) (now : Cell) (v : Version) → nat_eq n 0 ≡ false →
    sides_at (record { depth = d; sides = n; turn = t }) (record { depth = d; now = now; sides = sides_at (record { depth = d; sides = n; turn = t }) v; seen = n }) ≡ sides_at (record { depth = d; sides = n; turn = t }) v
sides_new d n t now v h = rw (same_number d, h, not_below n n (omega arith))

-- ---- outside a part

pub strip_not : (d : ℕ) (h : History) → nat_eq h.newest.depth d ≡ false → stripped d h ≡ h
strip_not d h e = rw e

pub strip_here : (d : ℕ) (h : History) → nat_eq h.newest.depth d ≡ true → stripped d h ≡ uncovered h
strip_here d h e = rw e

pub strip_low : (d : ℕ) (h : History) → h.newest.depth < d → stripped d h ≡ h
strip_low d h p = strip_not d h (differs h.newest.depth d (λ e. omega (arith, p, e)))

put_under : (v : Version) (vs : List Version) (h : History) → h.older ≡ vs → stripped v.depth (put_outside v h) ≡ stripped v.depth (uncovered h)
put_under v [] h e = rw (e, same_number v.depth) (elim (bool_cases (nat_eq 0 v.depth)) [ inl b ↦ rw b | inr b ↦ rw b ])
put_under v (w ∷ vs) h e = rw (e, same_number v.depth) (elim (bool_cases (nat_eq w.depth v.depth)) [ inl b ↦ rw b | inr b ↦ rw b ])

pub strip_put : (v : Version) (h : History) → stripped v.depth (put_outside v h) ≡ stripped v.depth (uncovered h)
strip_put v h = put_under v h.older h refl

pub strip_set : (s : Site) (value : Bool) (h : History) → stripped s.depth (set_history s value h) ≡ stripped s.depth h
strip_set s value h = rw (same_number s.depth) (elim (bool_cases (nat_eq h.newest.depth s.depth)) [ inl b ↦ rw b | inr b ↦ rw b ])

-- ---- a history of open parts

pub depth_at_most : (trail : List ℕ) (i : ℕ) (ps : List Part) (h : History) → Stands trail i ps h → h.newest.depth ≤ length ps
depth_at_most trail i [] h s = omega (arith, s.0)
depth_at_most trail i (p ∷ ps) h s = elim (eqb_tells h.newest.depth (suc (length ps))) [
  | inl t ↦ omega (arith, t.1)
  | inr f ↦ let r : h.newest.depth ≤ length ps = depth_at_most (take p.from trail) i ps h (subst (λ (w : History). Stands (take p.from trail) i ps w) (strip_not (suc (length ps)) h f.0) s.1) in omega (arith, r)
]

pub are_reached : (trail : List ℕ) (i : ℕ) (ps : List Part) (h : History) → Stands trail i ps h → AreReached h.newest
are_reached trail i [] h s = s.1
are_reached trail i (p ∷ ps) h s = elim (bool_cases (nat_eq h.newest.depth (suc (length ps)))) [
  | inl t ↦ (s.0 t).reached
  | inr f ↦ are_reached (take p.from trail) i ps h (subst (λ (w : History). Stands (take p.from trail) i ps w) (strip_not (suc (length ps)) h f) s.1)
]

-- the trail of the innermost part has the cell
abbrev pub IsListed : List ℕ → ℕ → List Part → Type 0
IsListed trail i [] = Unit {0}
IsListed trail i (p ∷ ps) = has i (drop p.from trail) ≡ true

pub stands_new : (trail : List ℕ) (i : ℕ) (ps : List Part) (h g : History) → stripped (length ps) h ≡ stripped (length ps) g → h.newest.depth ≡ length ps → AreReached h.newest →
    h.newest.seen ≤ sides_in (first_of ps) → IsListed trail i ps → Stands trail i ps g → Stands trail i ps h
stands_new trail i [] h g e d r n l s = (d, r)
stands_new trail i (p ∷ ps) h g e d r n l s = (λ t. record { seen = n; reached = r; listed = l }, subst (λ (w : History). Stands (take p.from trail) i ps w) (sym e) s.1)
