-- A part ends for one cell.
use Rattle.std.proofs.Common.{◌≡◌, inl, inr, ℕ, suc, ◌+◌, ◌≤◌, Bool, true, false, nat_eq, nat_lt, if◌then◌else◌, List, ◌∷◌, length, take, ◌++◌, refl, sym, ◌∙◌, ap, subst, arith}
use Rattle.std.proofs.lemmas.Bool.{eqb-true, eq-eqb}
use Rattle.hv_flow_versions.specs.declared.cell.Cell.{Cell}
use Rattle.hv_flow_versions.specs.declared.version.Version.{Version}
use Rattle.hv_flow_versions.specs.declared.version.Site.{Site}
use Rattle.hv_flow_versions.specs.declared.history.History.{History}
use Rattle.hv_flow_versions.specs.declared.closing.Closing.{Closing}
use Rattle.hv_flow_versions.specs.declared.closing.Closing.TheVariants as closing
use Rattle.hv_flow_versions.specs.declared.part.Kind.{Kind}
use Rattle.hv_flow_versions.specs.declared.part.Kind.TheVariants as kind
use Rattle.hv_flow_versions.specs.declared.part.Part.{Part}
use Rattle.hv_flow_versions.specs.Cells.{is_reached, either_cell, turned_cell}
use Rattle.hv_flow_versions.specs.Stacks.{first_of}
use Rattle.hv_flow_versions.specs.Histories.{visible, behind, sides_at, under_of, uncovered, stripped, changed_outside, other_side, passed, joined_value, left, close, closed, is_first_at, is_first, keeps}
use Rattle.hv_flow_versions.specs.States.{AreReached, Stands, site_of, sides_in, number, from_of, has}
use Rattle.hv_flow_versions.proofs.Changes.{differs, same_number}
use Rattle.hv_flow_versions.proofs.OneCell.{bool_cases, below_it, not_below, visible_at, visible_old, visible_reached, sides_reached, behind_reached, sides_new, reached_either, reached_turned, either_same, either_twice, turned_kept, strip_not, strip_here, strip_put, depth_at_most, are_reached, stands_new}
use Rattle.hv_flow_versions.proofs.Trails.{stands_append, listed_outside}
use Rattle.hv_flow_versions.proofs.Opening.{Alike, alike_same}

-- what holds of the history that is closed, and of that outside the part
pub at_part : (d : ℕ) (c : Closing) (h : History) (P : History → History → Type 0) → (nat_eq h.newest.depth d ≡ true → P (closed c h) (uncovered h)) → (nat_eq h.newest.depth d ≡ false → P h h) → P (close d c h) (stripped d h)
at_part d c h P a b = elim (bool_cases (nat_eq h.newest.depth d)) [ inl t ↦ rw t (a t) | inr f ↦ rw f (b f) ]

-- ---- outside the part

pub stands_outside : (trail : List ℕ) (j : ℕ) (p : Part) (ps : List Part) (h : History) → Stands trail j (p ∷ ps) h → nat_eq h.newest.depth (suc (length ps)) ≡ true → Stands (take p.from trail) j ps (uncovered h)
stands_outside trail j p ps h s t = subst (λ (w : History). Stands (take p.from trail) j ps w) (strip_here (suc (length ps)) h t) s.1

pub stands_still : (trail : List ℕ) (j : ℕ) (p : Part) (ps : List Part) (h : History) → Stands trail j (p ∷ ps) h → nat_eq h.newest.depth (suc (length ps)) ≡ false → Stands (take p.from trail) j ps h
stands_still trail j p ps h s f = subst (λ (w : History). Stands (take p.from trail) j ps w) (strip_not (suc (length ps)) h f) s.1

pub outside_low : (n : ℕ) → nat_eq n (suc n) ≡ false
outside_low n = differs n (suc n) (λ e. omega (arith, e))

-- the second time nothing is done
pub low_twice : (d : ℕ) (c : Closing) (h : History) → nat_eq h.newest.depth d ≡ false → close d c h ≡ h
low_twice d c h e = rw e

pub uncover_twice : (trail : List ℕ) (j : ℕ) (p : Part) (ps : List Part) (h : History) → Stands trail j (p ∷ ps) h → nat_eq h.newest.depth (suc (length ps)) ≡ true →
    close (suc (length ps)) closing.Uncover (uncovered h) ≡ uncovered h
uncover_twice trail j p ps h s t =
    let low : (uncovered h).newest.depth ≤ length ps = depth_at_most (take p.from trail) j ps (uncovered h) (stands_outside trail j p ps h s t) in
    low_twice (suc (length ps)) closing.Uncover (uncovered h) (differs (uncovered h).newest.depth (suc (length ps)) (λ e. omega (arith, low, e)))

pub strip_twice : (trail : List ℕ) (j : ℕ) (p : Part) (ps : List Part) (h : History) → Stands trail j (p ∷ ps) h → stripped (suc (length ps)) (stripped (suc (length ps)) h) ≡ stripped (suc (length ps)) h
strip_twice trail j p ps h s =
    let low : (stripped (suc (length ps)) h).newest.depth ≤ length ps = depth_at_most (take p.from trail) j ps (stripped (suc (length ps)) h) s.1 in
    strip_not (suc (length ps)) (stripped (suc (length ps)) h) (differs (stripped (suc (length ps)) h).newest.depth (suc (length ps)) (λ e. omega (arith, low, e)))

pub stands_kind : (trail : List ℕ) (j : ℕ) (k l : Kind) (from around : ℕ) (ps : List Part) (h : History) → number k ≤ number l →
    Stands trail j ((record { kind = k; from = from; around = around }) ∷ ps) h → Stands trail j ((record { kind = l; from = from; around = around }) ∷ ps) h
stands_kind trail j k l from around ps h n s = (λ t. record { seen = omega (arith, n, (s.0 t).seen); reached = (s.0 t).reached; listed = (s.0 t).listed }, s.1)

-- ---- the other side begins

abbrev begun_other : ℕ → History → History
begun_other a h = record { newest = record { depth = h.newest.depth; now = visible a (under_of h.older); sides = h.newest.now; seen = 1 }; older = h.older }

other_is : (a : ℕ) (h : History) → nat_eq h.newest.seen 0 ≡ true → other_side a h ≡ begun_other a h
other_is a h e = rw e

other_twice_at : (d a : ℕ) (h : History) → nat_eq h.newest.depth d ≡ true → close d (closing.ChangeSides a) (begun_other a h) ≡ begun_other a h
other_twice_at d a h t = rw t

pub other_twice : (d a : ℕ) (h : History) → nat_eq h.newest.depth d ≡ true → nat_eq h.newest.seen 0 ≡ true → close d (closing.ChangeSides a) (other_side a h) ≡ other_side a h
other_twice d a h t e = ap (λ (w : History). close d (closing.ChangeSides a) w) (other_is a h e) ∙ (other_twice_at d a h t ∙ sym (other_is a h e))

module _ (trail : List ℕ) (j : ℕ) (b : Bool) (from a : ℕ) (ps : List Part) (h : History) (low : a ≤ length ps) (s : Stands trail j ((record { kind = kind.OneSide b; from = from; around = a }) ∷ ps) h) where
  pub unseen : nat_eq h.newest.depth (suc (length ps)) ≡ true → nat_eq h.newest.seen 0 ≡ true
  unseen t = eq-eqb h.newest.seen 0 (omega (arith, (s.0 t).seen))

  deep : nat_eq h.newest.depth (suc (length ps)) ≡ true → h.newest.depth ≡ suc (length ps)
  deep t = eqb-true h.newest.depth (suc (length ps)) t

  pub other_now : visible a (close (suc (length ps)) (closing.ChangeSides a) h).newest ≡ visible a (stripped (suc (length ps)) h).newest
  other_now = at_part (suc (length ps)) (closing.ChangeSides a) h (λ g w. visible a g.newest ≡ visible a w.newest)
      (λ t. ap (λ (w : History). visible a w.newest) (other_is a h (unseen t)) ∙ visible_at a (begun_other a h).newest (omega (arith, low, deep t)))
      (λ f. refl)

  pub other_sides : sides_at (record { depth = suc (length ps); sides = 1; turn = a }) (close (suc (length ps)) (closing.ChangeSides a) h).newest ≡ visible a h.newest
  other_sides = at_part (suc (length ps)) (closing.ChangeSides a) h (λ g w. sides_at (record { depth = suc (length ps); sides = 1; turn = a }) g.newest ≡ visible a h.newest)
      (λ t. ap (λ (w : History). sides_at (record { depth = suc (length ps); sides = 1; turn = a }) w.newest) (other_is a h (unseen t)) ∙ (there t ∙ sym (visible_at a h.newest (omega (arith, low, deep t)))))
      (λ f. rw f)
    where
      there : nat_eq h.newest.depth (suc (length ps)) ≡ true → sides_at (record { depth = suc (length ps); sides = 1; turn = a }) (begun_other a h).newest ≡ h.newest.now
      there t = rw t

  other_strip_here : nat_eq h.newest.depth (suc (length ps)) ≡ true → stripped (suc (length ps)) (begun_other a h) ≡ stripped (suc (length ps)) h
  other_strip_here t = rw t

  pub other_strip : stripped (suc (length ps)) (close (suc (length ps)) (closing.ChangeSides a) h) ≡ stripped (suc (length ps)) h
  other_strip = at_part (suc (length ps)) (closing.ChangeSides a) h (λ g w. stripped (suc (length ps)) g ≡ stripped (suc (length ps)) h)
      (λ t. ap (λ (w : History). stripped (suc (length ps)) w) (other_is a h (unseen t)) ∙ other_strip_here t)
      (λ f. refl)

  pub other_stands : Stands trail j ((record { kind = kind.OtherSide 1; from = from; around = a }) ∷ ps) (close (suc (length ps)) (closing.ChangeSides a) h)
  other_stands = at_part (suc (length ps)) (closing.ChangeSides a) h (λ g w. Stands trail j ((record { kind = kind.OtherSide 1; from = from; around = a }) ∷ ps) g)
      (λ t. subst (λ (w : History). Stands trail j ((record { kind = kind.OtherSide 1; from = from; around = a }) ∷ ps) w) (sym (other_is a h (unseen t)))
      (stands_new trail j ((record { kind = kind.OtherSide 1; from = from; around = a }) ∷ ps) (begun_other a h) h (other_strip_here t) (deep t)
      (record { now = visible_reached a (under_of h.older) (are_reached (take from trail) j ps (uncovered h) (stands_outside trail j (record { kind = kind.OneSide b; from = from; around = a }) ps h s t)).now; sides = (s.0 t).reached.now })
      (omega arith) (s.0 t).listed more))
      (λ f. more)
    where
      more : Stands trail j ((record { kind = kind.OtherSide 1; from = from; around = a }) ∷ ps) h
      more = stands_kind trail j (kind.OneSide b) (kind.OtherSide 1) from a ps h (omega arith) s

-- ---- what the trail keeps

keeps_first : (d : ℕ) (c : Closing) (h : History) → nat_eq h.newest.depth d ≡ true → is_first c h ≡ true → keeps d c h ≡ true
keeps_first d c h t e = rw t e

first_there : (s : Site) (h : History) → nat_eq (under_of h.older).depth s.depth ≡ false → is_first_at s h ≡ true
first_there s h f = rw f

-- ---- one side more is passed

abbrev pub passed_site : ℕ → ℕ → ℕ → Site
passed_site d n a = record { depth = d; sides = n; turn = a }

-- what the cell may be behind all of them
abbrev pub with_side : ℕ → Cell → Cell → Cell
with_side n sides c = if nat_eq n 0 then c else either_cell sides c

behind_more : (n : ℕ) (v : Version) → v.seen ≤ n → behind (n + 1) v ≡ with_side n (behind n v) v.now
behind_more n v l = elim (bool_cases (nat_eq n 0)) [
  | inl z ↦ let e : nat_eq v.seen 0 ≡ true = eq-eqb v.seen 0 (omega (arith, l, eqb-true n 0 z)) in rw (z, e)
  | inr z ↦ elim (bool_cases (nat_eq v.seen 0)) [
    | inl e ↦ rw (z, e) (sym (either_same v.now))
    | inr e ↦ let more : nat_lt v.seen (n + 1) ≡ true = below_it v.seen (n + 1) (omega (arith, l)) in elim (bool_cases (nat_lt v.seen n)) [
      | inl b ↦ rw (z, e, more, b) (sym (either_twice v.sides v.now))
      | inr b ↦ rw (z, e, more, b)
    ]
  ]
]

with_same : (n : ℕ) (c : Cell) → c ≡ with_side n c c
with_same n c = elim (bool_cases (nat_eq n 0)) [ inl z ↦ rw z | inr z ↦ rw z (sym (either_same c)) ]

not_none : (n : ℕ) → nat_eq (n + 1) 0 ≡ false
not_none n = differs (n + 1) 0 (λ e. omega (arith, e))

module _ (trail : List ℕ) (j : ℕ) (b : Bool) (from n out a : ℕ) (qs : List Part) (h : History) (low : a ≤ length qs) (before : out ≤ length (take from trail))
    (s : Stands trail j ((record { kind = kind.OneSide b; from = from; around = a }) ∷ (record { kind = kind.OtherSide n; from = out; around = a }) ∷ qs) h) where
  pub pass_now : visible a (close (suc (suc (length qs))) (closing.Pass (passed_site (suc (length qs)) n a) (n + 1)) h).newest ≡ visible a (stripped (suc (suc (length qs))) h).newest
  pass_now = at_part (suc (suc (length qs))) (closing.Pass (passed_site (suc (length qs)) n a) (n + 1)) h (λ g w. visible a g.newest ≡ visible a w.newest)
      (λ t. visible_at a (passed (passed_site (suc (length qs)) n a) (n + 1) h).newest (omega (arith, low)))
      (λ f. refl)

  pass_there : (x : Cell) → sides_at (passed_site (suc (length qs)) (n + 1) a) (record { depth = suc (length qs); now = x; sides = with_side n (sides_at (passed_site (suc (length qs)) n a) (under_of h.older)) h.newest.now; seen = n + 1 }) ≡ with_side n (sides_at (passed_site (suc (length qs)) n a) (under_of h.older)) h.newest.now
  pass_there x = rw (same_number (suc (length qs)), not_none n, not_below (n + 1) (n + 1) (omega arith))

  pass_still : nat_eq h.newest.depth (suc (suc (length qs))) ≡ false → sides_at (passed_site (suc (length qs)) (n + 1) a) h.newest ≡ with_side n (sides_at (passed_site (suc (length qs)) n a) h.newest) (visible a h.newest)
  pass_still f = elim (bool_cases (nat_eq h.newest.depth (suc (length qs)))) [
    | inl t ↦
        let o = stands_still trail j (record { kind = kind.OneSide b; from = from; around = a }) ((record { kind = kind.OtherSide n; from = out; around = a }) ∷ qs) h s f in
        rw (t, visible_at a h.newest (omega (arith, low, eqb-true h.newest.depth (suc (length qs)) t))) (behind_more n h.newest (o.0 t).seen)
    | inr t ↦ rw t (with_same n (visible a h.newest))
  ]

  pub pass_sides : sides_at (passed_site (suc (length qs)) (n + 1) a) (close (suc (suc (length qs))) (closing.Pass (passed_site (suc (length qs)) n a) (n + 1)) h).newest
      ≡ with_side n (sides_at (passed_site (suc (length qs)) n a) (stripped (suc (suc (length qs))) h).newest) (visible a h.newest)
  pass_sides = at_part (suc (suc (length qs))) (closing.Pass (passed_site (suc (length qs)) n a) (n + 1)) h
      (λ g w. sides_at (passed_site (suc (length qs)) (n + 1) a) g.newest ≡ with_side n (sides_at (passed_site (suc (length qs)) n a) w.newest) (visible a h.newest))
      (λ t. pass_there (visible a (under_of h.older)) ∙ ap (λ (c : Cell). with_side n (sides_at (passed_site (suc (length qs)) n a) (under_of h.older)) c) (sym (visible_at a h.newest (omega (arith, low, eqb-true h.newest.depth (suc (suc (length qs))) t)))))
      pass_still

  pub pass_strip : stripped (suc (length qs)) (close (suc (suc (length qs))) (closing.Pass (passed_site (suc (length qs)) n a) (n + 1)) h) ≡ stripped (suc (length qs)) (stripped (suc (suc (length qs))) h)
  pass_strip = at_part (suc (suc (length qs))) (closing.Pass (passed_site (suc (length qs)) n a) (n + 1)) h (λ g w. stripped (suc (length qs)) g ≡ stripped (suc (length qs)) w)
      (λ t. strip_put (passed (passed_site (suc (length qs)) n a) (n + 1) h).newest h)
      (λ f. refl)

  with_reached_side : (x c : Cell) → is_reached c ≡ true → is_reached (with_side n x c) ≡ true
  with_reached_side x c r = elim (bool_cases (nat_eq n 0)) [ inl z ↦ rw z r | inr z ↦ rw z (reached_either x c r) ]

  pub pass_stands : (kept : List ℕ) → (keeps (suc (suc (length qs))) (closing.Pass (passed_site (suc (length qs)) n a) (n + 1)) h ≡ true → has j kept ≡ true) →
      Stands (take from trail ++ kept) j ((record { kind = kind.OtherSide (n + 1); from = out; around = a }) ∷ qs) (close (suc (suc (length qs))) (closing.Pass (passed_site (suc (length qs)) n a) (n + 1)) h)
  pass_stands kept e = at_part (suc (suc (length qs))) (closing.Pass (passed_site (suc (length qs)) n a) (n + 1)) h (λ g w. Stands (take from trail ++ kept) j ((record { kind = kind.OtherSide (n + 1); from = out; around = a }) ∷ qs) g)
      (λ t.
      let o = stands_outside trail j (record { kind = kind.OneSide b; from = from; around = a }) ((record { kind = kind.OtherSide n; from = out; around = a }) ∷ qs) h s t in
      stands_new (take from trail ++ kept) j ((record { kind = kind.OtherSide (n + 1); from = out; around = a }) ∷ qs) (passed (passed_site (suc (length qs)) n a) (n + 1) h) (uncovered h)
      (strip_put (passed (passed_site (suc (length qs)) n a) (n + 1) h).newest h) refl
      (record { now = visible_reached a (under_of h.older) (are_reached (take from trail) j ((record { kind = kind.OtherSide n; from = out; around = a }) ∷ qs) (uncovered h) o).now; sides = with_reached_side (sides_at (passed_site (suc (length qs)) n a) (under_of h.older)) h.newest.now (s.0 t).reached.now })
      (omega arith)
      (listed_outside (take from trail) kept j ((record { kind = kind.OtherSide n; from = out; around = a }) ∷ qs) (uncovered h) before o (λ f. e (keeps_first (suc (suc (length qs))) (closing.Pass (passed_site (suc (length qs)) n a) (n + 1)) h t (first_there (passed_site (suc (length qs)) n a) h f))))
      (more (uncovered h) o))
      (λ f. more h (stands_still trail j (record { kind = kind.OneSide b; from = from; around = a }) ((record { kind = kind.OtherSide n; from = out; around = a }) ∷ qs) h s f))
    where
      more : (g : History) → Stands (take from trail) j ((record { kind = kind.OtherSide n; from = out; around = a }) ∷ qs) g → Stands (take from trail ++ kept) j ((record { kind = kind.OtherSide (n + 1); from = out; around = a }) ∷ qs) g
      more g o = stands_append (take from trail) kept j ((record { kind = kind.OtherSide (n + 1); from = out; around = a }) ∷ qs) g before
          (stands_kind (take from trail) j (kind.OtherSide n) (kind.OtherSide (n + 1)) out a qs g (omega arith) o)

-- ---- a change that is made outside

pub alike_outside : (ps : List Part) (a : ℕ) (now : Cell) (h : History) → Alike ps a (changed_outside (site_of ps a) now h) (uncovered h)
alike_outside ps a now h = record {
  strip = strip_put (changed_outside (site_of ps a) now h).newest h;
  sides = λ e. sides_new (length ps) (sides_in (first_of ps)) a now (under_of h.older) e;
}

pub stands_changed : (trail kept : List ℕ) (j : ℕ) (p : Part) (ps : List Part) (a : ℕ) (now : Cell) (h : History) → from_of ps ≤ length (take p.from trail) → is_reached now ≡ true →
    Stands trail j (p ∷ ps) h → nat_eq h.newest.depth (suc (length ps)) ≡ true → (is_first_at (site_of ps a) h ≡ true → has j kept ≡ true) → Stands (take p.from trail ++ kept) j ps (changed_outside (site_of ps a) now h)
stands_changed trail kept j p ps a now h l r s t e =
    let o = stands_outside trail j p ps h s t in
    stands_new (take p.from trail ++ kept) j ps (changed_outside (site_of ps a) now h) (uncovered h) (strip_put (changed_outside (site_of ps a) now h).newest h) refl
    (record { now = r; sides = sides_reached (site_of ps a) (under_of h.older) (are_reached (take p.from trail) j ps (uncovered h) o) })
    (omega arith) (listed_outside (take p.from trail) kept j ps (uncovered h) l o (λ f. e (first_there (site_of ps a) h f)))
    (stands_append (take p.from trail) kept j ps (uncovered h) l o)

pub stands_kept : (trail kept : List ℕ) (j : ℕ) (p : Part) (ps : List Part) (h : History) → from_of ps ≤ length (take p.from trail) → Stands trail j (p ∷ ps) h → nat_eq h.newest.depth (suc (length ps)) ≡ false →
    Stands (take p.from trail ++ kept) j ps h
stands_kept trail kept j p ps h l s f = stands_append (take p.from trail) kept j ps h l (stands_still trail j p ps h s f)

-- ---- the other side ends

-- what the cell may be behind either
abbrev pub joined_cells : Bool → Bool → Cell → Cell → Cell
joined_cells none reached c d = if none then d else (if reached then either_cell c d else c)

joined_same : (z r : Bool) (c : Cell) → c ≡ joined_cells z r c c
joined_same true r c = refl
joined_same false true c = sym (either_same c)
joined_same false false c = refl

value_reached : (n : ℕ) (r : Bool) (v : Version) → AreReached v → is_reached (joined_value n r v) ≡ true
value_reached n r v m = elim (bool_cases (nat_eq n 0)) [ inl z ↦ rw z m.now | inr z ↦ rw z (by r) ]
  where
    by : (r : Bool) → is_reached (if r then either_cell (behind n v) v.now else behind n v) ≡ true
    by true = reached_either (behind n v) v.now m.now
    by false = behind_reached n v m

module _ (trail : List ℕ) (j : ℕ) (n from a : ℕ) (r : Bool) (ps : List Part) (h : History) (low : a ≤ length ps) (before : from_of ps ≤ length (take from trail))
    (s : Stands trail j ((record { kind = kind.OtherSide n; from = from; around = a }) ∷ ps) h) where
  join_there : nat_eq h.newest.depth (suc (length ps)) ≡ true → joined_value n r h.newest ≡ joined_cells (nat_eq n 0) r (sides_at (record { depth = suc (length ps); sides = n; turn = a }) h.newest) (visible a h.newest)
  join_there t = rw (t, visible_at a h.newest (omega (arith, low, eqb-true h.newest.depth (suc (length ps)) t)))

  pub join_now : visible a (close (suc (length ps)) (closing.Join (site_of ps a) n r) h).newest ≡ joined_cells (nat_eq n 0) r (sides_at (record { depth = suc (length ps); sides = n; turn = a }) h.newest) (visible a h.newest)
  join_now = at_part (suc (length ps)) (closing.Join (site_of ps a) n r) h (λ g w. visible a g.newest ≡ joined_cells (nat_eq n 0) r (sides_at (record { depth = suc (length ps); sides = n; turn = a }) h.newest) (visible a h.newest))
      (λ t. visible_at a (changed_outside (site_of ps a) (joined_value n r h.newest) h).newest low ∙ join_there t)
      (λ f. rw f (joined_same (nat_eq n 0) r (visible a h.newest)))

  pub join_alike : Alike ps a (close (suc (length ps)) (closing.Join (site_of ps a) n r) h) (stripped (suc (length ps)) h)
  join_alike = at_part (suc (length ps)) (closing.Join (site_of ps a) n r) h (λ g w. Alike ps a g w)
      (λ t. alike_outside ps a (joined_value n r h.newest) h)
      (λ f. alike_same ps a h)

  pub join_stands : (kept : List ℕ) → (keeps (suc (length ps)) (closing.Join (site_of ps a) n r) h ≡ true → has j kept ≡ true) → Stands (take from trail ++ kept) j ps (close (suc (length ps)) (closing.Join (site_of ps a) n r) h)
  join_stands kept e = at_part (suc (length ps)) (closing.Join (site_of ps a) n r) h (λ g w. Stands (take from trail ++ kept) j ps g)
      (λ t. stands_changed trail kept j (record { kind = kind.OtherSide n; from = from; around = a }) ps a (joined_value n r h.newest) h before (value_reached n r h.newest (s.0 t).reached) s t
      (λ f. e (keeps_first (suc (length ps)) (closing.Join (site_of ps a) n r) h t f)))
      (λ f. stands_kept trail kept j (record { kind = kind.OtherSide n; from = from; around = a }) ps h before s f)

-- ---- the turn ends

module _ (trail : List ℕ) (j : ℕ) (b : Bool) (from a : ℕ) (ps : List Part) (h : History) (low : a ≤ length ps) (before : from_of ps ≤ length (take from trail))
    (s : Stands trail j ((record { kind = kind.Turn b; from = from; around = a }) ∷ ps) h) where
  pub leave_now : visible a (close (suc (length ps)) (closing.Leave (site_of ps a)) h).newest ≡ turned_cell (visible a (stripped (suc (length ps)) h).newest) (visible (suc (length ps)) h.newest)
  leave_now = at_part (suc (length ps)) (closing.Leave (site_of ps a)) h (λ g w. visible a g.newest ≡ turned_cell (visible a w.newest) (visible (suc (length ps)) h.newest))
      (λ t. visible_at a (left (site_of ps a) h).newest low ∙
      ap (λ (c : Cell). turned_cell (visible a (under_of h.older)) c) (sym (visible_at (suc (length ps)) h.newest (omega (arith, eqb-true h.newest.depth (suc (length ps)) t)))))
      (λ f.
      let least : h.newest.depth ≤ length ps = depth_at_most (take from trail) j ps h (stands_still trail j (record { kind = kind.Turn b; from = from; around = a }) ps h s f) in
      sym (turned_kept (visible a h.newest)) ∙ ap (λ (c : Cell). turned_cell (visible a h.newest) c) (sym (visible_old (suc (length ps)) h.newest (omega (arith, least)))))

  pub leave_alike : Alike ps a (close (suc (length ps)) (closing.Leave (site_of ps a)) h) (stripped (suc (length ps)) h)
  leave_alike = at_part (suc (length ps)) (closing.Leave (site_of ps a)) h (λ g w. Alike ps a g w)
      (λ t. alike_outside ps a (turned_cell (visible a (under_of h.older)) h.newest.now) h)
      (λ f. alike_same ps a h)

  pub leave_stands : (kept : List ℕ) → (keeps (suc (length ps)) (closing.Leave (site_of ps a)) h ≡ true → has j kept ≡ true) → Stands (take from trail ++ kept) j ps (close (suc (length ps)) (closing.Leave (site_of ps a)) h)
  leave_stands kept e = at_part (suc (length ps)) (closing.Leave (site_of ps a)) h (λ g w. Stands (take from trail ++ kept) j ps g)
      (λ t.
      let o = stands_outside trail j (record { kind = kind.Turn b; from = from; around = a }) ps h s t in
      stands_changed trail kept j (record { kind = kind.Turn b; from = from; around = a }) ps a (turned_cell (visible a (under_of h.older)) h.newest.now) h before
      (reached_turned (visible a (under_of h.older)) h.newest.now (visible_reached a (under_of h.older) (are_reached (take from trail) j ps (uncovered h) o).now)) s t
      (λ f. e (keeps_first (suc (length ps)) (closing.Leave (site_of ps a)) h t f)))
      (λ f. stands_kept trail kept j (record { kind = kind.Turn b; from = from; around = a }) ps h before s f)
