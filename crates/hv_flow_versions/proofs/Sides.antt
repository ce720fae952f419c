-- The other side begins.
use Rattle.std.proofs.Common.{◌≡◌, ℕ, suc, ◌+◌, ◌≤◌, Bool, true, false, not, ◌||◌, nat_eq, List, [], ◌∷◌, length, map, drop, take, ◌++◌, refl, sym, ◌∙◌, ap, subst, arith}
use Rattle.hv_flow_versions.specs.declared.cell.Cell.{Cell}
use Rattle.hv_flow_versions.specs.declared.history.History.{History}
use Rattle.hv_flow_versions.specs.declared.closing.Closing.TheVariants as closing
use Rattle.hv_flow_versions.specs.declared.part.Kind.{Kind}
use Rattle.hv_flow_versions.specs.declared.part.Kind.TheVariants as kind
use Rattle.hv_flow_versions.specs.declared.part.Part.{Part}
use Rattle.hv_flow_versions.specs.declared.state.State.{State}
use Rattle.hv_flow_versions.specs.Cells.{either_cell, joined}
use Rattle.hv_flow_versions.specs.Levels.{OtherSide, sides_changed, sides_changed_within}
use Rattle.hv_flow_versions.specs.Histories.{visible, sides_at, stripped, close, closed_all, keeps, kept_all}
use Rattle.hv_flow_versions.specs.States as spec
use Rattle.hv_flow_versions.specs.States.{Sound, Placed, Stands, Standing, seen_levels, saved_seen, now_seen, before_seen, sides_seen, if_reached, site_of, turn_of, from_of}
use Rattle.hv_flow_versions.proofs.Changes.{differs}
use Rattle.hv_flow_versions.proofs.AllCells.{map_map, map_same, standing_map, standing_ended, closed_part, ended_part}
use Rattle.hv_flow_versions.proofs.Trails.{stands_append, from_outside, within_kept}
use Rattle.hv_flow_versions.proofs.Opening.{state, levels, turn_at_most, stands_open}
use Rattle.hv_flow_versions.proofs.Closes as one
use Rattle.hv_flow_versions.proofs.Closes.{uncover_twice, strip_twice, other_twice, outside_low, low_twice, with_side, joined_cells, passed_site}

-- ---- lists of cells

pub joined_nothing : (cs : List Cell) → joined cs [] ≡ cs
joined_nothing [] = refl
joined_nothing (c ∷ cs) = refl

joined_each : (f g : History → Cell) (hs : List History) → joined (map f hs) (map g hs) ≡ map (λ h. either_cell (f h) (g h)) hs
joined_each f g [] = refl
joined_each f g (h ∷ hs) = ap (λ (w : List Cell). either_cell (f h) (g h) ∷ w) (joined_each f g hs)

pub joined_maps : (z r : Bool) (f g : History → Cell) (hs : List History) →
    joined (if_reached (not z) (map f hs)) (if_reached r (map g hs)) ≡ if_reached (not z || r) (map (λ h. joined_cells z r (f h) (g h)) hs)
joined_maps true r f g hs = refl
joined_maps false true f g hs = joined_each f g hs
joined_maps false false f g hs = joined_nothing (map f hs)

reached_anyway : (z : Bool) (cs : List Cell) → if_reached (not z || true) cs ≡ cs
reached_anyway true cs = refl
reached_anyway false cs = refl

-- ---- the part as before

pub closed_uncover : (trail : List ℕ) (p : Part) (ps : List Part) (hs : List History) → Standing trail 0 (p ∷ ps) hs →
    closed_all (suc (length ps)) closing.Uncover (drop p.from trail) hs ≡ map (λ h. stripped (suc (length ps)) h) hs
closed_uncover trail p ps hs s = closed_part trail p ps closing.Uncover hs s (λ j h x t. uncover_twice trail j p ps h x t)

pub strips_twice : (trail : List ℕ) (p : Part) (ps : List Part) (hs : List History) → Standing trail 0 (p ∷ ps) hs →
    map (λ h. stripped (suc (length ps)) h) (map (λ h. stripped (suc (length ps)) h) hs) ≡ map (λ h. stripped (suc (length ps)) h) hs
strips_twice trail p ps hs s =
    map_map (λ h. stripped (suc (length ps)) h) (λ h. stripped (suc (length ps)) h) hs ∙
    map_same trail 0 (p ∷ ps) hs (λ h. stripped (suc (length ps)) (stripped (suc (length ps)) h)) (λ h. stripped (suc (length ps)) h) s (λ j h x. strip_twice trail j p ps h x)

pub uncovered_now : (b : Bool) (a d : ℕ) (hs : List History) → now_seen b a (map (λ h. stripped d h) hs) ≡ before_seen b a d hs
uncovered_now b a d hs = ap (λ (w : List Cell). if_reached b w) (map_map (λ h. visible a h.newest) (λ h. stripped d h) hs)

-- ---- the other side

abbrev one_side : Bool → ℕ → ℕ → Part
one_side b from a = record { kind = kind.OneSide b; from = from; around = a }

abbrev other : ℕ → ℕ → ℕ → Part
other n from a = record { kind = kind.OtherSide n; from = from; around = a }

module _ (hs : List History) (trail : List ℕ) (b : Bool) (from a : ℕ) (ps : List Part) where
  low : (r : Bool) → Sound (state hs trail (one_side b from a ∷ ps) r a) → a ≤ length ps
  low r c = omega (arith, c.placed.0.around, turn_at_most ps c.placed.1)

  closed_other : (r : Bool) → Sound (state hs trail (one_side b from a ∷ ps) r a) →
      closed_all (suc (length ps)) (closing.ChangeSides a) (drop from trail) hs ≡ map (close (suc (length ps)) (closing.ChangeSides a)) hs
  closed_other r c = closed_part trail (one_side b from a) ps (closing.ChangeSides a) hs c.standing
      (λ j h x t. other_twice (suc (length ps)) a h t (one.unseen trail j b from a ps h (low r c) x t))

  change_seen_at : (r : Bool) → Sound (state hs trail (one_side b from a ∷ ps) r a) →
      seen_levels (spec.sides_changed_state (state hs trail (one_side b from a ∷ ps) r a)) ≡ sides_changed (seen_levels (state hs trail (one_side b from a ∷ ps) r a))
  change_seen_at true c =
      let F : History → History = close (suc (length ps)) (closing.ChangeSides a) in
      let l : a ≤ length ps = low true c in
      ap (λ (w : List History). seen_levels (state w trail (other 1 from a ∷ ps) b a)) (closed_other true c) ∙
      levels _ _ _ _
      (ap (λ (w : List Cell). if_reached b w) (map_map (λ h. visible a h.newest) F hs ∙
      map_same trail 0 (one_side b from a ∷ ps) hs (λ h. visible a (F h).newest) (λ h. visible a (stripped (suc (length ps)) h).newest) c.standing (λ j h x. one.other_now trail j b from a ps h l x)))
      (ap (λ (w : List Cell). OtherSide w ∷ saved_seen ps (map (λ h. stripped (suc (length ps)) h) (map F hs)))
      (map_map (λ h. sides_at (record { depth = suc (length ps); sides = 1; turn = a }) h.newest) F hs ∙
      map_same trail 0 (one_side b from a ∷ ps) hs (λ h. sides_at (record { depth = suc (length ps); sides = 1; turn = a }) (F h).newest) (λ h. visible a h.newest) c.standing (λ j h x. one.other_sides trail j b from a ps h l x)) ∙
      ap (λ (w : List History). OtherSide (now_seen true a hs) ∷ saved_seen ps w)
      (map_map (λ h. stripped (suc (length ps)) h) F hs ∙
      map_same trail 0 (one_side b from a ∷ ps) hs (λ h. stripped (suc (length ps)) (F h)) (λ h. stripped (suc (length ps)) h) c.standing (λ j h x. one.other_strip trail j b from a ps h l x)))
  change_seen_at false c =
      ap (λ (w : List History). seen_levels (state w trail (other 0 from a ∷ ps) b a)) (closed_uncover trail (one_side b from a) ps hs c.standing) ∙
      levels _ _ _ _
      (uncovered_now b a (suc (length ps)) hs)
      (ap (λ (w : List History). OtherSide [] ∷ saved_seen ps w) (strips_twice trail (one_side b from a) ps hs c.standing))

  change_sound_at : (r : Bool) → Sound (state hs trail (one_side b from a ∷ ps) r a) → Sound (spec.sides_changed_state (state hs trail (one_side b from a ∷ ps) r a))
  change_sound_at true c = record {
    placed = (record { around = c.placed.0.around; from = c.placed.0.from }, c.placed.1);
    turn = refl;
    within = c.within;
    standing = subst (λ (w : List History). Standing trail 0 (other 1 from a ∷ ps) w) (sym (closed_other true c))
        (standing_map trail trail 0 (one_side b from a ∷ ps) (other 1 from a ∷ ps) hs (close (suc (length ps)) (closing.ChangeSides a)) c.standing (λ j h x. one.other_stands trail j b from a ps h (low true c) x));
  }
  change_sound_at false c = record {
    placed = (record { around = c.placed.0.around; from = c.placed.0.from }, c.placed.1);
    turn = refl;
    within = c.within;
    standing = subst (λ (w : List History). Standing trail 0 (other 0 from a ∷ ps) w) (sym (closed_uncover trail (one_side b from a) ps hs c.standing))
        (standing_map trail trail 0 (one_side b from a ∷ ps) (other 0 from a ∷ ps) hs (λ h. stripped (suc (length ps)) h) c.standing
        (λ j h x. stands_open trail j (other 0 from a) ps (stripped (suc (length ps)) h) x.1));
  }

  change_seen_one : (r : Bool) (t : ℕ) → Sound (state hs trail (one_side b from a ∷ ps) r t) →
      seen_levels (spec.sides_changed_state (state hs trail (one_side b from a ∷ ps) r t)) ≡ sides_changed (seen_levels (state hs trail (one_side b from a ∷ ps) r t))
  change_seen_one r t c =
      subst (λ (x : ℕ). Sound (state hs trail (one_side b from a ∷ ps) r x) →
      seen_levels (spec.sides_changed_state (state hs trail (one_side b from a ∷ ps) r x)) ≡ sides_changed (seen_levels (state hs trail (one_side b from a ∷ ps) r x)))
      (sym c.turn) (change_seen_at r) c

  change_sound_one : (r : Bool) (t : ℕ) → Sound (state hs trail (one_side b from a ∷ ps) r t) → Sound (spec.sides_changed_state (state hs trail (one_side b from a ∷ ps) r t))
  change_sound_one r t c =
      subst (λ (x : ℕ). Sound (state hs trail (one_side b from a ∷ ps) r x) → Sound (spec.sides_changed_state (state hs trail (one_side b from a ∷ ps) r x)))
      (sym c.turn) (change_sound_at r) c

change_seen_in : (hs : List History) (trail : List ℕ) (k : Kind) (from a : ℕ) (ps : List Part) (r : Bool) (t : ℕ) → Sound (state hs trail ((record { kind = k; from = from; around = a }) ∷ ps) r t) →
    seen_levels (spec.sides_changed_state (state hs trail ((record { kind = k; from = from; around = a }) ∷ ps) r t)) ≡ sides_changed (seen_levels (state hs trail ((record { kind = k; from = from; around = a }) ∷ ps) r t))
change_seen_in hs trail (kind.OneSide b) from a ps r t c = change_seen_one hs trail b from a ps r t c
change_seen_in hs trail (kind.OtherSide n) from a ps r t c = refl
change_seen_in hs trail (kind.Turn b) from a ps r t c = refl

change_sound_in : (hs : List History) (trail : List ℕ) (k : Kind) (from a : ℕ) (ps : List Part) (r : Bool) (t : ℕ) → Sound (state hs trail ((record { kind = k; from = from; around = a }) ∷ ps) r t) →
    Sound (spec.sides_changed_state (state hs trail ((record { kind = k; from = from; around = a }) ∷ ps) r t))
change_sound_in hs trail (kind.OneSide b) from a ps r t c = change_sound_one hs trail b from a ps r t c
change_sound_in hs trail (kind.OtherSide n) from a ps r t c = c
change_sound_in hs trail (kind.Turn b) from a ps r t c = c

change_seen_of : (hs : List History) (trail : List ℕ) (ps : List Part) (r : Bool) (t : ℕ) → Sound (state hs trail ps r t) →
    seen_levels (spec.sides_changed_state (state hs trail ps r t)) ≡ sides_changed (seen_levels (state hs trail ps r t))
change_seen_of hs trail [] r t c = refl
change_seen_of hs trail (p ∷ ps) r t c = change_seen_in hs trail p.kind p.from p.around ps r t c

change_sound_of : (hs : List History) (trail : List ℕ) (ps : List Part) (r : Bool) (t : ℕ) → Sound (state hs trail ps r t) → Sound (spec.sides_changed_state (state hs trail ps r t))
change_sound_of hs trail [] r t c = c
change_sound_of hs trail (p ∷ ps) r t c = change_sound_in hs trail p.kind p.from p.around ps r t c

pub change_seen : (s : State) → Sound s → seen_levels (spec.sides_changed_state s) ≡ sides_changed (seen_levels s)
change_seen s c = change_seen_of s.histories s.trail s.parts s.reached s.turn c

pub change_sound : (s : State) → Sound s → Sound (spec.sides_changed_state s)
change_sound s c = change_sound_of s.histories s.trail s.parts s.reached s.turn c

-- ---- one side more is passed

module _ (hs : List History) (trail : List ℕ) (b : Bool) (from n out a : ℕ) (qs : List Part) where
  low_out : (r : Bool) → Sound (state hs trail (one_side b from a ∷ other n out a ∷ qs) r a) → a ≤ length qs
  low_out r c = omega (arith, c.placed.1.0.around, turn_at_most qs c.placed.1.1)

  closed_pass : (r : Bool) → Sound (state hs trail (one_side b from a ∷ other n out a ∷ qs) r a) →
      closed_all (suc (suc (length qs))) (closing.Pass (passed_site (suc (length qs)) n a) (n + 1)) (drop from trail) hs ≡ map (close (suc (suc (length qs))) (closing.Pass (passed_site (suc (length qs)) n a) (n + 1))) hs
  closed_pass r c = closed_part trail (one_side b from a) (other n out a ∷ qs) (closing.Pass (passed_site (suc (length qs)) n a) (n + 1)) hs c.standing
      (λ j h x t. low_twice (suc (suc (length qs))) (closing.Pass (passed_site (suc (length qs)) n a) (n + 1)) _ (outside_low (suc (length qs))))

  pass_sides : Sound (state hs trail (one_side b from a ∷ other n out a ∷ qs) true a) →
      sides_seen (n + 1) a (suc (length qs)) (map (close (suc (suc (length qs))) (closing.Pass (passed_site (suc (length qs)) n a) (n + 1))) hs)
      ≡ joined (sides_seen n a (suc (length qs)) (map (λ h. stripped (suc (suc (length qs))) h) hs)) (now_seen true a hs)
  pass_sides c =
      let F : History → History = close (suc (suc (length qs))) (closing.Pass (passed_site (suc (length qs)) n a) (n + 1)) in
      let l : a ≤ length qs = low_out true c in
      ap (λ (w : Bool). if_reached (not w) (map (λ h. sides_at (passed_site (suc (length qs)) (n + 1) a) h.newest) (map F hs))) (differs (n + 1) 0 (λ e. omega (arith, e))) ∙
      (map_map (λ h. sides_at (passed_site (suc (length qs)) (n + 1) a) h.newest) F hs ∙
      (map_same trail 0 (one_side b from a ∷ other n out a ∷ qs) hs (λ h. sides_at (passed_site (suc (length qs)) (n + 1) a) (F h).newest)
      (λ h. with_side n (sides_at (passed_site (suc (length qs)) n a) (stripped (suc (suc (length qs))) h).newest) (visible a h.newest)) c.standing
      (λ j h x. one.pass_sides trail j b from n out a qs h l (from_outside out from trail c.placed.0.from c.within) x) ∙
      (sym (reached_anyway (nat_eq n 0) _) ∙
      (sym (joined_maps (nat_eq n 0) true (λ h. sides_at (passed_site (suc (length qs)) n a) (stripped (suc (suc (length qs))) h).newest) (λ h. visible a h.newest) hs) ∙
      ap (λ (w : List Cell). joined (if_reached (not (nat_eq n 0)) w) (now_seen true a hs)) (sym (map_map (λ h. sides_at (passed_site (suc (length qs)) n a) h.newest) (λ h. stripped (suc (suc (length qs))) h) hs))))))

  pass_seen_at : (r : Bool) → Sound (state hs trail (one_side b from a ∷ other n out a ∷ qs) r a) →
      seen_levels (spec.passed_state b from n (state hs trail (one_side b from a ∷ other n out a ∷ qs) r a)) ≡ sides_changed_within (seen_levels (state hs trail (one_side b from a ∷ other n out a ∷ qs) r a))
  pass_seen_at true c =
      let F : History → History = close (suc (suc (length qs))) (closing.Pass (passed_site (suc (length qs)) n a) (n + 1)) in
      let l : a ≤ length qs = low_out true c in
      ap (λ (w : List History). seen_levels (state w trail (other (n + 1) out a ∷ qs) b a)) (closed_pass true c) ∙
      levels _ _ _ _
      (ap (λ (w : List Cell). if_reached b w) (map_map (λ h. visible a h.newest) F hs ∙
      map_same trail 0 (one_side b from a ∷ other n out a ∷ qs) hs (λ h. visible a (F h).newest) (λ h. visible a (stripped (suc (suc (length qs))) h).newest) c.standing (λ j h x. one.pass_now trail j b from n out a qs h l (from_outside out from trail c.placed.0.from c.within) x)))
      (ap (λ (w : List Cell). OtherSide w ∷ saved_seen qs (map (λ h. stripped (suc (length qs)) h) (map F hs))) (pass_sides c) ∙
      ap (λ (w : List History). OtherSide (joined (sides_seen n a (suc (length qs)) (map (λ h. stripped (suc (suc (length qs))) h) hs)) (now_seen true a hs)) ∷ saved_seen qs w)
      (map_map (λ h. stripped (suc (length qs)) h) F hs ∙
      (map_same trail 0 (one_side b from a ∷ other n out a ∷ qs) hs (λ h. stripped (suc (length qs)) (F h)) (λ h. stripped (suc (length qs)) (stripped (suc (suc (length qs))) h)) c.standing (λ j h x. one.pass_strip trail j b from n out a qs h l (from_outside out from trail c.placed.0.from c.within) x) ∙
      sym (map_map (λ h. stripped (suc (length qs)) h) (λ h. stripped (suc (suc (length qs))) h) hs))))
  pass_seen_at false c =
      ap (λ (w : List History). seen_levels (state w trail (other n out a ∷ qs) b a)) (closed_uncover trail (one_side b from a) (other n out a ∷ qs) hs c.standing) ∙
      levels _ _ _ _
      (uncovered_now b a (suc (suc (length qs))) hs)
      (ap (λ (w : List Cell). OtherSide w ∷ saved_seen qs (map (λ h. stripped (suc (length qs)) h) (map (λ h. stripped (suc (suc (length qs))) h) hs))) (sym (joined_nothing (sides_seen n a (suc (length qs)) (map (λ h. stripped (suc (suc (length qs))) h) hs)))))

  kept_pass : List ℕ
  kept_pass = kept_all (suc (suc (length qs))) (closing.Pass (passed_site (suc (length qs)) n a) (n + 1)) (drop from trail) hs

  kept_uncover : List ℕ
  kept_uncover = kept_all (suc (suc (length qs))) closing.Uncover (drop from trail) hs

  pass_sound_at : (r : Bool) → Sound (state hs trail (one_side b from a ∷ other n out a ∷ qs) r a) → Sound (spec.passed_state b from n (state hs trail (one_side b from a ∷ other n out a ∷ qs) r a))
  unfolding kept_pass kept_uncover
  pass_sound_at true c = record {
    placed = (record { around = c.placed.1.0.around; from = c.placed.1.0.from }, c.placed.1.1);
    turn = refl;
    within = within_kept out (take from trail) kept_pass (from_outside out from trail c.placed.0.from c.within);
    standing = subst (λ (w : List History). Standing (take from trail ++ kept_pass) 0 (other (n + 1) out a ∷ qs) w) (sym (closed_pass true c))
        (standing_ended trail (take from trail ++ kept_pass) kept_pass 0 (one_side b from a ∷ other n out a ∷ qs) (other (n + 1) out a ∷ qs) hs (close (suc (suc (length qs))) (closing.Pass (passed_site (suc (length qs)) n a) (n + 1)))
        (keeps (suc (suc (length qs))) (closing.Pass (passed_site (suc (length qs)) n a) (n + 1))) c.standing
        (ended_part trail (one_side b from a) (other n out a ∷ qs) (closing.Pass (passed_site (suc (length qs)) n a) (n + 1)) hs c.standing (λ j h x t. outside_low (suc (length qs))))
        (λ j h x e. one.pass_stands trail j b from n out a qs h (low_out true c) (from_outside out from trail c.placed.0.from c.within) x kept_pass e));
  }
  pass_sound_at false c = record {
    placed = c.placed.1;
    turn = refl;
    within = within_kept out (take from trail) kept_uncover (from_outside out from trail c.placed.0.from c.within);
    standing = subst (λ (w : List History). Standing (take from trail ++ kept_uncover) 0 (other n out a ∷ qs) w) (sym (closed_uncover trail (one_side b from a) (other n out a ∷ qs) hs c.standing))
        (standing_map trail (take from trail ++ kept_uncover) 0 (one_side b from a ∷ other n out a ∷ qs) (other n out a ∷ qs) hs (λ h. stripped (suc (suc (length qs))) h) c.standing
        (λ j h x. stands_append (take from trail) kept_uncover j (other n out a ∷ qs) (stripped (suc (suc (length qs))) h) (from_outside out from trail c.placed.0.from c.within) x.1));
  }

module _ (hs : List History) (trail : List ℕ) (b : Bool) (from n out : ℕ) (qs : List Part) (r : Bool) where
  abbrev before_pass : ℕ → ℕ → ℕ → State
  before_pass x y t = state hs trail (one_side b from x ∷ other n out y ∷ qs) r t

  pass_seen : (x y t : ℕ) → Sound (before_pass x y t) → seen_levels (spec.passed_state b from n (before_pass x y t)) ≡ sides_changed_within (seen_levels (before_pass x y t))
  pass_seen x y t c =
      subst (λ (w : ℕ). Sound (before_pass x y w) → seen_levels (spec.passed_state b from n (before_pass x y w)) ≡ sides_changed_within (seen_levels (before_pass x y w))) (sym c.turn)
      (subst (λ (w : ℕ). Sound (before_pass w y w) → seen_levels (spec.passed_state b from n (before_pass w y w)) ≡ sides_changed_within (seen_levels (before_pass w y w))) (sym c.placed.0.around)
      (pass_seen_at hs trail b from n out y qs r)) c

  pass_sound : (x y t : ℕ) → Sound (before_pass x y t) → Sound (spec.passed_state b from n (before_pass x y t))
  pass_sound x y t c =
      subst (λ (w : ℕ). Sound (before_pass x y w) → Sound (spec.passed_state b from n (before_pass x y w))) (sym c.turn)
      (subst (λ (w : ℕ). Sound (before_pass w y w) → Sound (spec.passed_state b from n (before_pass w y w))) (sym c.placed.0.around)
      (pass_sound_at hs trail b from n out y qs r)) c

-- ---- by the innermost two parts

abbrev part : Kind → ℕ → ℕ → Part
part k from a = record { kind = k; from = from; around = a }

within_seen_two : (hs : List History) (trail : List ℕ) (k l : Kind) (from x out y : ℕ) (qs : List Part) (r : Bool) (t : ℕ) → Sound (state hs trail (part k from x ∷ part l out y ∷ qs) r t) →
    seen_levels (spec.sides_changed_within_state (state hs trail (part k from x ∷ part l out y ∷ qs) r t)) ≡ sides_changed_within (seen_levels (state hs trail (part k from x ∷ part l out y ∷ qs) r t))
within_seen_two hs trail (kind.OneSide b) (kind.OneSide d) from x out y qs r t c = change_seen_one hs trail b from x (part (kind.OneSide d) out y ∷ qs) r t c
within_seen_two hs trail (kind.OneSide b) (kind.OtherSide n) from x out y qs r t c = pass_seen hs trail b from n out qs r x y t c
within_seen_two hs trail (kind.OneSide b) (kind.Turn d) from x out y qs r t c = change_seen_one hs trail b from x (part (kind.Turn d) out y ∷ qs) r t c
within_seen_two hs trail (kind.OtherSide n) l from x out y qs r t c = refl
within_seen_two hs trail (kind.Turn b) l from x out y qs r t c = refl

within_sound_two : (hs : List History) (trail : List ℕ) (k l : Kind) (from x out y : ℕ) (qs : List Part) (r : Bool) (t : ℕ) → Sound (state hs trail (part k from x ∷ part l out y ∷ qs) r t) →
    Sound (spec.sides_changed_within_state (state hs trail (part k from x ∷ part l out y ∷ qs) r t))
within_sound_two hs trail (kind.OneSide b) (kind.OneSide d) from x out y qs r t c = change_sound_one hs trail b from x (part (kind.OneSide d) out y ∷ qs) r t c
within_sound_two hs trail (kind.OneSide b) (kind.OtherSide n) from x out y qs r t c = pass_sound hs trail b from n out qs r x y t c
within_sound_two hs trail (kind.OneSide b) (kind.Turn d) from x out y qs r t c = change_sound_one hs trail b from x (part (kind.Turn d) out y ∷ qs) r t c
within_sound_two hs trail (kind.OtherSide n) l from x out y qs r t c = c
within_sound_two hs trail (kind.Turn b) l from x out y qs r t c = c

within_seen_one : (hs : List History) (trail : List ℕ) (k : Kind) (from x : ℕ) (r : Bool) (t : ℕ) → Sound (state hs trail (part k from x ∷ []) r t) →
    seen_levels (spec.sides_changed_within_state (state hs trail (part k from x ∷ []) r t)) ≡ sides_changed_within (seen_levels (state hs trail (part k from x ∷ []) r t))
within_seen_one hs trail (kind.OneSide b) from x r t c = change_seen_one hs trail b from x [] r t c
within_seen_one hs trail (kind.OtherSide n) from x r t c = refl
within_seen_one hs trail (kind.Turn b) from x r t c = refl

within_seen_of : (hs : List History) (trail : List ℕ) (ps : List Part) (r : Bool) (t : ℕ) → Sound (state hs trail ps r t) →
    seen_levels (spec.sides_changed_within_state (state hs trail ps r t)) ≡ sides_changed_within (seen_levels (state hs trail ps r t))
within_seen_of hs trail [] r t c = refl
within_seen_of hs trail (p ∷ []) r t c = within_seen_one hs trail p.kind p.from p.around r t c
within_seen_of hs trail (p ∷ q ∷ qs) r t c = within_seen_two hs trail p.kind q.kind p.from p.around q.from q.around qs r t c

within_sound_of : (hs : List History) (trail : List ℕ) (ps : List Part) (r : Bool) (t : ℕ) → Sound (state hs trail ps r t) → Sound (spec.sides_changed_within_state (state hs trail ps r t))
within_sound_of hs trail [] r t c = c
within_sound_of hs trail (p ∷ []) r t c = change_sound_of hs trail (p ∷ []) r t c
within_sound_of hs trail (p ∷ q ∷ qs) r t c = within_sound_two hs trail p.kind q.kind p.from p.around q.from q.around qs r t c

pub within_seen : (s : State) → Sound s → seen_levels (spec.sides_changed_within_state s) ≡ sides_changed_within (seen_levels s)
within_seen s c = within_seen_of s.histories s.trail s.parts s.reached s.turn c

pub within_sound : (s : State) → Sound s → Sound (spec.sides_changed_within_state s)
within_sound s c = within_sound_of s.histories s.trail s.parts s.reached s.turn c
