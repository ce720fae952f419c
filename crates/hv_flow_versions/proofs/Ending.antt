-- The other side ends, and a turn does.
use Rattle.std.proofs.Common.{◌≡◌, ℕ, suc, ◌≤◌, Bool, true, false, not, ◌||◌, nat_eq, List, [], ◌∷◌, length, map, drop, take, ◌++◌, refl, sym, ◌∙◌, ap, subst, arith}
use Rattle.hv_flow_versions.specs.declared.cell.Cell.{Cell}
use Rattle.hv_flow_versions.specs.declared.history.History.{History}
use Rattle.hv_flow_versions.specs.declared.closing.Closing.{Closing}
use Rattle.hv_flow_versions.specs.declared.closing.Closing.TheVariants as closing
use Rattle.hv_flow_versions.specs.declared.part.Kind.{Kind}
use Rattle.hv_flow_versions.specs.declared.part.Kind.TheVariants as kind
use Rattle.hv_flow_versions.specs.declared.part.Part.{Part}
use Rattle.hv_flow_versions.specs.declared.state.State.{State}
use Rattle.hv_flow_versions.specs.Cells.{turned_cell, turned}
use Rattle.hv_flow_versions.specs.Levels.{joined_level, turned_level}
use Rattle.hv_flow_versions.specs.Histories.{visible, sides_at, stripped, close, closed_all, keeps, kept_all}
use Rattle.hv_flow_versions.specs.States as spec
use Rattle.hv_flow_versions.specs.States.{Sound, Placed, Stands, Standing, seen_levels, saved_seen, now_seen, before_seen, sides_seen, if_reached, site_of, turn_of, from_of}
use Rattle.hv_flow_versions.proofs.ListLemmas.{merge_nothing}
use Rattle.hv_flow_versions.proofs.AllCells.{map_map, map_same, standing_map, standing_ended, closed_part, ended_part}
use Rattle.hv_flow_versions.proofs.Trails.{stands_append, from_outside, within_kept}
use Rattle.hv_flow_versions.proofs.Opening.{state, levels, turn_at_most, Alike, AllAlike, saved_alike}
use Rattle.hv_flow_versions.proofs.Closes as one
use Rattle.hv_flow_versions.proofs.Closes.{outside_low, low_twice, joined_cells}
use Rattle.hv_flow_versions.proofs.Sides.{joined_maps, closed_uncover, uncovered_now}

all_alike : (trail : List ℕ) (i : ℕ) (ps : List Part) (qs : List Part) (a : ℕ) (hs : List History) (f g : History → History) → Standing trail i ps hs →
    ((j : ℕ) (h : History) → Stands trail j ps h → Alike qs a (f h) (g h)) → AllAlike qs a (map f hs) (map g hs)
all_alike trail i ps qs a [] f g s e = tt
all_alike trail i ps qs a (h ∷ hs) f g s e = (e i h s.0, all_alike trail (suc i) ps qs a hs f g s.1 e)

turned_each : (f g : History → Cell) (hs : List History) → turned (map f hs) (map g hs) ≡ map (λ h. turned_cell (f h) (g h)) hs
turned_each f g [] = refl
turned_each f g (h ∷ hs) = ap (λ (w : List Cell). turned_cell (f h) (g h) ∷ w) (turned_each f g hs)

turned_maps : (b : Bool) (f g : History → Cell) (hs : List History) → turned (if_reached b (map f hs)) (map g hs) ≡ if_reached b (map (λ h. turned_cell (f h) (g h)) hs)
turned_maps true f g hs = turned_each f g hs
turned_maps false f g hs = refl

-- ---- the other side

abbrev other : ℕ → ℕ → ℕ → Part
other n from a = record { kind = kind.OtherSide n; from = from; around = a }

module _ (hs : List History) (trail : List ℕ) (n from a : ℕ) (ps : List Part) (r : Bool) (c : Sound (state hs trail (other n from a ∷ ps) r a)) where
  low : a ≤ length ps
  low = omega (arith, c.placed.0.around, turn_at_most ps c.placed.1)

  outside : from_of ps ≤ length (take from trail)
  outside = from_outside (from_of ps) from trail c.placed.0.from c.within

  closed_join : closed_all (suc (length ps)) (closing.Join (site_of ps a) n r) (drop from trail) hs ≡ map (close (suc (length ps)) (closing.Join (site_of ps a) n r)) hs
  closed_join = closed_part trail (other n from a) ps (closing.Join (site_of ps a) n r) hs c.standing
      (λ j h x t. low_twice (suc (length ps)) (closing.Join (site_of ps a) n r) _ (outside_low (length ps)))

  join_seen_at : seen_levels (spec.joined_state (state hs trail (other n from a ∷ ps) r a)) ≡ joined_level (seen_levels (state hs trail (other n from a ∷ ps) r a))
  join_seen_at =
      let F : History → History = close (suc (length ps)) (closing.Join (site_of ps a) n r) in
      ap (λ (w : List History). seen_levels (state w trail ps (not (nat_eq n 0) || r) a)) closed_join ∙
      levels _ _ _ _
      (ap (λ (w : List Cell). if_reached (not (nat_eq n 0) || r) w) (map_map (λ h. visible a h.newest) F hs ∙
      map_same trail 0 (other n from a ∷ ps) hs (λ h. visible a (F h).newest)
      (λ h. joined_cells (nat_eq n 0) r (sides_at (record { depth = suc (length ps); sides = n; turn = a }) h.newest) (visible a h.newest)) c.standing
      (λ j h x. one.join_now trail j n from a r ps h low outside x)) ∙
      sym (joined_maps (nat_eq n 0) r (λ h. sides_at (record { depth = suc (length ps); sides = n; turn = a }) h.newest) (λ h. visible a h.newest) hs))
      (saved_alike ps a (map F hs) (map (λ h. stripped (suc (length ps)) h) hs) c.placed.0.around
      (all_alike trail 0 (other n from a ∷ ps) ps a hs F (λ h. stripped (suc (length ps)) h) c.standing (λ j h x. one.join_alike trail j n from a r ps h low outside x)))

  kept_join : List ℕ
  kept_join = kept_all (suc (length ps)) (closing.Join (site_of ps a) n r) (drop from trail) hs

  join_sound_at : Sound (spec.joined_state (state hs trail (other n from a ∷ ps) r a))
  unfolding kept_join
  join_sound_at = record {
    placed = c.placed.1;
    turn = c.placed.0.around;
    within = within_kept (from_of ps) (take from trail) kept_join outside;
    standing = subst (λ (w : List History). Standing (take from trail ++ kept_join) 0 ps w) (sym closed_join)
        (standing_ended trail (take from trail ++ kept_join) kept_join 0 (other n from a ∷ ps) ps hs (close (suc (length ps)) (closing.Join (site_of ps a) n r)) (keeps (suc (length ps)) (closing.Join (site_of ps a) n r)) c.standing
        (ended_part trail (other n from a) ps (closing.Join (site_of ps a) n r) hs c.standing (λ j h x t. outside_low (length ps)))
        (λ j h x e. one.join_stands trail j n from a r ps h low outside x kept_join e));
  }

-- ---- the turn

abbrev turn : Bool → ℕ → ℕ → Part
turn b from a = record { kind = kind.Turn b; from = from; around = a }

module _ (hs : List History) (trail : List ℕ) (b : Bool) (from a : ℕ) (ps : List Part) where
  low_turn : (r : Bool) → Sound (state hs trail (turn b from a ∷ ps) r (suc (length ps))) → a ≤ length ps
  low_turn r c = omega (arith, c.placed.0.around, turn_at_most ps c.placed.1)

  closed_leave : (r : Bool) → Sound (state hs trail (turn b from a ∷ ps) r (suc (length ps))) →
      closed_all (suc (length ps)) (closing.Leave (site_of ps a)) (drop from trail) hs ≡ map (close (suc (length ps)) (closing.Leave (site_of ps a))) hs
  closed_leave r c = closed_part trail (turn b from a) ps (closing.Leave (site_of ps a)) hs c.standing
      (λ j h x t. low_twice (suc (length ps)) (closing.Leave (site_of ps a)) _ (outside_low (length ps)))

  leave_seen_at : (r : Bool) → Sound (state hs trail (turn b from a ∷ ps) r (suc (length ps))) →
      seen_levels (spec.left_state (state hs trail (turn b from a ∷ ps) r (suc (length ps)))) ≡ turned_level (seen_levels (state hs trail (turn b from a ∷ ps) r (suc (length ps))))
  leave_seen_at true c =
      let F : History → History = close (suc (length ps)) (closing.Leave (site_of ps a)) in
      let l : a ≤ length ps = low_turn true c in
      ap (λ (w : List History). seen_levels (state w trail ps b a)) (closed_leave true c) ∙
      levels _ _ _ _
      (ap (λ (w : List Cell). if_reached b w) (map_map (λ h. visible a h.newest) F hs ∙
      map_same trail 0 (turn b from a ∷ ps) hs (λ h. visible a (F h).newest)
      (λ h. turned_cell (visible a (stripped (suc (length ps)) h).newest) (visible (suc (length ps)) h.newest)) c.standing
      (λ j h x. one.leave_now trail j b from a ps h l (from_outside (from_of ps) from trail c.placed.0.from c.within) x)) ∙
      sym (turned_maps b (λ h. visible a (stripped (suc (length ps)) h).newest) (λ h. visible (suc (length ps)) h.newest) hs))
      (saved_alike ps a (map F hs) (map (λ h. stripped (suc (length ps)) h) hs) c.placed.0.around
      (all_alike trail 0 (turn b from a ∷ ps) ps a hs F (λ h. stripped (suc (length ps)) h) c.standing (λ j h x. one.leave_alike trail j b from a ps h l (from_outside (from_of ps) from trail c.placed.0.from c.within) x)))
  leave_seen_at false c =
      ap (λ (w : List History). seen_levels (state w trail ps b a)) (closed_uncover trail (turn b from a) ps hs c.standing) ∙
      levels _ _ _ _
      (uncovered_now b a (suc (length ps)) hs ∙ sym (merge_nothing turned_cell (before_seen b a (suc (length ps)) hs)))
      refl

  outside_turn : (r : Bool) → Sound (state hs trail (turn b from a ∷ ps) r (suc (length ps))) → from_of ps ≤ length (take from trail)
  outside_turn r c = from_outside (from_of ps) from trail c.placed.0.from c.within

  kept_leave : Closing → List ℕ
  kept_leave k = kept_all (suc (length ps)) k (drop from trail) hs

  leave_sound_at : (r : Bool) → Sound (state hs trail (turn b from a ∷ ps) r (suc (length ps))) → Sound (spec.left_state (state hs trail (turn b from a ∷ ps) r (suc (length ps))))
  unfolding kept_leave
  leave_sound_at true c = record {
    placed = c.placed.1;
    turn = c.placed.0.around;
    within = within_kept (from_of ps) (take from trail) (kept_leave (closing.Leave (site_of ps a))) (outside_turn true c);
    standing = subst (λ (w : List History). Standing (take from trail ++ kept_leave (closing.Leave (site_of ps a))) 0 ps w) (sym (closed_leave true c))
        (standing_ended trail (take from trail ++ kept_leave (closing.Leave (site_of ps a))) (kept_leave (closing.Leave (site_of ps a))) 0 (turn b from a ∷ ps) ps hs (close (suc (length ps)) (closing.Leave (site_of ps a))) (keeps (suc (length ps)) (closing.Leave (site_of ps a))) c.standing
        (ended_part trail (turn b from a) ps (closing.Leave (site_of ps a)) hs c.standing (λ j h x t. outside_low (length ps)))
        (λ j h x e. one.leave_stands trail j b from a ps h (low_turn true c) (outside_turn true c) x (kept_leave (closing.Leave (site_of ps a))) e));
  }
  leave_sound_at false c = record {
    placed = c.placed.1;
    turn = c.placed.0.around;
    within = within_kept (from_of ps) (take from trail) (kept_leave closing.Uncover) (outside_turn false c);
    standing = subst (λ (w : List History). Standing (take from trail ++ kept_leave closing.Uncover) 0 ps w) (sym (closed_uncover trail (turn b from a) ps hs c.standing))
        (standing_map trail (take from trail ++ kept_leave closing.Uncover) 0 (turn b from a ∷ ps) ps hs (λ h. stripped (suc (length ps)) h) c.standing
        (λ j h x. stands_append (take from trail) (kept_leave closing.Uncover) j ps (stripped (suc (length ps)) h) (outside_turn false c) x.1));
  }

-- ---- by the innermost part

abbrev part : Kind → ℕ → ℕ → Part
part k from a = record { kind = k; from = from; around = a }

join_seen_in : (hs : List History) (trail : List ℕ) (k : Kind) (from a : ℕ) (ps : List Part) (r : Bool) (t : ℕ) → Sound (state hs trail (part k from a ∷ ps) r t) →
    seen_levels (spec.joined_state (state hs trail (part k from a ∷ ps) r t)) ≡ joined_level (seen_levels (state hs trail (part k from a ∷ ps) r t))
join_seen_in hs trail (kind.OneSide b) from a ps r t c = refl
join_seen_in hs trail (kind.OtherSide n) from a ps r t c =
    subst (λ (x : ℕ). Sound (state hs trail (other n from a ∷ ps) r x) →
    seen_levels (spec.joined_state (state hs trail (other n from a ∷ ps) r x)) ≡ joined_level (seen_levels (state hs trail (other n from a ∷ ps) r x)))
    (sym c.turn) (join_seen_at hs trail n from a ps r) c
join_seen_in hs trail (kind.Turn b) from a ps r t c = refl

join_sound_in : (hs : List History) (trail : List ℕ) (k : Kind) (from a : ℕ) (ps : List Part) (r : Bool) (t : ℕ) → Sound (state hs trail (part k from a ∷ ps) r t) → Sound (spec.joined_state (state hs trail (part k from a ∷ ps) r t))
join_sound_in hs trail (kind.OneSide b) from a ps r t c = c
join_sound_in hs trail (kind.OtherSide n) from a ps r t c =
    subst (λ (x : ℕ). Sound (state hs trail (other n from a ∷ ps) r x) → Sound (spec.joined_state (state hs trail (other n from a ∷ ps) r x))) (sym c.turn) (join_sound_at hs trail n from a ps r) c
join_sound_in hs trail (kind.Turn b) from a ps r t c = c

leave_seen_in : (hs : List History) (trail : List ℕ) (k : Kind) (from a : ℕ) (ps : List Part) (r : Bool) (t : ℕ) → Sound (state hs trail (part k from a ∷ ps) r t) →
    seen_levels (spec.left_state (state hs trail (part k from a ∷ ps) r t)) ≡ turned_level (seen_levels (state hs trail (part k from a ∷ ps) r t))
leave_seen_in hs trail (kind.OneSide b) from a ps r t c = refl
leave_seen_in hs trail (kind.OtherSide n) from a ps r t c = refl
leave_seen_in hs trail (kind.Turn b) from a ps r t c =
    subst (λ (x : ℕ). Sound (state hs trail (turn b from a ∷ ps) r x) →
    seen_levels (spec.left_state (state hs trail (turn b from a ∷ ps) r x)) ≡ turned_level (seen_levels (state hs trail (turn b from a ∷ ps) r x)))
    (sym c.turn) (leave_seen_at hs trail b from a ps r) c

leave_sound_in : (hs : List History) (trail : List ℕ) (k : Kind) (from a : ℕ) (ps : List Part) (r : Bool) (t : ℕ) → Sound (state hs trail (part k from a ∷ ps) r t) → Sound (spec.left_state (state hs trail (part k from a ∷ ps) r t))
leave_sound_in hs trail (kind.OneSide b) from a ps r t c = c
leave_sound_in hs trail (kind.OtherSide n) from a ps r t c = c
leave_sound_in hs trail (kind.Turn b) from a ps r t c =
    subst (λ (x : ℕ). Sound (state hs trail (turn b from a ∷ ps) r x) → Sound (spec.left_state (state hs trail (turn b from a ∷ ps) r x))) (sym c.turn) (leave_sound_at hs trail b from a ps r) c

module _ (hs : List History) (trail : List ℕ) where
  join_seen_of : (ps : List Part) (r : Bool) (t : ℕ) → Sound (state hs trail ps r t) → seen_levels (spec.joined_state (state hs trail ps r t)) ≡ joined_level (seen_levels (state hs trail ps r t))
  join_seen_of [] r t c = refl
  join_seen_of (p ∷ ps) r t c = join_seen_in hs trail p.kind p.from p.around ps r t c

  join_sound_of : (ps : List Part) (r : Bool) (t : ℕ) → Sound (state hs trail ps r t) → Sound (spec.joined_state (state hs trail ps r t))
  join_sound_of [] r t c = c
  join_sound_of (p ∷ ps) r t c = join_sound_in hs trail p.kind p.from p.around ps r t c

  leave_seen_of : (ps : List Part) (r : Bool) (t : ℕ) → Sound (state hs trail ps r t) → seen_levels (spec.left_state (state hs trail ps r t)) ≡ turned_level (seen_levels (state hs trail ps r t))
  leave_seen_of [] r t c = refl
  leave_seen_of (p ∷ ps) r t c = leave_seen_in hs trail p.kind p.from p.around ps r t c

  leave_sound_of : (ps : List Part) (r : Bool) (t : ℕ) → Sound (state hs trail ps r t) → Sound (spec.left_state (state hs trail ps r t))
  leave_sound_of [] r t c = c
  leave_sound_of (p ∷ ps) r t c = leave_sound_in hs trail p.kind p.from p.around ps r t c

pub join_seen : (s : State) → Sound s → seen_levels (spec.joined_state s) ≡ joined_level (seen_levels s)
join_seen s c = join_seen_of s.histories s.trail s.parts s.reached s.turn c

pub join_sound : (s : State) → Sound s → Sound (spec.joined_state s)
join_sound s c = join_sound_of s.histories s.trail s.parts s.reached s.turn c

pub leave_seen : (s : State) → Sound s → seen_levels (spec.left_state s) ≡ turned_level (seen_levels s)
leave_seen s c = leave_seen_of s.histories s.trail s.parts s.reached s.turn c

pub leave_sound : (s : State) → Sound s → Sound (spec.left_state s)
leave_sound s c = leave_sound_of s.histories s.trail s.parts s.reached s.turn c
