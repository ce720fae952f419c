-- A part begins, and a cell is changed.
use Rattle.std.proofs.Common.{◌≡◌, inl, inr, ℕ, zero, suc, ◌<◌, ◌≤◌, Bool, true, false, nat_eq, if◌then◌else◌, List, [], ◌∷◌, length, map, take, replicate, refl, sym, ◌∙◌, ap, subst, arith}
use Rattle.std.proofs.lemmas.Bool.{eqb-true}
use Rattle.std.proofs.Math.Seq.{take-length}
use Rattle.hv_flow_versions.specs.declared.cell.Cell.{Cell}
use Rattle.hv_flow_versions.specs.declared.history.History.{History}
use Rattle.hv_flow_versions.specs.declared.part.Kind.{Kind}
use Rattle.hv_flow_versions.specs.declared.part.Kind.TheVariants as kind
use Rattle.hv_flow_versions.specs.declared.part.Part.{Part}
use Rattle.hv_flow_versions.specs.declared.state.State.{State}
use Rattle.hv_flow_versions.specs.Cells.{is_reached, set_cell, begun_cell, begun}
use Rattle.hv_flow_versions.specs.Levels.{Levels, Saved, OneSide, OtherSide, Turn, starting_level, set_level, split, entered_level}
use Rattle.hv_flow_versions.specs.Stacks.{first_of}
use Rattle.hv_flow_versions.specs.Histories.{a_no, kept_cell, first_history, visible, sides_at, stripped, set_history, changed_at, is_new}
use Rattle.hv_flow_versions.specs.States as spec
use Rattle.hv_flow_versions.specs.States.{Sound, Placed, IsPlaced, Stands, Standing, seen_levels, saved_seen, saved_as, now_seen, before_seen, if_reached, site_of, sides_in, turn_in, turn_of}
use Rattle.hv_flow_versions.proofs.OneCell.{bool_cases, visible_at, visible_old, visible_reached, sides_reached, sides_new, reached_set, strip_low, strip_set, depth_at_most, are_reached, stands_new, IsListed}
use Rattle.hv_flow_versions.proofs.AllCells.{map_map, map_same, standing_each, standing_changed, strip_all, map_changed_at, over_one}
use Rattle.hv_flow_versions.proofs.Trails.{with_more, stands_more, length_more, listed_new}

abbrev pub state : List History → List ℕ → List Part → Bool → ℕ → State
state hs trail ps r t = record { histories = hs; trail = trail; parts = ps; reached = r; turn = t }

pub levels : (a b : List Cell) (s t : List Saved) → a ≡ b → s ≡ t → ◌≡◌ {A = Levels} (record { now = a; saved = s }) (record { now = b; saved = t })
levels a b s t p q =
    ap (λ (w : List Cell). let l : Levels = record { now = w; saved = s } in l) p ∙
    ap (λ (w : List Saved). let l : Levels = record { now = b; saved = w } in l) q

turn_in_at_most : (k : Kind) (around d : ℕ) → around < d → turn_in k around d ≤ d
turn_in_at_most (kind.OneSide b) around d h = omega (arith, h)
turn_in_at_most (kind.OtherSide n) around d h = omega (arith, h)
turn_in_at_most (kind.Turn b) around d h = omega arith

pub turn_at_most : (ps : List Part) → Placed ps → turn_of ps ≤ length ps
turn_at_most [] s = omega arith
turn_at_most (p ∷ ps) s = turn_in_at_most p.kind p.around (suc (length ps)) (omega (arith, s.0.around, turn_at_most ps s.1))

-- ---- nothing is open

starts : (t n : ℕ) → map (λ (h : History). visible 0 h.newest) (replicate n first_history) ≡ replicate n a_no
starts t zero = refl
starts t (suc n) = ap (λ w. a_no ∷ w) (starts t n)

stand_first : (i n : ℕ) → Standing [] i [] (replicate n first_history)
stand_first i zero = tt
stand_first i (suc n) = ((refl, record { now = refl; sides = refl }), stand_first (suc i) n)

pub starting_seen : (n : ℕ) → seen_levels (spec.starting_state n) ≡ starting_level n
starting_seen n = levels _ _ _ _ (starts 0 n) refl

pub starting_sound : (n : ℕ) → Sound (spec.starting_state n)
starting_sound n = record { placed = tt; turn = refl; within = omega arith; standing = stand_first 0 n }

-- ---- a part begins

pub stands_open : (trail : List ℕ) (i : ℕ) (p : Part) (ps : List Part) (h : History) → Stands (take p.from trail) i ps h → Stands trail i (p ∷ ps) h
stands_open trail i p ps h s =
    let low : h.newest.depth ≤ length ps = depth_at_most (take p.from trail) i ps h s in
    (λ t. absurd (omega (arith, low, eqb-true h.newest.depth (suc (length ps)) t)), subst (λ (w : History). Stands (take p.from trail) i ps w) (sym (strip_low (suc (length ps)) h (omega (arith, low)))) s)

pub opened_sound : (k : Kind) (s : State) (t : ℕ) → Sound s → t ≡ turn_in k s.turn (suc (length s.parts)) →
    Sound (state s.histories s.trail ((record { kind = k; from = length s.trail; around = s.turn }) ∷ s.parts) s.reached t)
opened_sound k s t c e = record {
  placed = (record { around = c.turn; from = c.within }, c.placed);
  turn = e;
  within = omega arith;
  standing = standing_each s.trail s.trail 0 s.parts ((record { kind = k; from = length s.trail; around = s.turn }) ∷ s.parts) s.histories c.standing
      (λ j h x. stands_open s.trail j (record { kind = k; from = length s.trail; around = s.turn }) s.parts h (subst (λ (w : List ℕ). Stands w j s.parts h) (sym (take-length s.trail)) x));
}

before_same : (b : Bool) (t : ℕ) (trail : List ℕ) (ps : List Part) (hs : List History) → Standing trail 0 ps hs → before_seen b t (suc (length ps)) hs ≡ now_seen b t hs
before_same b t trail ps hs s =
    ap (λ (w : List Cell). if_reached b w) (map_same trail 0 ps hs (λ h. visible t (stripped (suc (length ps)) h).newest) (λ h. visible t h.newest) s
    (λ j h x. let low : h.newest.depth ≤ length ps = depth_at_most trail j ps h x in
    ap (λ (w : History). visible t w.newest) (strip_low (suc (length ps)) h (omega (arith, low)))))

opened_seen : (s : State) (f : List Cell → Saved) → Sound s → (f (before_seen s.reached s.turn (suc (length s.parts)) s.histories) ∷ saved_seen s.parts (map (λ h. stripped (suc (length s.parts)) h) s.histories)) ≡ (f (now_seen s.reached s.turn s.histories) ∷ saved_seen s.parts s.histories)
opened_seen s f c =
    ap (λ (w : List Cell). f w ∷ saved_seen s.parts (map (λ h. stripped (suc (length s.parts)) h) s.histories)) (before_same s.reached s.turn s.trail s.parts s.histories c.standing) ∙
    ap (λ (w : List History). f (now_seen s.reached s.turn s.histories) ∷ saved_seen s.parts w) (strip_all s.trail 0 s.parts s.histories c.standing)

pub split_seen : (s : State) → Sound s → seen_levels (spec.split_state s) ≡ split (seen_levels s)
split_seen s c = levels _ _ _ _ refl (opened_seen s OneSide c)

pub split_sound : (s : State) → Sound s → Sound (spec.split_state s)
split_sound s c = opened_sound (kind.OneSide s.reached) s s.turn c refl

begun_if : (r : Bool) (cs : List Cell) → begun (if_reached r cs) ≡ if_reached r (begun cs)
begun_if true cs = refl
begun_if false cs = refl

begun_reached : (c : Cell) → is_reached c ≡ true → begun_cell c ≡ kept_cell
begun_reached c h = rw h

entered_now : (r : Bool) (t : ℕ) (trail : List ℕ) (ps : List Part) (hs : List History) → Standing trail 0 ps hs → now_seen r (suc (length ps)) hs ≡ begun (now_seen r t hs)
entered_now r t trail ps hs s =
    ap (λ (w : List Cell). if_reached r w) (map_same trail 0 ps hs (λ h. visible (suc (length ps)) h.newest) (λ h. begun_cell (visible t h.newest)) s each ∙ sym (map_map begun_cell (λ (h : History). visible t h.newest) hs)) ∙
    sym (begun_if r (map (λ h. visible t h.newest) hs))
  where
    each : (j : ℕ) (h : History) → Stands trail j ps h → visible (suc (length ps)) h.newest ≡ begun_cell (visible t h.newest)
    each j h x =
        let low : h.newest.depth ≤ length ps = depth_at_most trail j ps h x in
        visible_old (suc (length ps)) h.newest (omega (arith, low)) ∙ sym (begun_reached (visible t h.newest) (visible_reached t h.newest (are_reached trail j ps h x).now))

pub entered_seen : (s : State) → Sound s → seen_levels (spec.entered_state s) ≡ entered_level (seen_levels s)
entered_seen s c = levels _ _ _ _ (entered_now s.reached s.turn s.trail s.parts s.histories c.standing) (opened_seen s Turn c)

pub entered_sound : (s : State) → Sound s → Sound (spec.entered_state s)
entered_sound s c = opened_sound (kind.Turn s.reached) s (suc (length s.parts)) c refl

pub stopped_sound : (s : State) → Sound s → Sound (spec.stopped_state s)
stopped_sound s c = record { placed = c.placed; turn = c.turn; within = c.within; standing = c.standing }

-- ---- what is seen of the parts that are open

-- two histories that differ only in what the cell may be now
pub record Alike (ps : List Part) (t : ℕ) (h g : History) : Type 0 where
  pub strip : stripped (length ps) h ≡ stripped (length ps) g
  pub sides : nat_eq (sides_in (first_of ps)) 0 ≡ false → sides_at (site_of ps t) h.newest ≡ sides_at (site_of ps t) g.newest

abbrev pub AllAlike : List Part → ℕ → List History → List History → Type 0
AllAlike ps t [] [] = Unit {0}
AllAlike ps t [] (g ∷ gs) = ⊥
AllAlike ps t (h ∷ hs) [] = ⊥
AllAlike ps t (h ∷ hs) (g ∷ gs) = Alike ps t h g × AllAlike ps t hs gs

pub alike_same : (ps : List Part) (t : ℕ) (h : History) → Alike ps t h h
alike_same ps t h = record { strip = refl; sides = λ e. refl }

pub alike_map : {B : Type 0} (ps : List Part) (t : ℕ) (hs gs : List History) (f : History → B) → AllAlike ps t hs gs → ((h g : History) → Alike ps t h g → f h ≡ f g) → map f hs ≡ map f gs
alike_map ps t [] [] f a e = refl
alike_map ps t [] (g ∷ gs) f a e = absurd a
alike_map ps t (h ∷ hs) [] f a e = absurd a
alike_map ps t (h ∷ hs) (g ∷ gs) f a e = ap (λ w. w ∷ map f hs) (e h g a.0) ∙ ap (λ w. f g ∷ w) (alike_map ps t hs gs f a.1 e)

saved_as_alike : (k : Kind) (from around : ℕ) (ps : List Part) (t : ℕ) (hs gs : List History) → t ≡ turn_in k around (suc (length ps)) →
    AllAlike ((record { kind = k; from = from; around = around }) ∷ ps) t hs gs → saved_as k around (suc (length ps)) hs ≡ saved_as k around (suc (length ps)) gs
saved_as_alike (kind.OneSide b) from around ps t hs gs e a =
    ap (λ (w : List Cell). OneSide (if_reached b w)) (alike_map _ t hs gs (λ h. visible around (stripped (suc (length ps)) h).newest) a (λ h g x. ap (λ (w : History). visible around w.newest) x.strip))
saved_as_alike (kind.Turn b) from around ps t hs gs e a =
    ap (λ (w : List Cell). Turn (if_reached b w)) (alike_map _ t hs gs (λ h. visible around (stripped (suc (length ps)) h).newest) a (λ h g x. ap (λ (w : History). visible around w.newest) x.strip))
saved_as_alike (kind.OtherSide n) from around ps t hs gs e a =
    subst (λ (w : ℕ). saved_as (kind.OtherSide n) w (suc (length ps)) hs ≡ saved_as (kind.OtherSide n) w (suc (length ps)) gs) e
    (elim (bool_cases (nat_eq n 0)) [
      | inl z ↦ rw z
      | inr z ↦ rw z (ap OtherSide (alike_map _ t hs gs (λ h. sides_at (record { depth = suc (length ps); sides = n; turn = t }) h.newest) a (λ h g x. x.sides z)))
    ])

pub saved_alike : (ps : List Part) (t : ℕ) (hs gs : List History) → t ≡ turn_of ps → AllAlike ps t hs gs → saved_seen ps hs ≡ saved_seen ps gs
saved_alike [] t hs gs e a = refl
saved_alike (p ∷ ps) t hs gs e a =
    ap (λ (w : Saved). w ∷ saved_seen ps (map (λ h. stripped (suc (length ps)) h) hs)) (saved_as_alike p.kind p.from p.around ps t hs gs e a) ∙
    ap (λ (w : List History). saved_as p.kind p.around (suc (length ps)) gs ∷ saved_seen ps w) (alike_map (p ∷ ps) t hs gs (λ h. stripped (suc (length ps)) h) a (λ h g x. x.strip))

-- ---- a cell is changed

pub listed_sound : (i : ℕ) (s : State) → Sound s → Sound (spec.listed_state i s)
listed_sound i s c =
    let b : Bool = is_new (length s.parts) i 0 s.histories in
    record {
      placed = c.placed;
      turn = c.turn;
      within = length_more b (spec.from_of s.parts) i s.trail c.within;
      standing = standing_each s.trail (with_more b i s.trail) 0 s.parts s.parts s.histories c.standing (λ j h x. stands_more b i s.trail j s.parts h c.within x);
    }

stands_set : (trail : List ℕ) (i : ℕ) (ps : List Part) (t : ℕ) (value : Bool) (h : History) → Stands trail i ps h → IsListed trail i ps → Stands trail i ps (set_history (site_of ps t) value h)
stands_set trail i ps t value h s l =
    let r = are_reached trail i ps h s in
    stands_new trail i ps (set_history (site_of ps t) value h) h (strip_set (site_of ps t) value h) refl
    (record { now = reached_set value (visible t h.newest) (visible_reached t h.newest r.now); sides = sides_reached (site_of ps t) h.newest r })
    (omega arith) l s

standing_set : (value r : Bool) (i : ℕ) (s : State) → Sound s →
    Standing (spec.listed_state i s).trail 0 s.parts (if r then changed_at (set_history (site_of s.parts s.turn) value) i 0 s.histories else s.histories)
standing_set value true i s c =
    let b : Bool = is_new (length s.parts) i 0 s.histories in
    standing_changed s.trail (with_more b i s.trail) i 0 s.parts s.histories (set_history (site_of s.parts s.turn) value) c.standing
    (λ j h x. stands_more b i s.trail j s.parts h c.within x)
    (λ e. listed_new b i s.trail s.parts c.within e)
    (λ h x y. stands_set (with_more b i s.trail) i s.parts s.turn value h x y)
standing_set value false i s c = (listed_sound i s c).standing

pub set_sound : (value : Bool) (i : ℕ) (s : State) → Sound s → Sound (spec.set_state value i (spec.listed_state i s))
set_sound value i s c = record { placed = c.placed; turn = c.turn; within = (listed_sound i s c).within; standing = standing_set value s.reached i s c }

alike_set : (ps : List Part) (t : ℕ) (value : Bool) (h : History) → Alike ps t (set_history (site_of ps t) value h) h
alike_set ps t value h = record {
  strip = strip_set (site_of ps t) value h;
  sides = λ e. sides_new (length ps) (sides_in (first_of ps)) t (set_cell value (visible t h.newest)) h.newest e;
}

all_alike_set : (ps : List Part) (t : ℕ) (value : Bool) (i k : ℕ) (hs : List History) → AllAlike ps t (changed_at (set_history (site_of ps t) value) i k hs) hs
all_alike_set ps t value i k [] = tt
all_alike_set ps t value i k (h ∷ hs) = (by (nat_eq k i), all_alike_set ps t value i (suc k) hs)
  where
    by : (b : Bool) → Alike ps t (if b then set_history (site_of ps t) value h else h) h
    by true = alike_set ps t value h
    by false = alike_same ps t h

set_seen_if : (value : Bool) (i : ℕ) (hs : List History) (trail : List ℕ) (ps : List Part) (r : Bool) (t : ℕ) → Sound (state hs trail ps r t) →
    seen_levels (spec.set_state value i (state hs trail ps r t)) ≡ set_level value i 1 (seen_levels (state hs trail ps r t))
set_seen_if value i hs trail ps false t c = refl
set_seen_if value i hs trail ps true t c =
    levels _ _ _ _
    (map_changed_at (set_history (site_of ps t) value) (λ h. visible t h.newest) (set_cell value) i 0 hs (λ h. visible_at t (set_history (site_of ps t) value h).newest low) ∙
    sym (over_one (set_cell value) i (map (λ (h : History). visible t h.newest) hs)))
    (saved_alike ps t (changed_at (set_history (site_of ps t) value) i 0 hs) hs c.turn (all_alike_set ps t value i 0 hs))
  where
    low : t ≤ length ps
    low = omega (arith, c.turn, turn_at_most ps c.placed)

pub set_seen : (value : Bool) (i : ℕ) (s : State) → Sound s → seen_levels (spec.set_state value i (spec.listed_state i s)) ≡ set_level value i 1 (seen_levels s)
set_seen value i s c = set_seen_if value i s.histories s.trail s.parts s.reached s.turn c
