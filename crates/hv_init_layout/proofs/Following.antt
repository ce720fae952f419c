-- The cells of each local end where those of the next one begin.
use Rattle.std.proofs.Common.{◌≡◌, ◌+◌, ◌≤◌, ℕ, zero, suc, Bool, true, false, if◌then◌else◌, List, [], ◌∷◌, refl, sym, ap, ◌∙◌, arith}
use Rattle.hv_tree.specs.Core.{Core}
use Rattle.hv_decls.specs.Types.{TypeShape, LeafShape, StructShape}
use Rattle.hv_decls.specs.Locals.{Local}
use Rattle.hv_flow_pass.specs.declared.act.Range.{Range}
use Rattle.hv_init_cells.specs.Plain.{size, span, shape_by, ranges, kept_before, range_if, tracked_range}
use Rattle.hv_init_cells.specs.Ranked.{rank, ranked}
use Rattle.hv_init_cells.proofs.Kept.{from_if}
use Rattle.hv_init_leaves.specs.declared.sizes.Sizes.{Sizes}
use Rattle.hv_init_leaves.specs.declared.leaves.Leaves.{Leaves}
use Rattle.hv_init_leaves.specs.Leaves.{range_by, AreSizesOf, AreLeavesOf}
use Rattle.hv_init_leaves.proofs.Ranges.{range_is}
use Rattle.hv_init_layout.specs.Cuts.{stands}
use Rattle.hv_init_layout.specs.Laid.{laid_by}
use Rattle.hv_init_layout.specs.Spans.{FollowOneAnother}

-- ---- all leaves by number

all_of : (s : TypeShape) → (span s []).from + (span s []).count ≡ size s
all_of LeafShape = refl
all_of (StructShape ss) = omega arith

from_first : (s : TypeShape) → (span s []).from ≡ 0
from_first LeafShape = refl
from_first (StructShape ss) = refl

first_at : (tree : Core) (n : ℕ) (ls : List Local) → (ranges tree n ls 0 []).from ≡ n
first_at tree n [] = refl
first_at tree n (l ∷ ls) = let e = from_first (shape_by tree l.ty) in omega (arith, e)

in_a_row : (tree : Core) (n : ℕ) (ls : List Local) (root : ℕ) → (ranges tree n ls root []).from + (ranges tree n ls root []).count ≡ (ranges tree n ls (suc root) []).from
in_a_row tree n [] root = omega arith
in_a_row tree n (l ∷ ls) zero =
    let e = all_of (shape_by tree l.ty) in let f = first_at tree (n + size (shape_by tree l.ty)) ls in omega (arith, e, f)
in_a_row tree n (l ∷ ls) (suc root) = in_a_row tree (n + size (shape_by tree l.ty)) ls root

-- ---- cuts

rises : (cut : ℕ → Bool) (i k : ℕ) → rank cut i ≤ rank cut (i + k)
rises cut i zero = let e = ap (rank cut) (same i) in omega (arith, e)
  where
    same : (n : ℕ) → n + 0 ≡ n
    same n = omega arith
rises cut i (suc k) = let h = rises cut i k in let g = by (cut (suc (i + k))) in let e = ap (rank cut) (next i k) in omega (arith, h, g, e)
  where
    next : (n m : ℕ) → n + suc m ≡ suc (n + m)
    next n m = omega arith

    by : (b : Bool) → rank cut (i + k) ≤ (if b then suc (rank cut (i + k)) else rank cut (i + k))
    by true = omega arith
    by false = omega arith

cut_row : (cut : ℕ → Bool) (a b : Range) → a.from + a.count ≡ b.from → (ranked cut a).from + (ranked cut a).count ≡ (ranked cut b).from
cut_row cut a b e = let h = rises cut a.from a.count in let f = ap (rank cut) e in omega (arith, h, f)

-- ---- the layout

pub laid_follow : (tree : Core) (locals : List Local) (tracks : ℕ → Bool) (s : Sizes) (l : Leaves) (cuts : List ℕ) → AreSizesOf tree s → AreLeavesOf tree locals l → FollowOneAnother (laid_by tracks (range_by s l) cuts)
laid_follow tree locals tracks s l cuts hs hl n =
    cut_row (stands cuts) (tracked_range tracks (range_by s l) n []) (tracked_range tracks (range_by s l) (suc n) [])
    (by (tracks n) (kept_before tracks n) ∙ sym (from_if (tracks (suc n)) (range_by s l (kept_before tracks (suc n)) [])))
  where
    same : (at : ℕ) → range_by s l at [] ≡ ranges tree 1 locals at []
    same at = range_is tree locals s l hs hl at []

    -- a local without cells ends where it begins
    by : (b : Bool) (at : ℕ) → (range_if b (range_by s l at [])).from + (range_if b (range_by s l at [])).count ≡ (range_by s l (if b then suc at else at) []).from
    by true at = ap (λ (r : Range). r.from + r.count) (same at) ∙ in_a_row tree 1 locals at ∙ sym (ap (λ (r : Range). r.from) (same (suc at)))
    by false at = nothing (range_by s l at []).from
      where
        nothing : (k : ℕ) → k + 0 ≡ k
        nothing k = omega arith
