-- The layout in which leaves that no range parts share a cell fits, too.
use Rattle.std.proofs.Common.{◌≡◌, ◌⊎◌, inl, inr, ◌+◌, ◌-◌, ◌<◌, ◌≤◌, ℕ, zero, suc, Bool, true, false, if◌then◌else◌, List, [], ◌∷◌, refl, sym, ap, subst, ◌∙◌, arith}
use Rattle.hv_tree.specs.Core.{Core}
use Rattle.hv_decls.specs.Types.{TypeShape, LeafShape, StructShape}
use Rattle.hv_decls.specs.Locals.{Local, CoreBody, locals_of}
use Rattle.hv_rules.specs.States.{Leaf, is_front}
use Rattle.hv_rules.specs.Rules.{leaves_from}
use Rattle.hv_lemmas.proofs.Members.{listed}
use Rattle.hv_flow_pass.specs.declared.act.Range.{Range}
use Rattle.hv_flow_pass.specs.Refused.{covers}
use Rattle.hv_init_cells.specs.Layout.{Occurs, IsLeaf, leaf_of, IsFilledWhereAsked, Fits}
use Rattle.hv_init_cells.specs.Plain.{size, span, shape_by, ranges, kept, kept_before, range_if, plain_range, plain}
use Rattle.hv_init_cells.specs.Ranked.{rank, ranked, merged, Cuts}
use Rattle.hv_init_cells.proofs.Shapes.{covers_of, covers_to, same_tests, split, begins}
use Rattle.hv_init_cells.proofs.Leaves.{AtRoot, root_to}
use Rattle.hv_init_cells.proofs.Kept.{no_cell, from_if, kept_rises, kept_leaves}
use Rattle.hv_init_cells.proofs.PlainFits.{least, plain_fits}

-- ---- ranks

module _ (cut : ℕ → Bool) where
  one_more : (i : ℕ) → rank cut i ≤ rank cut (suc i)
  one_more i = by (cut (suc i))
    where
      by : (b : Bool) → rank cut i ≤ (if b then suc (rank cut i) else rank cut i)
      by true = omega arith
      by false = omega arith

  more : (i k : ℕ) → rank cut i ≤ rank cut (i + k)
  more i zero = let e = ap (rank cut) (plus_none i) in omega (arith, e)
    where
      plus_none : (n : ℕ) → n + 0 ≡ n
      plus_none n = omega arith
  more i (suc k) = let h = more i k in let g = one_more (i + k) in let e = ap (rank cut) (plus_more i k) in omega (arith, h, g, e)
    where
      plus_more : (n m : ℕ) → n + suc m ≡ suc (n + m)
      plus_more n m = omega arith

  rises : (i j : ℕ) → i ≤ j → rank cut i ≤ rank cut j
  rises i j h = by (split i j)
    where
      by : (j < i) ⊎ ((k : ℕ) × (j ≡ i + k)) → rank cut i ≤ rank cut j
      by (inl l) = absurd (omega (arith, h, l))
      by (inr (k, e)) = let g = more i k in let f = ap (rank cut) e in omega (arith, g, f)

  -- past a cut
  one_above : (i : ℕ) → cut (suc i) ≡ true → rank cut (suc i) ≡ suc (rank cut i)
  one_above i e = ap (λ b. if b then suc (rank cut i) else rank cut i) e

  above : (i j : ℕ) → i < j → cut j ≡ true → rank cut i < rank cut j
  above i zero h e = absurd (omega (arith, h))
  above i (suc j) h e = let g = rises i j (omega (arith, h)) in let f = one_above j e in omega (arith, g, f)

  -- each lower rank comes before
  reached : (i j : ℕ) → j ≤ rank cut i → (k : ℕ) × (rank cut k ≡ j)
  reached zero j h = (0, omega (arith, h))
  reached (suc i) j h = by (cut (suc i)) refl (reached i j)
    where
      by : (b : Bool) → cut (suc i) ≡ b → (j ≤ rank cut i → (k : ℕ) × (rank cut k ≡ j)) → (k : ℕ) × (rank cut k ≡ j)
      by true e next = last (split (suc (rank cut i)) j)
        where
          last : (j < suc (rank cut i)) ⊎ ((m : ℕ) × (j ≡ suc (rank cut i) + m)) → (k : ℕ) × (rank cut k ≡ j)
          last (inl l) = next (omega (arith, l))
          last (inr (m, f)) = let g = one_above i e in (suc i, omega (arith, f, g, h))
      by false e next = let g = ap (λ b. if b then suc (rank cut i) else rank cut i) e in next (omega (arith, h, g))

  -- ---- a range between cuts

  width : (a b : ℕ) → a ≤ b → a + (b - a) ≡ b
  width a b h = omega (arith, h)

  module _ (r : Range) (first : cut r.from ≡ true) (last : cut (r.from + r.count) ≡ true) where
    whole : rank cut r.from + (rank cut (r.from + r.count) - rank cut r.from) ≡ rank cut (r.from + r.count)
    whole = width (rank cut r.from) (rank cut (r.from + r.count)) (more r.from r.count)

    pub same_range : (i : ℕ) → covers (ranked cut r) (rank cut i) ≡ covers r i
    same_range i = same_tests (covers (ranked cut r) (rank cut i)) (covers r i) to back
      where
        to : covers (ranked cut r) (rank cut i) ≡ true → covers r i ≡ true
        to e = by (split r.from i) (split (r.from + r.count) i)
          where
            in_it : (rank cut r.from ≤ rank cut i) × (rank cut i < rank cut (r.from + r.count))
            in_it = let c = covers_of (rank cut r.from) (rank cut (r.from + r.count) - rank cut r.from) (rank cut i) e in let w = whole in (c.0, omega (arith, c.1, w))

            by : (i < r.from) ⊎ ((j : ℕ) × (i ≡ r.from + j)) → (i < r.from + r.count) ⊎ ((j : ℕ) × (i ≡ (r.from + r.count) + j)) → covers r i ≡ true
            by (inl l) o = let a = above i r.from l first in let c = in_it in absurd (omega (arith, a, c.0))
            by (inr (j, f)) (inl l) = covers_to r.from r.count i (omega (arith, f)) l
            by (inr p) (inr (j, f)) = let a = rises (r.from + r.count) i (omega (arith, f)) in let c = in_it in absurd (omega (arith, a, c.1))

        back : covers r i ≡ true → covers (ranked cut r) (rank cut i) ≡ true
        back e =
            let c = covers_of r.from r.count i e in
            let w = whole in
            let a = above i (r.from + r.count) c.1 last in
            covers_to (rank cut r.from) (rank cut (r.from + r.count) - rank cut r.from) (rank cut i) (rises r.from i c.0) (omega (arith, a, w))

    pub some_cell : (j : ℕ) → covers (ranked cut r) j ≡ true → (i : ℕ) × (rank cut i ≡ j)
    some_cell j e =
        let c = covers_of (rank cut r.from) (rank cut (r.from + r.count) - rank cut r.from) j e in
        let w = whole in reached (r.from + r.count) j (omega (arith, c.1, w))

-- ---- locals

module _ (tree : Core) where
  -- the leaves of a local come before those of a later one
  in_order : (n : ℕ) (ls : List Local) (a b : ℕ) (x : List ℕ) → AtRoot tree ls a x → a < b → (ranges tree n ls a x).from < (ranges tree n ls b []).from
  in_order n [] a b x h l = absurd h
  in_order n (k ∷ ls) zero zero x h l = absurd (omega (arith, l))
  in_order n (k ∷ ls) zero (suc b) x h l =
      let g = begins (shape_by tree k.ty) x h in let m = least tree (n + size (shape_by tree k.ty)) ls b [] in omega (arith, g, m)
  in_order n (k ∷ ls) (suc a) zero x h l = absurd (omega (arith, l))
  in_order n (k ∷ ls) (suc a) (suc b) x h l = in_order (n + size (shape_by tree k.ty)) ls a b x h (omega (arith, l))

  first_least : (n : ℕ) (ls : List Local) (a : ℕ) (x : List ℕ) → AtRoot tree ls a x → (ranges tree n ls a []).from ≤ (ranges tree n ls a x).from
  first_least n [] a x h = absurd h
  first_least n (k ∷ ls) zero x h = let e = from_first (shape_by tree k.ty) in omega (arith, e)
    where
      from_first : (s : TypeShape) → (span s []).from ≡ 0
      from_first LeafShape = refl
      from_first (StructShape ss) = refl
  first_least n (k ∷ ls) (suc a) x h = first_least (n + size (shape_by tree k.ty)) ls a x h

  module _ (body : CoreBody) (tracks cut : ℕ → Bool) (steady : (root : ℕ) → tracks root ≡ false → IsFilledWhereAsked tree body root) (cuts : Cuts tree body tracks cut) where
    abbrev plain_at : ℕ → List ℕ → Range
    plain_at root fields = plain_range tree body tracks root fields

    abbrev locals : List Local
    locals = kept tracks (locals_of body)

    fit : Fits tree body (plain tree body tracks)
    fit = plain_fits tree body tracks steady

    at : (leaf : Leaf) → IsLeaf tree body leaf → tracks leaf.root ≡ true → AtRoot tree locals (kept_before tracks leaf.root) leaf.fields
    at leaf h t =
        subst (λ (T : Type 0). T) (sym (kept_leaves tree tracks (locals_of body) leaf.root leaf.fields t))
        (root_to tree (locals_of body) leaf.root leaf.fields (listed (leaves_from tree (locals_of body) leaf.root) leaf.fields h))

    here : (root : ℕ) (fields : List ℕ) → (plain_at root fields).from ≡ (ranges tree 1 locals (kept_before tracks root) fields).from
    here root fields = from_if (tracks root) (ranges tree 1 locals (kept_before tracks root) fields)

    -- leaves of two locals have a cut between them
    parts : (a b : Leaf) → IsLeaf tree body a → IsLeaf tree body b → tracks a.root ≡ true → tracks b.root ≡ true → a.root < b.root → rank cut (plain_at a.root a.fields).from < rank cut (plain_at b.root b.fields).from
    parts a b h g t u l =
        let o = in_order 1 locals (kept_before tracks a.root) (kept_before tracks b.root) a.fields (at a h t) (kept_rises tracks a.root b.root l t) in
        let m = first_least 1 locals (kept_before tracks b.root) b.fields (at b g u) in
        let x = here a.root a.fields in
        let y = here b.root [] in
        let z = here b.root b.fields in
        let p = above cut (plain_at a.root a.fields).from (plain_at b.root []).from (omega (arith, o, x, y)) (cuts.locals b g u) in
        let q = rises cut (plain_at b.root []).from (plain_at b.root b.fields).from (omega (arith, m, y, z)) in omega (arith, p, q)

    one_of : (a b : ℕ) → (a < b → ⊥) → (b < a → ⊥) → a ≡ b
    one_of a b f g = by (split a b) (split b a)
      where
        by : (b < a) ⊎ ((j : ℕ) × (b ≡ a + j)) → (a < b) ⊎ ((j : ℕ) × (a ≡ b + j)) → a ≡ b
        by (inl h) o = absurd (g h)
        by (inr p) (inl h) = absurd (f h)
        by (inr (i, p)) (inr (j, q)) = omega (arith, p, q)

    -- a local without cells still has none
    none_left : (root : ℕ) (fields : List ℕ) (i : ℕ) → tracks root ≡ false → covers (ranked cut (plain_at root fields)) i ≡ false
    none_left root fields i t = by (tracks root) t (ranges tree 1 locals (kept_before tracks root) fields)
      where
        by : (b : Bool) → b ≡ false → (r : Range) → covers (ranked cut (range_if b r)) i ≡ false
        by true e r = cc
        by false e r = empty (rank cut r.from) (rank cut (r.from + 0)) i (ap (rank cut) (plus_none r.from))
          where
            plus_none : (n : ℕ) → n + 0 ≡ n
            plus_none n = omega arith

            empty : (a b k : ℕ) → b ≡ a → covers (record { from = a; count = b - a }) k ≡ false
            empty a b k f = no_cell a (b - a) k (omega (arith, f))

    pub merged_fits : Fits tree body (merged tree body tracks cut)
    merged_fits = record { told = tells; only = only; apart = apart; is_free = free; steady = steady }
      where
        same : (root : ℕ) (fields : List ℕ) → Occurs tree body root fields → tracks root ≡ true → (i : ℕ) → covers (ranked cut (plain_at root fields)) (rank cut i) ≡ covers (plain_at root fields) i
        same root fields o t i = same_range cut (plain_at root fields) (cuts.begins root fields o t) (cuts.ends root fields o t) i

        tells : (root : ℕ) (fields : List ℕ) → Occurs tree body root fields → tracks root ≡ true → (leaf : List ℕ) → IsLeaf tree body (leaf_of root leaf) →
            covers (ranked cut (plain_at root fields)) (rank cut (plain_at root leaf).from) ≡ is_front fields leaf
        tells root fields o t leaf h = same root fields o t (plain_at root leaf).from ∙ fit.told root fields o t leaf h

        only : (root : ℕ) (fields : List ℕ) → Occurs tree body root fields → (i : ℕ) → covers (ranked cut (plain_at root fields)) i ≡ true →
            (tracks root ≡ true) × (leaf : List ℕ) × IsLeaf tree body (leaf_of root leaf) × (is_front fields leaf ≡ true) × (rank cut (plain_at root leaf).from ≡ i)
        only root fields o i h = by (tracks root) refl
          where
            by : (b : Bool) → tracks root ≡ b → (tracks root ≡ true) × (leaf : List ℕ) × IsLeaf tree body (leaf_of root leaf) × (is_front fields leaf ≡ true) × (rank cut (plain_at root leaf).from ≡ i)
            by true t =
                let c = some_cell cut (plain_at root fields) (cuts.begins root fields o t) (cuts.ends root fields o t) i h in
                let u = fit.only root fields o c.0 (sym (same root fields o t c.0) ∙ subst (λ (k : ℕ). covers (ranked cut (plain_at root fields)) k ≡ true) (sym c.1) h) in
                (t, u.1, u.2, u.3, ap (rank cut) u.4 ∙ c.1)
            by false t = let e = none_left root fields i t in cc

        apart : (a b : Leaf) → IsLeaf tree body a → IsLeaf tree body b → tracks a.root ≡ true → tracks b.root ≡ true → rank cut (plain_at a.root a.fields).from ≡ rank cut (plain_at b.root b.fields).from → a.root ≡ b.root
        apart a b h g t u e =
            one_of a.root b.root (λ l. let p = parts a b h g t u l in absurd (omega (arith, p, e))) (λ l. let p = parts b a g h u t l in absurd (omega (arith, p, e)))

        free : (root : ℕ) (fields : List ℕ) → Occurs tree body root fields → covers (ranked cut (plain_at root fields)) 0 ≡ false
        free root fields o = by (tracks root) refl
          where
            by : (b : Bool) → tracks root ≡ b → covers (ranked cut (plain_at root fields)) 0 ≡ false
            by true t = same root fields o t 0 ∙ fit.is_free root fields o
            by false t = none_left root fields 0 t

-- where each number is a cut, there are cuts enough
pub all_cut : (tree : Core) (body : CoreBody) (tracks : ℕ → Bool) → Cuts tree body tracks (λ i. true)
all_cut tree body tracks = record { begins = λ root fields o t. refl; ends = λ root fields o t. refl; locals = λ leaf h t. refl }
