-- The layout that numbers all leaves of the locals that have cells one after the other fits each body.
use Rattle.std.proofs.Common.{◌≡◌, ◌⊎◌, inl, inr, ◌+◌, ◌<◌, ◌≤◌, ℕ, zero, suc, Bool, true, false, List, [], ◌∷◌, refl, sym, ap, subst, ◌∙◌, arith}
use Rattle.hv_tree.specs.Core.{Core}
use Rattle.hv_decls.specs.Locals.{Local, CoreBody, locals_of}
use Rattle.hv_rules.specs.States.{Leaf, is_front}
use Rattle.hv_rules.specs.Rules.{leaves_from}
use Rattle.hv_lemmas.proofs.Members.{listed, contained}
use Rattle.hv_flow_pass.specs.declared.act.Range.{Range}
use Rattle.hv_flow_pass.specs.Refused.{covers}
use Rattle.hv_init_cells.specs.Layout.{Occurs, IsLeaf, leaf_of, IsFilledWhereAsked, Fits}
use Rattle.hv_init_cells.specs.Plain.{size, span, shape_by, ranges, kept, kept_before, plain_range, plain}
use Rattle.hv_init_cells.proofs.Shapes.{covers_of, covers_to, not_before, moved, split, begins, told, under}
use Rattle.hv_init_cells.proofs.Leaves.{AtRoot, root_to, root_of}
use Rattle.hv_init_cells.proofs.Kept.{from_if, all_if, none_if, one_number, kept_leaves}

module _ (tree : Core) where
  all_told : (n : ℕ) (ls : List Local) (root : ℕ) (fields leaf : List ℕ) → AtRoot tree ls root leaf → covers (ranges tree n ls root fields) (ranges tree n ls root leaf).from ≡ is_front fields leaf
  all_told n [] root fields leaf h = absurd h
  all_told n (l ∷ ls) zero fields leaf h =
      let s = shape_by tree l.ty in moved n (span s fields).from (span s fields).count (span s leaf).from ∙ told s fields leaf h
  all_told n (l ∷ ls) (suc root) fields leaf h = all_told (n + size (shape_by tree l.ty)) ls root fields leaf h

  all_under : (n : ℕ) (ls : List Local) (root : ℕ) (fields : List ℕ) (i : ℕ) → covers (ranges tree n ls root fields) i ≡ true →
      (leaf : List ℕ) × AtRoot tree ls root leaf × (is_front fields leaf ≡ true) × ((ranges tree n ls root leaf).from ≡ i)
  all_under n [] root fields i h = let t = covers_of n 0 i h in absurd (omega (arith, t.0, t.1))
  all_under n (l ∷ ls) zero fields i h = by (split n i)
    where
      by : (i < n) ⊎ ((j : ℕ) × (i ≡ n + j)) → (leaf : List ℕ) × AtRoot tree (l ∷ ls) zero leaf × (is_front fields leaf ≡ true) × (n + (span (shape_by tree l.ty) leaf).from ≡ i)
      by (inl g) = let t = covers_of (n + (span (shape_by tree l.ty) fields).from) (span (shape_by tree l.ty) fields).count i h in absurd (omega (arith, g, t.0))
      by (inr (j, e)) =
          let s = shape_by tree l.ty in
          let c = covers_of (n + (span s fields).from) (span s fields).count i h in
          let t = under s fields j (covers_to (span s fields).from (span s fields).count j (omega (arith, c.0, e)) (omega (arith, c.1, e))) in
          let k = t.3 in (t.0, t.1, t.2, omega (arith, k, e))
  all_under n (l ∷ ls) (suc root) fields i h = all_under (n + size (shape_by tree l.ty)) ls root fields i h

  pub least : (n : ℕ) (ls : List Local) (root : ℕ) (fields : List ℕ) → n ≤ (ranges tree n ls root fields).from
  least n [] root fields = omega arith
  least n (l ∷ ls) zero fields = omega arith
  least n (l ∷ ls) (suc root) fields = let h = least (n + size (shape_by tree l.ty)) ls root fields in omega (arith, h)

  one_root : (n : ℕ) (ls : List Local) (a b : ℕ) (x y : List ℕ) → AtRoot tree ls a x → AtRoot tree ls b y → (ranges tree n ls a x).from ≡ (ranges tree n ls b y).from → a ≡ b
  one_root n [] a b x y h g e = absurd h
  one_root n (l ∷ ls) zero zero x y h g e = refl
  one_root n (l ∷ ls) zero (suc b) x y h g e =
      let k = begins (shape_by tree l.ty) x h in let m = least (n + size (shape_by tree l.ty)) ls b y in absurd (omega (arith, e, k, m))
  one_root n (l ∷ ls) (suc a) zero x y h g e =
      let k = begins (shape_by tree l.ty) y g in let m = least (n + size (shape_by tree l.ty)) ls a x in absurd (omega (arith, e, k, m))
  one_root n (l ∷ ls) (suc a) (suc b) x y h g e = ap suc (one_root (n + size (shape_by tree l.ty)) ls a b x y h g e)

  -- those of a local's leaves among the ones that have cells
  abbrev in_kept : CoreBody → (ℕ → Bool) → ℕ → List ℕ → Range
  in_kept body tracks root fields = ranges tree 1 (kept tracks (locals_of body)) (kept_before tracks root) fields

  pub plain_fits : (body : CoreBody) (tracks : ℕ → Bool) → ((root : ℕ) → tracks root ≡ false → IsFilledWhereAsked tree body root) → Fits tree body (plain tree body tracks)
  plain_fits body tracks steady = record { told = tells; only = only; apart = apart; is_free = free; steady = steady }
    where
      -- where a leaf's cell is
      here : (root : ℕ) (leaf : List ℕ) → (plain_range tree body tracks root leaf).from ≡ (in_kept body tracks root leaf).from
      here root leaf = from_if (tracks root) (in_kept body tracks root leaf)

      same : (root : ℕ) (fields : List ℕ) → tracks root ≡ true → plain_range tree body tracks root fields ≡ in_kept body tracks root fields
      same root fields t = all_if (tracks root) (in_kept body tracks root fields) t

      at : (root : ℕ) (leaf : List ℕ) → tracks root ≡ true → IsLeaf tree body (leaf_of root leaf) → AtRoot tree (kept tracks (locals_of body)) (kept_before tracks root) leaf
      at root leaf t h =
          subst (λ (T : Type 0). T) (sym (kept_leaves tree tracks (locals_of body) root leaf t)) (root_to tree (locals_of body) root leaf (listed (leaves_from tree (locals_of body) root) leaf h))

      of : (root : ℕ) (leaf : List ℕ) → tracks root ≡ true → AtRoot tree (kept tracks (locals_of body)) (kept_before tracks root) leaf → IsLeaf tree body (leaf_of root leaf)
      of root leaf t h =
          contained (leaves_from tree (locals_of body) root) leaf (root_of tree (locals_of body) root leaf (subst (λ (T : Type 0). T) (kept_leaves tree tracks (locals_of body) root leaf t) h))

      tells : (root : ℕ) (fields : List ℕ) → Occurs tree body root fields → tracks root ≡ true → (leaf : List ℕ) → IsLeaf tree body (leaf_of root leaf) →
          covers (plain_range tree body tracks root fields) (plain_range tree body tracks root leaf).from ≡ is_front fields leaf
      tells root fields o t leaf h =
          ap (λ (r : Range). covers r (plain_range tree body tracks root leaf).from) (same root fields t) ∙ ap (covers (in_kept body tracks root fields)) (here root leaf)
          ∙ all_told 1 (kept tracks (locals_of body)) (kept_before tracks root) fields leaf (at root leaf t h)

      only : (root : ℕ) (fields : List ℕ) → Occurs tree body root fields → (i : ℕ) → covers (plain_range tree body tracks root fields) i ≡ true →
          (tracks root ≡ true) × (leaf : List ℕ) × IsLeaf tree body (leaf_of root leaf) × (is_front fields leaf ≡ true) × ((plain_range tree body tracks root leaf).from ≡ i)
      only root fields o i h = by (tracks root) refl
        where
          by : (b : Bool) → tracks root ≡ b → (tracks root ≡ true) × (leaf : List ℕ) × IsLeaf tree body (leaf_of root leaf) × (is_front fields leaf ≡ true) × ((plain_range tree body tracks root leaf).from ≡ i)
          by true t =
              let u = all_under 1 (kept tracks (locals_of body)) (kept_before tracks root) fields i (sym (ap (λ (r : Range). covers r i) (same root fields t)) ∙ h) in
              (t, u.0, of root u.0 t u.1, u.2, here root u.0 ∙ u.3)
          by false t = let e = none_if (tracks root) (in_kept body tracks root fields) i t in cc

      apart : (a b : Leaf) → IsLeaf tree body a → IsLeaf tree body b → tracks a.root ≡ true → tracks b.root ≡ true → (plain_range tree body tracks a.root a.fields).from ≡ (plain_range tree body tracks b.root b.fields).from → a.root ≡ b.root
      apart a b h g t u e =
          one_number tracks a.root b.root t u
          (one_root 1 (kept tracks (locals_of body)) (kept_before tracks a.root) (kept_before tracks b.root) a.fields b.fields (at a.root a.fields t h) (at b.root b.fields u g) (sym (here a.root a.fields) ∙ (e ∙ here b.root b.fields)))

      free : (root : ℕ) (fields : List ℕ) → Occurs tree body root fields → covers (plain_range tree body tracks root fields) 0 ≡ false
      free root fields o =
          let h = least 1 (kept tracks (locals_of body)) (kept_before tracks root) fields in
          let e = here root fields in not_before (plain_range tree body tracks root fields).from (plain_range tree body tracks root fields).count 0 (omega (arith, h, e))
