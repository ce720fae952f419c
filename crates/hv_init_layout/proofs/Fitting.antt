-- The layout with these cuts fits the body.
use Rattle.std.proofs.Common.{◌≡◌, ◌⊎◌, inl, inr, ◌↔◌, ◌+◌, ◌<◌, ◌≤◌, ℕ, zero, suc, Bool, true, false, List, [], ◌∷◌, length, map, Contains, refl, sym, ap, ◌∙◌, subst, arith}
use Rattle.std.proofs.lemmas.Bool.{cases_lt}
use Rattle.std.proofs.lemmas.List.{length-map}
use Rattle.std.proofs.Math.Path.{fun_ext}
use Rattle.hv_tree.specs.Core.{Core}
use Rattle.hv_decls.specs.Locals.{Local, CoreBody, locals_of}
use Rattle.hv_rules.specs.States.{Leaf}
use Rattle.hv_scope.specs.declared.known.Known.{Known}
use Rattle.hv_scope.specs.Known.{local_by}
use Rattle.hv_rules.specs.Rules.{leaves_from}
use Rattle.hv_lemmas.proofs.Members.{Among, in_left, listed, contained}
use Rattle.hv_flow_plan.specs.declared.plan.FlowOp.{FlowOp}
use Rattle.hv_flow_plan.specs.Spelling.{plan_of_body}
use Rattle.hv_flow_pass.specs.declared.act.Range.{Range}
use Rattle.hv_init_cells.specs.Layout.{Occurs, IsLeaf, IsFilledWhereAsked, Fits}
use Rattle.hv_init_cells.specs.Plain.{ranges, kept, kept_before, plain_range}
use Rattle.hv_init_cells.specs.Ranked.{Cuts}
use Rattle.hv_init_cells.proofs.Kept.{from_if, all_if}
use Rattle.hv_init_cells.proofs.PlainFits.{least}
use Rattle.hv_init_cells.proofs.Ranks.{merged_fits}
use Rattle.hv_init_leaves.specs.declared.sizes.Sizes.{Sizes}
use Rattle.hv_init_leaves.specs.declared.leaves.Leaves.{Leaves}
use Rattle.hv_init_leaves.specs.Leaves.{range_by, AreSizesOf, AreLeavesOf}
use Rattle.hv_init_needs.specs.Needs.{needs_state}
use Rattle.hv_init_needs.proofs.Settled.{filled_where_asked}
use Rattle.hv_init_layout.specs.Cuts.{stands}
use Rattle.hv_init_layout.specs.Tracked.{flag_at}
use Rattle.hv_init_layout.specs.Ends.{plan_ends, local_ends, all_ends}
use Rattle.hv_init_layout.specs.Laid.{laid_by}
use Rattle.hv_init_layout.proofs.Ending.{is_range, local_found, found}

-- ---- the locals without cells

no_leaves : (tree : Core) (ls : List Local) (k : ℕ) → length ls ≤ k → leaves_from tree ls k ≡ []
no_leaves tree [] k h = refl
no_leaves tree (l ∷ ls) zero h = absurd (omega (arith, h))
no_leaves tree (l ∷ ls) (suc k) h = no_leaves tree ls k (omega (arith, h))

nowhere : (leaf : List ℕ) (leaves : List (List ℕ)) → leaves ≡ [] → Among leaves leaf → ⊥
nowhere leaf leaves e h = subst (λ (ls : List (List ℕ)). Among ls leaf) e h

-- they need none
settled : (tree : Core) (body : CoreBody) (flags : List Bool) (count : ℕ) → count ≡ length (locals_of body) → ((k : ℕ) → k < count → flag_at flags k ≡ needs_state tree body k) →
    (k : ℕ) → flag_at flags k ≡ false → IsFilledWhereAsked tree body k
settled tree body flags count c exact k e = by (cases_lt k count)
  where
    by : (k < count) ⊎ (count ≤ k) → IsFilledWhereAsked tree body k
    by (inl h) = filled_where_asked tree body k (sym (exact k h) ∙ e)
    by (inr h) = λ before last t a leaf i. absurd (nowhere leaf (leaves_from tree (locals_of body) k) (no_leaves tree (locals_of body) k (omega (arith, h, c))) (listed (leaves_from tree (locals_of body) k) leaf i))

-- ---- the others

module _ (tree : Core) (body : CoreBody) (tracks : ℕ → Bool) (steady : (k : ℕ) → tracks k ≡ false → IsFilledWhereAsked tree body k) (s : Sizes) (l : Leaves) (hs : AreSizesOf tree s) (hl : AreLeavesOf tree (kept tracks (locals_of body)) l) where
  abbrev positions : List ℕ
  positions = all_ends s l tracks (length (kept tracks (locals_of body))) (plan_of_body tree body)

  module _ (cuts : List ℕ) (all : (n : ℕ) → 0 < n → Contains positions n → stands cuts n ≡ true) where
    abbrev at : ℕ → List ℕ → Range
    at k fields = ranges tree 1 (kept tracks (locals_of body)) k fields

    same : (k : ℕ) (fields : List ℕ) → range_by s l k fields ≡ at k fields
    same k fields = is_range s l tracks tree body hs hl k fields

    is_cut : (n : ℕ) → 0 < n → Among positions n → stands cuts n ≡ true
    is_cut n g h = all n g (contained positions n h)

    above_none : (k : ℕ) (fields : List ℕ) → 0 < (at k fields).from
    above_none k fields = let m = least tree 1 (kept tracks (locals_of body)) k fields in omega (arith, m)

    enough : Cuts tree body tracks (stands cuts)
    enough = record { begins = begins; ends = end; locals = first }
      where
        begins : (root : ℕ) (fields : List ℕ) → Occurs tree body root fields → tracks root ≡ true → stands cuts (plain_range tree body tracks root fields).from ≡ true
        begins root fields o t =
            let k = kept_before tracks root in
            ap (stands cuts) (from_if (tracks root) (at k fields))
            ∙ is_cut (at k fields).from (above_none k fields) (found s l tracks tree body hs hl root fields o t (at k fields).from (inl (ap (λ r. r.from) (same k fields))))

        end : (root : ℕ) (fields : List ℕ) → Occurs tree body root fields → tracks root ≡ true → stands cuts ((plain_range tree body tracks root fields).from + (plain_range tree body tracks root fields).count) ≡ true
        end root fields o t =
            let k = kept_before tracks root in
            let g = above_none k fields in
            ap (λ (r : Range). stands cuts (r.from + r.count)) (all_if (tracks root) (at k fields) t)
            ∙ is_cut ((at k fields).from + (at k fields).count) (omega (arith, g))
            (found s l tracks tree body hs hl root fields o t ((at k fields).from + (at k fields).count) (inr (inl (ap (λ r. r.from + r.count) (same k fields)))))

        first : (leaf : Leaf) → IsLeaf tree body leaf → tracks leaf.root ≡ true → stands cuts (plain_range tree body tracks leaf.root []).from ≡ true
        first leaf h t =
            let k = kept_before tracks leaf.root in
            ap (stands cuts) (from_if (tracks leaf.root) (at k []))
            ∙ is_cut (at k []).from (above_none k [])
            (in_left (local_ends s l (suc (length (kept tracks (locals_of body))))) (plan_ends s l tracks (plan_of_body tree body)) (at k []).from
            (local_found s l tracks tree body hs hl k (at k []).from (inl (ap (λ r. r.from) (same k [])))))

    pub laid_fits : Fits tree body (laid_by tracks (range_by s l) cuts)
    laid_fits =
        subst (λ (range_of : ℕ → List ℕ → Range). Fits tree body (laid_by tracks range_of cuts)) (sym (fun_ext (λ k. fun_ext (λ fields. same k fields)))) (merged_fits tree body tracks (stands cuts) steady enough)

-- the same of locals as they are known, with the flags, the leaves and the positions that are found
pub known_fits : (tree : Core) (body : CoreBody) (s : Sizes) (l : Leaves) (known having : List Known) (flags : List Bool) (count : ℕ) (plan : List FlowOp) (found cuts : List ℕ) → map local_by known ≡ locals_of body →
    (plan ≡ plan_of_body tree body → (k : ℕ) → k < length known → flag_at flags k ≡ needs_state tree body k) → map local_by having ≡ kept (flag_at flags) (map local_by known) → count ≡ length having →
    (AreSizesOf tree s → AreLeavesOf tree (map local_by having) l) → found ≡ all_ends s l (flag_at flags) count plan → ((n : ℕ) → (stands cuts n ≡ true) ↔ ((0 < n) × Contains found n)) →
    AreSizesOf tree s → plan ≡ plan_of_body tree body → Fits tree body (laid_by (flag_at flags) (range_by s l) cuts)
known_fits tree body s l known having flags count plan found cuts e exact h c leaves f all hs hp =
    laid_fits tree body (flag_at flags) (settled tree body flags (length known) known_count (exact hp)) s l hs (subst (λ (ls : List Local). AreLeavesOf tree ls l) same_having (leaves hs)) cuts
    (λ n g i. (all n).1 (g, subst (λ (ns : List ℕ). Contains ns n) (sym same_found) i))
  where
    known_count : length known ≡ length (locals_of body)
    known_count = sym (length-map known local_by) ∙ ap length e

    same_having : map local_by having ≡ kept (flag_at flags) (locals_of body)
    same_having = h ∙ ap (kept (flag_at flags)) e

    same_count : count ≡ length (kept (flag_at flags) (locals_of body))
    same_count = c ∙ (sym (length-map having local_by) ∙ ap length same_having)

    same_found : found ≡ all_ends s l (flag_at flags) (length (kept (flag_at flags) (locals_of body))) (plan_of_body tree body)
    same_found = f ∙ (ap (λ (k : ℕ). all_ends s l (flag_at flags) k plan) same_count ∙ ap (all_ends s l (flag_at flags) (length (kept (flag_at flags) (locals_of body)))) hp)
