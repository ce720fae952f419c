-- What occurs in a body has its ends among the positions that are found.
use Rattle.std.proofs.Common.{◌≡◌, ◌⊎◌, inl, inr, ◌+◌, ◌<◌, ◌≤◌, ℕ, zero, suc, Bool, true, if◌then◌else◌, List, [], ◌∷◌, ◌++◌, length, refl, sym, ap, subst, ◌∙◌, append_assoc, arith}
use Rattle.std.proofs.lemmas.Bool.{cases_lt}
use Rattle.hv_tree.specs.Core.{Core, end_of}
use Rattle.hv_decls.specs.declared.path.StaticPath.{StaticPath}
use Rattle.hv_rules.specs.declared.event.FlowEvent.{FlowEvent}
use Rattle.hv_rules.specs.declared.event.FlowEvent.TheVariants as event
use Rattle.hv_rules.specs.Flow.{Skip, Do, Stop, Then, Either, Loop}
use Rattle.hv_decls.specs.Locals.{Local, CoreBody, locals_of}
use Rattle.hv_rules.specs.Events.{Events, Mark, body_events}
use Rattle.hv_rules.specs.States.{fields_of}
use Rattle.hv_lemmas.proofs.Members.{Among, in_left, in_right}
use Rattle.hv_flow_plan.specs.declared.plan.FlowOp.{FlowOp}
use Rattle.hv_flow_plan.specs.Spelling.{plan_of, entered, plan_of_body}
use Rattle.hv_init_cells.specs.Layout.{IsOf, SpeaksOf, Names, Occurs}
use Rattle.hv_init_cells.specs.Plain.{size, shape_by, ranges, kept, kept_before}
use Rattle.hv_init_leaves.specs.declared.sizes.Sizes.{Sizes}
use Rattle.hv_init_leaves.specs.declared.leaves.Leaves.{Leaves}
use Rattle.hv_init_leaves.specs.Leaves.{range_by, AreSizesOf, AreLeavesOf}
use Rattle.hv_init_leaves.proofs.Ranges.{range_is}
use Rattle.hv_init_layout.specs.Ends.{ends, path_ends, event_ends, word_ends, plan_ends, local_ends, all_ends}
use Rattle.hv_init_layout.proofs.Traced.{StandsIn, trace_stands}

-- behind all locals there is nothing
past_all : (tree : Core) (n : ℕ) (ls : List Local) (root : ℕ) (fields : List ℕ) → length ls ≤ root → ranges tree n ls root fields ≡ ranges tree n ls (length ls) []
past_all tree n [] root fields h = refl
past_all tree n (l ∷ ls) zero fields h = absurd (omega (arith, h))
past_all tree n (l ∷ ls) (suc root) fields h = past_all tree (n + size (shape_by tree l.ty)) ls root fields (omega (arith, h))

module _ (s : Sizes) (l : Leaves) where
  -- the ends of a local among those that have cells
  abbrev EndsAt : ℕ → List ℕ → ℕ → Type 0
  EndsAt at fields n = Among (ends (range_by s l at fields)) n

  among_locals : (k at n : ℕ) → at < k → EndsAt at [] n → Among (local_ends s l k) n
  among_locals zero at n g h = absurd (omega (arith, g))
  among_locals (suc k) at n g h = by (cases_lt at k) (λ i. among_locals k at n i h)
    where
      by : (at < k) ⊎ (k ≤ at) → (at < k → Among (local_ends s l k) n) → Among (local_ends s l k ++ ends (range_by s l k [])) n
      by (inl i) before = in_left (local_ends s l k) (ends (range_by s l k [])) n (before i)
      by (inr i) before = in_right (local_ends s l k) (ends (range_by s l k [])) n (subst (λ (r : ℕ). EndsAt r [] n) (omega (arith, i, g)) h)

  module _ (tracks : ℕ → Bool) where
    -- ---- plans

    ends-append : (os ps : List FlowOp) → plan_ends s l tracks (os ++ ps) ≡ plan_ends s l tracks os ++ plan_ends s l tracks ps
    ends-append [] ps = refl
    ends-append (o ∷ os) ps =
        ap (λ ns. word_ends s l tracks o ++ ns) (ends-append os ps) ∙ sym (append_assoc (word_ends s l tracks o) (plan_ends s l tracks os) (plan_ends s l tracks ps))

    in_first : (os ps : List FlowOp) (n : ℕ) → Among (plan_ends s l tracks os) n → Among (plan_ends s l tracks (os ++ ps)) n
    in_first os ps n h = subst (λ ns. Among ns n) (sym (ends-append os ps)) (in_left (plan_ends s l tracks os) (plan_ends s l tracks ps) n h)

    in_second : (os ps : List FlowOp) (n : ℕ) → Among (plan_ends s l tracks ps) n → Among (plan_ends s l tracks (os ++ ps)) n
    in_second os ps n h = subst (λ ns. Among ns n) (sym (ends-append os ps)) (in_right (plan_ends s l tracks os) (plan_ends s l tracks ps) n h)

    -- an event of the flow has its ends among those of its plan
    planned : (f : Events) (m : Mark) (n : ℕ) → StandsIn f m → Among (event_ends s l tracks m.event) n → Among (plan_ends s l tracks (plan_of f)) n
    planned Skip m n i h = absurd i
    planned (Do k) m n i h = in_left (event_ends s l tracks k.event) [] n (subst (λ (z : Mark). Among (event_ends s l tracks z.event) n) (sym i) h)
    planned (Stop k) m n i h = in_left (event_ends s l tracks k.event) [] n (subst (λ (z : Mark). Among (event_ends s l tracks z.event) n) (sym i) h)
    planned (Then a b) m n (inl i) h = in_first (plan_of a) (plan_of b) n (planned a m n i h)
    planned (Then a b) m n (inr i) h = in_second (plan_of a) (plan_of b) n (planned b m n i h)
    planned (Either a b) m n (inl i) h = in_first (plan_of a) (plan_of b) n (planned a m n i h)
    planned (Either a b) m n (inr i) h = in_second (plan_of a) (plan_of b) n (planned b m n i h)
    planned (Loop a) m n i h = planned a m n i h

    -- ---- events

    abbrev Ends : ℕ → List ℕ → ℕ → Type 0
    Ends root fields n = EndsAt (kept_before tracks root) fields n

    of_path : (p : StaticPath) (root : ℕ) (fields : List ℕ) (n : ℕ) → tracks root ≡ true → IsOf p root fields → Ends root fields n → Among (path_ends s l tracks p) n
    of_path p root fields n t i h =
        subst (λ (ns : List ℕ). Among ns n) (sym (ap (λ (b : Bool). if b then ends (range_by s l (kept_before tracks p.root) (fields_of p.steps)) else []) (ap tracks i.0 ∙ t)))
        (subst (λ (r : ℕ). Ends r (fields_of p.steps) n) (sym i.0) (subst (λ (fs : List ℕ). Ends root fs n) (sym i.1) h))

    -- an event speaks of its path, or of a whole local
    spoken : (e : FlowEvent) (root : ℕ) (fields : List ℕ) (n : ℕ) → tracks root ≡ true → SpeaksOf e root fields → Ends root fields n → Among (event_ends s l tracks e) n ⊎ ([] ≡ fields)
    spoken event.Entry root fields n t i h = absurd i
    spoken (event.Declare k) root fields n t i h = inr i.1
    spoken (event.Init p) root fields n t i h = inl (of_path p root fields n t i h)
    spoken (event.Use p) root fields n t i h = inl (of_path p root fields n t i h)
    spoken (event.Move p) root fields n t i h = inl (of_path p root fields n t i h)
    spoken (event.OpenRead p) root fields n t i h = inl (of_path p root fields n t i h)
    spoken (event.OpenWrite p) root fields n t i h = inl (of_path p root fields n t i h)
    spoken (event.OpenSet p) root fields n t i h = inl (of_path p root fields n t i h)
    spoken event.Close root fields n t i h = absurd i
    spoken (event.Spawn k) root fields n t i h = absurd i
    spoken (event.Await k) root fields n t i h = absurd i
    spoken event.Return root fields n t i h = absurd i
    spoken (event.ScopeEnd k) root fields n t i h = absurd i

    named : (m : Mark) (root : ℕ) (fields : List ℕ) (n : ℕ) → tracks root ≡ true → Names m root fields → Ends root fields n → Among (event_ends s l tracks m.event) n ⊎ ([] ≡ fields)
    named m root fields n t (inl i) h = spoken m.event root fields n t i h
    named m root fields n t (inr i) h = inr i.1

    -- ---- locals

    module _ (tree : Core) (body : CoreBody) (hs : AreSizesOf tree s) (hl : AreLeavesOf tree (kept tracks (locals_of body)) l) where
      abbrev count : ℕ
      count = length (kept tracks (locals_of body))

      pub is_range : (at : ℕ) (fields : List ℕ) → range_by s l at fields ≡ ranges tree 1 (kept tracks (locals_of body)) at fields
      is_range at fields = range_is tree (kept tracks (locals_of body)) s l hs hl at fields

      behind_all : (at : ℕ) → count ≤ at → range_by s l at [] ≡ range_by s l count []
      behind_all at h = is_range at [] ∙ (past_all tree 1 (kept tracks (locals_of body)) at [] h ∙ sym (is_range count []))

      pub local_found : (at n : ℕ) → EndsAt at [] n → Among (local_ends s l (suc count)) n
      local_found at n h = by (cases_lt at count)
        where
          by : (at < count) ⊎ (count ≤ at) → Among (local_ends s l (suc count)) n
          by (inl i) = among_locals (suc count) at n (omega (arith, i)) h
          by (inr i) = among_locals (suc count) count n (omega arith) (subst (λ r. Among (ends r) n) (behind_all at i) h)

      -- what occurs of a local that has cells
      pub found : (root : ℕ) (fields : List ℕ) → Occurs tree body root fields → tracks root ≡ true → (n : ℕ) → Ends root fields n → Among (all_ends s l tracks count (plan_of_body tree body)) n
      found root fields (before, last, trace, names) t n h = by (named last root fields n t names h)
        where
          stands : StandsIn (body_events tree body) last
          stands = trace_stands last (body_events tree body) (before ++ last ∷ []) trace (in_right before (last ∷ []) last (inl refl))

          by : Among (event_ends s l tracks last.event) n ⊎ ([] ≡ fields) → Among (all_ends s l tracks count (plan_of_body tree body)) n
          by (inl i) = in_right (local_ends s l (suc count)) (plan_ends s l tracks (plan_of_body tree body)) n (planned (entered (end_of body.block) (body_events tree body)) last n (inr stands) i)
          by (inr e) = in_left (local_ends s l (suc count)) (plan_ends s l tracks (plan_of_body tree body)) n (local_found (kept_before tracks root) n (subst (λ (fs : List ℕ). Ends root fs n) (sym e) h))
