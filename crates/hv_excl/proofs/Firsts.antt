-- The first violation of a body, of several bodies and of a program.
use Rattle.std.proofs.Common.{◌≡◌, ◌⊎◌, inl, inr, ℕ, zero, suc, ◌+◌, ◌<◌, ◌≤◌, List, [], ◌∷◌, ◌++◌, length, get_or, take, map, Option, Some, None, Contains, refl, sym, ap, subst, ◌∙◌, arith}
use Rattle.std.proofs.lemmas.List.{take_more}
use Rattle.hv_tree.specs.declared.place.Place.{Place}
use Rattle.hv_tree.specs.declared.refusal.Refusal.{Refusal}
use Rattle.hv_tree.specs.declared.refusal.Rule.{Rule}
use Rattle.hv_tree.specs.declared.refusal.Rule.TheVariants as rule
use Rattle.hv_tree.specs.Core.{Core}
use Rattle.hv_rules.specs.Flow.{Flow, Do, Then}
use Rattle.hv_decls.specs.Locals.{CoreBody}
use Rattle.hv_decls.specs.Sites.{bodies_of}
use Rattle.hv_type_rules.specs.Names.{IsViolatedByNames}
use Rattle.hv_type_rules.specs.TypeRules.{IsViolatedByTypes, at_part, at_struct}
use Rattle.hv_rules.specs.Rules.{IsViolatedIn, in_body, at_task}
use Rattle.hv_rules.specs.Accepted.{AccessPhase, IsViolated, IsViolatedInPhase}
use Rattle.hv_tree.specs.Earlier.{number_of, NotAfter, IsEarlier, IsFirst}
use Rattle.hv_flow_plan.specs.declared.plan.FlowOp.{FlowOp}
use Rattle.hv_flow_plan.specs.declared.body.Planned.{Planned}
use Rattle.hv_flow_plan.specs.Planned.{planned_by, planned, all_planned}
use Rattle.hv_flow_plan.specs.Spelling.{plan_of_body}
use Rattle.hv_flow_pass.specs.declared.act.Act.{Act}
use Rattle.hv_flow_pass.specs.declared.plan.PassOp.{PassOp}
use Rattle.hv_flow_pass.specs.Plans as passes
use Rattle.hv_flow_pass.specs.Refused.{IsRefused}
use Rattle.hv_flow_pass.proofs.Firsts.{same_first}
use Rattle.hv_excl.specs.Violations.{IsViolatedBy, IsPlanned, ArePlanned, IsViolatedAmong}
use Rattle.hv_excl.specs.Judged.{judged}
use Rattle.hv_excl.proofs.Clashing.{among, among_first, among_others, among_none}
use Rattle.hv_excl.proofs.Refusing.{refusing, refused_to, violated_by, refused_behind, refused_without, access_rule}
use Rattle.hv_excl.proofs.Judging.{body_judged}

-- ---- the first of two

trans_by : (a b c l m n : ℕ) → (a < b) ⊎ ((a ≡ b) × (l ≤ m)) → (b < c) ⊎ ((b ≡ c) × (m ≤ n)) → (a < c) ⊎ ((a ≡ c) × (l ≤ n))
trans_by a b c l m n (inl h) (inl g) = inl (omega (arith, h, g))
trans_by a b c l m n (inl h) (inr g) = inl (omega (arith, h, g.0))
trans_by a b c l m n (inr h) (inl g) = inl (omega (arith, h.0, g))
trans_by a b c l m n (inr h) (inr g) = inr (omega (arith, h.0, g.0), omega (arith, h.1, g.1))

not_after : (x y z : Refusal) → NotAfter x y → NotAfter y z → NotAfter x z
not_after x y z h g = trans_by x.place.start y.place.start z.place.start (number_of x.rule) (number_of y.rule) (number_of z.rule) h g

module _ (P S : Refusal → Type 0) where
  -- the first of both, whose own is before the other's first
  first_left : (x y : Refusal) → IsFirst P (Some x) → IsFirst S (Some y) → NotAfter x y → IsFirst (λ r. P r ⊎ S r) (Some x)
  first_left x y h g n = (inl h.0, by)
    where
      by : (r : Refusal) → P r ⊎ S r → NotAfter x r
      by r (inl p) = h.1 r p
      by r (inr p) = not_after x y r n (g.1 r p)

  first_right : (x y : Refusal) → IsFirst P (Some x) → IsFirst S (Some y) → NotAfter y x → IsFirst (λ r. P r ⊎ S r) (Some y)
  first_right x y h g n = (inr g.0, by)
    where
      by : (r : Refusal) → P r ⊎ S r → NotAfter y r
      by r (inl p) = not_after y x r n (h.1 r p)
      by r (inr p) = g.1 r p

  pub first_of : (v w u : Option Refusal) → IsFirst P v → IsFirst S w → IsEarlier v w u → IsFirst (λ r. P r ⊎ S r) u
  first_of None None u h g e = subst (λ (z : Option Refusal). IsFirst (λ r. P r ⊎ S r) z) (sym e) by
    where
      by : (r : Refusal) → P r ⊎ S r → ⊥
      by r (inl p) = h r p
      by r (inr p) = g r p
  first_of (Some x) None u h g e = subst (λ (z : Option Refusal). IsFirst (λ r. P r ⊎ S r) z) (sym e) (inl h.0, by)
    where
      by : (r : Refusal) → P r ⊎ S r → NotAfter x r
      by r (inl p) = h.1 r p
      by r (inr p) = absurd (g r p)
  first_of None (Some y) u h g e = subst (λ (z : Option Refusal). IsFirst (λ r. P r ⊎ S r) z) (sym e) (inr g.0, by)
    where
      by : (r : Refusal) → P r ⊎ S r → NotAfter y r
      by r (inl p) = absurd (h r p)
      by r (inr p) = g.1 r p
  first_of (Some x) (Some y) u h g (inl e) = subst (λ (z : Option Refusal). IsFirst (λ r. P r ⊎ S r) z) (sym e.0) (first_left x y h g e.1)
  first_of (Some x) (Some y) u h g (inr e) = subst (λ (z : Option Refusal). IsFirst (λ r. P r ⊎ S r) z) (sym e.0) (first_right x y h g e.1)

-- ---- a body

pub body_first : (tree : Core) (p : Planned) (acts : List PassOp) (v : Option Refusal) → IsPlanned tree p → acts ≡ judged None [] p.plan →
    ((f : Flow (List Act)) → acts ≡ passes.plan_of f → IsFirst (IsRefused f) v) → IsFirst (IsViolatedBy tree (planned_by p).0) v
body_first tree p acts v h e first =
    let body = (planned_by p).0 in
    same_first (IsRefused (Then (Do []) (refusing tree body))) (IsViolatedBy tree body) v
    (λ r q. violated_by tree body r (refused_without (refusing tree body) r q))
    (λ r q. refused_behind (refusing tree body) r (refused_to tree body r q))
    (first (Then (Do []) (refusing tree body)) (e ∙ (ap (judged None []) h ∙ body_judged tree body)))

-- ---- several bodies

pub none_among : (tree : Core) → IsFirst (IsViolatedAmong tree []) None
none_among tree = λ r h. h

-- one body more
pub more_among : (tree : Core) (p : Planned) (ps : List Planned) (v w u : Option Refusal) → IsFirst (IsViolatedAmong tree ps) v → IsFirst (IsViolatedBy tree (planned_by p).0) w → IsEarlier v w u → IsFirst (IsViolatedAmong tree (ps ++ p ∷ [])) u
more_among tree p ps v w u h g e =
    same_first (λ r. IsViolatedAmong tree ps r ⊎ IsViolatedBy tree (planned_by p).0 r) (IsViolatedAmong tree (ps ++ p ∷ [])) u (to ps) (back ps) (first_of (IsViolatedAmong tree ps) (IsViolatedBy tree (planned_by p).0) v w u h g e)
  where
    to : (qs : List Planned) (r : Refusal) → IsViolatedAmong tree qs r ⊎ IsViolatedBy tree (planned_by p).0 r → IsViolatedAmong tree (qs ++ p ∷ []) r
    to [] r (inl q) = absurd q
    to [] r (inr q) = inl q
    to (x ∷ qs) r (inl (inl q)) = inl q
    to (x ∷ qs) r (inl (inr q)) = inr (to qs r (inl q))
    to (x ∷ qs) r (inr q) = inr (to qs r (inr q))

    back : (qs : List Planned) (r : Refusal) → IsViolatedAmong tree (qs ++ p ∷ []) r → IsViolatedAmong tree qs r ⊎ IsViolatedBy tree (planned_by p).0 r
    back [] r (inl q) = inr q
    back [] r (inr q) = absurd q
    back (x ∷ qs) r (inl q) = inl (inl q)
    back (x ∷ qs) r (inr q) = before x qs r (back qs r q)
      where
        before : (x : Planned) (qs : List Planned) (r : Refusal) → IsViolatedAmong tree qs r ⊎ IsViolatedBy tree (planned_by p).0 r → IsViolatedAmong tree (x ∷ qs) r ⊎ IsViolatedBy tree (planned_by p).0 r
        before x qs r (inl h) = inl (inr h)
        before x qs r (inr h) = inr h

planned_at : (tree : Core) (ps : List Planned) (i : ℕ) (p : Planned) → i < length ps → p ≡ get_or ps i p → ArePlanned tree ps → IsPlanned tree p
planned_at tree [] i p l e h = absurd (omega (arith, l))
planned_at tree (x ∷ ps) zero p l e h = subst (λ (z : Planned). IsPlanned tree z) (sym e) h.0
planned_at tree (x ∷ ps) (suc i) p l e h = planned_at tree ps i p (omega (arith, l)) e h.1

-- the first of the front of a list, and one body more
pub turn : (tree : Core) (ps : List Planned) (i : ℕ) (p : Planned) (v w u : Option Refusal) → i < length ps → p ≡ get_or ps i p →
    (ArePlanned tree ps → IsFirst (IsViolatedAmong tree (take i ps)) v) → (IsPlanned tree p → IsFirst (IsViolatedBy tree (planned_by p).0) w) → IsEarlier v w u →
    ArePlanned tree ps → IsFirst (IsViolatedAmong tree (take (i + 1) ps)) u
turn tree ps i p v w u l e h g f a =
    subst (λ (z : List Planned). IsFirst (IsViolatedAmong tree z) u) (sym (take_more ps i p l ∙ ap (λ (z : Planned). take i ps ++ z ∷ []) (sym e)))
    (more_among tree p (take i ps) v w u (h a) (g (planned_at tree ps i p l e a)) f)

-- the front is all of it
pub all_turns : (tree : Core) (ps : List Planned) (i : ℕ) (v : Option Refusal) → length ps ≤ i → IsFirst (IsViolatedAmong tree (take i ps)) v → IsFirst (IsViolatedAmong tree ps) v
all_turns tree ps i v l h = subst (λ (z : List Planned). IsFirst (IsViolatedAmong tree z) v) (all_taken ps i l) h
  where
    all_taken : (xs : List Planned) (k : ℕ) → length xs ≤ k → take k xs ≡ xs
    all_taken [] zero h = refl
    all_taken [] (suc k) h = refl
    all_taken (x ∷ xs) zero h = absurd (omega (arith, h))
    all_taken (x ∷ xs) (suc k) h = ap (λ (l : List Planned). x ∷ l) (all_taken xs k (omega (arith, h)))

-- ---- a program

module _ (tree : Core) where
  plan_same : (p : Planned) (b : CoreBody) → planned_by p ≡ planned tree b → IsPlanned tree p
  plan_same p b e = ap (λ (q : CoreBody × List FlowOp). q.1) e ∙ ap (plan_of_body tree) (sym (ap (λ (q : CoreBody × List FlowOp). q.0) e))

  -- the plans of these bodies
  pub are_planned : (ps : List Planned) (bodies : List CoreBody) → map planned_by ps ≡ map (planned tree) bodies → ArePlanned tree ps
  are_planned [] bodies e = tt
  are_planned (p ∷ ps) [] e = cc
  are_planned (p ∷ ps) (b ∷ bodies) e = (plan_same p b (cc), are_planned ps bodies (cc))

  among_to : (ps : List Planned) (bodies : List CoreBody) (r : Refusal) → map planned_by ps ≡ map (planned tree) bodies → IsViolatedAmong tree ps r → (b : CoreBody) × Contains bodies b × IsViolatedBy tree b r
  among_to [] bodies r e h = absurd h
  among_to (p ∷ ps) [] r e h = cc
  among_to (p ∷ ps) (b ∷ bodies) r e (inl h) =
      let f : planned_by p ≡ planned tree b = cc in
      (b, among_first b bodies b refl, subst (λ (z : CoreBody). IsViolatedBy tree z r) (ap (λ (q : CoreBody × List FlowOp). q.0) f) h)
  among_to (p ∷ ps) (b ∷ bodies) r e (inr h) = let w = among_to ps bodies r (cc) h in (w.0, among_others b bodies w.0 w.1, w.2)

  among_of : (ps : List Planned) (bodies : List CoreBody) (r : Refusal) → map planned_by ps ≡ map (planned tree) bodies → (b : CoreBody) → Contains bodies b → IsViolatedBy tree b r → IsViolatedAmong tree ps r
  among_of ps [] r e b c h = absurd (among_none b c)
  among_of [] (x ∷ bodies) r e b c h = cc
  among_of (p ∷ ps) (x ∷ bodies) r e b c h = by (among x bodies b c) (λ d. among_of ps bodies r (cc) b d h)
    where
      by : (x ≡ b) ⊎ Contains bodies b → (Contains bodies b → IsViolatedAmong tree ps r) → IsViolatedAmong tree (p ∷ ps) r
      by (inl f) k =
          let g : planned_by p ≡ planned tree x = cc in
          inl (subst (λ (z : CoreBody). IsViolatedBy tree z r) (sym (ap (λ (q : CoreBody × List FlowOp). q.0) g ∙ f)) h)
      by (inr d) k = inr (k d)

  -- a rule on accesses is violated in bodies alone
  by_events : (k : Rule) (place : Place) → (k ≡ rule.X1) ⊎ (k ≡ rule.X2) → IsViolated tree k place → (b : CoreBody) × Contains (bodies_of tree) b × IsViolatedIn tree b k place
  by_events k place a (inl h) = absurd (no_name a h)
    where
      no_name : (k ≡ rule.X1) ⊎ (k ≡ rule.X2) → IsViolatedByNames tree k place → ⊥
      no_name (inl e) h = subst (λ (z : Rule). IsViolatedByNames tree z place) e h
      no_name (inr e) h = subst (λ (z : Rule). IsViolatedByNames tree z place) e h
  by_events k place a (inr (inl h)) = absurd (no_type a h)
    where
      first : IsViolatedByTypes tree rule.X1 place → ⊥
      first (at_part w c v) = v
      first (at_struct e v) = cc

      second : IsViolatedByTypes tree rule.X2 place → ⊥
      second (at_part w c v) = v
      second (at_struct e v) = cc

      no_type : (k ≡ rule.X1) ⊎ (k ≡ rule.X2) → IsViolatedByTypes tree k place → ⊥
      no_type (inl e) h = first (subst (λ (z : Rule). IsViolatedByTypes tree z place) e h)
      no_type (inr e) h = second (subst (λ (z : Rule). IsViolatedByTypes tree z place) e h)
  by_events k place a (inr (inr (in_body b c v))) = (b, c, v)
  by_events k place (inl f) (inr (inr (at_task w e c v))) = cc
  by_events k place (inr f) (inr (inr (at_task w e c v))) = cc

  phase_to : (r : Refusal) → IsViolatedInPhase AccessPhase tree r → (b : CoreBody) × Contains (bodies_of tree) b × IsViolatedBy tree b r
  phase_to r (phase, v) = let w = by_events r.rule r.place (access_rule r.rule phase) v in (w.0, w.1, (phase, w.2))

  pub program_first : (ps : List Planned) (v : Option Refusal) → map planned_by ps ≡ all_planned tree → IsFirst (IsViolatedAmong tree ps) v → IsFirst (IsViolatedInPhase AccessPhase tree) v
  program_first ps v e first =
      same_first (IsViolatedAmong tree ps) (IsViolatedInPhase AccessPhase tree) v
      (λ r h. let w = among_to ps (bodies_of tree) r e h in (w.2.0, inr (inr (in_body w.0 w.1 w.2.1))))
      (λ r h. let w = phase_to r h in among_of ps (bodies_of tree) r e w.0 w.1 w.2) first

  pub program_of : (all ps : List Planned) (v : Option Refusal) → ps ≡ all → map planned_by all ≡ all_planned tree → (ArePlanned tree ps → IsFirst (IsViolatedAmong tree ps) v) → IsFirst (IsViolatedInPhase AccessPhase tree) v
  program_of all ps v e h first = let f = ap (map planned_by) e ∙ h in program_first ps v f (first (are_planned ps (bodies_of tree) f))
