-- The entry of a body stands at its first node and nowhere else.
use Rattle.std.proofs.Common.{◌≡◌, inl, inr, ℕ, ◌+◌, List, [], refl, sym, ◌∙◌, ap, subst, arith}
use Rattle.hv_tree.specs.declared.place.Place.{Place}
use Rattle.hv_rules.specs.declared.event.FlowEvent.TheVariants as event
use Rattle.hv_rules.specs.Flow.{Skip, Do, Stop, Then, Either, Loop}
use Rattle.hv_rules.specs.Events.{Events}
use Rattle.hv_flow_plan.specs.declared.plan.FlowOp.{FlowOp}
use Rattle.hv_flow_plan.specs.Spelling.{entered, plan_of}
use Rattle.hv_flow.specs.declared.nodes.Node.{Node}
use Rattle.hv_flow.specs.Acts.{Act, acts_of}
use Rattle.hv_flow.specs.Graphs.{built}
use Rattle.hv_flow.specs.Positions.{places, At}
use Rattle.hv_flow.specs.Reading.{read_all}
use Rattle.hv_flow.specs.Walks.{EntersNowhere, EntersOnce}
use Rattle.hv_flow.proofs.Ranges.{at_in}
use Rattle.hv_flow.proofs.Ends.{act_from, none_old}
use Rattle.hv_flow.proofs.ReadingLemmas.{read_plan}

at_not : (k : ℕ) (f : Events) → EntersNowhere f → (i : ℕ) (e : Act) → At k (acts_of f) i e → e.event ≡ event.Entry → ⊥
at_not k Skip p i e h q = h
at_not k (Do m) p i e h q = p (sym (ap (λ (a : Act). a.event) h.1) ∙ q)
at_not k (Stop m) p i e h q = p (sym (ap (λ (a : Act). a.event) h.1) ∙ q)
at_not k (Then a b) p i e (inl h) q = at_not k a p.0 i e h q
at_not k (Then a b) p i e (inr h) q = at_not (k + places (acts_of a)) b p.1 i e h q
at_not k (Either a b) p i e (inl h) q = at_not k a p.0 i e h q
at_not k (Either a b) p i e (inr h) q = at_not (k + places (acts_of a)) b p.1 i e h q
at_not k (Loop a) p i e h q = at_not k a p i e h q

module _ (at : Place) (f : Events) (p : EntersNowhere f) where
  abbrev all : List Node
  all = (built (acts_of (entered at f)) []).nodes

  only_first : (i : ℕ) (e : Act) → At 0 (acts_of (entered at f)) i e → e.event ≡ event.Entry → i ≡ 0
  only_first i e (inl h) q = h.0
  only_first i e (inr h) q = absurd (at_not 1 f p i e h q)

  is_first : (i : ℕ) (e : Act) → At 0 (acts_of (entered at f)) i e → i ≡ 0 → e.event ≡ event.Entry
  is_first i e (inl h) q = ap (λ (a : Act). a.event) h.1
  is_first i e (inr h) q = let r = at_in 1 (acts_of f) i e h in absurd (omega (arith, r.low, q))

  enters : EntersOnce all
  enters i e h =
      let here = none_old (act_from (acts_of (entered at f)) [] 0 i e refl h) in
      (only_first i e here, is_first i e here)

pub plan_enters : (at : Place) (f : Events) (plan : List FlowOp) (ns : List Node) → ns ≡ read_all plan [] [] → plan ≡ plan_of (entered at f) → EntersNowhere f → EntersOnce ns
plan_enters at f plan ns e q p = subst (λ (l : List Node). EntersOnce l) (sym (e ∙ ap (λ w. read_all w [] []) q ∙ read_plan (entered at f))) (enters at f p)
