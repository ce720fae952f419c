-- The violations of the rules on accesses, body by body.
use Rattle.std.specs.Prelude.{◌≡◌, ◌⊎◌, List, [], ◌∷◌, Some}
use Rattle.hv_tree.specs.declared.refusal.Refusal.{Refusal}
use Rattle.hv_tree.specs.Core.{Core}
use Rattle.hv_decls.specs.Locals.{CoreBody}
use Rattle.hv_rules.specs.Rules.{IsViolatedIn}
use Rattle.hv_rules.specs.Accepted.{AccessPhase, phase_of}
use Rattle.hv_flow_plan.specs.declared.body.Planned.{Planned}
use Rattle.hv_flow_plan.specs.Planned.{planned_by}
use Rattle.hv_flow_plan.specs.Spelling.{plan_of_body}

-- some trace of the body violates the rule there, which is one on accesses
abbrev pub IsViolatedBy : Core → CoreBody → Refusal → Type 0
IsViolatedBy tree body r = (phase_of r.rule ≡ Some AccessPhase) × IsViolatedIn tree body r.rule r.place

-- the plan is that of the body
abbrev pub IsPlanned : Core → Planned → Type 0
IsPlanned tree p = (planned_by p).1 ≡ plan_of_body tree (planned_by p).0

-- each plan is that of its body
abbrev pub ArePlanned : Core → List Planned → Type 0
ArePlanned tree [] = Unit {0}
ArePlanned tree (p ∷ ps) = IsPlanned tree p × ArePlanned tree ps

-- one of the bodies violates the rule there
abbrev pub IsViolatedAmong : Core → List Planned → Refusal → Type 0
IsViolatedAmong tree [] r = ⊥
IsViolatedAmong tree (p ∷ ps) r = IsViolatedBy tree (planned_by p).0 r ⊎ IsViolatedAmong tree ps r
