-- The first violation phase by phase, and the trees that are accepted.
use Rattle.std.specs.Prelude.{◌≡◌, ◌≢◌, ◌⊎◌, List, [], ◌∷◌, Option, Some, None}
use Rattle.hv_tree.specs.declared.place.Place.{Place}
use Rattle.hv_tree.specs.declared.refusal.Rule.{Rule}
use Rattle.hv_tree.specs.declared.refusal.Rule.TheVariants as rule
use Rattle.hv_tree.specs.declared.refusal.Refusal.{Refusal}
use Rattle.hv_tree.specs.declared.ast.Tree.{Tree}
use Rattle.hv_tree.specs.Tokens.{Tokens}
use Rattle.hv_tree.specs.Grammar.{Spells}
use Rattle.hv_tree.specs.Core.{Core, core_tree}
use Rattle.hv_tree.specs.Earlier.{IsFirst}
use Rattle.hv_type_rules.specs.Names.{IsViolatedByNames}
use Rattle.hv_type_rules.specs.TypeRules.{IsViolatedByTypes}
use Rattle.hv_rules.specs.Rules.{IsViolatedByEvents}

-- the rules in the order in which they are judged
pub data Phase : Type 0 where
  NamePhase : Phase
  TypePhase : Phase
  InitPhase : Phase
  AccessPhase : Phase
  HandlePhase : Phase

-- the phase in which a rule is judged; rules of tokens and of the grammar are judged before there is a tree
abbrev pub phase_of : Rule → Option Phase
phase_of rule.L0 = None
phase_of rule.L1 = None
phase_of rule.L2 = None
phase_of rule.L3 = None
phase_of rule.P1 = None
phase_of rule.P2 = None
phase_of rule.N1 = Some NamePhase
phase_of rule.N2 = Some NamePhase
phase_of rule.N3 = Some NamePhase
phase_of rule.T1 = Some TypePhase
phase_of rule.T2 = Some TypePhase
phase_of rule.T3 = Some TypePhase
phase_of rule.T4 = Some TypePhase
phase_of rule.T5 = Some TypePhase
phase_of rule.T6 = Some TypePhase
phase_of rule.T7 = Some TypePhase
phase_of rule.T8 = Some TypePhase
phase_of rule.T9 = Some TypePhase
phase_of rule.I1 = Some InitPhase
phase_of rule.I2 = Some InitPhase
phase_of rule.I3 = Some InitPhase
phase_of rule.X1 = Some AccessPhase
phase_of rule.X2 = Some AccessPhase
phase_of rule.S1 = Some HandlePhase
phase_of rule.S2 = Some HandlePhase
phase_of rule.S3 = Some HandlePhase

-- the tree violates the rule there
abbrev pub IsViolated : Core → Rule → Place → Type 0
IsViolated tree r place = IsViolatedByNames tree r place ⊎ IsViolatedByTypes tree r place ⊎ IsViolatedByEvents tree r place

-- the tree violates the rule there, and the rule belongs to the phase
abbrev pub IsViolatedInPhase : Phase → Core → Refusal → Type 0
IsViolatedInPhase phase tree r = (phase_of r.rule ≡ Some phase) × IsViolated tree r.rule r.place

-- the first violation of the first phase that has one, or none where none has
abbrev pub IsFirstOf : List Phase → Core → Option Refusal → Type 0
IsFirstOf [] tree v = v ≡ None
IsFirstOf (phase ∷ phases) tree v =
    ((v ≢ None) × IsFirst (IsViolatedInPhase phase tree) v) ⊎ (IsFirst (IsViolatedInPhase phase tree) None × IsFirstOf phases tree v)

-- some tokens spell the tree, and it violates no rule
pub record IsAccepted (tree : Tree) : Type 0 where
  pub tokens : Tokens
  pub spelled : Spells tree tokens
  pub obeys : (r : Rule) (place : Place) → IsViolated (core_tree tree) r place → ⊥
