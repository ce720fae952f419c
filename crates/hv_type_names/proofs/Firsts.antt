-- The first of what is found is the first violation.
use Rattle.std.proofs.Common.{◌≡◌, ◌⊎◌, inl, inr, ◌+◌, ◌<◌, ◌≤◌, List, [], ◌∷◌, ◌++◌, Option, Some, None, Contains, refl, sym, ◌∙◌}
use Rattle.hv_tree.specs.declared.place.Place.{Place}
use Rattle.hv_tree.specs.declared.refusal.Rule.{Rule}
use Rattle.hv_tree.specs.declared.refusal.Rule.TheVariants as rule
use Rattle.hv_tree.specs.declared.refusal.Refusal.{Refusal}
use Rattle.hv_tree.specs.Core.{Core, CoreDecl}
use Rattle.hv_tree.specs.Earlier.{NotAfter, IsFirst}
use Rattle.hv_type_rules.specs.Names.{IsViolatedByNames}
use Rattle.hv_type_rules.specs.TypeRules.{IsViolatedByTypes, at_part, at_struct}
use Rattle.hv_rules.specs.Rules.{IsViolatedByEvents, in_body, at_task}
use Rattle.hv_rules.specs.Accepted.{NamePhase, phase_of, IsViolated, IsViolatedInPhase, IsFirstOf}
use Rattle.hv_type_names.specs.Found as spec
use Rattle.hv_lemmas.proofs.Members.{listed, contained}
use Rattle.hv_type_names.proofs.Soundness.{tree_of, Wrong, n1, n2, n3, all_sound}
use Rattle.hv_type_names.proofs.Wholeness.{Covered, all_whole}

-- ---- the phase of names

no_type : (decls : List CoreDecl) (r : Rule) (place : Place) → phase_of r ≡ Some NamePhase → IsViolatedByTypes (tree_of decls) r place → ⊥
no_type decls rule.N1 place e (at_part w c v) = v
no_type decls rule.N1 place e (at_struct f v) = cc
no_type decls rule.N2 place e (at_part w c v) = v
no_type decls rule.N2 place e (at_struct f v) = cc
no_type decls rule.N3 place e (at_part w c v) = v
no_type decls rule.N3 place e (at_struct f v) = cc
no_type decls rule.L0 place e h = cc
no_type decls rule.L1 place e h = cc
no_type decls rule.L2 place e h = cc
no_type decls rule.L3 place e h = cc
no_type decls rule.P1 place e h = cc
no_type decls rule.P2 place e h = cc
no_type decls rule.T1 place e h = cc
no_type decls rule.T2 place e h = cc
no_type decls rule.T3 place e h = cc
no_type decls rule.T4 place e h = cc
no_type decls rule.T5 place e h = cc
no_type decls rule.T6 place e h = cc
no_type decls rule.T7 place e h = cc
no_type decls rule.T8 place e h = cc
no_type decls rule.T9 place e h = cc
no_type decls rule.I1 place e h = cc
no_type decls rule.I2 place e h = cc
no_type decls rule.I3 place e h = cc
no_type decls rule.X1 place e h = cc
no_type decls rule.X2 place e h = cc
no_type decls rule.S1 place e h = cc
no_type decls rule.S2 place e h = cc
no_type decls rule.S3 place e h = cc

no_event : (decls : List CoreDecl) (r : Rule) (place : Place) → phase_of r ≡ Some NamePhase → IsViolatedByEvents (tree_of decls) r place → ⊥
no_event decls rule.N1 place e (in_body body c v) = v.violates
no_event decls rule.N1 place e (at_task w f c v) = cc
no_event decls rule.N2 place e (in_body body c v) = v.violates
no_event decls rule.N2 place e (at_task w f c v) = cc
no_event decls rule.N3 place e (in_body body c v) = v.violates
no_event decls rule.N3 place e (at_task w f c v) = cc
no_event decls rule.L0 place e h = cc
no_event decls rule.L1 place e h = cc
no_event decls rule.L2 place e h = cc
no_event decls rule.L3 place e h = cc
no_event decls rule.P1 place e h = cc
no_event decls rule.P2 place e h = cc
no_event decls rule.T1 place e h = cc
no_event decls rule.T2 place e h = cc
no_event decls rule.T3 place e h = cc
no_event decls rule.T4 place e h = cc
no_event decls rule.T5 place e h = cc
no_event decls rule.T6 place e h = cc
no_event decls rule.T7 place e h = cc
no_event decls rule.T8 place e h = cc
no_event decls rule.T9 place e h = cc
no_event decls rule.I1 place e h = cc
no_event decls rule.I2 place e h = cc
no_event decls rule.I3 place e h = cc
no_event decls rule.X1 place e h = cc
no_event decls rule.X2 place e h = cc
no_event decls rule.S1 place e h = cc
no_event decls rule.S2 place e h = cc
no_event decls rule.S3 place e h = cc

-- in the phase of names a violation is one of a rule of names
by_names : (decls : List CoreDecl) (r : Rule) (place : Place) → phase_of r ≡ Some NamePhase → IsViolated (tree_of decls) r place → IsViolatedByNames (tree_of decls) r place
by_names decls r place e (inl h) = h
by_names decls r place e (inr (inl h)) = absurd (no_type decls r place e h)
by_names decls r place e (inr (inr h)) = absurd (no_event decls r place e h)

-- ---- all

named : (tree : Core) (r : Refusal) (n : Rule) → n ≡ r.rule → phase_of n ≡ Some NamePhase → IsViolatedByNames tree n r.place → IsViolatedInPhase NamePhase tree r
named tree r n e f h = rw (← e) (f, inl h)

in_phase : (decls : List CoreDecl) (r : Refusal) → Wrong (tree_of decls) r → IsViolatedInPhase NamePhase (tree_of decls) r
in_phase decls r (n1 v e) = named (tree_of decls) r rule.N1 (sym e) refl v
in_phase decls r (n2 v e) = named (tree_of decls) r rule.N2 (sym e) refl v
in_phase decls r (n3 v e) = named (tree_of decls) r rule.N3 (sym e) refl v

-- a violation in the phase of names is found, if not at a place that is the same byte
covered : (decls : List CoreDecl) (r : Refusal) → IsViolatedInPhase NamePhase (tree_of decls) r → Covered decls r.rule r.place
covered decls r (e, h) = all_whole decls r.rule r.place (by_names decls r.rule r.place e h)

same_byte : (x r : Refusal) (at : Place) → at.start ≡ r.place.start → NotAfter x (spec.refusal r.rule at) → NotAfter x r
same_byte x r at e (inl h) = inl (rw (← e) h)
same_byte x r at e (inr (f, h)) = inr (f ∙ e, h)

pub names_first : (decls : List CoreDecl) (v : Option Refusal) → IsFirst (Contains (spec.all_found decls)) v → IsFirstOf (NamePhase ∷ []) (tree_of decls) v
names_first decls None none = inr (λ r h. let c = covered decls r h in none (spec.refusal r.rule c.at) (contained (spec.all_found decls) (spec.refusal r.rule c.at) c.found), refl)
names_first decls (Some x) (is, least) =
    inl (
      λ e. cc,
      (
        in_phase decls x (all_sound decls x (listed (spec.all_found decls) x is)),
        λ r h. let c = covered decls r h in same_byte x r c.at c.same (least (spec.refusal r.rule c.at) (contained (spec.all_found decls) (spec.refusal r.rule c.at) c.found)),
      ),
    )

pub found_first : (decls : List CoreDecl) (found : List Refusal) (v : Option Refusal) → found ≡ spec.all_found decls → IsFirst (Contains found) v → IsFirstOf (NamePhase ∷ []) (tree_of decls) v
found_first decls found v e h = names_first decls v (rw (← e) h)
