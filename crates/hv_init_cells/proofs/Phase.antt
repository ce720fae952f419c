-- A program violates a rule on initialisation where one of its bodies does.
use Rattle.std.proofs.Common.{◌≡◌, inl, inr, List, [], ◌∷◌, Option, Some, refl, sym, subst}
use Rattle.hv_tree.specs.declared.place.Place.{Place}
use Rattle.hv_tree.specs.declared.refusal.Refusal.{Refusal}
use Rattle.hv_tree.specs.declared.refusal.Rule.{Rule}
use Rattle.hv_tree.specs.declared.refusal.Rule.TheVariants as rule
use Rattle.hv_tree.specs.Core.{Core}
use Rattle.hv_decls.specs.Locals.{CoreBody}
use Rattle.hv_decls.specs.Sites.{bodies_of}
use Rattle.hv_tree.specs.Earlier.{IsFirst}
use Rattle.hv_rules.specs.Rules.{IsViolatedIn, in_body, at_task}
use Rattle.hv_type_rules.specs.TypeRules.{at_part, at_struct}
use Rattle.hv_rules.specs.Accepted.{InitPhase, phase_of, IsViolated, IsViolatedInPhase}
use Rattle.hv_lemmas.proofs.Members.{Among, listed, contained}
use Rattle.hv_flow_pass.proofs.Firsts.{same_first}
use Rattle.hv_init_cells.specs.Law.{IsViolatedBy, IsViolatedAmong}

module _ (tree : Core) where
  abbrev InSome : Rule → Place → Type 0
  InSome k place = (b : CoreBody) × Among (bodies_of tree) b × IsViolatedIn tree b k place

  in_some : (k : Rule) (place : Place) → phase_of k ≡ Some InitPhase → IsViolated tree k place → InSome k place
  in_some rule.I1 place e (inl h) = absurd h
  in_some rule.I1 place e (inr (inl (at_part w c v))) = absurd v
  in_some rule.I1 place e (inr (inl (at_struct f v))) = cc
  in_some rule.I1 place e (inr (inr (in_body b c v))) = (b, listed (bodies_of tree) b c, v)
  in_some rule.I1 place e (inr (inr (at_task w f c v))) = cc
  in_some rule.I2 place e (inl h) = absurd h
  in_some rule.I2 place e (inr (inl (at_part w c v))) = absurd v
  in_some rule.I2 place e (inr (inl (at_struct f v))) = cc
  in_some rule.I2 place e (inr (inr (in_body b c v))) = (b, listed (bodies_of tree) b c, v)
  in_some rule.I2 place e (inr (inr (at_task w f c v))) = cc
  in_some rule.I3 place e (inl h) = absurd h
  in_some rule.I3 place e (inr (inl (at_part w c v))) = absurd v
  in_some rule.I3 place e (inr (inl (at_struct f v))) = cc
  in_some rule.I3 place e (inr (inr (in_body b c v))) = (b, listed (bodies_of tree) b c, v)
  in_some rule.I3 place e (inr (inr (at_task w f c v))) = cc
  in_some _ place e h = cc

  among_to : (bs : List CoreBody) (b : CoreBody) (r : Refusal) → Among bs b → IsViolatedBy tree b r → IsViolatedAmong tree bs r
  among_to [] b r a h = absurd a
  among_to (c ∷ bs) b r (inl e) h = inl (subst (λ (z : CoreBody). IsViolatedBy tree z r) (sym e) h)
  among_to (c ∷ bs) b r (inr a) h = inr (among_to bs b r a h)

  among_of : (bs : List CoreBody) (r : Refusal) → IsViolatedAmong tree bs r → (b : CoreBody) × Among bs b × IsViolatedBy tree b r
  among_of [] r h = absurd h
  among_of (b ∷ bs) r (inl h) = (b, inl refl, h)
  among_of (b ∷ bs) r (inr h) = let t = among_of bs r h in (t.0, inr t.1, t.2)

  to_phase : (r : Refusal) → IsViolatedAmong tree (bodies_of tree) r → IsViolatedInPhase InitPhase tree r
  to_phase r h = let t = among_of (bodies_of tree) r h in let v = t.2 in (v.0, inr (inr (in_body t.0 (contained (bodies_of tree) t.0 t.1) v.1)))

  of_phase : (r : Refusal) → IsViolatedInPhase InitPhase tree r → IsViolatedAmong tree (bodies_of tree) r
  of_phase r (p, h) = let t = in_some r.rule r.place p h in among_to (bodies_of tree) t.0 r t.1 (p, t.2)

  pub program_first : (v : Option Refusal) → IsFirst (IsViolatedAmong tree (bodies_of tree)) v → IsFirst (IsViolatedInPhase InitPhase tree) v
  program_first v h = same_first (IsViolatedAmong tree (bodies_of tree)) (IsViolatedInPhase InitPhase tree) v to_phase of_phase h
