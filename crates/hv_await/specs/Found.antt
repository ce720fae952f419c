-- What is found in bodies.
use Rattle.std.specs.Prelude.{◌≡◌, ◌⊎◌, List, [], ◌∷◌, ◌++◌, Contains}
use Rattle.hv_tree.specs.declared.refusal.Rule.{Rule}
use Rattle.hv_tree.specs.declared.refusal.Rule.TheVariants as rule
use Rattle.hv_tree.specs.declared.refusal.Refusal.{Refusal}
use Rattle.hv_tree.specs.Core.{Core}
use Rattle.hv_tree.specs.Earlier.{NotAfter}
use Rattle.hv_decls.specs.Locals.{CoreBody}
use Rattle.hv_rules.specs.Rules.{IsViolatedIn}
use Rattle.hv_await.specs.Changing.{body_changes}

-- each of these is so, and none that is so is before all of them
abbrev pub Heads : (Refusal → Type 0) → List Refusal → Type 0
Heads Is rs = ((r : Refusal) → Contains rs r → Is r) × ((r : Refusal) → Is r → (first : Refusal) × Contains rs first × NotAfter first r)

-- such ones are added behind those that were there
abbrev pub Adds : (Refusal → Type 0) → List Refusal → List Refusal → Type 0
Adds Is was now = (more : List Refusal) × (now ≡ was ++ more) × Heads Is more

-- a violation of this rule in the body
abbrev pub InBody : Core → CoreBody → Rule → Refusal → Type 0
InBody tree body rule r = (r.rule ≡ rule) × IsViolatedIn tree body rule r.place

-- a violation of a rule on handles in the body
abbrev pub OfBody : Core → CoreBody → Refusal → Type 0
OfBody tree body r = InBody tree body rule.S1 r ⊎ (InBody tree body rule.S2 r ⊎ Contains (body_changes tree body) r)

-- a violation of a rule on handles in one of these bodies
abbrev pub OfBodies : Core → List CoreBody → Refusal → Type 0
OfBodies tree [] r = ⊥
OfBodies tree (b ∷ bs) r = OfBody tree b r ⊎ OfBodies tree bs r
