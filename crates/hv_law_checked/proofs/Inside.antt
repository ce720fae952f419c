-- The places that runs and refusals of a program name lie in its source.
use Rattle.std.proofs.Common.{◌≡◌, ◌⊎◌, inl, inr, ℕ, List, Option, Some, Contains, subst}
use Rattle.hv_tree.specs.declared.place.Place.{Place}
use Rattle.hv_tree.specs.declared.refusal.Refusal.{Refusal}
use Rattle.hv_tree.specs.declared.refusal.Rule.{Rule}
use Rattle.hv_tree.specs.declared.refusal.Rule.TheVariants.{N3}
use Rattle.hv_tree.specs.declared.ast.Tree.{Tree}
use Rattle.hv_tree.specs.Tokens.{Tokens}
use Rattle.hv_tree.specs.Grammar.{Spells}
use Rattle.hv_tree.specs.Core.{core_tree}
use Rattle.hv_type_rules.specs.Names.{IsViolatedByNames}
use Rattle.hv_type_rules.specs.TypeRules.{IsViolatedByTypes}
use Rattle.hv_rules.specs.Rules.{IsViolatedByEvents}
use Rattle.hv_token.specs.Lexes.{Lexes}
use Rattle.hv_sem_copying.specs.Node.{Node}
use Rattle.hv_sem_copying.specs.Meaning.{node_of}
use Rattle.hv_law_places.specs.Places.{IsIn}
use Rattle.hv_law_run_places.specs.NodePlaces.{in_node}
use Rattle.hv_law_places.specs.TokenPlaces.{IsAmong}
use Rattle.hv_law_places.specs.Ends.{EndApart}
use Rattle.hv_law_run_places.proofs.NodesTell.{nodes_tell}
use Rattle.hv_law_places.proofs.NamesTell.{names_tell_or_begin, types_tell}
use Rattle.hv_law_places.proofs.EventsTell.{events_tell}
use Rattle.hv_law_places.proofs.TreesSay.{places_said}
use Rattle.hv_law_places.proofs.EndsFit.{bodies_apart}
use Rattle.hv_law_checked.specs.Inside.{LiesIn}
use Rattle.hv_law_checked.proofs.Begins.{tokens_rise, tokens_begin}

module _ (bytes : List ℕ) (tokens : Tokens) (stop : Option Refusal) (tree : Tree) (lexed : Lexes bytes tokens stop) (spelled : Spells tree tokens) where
  of_token : (place : Place) → IsAmong place tokens → LiesIn bytes place
  of_token place h = subst (LiesIn bytes) h.2 (tokens_begin bytes tokens stop lexed h.0 h.1)

  pub places_inside : (place : Place) → IsIn place (core_tree tree) → LiesIn bytes place
  places_inside place h = of_token place (places_said tree tokens spelled place h)

  pub ends_apart : EndApart (core_tree tree)
  ends_apart = bodies_apart tree tokens spelled (tokens_rise bytes tokens stop lexed)

  pub nodes_inside : (budget : ℕ) (node : Node) → node_of (core_tree tree) budget ≡ Some node → (place : Place) → Contains (in_node node) place → LiesIn bytes place
  nodes_inside budget node e place h = places_inside place (nodes_tell (core_tree tree) budget node e place h)

  pub types_inside : (r : Rule) (place : Place) → IsViolatedByTypes (core_tree tree) r place → LiesIn bytes place
  types_inside r place v = places_inside place (types_tell (core_tree tree) r place v)

  pub events_inside : (r : Rule) (place : Place) → IsViolatedByEvents (core_tree tree) r place → LiesIn bytes place
  events_inside r place v = places_inside place (events_tell (core_tree tree) r place v)

  pub names_inside : (r : Rule) (place : Place) → IsViolatedByNames (core_tree tree) r place → LiesIn bytes place ⊎ ((r ≡ N3) × (place.start ≡ 0))
  names_inside r place v = by (names_tell_or_begin (core_tree tree) r place v)
    where
      by : IsIn place (core_tree tree) ⊎ ((r ≡ N3) × (place.start ≡ 0)) → LiesIn bytes place ⊎ ((r ≡ N3) × (place.start ≡ 0))
      by (inl i) = inl (places_inside place i)
      by (inr e) = inr e
