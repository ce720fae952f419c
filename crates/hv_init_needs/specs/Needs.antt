-- Which locals need a state, since some event may find them without a value.
use Rattle.std.specs.Prelude.{ℕ, ◌==◌, Bool, false, not, ◌&&◌, ◌||◌, List, [], ◌∷◌, map, Option, Some, None}
use Rattle.std.specs.List.{list_any}
use Rattle.hv_tree.specs.Core.{Core}
use Rattle.hv_decls.specs.declared.path.StaticStep.{StaticStep}
use Rattle.hv_decls.specs.declared.path.StaticPath.{StaticPath}
use Rattle.hv_rules.specs.declared.event.FlowEvent.{FlowEvent}
use Rattle.hv_rules.specs.declared.event.FlowEvent.TheVariants as event
use Rattle.hv_decls.specs.Locals.{CoreBody}
use Rattle.hv_decls.specs.Paths.{has_index}
use Rattle.hv_rules.specs.Rules.{asks_whole}
use Rattle.hv_init_needs.specs.Sight.{Seen, seen_at, seen_in, text_of}

-- ---- what is in sight

abbrev pub is_in : List ℕ → ℕ → Bool
is_in ks k = list_any (λ n. n == k) ks

-- ---- one event

-- the whole of the local gets a value
abbrev pub is_whole : List StaticStep → ℕ → ℕ → Bool
is_whole [] n k = n == k
is_whole (s ∷ steps) n k = false

abbrev pub gives_to : Option ℕ → StaticPath → ℕ → Bool
gives_to None p k = false
gives_to (Some n) p k = is_whole p.steps p.root k

-- the local's declaration gives it a value
abbrev pub gives : FlowEvent → Option ℕ → ℕ → Bool
gives event.Entry of k = false
gives (event.Declare n) of k = false
gives (event.Init p) of k = gives_to of p k
gives (event.Use p) of k = false
gives (event.Move p) of k = false
gives (event.OpenRead p) of k = false
gives (event.OpenWrite p) of k = false
gives (event.OpenSet p) of k = false
gives event.Close of k = false
gives (event.Spawn h) of k = false
gives (event.Await h) of k = false
gives event.Return of k = false
gives (event.ScopeEnd n) of k = false

abbrev pub takes_from : StaticPath → ℕ → Bool
takes_from p k = (p.root == k) && not (has_index p.steps)

-- the event takes the value of the local, or of a part of it
abbrev pub empties : FlowEvent → ℕ → Bool
empties event.Entry k = false
empties (event.Declare n) k = false
empties (event.Init p) k = false
empties (event.Use p) k = false
empties (event.Move p) k = takes_from p k
empties (event.OpenRead p) k = false
empties (event.OpenWrite p) k = false
empties (event.OpenSet p) k = takes_from p k
empties event.Close k = false
empties (event.Spawn h) k = false
empties (event.Await h) k = false
empties event.Return k = false
empties (event.ScopeEnd n) k = false

abbrev pub is_root : Option StaticPath → ℕ → Bool
is_root None k = false
is_root (Some p) k = p.root == k

-- the event asks for the value of the local, or of a part of it
abbrev pub asks_for : FlowEvent → ℕ → Bool
asks_for e k = is_root (asks_whole e) k

-- ---- the text of a body

abbrev pub gives_at : ℕ → Seen → Bool
gives_at k s = gives s.event s.declaration k

-- it empties the local, or asks for it where it isn't in sight
abbrev pub unsettles : ℕ → Seen → Bool
unsettles k s = empties s.event k || (asks_for s.event k && not (is_in s.sight k))

-- a local needs a state unless its declaration gives it a value, and no event unsettles it
abbrev pub needs_state_in : List Seen → ℕ → Bool
needs_state_in text k = not (list_any (gives_at k) text) || list_any (unsettles k) text

abbrev pub text_in : Core → CoreBody → List Seen
text_in tree body = map seen_at (text_of (seen_in tree body))

abbrev pub needs_state : Core → CoreBody → ℕ → Bool
needs_state tree body k = needs_state_in (text_in tree body) k
