-- What the ends of a body belong to, in the order of the text.
use Rattle.std.specs.Prelude.{⊤, ◌≡◌, ◌↔◌, ℕ, zero, suc, Bool, true, false, if◌then◌else◌, List, [], ◌∷◌, ◌++◌, Contains}
use Rattle.hv_rules.specs.declared.event.FlowEvent.{FlowEvent}
use Rattle.hv_rules.specs.declared.event.FlowEvent.TheVariants as event
use Rattle.hv_rules.specs.Flow.{Skip, Do, Stop, Then, Either, Loop}
use Rattle.hv_rules.specs.Events.{Belongs, ToEnd, Mark, Events}
use Rattle.hv_rules.specs.Rules.{back_at, handles_at, missing_at}
use Rattle.hv_flow_ends.specs.declared.span.Span.{Span}
use Rattle.hv_flow_ends.specs.declared.span.End.{End}

-- ---- the ends of a flow

-- whether the event ends a block or the body
abbrev pub is_end : FlowEvent → Bool
is_end event.Entry = false
is_end (event.Declare n) = false
is_end (event.Init p) = false
is_end (event.Use p) = false
is_end (event.Move p) = false
is_end (event.OpenRead p) = false
is_end (event.OpenWrite p) = false
is_end (event.OpenSet p) = false
is_end event.Close = false
is_end (event.Spawn h) = false
is_end (event.Await h) = false
is_end event.Return = true
is_end (event.ScopeEnd n) = true

-- what a mark belongs to, where it is an end
abbrev pub if_end : Mark → List Belongs
if_end m = if is_end m.event then m.belongs ∷ [] else []

-- what the ends of a flow belong to, in the order of the text
abbrev pub ends_in : Events → List Belongs
ends_in Skip = []
ends_in (Do m) = if_end m
ends_in (Stop m) = if_end m
ends_in (Then a b) = ends_in a ++ ends_in b
ends_in (Either a b) = ends_in a ++ ends_in b
ends_in (Loop a) = ends_in a

-- ---- the ends as the code has them

-- so many numbers from this one on
abbrev pub numbers_from : ℕ → ℕ → List ℕ
numbers_from n zero = []
numbers_from n (suc k) = n ∷ numbers_from (suc n) k

abbrev pub numbers_in : List Span → List ℕ
numbers_in [] = []
numbers_in (s ∷ spans) = numbers_from s.first s.count ++ numbers_in spans

abbrev pub belongs_by : End → Belongs
belongs_by e = ToEnd (numbers_in e.back) (numbers_in e.handles) e.missing

-- both lists have the same numbers
abbrev pub Alike : List ℕ → List ℕ → Type 0
Alike xs ys = (n : ℕ) → Contains xs n ↔ Contains ys n

-- the same locals are written back and the same handles end there, and a result is missing in both or in none
pub record Agree (a b : Belongs) : Type 0 where
  pub back : Alike (back_at a) (back_at b)
  pub handles : Alike (handles_at a) (handles_at b)
  pub missing : missing_at a ≡ missing_at b

-- each with that at the same place of the other list
abbrev pub AllAgree : List Belongs → List Belongs → Type 0
AllAgree [] [] = ⊤
AllAgree [] (b ∷ bs) = ⊥
AllAgree (a ∷ us) [] = ⊥
AllAgree (a ∷ us) (b ∷ bs) = Agree a b × AllAgree us bs
