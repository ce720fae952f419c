-- What a flow of acts refuses, over all its traces.
use Rattle.std.specs.Prelude.{◌≡◌, ℕ, ◌+◌, nat_le, nat_lt, Bool, true, false, ◌&&◌, if◌then◌else◌, List, [], ◌∷◌, ◌++◌}
use Rattle.hv_tree.specs.declared.refusal.Refusal.{Refusal}
use Rattle.hv_rules.specs.Flow.{Flow, IsTrace}
use Rattle.hv_flow_pass.specs.declared.act.Range.{Range}
use Rattle.hv_flow_pass.specs.declared.act.Act.{Act}
use Rattle.hv_flow_pass.specs.declared.act.Act.TheVariants as act

-- the value of each cell
abbrev pub Values : Type 0
Values = ℕ → Bool

-- before the first event each cell is a no
abbrev pub start : Values
start i = false

-- whether the cell is one of the range
abbrev pub covers : Range → ℕ → Bool
covers range i = nat_le range.from i && nat_lt i (range.from + range.count)

-- what an act leaves
abbrev pub after_act : Act → Values → Values
after_act (act.Set range value) values = λ i. if covers range i then value else values i
after_act (act.Refuse range value r) values = values

-- what acts leave, one after the other
abbrev pub after_acts : List Act → Values → Values
after_acts [] values = values
after_acts (a ∷ acts) values = after_acts acts (after_act a values)

-- the acts of all events
abbrev pub acts_in : List (List Act) → List Act
acts_in [] = []
acts_in (acts ∷ events) = acts ++ acts_in events

-- a cell of the act's has the value that it refuses
abbrev pub Refuses : Values → Act → Refusal → Type 0
Refuses values (act.Set range value) r = ⊥
Refuses values (act.Refuse range value refusal) r = (r ≡ refusal) × ((i : ℕ) × (covers range i ≡ true) × (values i ≡ value))

-- some trace ends in an event, one of whose acts refuses what the acts before it leave
pub record IsRefused (f : Flow (List Act)) (r : Refusal) : Type 0 where
  pub events : List (List Act)
  pub before : List Act
  pub last : Act
  pub rest : List Act
  pub trace : IsTrace f (events ++ (before ++ last ∷ rest) ∷ [])
  pub refuses : Refuses (after_acts (acts_in events ++ before) start) last r
