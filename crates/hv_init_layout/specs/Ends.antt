-- Where the leaves under each path of a plan begin and end.
use Rattle.std.specs.Prelude.{ℕ, zero, suc, ◌+◌, Bool, if◌then◌else◌, List, [], ◌∷◌, ◌++◌}
use Rattle.hv_decls.specs.declared.path.StaticPath.{StaticPath}
use Rattle.hv_rules.specs.declared.event.FlowEvent.{FlowEvent}
use Rattle.hv_rules.specs.declared.event.FlowEvent.TheVariants as event
use Rattle.hv_rules.specs.States.{fields_of}
use Rattle.hv_flow_plan.specs.declared.plan.FlowOp.{FlowOp}
use Rattle.hv_flow_plan.specs.declared.plan.FlowOp.TheVariants as op
use Rattle.hv_flow_pass.specs.declared.act.Range.{Range}
use Rattle.hv_init_cells.specs.Plain.{kept_before}
use Rattle.hv_init_leaves.specs.declared.sizes.Sizes.{Sizes}
use Rattle.hv_init_leaves.specs.declared.leaves.Leaves.{Leaves}
use Rattle.hv_init_leaves.specs.Leaves.{range_by}

-- the first position of a range, and the first one behind it
abbrev pub ends : Range → List ℕ
ends r = r.from ∷ (r.from + r.count) ∷ []

module _ (s : Sizes) (l : Leaves) where
  -- those of so many locals that have cells
  abbrev pub local_ends : ℕ → List ℕ
  local_ends zero = []
  local_ends (suc n) = local_ends n ++ ends (range_by s l n [])

  module _ (tracks : ℕ → Bool) where
    -- those of the leaves under a path's fields, where its local has cells
    abbrev pub path_ends : StaticPath → List ℕ
    path_ends p = if tracks p.root then ends (range_by s l (kept_before tracks p.root) (fields_of p.steps)) else []

    -- those of an event's path
    abbrev pub event_ends : FlowEvent → List ℕ
    event_ends event.Entry = []
    event_ends (event.Declare n) = []
    event_ends (event.Init p) = path_ends p
    event_ends (event.Use p) = path_ends p
    event_ends (event.Move p) = path_ends p
    event_ends (event.OpenRead p) = path_ends p
    event_ends (event.OpenWrite p) = path_ends p
    event_ends (event.OpenSet p) = path_ends p
    event_ends event.Close = []
    event_ends (event.Spawn h) = []
    event_ends (event.Await h) = []
    event_ends event.Return = []
    event_ends (event.ScopeEnd n) = []

    -- those of a word
    abbrev pub word_ends : FlowOp → List ℕ
    word_ends op.Skip = []
    word_ends (op.Do e at) = event_ends e
    word_ends (op.Stop e at) = event_ends e
    word_ends op.Then = []
    word_ends op.Either = []
    word_ends op.Loop = []

    -- those of all words
    abbrev pub plan_ends : List FlowOp → List ℕ
    plan_ends [] = []
    plan_ends (o ∷ os) = word_ends o ++ plan_ends os

    -- those of so many locals that have cells, of what is behind them, and of a plan
    abbrev pub all_ends : ℕ → List FlowOp → List ℕ
    all_ends n os = local_ends (suc n) ++ plan_ends os
