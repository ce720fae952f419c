-- What the cells tell, and what the acts refuse.
use Rattle.std.specs.Prelude.{◌≡◌, ◌⊎◌, true, List, [], ◌∷◌, map, Some}
use Rattle.hv_tree.specs.declared.refusal.Refusal.{Refusal}
use Rattle.hv_tree.specs.Core.{Core}
use Rattle.hv_rules.specs.Flow.{IsTrace}
use Rattle.hv_decls.specs.Locals.{CoreBody}
use Rattle.hv_rules.specs.Events.{Mark}
use Rattle.hv_rules.specs.States.{Leaf, Access, Filled}
use Rattle.hv_rules.specs.Rules.{IsViolatedIn}
use Rattle.hv_rules.specs.Accepted.{InitPhase, phase_of}
use Rattle.hv_flow_traces.specs.Carried.{without}
use Rattle.hv_flow_traces.specs.Opened.{opened_at}
use Rattle.hv_flow_pass.specs.Refused.{Values, start, after_acts, acts_in}
use Rattle.hv_init_cells.specs.Layout.{Layout, IsLeaf}
use Rattle.hv_init_cells.specs.Acts.{acts_at}

-- what the acts of these events leave
abbrev pub values_after : Layout → List (Mark × List Access) → Values
values_after l ps = after_acts (acts_in (map (acts_at l) ps)) start

-- on each trace the cell of each leaf that has one says whether it is initialised
abbrev pub Tells : Core → CoreBody → Layout → Type 0
Tells tree body l = (ps : List (Mark × List Access)) → IsTrace (opened_at tree body) ps → (leaf : Leaf) → IsLeaf tree body leaf → l.tracks leaf.root ≡ true → values_after l ps (l.cell_of leaf) ≡ Filled (without ps) leaf

-- some trace of the body violates the rule there, which is one on initialisation
abbrev pub IsViolatedBy : Core → CoreBody → Refusal → Type 0
IsViolatedBy tree body r = (phase_of r.rule ≡ Some InitPhase) × IsViolatedIn tree body r.rule r.place

-- one of these bodies does
abbrev pub IsViolatedAmong : Core → List CoreBody → Refusal → Type 0
IsViolatedAmong tree [] r = ⊥
IsViolatedAmong tree (b ∷ bs) r = IsViolatedBy tree b r ⊎ IsViolatedAmong tree bs r
