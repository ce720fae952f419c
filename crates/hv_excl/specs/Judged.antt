-- The acts of a plan, word by word.
use Rattle.std.specs.Prelude.{ℕ, false, List, [], ◌∷◌, Option, Some, None}
use Rattle.hv_tree.specs.declared.refusal.Refusal.{Refusal}
use Rattle.hv_rules.specs.States.{Access}
use Rattle.hv_flow_plan.specs.declared.plan.FlowOp.{FlowOp}
use Rattle.hv_flow_plan.specs.declared.plan.FlowOp.TheVariants as op
use Rattle.hv_flow_pass.specs.declared.act.Act.{Act}
use Rattle.hv_flow_pass.specs.declared.act.Act.TheVariants as act
use Rattle.hv_flow_pass.specs.declared.plan.PassOp.{PassOp}
use Rattle.hv_flow_pass.specs.declared.plan.PassOp.TheVariants as pass
use Rattle.hv_excl.specs.Clashes.{open_behind, refused_at}
use Rattle.hv_excl.specs.Told.{declares, declared_next, told_by}

-- the acts of an event that refuses this, or nothing; no act sets the cell, so that it is a no wherever it is reached
abbrev pub acts_of : Option Refusal → List Act
acts_of None = []
acts_of (Some r) = act.Refuse (record { from = 0; count = 1 }) false r ∷ []

-- a word with the binding that it belongs to, where these accesses are open
abbrev pub judged_op : Option ℕ → List Access → FlowOp → PassOp
judged_op b xs op.Skip = pass.Skip
judged_op b xs (op.Do e at) = pass.Do (acts_of (refused_at e b at xs))
judged_op b xs (op.Stop e at) = pass.Stop (acts_of (refused_at e b at xs))
judged_op b xs op.Then = pass.Then
judged_op b xs op.Either = pass.Either
judged_op b xs op.Loop = pass.Loop

-- what is open behind a word
abbrev pub open_op : Option ℕ → FlowOp → List Access → List Access
open_op b op.Skip xs = xs
open_op b (op.Do e at) xs = open_behind e b xs
open_op b (op.Stop e at) xs = open_behind e b xs
open_op b op.Then xs = xs
open_op b op.Either xs = xs
open_op b op.Loop xs = xs

-- the binding of a word, behind one that declares this, and before those
abbrev pub told_op : Option ℕ → FlowOp → List FlowOp → Option ℕ
told_op before op.Skip os = None
told_op before (op.Do e at) os = told_by before (declared_next os) e
told_op before (op.Stop e at) os = told_by before (declared_next os) e
told_op before op.Then os = None
told_op before op.Either os = None
told_op before op.Loop os = None

abbrev pub judged : Option ℕ → List Access → List FlowOp → List PassOp
judged before xs [] = []
judged before xs (o ∷ os) = judged_op (told_op before o os) xs o ∷ judged (declares o) (open_op (told_op before o os) o xs) os
