-- What a kind of state offers to the evaluator.
use Rattle.std.specs.Prelude.{ℕ, List}
use Rattle.hv_tree.specs.declared.place.Place.{Place}
use Rattle.hv_decls.specs.declared.path.StaticStep.{StaticStep}
use Rattle.hv_value.specs.ValueTree.{ValueTree}
use Rattle.hv_value.specs.Places.{Path}
use Rattle.hv_value.specs.Walk.{Link}
use Rattle.hv_sem_copying.specs.Run.{Run, Flow}

-- a way from a local, as it is written and with its indices evaluated
pub record Target : Type 0 where
  pub root : ℕ
  pub written : List StaticStep
  pub links : List (Link Place)

-- a place that is there
pub record Spot : Type 0 where
  pub root : ℕ
  pub written : List StaticStep
  pub path : Path

pub data Mode : Type 0 where
  Reads : Mode
  Writes : Mode
  -- as Writes, from holes on
  Sets : Mode

-- what a body is entered with: a value of its own, with what the body may do with it, or a reference of the caller
pub data Passed : Type 0 where
  Value : Mode → ValueTree → Passed
  Lent : ℕ → Passed

-- C is fixed by the blocks around, and S changes
pub record Ops (C S : Type 0) : Type 0 where
  -- the place, each index tested in order, and what stands there, holes too
  pub look : Target → Run C S (Spot × ValueTree)
  pub write : Spot → ValueTree → Run C S (Unit {0})
  -- goes on while the reference with this number stands for the place
  pub under : Mode → ℕ → Spot → Run C S Flow → Run C S Flow
  -- goes on in a callee with so many locals, which is entered with these
  pub call : ℕ → List Passed → Run C S Flow → Run C S Flow
  -- the child's handle, its steps, the number of its locals, what it is entered with, and what it does
  pub spawn : ℕ → ℕ → ℕ → List Passed → Run C S Flow → Run C S (Unit {0})
  pub await : ℕ → Run C S ValueTree
