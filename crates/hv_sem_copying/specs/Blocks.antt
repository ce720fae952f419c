-- Statements over the runs of their parts. A statement is given the rest of its block, which runs while its binding stands.
use Rattle.std.specs.Prelude.{ℕ, zero, suc, if◌then◌else◌, List, Some, None}
use Rattle.hv_tree.specs.declared.place.Place.{Place}
use Rattle.hv_tree.specs.declared.types.Name.{Name}
use Rattle.hv_tree.specs.Core.{CoreStmt, Var, VarWith, Let, Inout, Assign, If, While, Return, ReturnWith, Print, Task, AwaitsAlone, CallsAlone, Bare}
use Rattle.hv_decls.specs.Locals.{Local}
use Rattle.hv_value.specs.ValueTree.{ValueTree}
use Rattle.hv_sem_copying.specs.Run.{Run, Flow, ◌>>=◌, pure, spent, pay, unless_left}
use Rattle.hv_sem_copying.specs.Ops.{Reads, Ops}
use Rattle.hv_sem_copying.specs.Operations.{truth}
use Rattle.hv_sem_copying.specs.Places.{local, declared}
use Rattle.hv_sem_copying.specs.Calls.{Placed}

-- the place of the first token
abbrev pub first_token : CoreStmt → Place
first_token (Var at name t) = at
first_token (VarWith at name t x) = at
first_token (Let at name t x) = at
first_token (Inout at name t root steps) = at
first_token (Assign at root steps x) = at
first_token (If at branches) = at
first_token (While at test body) = at
first_token (Return at) = at
first_token (ReturnWith at x) = at
first_token (Print at x) = at
first_token (Task at name t spawn budget call) = at
first_token (AwaitsAlone at name) = at
first_token (CallsAlone at call) = at
first_token (Bare at block) = at

-- goes one way or the other by a test
abbrev pub chosen : {C S : Type 0} → Run C S ValueTree → Run C S Flow → Run C S Flow → Run C S Flow
chosen test first second = test >>= (λ v. truth v >>= (λ b. if b then first else second))

-- at most n turns, each of which pays for its test first
abbrev pub turns : {C S : Type 0} → ℕ → Place → Run C S ValueTree → Run C S Flow → Run C S Flow
turns zero at test body = spent at
turns (suc n) at test body = pay 1 at >>= (λ paid. chosen test (body >>= unless_left (turns n at test body)) (pure None))

-- since a turn costs, there are no more turns than steps
unfoldable pub repeated : {C S : Type 0} → Place → Run C S ValueTree → Run C S Flow → Run C S Flow
repeated at test body n c s = turns (suc s.task.steps) at test body n c s

-- a binding over a place reads it there; any other value is the binding's own
abbrev pub bound : {C S : Type 0} → Ops C S → List Local → Name → Placed C S → Run C S ValueTree → Run C S Flow → Run C S Flow
bound o locals name (Some place) x go = place >>= (λ f. local locals name >>= (λ r. o.under Reads r f.0 go))
bound o locals name None x go = x >>= (λ v. declared o locals name v >>= (λ done. go))
