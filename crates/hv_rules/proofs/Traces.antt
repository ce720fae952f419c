-- The whole traces of a few constructs: exactly the listed ones.
use Rattle.std.proofs.Common.{◌↔◌, ℕ, false, List, [], ◌∷◌, codes}
use Rattle.hv_tree.specs.declared.place.Place.{Place}
use Rattle.hv_tree.specs.declared.types.Name.{Name}
use Rattle.hv_tree.specs.declared.ast.Operator.TheVariants as operator
use Rattle.hv_tree.specs.Core.{Core, IntTy, CoreExpr, Path, Chain, NoLinks, LinkOf, NoSteps, CoreBlock, BlockOf, CoreStmts, NoStmts, StmtOf, NoElse, BranchOf, CoreStmt, If, While, Return, Print, Bare}
use Rattle.hv_rules.specs.declared.event.FlowEvent.TheVariants as event
use Rattle.hv_decls.specs.Locals.{VarBound, Local, local}
use Rattle.hv_rules.specs.Flow.{IsWhole}
use Rattle.hv_rules.specs.Events.{Mark, uses, whole, ToEnd, Around, value_events, stmt_events, stmts_events}
use Rattle.hv_rules.proofs.Listed.{Among, whole_listed}

-- all places are the same one
abbrev p : Place
p = record { start = 0 }

abbrev named : List ℕ → Name
named s = record { text = s; place = p }

abbrev tree : Core
tree = record { decls = [] }

-- the locals `a`, `b` and `c`, with the numbers 0, 1 and 2
abbrev locals : List Local
locals = local VarBound (named (codes "a")) (IntTy p) ∷ (local VarBound (named (codes "b")) (IntTy p) ∷ (local VarBound (named (codes "c")) (IntTy p) ∷ []))

abbrev around : Around
around = record { next = 3; back = []; handles = [] }

abbrev read : List ℕ → CoreExpr
read s = Path p (named s) NoSteps

abbrev used : ℕ → Mark
used n = uses (whole n) p

abbrev scope_end : Mark
scope_end = record { event = event.ScopeEnd 3; place = p; belongs = ToEnd [] [] false }

abbrev returned : Mark
returned = record { event = event.Return; place = p; belongs = ToEnd [] [] false }

abbrev block : CoreStmts → CoreBlock
block stmts = BlockOf stmts p

-- `if a { print(b) }`: the test alone, or the test and the block
abbrev an_if : CoreStmt
an_if = If p (BranchOf (read (codes "a")) (block (StmtOf (Print p (read (codes "b"))) NoStmts)) NoElse)

if_traces : (es : List Mark) →
    IsWhole (stmt_events tree locals around an_if) es ↔ Among ((used 0 ∷ (used 1 ∷ (scope_end ∷ []))) ∷ ((used 0 ∷ []) ∷ [])) es
if_traces es = whole_listed (stmt_events tree locals around an_if) (search) es

-- `while a { return; }`: the test alone, or the test and the return
abbrev a_while : CoreStmt
a_while = While p (read (codes "a")) (block (StmtOf (Return p) NoStmts))

while_traces : (es : List Mark) →
    IsWhole (stmt_events tree locals around a_while) es ↔ Among ((used 0 ∷ []) ∷ ((used 0 ∷ (returned ∷ [])) ∷ [])) es
while_traces es = whole_listed (stmt_events tree locals around a_while) (search) es

-- `a && b || c`: each operand may be the last one
abbrev a_chain : CoreExpr
a_chain = Chain p (Chain p (read (codes "a")) (LinkOf operator.And p (read (codes "b")) NoLinks)) (LinkOf operator.Or p (read (codes "c")) NoLinks)

chain_traces : (es : List Mark) →
    IsWhole (value_events tree locals a_chain) es ↔
    Among ((used 0 ∷ []) ∷ ((used 0 ∷ (used 2 ∷ [])) ∷ ((used 0 ∷ (used 1 ∷ [])) ∷ ((used 0 ∷ (used 1 ∷ (used 2 ∷ []))) ∷ [])))) es
chain_traces es = whole_listed (value_events tree locals a_chain) (search) es

-- `{ return; } print(a)`: nothing comes behind the return
abbrev a_return : CoreStmts
a_return = StmtOf (Bare p (block (StmtOf (Return p) NoStmts))) (StmtOf (Print p (read (codes "a"))) NoStmts)

return_traces : (es : List Mark) → IsWhole (stmts_events tree locals around a_return) es ↔ Among ((returned ∷ []) ∷ []) es
return_traces es = whole_listed (stmts_events tree locals around a_return) (search) es
