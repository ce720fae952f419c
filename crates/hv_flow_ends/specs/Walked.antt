-- The ends of each part of a body, in the order in which code keeps what is around them.
use Rattle.std.specs.Prelude.{ℕ, ◌+◌, false, List, [], ◌∷◌, ◌++◌, length, map, Option, Some, None}
use Rattle.hv_tree.specs.declared.ast.Block.{Block}
use Rattle.hv_tree.specs.declared.ast.Branch.{Branch, out-Branch}
use Rattle.hv_tree.specs.declared.ast.Stmt.{Stmt}
use Rattle.hv_tree.specs.Core.{CoreBlock, BlockOf, CoreStmts, NoStmts, StmtOf, CoreBranches, NoElse, Else, BranchOf, CoreStmt, Var, VarWith, Let, Inout, Assign, If, While, Return, ReturnWith, Print, Task, AwaitsAlone, CallsAlone, Bare, core_stmt, core_stmts, core_block, stmts_in}
use Rattle.hv_decls.specs.Locals.{CoreBody, binds, declared_in, in_block, in_stmts, entry_locals}
use Rattle.hv_rules.specs.Events.{Belongs, ToEnd, is_written_back, is_handle, own, kind_from, if_kind, has_some}
use Rattle.hv_scope.specs.declared.known.Known.{Known}
use Rattle.hv_scope.specs.Known.{local_by}
use Rattle.hv_flow_ends.specs.declared.walk.Opened.{Opened}
use Rattle.hv_flow_ends.specs.Ends.{numbers_in}

-- what is around a statement
pub record Standing : Type 0 where
  -- how many locals of the body are declared before
  pub next : ℕ
  -- the locals that are written back, those of outer blocks first
  pub back : List ℕ
  -- the handles, those of outer blocks first
  pub handles : List ℕ

abbrev pub own_back : ℕ → CoreStmts → List ℕ
own_back n stmts = own is_written_back n stmts

abbrev pub own_handles : ℕ → CoreStmts → List ℕ
own_handles n stmts = own is_handle n stmts

abbrev pub behind : CoreStmt → Standing → Standing
behind x s = record { next = s.next + length (declared_in x); back = s.back ++ if_kind is_written_back s.next (binds x); handles = s.handles }

abbrev pub behind_block : CoreBlock → Standing → Standing
behind_block b s = record { next = s.next + length (in_block b); back = s.back; handles = s.handles }

abbrev pub entered : CoreStmts → Standing → Standing
entered stmts s = record { next = s.next; back = s.back; handles = s.handles ++ own_handles s.next stmts }

abbrev mutual
  pub stmt_ends : Standing → CoreStmt → List Belongs
  stmt_ends s (Var at name t) = []
  stmt_ends s (VarWith at name t x) = []
  stmt_ends s (Let at name t x) = []
  stmt_ends s (Inout at name t root steps) = []
  stmt_ends s (Assign at root steps x) = []
  stmt_ends s (If at branches) = branch_ends s branches
  stmt_ends s (While at test body) = block_ends s body
  stmt_ends s (Return at) = ToEnd s.back s.handles false ∷ []
  stmt_ends s (ReturnWith at x) = ToEnd s.back s.handles false ∷ []
  stmt_ends s (Print at x) = []
  stmt_ends s (Task at name t spawn budget call) = []
  stmt_ends s (AwaitsAlone at name) = []
  stmt_ends s (CallsAlone at call) = []
  stmt_ends s (Bare at block) = block_ends s block

  pub branch_ends : Standing → CoreBranches → List Belongs
  branch_ends s NoElse = []
  branch_ends s (Else block) = block_ends s block
  branch_ends s (BranchOf test body rest) = block_ends s body ++ branch_ends (behind_block body s) rest

  pub block_ends : Standing → CoreBlock → List Belongs
  block_ends s (BlockOf stmts end) = stmts_ends (entered stmts s) stmts ++ ToEnd (own_back s.next stmts) (own_handles s.next stmts) false ∷ []

  pub stmts_ends : Standing → CoreStmts → List Belongs
  stmts_ends s NoStmts = []
  stmts_ends s (StmtOf x rest) = stmt_ends s x ++ stmts_ends (behind x s) rest

-- what is written back from the beginning of a body on
abbrev pub entry_back : CoreBody → List ℕ
entry_back body = kind_from is_written_back 0 (entry_locals body)

abbrev pub first_own : CoreBody → ℕ
first_own body = length (entry_locals body)

abbrev pub body_standing : CoreBody → Standing
body_standing body = record { next = first_own body; back = entry_back body; handles = own_handles (first_own body) (stmts_in body.block) }

-- those of a whole body
abbrev pub body_ends : CoreBody → List Belongs
body_ends body =
    stmts_ends (body_standing body) (stmts_in body.block)
    ++ ToEnd (entry_back body ++ own_back (first_own body) (stmts_in body.block)) (own_handles (first_own body) (stmts_in body.block)) (has_some body.result) ∷ []

-- ---- as the code meets them

-- what open blocks add, the outermost first
abbrev pub backs_in : List Opened → List ℕ
backs_in [] = []
backs_in (o ∷ os) = numbers_in o.back ++ backs_in os

abbrev pub handles_in : List Opened → List ℕ
handles_in [] = []
handles_in (o ∷ os) = numbers_in o.handles ++ handles_in os

-- behind so many locals, in these blocks
abbrev pub standing : ℕ → List Opened → Standing
standing n around = record { next = n; back = backs_in around; handles = handles_in around }

-- what a statement adds to what is written back, and to the handles
abbrev pub back_more : ℕ → Stmt → List ℕ
back_more n s = if_kind is_written_back n (binds (core_stmt s))

abbrev pub handle_more : ℕ → Stmt → List ℕ
handle_more n s = if_kind is_handle n (binds (core_stmt s))

-- how many locals are declared
abbrev pub stmt_locals : Stmt → ℕ
stmt_locals s = length (declared_in (core_stmt s))

abbrev pub stmts_locals : List Stmt → ℕ
stmts_locals stmts = length (in_stmts (core_stmts stmts))

abbrev pub block_locals : Block → ℕ
block_locals b = length (in_block (core_block b))

abbrev pub tests_locals : List Branch → ℕ
tests_locals [] = 0
tests_locals (b ∷ rest) = block_locals (out-Branch b).body + tests_locals rest

abbrev pub else_locals : Option Block → ℕ
else_locals None = 0
else_locals (Some b) = block_locals b

-- the ends of each part
abbrev pub ends_of_stmt : ℕ → List Opened → Stmt → List Belongs
ends_of_stmt n around s = stmt_ends (standing n around) (core_stmt s)

abbrev pub ends_of_stmts : ℕ → List Opened → List Stmt → List Belongs
ends_of_stmts n around stmts = stmts_ends (standing n around) (core_stmts stmts)

abbrev pub ends_of_block : ℕ → List Opened → Block → List Belongs
ends_of_block n around b = block_ends (standing n around) (core_block b)

abbrev pub ends_of_tests : ℕ → List Opened → List Branch → List Belongs
ends_of_tests n around [] = []
ends_of_tests n around (b ∷ rest) = ends_of_block n around (out-Branch b).body ++ ends_of_tests (n + block_locals (out-Branch b).body) around rest

abbrev pub ends_of_else : ℕ → List Opened → Option Block → List Belongs
ends_of_else n around None = []
ends_of_else n around (Some b) = ends_of_block n around b

-- a return in these blocks
abbrev pub end_at_return : List Opened → Belongs
end_at_return around = ToEnd (backs_in around) (handles_in around) false

-- what is written back of the captures and parameters
abbrev pub known_back : ℕ → List Known → List ℕ
known_back n known = kind_from is_written_back n (map local_by known)
