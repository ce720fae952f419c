-- What each part of a body leaves in sight.
use Rattle.std.proofs.Common.{ℕ, suc, ◌+◌, length, List, [], ◌∷◌}
use Rattle.hv_tree.specs.declared.types.Conv.TheVariants as conv
use Rattle.hv_tree.specs.Core.{CoreStmts, NoStmts, StmtOf, CoreStmt, Var, VarWith, Let, Inout, Assign, If, While, Return, ReturnWith, Print, Task, AwaitsAlone, CallsAlone, Bare}
use Rattle.hv_decls.specs.Locals.{LocalKind, Captured, Passed, VarBound, LetBound, InoutBound, Handle, Local, declared_in}

-- a statement, where n locals are declared before it
abbrev pub stmt_sight : ℕ → CoreStmt → List ℕ → List ℕ
stmt_sight n (Var at name t) ks = ks
stmt_sight n (VarWith at name t x) ks = n ∷ ks
stmt_sight n (Let at name t x) ks = n ∷ ks
stmt_sight n (Inout at name t root steps) ks = n ∷ ks
stmt_sight n (Assign at root steps x) ks = ks
stmt_sight n (If at branches) ks = ks
stmt_sight n (While at test body) ks = ks
stmt_sight n (Return at) ks = ks
stmt_sight n (ReturnWith at x) ks = ks
stmt_sight n (Print at x) ks = ks
stmt_sight n (Task at name t spawn budget call) ks = ks
stmt_sight n (AwaitsAlone at name) ks = ks
stmt_sight n (CallsAlone at call) ks = ks
stmt_sight n (Bare at block) ks = ks

abbrev pub stmts_sight : ℕ → CoreStmts → List ℕ → List ℕ
stmts_sight n NoStmts ks = ks
stmts_sight n (StmtOf x rest) ks = stmts_sight (n + length (declared_in x)) rest (stmt_sight n x ks)

-- a capture or parameter
abbrev pub entry_sight : ℕ → LocalKind → List ℕ → List ℕ
entry_sight n (Passed conv.Set) ks = ks
entry_sight n (Passed conv.Let) ks = n ∷ ks
entry_sight n (Passed conv.Inout) ks = n ∷ ks
entry_sight n (Passed conv.Sink) ks = n ∷ ks
entry_sight n Captured ks = n ∷ ks
entry_sight n VarBound ks = n ∷ ks
entry_sight n LetBound ks = n ∷ ks
entry_sight n InoutBound ks = n ∷ ks
entry_sight n Handle ks = n ∷ ks

abbrev pub entries_sight : ℕ → List Local → List ℕ → List ℕ
entries_sight n [] ks = ks
entries_sight n (l ∷ ls) ks = entries_sight (suc n) ls (entry_sight n l.kind ks)
