-- The locals of a body, and the bodies of a program.
use Rattle.std.specs.Prelude.{ℕ, suc, if◌then◌else◌, List, [], ◌∷◌, ◌++◌, map, Option, Some, None}
use Rattle.std.specs.Str.{bytes_eq}
use Rattle.hv_tree.specs.declared.types.Name.{Name}
use Rattle.hv_tree.specs.declared.types.Conv.{Conv}
use Rattle.hv_tree.specs.Core.{CoreFun, CoreParam, CoreTy, CoreBlock, BlockOf, CoreStmts, NoStmts, StmtOf, CoreBranches, NoElse, Else, BranchOf, CoreStmt, Var, VarWith, Let, Inout, Assign, If, While, Return, ReturnWith, Print, Task, AwaitsAlone, CallsAlone, Bare}
use Rattle.hv_decls.specs.Types.{ValueType, meant, option_meant}

-- ---- locals

-- what a local is
pub data LocalKind : Type 0 where
  Captured : LocalKind
  Passed : Conv → LocalKind
  VarBound : LocalKind
  LetBound : LocalKind
  InoutBound : LocalKind
  Handle : LocalKind

-- a parameter, capture, binding or handle; no type has a handle without a value, or a capture of what isn't known
pub record Local : Type 0 where
  pub name : Name
  pub kind : LocalKind
  pub ty : Option ValueType

-- a local whose type is written
abbrev pub local : LocalKind → Name → CoreTy → Local
local kind name t = record { name = name; kind = kind; ty = Some (meant t) }

-- a parameter as a local
abbrev pub param_local : CoreParam → Local
param_local p = local (Passed p.conv) p.name p.ty

-- the local that a statement declares for the rest of its block
abbrev pub binds : CoreStmt → Option Local
binds (Var at name t) = Some (local VarBound name t)
binds (VarWith at name t x) = Some (local VarBound name t)
binds (Let at name t x) = Some (local LetBound name t)
binds (Inout at name t root steps) = Some (local InoutBound name t)
binds (Assign at root steps x) = None
binds (If at branches) = None
binds (While at test body) = None
binds (Return at) = None
binds (ReturnWith at x) = None
binds (Print at x) = None
binds (Task at name t spawn budget call) = Some (record { name = name; kind = Handle; ty = option_meant t })
binds (AwaitsAlone at name) = None
binds (CallsAlone at call) = None
binds (Bare at block) = None

-- a list of one or none
abbrev pub listed : {A : Type 0} → Option A → List A
listed None = []
listed (Some a) = a ∷ []

abbrev mutual
  -- the locals that a piece of a body declares, in order, blocks in it included
  pub declared_in : CoreStmt → List Local
  declared_in (Var at name t) = listed (binds (Var at name t))
  declared_in (VarWith at name t x) = listed (binds (VarWith at name t x))
  declared_in (Let at name t x) = listed (binds (Let at name t x))
  declared_in (Inout at name t root steps) = listed (binds (Inout at name t root steps))
  declared_in (Assign at root steps x) = []
  declared_in (If at branches) = in_branches branches
  declared_in (While at test body) = in_block body
  declared_in (Return at) = []
  declared_in (ReturnWith at x) = []
  declared_in (Print at x) = []
  declared_in (Task at name t spawn budget call) = listed (binds (Task at name t spawn budget call))
  declared_in (AwaitsAlone at name) = []
  declared_in (CallsAlone at call) = []
  declared_in (Bare at block) = in_block block

  pub in_branches : CoreBranches → List Local
  in_branches NoElse = []
  in_branches (Else block) = in_block block
  in_branches (BranchOf test body rest) = in_block body ++ in_branches rest

  pub in_block : CoreBlock → List Local
  in_block (BlockOf stmts end) = in_stmts stmts

  pub in_stmts : CoreStmts → List Local
  in_stmts NoStmts = []
  in_stmts (StmtOf x rest) = declared_in x ++ in_stmts rest

-- ---- bodies

-- the body of a function or a lambda; a function has no captures
pub record CoreBody : Type 0 where
  pub captures : List Local
  pub params : List CoreParam
  pub result : Option CoreTy
  pub block : CoreBlock

-- captures and parameters, which the whole body sees
abbrev pub entry_locals : CoreBody → List Local
entry_locals body = body.captures ++ map param_local body.params

-- all locals in the order of their declarations; a local's number is its place in this list
abbrev pub locals_of : CoreBody → List Local
locals_of body = entry_locals body ++ in_block body.block

-- the body of a function
abbrev pub fun_body : CoreFun → CoreBody
fun_body f = record { captures = []; params = f.params; result = f.result; block = f.body }

-- the first local with the name, and its number counted from n
abbrev pub number_from : ℕ → List Local → List ℕ → Option ℕ
number_from n [] text = None
number_from n (l ∷ ls) text = if bytes_eq l.name.text text then Some n else number_from (suc n) ls text

-- the number of the local with the name
abbrev pub number_in : List Local → List ℕ → Option ℕ
number_in locals text = number_from 0 locals text

-- the first local with the name
abbrev pub local_in : List Local → List ℕ → Option Local
local_in [] text = None
local_in (l ∷ ls) text = if bytes_eq l.name.text text then Some l else local_in ls text

-- a handle is no value
abbrev pub value_by : LocalKind → Option ValueType → Option ValueType
value_by Captured t = t
value_by (Passed c) t = t
value_by VarBound t = t
value_by LetBound t = t
value_by InoutBound t = t
value_by Handle t = None

-- the type of a local that is a value
abbrev pub value_of : Option Local → Option ValueType
value_of None = None
value_of (Some l) = value_by l.kind l.ty
