-- The printed texts of parts of the tree, as the code writes them.
use Rattle.std.specs.Prelude.{ℕ, List, [], ◌++◌, map, Option, Some, None, codes}
use Rattle.hv_tree.specs.declared.types.Name.{Name}
use Rattle.hv_tree.specs.declared.types.Conv.{Conv}
use Rattle.hv_tree.specs.declared.types.Ty.{Ty}
use Rattle.hv_tree.specs.declared.ast.Operator.{Operator}
use Rattle.hv_tree.specs.declared.place.Place.{Place}
use Rattle.hv_tree.specs.declared.ast.Param.{Param}
use Rattle.hv_tree.specs.declared.ast.Arg.{Arg}
use Rattle.hv_tree.specs.declared.ast.Block.{Block}
use Rattle.hv_tree.specs.declared.ast.Branch.{Branch}
use Rattle.hv_tree.specs.declared.ast.Call.{Call}
use Rattle.hv_tree.specs.declared.ast.Expr.{Expr}
use Rattle.hv_tree.specs.declared.ast.PlaceExpr.{PlaceExpr}
use Rattle.hv_tree.specs.declared.ast.Step.{Step}
use Rattle.hv_tree.specs.declared.ast.Stmt.{Stmt}
use Rattle.hv_tree.specs.Core as core
use Rattle.hv_tree.specs.Printed as printed

-- ---- types

abbrev pub ty_text : Ty → List ℕ
ty_text t = printed.ty_text (core.core_ty t)

abbrev pub core_pair : Conv × Ty → Conv × core.CoreTy
core_pair p = (p.0, core.core_ty p.1)

abbrev pub tys_text : List ℕ → List (Conv × Ty) → List ℕ
tys_text before params = printed.tys_text before (core.core_tys_of (map core_pair params))

-- the result of a function type behind its parameters
abbrev pub result_text : Option Ty → List ℕ
result_text None = codes ")"
result_text (Some t) = codes ") -> " ++ printed.grouped (printed.is_fun_ty (core.core_ty t)) (ty_text t)

-- the parameters of a function or lambda in their brackets, and its result
abbrev pub signature_text : List Param → Option Ty → List ℕ
signature_text params result = codes "(" ++ (printed.params_text [] (map core.core_param params) ++ (codes ")" ++ printed.return_text (core.core_option_ty result)))

-- ---- expressions and statements, at the depth of their line

abbrev pub expr_text : ℕ → Expr → List ℕ
expr_text d x = printed.expr_text d (core.core_of x)

abbrev pub exprs_text : ℕ → List ℕ → List Expr → List ℕ
exprs_text d before xs = printed.exprs_text d before (core.core_exprs xs)

abbrev pub operand_text : ℕ → ℕ → Expr → List ℕ
operand_text d outer x = printed.operand_text outer (core.core_of x) (printed.expr_text d (core.core_of x))

abbrev pub links_text : ℕ → ℕ → List (Operator × Place × Expr) → List ℕ
links_text d outer links = printed.links_text d outer (core.core_links links)

abbrev pub step_text : ℕ → Step → List ℕ
step_text d s = printed.steps_text d (core.core_step s core.NoSteps)

abbrev pub steps_text : ℕ → List Step → List ℕ
steps_text d steps = printed.steps_text d (core.core_steps steps)

abbrev pub place_text : ℕ → PlaceExpr → List ℕ
place_text d p = (core.core_place p).0.text ++ printed.steps_text d (core.core_place p).1

abbrev pub arg_text : ℕ → Arg → List ℕ
arg_text d a = printed.args_text d [] (core.core_arg a core.NoArgs)

abbrev pub args_text : ℕ → List ℕ → List Arg → List ℕ
args_text d before args = printed.args_text d before (core.core_args args)

abbrev pub call_text : ℕ → Call → List ℕ
call_text d c = printed.call_text d (core.core_call c)

abbrev pub bare_text : ℕ → Block → List ℕ
bare_text d b = printed.bare_text d (core.core_block b)

abbrev pub block_text : ℕ → Block → List ℕ
block_text d b = printed.block_text d (core.core_block b)

abbrev pub stmts_text : ℕ → List Stmt → List ℕ
stmts_text d stmts = printed.stmts_text d (core.core_stmts stmts)

abbrev pub stmt_text : ℕ → Stmt → List ℕ
stmt_text d s = printed.stmt_text d (core.core_stmt s)

-- a test and its block
abbrev pub branch_text : ℕ → Branch → List ℕ
branch_text d b = printed.branches_text d [] (core.core_branch b core.NoElse)

-- the tests with their blocks; what stands before the first is given
abbrev pub branches_text : ℕ → List ℕ → List Branch → List ℕ
branches_text d before branches = printed.branches_text d before (core.core_branches branches None)

-- the last `else`, if there is one
abbrev pub else_text : ℕ → Option Block → List ℕ
else_text d None = []
else_text d (Some b) = codes " else" ++ block_text d b

-- the value of a `var`, if it has one
abbrev pub value_text : ℕ → Option Expr → List ℕ
value_text d None = []
value_text d (Some x) = codes " = " ++ expr_text d x

abbrev pub array_text : ℕ → List Expr → List ℕ
array_text d xs = codes "[" ++ (exprs_text d [] xs ++ codes "]")

abbrev pub lambda_text : ℕ → List Name → List Param → Option Ty → Block → List ℕ
lambda_text d captures params result body = codes "fun [" ++ (printed.names_text [] captures ++ (codes "] " ++ (signature_text params result ++ block_text d body)))

abbrev pub var_text : ℕ → Name → Ty → Option Expr → List ℕ
var_text d name t value = codes "var " ++ (printed.typed_text name (core.core_ty t) ++ value_text d value)

abbrev pub let_text : ℕ → Name → Ty → Expr → List ℕ
let_text d name t x = codes "let " ++ (printed.typed_text name (core.core_ty t) ++ (codes " = " ++ expr_text d x))

abbrev pub inout_text : ℕ → Name → Ty → PlaceExpr → List ℕ
inout_text d name t p = codes "inout " ++ (printed.typed_text name (core.core_ty t) ++ (codes " = &" ++ place_text d p))

abbrev pub print_text : ℕ → Expr → List ℕ
print_text d x = codes "print(" ++ (expr_text d x ++ codes ")")

-- a `return` without value is set off from what follows it
abbrev pub return_text : ℕ → Option Expr → List ℕ
return_text d None = codes "return;"
return_text d (Some x) = codes "return " ++ expr_text d x
