-- The printed form of a program as a list of tokens and white space.
use Rattle.std.specs.Prelude.{ℕ, ◌+◌, length, ℤ, zero, suc, nat_le, Bool, true, false, List, [], ◌∷◌, ◌++◌, Option, Some, None, codes}
use Rattle.std.specs.Fmt.{signed_decimal}
use Rattle.hv_tree.specs.declared.place.Place.{Place}
use Rattle.hv_tree.specs.declared.types.Name.{Name}
use Rattle.hv_tree.specs.Tokens.{Tokens, mark, keyword, word, number}
use Rattle.hv_tree.specs.declared.types.Conv.{Conv}
use Rattle.hv_tree.specs.declared.types.Conv.TheVariants as conv
use Rattle.hv_tree.specs.declared.ast.Operator.{Operator}
use Rattle.hv_tree.specs.declared.ast.Operator.TheVariants as operator
use Rattle.hv_tree.specs.declared.ast.Tree.{Tree}
use Rattle.hv_tree.specs.Core.{CoreTy, IntTy, BoolTy, NamedTy, ArrayTy, FunTy, FunToTy, CoreTys, NoTys, TyOf, CoreParam, CoreExpr, Number, Truth, Path, Calls, Awaits, Array, Filled, Count, Lambda, Prefix, Chain, CoreExprs, NoExprs, ExprOf, CoreLinks, NoLinks, LinkOf, CoreSteps, NoSteps, FieldStep, IndexStep, CoreCall, CallOf, CoreArgs, NoArgs, ValueArg, RefArg, CoreBlock, BlockOf, CoreStmts, NoStmts, StmtOf, CoreBranches, NoElse, Else, BranchOf, CoreStmt, Var, VarWith, Let, Inout, Assign, If, While, Return, ReturnWith, Print, Task, AwaitsAlone, CallsAlone, Bare, CoreField, CoreDecl, StructOf, FunOf, core_tree}
use Rattle.hv_tree.specs.Printed.{is_fun_ty, links_tightness, expr_tightness}

pub data Piece : Type 0 where
  Space : Piece
  LineFeed : Piece
  WordOf : Name → Piece
  NumberOf : ℤ → Piece
  KeywordOf : List ℕ → Piece
  MarkOf : List ℕ → Piece

abbrev pub piece_bytes : Piece → List ℕ
piece_bytes Space = 32 ∷ []
piece_bytes LineFeed = 10 ∷ []
piece_bytes (WordOf name) = name.text
piece_bytes (NumberOf z) = signed_decimal z
piece_bytes (KeywordOf spelling) = spelling
piece_bytes (MarkOf spelling) = spelling

-- the bytes of the pieces, one after the other
abbrev pub bytes_of : List Piece → List ℕ
bytes_of [] = []
bytes_of (p ∷ more) = piece_bytes p ++ bytes_of more

-- the place of a byte
abbrev pub here : ℕ → Place
here at = record { start = at }

-- the name as it stands there
abbrev pub placed : ℕ → Name → Name
placed at name = record { text = name.text; place = here at }

-- the token of a piece, if it is one, by the piece's first byte
abbrev pub token_at : ℕ → Piece → Tokens
token_at at Space = []
token_at at LineFeed = []
token_at at (WordOf name) = word (placed at name) ∷ []
token_at at (NumberOf z) = number z (here at) ∷ []
token_at at (KeywordOf spelling) = keyword spelling (here at) ∷ []
token_at at (MarkOf spelling) = mark spelling (here at) ∷ []

-- the tokens among the pieces, the first of which begins at this byte
abbrev pub tokens_of : ℕ → List Piece → Tokens
tokens_of at [] = []
tokens_of at (p ∷ more) = token_at at p ++ tokens_of (at + length (piece_bytes p)) more

-- two spaces for each level
abbrev pub indent_pieces : ℕ → List Piece
indent_pieces zero = []
indent_pieces (suc n) = Space ∷ Space ∷ indent_pieces n

-- a text in round brackets where they are wanted
abbrev pub grouped_pieces : Bool → List Piece → List Piece
grouped_pieces true text = MarkOf (codes "(") ∷ (text ++ MarkOf (codes ")") ∷ [])
grouped_pieces false text = text

abbrev pub comma : List Piece
comma = MarkOf (codes ",") ∷ Space ∷ []

-- the names with commas between; what stands before the first is given
abbrev pub names_pieces : List Piece → List Name → List Piece
names_pieces before [] = []
names_pieces before (n ∷ more) = before ++ (WordOf n ∷ names_pieces comma more)

-- ---- types

abbrev pub conv_pieces : Conv → List Piece
conv_pieces conv.Let = []
conv_pieces conv.Inout = KeywordOf (codes "inout") ∷ Space ∷ []
conv_pieces conv.Sink = KeywordOf (codes "sink") ∷ Space ∷ []
conv_pieces conv.Set = KeywordOf (codes "set") ∷ Space ∷ []

abbrev mutual
  pub ty_pieces : CoreTy → List Piece
  ty_pieces (IntTy at) = KeywordOf (codes "Int") ∷ []
  ty_pieces (BoolTy at) = KeywordOf (codes "Bool") ∷ []
  ty_pieces (NamedTy name) = WordOf name ∷ []
  ty_pieces (ArrayTy at t) = MarkOf (codes "[") ∷ (ty_pieces t ++ MarkOf (codes "]") ∷ [])
  ty_pieces (FunTy at params) = KeywordOf (codes "fun") ∷ MarkOf (codes "(") ∷ (tys_pieces [] params ++ MarkOf (codes ")") ∷ [])
  ty_pieces (FunToTy at params t) = KeywordOf (codes "fun") ∷ MarkOf (codes "(") ∷ (tys_pieces [] params ++ (MarkOf (codes ")") ∷ Space ∷ MarkOf (codes "->") ∷ Space ∷ grouped_pieces (is_fun_ty t) (ty_pieces t)))

  pub tys_pieces : List Piece → CoreTys → List Piece
  tys_pieces before NoTys = []
  tys_pieces before (TyOf c t more) = before ++ (conv_pieces c ++ (ty_pieces t ++ tys_pieces comma more))

abbrev pub typed_pieces : Name → CoreTy → List Piece
typed_pieces name t = WordOf name ∷ (MarkOf (codes ":") ∷ Space ∷ ty_pieces t)

abbrev pub params_pieces : List Piece → List CoreParam → List Piece
params_pieces before [] = []
params_pieces before (p ∷ more) = before ++ (WordOf p.name ∷ (MarkOf (codes ":") ∷ Space ∷ (conv_pieces p.conv ++ (ty_pieces p.ty ++ params_pieces comma more))))

abbrev pub return_pieces : Option CoreTy → List Piece
return_pieces None = []
return_pieces (Some t) = Space ∷ MarkOf (codes "->") ∷ Space ∷ ty_pieces t

-- the type of a handle, if it is written
abbrev pub handle_pieces : Option CoreTy → List Piece
handle_pieces None = []
handle_pieces (Some t) = MarkOf (codes ":") ∷ Space ∷ ty_pieces t

-- ---- operators

abbrev pub operator_piece : Operator → Piece
operator_piece operator.Add = MarkOf (codes "+")
operator_piece operator.Sub = MarkOf (codes "-")
operator_piece operator.Mul = MarkOf (codes "*")
operator_piece operator.Div = MarkOf (codes "/")
operator_piece operator.Rem = MarkOf (codes "%")
operator_piece operator.Eq = MarkOf (codes "==")
operator_piece operator.Ne = MarkOf (codes "!=")
operator_piece operator.Lt = MarkOf (codes "<")
operator_piece operator.Le = MarkOf (codes "<=")
operator_piece operator.Gt = MarkOf (codes ">")
operator_piece operator.Ge = MarkOf (codes ">=")
operator_piece operator.And = MarkOf (codes "&&")
operator_piece operator.Or = MarkOf (codes "||")
operator_piece operator.Neg = MarkOf (codes "-")
operator_piece operator.Not = MarkOf (codes "!")

-- an operand of an operator that binds so tightly is in brackets where it binds no tighter itself
abbrev pub operand_pieces : ℕ → CoreExpr → List Piece → List Piece
operand_pieces outer x text = grouped_pieces (nat_le (expr_tightness x) outer) text

abbrev pub truth_pieces : Bool → List Piece
truth_pieces true = KeywordOf (codes "true") ∷ []
truth_pieces false = KeywordOf (codes "false") ∷ []

-- ---- expressions and statements

abbrev mutual
  pub expr_pieces : ℕ → CoreExpr → List Piece
  expr_pieces d (Number at z) = NumberOf z ∷ []
  expr_pieces d (Truth at b) = truth_pieces b
  expr_pieces d (Path at root steps) = WordOf root ∷ steps_pieces d steps
  expr_pieces d (Calls at c) = call_pieces d c
  expr_pieces d (Awaits at name) = KeywordOf (codes "await") ∷ Space ∷ WordOf name ∷ []
  expr_pieces d (Array at xs) = MarkOf (codes "[") ∷ (exprs_pieces d [] xs ++ MarkOf (codes "]") ∷ [])
  expr_pieces d (Filled at len value) = KeywordOf (codes "filled") ∷ MarkOf (codes "(") ∷ (expr_pieces d len ++ (comma ++ (expr_pieces d value ++ MarkOf (codes ")") ∷ [])))
  expr_pieces d (Count at root steps) = KeywordOf (codes "count") ∷ MarkOf (codes "(") ∷ (WordOf root ∷ (steps_pieces d steps ++ MarkOf (codes ")") ∷ []))
  expr_pieces d (Lambda at captures params result body) =
      KeywordOf (codes "fun") ∷ Space ∷ MarkOf (codes "[") ∷ (names_pieces [] captures ++ (MarkOf (codes "]") ∷ Space ∷ MarkOf (codes "(") ∷ (params_pieces [] params ++ (MarkOf (codes ")") ∷ (return_pieces result ++ block_pieces d body)))))
  expr_pieces d (Prefix at o x) = operator_piece o ∷ operand_pieces 5 x (expr_pieces d x)
  expr_pieces d (Chain at first links) = operand_pieces (links_tightness links) first (expr_pieces d first) ++ links_pieces d (links_tightness links) links

  pub exprs_pieces : ℕ → List Piece → CoreExprs → List Piece
  exprs_pieces d before NoExprs = []
  exprs_pieces d before (ExprOf x more) = before ++ (expr_pieces d x ++ exprs_pieces d comma more)

  pub links_pieces : ℕ → ℕ → CoreLinks → List Piece
  links_pieces d outer NoLinks = []
  links_pieces d outer (LinkOf o at x more) = Space ∷ (operator_piece o ∷ (Space ∷ (operand_pieces outer x (expr_pieces d x) ++ links_pieces d outer more)))

  pub steps_pieces : ℕ → CoreSteps → List Piece
  steps_pieces d NoSteps = []
  steps_pieces d (FieldStep name more) = MarkOf (codes ".") ∷ (WordOf name ∷ steps_pieces d more)
  steps_pieces d (IndexStep at x more) = MarkOf (codes "[") ∷ (expr_pieces d x ++ (MarkOf (codes "]") ∷ steps_pieces d more))

  pub call_pieces : ℕ → CoreCall → List Piece
  call_pieces d (CallOf root steps paren args) = WordOf root ∷ (steps_pieces d steps ++ (MarkOf (codes "(") ∷ (args_pieces d [] args ++ MarkOf (codes ")") ∷ [])))

  pub args_pieces : ℕ → List Piece → CoreArgs → List Piece
  args_pieces d before NoArgs = []
  args_pieces d before (ValueArg x more) = before ++ (expr_pieces d x ++ args_pieces d comma more)
  args_pieces d before (RefArg at root steps more) = before ++ (MarkOf (codes "&") ∷ (WordOf root ∷ (steps_pieces d steps ++ args_pieces d comma more)))

  -- behind what stands before it in its line
  pub block_pieces : ℕ → CoreBlock → List Piece
  block_pieces d (BlockOf stmts end) = Space ∷ MarkOf (codes "{") ∷ (LineFeed ∷ (stmts_pieces (suc d) stmts ++ (indent_pieces d ++ MarkOf (codes "}") ∷ [])))

  -- a block that is a statement
  pub bare_pieces : ℕ → CoreBlock → List Piece
  bare_pieces d (BlockOf stmts end) = MarkOf (codes "{") ∷ (LineFeed ∷ (stmts_pieces (suc d) stmts ++ (indent_pieces d ++ MarkOf (codes "}") ∷ [])))

  -- each statement is a line
  pub stmts_pieces : ℕ → CoreStmts → List Piece
  stmts_pieces d NoStmts = []
  stmts_pieces d (StmtOf x more) = indent_pieces d ++ (stmt_pieces d x ++ (LineFeed ∷ stmts_pieces d more))

  pub branches_pieces : ℕ → List Piece → CoreBranches → List Piece
  branches_pieces d before NoElse = []
  branches_pieces d before (Else body) = Space ∷ KeywordOf (codes "else") ∷ block_pieces d body
  branches_pieces d before (BranchOf test body more) = before ++ (expr_pieces d test ++ (block_pieces d body ++ branches_pieces d (Space ∷ KeywordOf (codes "else") ∷ Space ∷ KeywordOf (codes "if") ∷ Space ∷ []) more))

  pub stmt_pieces : ℕ → CoreStmt → List Piece
  stmt_pieces d (Var at name t) = KeywordOf (codes "var") ∷ Space ∷ typed_pieces name t
  stmt_pieces d (VarWith at name t x) = KeywordOf (codes "var") ∷ Space ∷ (typed_pieces name t ++ (Space ∷ MarkOf (codes "=") ∷ Space ∷ expr_pieces d x))
  stmt_pieces d (Let at name t x) = KeywordOf (codes "let") ∷ Space ∷ (typed_pieces name t ++ (Space ∷ MarkOf (codes "=") ∷ Space ∷ expr_pieces d x))
  stmt_pieces d (Inout at name t root steps) = KeywordOf (codes "inout") ∷ Space ∷ (typed_pieces name t ++ (Space ∷ MarkOf (codes "=") ∷ Space ∷ MarkOf (codes "&") ∷ (WordOf root ∷ steps_pieces d steps)))
  stmt_pieces d (Assign at root steps x) = MarkOf (codes "&") ∷ (WordOf root ∷ (steps_pieces d steps ++ (Space ∷ MarkOf (codes "=") ∷ Space ∷ expr_pieces d x)))
  stmt_pieces d (If at branches) = branches_pieces d (KeywordOf (codes "if") ∷ Space ∷ []) branches
  stmt_pieces d (While at test body) = KeywordOf (codes "while") ∷ Space ∷ (expr_pieces d test ++ block_pieces d body)
  stmt_pieces d (Return at) = KeywordOf (codes "return") ∷ MarkOf (codes ";") ∷ []
  stmt_pieces d (ReturnWith at x) = KeywordOf (codes "return") ∷ Space ∷ expr_pieces d x
  stmt_pieces d (Print at x) = KeywordOf (codes "print") ∷ MarkOf (codes "(") ∷ (expr_pieces d x ++ MarkOf (codes ")") ∷ [])
  stmt_pieces d (Task at handle t spawn budget c) = KeywordOf (codes "task") ∷ Space ∷ (WordOf handle ∷ (handle_pieces t ++ (Space ∷ MarkOf (codes "=") ∷ Space ∷ KeywordOf (codes "spawn") ∷ MarkOf (codes "(") ∷ (expr_pieces d budget ++ (MarkOf (codes ")") ∷ Space ∷ call_pieces d c)))))
  stmt_pieces d (AwaitsAlone at name) = KeywordOf (codes "await") ∷ Space ∷ WordOf name ∷ []
  stmt_pieces d (CallsAlone at c) = call_pieces d c
  stmt_pieces d (Bare at body) = bare_pieces d body

-- ---- declarations

abbrev pub fields_pieces : List CoreField → List Piece
fields_pieces [] = []
fields_pieces (f ∷ more) = Space ∷ Space ∷ KeywordOf (codes "var") ∷ Space ∷ (typed_pieces f.name f.ty ++ (LineFeed ∷ fields_pieces more))

abbrev pub decl_pieces : CoreDecl → List Piece
decl_pieces (StructOf s) = KeywordOf (codes "struct") ∷ Space ∷ (WordOf s.name ∷ (Space ∷ MarkOf (codes "{") ∷ (LineFeed ∷ (fields_pieces s.fields ++ (MarkOf (codes "}") ∷ LineFeed ∷ [])))))
decl_pieces (FunOf f) = KeywordOf (codes "fun") ∷ Space ∷ (WordOf f.name ∷ (MarkOf (codes "(") ∷ (params_pieces [] f.params ++ (MarkOf (codes ")") ∷ (return_pieces f.result ++ (block_pieces 0 f.body ++ LineFeed ∷ []))))))

abbrev pub decls_pieces : List CoreDecl → List Piece
decls_pieces [] = []
decls_pieces (x ∷ more) = decl_pieces x ++ decls_pieces more

-- the printed form of a program
abbrev pub Pieces : Tree → List Piece
Pieces tree = decls_pieces (core_tree tree).decls
