-- The violations of the rules of names as one walk finds them. `seen` has the texts of the visible locals, `known` those of a body's locals so far.
use Rattle.std.specs.List.{list_any}
use Rattle.std.specs.Str.{bytes_eq}
use Rattle.std.specs.Prelude.{ℕ, ◌+◌, Bool, false, codes, if◌then◌else◌, not, nat_le, ◌&&◌, List, [], ◌∷◌, ◌++◌, map, Option, Some, None, slice_get}
use Rattle.hv_tree.specs.declared.place.Place.{Place}
use Rattle.hv_tree.specs.declared.types.Name.{Name}
use Rattle.hv_tree.specs.declared.refusal.Rule.{Rule}
use Rattle.hv_tree.specs.declared.refusal.Rule.TheVariants as rule
use Rattle.hv_tree.specs.declared.refusal.Refusal.{Refusal}
use Rattle.hv_tree.specs.declared.ast.Block.{Block}
use Rattle.hv_tree.specs.Core.{core_block, CoreDecl, StructOf, FunOf, CoreField, CoreParam, CoreTy, IntTy, BoolTy, NamedTy, ArrayTy, FunTy, FunToTy, CoreTys, NoTys, TyOf, CoreExpr, Number, Truth, Path, Calls, Awaits, Array, Filled, Count, Lambda, Prefix, Chain, CoreExprs, NoExprs, ExprOf, CoreLinks, NoLinks, LinkOf, CoreSteps, NoSteps, FieldStep, IndexStep, CoreCall, CallOf, CoreArgs, NoArgs, ValueArg, RefArg, CoreBlock, BlockOf, CoreStmts, NoStmts, StmtOf, CoreBranches, NoElse, Else, BranchOf, CoreStmt, Var, VarWith, Let, Inout, Assign, If, While, Return, ReturnWith, Print, Task, AwaitsAlone, CallsAlone, Bare}
use Rattle.hv_type_rules.specs.Names as names
use Rattle.hv_type_names.specs.declared.program.Program.{Program}
use Rattle.hv_symbols.specs.Texts.{has, index_of}

abbrev pub refusal : Rule → Place → Refusal
refusal r place = record { rule = r; place = place }

-- the refusal where the test says so
abbrev pub only : Bool → Refusal → List Refusal
only b r = if b then r ∷ [] else []

abbrev pub name_text : Name → List ℕ
name_text n = n.text

abbrev pub param_name : CoreParam → Name
param_name p = p.name

abbrev pub field_name : CoreField → Name
field_name f = names.field_name f

-- the texts of names
abbrev pub texts_of : List Name → List (List ℕ)
texts_of names = map name_text names

-- ---- names that are declared

-- the name that a statement declares for the rest of its block
abbrev pub bound : CoreStmt → Option Name
bound (Var at name t) = Some name
bound (VarWith at name t x) = Some name
bound (Let at name t x) = Some name
bound (Inout at name t root steps) = Some name
bound (Assign at root steps x) = None
bound (If at branches) = None
bound (While at test body) = None
bound (Return at) = None
bound (ReturnWith at x) = None
bound (Print at x) = None
bound (Task at name t spawn budget call) = Some name
bound (AwaitsAlone at name) = None
bound (CallsAlone at call) = None
bound (Bare at block) = None

-- what is seen behind a statement
abbrev pub behind : List (List ℕ) → Option Name → List (List ℕ)
behind seen None = seen
behind seen (Some name) = seen ++ name.text ∷ []

-- a name or none
abbrev pub bound_names : Option Name → List Name
bound_names None = []
bound_names (Some name) = name ∷ []

abbrev mutual
  -- the names that the blocks of a statement declare
  pub inner_names : CoreStmt → List Name
  inner_names (Var at name t) = []
  inner_names (VarWith at name t x) = []
  inner_names (Let at name t x) = []
  inner_names (Inout at name t root steps) = []
  inner_names (Assign at root steps x) = []
  inner_names (If at branches) = branches_names branches
  inner_names (While at test body) = block_names body
  inner_names (Return at) = []
  inner_names (ReturnWith at x) = []
  inner_names (Print at x) = []
  inner_names (Task at name t spawn budget call) = []
  inner_names (AwaitsAlone at name) = []
  inner_names (CallsAlone at call) = []
  inner_names (Bare at block) = block_names block

  pub branches_names : CoreBranches → List Name
  branches_names NoElse = []
  branches_names (Else block) = block_names block
  branches_names (BranchOf test body rest) = block_names body ++ branches_names rest

  pub block_names : CoreBlock → List Name
  block_names (BlockOf stmts end) = stmts_names stmts

  pub stmts_names : CoreStmts → List Name
  stmts_names NoStmts = []
  stmts_names (StmtOf x rest) = (bound_names (bound x) ++ inner_names x) ++ stmts_names rest

-- the names that a statement declares, those in its blocks included
abbrev pub stmt_names : CoreStmt → List Name
stmt_names x = bound_names (bound x) ++ inner_names x

-- the names that the last block of a statement declares
abbrev pub else_names : Option Block → List Name
else_names None = []
else_names (Some b) = block_names (core_block b)

-- a name that is known already
abbrev pub again_found : List (List ℕ) → Name → List Refusal
again_found known name = only (has known name.text) (refusal rule.N1 name.place)

-- names of which one before has the same text
abbrev pub repeats_found : List (List ℕ) → List Name → List Refusal
repeats_found known [] = []
repeats_found known (n ∷ ns) = again_found known n ++ repeats_found (known ++ n.text ∷ []) ns

-- captures, which stand for locals around them
abbrev pub capture_found : List (List ℕ) → Name → List Refusal
capture_found seen name = only (not (has seen name.text)) (refusal rule.N2 name.place)

abbrev pub captures_found : List (List ℕ) → List Name → List Refusal
captures_found seen [] = []
captures_found seen (n ∷ ns) = capture_found seen n ++ captures_found seen ns

-- ---- a program

module _ (p : Program) where
  -- the name that a local shares: at the local where that name is declared before it, else there
  abbrev pub shared_at : Name → ℕ → Option Place → List Refusal
  shared_at name first None = []
  shared_at name first (Some place) = refusal rule.N1 (if nat_le first p.number then name.place else place) ∷ []

  abbrev pub shared_by : Name → Option ℕ → List Refusal
  shared_by name None = []
  shared_by name (Some first) = shared_at name first (slice_get p.places first)

  abbrev pub shared_found : Name → List Refusal
  shared_found name = shared_by name (index_of p.tops name.text)

  -- a local that is declared
  abbrev pub local_found : List (List ℕ) → Name → List Refusal
  local_found known name = again_found known name ++ shared_found name

  -- locals that are declared one after the other
  abbrev pub locals_found : List (List ℕ) → List Name → List Refusal
  locals_found known [] = []
  locals_found known (n ∷ ns) = local_found known n ++ locals_found (known ++ n.text ∷ []) ns

  -- ---- names that are used

  -- a name in a type
  abbrev pub named_found : Name → List Refusal
  named_found name = only (not (has p.structs name.text)) (refusal rule.N2 name.place)

  abbrev mutual
    pub ty_found : CoreTy → List Refusal
    ty_found (IntTy at) = []
    ty_found (BoolTy at) = []
    ty_found (NamedTy name) = named_found name
    ty_found (ArrayTy at element) = ty_found element
    ty_found (FunTy at params) = tys_found params
    ty_found (FunToTy at params result) = tys_found params ++ ty_found result

    pub tys_found : CoreTys → List Refusal
    tys_found NoTys = []
    tys_found (TyOf c t rest) = ty_found t ++ tys_found rest

  abbrev pub option_ty_found : Option CoreTy → List Refusal
  option_ty_found None = []
  option_ty_found (Some t) = ty_found t

  abbrev pub params_found : List CoreParam → List Refusal
  params_found [] = []
  params_found (x ∷ xs) = ty_found x.ty ++ params_found xs

  abbrev pub fields_found : List CoreField → List Refusal
  fields_found [] = []
  fields_found (x ∷ xs) = ty_found x.ty ++ fields_found xs

  -- a name as a place's root, as a callee or in an await
  abbrev pub use_found : List (List ℕ) → Name → List Refusal
  use_found seen name = only (not (has seen name.text) && not (has p.tops name.text)) (refusal rule.N2 name.place)

  -- the names that a body declares
  abbrev pub declared_found : List Name → List CoreParam → CoreBlock → List Refusal
  declared_found captures params block =
      repeats_found [] captures
      ++ (locals_found (texts_of captures) (map param_name params) ++ locals_found (texts_of captures ++ texts_of (map param_name params)) (block_names block))

  abbrev mutual
    pub expr_found : List (List ℕ) → CoreExpr → List Refusal
    expr_found seen (Number at z) = []
    expr_found seen (Truth at b) = []
    expr_found seen (Path at root steps) = use_found seen root ++ steps_found seen steps
    expr_found seen (Calls at call) = call_found seen call
    expr_found seen (Awaits at name) = use_found seen name
    expr_found seen (Array at xs) = exprs_found seen xs
    expr_found seen (Filled at len value) = expr_found seen len ++ expr_found seen value
    expr_found seen (Count at root steps) = use_found seen root ++ steps_found seen steps
    expr_found seen (Lambda at captures params result body) =
        (params_found params ++ (option_ty_found result ++ captures_found seen captures))
        ++ (declared_found captures params body ++ block_found (texts_of captures ++ texts_of (map param_name params)) body)
    expr_found seen (Prefix at o x) = expr_found seen x
    expr_found seen (Chain at first links) = expr_found seen first ++ links_found seen links

    pub exprs_found : List (List ℕ) → CoreExprs → List Refusal
    exprs_found seen NoExprs = []
    exprs_found seen (ExprOf x rest) = expr_found seen x ++ exprs_found seen rest

    pub links_found : List (List ℕ) → CoreLinks → List Refusal
    links_found seen NoLinks = []
    links_found seen (LinkOf o at x rest) = expr_found seen x ++ links_found seen rest

    pub steps_found : List (List ℕ) → CoreSteps → List Refusal
    steps_found seen NoSteps = []
    steps_found seen (FieldStep name rest) = steps_found seen rest
    steps_found seen (IndexStep at x rest) = expr_found seen x ++ steps_found seen rest

    pub call_found : List (List ℕ) → CoreCall → List Refusal
    call_found seen (CallOf root steps at args) = use_found seen root ++ (steps_found seen steps ++ args_found seen args)

    pub args_found : List (List ℕ) → CoreArgs → List Refusal
    args_found seen NoArgs = []
    args_found seen (ValueArg x rest) = expr_found seen x ++ args_found seen rest
    args_found seen (RefArg at root steps rest) = use_found seen root ++ (steps_found seen steps ++ args_found seen rest)

    pub block_found : List (List ℕ) → CoreBlock → List Refusal
    block_found seen (BlockOf stmts end) = stmts_found seen stmts

    pub stmts_found : List (List ℕ) → CoreStmts → List Refusal
    stmts_found seen NoStmts = []
    stmts_found seen (StmtOf x rest) = stmt_found seen x ++ stmts_found (behind seen (bound x)) rest

    pub branches_found : List (List ℕ) → CoreBranches → List Refusal
    branches_found seen NoElse = []
    branches_found seen (Else block) = block_found seen block
    branches_found seen (BranchOf test body rest) = expr_found seen test ++ (block_found seen body ++ branches_found seen rest)

    pub stmt_found : List (List ℕ) → CoreStmt → List Refusal
    stmt_found seen (Var at name t) = ty_found t
    stmt_found seen (VarWith at name t x) = ty_found t ++ expr_found seen x
    stmt_found seen (Let at name t x) = ty_found t ++ expr_found seen x
    stmt_found seen (Inout at name t root steps) = ty_found t ++ (use_found seen root ++ steps_found seen steps)
    stmt_found seen (Assign at root steps x) = use_found seen root ++ (steps_found seen steps ++ expr_found seen x)
    stmt_found seen (If at branches) = branches_found seen branches
    stmt_found seen (While at test body) = expr_found seen test ++ block_found seen body
    stmt_found seen (Return at) = []
    stmt_found seen (ReturnWith at x) = expr_found seen x
    stmt_found seen (Print at x) = expr_found seen x
    stmt_found seen (Task at name t spawn budget call) = option_ty_found t ++ (expr_found seen budget ++ call_found seen call)
    stmt_found seen (AwaitsAlone at name) = use_found seen name
    stmt_found seen (CallsAlone at call) = call_found seen call
    stmt_found seen (Bare at block) = block_found seen block

  -- a body: what it declares, and what its block has
  abbrev pub body_found : List Name → List CoreParam → CoreBlock → List Refusal
  body_found captures params body = declared_found captures params body ++ block_found (texts_of captures ++ texts_of (map param_name params)) body

  -- what stands before the body of a lambda
  abbrev pub header_found : List (List ℕ) → List Name → List CoreParam → Option CoreTy → List Refusal
  header_found seen captures params result = params_found params ++ (option_ty_found result ++ captures_found seen captures)

  -- a declaration
  abbrev pub decl_found : CoreDecl → List Refusal
  decl_found (StructOf s) = repeats_found [] (map field_name s.fields) ++ fields_found s.fields
  decl_found (FunOf f) =
      params_found f.params ++ (option_ty_found f.result ++ body_found [] f.params f.body)

-- ---- the whole program

abbrev pub decl_name : CoreDecl → Name
decl_name d = names.decl_name d

abbrev pub place_of : Name → Place
place_of n = n.place

-- the names of declarations
abbrev pub decl_names : List CoreDecl → List Name
decl_names decls = map decl_name decls

-- the name of a struct
abbrev pub struct_text : CoreDecl → List (List ℕ)
struct_text (StructOf s) = s.name.text ∷ []
struct_text (FunOf f) = []

-- the names of the structs
abbrev pub struct_texts : List CoreDecl → List (List ℕ)
struct_texts [] = []
struct_texts (d ∷ ds) = struct_text d ++ struct_texts ds

-- what a walk knows in the declaration with this number
abbrev pub program_of : List CoreDecl → ℕ → Program
program_of decls n = record { structs = struct_texts decls; tops = texts_of (decl_names decls); places = map place_of (decl_names decls); number = n }

-- the same in another declaration
abbrev pub in_decl : Program → ℕ → Program
in_decl p n = record { structs = p.structs; tops = p.tops; places = p.places; number = n }

-- declarations from this number on
abbrev pub decls_found : Program → ℕ → List CoreDecl → List Refusal
decls_found p n [] = []
decls_found p n (d ∷ ds) = decl_found (in_decl p n) d ++ decls_found p (n + 1) ds

-- a function `main` without parameters and result
abbrev pub is_main_by : List ℕ → List CoreParam → Option CoreTy → Bool
is_main_by text [] None = bytes_eq text (codes "main")
is_main_by text [] (Some t) = false
is_main_by text (x ∷ xs) result = false

abbrev pub is_main : CoreDecl → Bool
is_main (StructOf s) = false
is_main (FunOf f) = is_main_by f.name.text f.params f.result

-- one of the declarations is `main`
abbrev pub has_main : List CoreDecl → Bool
has_main decls = list_any is_main decls

abbrev pub main_found : List CoreDecl → List Refusal
main_found decls = only (not (has_main decls)) (refusal rule.N3 (record { start = 0 }))

-- all that is found
abbrev pub all_found : List CoreDecl → List Refusal
all_found decls = repeats_found [] (decl_names decls) ++ (decls_found (program_of decls 0) 0 decls ++ main_found decls)
