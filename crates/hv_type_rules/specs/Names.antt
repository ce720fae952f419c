-- The rules of names.
use Rattle.std.specs.Prelude.{◌≡◌, ◌⊎◌, ℕ, List, [], ◌∷◌, ◌++◌, map, None, Contains, codes}
use Rattle.hv_tree.specs.declared.place.Place.{Place}
use Rattle.hv_tree.specs.declared.types.Name.{Name}
use Rattle.hv_tree.specs.declared.refusal.Rule.{Rule}
use Rattle.hv_tree.specs.declared.refusal.Rule.TheVariants as rule
use Rattle.hv_tree.specs.Core.{Core, CoreDecl, StructOf, FunOf, CoreFun, CoreStruct, CoreField, CoreParam, CoreTy, IntTy, BoolTy, NamedTy, ArrayTy, FunTy, FunToTy, CoreTys, NoTys, TyOf, CoreExpr, Awaits, Lambda, CoreStmt, Var, VarWith, Let, Inout, Task, AwaitsAlone}
use Rattle.hv_decls.specs.Types.{struct_in}
use Rattle.hv_decls.specs.Locals.{Local, Captured, listed, CoreBody, locals_of, local_in}
use Rattle.hv_decls.specs.Sites.{Part, ExprPart, CallPart, PlacePart, StmtPart, TestPart, Site, sites_of, decl_bodies, bodies_of}

-- ---- declared twice

-- the name of a declaration
abbrev pub decl_name : CoreDecl → Name
decl_name (StructOf s) = s.name
decl_name (FunOf f) = f.name

-- the name of a field
abbrev pub field_name : CoreField → Name
field_name f = f.name

-- the name of a local
abbrev pub local_name : Local → Name
local_name l = l.name

-- one of the names has this text
abbrev pub Named : List Name → List ℕ → Type 0
Named names text = (n : Name) × Contains names n × (n.text ≡ text)

-- a name of the list stands there and one before it has the same text
pub record Repeats (names : List Name) (place : Place) : Type 0 where
  pub before : List Name
  pub again : Name
  pub after : List Name
  pub is : names ≡ before ++ again ∷ after
  pub known : Named before again.text
  pub at : again.place ≡ place

-- A local has a top-level name: at the local, where the top-level name is declared before it, else at the top-level name. A capture declares no name of its own.
pub record SharesName (tree : Core) (place : Place) : Type 0 where
  pub before : List CoreDecl
  pub decl : CoreDecl
  pub after : List CoreDecl
  pub is : tree.decls ≡ before ++ decl ∷ after
  pub body : CoreBody
  pub of : Contains (decl_bodies (decl ∷ [])) body
  pub local : Local
  pub declared : Contains (locals_of body) local
  pub own : local.kind ≡ Captured → ⊥
  pub later : (Named (map decl_name (before ++ decl ∷ [])) local.name.text × (local.name.place ≡ place)) ⊎
      ((n : Name) × Contains (map decl_name after) n × (n.text ≡ local.name.text) × (n.place ≡ place))

-- a name is declared a second time
pub data ViolatesN1 (tree : Core) (place : Place) : Type 0 where
  top_level : Repeats (map decl_name tree.decls) place → ViolatesN1 tree place
  of_fields : (s : CoreStruct) → Contains tree.decls (StructOf s) → Repeats (map field_name s.fields) place → ViolatesN1 tree place
  in_body : (body : CoreBody) → Contains (bodies_of tree) body → Repeats (map local_name (locals_of body)) place → ViolatesN1 tree place
  shared : SharesName tree place → ViolatesN1 tree place

-- ---- names for nothing

abbrev mutual
  -- the names in a type
  pub names_in : CoreTy → List Name
  names_in (IntTy at) = []
  names_in (BoolTy at) = []
  names_in (NamedTy name) = name ∷ []
  names_in (ArrayTy at element) = names_in element
  names_in (FunTy at params) = names_of params
  names_in (FunToTy at params result) = names_of params ++ names_in result

  -- the names in the types of parameters
  pub names_of : CoreTys → List Name
  names_of NoTys = []
  names_of (TyOf c t rest) = names_in t ++ names_of rest

-- the names in types
abbrev pub names_in_all : List CoreTy → List Name
names_in_all [] = []
names_in_all (t ∷ ts) = names_in t ++ names_in_all ts

-- the type of a parameter as it is written
abbrev pub param_type : CoreParam → CoreTy
param_type p = p.ty

-- the type of a field as it is written
abbrev pub field_type : CoreField → CoreTy
field_type f = f.ty

-- the types of a declaration
abbrev pub types_of_decl : CoreDecl → List CoreTy
types_of_decl (StructOf s) = map field_type s.fields
types_of_decl (FunOf f) = map param_type f.params ++ listed f.result

-- the types that a statement writes itself
abbrev pub types_of_stmt : CoreStmt → List CoreTy
types_of_stmt (Var at name t) = t ∷ []
types_of_stmt (VarWith at name t x) = t ∷ []
types_of_stmt (Let at name t x) = t ∷ []
types_of_stmt (Inout at name t root steps) = t ∷ []
types_of_stmt (Task at name t spawn budget call) = listed t
types_of_stmt _ = []

-- the types that an expression writes itself
abbrev pub types_of_expr : CoreExpr → List CoreTy
types_of_expr (Lambda at captures params result body) = map param_type params ++ listed result
types_of_expr _ = []

-- the types that a part writes itself
abbrev pub types_of : Part → List CoreTy
types_of (ExprPart x) = types_of_expr x
types_of (CallPart call) = []
types_of (PlacePart root steps) = []
types_of (StmtPart x) = types_of_stmt x
types_of (TestPart x) = []

-- the names that a part uses as a place's root, as a callee or in an await
abbrev pub used_by_expr : CoreExpr → List Name
used_by_expr (Awaits at name) = name ∷ []
used_by_expr _ = []

abbrev pub used_by_stmt : CoreStmt → List Name
used_by_stmt (AwaitsAlone at name) = name ∷ []
used_by_stmt _ = []

abbrev pub used_by : Part → List Name
used_by (ExprPart x) = used_by_expr x
used_by (CallPart call) = []
used_by (PlacePart root steps) = root ∷ []
used_by (StmtPart x) = used_by_stmt x
used_by (TestPart x) = []

-- the names that a part captures
abbrev pub captured_by_expr : CoreExpr → List Name
captured_by_expr (Lambda at captures params result body) = captures
captured_by_expr _ = []

-- the names that a part captures
abbrev pub captured_by : Part → List Name
captured_by (ExprPart x) = captured_by_expr x
captured_by (CallPart call) = []
captured_by (PlacePart root steps) = []
captured_by (StmtPart x) = []
captured_by (TestPart x) = []

-- no struct has the name
abbrev pub NoStruct : Core → Name → Type 0
NoStruct tree name = struct_in tree.decls name.text ≡ None

-- no visible local has the name
abbrev pub NoLocal : List Local → Name → Type 0
NoLocal visible name = local_in visible name.text ≡ None

-- neither a visible local nor a top-level declaration has the name
abbrev pub NothingVisible : Core → List Local → Name → Type 0
NothingVisible tree visible name = NoLocal visible name × (Named (map decl_name tree.decls) name.text → ⊥)

-- a name stands for nothing that it could
pub data ViolatesN2 (tree : Core) (place : Place) : Type 0 where
  in_decl : (d : CoreDecl) (n : Name) → Contains tree.decls d → Contains (names_in_all (types_of_decl d)) n → NoStruct tree n → n.place ≡ place → ViolatesN2 tree place
  in_type : (w : Site) (n : Name) → Contains (sites_of tree) w → Contains (names_in_all (types_of w.part)) n → NoStruct tree n → n.place ≡ place → ViolatesN2 tree place
  as_used : (w : Site) (n : Name) → Contains (sites_of tree) w → Contains (used_by w.part) n → NothingVisible tree w.scope.visible n → n.place ≡ place → ViolatesN2 tree place
  as_captured : (w : Site) (n : Name) → Contains (sites_of tree) w → Contains (captured_by w.part) n → NoLocal w.scope.visible n → n.place ≡ place → ViolatesN2 tree place

-- ---- the beginning

-- a function `main` without parameters and result
abbrev pub HasMain : Core → Type 0
HasMain tree = (f : CoreFun) × Contains tree.decls (FunOf f) × (f.name.text ≡ codes "main") × (f.params ≡ []) × (f.result ≡ None)

-- there is none; the place is the beginning of the source
abbrev pub ViolatesN3 : Core → Place → Type 0
ViolatesN3 tree place = (HasMain tree → ⊥) × (place.start ≡ 0)

-- the program violates this rule of names there
abbrev pub IsViolatedByNames : Core → Rule → Place → Type 0
IsViolatedByNames tree rule.N1 place = ViolatesN1 tree place
IsViolatedByNames tree rule.N2 place = ViolatesN2 tree place
IsViolatedByNames tree rule.N3 place = ViolatesN3 tree place
IsViolatedByNames tree _ place = ⊥
