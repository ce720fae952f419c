-- The rules of types: at which place a part violates which rule, judged by the declarations that are visible where it stands.
use Rattle.std.specs.Prelude.{◌≡◌, ◌≢◌, ◌⊎◌, ◌<◌, ℕ, false, List, [], ◌∷◌, length, Option, Some, None, Contains}
use Rattle.hv_tree.specs.declared.place.Place.{Place}
use Rattle.hv_tree.specs.declared.types.Name.{Name}
use Rattle.hv_tree.specs.declared.types.Conv.{Conv}
use Rattle.hv_tree.specs.declared.types.Conv.TheVariants as conv
use Rattle.hv_tree.specs.declared.refusal.Rule.{Rule}
use Rattle.hv_tree.specs.declared.refusal.Rule.TheVariants as rule
use Rattle.hv_tree.specs.declared.ast.Operator.{Operator}
use Rattle.hv_tree.specs.Core.{Core, StructOf, CoreStruct, CoreTy, CoreExpr, Number, Truth, Path, Calls, Awaits, Array, Filled, Count, Lambda, Prefix, Chain, CoreExprs, NoExprs, ExprOf, CoreLinks, NoLinks, LinkOf, CoreSteps, NoSteps, FieldStep, IndexStep, CoreCall, CallOf, CoreArgs, NoArgs, ValueArg, RefArg, CoreStmt, VarWith, Let, Inout, Assign, Return, ReturnWith, Print, Task, AwaitsAlone}
use Rattle.hv_decls.specs.Types.{ValueType, IntType, BoolType, StructType, ArrayType, FunType, FunToType, ParamTypes, meant, option_meant, struct_in, field_types, field_of, element_of, within, leaves_of, most_depth, most_leaves}
use Rattle.hv_decls.specs.Locals.{LocalKind, Captured, Passed, VarBound, LetBound, InoutBound, Handle, Local, local_in, value_of}
use Rattle.hv_decls.specs.Sites.{Part, ExprPart, CallPart, PlacePart, StmtPart, TestPart, Scope, Site, sites_of}
use Rattle.hv_decls.specs.Statics.{field_at, element_at, type_at}
use Rattle.hv_type_rules.specs.Typing.{Known, Unknown, Nothing, Is, known, or_nothing, operand_type, Wanted, Signature, NoSignature, Signed, signature_of, place_type, type_of, first_type}

-- the place of an expression's first token
abbrev pub expr_place : CoreExpr → Place
expr_place (Number at z) = at
expr_place (Truth at b) = at
expr_place (Path at root steps) = at
expr_place (Calls at call) = at
expr_place (Awaits at name) = at
expr_place (Array at xs) = at
expr_place (Filled at len value) = at
expr_place (Count at root steps) = at
expr_place (Lambda at captures params result body) = at
expr_place (Prefix at o x) = at
expr_place (Chain at first links) = at

-- ---- types that don't fit

-- a position that asks for this type, or for any value, has something else
abbrev pub Misfits : Option ValueType → Known → Type 0
Misfits asked Unknown = ⊥
Misfits asked Nothing = Unit {0}
Misfits None (Is t) = ⊥
Misfits (Some a) (Is t) = t ≢ a

-- a known type, and not this one
abbrev pub Other : ValueType → Option ValueType → Type 0
Other a None = ⊥
Other a (Some t) = t ≢ a

-- both are known and differ
abbrev pub Differ : Known → Known → Type 0
Differ Unknown b = ⊥
Differ a Unknown = ⊥
Differ Nothing Nothing = ⊥
Differ Nothing (Is t) = Unit {0}
Differ (Is t) Nothing = Unit {0}
Differ (Is t) (Is u) = t ≢ u

-- the position asks for two equal types
abbrev pub IsEquality : Operator → Type 0
IsEquality o = operand_type o ≡ None

-- a value of this type has function values in it
pub data HoldsFunction (tree : Core) : ValueType → Type 0 where
  is_fun : {t : ValueType} (params : ParamTypes) → t ≡ FunType params → HoldsFunction tree t
  is_fun_to : {t : ValueType} (params : ParamTypes) (result : ValueType) → t ≡ FunToType params result → HoldsFunction tree t
  in_element : {t : ValueType} (element : ValueType) → t ≡ ArrayType element → HoldsFunction tree element → HoldsFunction tree t
  in_field : {t : ValueType} (s : List ℕ) (field : ValueType) → t ≡ StructType s → Contains (field_types tree s) field → HoldsFunction tree field → HoldsFunction tree t

-- it is known that there are function values in it
abbrev pub KnownToHold : Core → Known → Type 0
KnownToHold tree Unknown = ⊥
KnownToHold tree Nothing = ⊥
KnownToHold tree (Is t) = HoldsFunction tree t

-- a written result, which may lack
abbrev pub result_known : Option CoreTy → Known
result_known t = or_nothing (option_meant t)

-- ---- kinds of names

-- the name is that of no local value: of a handle, or of no local at all
abbrev pub IsHandleKind : LocalKind → Type 0
IsHandleKind k = k ≡ Handle

abbrev pub NoValue : Option Local → Type 0
NoValue None = Unit {0}
NoValue (Some l) = IsHandleKind l.kind

-- the name is that of no handle
abbrev pub NoHandle : Option Local → Type 0
NoHandle None = Unit {0}
NoHandle (Some l) = IsHandleKind l.kind → ⊥

-- the name is that of a handle
abbrev pub IsHandle : Option Local → Type 0
IsHandle None = ⊥
IsHandle (Some l) = IsHandleKind l.kind

-- what may only be read
abbrev pub IsReadOnlyKind : LocalKind → Type 0
IsReadOnlyKind Captured = Unit {0}
IsReadOnlyKind (Passed c) = c ≡ conv.Let
IsReadOnlyKind VarBound = ⊥
IsReadOnlyKind LetBound = Unit {0}
IsReadOnlyKind InoutBound = ⊥
IsReadOnlyKind Handle = ⊥

-- the name is that of a local that may only be read
abbrev pub IsReadOnly : Option Local → Type 0
IsReadOnly None = ⊥
IsReadOnly (Some l) = IsReadOnlyKind l.kind

-- a struct has the name
abbrev pub IsStructName : Core → Name → Type 0
IsStructName tree name = struct_in tree.decls name.text ≢ None

-- a step is an index
abbrev pub HasIndex : CoreSteps → Type 0
HasIndex NoSteps = ⊥
HasIndex (FieldStep name rest) = HasIndex rest
HasIndex (IndexStep at x rest) = Unit {0}

-- ---- the rules, each of a part with its place

module _ (tree : Core) (scope : Scope) (place : Place) where
  -- the visible local with the name
  abbrev pub local_named : Name → Option Local
  local_named name = local_in scope.visible name.text

  -- the type of an expression that stands here
  abbrev pub type_here : CoreExpr → Known
  type_here x = type_of tree scope.visible x

  -- the violation is here
  abbrev pub Here : Place → Type 0
  Here at = at ≡ place

  -- an expression that doesn't fit its position
  abbrev pub Wrong : Option ValueType → CoreExpr → Type 0
  Wrong asked x = Here (expr_place x) × Misfits asked (type_here x)

  -- ---- T1, the type that a position asks for

  -- a known type that is no array
  abbrev pub NoArray : Option ValueType → Type 0
  NoArray None = ⊥
  NoArray (Some t) = element_of t ≡ None

  -- an index is no Int, or what is indexed is no array, behind something of this type
  abbrev pub StepMisfits : Option ValueType → CoreSteps → Type 0
  StepMisfits t NoSteps = ⊥
  StepMisfits t (FieldStep name rest) = StepMisfits (type_at (field_at tree t name)) rest
  StepMisfits t (IndexStep at x rest) = (NoArray t × Here at) ⊎ Wrong (Some IntType) x ⊎ StepMisfits (element_at t) rest

  -- an element that hasn't the type of the first
  abbrev pub ElementMisfits : Known → CoreExprs → Type 0
  ElementMisfits first NoExprs = ⊥
  ElementMisfits first (ExprOf x rest) = Wrong (asked first) x ⊎ ElementMisfits first rest
    where
      asked : Known → Option ValueType
      asked Unknown = None
      asked Nothing = None
      asked (Is t) = Some t

  -- an operand of a chain, behind its first one
  abbrev pub OperandMisfits : CoreExpr → CoreLinks → Type 0
  OperandMisfits first NoLinks = ⊥
  OperandMisfits first (LinkOf o at x rest) =
      Wrong (operand_type o) x ⊎ (IsEquality o × Here at × Differ (type_here first) (type_here x)) ⊎ OperandMisfits x rest

  -- the first operand, or one behind it
  abbrev pub ChainMisfits : CoreExpr → CoreLinks → Type 0
  ChainMisfits first NoLinks = ⊥
  ChainMisfits first (LinkOf o at x rest) = Wrong (operand_type o) first ⊎ OperandMisfits first (LinkOf o at x rest)

  -- an argument of another type than what it is for
  abbrev pub ArgMisfits : List Wanted → CoreArgs → Type 0
  ArgMisfits wanted NoArgs = ⊥
  ArgMisfits [] (ValueArg x rest) = ⊥
  ArgMisfits [] (RefArg at root steps rest) = ⊥
  ArgMisfits (w ∷ ws) (ValueArg x rest) = Wrong (Some w.ty) x ⊎ ArgMisfits ws rest
  ArgMisfits (w ∷ ws) (RefArg at root steps rest) = (Here root.place × Other w.ty (place_type tree scope.visible root steps)) ⊎ ArgMisfits ws rest

  -- the same of a call
  abbrev pub CallMisfits : Signature → CoreArgs → Type 0
  CallMisfits NoSignature args = ⊥
  CallMisfits (Signed wanted t) args = ArgMisfits wanted args

  -- what is called is known and gives something else
  abbrev pub SignatureDiffers : Known → Signature → Type 0
  SignatureDiffers t NoSignature = ⊥
  SignatureDiffers t (Signed wanted u) = Differ t u

  -- the callee is a struct's name
  abbrev pub IsConstruction : Name → CoreSteps → Type 0
  IsConstruction root NoSteps = NoValue (local_named root) × IsStructName tree root
  IsConstruction root (FieldStep name rest) = ⊥
  IsConstruction root (IndexStep at x rest) = ⊥

  -- a task's callee is a struct's name, or its result isn't the handle's type
  abbrev pub TaskMisfits : Option CoreTy → CoreCall → Type 0
  TaskMisfits t (CallOf root steps at args) =
      Here root.place × (IsConstruction root steps ⊎ SignatureDiffers (result_known t) (signature_of tree scope.visible root steps))

  -- a returned value against the result of the body
  abbrev pub ReturnMisfits : Option CoreTy → CoreExpr → Type 0
  ReturnMisfits None x = Here (expr_place x)
  ReturnMisfits (Some t) x = Wrong (Some (meant t)) x

  -- in an expression
  abbrev pub ExprT1 : CoreExpr → Type 0
  ExprT1 (Array at xs) = ElementMisfits (first_type tree scope.visible xs) xs
  ExprT1 (Filled at len value) = Wrong (Some IntType) len ⊎ Wrong None value
  ExprT1 (Count at root steps) = NoArray (place_type tree scope.visible root steps) × Here at
  ExprT1 (Prefix at o x) = Wrong (operand_type o) x
  ExprT1 (Chain at first links) = ChainMisfits first links
  ExprT1 _ = ⊥

  -- in a statement
  abbrev pub StmtT1 : CoreStmt → Type 0
  StmtT1 (VarWith at name t x) = Wrong (Some (meant t)) x
  StmtT1 (Let at name t x) = Wrong (Some (meant t)) x
  StmtT1 (Inout at name t root steps) = Here root.place × Other (meant t) (place_type tree scope.visible root steps)
  StmtT1 (Assign at root steps x) = Wrong (place_type tree scope.visible root steps) x
  StmtT1 (Return at) = (scope.result ≢ None) × Here at
  StmtT1 (ReturnWith at x) = ReturnMisfits scope.result x
  StmtT1 (Print at x) = Wrong None x
  StmtT1 (Task at name t spawn budget call) = Wrong (Some IntType) budget ⊎ TaskMisfits t call
  StmtT1 _ = ⊥

  -- in a call
  abbrev pub CallT1 : CoreCall → Type 0
  CallT1 (CallOf root steps at args) = CallMisfits (signature_of tree scope.visible root steps) args

  -- something hasn't the type that its position asks for
  abbrev pub T1 : Part → Type 0
  T1 (ExprPart x) = ExprT1 x
  T1 (CallPart call) = CallT1 call
  T1 (PlacePart root steps) = StepMisfits (value_of (local_named root)) steps
  T1 (StmtPart x) = StmtT1 x
  T1 (TestPart x) = Wrong (Some BoolType) x

  -- ---- T2, the count of arguments

  -- how many arguments there are
  abbrev pub count_of : CoreArgs → ℕ
  count_of NoArgs = 0
  count_of (ValueArg x rest) = ℕ.suc (count_of rest)
  count_of (RefArg at root steps rest) = ℕ.suc (count_of rest)

  -- what is called takes more or fewer
  abbrev pub CountDiffers : Signature → CoreArgs → Type 0
  CountDiffers NoSignature args = ⊥
  CountDiffers (Signed wanted t) args = count_of args ≢ length wanted

  -- at the `(`
  abbrev pub CallT2 : CoreCall → Type 0
  CallT2 (CallOf root steps at args) = CountDiffers (signature_of tree scope.visible root steps) args × Here at

  -- a call has too many or too few arguments
  abbrev pub T2 : Part → Type 0
  T2 (CallPart call) = CallT2 call
  T2 _ = ⊥

  -- ---- T3, fields

  -- what is known has no such field
  abbrev pub NoField : Option ValueType → Name → Type 0
  NoField None name = ⊥
  NoField (Some t) name = field_of tree t name.text ≡ None

  -- a step behind something of this type
  abbrev pub StepsT3 : Option ValueType → CoreSteps → Type 0
  StepsT3 t NoSteps = ⊥
  StepsT3 t (FieldStep name rest) = (NoField t name × Here name.place) ⊎ StepsT3 (type_at (field_at tree t name)) rest
  StepsT3 t (IndexStep at x rest) = StepsT3 (element_at t) rest

  -- a step names no field
  abbrev pub T3 : Part → Type 0
  T3 (PlacePart root steps) = StepsT3 (value_of (local_named root)) steps
  T3 _ = ⊥

  -- ---- T5, the mark `&`

  -- an argument without `&` for what is changed
  abbrev pub LacksMark : Option Conv → Type 0
  LacksMark None = ⊥
  LacksMark (Some c) = (c ≡ conv.Inout) ⊎ (c ≡ conv.Set)

  -- one with `&` for what isn't
  abbrev pub HasMark : Option Conv → Type 0
  HasMark None = Unit {0}
  HasMark (Some c) = (c ≡ conv.Let) ⊎ (c ≡ conv.Sink)

  -- an argument and what it is for
  abbrev pub MarkDiffers : List Wanted → CoreArgs → Type 0
  MarkDiffers wanted NoArgs = ⊥
  MarkDiffers [] (ValueArg x rest) = ⊥
  MarkDiffers [] (RefArg at root steps rest) = ⊥
  MarkDiffers (w ∷ ws) (ValueArg x rest) = (LacksMark w.conv × Here (expr_place x)) ⊎ MarkDiffers ws rest
  MarkDiffers (w ∷ ws) (RefArg at root steps rest) = (HasMark w.conv × Here at) ⊎ MarkDiffers ws rest

  -- the arguments of a callee with this signature
  abbrev pub CallT5 : Signature → CoreArgs → Type 0
  CallT5 NoSignature args = ⊥
  CallT5 (Signed wanted t) args = MarkDiffers wanted args

  -- the arguments of a call
  abbrev pub CallMarks : CoreCall → Type 0
  CallMarks (CallOf root steps at args) = CallT5 (signature_of tree scope.visible root steps) args

  -- an argument has a `&` too many or lacks one
  abbrev pub T5 : Part → Type 0
  T5 (CallPart call) = CallMarks call
  T5 _ = ⊥

  -- ---- T6, what a name stands for

  -- the root has to be a local value and isn't
  abbrev pub RootNoValue : Name → Type 0
  RootNoValue root = Here root.place × NoValue (local_named root)

  -- a name alone: a handle, or a struct's name that isn't called
  abbrev pub AloneNoValue : Name → Type 0
  AloneNoValue root = Here root.place × (IsHandle (local_named root) ⊎ (NoValue (local_named root) × IsStructName tree root))

  -- a place as a value
  abbrev pub ReadT6 : Name → CoreSteps → Type 0
  ReadT6 root NoSteps = AloneNoValue root
  ReadT6 root (FieldStep name rest) = RootNoValue root
  ReadT6 root (IndexStep at x rest) = RootNoValue root

  -- a callee
  abbrev pub CalleeT6 : Name → CoreSteps → Type 0
  CalleeT6 root NoSteps = Here root.place × IsHandle (local_named root)
  CalleeT6 root (FieldStep name rest) = RootNoValue root
  CalleeT6 root (IndexStep at x rest) = RootNoValue root

  -- an argument with `&`
  abbrev pub LentT6 : CoreArgs → Type 0
  LentT6 NoArgs = ⊥
  LentT6 (ValueArg x rest) = LentT6 rest
  LentT6 (RefArg at root steps rest) = RootNoValue root ⊎ LentT6 rest

  -- an await of what is no handle
  abbrev pub AwaitT6 : Name → Type 0
  AwaitT6 name = Here name.place × NoHandle (local_named name)

  -- a captured handle
  abbrev pub CaptureT6 : List Name → Type 0
  CaptureT6 [] = ⊥
  CaptureT6 (name ∷ names) = (Here name.place × IsHandle (local_named name)) ⊎ CaptureT6 names

  -- in an expression
  abbrev pub ExprT6 : CoreExpr → Type 0
  ExprT6 (Path at root steps) = ReadT6 root steps
  ExprT6 (Awaits at name) = AwaitT6 name
  ExprT6 (Count at root steps) = RootNoValue root
  ExprT6 (Lambda at captures params result body) = CaptureT6 captures
  ExprT6 _ = ⊥

  -- in a statement
  abbrev pub StmtT6 : CoreStmt → Type 0
  StmtT6 (Inout at name t root steps) = RootNoValue root
  StmtT6 (Assign at root steps x) = RootNoValue root
  StmtT6 (AwaitsAlone at name) = AwaitT6 name
  StmtT6 _ = ⊥

  -- in a call
  abbrev pub CallT6 : CoreCall → Type 0
  CallT6 (CallOf root steps at args) = CalleeT6 root steps ⊎ LentT6 args

  -- a name isn't used as what it is
  abbrev pub T6 : Part → Type 0
  T6 (ExprPart x) = ExprT6 x
  T6 (CallPart call) = CallT6 call
  T6 (PlacePart root steps) = ⊥
  T6 (StmtPart x) = StmtT6 x
  T6 (TestPart x) = ⊥

  -- ---- T7, changes and moves

  -- the root may only be read
  abbrev pub RootReadOnly : Name → Type 0
  RootReadOnly root = Here root.place × IsReadOnly (local_named root)

  -- a place that is moved and may not be
  abbrev pub MoveT7 : CoreExpr → Type 0
  MoveT7 (Path at root steps) = Here root.place × ((NoValue (local_named root) → ⊥) × (IsReadOnly (local_named root) ⊎ HasIndex steps))
  MoveT7 _ = ⊥

  -- an argument without `&`
  abbrev pub ValueT7 : Option Conv → CoreExpr → Type 0
  ValueT7 (Some conv.Sink) x = MoveT7 x
  ValueT7 _ x = ⊥

  -- an argument; one with `&` is changed
  abbrev pub ArgT7 : List Wanted → CoreArgs → Type 0
  ArgT7 wanted NoArgs = ⊥
  ArgT7 [] (ValueArg x rest) = ArgT7 [] rest
  ArgT7 [] (RefArg at root steps rest) = RootReadOnly root ⊎ ArgT7 [] rest
  ArgT7 (w ∷ ws) (ValueArg x rest) = ValueT7 w.conv x ⊎ ArgT7 ws rest
  ArgT7 (w ∷ ws) (RefArg at root steps rest) = RootReadOnly root ⊎ ArgT7 ws rest

  -- what a callee takes, nothing where that isn't known
  abbrev pub wanted_by : Signature → List Wanted
  wanted_by NoSignature = []
  wanted_by (Signed wanted t) = wanted

  -- in a call
  abbrev pub CallT7 : CoreCall → Type 0
  CallT7 (CallOf root steps at args) = ArgT7 (wanted_by (signature_of tree scope.visible root steps)) args

  -- in a statement
  abbrev pub StmtT7 : CoreStmt → Type 0
  StmtT7 (Inout at name t root steps) = RootReadOnly root
  StmtT7 (Assign at root steps x) = RootReadOnly root
  StmtT7 _ = ⊥

  -- what may only be read is changed or moved
  abbrev pub T7 : Part → Type 0
  T7 (CallPart call) = CallT7 call
  T7 (StmtPart x) = StmtT7 x
  T7 _ = ⊥

  -- ---- T8, callees

  -- a known type that is no function type
  abbrev pub NoFunction : Option ValueType → Type 0
  NoFunction None = ⊥
  NoFunction (Some (FunType params)) = ⊥
  NoFunction (Some (FunToType params t)) = ⊥
  NoFunction (Some _) = Unit {0}

  -- in a call
  abbrev pub CallT8 : CoreCall → Type 0
  CallT8 (CallOf root steps at args) = Here root.place × NoFunction (place_type tree scope.visible root steps)

  -- what is called is no function
  abbrev pub T8 : Part → Type 0
  T8 (CallPart call) = CallT8 call
  T8 _ = ⊥

  -- ---- T9, function values

  -- a side of `==` or `!=`
  abbrev pub LinkT9 : CoreExpr → CoreLinks → Type 0
  LinkT9 first NoLinks = ⊥
  LinkT9 first (LinkOf o at x rest) =
      (IsEquality o × Here at × (KnownToHold tree (type_here first) ⊎ KnownToHold tree (type_here x))) ⊎ LinkT9 x rest

  -- a captured name
  abbrev pub CaptureT9 : List Name → Type 0
  CaptureT9 [] = ⊥
  CaptureT9 (name ∷ names) = (Here name.place × KnownToHold tree (known (value_of (local_named name)))) ⊎ CaptureT9 names

  -- in an expression
  abbrev pub ExprT9 : CoreExpr → Type 0
  ExprT9 (Lambda at captures params result body) = CaptureT9 captures
  ExprT9 (Chain at first links) = LinkT9 first links
  ExprT9 _ = ⊥

  -- in a statement
  abbrev pub StmtT9 : CoreStmt → Type 0
  StmtT9 (Print at x) = Here (expr_place x) × KnownToHold tree (type_here x)
  StmtT9 _ = ⊥

  -- a value with function values in it is printed, compared or captured
  abbrev pub T9 : Part → Type 0
  T9 (ExprPart x) = ExprT9 x
  T9 (StmtPart x) = StmtT9 x
  T9 _ = ⊥

  -- the part violates this rule
  abbrev pub ViolatesType : Rule → Part → Type 0
  ViolatesType rule.T1 part = T1 part
  ViolatesType rule.T2 part = T2 part
  ViolatesType rule.T3 part = T3 part
  ViolatesType rule.T5 part = T5 part
  ViolatesType rule.T6 part = T6 part
  ViolatesType rule.T7 part = T7 part
  ViolatesType rule.T8 part = T8 part
  ViolatesType rule.T9 part = T9 part
  ViolatesType _ part = ⊥

-- ---- T4, structs

-- a struct is too deep, itself inside itself among others, or has too many leaves
abbrev pub TooGreat : Core → CoreStruct → Type 0
TooGreat tree s = (within tree most_depth (StructType s.name.text) ≡ false) ⊎ (most_leaves < length (leaves_of tree (StructType s.name.text)))

-- at the struct's name
abbrev pub ViolatesT4 : Core → Place → Type 0
ViolatesT4 tree place = (s : CoreStruct) × Contains tree.decls (StructOf s) × (s.name.place ≡ place) × TooGreat tree s

-- the program violates this rule of types there
pub data IsViolatedByTypes (tree : Core) (r : Rule) (place : Place) : Type 0 where
  at_part : (w : Site) → Contains (sites_of tree) w → ViolatesType tree w.scope place r w.part → IsViolatedByTypes tree r place
  at_struct : r ≡ rule.T4 → ViolatesT4 tree place → IsViolatedByTypes tree r place
