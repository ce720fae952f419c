-- The violations of the rules of types in one part of a body, as one pass over the part finds them.
use Rattle.std.specs.Prelude.{ℕ, Bool, false, if◌then◌else◌, not, ◌&&◌, ◌||◌, nat_eq, nat_lt, List, [], ◌∷◌, ◌++◌, length, Option, Some, None, is_some}
use Rattle.hv_tree.specs.declared.place.Place.{Place}
use Rattle.hv_tree.specs.declared.types.Name.{Name}
use Rattle.hv_tree.specs.declared.types.Conv.{Conv}
use Rattle.hv_tree.specs.declared.refusal.Rule.{Rule}
use Rattle.hv_tree.specs.declared.refusal.Rule.TheVariants as rule
use Rattle.hv_tree.specs.declared.refusal.Refusal.{Refusal}
use Rattle.hv_tree.specs.Core.{Core, CoreDecl, StructOf, FunOf, CoreStruct, CoreTy, CoreExpr, Number, Truth, Path, Calls, Awaits, Array, Filled, Count, Lambda, Prefix, Chain, CoreExprs, NoExprs, ExprOf, CoreLinks, NoLinks, LinkOf, CoreSteps, NoSteps, FieldStep, IndexStep, CoreCall, CallOf, CoreArgs, NoArgs, ValueArg, RefArg, CoreStmt, Var, VarWith, Let, Inout, Assign, If, While, Return, ReturnWith, Print, Task, AwaitsAlone, CallsAlone, Bare}
use Rattle.hv_decls.specs.Types.{ValueType, IntType, BoolType, StructType, meant, element_of, within, leaves_of, most_depth, most_leaves}
use Rattle.hv_decls.specs.Locals.{Local, local_in, value_of}
use Rattle.hv_decls.specs.Sites.{Part, ExprPart, CallPart, PlacePart, StmtPart, TestPart, Scope, Site, sites_of}
use Rattle.hv_decls.specs.Statics.{field_at, element_at, type_at}
use Rattle.hv_type_rules.specs.Typing.{Known, Unknown, Nothing, Is, known, operand_type, Wanted, Signature, NoSignature, Signed, signature_of, place_type, type_of, first_type}
use Rattle.hv_type_rules.specs.TypeRules.{expr_place, result_known}
use Rattle.hv_type_synth.specs.Tests.{misfits, other, differ, signature_differs, is_equality, no_array, no_field, no_function, known_to_hold, no_value, no_handle, is_handle, is_read_only, is_struct_name, has_index, is_changed, is_moved}

abbrev pub refusal : Rule → Place → Refusal
refusal r place = record { rule = r; place = place }

-- the refusal where the test says so
abbrev pub only : Bool → Refusal → List Refusal
only b r = if b then r ∷ [] else []

-- what a callee takes, nothing where that isn't known
abbrev pub wanted_by : Signature → List Wanted
wanted_by NoSignature = []
wanted_by (Signed wanted t) = wanted

-- how many arguments there are
abbrev pub count_of : CoreArgs → ℕ
count_of NoArgs = 0
count_of (ValueArg x rest) = ℕ.suc (count_of rest)
count_of (RefArg at root steps rest) = ℕ.suc (count_of rest)

-- what each element of an array literal has to be
abbrev pub asked_by : Known → Option ValueType
asked_by Unknown = None
asked_by Nothing = None
asked_by (Is t) = Some t

module _ (tree : Core) (holding : List (List ℕ)) (scope : Scope) where
  -- the visible local with the name
  abbrev pub local_named : Name → Option Local
  local_named name = local_in scope.visible name.text

  -- the type of an expression
  abbrev pub type_here : CoreExpr → Known
  type_here x = type_of tree scope.visible x

  -- the type of a place
  abbrev pub place_here : Name → CoreSteps → Option ValueType
  place_here root steps = place_type tree scope.visible root steps

  -- ---- types that are asked for

  -- an expression that doesn't fit its position
  abbrev pub wrong : Option ValueType → CoreExpr → List Refusal
  wrong asked x = only (misfits asked (type_here x)) (refusal rule.T1 (expr_place x))

  -- indices, behind something of this type
  abbrev pub step_t1 : Option ValueType → CoreSteps → List Refusal
  step_t1 t NoSteps = []
  step_t1 t (FieldStep name rest) = step_t1 (type_at (field_at tree t name)) rest
  step_t1 t (IndexStep at x rest) = only (no_array t) (refusal rule.T1 at) ++ (wrong (Some IntType) x ++ step_t1 (element_at t) rest)

  -- elements, where the first one's type is this
  abbrev pub element_t1 : Known → CoreExprs → List Refusal
  element_t1 first NoExprs = []
  element_t1 first (ExprOf x rest) = wrong (asked_by first) x ++ element_t1 first rest

  -- the operands of a chain behind its first one
  abbrev pub operand_t1 : CoreExpr → CoreLinks → List Refusal
  operand_t1 first NoLinks = []
  operand_t1 first (LinkOf o at x rest) =
      wrong (operand_type o) x ++ (only (is_equality o && differ (type_here first) (type_here x)) (refusal rule.T1 at) ++ operand_t1 x rest)

  -- all operands of a chain
  abbrev pub chain_t1 : CoreExpr → CoreLinks → List Refusal
  chain_t1 first NoLinks = []
  chain_t1 first (LinkOf o at x rest) = wrong (operand_type o) first ++ operand_t1 first (LinkOf o at x rest)

  -- arguments
  abbrev pub arg_t1 : List Wanted → CoreArgs → List Refusal
  arg_t1 wanted NoArgs = []
  arg_t1 [] (ValueArg x rest) = []
  arg_t1 [] (RefArg at root steps rest) = []
  arg_t1 (w ∷ ws) (ValueArg x rest) = wrong (Some w.ty) x ++ arg_t1 ws rest
  arg_t1 (w ∷ ws) (RefArg at root steps rest) = only (other w.ty (place_here root steps)) (refusal rule.T1 root.place) ++ arg_t1 ws rest

  -- the callee is a struct's name
  abbrev pub is_construction : Name → CoreSteps → Bool
  is_construction root NoSteps = no_value (local_named root) && is_struct_name tree root
  is_construction root (FieldStep name rest) = false
  is_construction root (IndexStep at x rest) = false

  -- a task's callee
  abbrev pub task_t1 : Option CoreTy → CoreCall → List Refusal
  task_t1 t (CallOf root steps at args) =
      only (is_construction root steps || signature_differs (result_known t) (signature_of tree scope.visible root steps)) (refusal rule.T1 root.place)

  -- a returned value
  abbrev pub return_t1 : Option CoreTy → CoreExpr → List Refusal
  return_t1 None x = refusal rule.T1 (expr_place x) ∷ []
  return_t1 (Some t) x = wrong (Some (meant t)) x

  -- ---- counts, fields and marks

  -- the count of arguments
  abbrev pub count_t2 : Signature → Place → CoreArgs → List Refusal
  count_t2 NoSignature at args = []
  count_t2 (Signed wanted t) at args = only (not (nat_eq (count_of args) (length wanted))) (refusal rule.T2 at)

  -- fields, behind something of this type
  abbrev pub step_t3 : Option ValueType → CoreSteps → List Refusal
  step_t3 t NoSteps = []
  step_t3 t (FieldStep name rest) = only (no_field tree t name) (refusal rule.T3 name.place) ++ step_t3 (type_at (field_at tree t name)) rest
  step_t3 t (IndexStep at x rest) = step_t3 (element_at t) rest

  -- the marks of arguments
  abbrev pub mark_t5 : List Wanted → CoreArgs → List Refusal
  mark_t5 wanted NoArgs = []
  mark_t5 [] (ValueArg x rest) = []
  mark_t5 [] (RefArg at root steps rest) = []
  mark_t5 (w ∷ ws) (ValueArg x rest) = only (is_changed w.conv) (refusal rule.T5 (expr_place x)) ++ mark_t5 ws rest
  mark_t5 (w ∷ ws) (RefArg at root steps rest) = only (not (is_changed w.conv)) (refusal rule.T5 at) ++ mark_t5 ws rest

  -- ---- names

  -- a root that has to be a local value
  abbrev pub root_t6 : Name → List Refusal
  root_t6 root = only (no_value (local_named root)) (refusal rule.T6 root.place)

  -- a place as a value
  abbrev pub read_t6 : Name → CoreSteps → List Refusal
  read_t6 root NoSteps = only (is_handle (local_named root) || (no_value (local_named root) && is_struct_name tree root)) (refusal rule.T6 root.place)
  read_t6 root (FieldStep name rest) = root_t6 root
  read_t6 root (IndexStep at x rest) = root_t6 root

  -- a callee
  abbrev pub callee_t6 : Name → CoreSteps → List Refusal
  callee_t6 root NoSteps = only (is_handle (local_named root)) (refusal rule.T6 root.place)
  callee_t6 root (FieldStep name rest) = root_t6 root
  callee_t6 root (IndexStep at x rest) = root_t6 root

  -- arguments with `&`
  abbrev pub lent_t6 : CoreArgs → List Refusal
  lent_t6 NoArgs = []
  lent_t6 (ValueArg x rest) = lent_t6 rest
  lent_t6 (RefArg at root steps rest) = root_t6 root ++ lent_t6 rest

  -- what is awaited
  abbrev pub await_t6 : Name → List Refusal
  await_t6 name = only (no_handle (local_named name)) (refusal rule.T6 name.place)

  -- captured names
  abbrev pub capture_t6 : List Name → List Refusal
  capture_t6 [] = []
  capture_t6 (name ∷ names) = only (is_handle (local_named name)) (refusal rule.T6 name.place) ++ capture_t6 names

  -- ---- changes, moves and callees

  -- a root of what is changed
  abbrev pub root_t7 : Name → List Refusal
  root_t7 root = only (is_read_only (local_named root)) (refusal rule.T7 root.place)

  -- the place may not be moved
  abbrev pub stays : Name → CoreSteps → Bool
  stays root steps = not (no_value (local_named root)) && (is_read_only (local_named root) || has_index steps)

  -- what is moved
  abbrev pub move_t7 : CoreExpr → List Refusal
  move_t7 (Path at root steps) = only (stays root steps) (refusal rule.T7 root.place)
  move_t7 _ = []

  -- an argument without `&`
  abbrev pub value_t7 : Option Conv → CoreExpr → List Refusal
  value_t7 c x = if is_moved c then move_t7 x else []

  -- arguments
  abbrev pub arg_t7 : List Wanted → CoreArgs → List Refusal
  arg_t7 wanted NoArgs = []
  arg_t7 [] (ValueArg x rest) = arg_t7 [] rest
  arg_t7 [] (RefArg at root steps rest) = root_t7 root ++ arg_t7 [] rest
  arg_t7 (w ∷ ws) (ValueArg x rest) = value_t7 w.conv x ++ arg_t7 ws rest
  arg_t7 (w ∷ ws) (RefArg at root steps rest) = root_t7 root ++ arg_t7 ws rest

  -- a callee that is a value
  abbrev pub callee_t8 : Name → CoreSteps → List Refusal
  callee_t8 root steps = only (no_function (place_here root steps)) (refusal rule.T8 root.place)

  -- ---- function values

  -- sides of `==` and `!=`
  abbrev pub link_t9 : CoreExpr → CoreLinks → List Refusal
  link_t9 first NoLinks = []
  link_t9 first (LinkOf o at x rest) =
      only (is_equality o && (known_to_hold holding (type_here first) || known_to_hold holding (type_here x))) (refusal rule.T9 at) ++ link_t9 x rest

  -- captured names
  abbrev pub capture_t9 : List Name → List Refusal
  capture_t9 [] = []
  capture_t9 (name ∷ names) = only (known_to_hold holding (known (value_of (local_named name)))) (refusal rule.T9 name.place) ++ capture_t9 names

  -- what is printed
  abbrev pub print_t9 : CoreExpr → List Refusal
  print_t9 x = only (known_to_hold holding (type_here x)) (refusal rule.T9 (expr_place x))

  -- ---- parts

  -- a place
  abbrev pub place_judged : Name → CoreSteps → List Refusal
  place_judged root steps = step_t1 (value_of (local_named root)) steps ++ step_t3 (value_of (local_named root)) steps

  -- an expression
  abbrev pub expr_judged : CoreExpr → List Refusal
  expr_judged (Number at z) = []
  expr_judged (Truth at b) = []
  expr_judged (Path at root steps) = read_t6 root steps
  expr_judged (Calls at call) = []
  expr_judged (Awaits at name) = await_t6 name
  expr_judged (Array at xs) = element_t1 (first_type tree scope.visible xs) xs
  expr_judged (Filled at len value) = wrong (Some IntType) len ++ wrong None value
  expr_judged (Count at root steps) = only (no_array (place_here root steps)) (refusal rule.T1 at) ++ root_t6 root
  expr_judged (Lambda at captures params result body) = capture_t6 captures ++ capture_t9 captures
  expr_judged (Prefix at o x) = wrong (operand_type o) x
  expr_judged (Chain at first links) = chain_t1 first links ++ link_t9 first links

  -- a call of a callee with this signature
  abbrev pub signed_judged : Signature → Name → CoreSteps → Place → CoreArgs → List Refusal
  signed_judged s root steps at args =
      arg_t1 (wanted_by s) args
      ++ (count_t2 s at args ++ (mark_t5 (wanted_by s) args ++ ((callee_t6 root steps ++ lent_t6 args) ++ (arg_t7 (wanted_by s) args ++ callee_t8 root steps))))

  -- a call
  abbrev pub call_judged : CoreCall → List Refusal
  call_judged (CallOf root steps at args) = signed_judged (signature_of tree scope.visible root steps) root steps at args

  -- a place that is changed
  abbrev pub changed_judged : Name → List Refusal
  changed_judged root = root_t6 root ++ root_t7 root

  -- a statement
  abbrev pub stmt_judged : CoreStmt → List Refusal
  stmt_judged (Var at name t) = []
  stmt_judged (VarWith at name t x) = wrong (Some (meant t)) x
  stmt_judged (Let at name t x) = wrong (Some (meant t)) x
  stmt_judged (Inout at name t root steps) = only (other (meant t) (place_here root steps)) (refusal rule.T1 root.place) ++ changed_judged root
  stmt_judged (Assign at root steps x) = wrong (place_here root steps) x ++ changed_judged root
  stmt_judged (If at branches) = []
  stmt_judged (While at test body) = []
  stmt_judged (Return at) = only (is_some scope.result) (refusal rule.T1 at)
  stmt_judged (ReturnWith at x) = return_t1 scope.result x
  stmt_judged (Print at x) = wrong None x ++ print_t9 x
  stmt_judged (Task at name t spawn budget call) = wrong (Some IntType) budget ++ task_t1 t call
  stmt_judged (AwaitsAlone at name) = await_t6 name
  stmt_judged (CallsAlone at call) = []
  stmt_judged (Bare at block) = []

  -- a part
  abbrev pub judged : Part → List Refusal
  judged (ExprPart x) = expr_judged x
  judged (CallPart call) = call_judged call
  judged (PlacePart root steps) = place_judged root steps
  judged (StmtPart x) = stmt_judged x
  judged (TestPart x) = wrong (Some BoolType) x

-- ---- a whole program

-- the parts at these sites
abbrev pub sites_judged : Core → List (List ℕ) → List Site → List Refusal
sites_judged tree holding [] = []
sites_judged tree holding (w ∷ ws) = judged tree holding w.scope w.part ++ sites_judged tree holding ws

-- a struct is too deep or has too many leaves
abbrev pub too_great : Core → CoreStruct → Bool
too_great tree s = not (within tree most_depth (StructType s.name.text)) || nat_lt most_leaves (length (leaves_of tree (StructType s.name.text)))

-- the structs
abbrev pub struct_t4 : Core → List CoreDecl → List Refusal
struct_t4 tree [] = []
struct_t4 tree (StructOf s ∷ rest) = only (too_great tree s) (refusal rule.T4 s.name.place) ++ struct_t4 tree rest
struct_t4 tree (FunOf f ∷ rest) = struct_t4 tree rest

-- the whole program, where `holding` names the structs whose values have function values in them
abbrev pub all_judged : Core → List (List ℕ) → List Refusal
all_judged tree holding = sites_judged tree holding (sites_of tree) ++ struct_t4 tree tree.decls
