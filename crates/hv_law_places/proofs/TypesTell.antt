-- A part violates a rule of types only at a place of the part.
use Rattle.std.proofs.Common.{◌≡◌, ◌⊎◌, inl, inr, List, [], ◌∷◌, ◌++◌, Option, Some, None, Contains, sym, subst}
use Rattle.hv_tree.specs.declared.place.Place.{Place}
use Rattle.hv_tree.specs.declared.types.Name.{Name}
use Rattle.hv_tree.specs.declared.types.Conv.TheVariants as conv
use Rattle.hv_tree.specs.declared.types.Conv.{Conv}
use Rattle.hv_tree.specs.declared.refusal.Rule.{Rule}
use Rattle.hv_tree.specs.declared.refusal.Rule.TheVariants as rule
use Rattle.hv_tree.specs.Core.{Core, StructOf, CoreTy, CoreExpr, Number, Truth, Path, Calls, Awaits, Array, Filled, Count, Lambda, Prefix, Chain, CoreExprs, NoExprs, ExprOf, CoreLinks, NoLinks, LinkOf, CoreSteps, NoSteps, FieldStep, IndexStep, CoreCall, CallOf, CoreArgs, NoArgs, ValueArg, RefArg, CoreStmt, Var, VarWith, Let, Inout, Assign, If, While, Return, ReturnWith, Print, Task, AwaitsAlone, CallsAlone, Bare}
use Rattle.hv_decls.specs.Types.{ValueType}
use Rattle.hv_decls.specs.Locals.{value_of}
use Rattle.hv_decls.specs.Sites.{Part, ExprPart, CallPart, PlacePart, StmtPart, TestPart, Scope}
use Rattle.hv_decls.specs.Statics.{field_at, element_at, type_at}
use Rattle.hv_type_rules.specs.Typing.{Known, Wanted, Signature, NoSignature, Signed, signature_of, first_type}
use Rattle.hv_type_rules.specs.TypeRules.{expr_place, Wrong, local_named, StepMisfits, ElementMisfits, OperandMisfits, ChainMisfits, ArgMisfits, CallMisfits, TaskMisfits, ReturnMisfits, ExprT1, StmtT1, CallT1, T1, CallT2, T2, StepsT3, T3, MarkDiffers, CallT5, CallMarks, T5, ReadT6, CalleeT6, LentT6, CaptureT6, ExprT6, StmtT6, CallT6, T6, MoveT7, ValueT7, ArgT7, wanted_by, CallT7, StmtT7, T7, CallT8, T8, LinkT9, CaptureT9, ExprT9, StmtT9, T9, ViolatesType}
use Rattle.hv_law_places.specs.Places.{in_ty, in_result, in_names, in_params, in_expr, in_exprs, in_links, in_steps, in_call, in_args, in_block, in_stmt}
use Rattle.hv_lemmas.proofs.Each.{Each, each_split}
use Rattle.hv_law_places.proofs.SitesTell.{PartTells}

module _ (P : Place → Type 0) (tree : Core) (scope : Scope) (place : Place) where
  here : (at : Place) → P at → at ≡ place → P place
  here at h e = subst P e h

  -- the place of an expression's first token is one of its places
  first_tells : (x : CoreExpr) → Each P (in_expr x) → P (expr_place x)
  first_tells (Number at z) h = h.0
  first_tells (Truth at b) h = h.0
  first_tells (Path at root steps) h = h.0
  first_tells (Calls at call) h = h.0
  first_tells (Awaits at name) h = h.0
  first_tells (Array at xs) h = h.0
  first_tells (Filled at len value) h = h.0
  first_tells (Count at root steps) h = h.0
  first_tells (Lambda at captures params result body) h = h.0
  first_tells (Prefix at o x) h = h.0
  first_tells (Chain at first links) h = h.0

  at_first : (x : CoreExpr) → Each P (in_expr x) → expr_place x ≡ place → P place
  at_first x h e = here (expr_place x) (first_tells x h) e

  -- ---- T1

  step_misfit : (t : Option ValueType) (steps : CoreSteps) → Each P (in_steps steps) → StepMisfits tree scope place t steps → P place
  step_misfit t NoSteps h e = absurd e
  step_misfit t (FieldStep name rest) h e = step_misfit (type_at (field_at tree t name)) rest h.1 e
  step_misfit t (IndexStep at x rest) h (inl e) = here at h.0 e.1
  step_misfit t (IndexStep at x rest) h (inr (inl e)) = at_first x (each_split P (in_expr x) (in_steps rest) h.1).0 e.0
  step_misfit t (IndexStep at x rest) h (inr (inr e)) = step_misfit (element_at t) rest (each_split P (in_expr x) (in_steps rest) h.1).1 e

  element_misfit : (k : Known) (xs : CoreExprs) → Each P (in_exprs xs) → ElementMisfits tree scope place k xs → P place
  element_misfit k NoExprs h e = absurd e
  element_misfit k (ExprOf x rest) h (inl e) = at_first x (each_split P (in_expr x) (in_exprs rest) h).0 e.0
  element_misfit k (ExprOf x rest) h (inr e) = element_misfit k rest (each_split P (in_expr x) (in_exprs rest) h).1 e

  operand_misfit : (x : CoreExpr) (links : CoreLinks) → Each P (in_links links) → OperandMisfits tree scope place x links → P place
  operand_misfit y NoLinks h e = absurd e
  operand_misfit y (LinkOf o at x rest) h (inl e) = at_first x (each_split P (in_expr x) (in_links rest) h.1).0 e.0
  operand_misfit y (LinkOf o at x rest) h (inr (inl e)) = here at h.0 e.1
  operand_misfit y (LinkOf o at x rest) h (inr (inr e)) = operand_misfit x rest (each_split P (in_expr x) (in_links rest) h.1).1 e

  chain_misfit : (x : CoreExpr) (links : CoreLinks) → Each P (in_expr x) → Each P (in_links links) → ChainMisfits tree scope place x links → P place
  chain_misfit y NoLinks k h e = absurd e
  chain_misfit y (LinkOf o at x rest) k h (inl e) = at_first y k e.0
  chain_misfit y (LinkOf o at x rest) k h (inr e) = operand_misfit y (LinkOf o at x rest) h e

  arg_misfit : (ws : List Wanted) (args : CoreArgs) → Each P (in_args args) → ArgMisfits tree scope place ws args → P place
  arg_misfit [] NoArgs h e = absurd e
  arg_misfit (w ∷ ws) NoArgs h e = absurd e
  arg_misfit [] (ValueArg x rest) h e = absurd e
  arg_misfit [] (RefArg at root steps rest) h e = absurd e
  arg_misfit (w ∷ ws) (ValueArg x rest) h (inl e) = at_first x (each_split P (in_expr x) (in_args rest) h).0 e.0
  arg_misfit (w ∷ ws) (ValueArg x rest) h (inr e) = arg_misfit ws rest (each_split P (in_expr x) (in_args rest) h).1 e
  arg_misfit (w ∷ ws) (RefArg at root steps rest) h (inl e) = here root.place h.1.0 e.0
  arg_misfit (w ∷ ws) (RefArg at root steps rest) h (inr e) = arg_misfit ws rest (each_split P (in_steps steps) (in_args rest) h.1.1).1 e

  call_misfit : (s : Signature) (args : CoreArgs) → Each P (in_args args) → CallMisfits tree scope place s args → P place
  call_misfit NoSignature args h e = absurd e
  call_misfit (Signed wanted t) args h e = arg_misfit wanted args h e

  task_misfit : (t : Option CoreTy) (c : CoreCall) → Each P (in_call c) → TaskMisfits tree scope place t c → P place
  task_misfit t (CallOf root steps at args) h e = here root.place h.0 e.0

  return_misfit : (t : Option CoreTy) (x : CoreExpr) → Each P (in_expr x) → ReturnMisfits tree scope place t x → P place
  return_misfit None x h e = at_first x h e
  return_misfit (Some t) x h e = at_first x h e.0

  expr_t1 : (x : CoreExpr) → Each P (in_expr x) → ExprT1 tree scope place x → P place
  expr_t1 (Array at xs) h e = element_misfit (first_type tree scope.visible xs) xs h.1 e
  expr_t1 (Filled at len value) h (inl e) = at_first len (each_split P (in_expr len) (in_expr value) h.1).0 e.0
  expr_t1 (Filled at len value) h (inr e) = at_first value (each_split P (in_expr len) (in_expr value) h.1).1 e.0
  expr_t1 (Count at root steps) h e = here at h.0 e.1
  expr_t1 (Prefix at o x) h e = at_first x h.1 e.0
  expr_t1 (Chain at x links) h e = let q = each_split P (in_expr x) (in_links links) h.1 in chain_misfit x links q.0 q.1 e
  expr_t1 (Number at z) h e = absurd e
  expr_t1 (Truth at b) h e = absurd e
  expr_t1 (Path at root steps) h e = absurd e
  expr_t1 (Calls at call) h e = absurd e
  expr_t1 (Awaits at name) h e = absurd e
  expr_t1 (Lambda at captures params result body) h e = absurd e

  stmt_t1 : (x : CoreStmt) → Each P (in_stmt x) → StmtT1 tree scope place x → P place
  stmt_t1 (VarWith at name t x) h e = at_first x (each_split P (in_ty t) (in_expr x) h.1.1).1 e.0
  stmt_t1 (Let at name t x) h e = at_first x (each_split P (in_ty t) (in_expr x) h.1.1).1 e.0
  stmt_t1 (Inout at name t root steps) h e = here root.place (each_split P (in_ty t) (root.place ∷ in_steps steps) h.1.1).1.0 e.0
  stmt_t1 (Assign at root steps x) h e = at_first x (each_split P (in_steps steps) (in_expr x) h.1.1).1 e.0
  stmt_t1 (Return at) h e = here at h.0 e.1
  stmt_t1 (ReturnWith at x) h e = return_misfit scope.result x h.1 e
  stmt_t1 (Print at x) h e = at_first x h.1 e.0
  stmt_t1 (Task at name t spawn budget call) h (inl e) =
      at_first budget (each_split P (in_expr budget) (in_call call) (each_split P (in_result t) (spawn ∷ (in_expr budget ++ in_call call)) h.1.1).1.1).0 e.0
  stmt_t1 (Task at name t spawn budget call) h (inr e) =
      task_misfit t call (each_split P (in_expr budget) (in_call call) (each_split P (in_result t) (spawn ∷ (in_expr budget ++ in_call call)) h.1.1).1.1).1 e
  stmt_t1 (Var at name t) h e = absurd e
  stmt_t1 (If at branches) h e = absurd e
  stmt_t1 (While at test body) h e = absurd e
  stmt_t1 (AwaitsAlone at name) h e = absurd e
  stmt_t1 (CallsAlone at call) h e = absurd e
  stmt_t1 (Bare at block) h e = absurd e

  -- the places of the arguments, and that of the `(`
  of_args : (root : Name) (steps : CoreSteps) (at : Place) (args : CoreArgs) → Each P (in_call (CallOf root steps at args)) → P at × Each P (in_args args)
  of_args root steps at args h = (each_split P (in_steps steps) (at ∷ in_args args) h.1).1

  call_t1 : (c : CoreCall) → Each P (in_call c) → CallT1 tree scope place c → P place
  call_t1 (CallOf root steps at args) h e = call_misfit (signature_of tree scope.visible root steps) args (of_args root steps at args h).1 e

  part_t1 : (p : Part) → PartTells P p → T1 tree scope place p → P place
  part_t1 (ExprPart x) h e = expr_t1 x h e
  part_t1 (CallPart call) h e = call_t1 call h e
  part_t1 (PlacePart root steps) h e = step_misfit (value_of (local_named tree scope place root)) steps h.1 e
  part_t1 (StmtPart x) h e = stmt_t1 x h e
  part_t1 (TestPart x) h e = at_first x h e.0

  -- ---- T2, T3 and T5

  call_t2 : (c : CoreCall) → Each P (in_call c) → CallT2 tree scope place c → P place
  call_t2 (CallOf root steps at args) h e = here at (of_args root steps at args h).0 e.1

  part_t2 : (p : Part) → PartTells P p → T2 tree scope place p → P place
  part_t2 (CallPart call) h e = call_t2 call h e
  part_t2 (ExprPart x) h e = absurd e
  part_t2 (PlacePart root steps) h e = absurd e
  part_t2 (StmtPart x) h e = absurd e
  part_t2 (TestPart x) h e = absurd e

  steps_t3 : (t : Option ValueType) (steps : CoreSteps) → Each P (in_steps steps) → StepsT3 tree scope place t steps → P place
  steps_t3 t NoSteps h e = absurd e
  steps_t3 t (FieldStep name rest) h (inl e) = here name.place h.0 e.1
  steps_t3 t (FieldStep name rest) h (inr e) = steps_t3 (type_at (field_at tree t name)) rest h.1 e
  steps_t3 t (IndexStep at x rest) h e = steps_t3 (element_at t) rest (each_split P (in_expr x) (in_steps rest) h.1).1 e

  part_t3 : (p : Part) → PartTells P p → T3 tree scope place p → P place
  part_t3 (PlacePart root steps) h e = steps_t3 (value_of (local_named tree scope place root)) steps h.1 e
  part_t3 (ExprPart x) h e = absurd e
  part_t3 (CallPart call) h e = absurd e
  part_t3 (StmtPart x) h e = absurd e
  part_t3 (TestPart x) h e = absurd e

  mark_differs : (ws : List Wanted) (args : CoreArgs) → Each P (in_args args) → MarkDiffers tree scope place ws args → P place
  mark_differs [] NoArgs h e = absurd e
  mark_differs (w ∷ ws) NoArgs h e = absurd e
  mark_differs [] (ValueArg x rest) h e = absurd e
  mark_differs [] (RefArg at root steps rest) h e = absurd e
  mark_differs (w ∷ ws) (ValueArg x rest) h (inl e) = at_first x (each_split P (in_expr x) (in_args rest) h).0 e.1
  mark_differs (w ∷ ws) (ValueArg x rest) h (inr e) = mark_differs ws rest (each_split P (in_expr x) (in_args rest) h).1 e
  mark_differs (w ∷ ws) (RefArg at root steps rest) h (inl e) = here at h.0 e.1
  mark_differs (w ∷ ws) (RefArg at root steps rest) h (inr e) = mark_differs ws rest (each_split P (in_steps steps) (in_args rest) h.1.1).1 e

  signed_t5 : (s : Signature) (args : CoreArgs) → Each P (in_args args) → CallT5 tree scope place s args → P place
  signed_t5 NoSignature args h e = absurd e
  signed_t5 (Signed wanted t) args h e = mark_differs wanted args h e

  call_t5 : (c : CoreCall) → Each P (in_call c) → CallMarks tree scope place c → P place
  call_t5 (CallOf root steps at args) h e = signed_t5 (signature_of tree scope.visible root steps) args (of_args root steps at args h).1 e

  part_t5 : (p : Part) → PartTells P p → T5 tree scope place p → P place
  part_t5 (CallPart call) h e = call_t5 call h e
  part_t5 (ExprPart x) h e = absurd e
  part_t5 (PlacePart root steps) h e = absurd e
  part_t5 (StmtPart x) h e = absurd e
  part_t5 (TestPart x) h e = absurd e

  -- ---- T6

  read_t6 : (root : Name) (steps : CoreSteps) → P root.place → ReadT6 tree scope place root steps → P place
  read_t6 root NoSteps h e = here root.place h e.0
  read_t6 root (FieldStep name rest) h e = here root.place h e.0
  read_t6 root (IndexStep at x rest) h e = here root.place h e.0

  callee_t6 : (root : Name) (steps : CoreSteps) → P root.place → CalleeT6 tree scope place root steps → P place
  callee_t6 root NoSteps h e = here root.place h e.0
  callee_t6 root (FieldStep name rest) h e = here root.place h e.0
  callee_t6 root (IndexStep at x rest) h e = here root.place h e.0

  lent_t6 : (args : CoreArgs) → Each P (in_args args) → LentT6 tree scope place args → P place
  lent_t6 NoArgs h e = absurd e
  lent_t6 (ValueArg x rest) h e = lent_t6 rest (each_split P (in_expr x) (in_args rest) h).1 e
  lent_t6 (RefArg at root steps rest) h (inl e) = here root.place h.1.0 e.0
  lent_t6 (RefArg at root steps rest) h (inr e) = lent_t6 rest (each_split P (in_steps steps) (in_args rest) h.1.1).1 e

  capture_t6 : (names : List Name) → Each P (in_names names) → CaptureT6 tree scope place names → P place
  capture_t6 [] h e = absurd e
  capture_t6 (name ∷ names) h (inl e) = here name.place h.0 e.0
  capture_t6 (name ∷ names) h (inr e) = capture_t6 names h.1 e

  -- the places of the captures
  of_captures : (at : Place) (captures : List Name) (rest : List Place) → Each P (at ∷ (in_names captures ++ rest)) → Each P (in_names captures)
  of_captures at captures rest h = (each_split P (in_names captures) rest h.1).0

  expr_t6 : (x : CoreExpr) → Each P (in_expr x) → ExprT6 tree scope place x → P place
  expr_t6 (Path at root steps) h e = read_t6 root steps h.1.0 e
  expr_t6 (Awaits at name) h e = here name.place h.1.0 e.0
  expr_t6 (Count at root steps) h e = here root.place h.1.0 e.0
  expr_t6 (Lambda at captures params result body) h e = capture_t6 captures (of_captures at captures (in_params params ++ (in_result result ++ in_block body)) h) e
  expr_t6 (Number at z) h e = absurd e
  expr_t6 (Truth at b) h e = absurd e
  expr_t6 (Calls at call) h e = absurd e
  expr_t6 (Array at xs) h e = absurd e
  expr_t6 (Filled at len value) h e = absurd e
  expr_t6 (Prefix at o x) h e = absurd e
  expr_t6 (Chain at x links) h e = absurd e

  stmt_t6 : (x : CoreStmt) → Each P (in_stmt x) → StmtT6 tree scope place x → P place
  stmt_t6 (Inout at name t root steps) h e = here root.place (each_split P (in_ty t) (root.place ∷ in_steps steps) h.1.1).1.0 e.0
  stmt_t6 (Assign at root steps x) h e = here root.place h.1.0 e.0
  stmt_t6 (AwaitsAlone at name) h e = here name.place h.1.0 e.0
  stmt_t6 (Var at name t) h e = absurd e
  stmt_t6 (VarWith at name t x) h e = absurd e
  stmt_t6 (Let at name t x) h e = absurd e
  stmt_t6 (If at branches) h e = absurd e
  stmt_t6 (While at test body) h e = absurd e
  stmt_t6 (Return at) h e = absurd e
  stmt_t6 (ReturnWith at x) h e = absurd e
  stmt_t6 (Print at x) h e = absurd e
  stmt_t6 (Task at name t spawn budget call) h e = absurd e
  stmt_t6 (CallsAlone at call) h e = absurd e
  stmt_t6 (Bare at block) h e = absurd e

  call_t6 : (c : CoreCall) → Each P (in_call c) → CallT6 tree scope place c → P place
  call_t6 (CallOf root steps at args) h (inl e) = callee_t6 root steps h.0 e
  call_t6 (CallOf root steps at args) h (inr e) = lent_t6 args (of_args root steps at args h).1 e

  part_t6 : (p : Part) → PartTells P p → T6 tree scope place p → P place
  part_t6 (ExprPart x) h e = expr_t6 x h e
  part_t6 (CallPart call) h e = call_t6 call h e
  part_t6 (PlacePart root steps) h e = absurd e
  part_t6 (StmtPart x) h e = stmt_t6 x h e
  part_t6 (TestPart x) h e = absurd e

  -- ---- T7

  move_t7 : (x : CoreExpr) → Each P (in_expr x) → MoveT7 tree scope place x → P place
  move_t7 (Path at root steps) h e = here root.place h.1.0 e.0
  move_t7 (Number at z) h e = absurd e
  move_t7 (Truth at b) h e = absurd e
  move_t7 (Calls at call) h e = absurd e
  move_t7 (Awaits at name) h e = absurd e
  move_t7 (Array at xs) h e = absurd e
  move_t7 (Filled at len value) h e = absurd e
  move_t7 (Count at root steps) h e = absurd e
  move_t7 (Lambda at captures params result body) h e = absurd e
  move_t7 (Prefix at o x) h e = absurd e
  move_t7 (Chain at x links) h e = absurd e

  value_t7 : (c : Option Conv) (x : CoreExpr) → Each P (in_expr x) → ValueT7 tree scope place c x → P place
  value_t7 (Some conv.Sink) x h e = move_t7 x h e
  value_t7 (Some conv.Let) x h e = absurd e
  value_t7 (Some conv.Inout) x h e = absurd e
  value_t7 (Some conv.Set) x h e = absurd e
  value_t7 None x h e = absurd e

  arg_t7 : (ws : List Wanted) (args : CoreArgs) → Each P (in_args args) → ArgT7 tree scope place ws args → P place
  arg_t7 [] NoArgs h e = absurd e
  arg_t7 (w ∷ ws) NoArgs h e = absurd e
  arg_t7 [] (ValueArg x rest) h e = arg_t7 [] rest (each_split P (in_expr x) (in_args rest) h).1 e
  arg_t7 [] (RefArg at root steps rest) h (inl e) = here root.place h.1.0 e.0
  arg_t7 [] (RefArg at root steps rest) h (inr e) = arg_t7 [] rest (each_split P (in_steps steps) (in_args rest) h.1.1).1 e
  arg_t7 (w ∷ ws) (ValueArg x rest) h (inl e) = value_t7 w.conv x (each_split P (in_expr x) (in_args rest) h).0 e
  arg_t7 (w ∷ ws) (ValueArg x rest) h (inr e) = arg_t7 ws rest (each_split P (in_expr x) (in_args rest) h).1 e
  arg_t7 (w ∷ ws) (RefArg at root steps rest) h (inl e) = here root.place h.1.0 e.0
  arg_t7 (w ∷ ws) (RefArg at root steps rest) h (inr e) = arg_t7 ws rest (each_split P (in_steps steps) (in_args rest) h.1.1).1 e

  call_t7 : (c : CoreCall) → Each P (in_call c) → CallT7 tree scope place c → P place
  call_t7 (CallOf root steps at args) h e = arg_t7 (wanted_by tree scope place (signature_of tree scope.visible root steps)) args (of_args root steps at args h).1 e

  stmt_t7 : (x : CoreStmt) → Each P (in_stmt x) → StmtT7 tree scope place x → P place
  stmt_t7 (Inout at name t root steps) h e = here root.place (each_split P (in_ty t) (root.place ∷ in_steps steps) h.1.1).1.0 e.0
  stmt_t7 (Assign at root steps x) h e = here root.place h.1.0 e.0
  stmt_t7 (Var at name t) h e = absurd e
  stmt_t7 (VarWith at name t x) h e = absurd e
  stmt_t7 (Let at name t x) h e = absurd e
  stmt_t7 (If at branches) h e = absurd e
  stmt_t7 (While at test body) h e = absurd e
  stmt_t7 (Return at) h e = absurd e
  stmt_t7 (ReturnWith at x) h e = absurd e
  stmt_t7 (Print at x) h e = absurd e
  stmt_t7 (Task at name t spawn budget call) h e = absurd e
  stmt_t7 (AwaitsAlone at name) h e = absurd e
  stmt_t7 (CallsAlone at call) h e = absurd e
  stmt_t7 (Bare at block) h e = absurd e

  part_t7 : (p : Part) → PartTells P p → T7 tree scope place p → P place
  part_t7 (CallPart call) h e = call_t7 call h e
  part_t7 (StmtPart x) h e = stmt_t7 x h e
  part_t7 (ExprPart x) h e = absurd e
  part_t7 (PlacePart root steps) h e = absurd e
  part_t7 (TestPart x) h e = absurd e

  -- ---- T8 and T9

  call_t8 : (c : CoreCall) → Each P (in_call c) → CallT8 tree scope place c → P place
  call_t8 (CallOf root steps at args) h e = here root.place h.0 e.0

  part_t8 : (p : Part) → PartTells P p → T8 tree scope place p → P place
  part_t8 (CallPart call) h e = call_t8 call h e
  part_t8 (ExprPart x) h e = absurd e
  part_t8 (PlacePart root steps) h e = absurd e
  part_t8 (StmtPart x) h e = absurd e
  part_t8 (TestPart x) h e = absurd e

  link_t9 : (y : CoreExpr) (links : CoreLinks) → Each P (in_links links) → LinkT9 tree scope place y links → P place
  link_t9 y NoLinks h e = absurd e
  link_t9 y (LinkOf o at x rest) h (inl e) = here at h.0 e.1
  link_t9 y (LinkOf o at x rest) h (inr e) = link_t9 x rest (each_split P (in_expr x) (in_links rest) h.1).1 e

  capture_t9 : (names : List Name) → Each P (in_names names) → CaptureT9 tree scope place names → P place
  capture_t9 [] h e = absurd e
  capture_t9 (name ∷ names) h (inl e) = here name.place h.0 e.0
  capture_t9 (name ∷ names) h (inr e) = capture_t9 names h.1 e

  expr_t9 : (x : CoreExpr) → Each P (in_expr x) → ExprT9 tree scope place x → P place
  expr_t9 (Lambda at captures params result body) h e = capture_t9 captures (of_captures at captures (in_params params ++ (in_result result ++ in_block body)) h) e
  expr_t9 (Chain at x links) h e = link_t9 x links (each_split P (in_expr x) (in_links links) h.1).1 e
  expr_t9 (Number at z) h e = absurd e
  expr_t9 (Truth at b) h e = absurd e
  expr_t9 (Path at root steps) h e = absurd e
  expr_t9 (Calls at call) h e = absurd e
  expr_t9 (Awaits at name) h e = absurd e
  expr_t9 (Array at xs) h e = absurd e
  expr_t9 (Filled at len value) h e = absurd e
  expr_t9 (Count at root steps) h e = absurd e
  expr_t9 (Prefix at o x) h e = absurd e

  stmt_t9 : (x : CoreStmt) → Each P (in_stmt x) → StmtT9 tree scope place x → P place
  stmt_t9 (Print at x) h e = at_first x h.1 e.0
  stmt_t9 (Var at name t) h e = absurd e
  stmt_t9 (VarWith at name t x) h e = absurd e
  stmt_t9 (Let at name t x) h e = absurd e
  stmt_t9 (Inout at name t root steps) h e = absurd e
  stmt_t9 (Assign at root steps x) h e = absurd e
  stmt_t9 (If at branches) h e = absurd e
  stmt_t9 (While at test body) h e = absurd e
  stmt_t9 (Return at) h e = absurd e
  stmt_t9 (ReturnWith at x) h e = absurd e
  stmt_t9 (Task at name t spawn budget call) h e = absurd e
  stmt_t9 (AwaitsAlone at name) h e = absurd e
  stmt_t9 (CallsAlone at call) h e = absurd e
  stmt_t9 (Bare at block) h e = absurd e

  part_t9 : (p : Part) → PartTells P p → T9 tree scope place p → P place
  part_t9 (ExprPart x) h e = expr_t9 x h e
  part_t9 (StmtPart x) h e = stmt_t9 x h e
  part_t9 (CallPart call) h e = absurd e
  part_t9 (PlacePart root steps) h e = absurd e
  part_t9 (TestPart x) h e = absurd e

  pub part_violated : (r : Rule) (p : Part) → PartTells P p → ViolatesType tree scope place r p → P place
  part_violated rule.T1 p h e = part_t1 p h e
  part_violated rule.T2 p h e = part_t2 p h e
  part_violated rule.T3 p h e = part_t3 p h e
  part_violated rule.T5 p h e = part_t5 p h e
  part_violated rule.T6 p h e = part_t6 p h e
  part_violated rule.T7 p h e = part_t7 p h e
  part_violated rule.T8 p h e = part_t8 p h e
  part_violated rule.T9 p h e = part_t9 p h e
  part_violated rule.L0 p h e = absurd e
  part_violated rule.L1 p h e = absurd e
  part_violated rule.L2 p h e = absurd e
  part_violated rule.L3 p h e = absurd e
  part_violated rule.P1 p h e = absurd e
  part_violated rule.P2 p h e = absurd e
  part_violated rule.N1 p h e = absurd e
  part_violated rule.N2 p h e = absurd e
  part_violated rule.N3 p h e = absurd e
  part_violated rule.T4 p h e = absurd e
  part_violated rule.I1 p h e = absurd e
  part_violated rule.I2 p h e = absurd e
  part_violated rule.I3 p h e = absurd e
  part_violated rule.X1 p h e = absurd e
  part_violated rule.X2 p h e = absurd e
  part_violated rule.S1 p h e = absurd e
  part_violated rule.S2 p h e = absurd e
  part_violated rule.S3 p h e = absurd e
