-- Each violation of a rule of types in a part is judged wrong.
use Rattle.std.proofs.Common.{◌≡◌, ◌⊎◌, inl, inr, ℕ, List, [], ◌∷◌, ◌++◌, Option, Some, None, is_some, Decides, refl}
use Rattle.hv_tree.specs.declared.place.Place.{Place}
use Rattle.hv_tree.specs.declared.types.Name.{Name}
use Rattle.hv_tree.specs.declared.refusal.Rule.{Rule}
use Rattle.hv_tree.specs.declared.refusal.Rule.TheVariants as rule
use Rattle.hv_tree.specs.declared.refusal.Refusal.{Refusal}
use Rattle.hv_tree.specs.Core.{Core, CoreExpr, Number, Truth, Path, Calls, Awaits, Array, Filled, Count, Lambda, Prefix, Chain, CoreSteps, CoreCall, CallOf, CoreArgs, CoreStmt, Var, VarWith, Let, Inout, Assign, If, While, Return, ReturnWith, Print, Task, AwaitsAlone, CallsAlone, Bare}
use Rattle.hv_decls.specs.Types.{ValueType, IntType, BoolType, meant}
use Rattle.hv_decls.specs.Locals.{value_of}
use Rattle.hv_decls.specs.Sites.{Part, ExprPart, CallPart, PlacePart, StmtPart, TestPart, Scope}
use Rattle.hv_type_rules.specs.Typing.{Signature, signature_of, operand_type, first_type}
use Rattle.hv_type_rules.specs.TypeRules as rules
use Rattle.hv_type_synth.specs.Tests.{no_array, other}
use Rattle.hv_type_judge.specs.Judged as spec
use Rattle.hv_lemmas.proofs.Members.{Among, in_left, in_right}
use Rattle.hv_type_judge.proofs.Deciding.{Holding}
use Rattle.hv_type_judge.proofs.TypeRule as t1
use Rattle.hv_type_judge.proofs.OtherRules as o
use Rattle.hv_type_judge.proofs.Sound as parts

module _ (tree : Core) (holding : List (List ℕ)) (scope : Scope) (exact : Holding tree holding) (place : Place) where
  -- the refusal of the rule here is in the list
  abbrev pub Has : List Refusal → Rule → Type 0
  Has xs k = Among xs (spec.refusal k place)

  left : (xs ys : List Refusal) (k : Rule) → Has xs k → Has (xs ++ ys) k
  left xs ys k h = in_left xs ys (spec.refusal k place) h

  right : (xs ys : List Refusal) (k : Rule) → Has ys k → Has (xs ++ ys) k
  right xs ys k h = in_right xs ys (spec.refusal k place) h

  -- ---- expressions

  expr_t1 : (x : CoreExpr) → rules.ExprT1 tree scope place x → Has (spec.expr_judged tree holding scope x) rule.T1
  expr_t1 (Number at z) v = absurd v
  expr_t1 (Truth at b) v = absurd v
  expr_t1 (Path at root steps) v = absurd v
  expr_t1 (Calls at call) v = absurd v
  expr_t1 (Awaits at name) v = absurd v
  expr_t1 (Array at xs) v = (t1.elements tree holding scope (first_type tree scope.visible xs) xs).whole place v
  expr_t1 (Filled at len value) v = (parts.filled tree holding scope exact len value).whole place v
  expr_t1 (Count at root steps) v =
      let t = spec.place_here tree holding scope root steps in
      left (spec.only (no_array t) (spec.refusal rule.T1 at)) (spec.root_t6 tree holding scope root) rule.T1 ((t1.counted tree holding scope t at).whole place v)
  expr_t1 (Lambda at captures params result body) v = absurd v
  expr_t1 (Prefix at op x) v = (t1.wrong tree holding scope (operand_type op) x).whole place v
  expr_t1 (Chain at first links) v = left (spec.chain_t1 tree holding scope first links) (spec.link_t9 tree holding scope first links) rule.T1 ((t1.chain tree holding scope first links).whole place v)

  expr_t6 : (x : CoreExpr) → rules.ExprT6 tree scope place x → Has (spec.expr_judged tree holding scope x) rule.T6
  expr_t6 (Number at z) v = absurd v
  expr_t6 (Truth at b) v = absurd v
  expr_t6 (Path at root steps) v = (o.read tree holding scope root steps).whole place v
  expr_t6 (Calls at call) v = absurd v
  expr_t6 (Awaits at name) v = (o.awaited tree holding scope name).whole place v
  expr_t6 (Array at xs) v = absurd v
  expr_t6 (Filled at len value) v = absurd v
  expr_t6 (Count at root steps) v =
      let t = spec.place_here tree holding scope root steps in
      right (spec.only (no_array t) (spec.refusal rule.T1 at)) (spec.root_t6 tree holding scope root) rule.T6 ((o.root_value tree holding scope root).whole place v)
  expr_t6 (Lambda at captures params result body) v = left (spec.capture_t6 tree holding scope captures) (spec.capture_t9 tree holding scope captures) rule.T6 ((o.captured tree holding scope captures).whole place v)
  expr_t6 (Prefix at op x) v = absurd v
  expr_t6 (Chain at first links) v = absurd v

  expr_t9 : (x : CoreExpr) → rules.ExprT9 tree scope place x → Has (spec.expr_judged tree holding scope x) rule.T9
  expr_t9 (Number at z) v = absurd v
  expr_t9 (Truth at b) v = absurd v
  expr_t9 (Path at root steps) v = absurd v
  expr_t9 (Calls at call) v = absurd v
  expr_t9 (Awaits at name) v = absurd v
  expr_t9 (Array at xs) v = absurd v
  expr_t9 (Filled at len value) v = absurd v
  expr_t9 (Count at root steps) v = absurd v
  expr_t9 (Lambda at captures params result body) v = right (spec.capture_t6 tree holding scope captures) (spec.capture_t9 tree holding scope captures) rule.T9 ((o.held tree holding scope exact captures).whole place v)
  expr_t9 (Prefix at op x) v = absurd v
  expr_t9 (Chain at first links) v = right (spec.chain_t1 tree holding scope first links) (spec.link_t9 tree holding scope first links) rule.T9 ((o.compared tree holding scope exact first links).whole place v)

  -- ---- statements

  other_place : (at : Name) (t : ValueType) (steps : CoreSteps) → rules.Here tree scope place at.place × rules.Other t (spec.place_here tree holding scope at steps) →
      Has (spec.only (other t (spec.place_here tree holding scope at steps)) (spec.refusal rule.T1 at.place) ++ spec.changed_judged tree holding scope at) rule.T1
  other_place at t steps v =
      left (spec.only (other t (spec.place_here tree holding scope at steps)) (spec.refusal rule.T1 at.place)) (spec.changed_judged tree holding scope at) rule.T1 ((t1.place_other tree holding scope t at steps).whole place v)

  changed_t6 : (xs : List Refusal) (root : Name) → rules.RootNoValue tree scope place root → Has (xs ++ spec.changed_judged tree holding scope root) rule.T6
  changed_t6 xs root v = right xs (spec.changed_judged tree holding scope root) rule.T6 (left (spec.root_t6 tree holding scope root) (spec.root_t7 tree holding scope root) rule.T6 ((o.root_value tree holding scope root).whole place v))

  changed_t7 : (xs : List Refusal) (root : Name) → rules.RootReadOnly tree scope place root → Has (xs ++ spec.changed_judged tree holding scope root) rule.T7
  changed_t7 xs root v = right xs (spec.changed_judged tree holding scope root) rule.T7 (right (spec.root_t6 tree holding scope root) (spec.root_t7 tree holding scope root) rule.T7 ((o.root_changed tree holding scope root).whole place v))

  stmt_t1 : (x : CoreStmt) → rules.StmtT1 tree scope place x → Has (spec.stmt_judged tree holding scope x) rule.T1
  stmt_t1 (Var at name t) v = absurd v
  stmt_t1 (VarWith at name t x) v = (t1.wrong tree holding scope (Some (meant t)) x).whole place v
  stmt_t1 (Let at name t x) v = (t1.wrong tree holding scope (Some (meant t)) x).whole place v
  stmt_t1 (Inout at name t root steps) v = other_place root (meant t) steps v
  stmt_t1 (Assign at root steps x) v =
      let ask = spec.place_here tree holding scope root steps in
      left (spec.wrong tree holding scope ask x) (spec.changed_judged tree holding scope root) rule.T1 ((t1.wrong tree holding scope ask x).whole place v)
  stmt_t1 (If at branches) v = absurd v
  stmt_t1 (While at test body) v = absurd v
  stmt_t1 (Return at) v = (parts.bare_return tree holding scope exact at).whole place v
  stmt_t1 (ReturnWith at x) v = (t1.returned tree holding scope scope.result x).whole place v
  stmt_t1 (Print at x) v = left (spec.wrong tree holding scope None x) (spec.print_t9 tree holding scope x) rule.T1 ((t1.wrong tree holding scope None x).whole place v)
  stmt_t1 (Task at name t spawn x call) v = (parts.budget tree holding scope exact t x call).whole place v
  stmt_t1 (AwaitsAlone at name) v = absurd v
  stmt_t1 (CallsAlone at call) v = absurd v
  stmt_t1 (Bare at block) v = absurd v

  stmt_t6 : (x : CoreStmt) → rules.StmtT6 tree scope place x → Has (spec.stmt_judged tree holding scope x) rule.T6
  stmt_t6 (Var at name t) v = absurd v
  stmt_t6 (VarWith at name t x) v = absurd v
  stmt_t6 (Let at name t x) v = absurd v
  stmt_t6 (Inout at name t root steps) v = changed_t6 (spec.only (other (meant t) (spec.place_here tree holding scope root steps)) (spec.refusal rule.T1 root.place)) root v
  stmt_t6 (Assign at root steps x) v = changed_t6 (spec.wrong tree holding scope (spec.place_here tree holding scope root steps) x) root v
  stmt_t6 (If at branches) v = absurd v
  stmt_t6 (While at test body) v = absurd v
  stmt_t6 (Return at) v = absurd v
  stmt_t6 (ReturnWith at x) v = absurd v
  stmt_t6 (Print at x) v = absurd v
  stmt_t6 (Task at name t spawn x call) v = absurd v
  stmt_t6 (AwaitsAlone at name) v = (o.awaited tree holding scope name).whole place v
  stmt_t6 (CallsAlone at call) v = absurd v
  stmt_t6 (Bare at block) v = absurd v

  stmt_t7 : (x : CoreStmt) → rules.StmtT7 tree scope place x → Has (spec.stmt_judged tree holding scope x) rule.T7
  stmt_t7 (Var at name t) v = absurd v
  stmt_t7 (VarWith at name t x) v = absurd v
  stmt_t7 (Let at name t x) v = absurd v
  stmt_t7 (Inout at name t root steps) v = changed_t7 (spec.only (other (meant t) (spec.place_here tree holding scope root steps)) (spec.refusal rule.T1 root.place)) root v
  stmt_t7 (Assign at root steps x) v = changed_t7 (spec.wrong tree holding scope (spec.place_here tree holding scope root steps) x) root v
  stmt_t7 (If at branches) v = absurd v
  stmt_t7 (While at test body) v = absurd v
  stmt_t7 (Return at) v = absurd v
  stmt_t7 (ReturnWith at x) v = absurd v
  stmt_t7 (Print at x) v = absurd v
  stmt_t7 (Task at name t spawn x call) v = absurd v
  stmt_t7 (AwaitsAlone at name) v = absurd v
  stmt_t7 (CallsAlone at call) v = absurd v
  stmt_t7 (Bare at block) v = absurd v

  stmt_t9 : (x : CoreStmt) → rules.StmtT9 tree scope place x → Has (spec.stmt_judged tree holding scope x) rule.T9
  stmt_t9 (Var at name t) v = absurd v
  stmt_t9 (VarWith at name t x) v = absurd v
  stmt_t9 (Let at name t x) v = absurd v
  stmt_t9 (Inout at name t root steps) v = absurd v
  stmt_t9 (Assign at root steps x) v = absurd v
  stmt_t9 (If at branches) v = absurd v
  stmt_t9 (While at test body) v = absurd v
  stmt_t9 (Return at) v = absurd v
  stmt_t9 (ReturnWith at x) v = absurd v
  stmt_t9 (Print at x) v = right (spec.wrong tree holding scope None x) (spec.print_t9 tree holding scope x) rule.T9 ((o.printed tree holding scope exact x).whole place v)
  stmt_t9 (Task at name t spawn x call) v = absurd v
  stmt_t9 (AwaitsAlone at name) v = absurd v
  stmt_t9 (CallsAlone at call) v = absurd v
  stmt_t9 (Bare at block) v = absurd v

  -- ---- calls

  call_t1 : (c : CoreCall) → rules.CallT1 tree scope place c → Has (spec.call_judged tree holding scope c) rule.T1
  call_t1 (CallOf root steps at args) v =
      let s = signature_of tree scope.visible root steps in
      let a = spec.arg_t1 tree holding scope (spec.wanted_by s) args in
      let b = spec.count_t2 tree holding scope s at args in
      let c = spec.mark_t5 tree holding scope (spec.wanted_by s) args in
      let d = spec.callee_t6 tree holding scope root steps ++ spec.lent_t6 tree holding scope args in
      let e = spec.arg_t7 tree holding scope (spec.wanted_by s) args in
      let f = spec.callee_t8 tree holding scope root steps in
      left a (b ++ (c ++ (d ++ (e ++ f)))) rule.T1 ((t1.call tree holding scope s args).whole place v)

  call_t2 : (c : CoreCall) → rules.CallT2 tree scope place c → Has (spec.call_judged tree holding scope c) rule.T2
  call_t2 (CallOf root steps at args) v =
      let s = signature_of tree scope.visible root steps in
      let a = spec.arg_t1 tree holding scope (spec.wanted_by s) args in
      let b = spec.count_t2 tree holding scope s at args in
      let c = spec.mark_t5 tree holding scope (spec.wanted_by s) args in
      let d = spec.callee_t6 tree holding scope root steps ++ spec.lent_t6 tree holding scope args in
      let e = spec.arg_t7 tree holding scope (spec.wanted_by s) args in
      let f = spec.callee_t8 tree holding scope root steps in
      right a (b ++ (c ++ (d ++ (e ++ f)))) rule.T2 (left b (c ++ (d ++ (e ++ f))) rule.T2 ((o.counts tree holding scope s at args).whole place v))

  call_t5 : (c : CoreCall) → rules.CallMarks tree scope place c → Has (spec.call_judged tree holding scope c) rule.T5
  call_t5 (CallOf root steps at args) v =
      let s = signature_of tree scope.visible root steps in
      let a = spec.arg_t1 tree holding scope (spec.wanted_by s) args in
      let b = spec.count_t2 tree holding scope s at args in
      let c = spec.mark_t5 tree holding scope (spec.wanted_by s) args in
      let d = spec.callee_t6 tree holding scope root steps ++ spec.lent_t6 tree holding scope args in
      let e = spec.arg_t7 tree holding scope (spec.wanted_by s) args in
      let f = spec.callee_t8 tree holding scope root steps in
      right a (b ++ (c ++ (d ++ (e ++ f)))) rule.T5 (right b (c ++ (d ++ (e ++ f))) rule.T5 (left c (d ++ (e ++ f)) rule.T5 ((o.call_marks tree holding scope s args).whole place v)))

  call_t6 : (c : CoreCall) → rules.CallT6 tree scope place c → Has (spec.call_judged tree holding scope c) rule.T6
  call_t6 (CallOf root steps at args) v =
      let s = signature_of tree scope.visible root steps in
      let a = spec.arg_t1 tree holding scope (spec.wanted_by s) args in
      let b = spec.count_t2 tree holding scope s at args in
      let c = spec.mark_t5 tree holding scope (spec.wanted_by s) args in
      let d = spec.callee_t6 tree holding scope root steps ++ spec.lent_t6 tree holding scope args in
      let e = spec.arg_t7 tree holding scope (spec.wanted_by s) args in
      let f = spec.callee_t8 tree holding scope root steps in
      right a (b ++ (c ++ (d ++ (e ++ f)))) rule.T6 (right b (c ++ (d ++ (e ++ f))) rule.T6 (right c (d ++ (e ++ f)) rule.T6 (left d (e ++ f) rule.T6 ((parts.callee tree holding scope exact root steps args).whole place v))))

  call_t7 : (c : CoreCall) → rules.CallT7 tree scope place c → Has (spec.call_judged tree holding scope c) rule.T7
  call_t7 (CallOf root steps at args) v =
      let s = signature_of tree scope.visible root steps in
      let a = spec.arg_t1 tree holding scope (spec.wanted_by s) args in
      let b = spec.count_t2 tree holding scope s at args in
      let c = spec.mark_t5 tree holding scope (spec.wanted_by s) args in
      let d = spec.callee_t6 tree holding scope root steps ++ spec.lent_t6 tree holding scope args in
      let e = spec.arg_t7 tree holding scope (spec.wanted_by s) args in
      let f = spec.callee_t8 tree holding scope root steps in
      right a (b ++ (c ++ (d ++ (e ++ f)))) rule.T7 (right b (c ++ (d ++ (e ++ f))) rule.T7 (right c (d ++ (e ++ f)) rule.T7 (right d (e ++ f) rule.T7 (left e f rule.T7 ((o.call_passed tree holding scope s args).whole place v)))))

  call_t8 : (c : CoreCall) → rules.CallT8 tree scope place c → Has (spec.call_judged tree holding scope c) rule.T8
  call_t8 (CallOf root steps at args) v =
      let s = signature_of tree scope.visible root steps in
      let a = spec.arg_t1 tree holding scope (spec.wanted_by s) args in
      let b = spec.count_t2 tree holding scope s at args in
      let c = spec.mark_t5 tree holding scope (spec.wanted_by s) args in
      let d = spec.callee_t6 tree holding scope root steps ++ spec.lent_t6 tree holding scope args in
      let e = spec.arg_t7 tree holding scope (spec.wanted_by s) args in
      let f = spec.callee_t8 tree holding scope root steps in
      right a (b ++ (c ++ (d ++ (e ++ f)))) rule.T8 (right b (c ++ (d ++ (e ++ f))) rule.T8 (right c (d ++ (e ++ f)) rule.T8 (right d (e ++ f) rule.T8 (right e f rule.T8 ((o.called tree holding scope root steps).whole place v)))))

  -- ---- places

  place_t1 : (root : Name) (steps : CoreSteps) → rules.StepMisfits tree scope place (value_of (spec.local_named tree holding scope root)) steps → Has (spec.place_judged tree holding scope root steps) rule.T1
  place_t1 root steps v =
      let t = value_of (spec.local_named tree holding scope root) in
      left (spec.step_t1 tree holding scope t steps) (spec.step_t3 tree holding scope t steps) rule.T1 ((t1.steps tree holding scope t steps).whole place v)

  place_t3 : (root : Name) (steps : CoreSteps) → rules.StepsT3 tree scope place (value_of (spec.local_named tree holding scope root)) steps → Has (spec.place_judged tree holding scope root steps) rule.T3
  place_t3 root steps v =
      let t = value_of (spec.local_named tree holding scope root) in
      right (spec.step_t1 tree holding scope t steps) (spec.step_t3 tree holding scope t steps) rule.T3 ((o.fields tree holding scope t steps).whole place v)

  -- ---- each rule

  whole_t1 : (part : Part) → rules.T1 tree scope place part → Has (spec.judged tree holding scope part) rule.T1
  whole_t1 (ExprPart x) v = expr_t1 x v
  whole_t1 (CallPart c) v = call_t1 c v
  whole_t1 (PlacePart root steps) v = place_t1 root steps v
  whole_t1 (StmtPart x) v = stmt_t1 x v
  whole_t1 (TestPart x) v = (t1.wrong tree holding scope (Some BoolType) x).whole place v

  whole_t2 : (part : Part) → rules.T2 tree scope place part → Has (spec.judged tree holding scope part) rule.T2
  whole_t2 (ExprPart x) v = absurd v
  whole_t2 (CallPart c) v = call_t2 c v
  whole_t2 (PlacePart root steps) v = absurd v
  whole_t2 (StmtPart x) v = absurd v
  whole_t2 (TestPart x) v = absurd v

  whole_t3 : (part : Part) → rules.T3 tree scope place part → Has (spec.judged tree holding scope part) rule.T3
  whole_t3 (ExprPart x) v = absurd v
  whole_t3 (CallPart c) v = absurd v
  whole_t3 (PlacePart root steps) v = place_t3 root steps v
  whole_t3 (StmtPart x) v = absurd v
  whole_t3 (TestPart x) v = absurd v

  whole_t5 : (part : Part) → rules.T5 tree scope place part → Has (spec.judged tree holding scope part) rule.T5
  whole_t5 (ExprPart x) v = absurd v
  whole_t5 (CallPart c) v = call_t5 c v
  whole_t5 (PlacePart root steps) v = absurd v
  whole_t5 (StmtPart x) v = absurd v
  whole_t5 (TestPart x) v = absurd v

  whole_t6 : (part : Part) → rules.T6 tree scope place part → Has (spec.judged tree holding scope part) rule.T6
  whole_t6 (ExprPart x) v = expr_t6 x v
  whole_t6 (CallPart c) v = call_t6 c v
  whole_t6 (PlacePart root steps) v = absurd v
  whole_t6 (StmtPart x) v = stmt_t6 x v
  whole_t6 (TestPart x) v = absurd v

  whole_t7 : (part : Part) → rules.T7 tree scope place part → Has (spec.judged tree holding scope part) rule.T7
  whole_t7 (ExprPart x) v = absurd v
  whole_t7 (CallPart c) v = call_t7 c v
  whole_t7 (PlacePart root steps) v = absurd v
  whole_t7 (StmtPart x) v = stmt_t7 x v
  whole_t7 (TestPart x) v = absurd v

  whole_t8 : (part : Part) → rules.T8 tree scope place part → Has (spec.judged tree holding scope part) rule.T8
  whole_t8 (ExprPart x) v = absurd v
  whole_t8 (CallPart c) v = call_t8 c v
  whole_t8 (PlacePart root steps) v = absurd v
  whole_t8 (StmtPart x) v = absurd v
  whole_t8 (TestPart x) v = absurd v

  whole_t9 : (part : Part) → rules.T9 tree scope place part → Has (spec.judged tree holding scope part) rule.T9
  whole_t9 (ExprPart x) v = expr_t9 x v
  whole_t9 (CallPart c) v = absurd v
  whole_t9 (PlacePart root steps) v = absurd v
  whole_t9 (StmtPart x) v = stmt_t9 x v
  whole_t9 (TestPart x) v = absurd v

  pub whole : (k : Rule) (part : Part) → rules.ViolatesType tree scope place k part → Has (spec.judged tree holding scope part) k
  whole rule.L0 part v = absurd v
  whole rule.L1 part v = absurd v
  whole rule.L2 part v = absurd v
  whole rule.L3 part v = absurd v
  whole rule.P1 part v = absurd v
  whole rule.P2 part v = absurd v
  whole rule.N1 part v = absurd v
  whole rule.N2 part v = absurd v
  whole rule.N3 part v = absurd v
  whole rule.T1 part v = whole_t1 part v
  whole rule.T2 part v = whole_t2 part v
  whole rule.T3 part v = whole_t3 part v
  whole rule.T4 part v = absurd v
  whole rule.T5 part v = whole_t5 part v
  whole rule.T6 part v = whole_t6 part v
  whole rule.T7 part v = whole_t7 part v
  whole rule.T8 part v = whole_t8 part v
  whole rule.T9 part v = whole_t9 part v
  whole rule.I1 part v = absurd v
  whole rule.I2 part v = absurd v
  whole rule.I3 part v = absurd v
  whole rule.X1 part v = absurd v
  whole rule.X2 part v = absurd v
  whole rule.S1 part v = absurd v
  whole rule.S2 part v = absurd v
  whole rule.S3 part v = absurd v
