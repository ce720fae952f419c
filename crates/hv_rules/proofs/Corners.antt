-- Corners of the rules of names, types and events, each with the place that counts.
use Rattle.std.proofs.Common.{◌≡◌, inl, inr, ℕ, true, false, List, [], ◌∷◌, ◌++◌, Some, None, refl, codes, lit<}
use Rattle.hv_tree.specs.declared.types.Conv.TheVariants as conv
use Rattle.hv_tree.specs.declared.refusal.Rule.TheVariants as rule
use Rattle.hv_tree.specs.declared.ast.Operator.TheVariants as operator
use Rattle.hv_tree.specs.Core.{Core, StructOf, CoreFun, CoreStruct, BoolTy, NamedTy, ArrayTy, VarWith, Inout, If, Return, ReturnWith, Task, CoreExpr, Truth, Path, Calls, Awaits, Count, Chain, NoLinks, LinkOf, Lambda, NoSteps, CallOf, NoArgs, ValueArg, RefArg, BlockOf, NoStmts, StmtOf, NoElse, BranchOf, While}
use Rattle.hv_rules.specs.declared.event.FlowEvent.TheVariants as event
use Rattle.hv_decls.specs.Locals.{local, VarBound, Handle, fun_body}
use Rattle.hv_decls.specs.Sites.{Part, ExprPart, CallPart, StmtPart, Scope}
use Rattle.hv_type_rules.specs.Typing.{Unknown, Nothing, type_of}
use Rattle.hv_type_rules.specs.Names.{NoLocal}
use Rattle.hv_type_rules.specs.TypeRules.{ViolatesType, TooGreat}
use Rattle.hv_rules.specs.Events.{mark, declaring, whole, ToEnd, uses, body_events, Mark}
use Rattle.hv_rules.specs.Rules.{IsViolatedIn}
use Rattle.hv_rules.proofs.Runs.{run_front}
use Rattle.hv_rules.proofs.Violations.{Clear, clear, empty}
use Rattle.hv_decls.proofs.Programs.{o, at, name, name_at, fun, param, int, num, read, x, f, h, alone, two}

-- functions f with a result and g without
abbrev g : List ℕ
g = codes "g"

abbrev tree : Core
tree = two (fun f [] (Some int) [] 0) (fun g [] None [] 0)

-- the locals x: Int and the handle h, in a body without result
abbrev scope : Scope
scope = record { visible = local VarBound (name x) int ∷ (record { name = name h; kind = Handle; ty = None } ∷ []); result = None }

-- ---- T1

-- `count(x)` of an Int, at the word
count_of_int : ViolatesType tree scope (at 20) rule.T1 (ExprPart (Count (at 20) (name_at 26 x) NoSteps))
count_of_int = (refl, refl)

-- `inout y: Bool = &x`, at the root name
bound_otherwise : ViolatesType tree scope (at 25) rule.T1 (StmtPart (Inout o (name (codes "y")) (BoolTy o) (name_at 25 x) NoSteps))
bound_otherwise = (refl, λ e. cc)

-- `task k = spawn(9) f()`, where f has a result, at the callee
task_without_type : ViolatesType tree scope (at 28) rule.T1 (StmtPart (Task o (name (codes "k")) None o (num 9) (CallOf (name_at 28 f) NoSteps o NoArgs)))
task_without_type = inr (refl, inr tt)

-- `return z` in a body without result, also where nothing is known of z
returned_nowhere : ViolatesType tree scope (at 12) rule.T1 (StmtPart (ReturnWith o (Path (at 12) (name_at 12 (codes "z")) NoSteps)))
returned_nowhere = refl

of_nothing : type_of tree scope.visible (read (codes "z")) ≡ Unknown
of_nothing = refl

-- `1 == g()`, at the operator and at the call
abbrev compared : CoreExpr
compared = Chain o (num 1) (LinkOf operator.Eq (at 14) (Calls (at 17) (CallOf (name_at 17 g) NoSteps o NoArgs)) NoLinks)

at_operator : ViolatesType tree scope (at 14) rule.T1 (ExprPart compared)
at_operator = inr (inr (inl (refl, refl, tt)))

at_call : ViolatesType tree scope (at 17) rule.T1 (ExprPart compared)
at_call = inr (inl (refl, tt))

-- `await h` of a handle without type, as a value
awaited_nothing : type_of tree scope.visible (Awaits o (name h)) ≡ Nothing
awaited_nothing = refl

-- ---- T1 and T5 at one argument

abbrev changing : Core
changing = two (fun f (param (codes "a") conv.Inout (BoolTy o) ∷ []) None [] 0) (fun g (param (codes "a") conv.Let (BoolTy o) ∷ []) None [] 0)

-- `f(x)` for `inout Bool`: both at the argument
abbrev unmarked : Part
unmarked = CallPart (CallOf (name f) NoSteps o (ValueArg (Path (at 7) (name_at 7 x) NoSteps) NoArgs))

unmarked_type : ViolatesType changing scope (at 7) rule.T1 unmarked
unmarked_type = inl (refl, λ e. cc)

unmarked_mark : ViolatesType changing scope (at 7) rule.T5 unmarked
unmarked_mark = inl (inl refl, refl)

-- `g(&x)` for `let Bool`: the mark is wrong at the `&`, the type at the root behind it
abbrev marked : Part
marked = CallPart (CallOf (name g) NoSteps o (RefArg (at 7) (name_at 8 x) NoSteps NoArgs))

marked_mark : ViolatesType changing scope (at 7) rule.T5 marked
marked_mark = inl (inl refl, refl)

marked_type : ViolatesType changing scope (at 8) rule.T1 marked
marked_type = inl (refl, λ e. cc)

-- ---- T4

abbrev holder : CoreStruct
holder = record { name = name (codes "S"); fields = record { name = name (codes "a"); ty = NamedTy (name (codes "T")) } ∷ [] }

abbrev cycle : CoreStruct
cycle = record { name = name (codes "T"); fields = record { name = name (codes "b"); ty = ArrayTy o (NamedTy (name (codes "T"))) } ∷ [] }

-- a struct that only reaches a cycle
reaches : TooGreat (record { decls = StructOf holder ∷ (StructOf cycle ∷ []) }) holder
reaches = inl refl

-- ---- captures

-- a captured function is no local, so it violates a rule of names
capture_of_function : NoLocal scope.visible (name f)
capture_of_function = refl

-- a captured handle is a visible local that isn't awaited
capture_of_handle : ViolatesType tree scope (at 9) rule.T6 (ExprPart (Lambda o (name_at 9 h ∷ []) [] None (BlockOf NoStmts o)))
capture_of_handle = inl (refl, refl)

-- ---- I2 at a return that stands before a binding

-- `fun f() { var x: Int = 1 if true { return; } inout r: Int = &x }`
abbrev early : CoreFun
early = fun f [] None (VarWith o (name x) int (num 1) ∷ (If o (BranchOf (Truth o true) (BlockOf (StmtOf (Return (at 36)) NoStmts) o) NoElse) ∷ (Inout o (name (codes "r")) int (name x) NoSteps ∷ []))) 60

early_return : Clear (alone early) (fun_body early) rule.I2 (mark (event.Declare 0) o ∷ (declaring 0 (event.Init (whole 0)) o ∷ [])) (record { event = event.Return; place = at 36; belongs = ToEnd [] [] false })
early_return = clear (alone early) early (mark (event.Declare 0) o ∷ (declaring 0 (event.Init (whole 0)) o ∷ [])) (record { event = event.Return; place = at 36; belongs = ToEnd [] [] false }) [] refl rule.I2
    (λ v. empty v.0 v.1)

-- ---- S1 at a return that stands before the task, in a loop's second turn

-- `fun g(c: Bool) { while c { if c { return; } task h = spawn(9) g(c) } }`
abbrev again : CoreFun
again = fun g (param (codes "c") conv.Let (BoolTy o) ∷ []) None
    (While o (read (codes "c")) (BlockOf (StmtOf (If o (BranchOf (read (codes "c")) (BlockOf (StmtOf (Return (at 35)) NoStmts) o) NoElse))
    (StmtOf (Task o (name h) None o (num 9) (CallOf (name g) NoSteps o (ValueArg (read (codes "c")) NoArgs))) NoStmts)) o) ∷ []) 70

-- the test twice, the task and the end of the first turn, and the test twice again
abbrev first_turn : List Mark
first_turn =
    mark (event.Declare 0) o ∷ (declaring 0 (event.Init (whole 0)) o ∷ (uses (whole 0) o ∷ (uses (whole 0) o ∷ (uses (whole 0) o ∷ (mark (event.Spawn 1) o ∷
    (record { event = event.ScopeEnd 1; place = o; belongs = ToEnd [] (1 ∷ []) false } ∷ (uses (whole 0) o ∷ (uses (whole 0) o ∷ []))))))))

left_in_second_turn : IsViolatedIn (alone again) (fun_body again) rule.S1 (at 35)
left_in_second_turn = record {
  before = first_turn;
  last = record { event = event.Return; place = at 35; belongs = ToEnd [] (1 ∷ []) false };
  trace = run_front (body_events (alone again) (fun_body again)) (true ∷ (false ∷ (true ∷ (true ∷ []))))
      (first_turn ++ record { event = event.Return; place = at 35; belongs = ToEnd [] (1 ∷ []) false } ∷ []) [] refl;
  at = refl;
  violates = (1, (0, lit< tt, refl), refl);
}
