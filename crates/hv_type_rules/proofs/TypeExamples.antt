-- For each rule of types a part that violates it, with the place, and the nearest that doesn't.
use Rattle.std.proofs.Common.{◌≡◌, inl, inr, ℕ, true, List, [], ◌∷◌, None, Contains, refl, ◌<◌, codes, lit<, arith}
use Rattle.hv_tree.specs.declared.place.Place.{Place}
use Rattle.hv_tree.specs.declared.types.Conv.{Conv}
use Rattle.hv_tree.specs.declared.types.Conv.TheVariants as conv
use Rattle.hv_tree.specs.declared.refusal.Rule.{Rule}
use Rattle.hv_tree.specs.declared.refusal.Rule.TheVariants as rule
use Rattle.hv_tree.specs.Core.{Core, StructOf, FunOf, CoreFun, CoreStruct, CoreTy, NamedTy, FunTy, NoTys, VarWith, Print, Assign, CallsAlone, CoreExpr, Truth, Path, CoreSteps, NoSteps, FieldStep, CoreCall, CallOf, CoreArgs, NoArgs, ValueArg, RefArg}
use Rattle.hv_decls.specs.Types.{ValueType, IntType, NoneTaken}
use Rattle.hv_decls.specs.Locals.{fun_body}
use Rattle.hv_decls.specs.Sites.{Part, ExprPart, CallPart, PlacePart, StmtPart, sites_of, body_scope}
use Rattle.hv_type_rules.specs.TypeRules.{ViolatesType, IsViolatedByTypes, at_part, at_struct, TooGreat, HoldsFunction, is_fun, is_fun_to, in_element, in_field}
use Rattle.hv_decls.proofs.Programs.{o, at, name, name_at, fun, param, int, num, x, f, alone, two}

-- a part that stands in the function's own block and violates the rule
violated : (tree : Core) (g : CoreFun) (r : Rule) (place : Place) (part : Part) → Contains (sites_of tree) (record { scope = body_scope (fun_body g); part = part }) →
    ViolatesType tree (body_scope (fun_body g)) place r part → IsViolatedByTypes tree r place
violated tree g r place part c v = at_part (record { scope = body_scope (fun_body g); part = part }) c v

-- a part that doesn't violate the rule, at any place
abbrev Clear : Core → CoreFun → Rule → Part → Type 0
Clear tree g r part = (place : Place) → ViolatesType tree (body_scope (fun_body g)) place r part → ⊥

abbrev g : List ℕ
g = codes "g"

-- ---- T1

abbrev declaring : CoreExpr → CoreFun
declaring e = fun g [] None (VarWith o (name x) int e ∷ []) 30

-- `var x: Int = true`
t1_violated : IsViolatedByTypes (alone (declaring (Truth (at 23) true))) rule.T1 (at 23)
t1_violated = violated (alone (declaring (Truth (at 23) true))) (declaring (Truth (at 23) true)) rule.T1 (at 23) (StmtPart (VarWith o (name x) int (Truth (at 23) true))) (0, lit< tt, refl) (refl, (λ e. cc))

-- `var x: Int = 1`
t1_clear : Clear (alone (declaring (num 1))) (declaring (num 1)) rule.T1 (StmtPart (VarWith o (name x) int (num 1)))
t1_clear place v = v.1 refl

-- ---- T2

abbrev taking : Conv → CoreFun
taking c = fun f (param (codes "a") c int ∷ []) None [] 9

abbrev calling : CoreArgs → CoreCall
calling args = CallOf (name f) NoSteps (at 20) args

abbrev caller : Conv → CoreArgs → CoreFun
caller c args = fun g (param x c int ∷ []) None (CallsAlone o (calling args) ∷ []) 25

-- `f()`, where f has a parameter
t2_violated : IsViolatedByTypes (two (taking conv.Let) (caller conv.Let NoArgs)) rule.T2 (at 20)
t2_violated = violated (two (taking conv.Let) (caller conv.Let NoArgs)) (caller conv.Let NoArgs) rule.T2 (at 20) (CallPart (calling NoArgs)) (1, lit< tt, refl) ((λ e. omega arith), refl)

-- `f(1)`
t2_clear : Clear (two (taking conv.Let) (caller conv.Let (ValueArg (num 1) NoArgs))) (caller conv.Let (ValueArg (num 1) NoArgs)) rule.T2 (CallPart (calling (ValueArg (num 1) NoArgs)))
t2_clear place v = v.0 refl

-- ---- T3

abbrev a_struct : CoreStruct
a_struct = record { name = name (codes "S"); fields = record { name = name (codes "a"); ty = int } ∷ [] }

abbrev field : List ℕ → CoreSteps
field s = FieldStep (name_at 27 s) NoSteps

abbrev reader : CoreSteps → CoreFun
reader steps = fun g (param x conv.Let (NamedTy (name (codes "S"))) ∷ []) None (Print o (Path o (name x) steps) ∷ []) 30

abbrev with_struct : CoreFun → Core
with_struct k = record { decls = StructOf a_struct ∷ (FunOf k ∷ []) }

-- `print(x.b)`, where the struct has the field a alone
t3_violated : IsViolatedByTypes (with_struct (reader (field (codes "b")))) rule.T3 (at 27)
t3_violated = violated (with_struct (reader (field (codes "b")))) (reader (field (codes "b"))) rule.T3 (at 27) (PlacePart (name x) (field (codes "b"))) (2, lit< tt, refl) (inl (refl, refl))

-- `print(x.a)`
t3_clear : Clear (with_struct (reader (field (codes "a")))) (reader (field (codes "a"))) rule.T3 (PlacePart (name x) (field (codes "a")))
t3_clear place (inl (e, p)) = cc
t3_clear place (inr v) = v

-- ---- T4

abbrev inside_itself : CoreStruct
inside_itself = record { name = name_at 7 (codes "S"); fields = record { name = name (codes "a"); ty = NamedTy (name (codes "S")) } ∷ [] }

-- `struct S { var a: S }`
t4_violated : IsViolatedByTypes (record { decls = StructOf inside_itself ∷ [] }) rule.T4 (at 7)
t4_violated = at_struct refl (inside_itself, (0, lit< tt, refl), refl, inl refl)

-- `struct S { var a: Int }`
t4_clear : TooGreat (record { decls = StructOf a_struct ∷ [] }) a_struct → ⊥
t4_clear (inl e) = cc
t4_clear (inr l) = let m : 4096 < 1 = l in omega arith

-- ---- T5

-- `f(x)`, where f has an `inout` parameter
t5_violated : IsViolatedByTypes (two (taking conv.Inout) (caller conv.Inout (ValueArg (Path (at 21) (name_at 21 x) NoSteps) NoArgs))) rule.T5 (at 21)
t5_violated = violated (two (taking conv.Inout) (caller conv.Inout (ValueArg (Path (at 21) (name_at 21 x) NoSteps) NoArgs))) (caller conv.Inout (ValueArg (Path (at 21) (name_at 21 x) NoSteps) NoArgs)) rule.T5 (at 21)
    (CallPart (calling (ValueArg (Path (at 21) (name_at 21 x) NoSteps) NoArgs))) (1, lit< tt, refl) (inl (inl refl, refl))

-- `f(&x)`
t5_clear : Clear (two (taking conv.Inout) (caller conv.Inout (RefArg (at 21) (name_at 22 x) NoSteps NoArgs))) (caller conv.Inout (RefArg (at 21) (name_at 22 x) NoSteps NoArgs)) rule.T5
    (CallPart (calling (RefArg (at 21) (name_at 22 x) NoSteps NoArgs)))
t5_clear place (inl (inl e, p)) = cc
t5_clear place (inl (inr e, p)) = cc
t5_clear place (inr v) = v

-- ---- T6

abbrev printer : List ℕ → CoreFun
printer s = fun g (param x conv.Let int ∷ []) None (Print o (Path (at 16) (name_at 16 s) NoSteps) ∷ []) 30

-- `print(S)`, where S is a struct
t6_violated : IsViolatedByTypes (with_struct (printer (codes "S"))) rule.T6 (at 16)
t6_violated = violated (with_struct (printer (codes "S"))) (printer (codes "S")) rule.T6 (at 16) (ExprPart (Path (at 16) (name_at 16 (codes "S")) NoSteps)) (1, lit< tt, refl) (refl, inr (tt, (λ e. cc)))

-- `print(x)`
t6_clear : Clear (with_struct (printer x)) (printer x) rule.T6 (ExprPart (Path (at 16) (name_at 16 x) NoSteps))
t6_clear place (p, inl e) = cc
t6_clear place (p, inr (e, n)) = cc

-- ---- T7

abbrev setter : Conv → CoreFun
setter c = fun g (param x c int ∷ []) None (Assign o (name_at 20 x) NoSteps (num 1) ∷ []) 30

-- `&x = 1`, where x is a `let` parameter
t7_violated : IsViolatedByTypes (alone (setter conv.Let)) rule.T7 (at 20)
t7_violated = violated (alone (setter conv.Let)) (setter conv.Let) rule.T7 (at 20) (StmtPart (Assign o (name_at 20 x) NoSteps (num 1))) (0, lit< tt, refl) (refl, refl)

-- the same of an `inout` parameter
t7_clear : Clear (alone (setter conv.Inout)) (setter conv.Inout) rule.T7 (StmtPart (Assign o (name_at 20 x) NoSteps (num 1)))
t7_clear place (p, e) = cc

-- ---- T8

abbrev called : CoreCall
called = CallOf (name_at 20 x) NoSteps o NoArgs

abbrev calls_x : CoreTy → CoreFun
calls_x t = fun g (param x conv.Let t ∷ []) None (CallsAlone o called ∷ []) 30

-- `x()`, where x is an Int
t8_violated : IsViolatedByTypes (alone (calls_x int)) rule.T8 (at 20)
t8_violated = violated (alone (calls_x int)) (calls_x int) rule.T8 (at 20) (CallPart called) (1, lit< tt, refl) (refl, tt)

-- the same of a function
t8_clear : Clear (alone (calls_x (FunTy o NoTys))) (calls_x (FunTy o NoTys)) rule.T8 (CallPart called)
t8_clear place (p, e) = e

-- ---- T9

abbrev prints_x : CoreTy → CoreFun
prints_x t = fun g (param x conv.Let t ∷ []) None (Print o (Path (at 26) (name_at 26 x) NoSteps) ∷ []) 30

-- `print(x)`, where x is a function
t9_violated : IsViolatedByTypes (alone (prints_x (FunTy o NoTys))) rule.T9 (at 26)
t9_violated = violated (alone (prints_x (FunTy o NoTys))) (prints_x (FunTy o NoTys)) rule.T9 (at 26) (StmtPart (Print o (Path (at 26) (name_at 26 x) NoSteps))) (0, lit< tt, refl) (refl, is_fun NoneTaken refl)

-- the same of an Int
t9_clear : Clear (alone (prints_x int)) (prints_x int) rule.T9 (StmtPart (Print o (Path (at 26) (name_at 26 x) NoSteps)))
t9_clear place (p, held) = no_function IntType refl held
  where
    no_function : (t : ValueType) → t ≡ IntType → HoldsFunction (alone (prints_x int)) t → ⊥
    no_function t e (is_fun params i) = cc
    no_function t e (is_fun_to params result i) = cc
    no_function t e (in_element element i more) = cc
    no_function t e (in_field s field i c more) = cc
