-- Programs of which the law speaks, and programs that show what each premise is for.
use Rattle.std.proofs.Common.{◌≡◌, ◌⊎◌, inl, inr, ℕ, zero, suc, pos, true, false, List, [], ◌∷◌, ◌++◌, map, Option, Some, None, Contains, codes, arith, refl, sym, ap, ◌∙◌, subst}
use Rattle.hv_tree.specs.declared.place.Place.{Place}
use Rattle.hv_tree.specs.declared.types.Name.{Name}
use Rattle.hv_tree.specs.declared.types.Conv.{Conv}
use Rattle.hv_tree.specs.declared.types.Conv.TheVariants as conv
use Rattle.hv_tree.specs.declared.ast.Operator.TheVariants as operator
use Rattle.hv_tree.specs.declared.refusal.Rule.{Rule}
use Rattle.hv_tree.specs.declared.refusal.Rule.TheVariants as rule
use Rattle.hv_tree.specs.declared.refusal.Refusal.{Refusal}
use Rattle.hv_tree.specs.Tokens.{Comparisons}
use Rattle.hv_tree.specs.Core.{Core, CoreDecl, StructOf, FunOf, CoreFun, CoreParam, CoreTy, IntTy, ArrayTy, FunTy, FunToTy, NoTys, TyOf, CoreExpr, Number, Path, Calls, Array, Chain, NoExprs, NoLinks, LinkOf, NoSteps, CallOf, CoreArgs, NoArgs, ValueArg, BlockOf, CoreStmts, NoStmts, StmtOf, CoreStmt, Var, VarWith, Print, ReturnWith, end_of}
use Rattle.hv_decls.specs.Locals.{Local, CoreBody, fun_body, locals_of}
use Rattle.hv_decls.specs.Sites.{Site, sites_of, decl_bodies, bodies_of}
use Rattle.hv_decls.specs.Types.{StructType}
use Rattle.hv_type_rules.specs.Typing.{Unknown, type_of}
use Rattle.hv_type_rules.specs.TypeRules.{HoldsFunction, is_fun, is_fun_to, in_element, in_field, at_part, at_struct}
use Rattle.hv_type_rules.specs.Names.{Repeats, Named, decl_name, local_name, top_level, of_fields, in_body, shared, SharesName, ViolatesN1, NothingVisible, ViolatesN2, in_decl, in_type, as_used, as_captured, used_by, captured_by, types_of, types_of_decl, names_in_all}
use Rattle.hv_rules.specs.Accepted.{NamePhase, TypePhase, phase_of, IsViolated, IsFirstOf}
use Rattle.hv_rules.specs.Rules as rules
use Rattle.hv_sem_copying.specs.Run.{and_then, mine, become, pure, halt, pay, counted_from}
use Rattle.hv_sem_copying.specs.Meaning.{IsSafe, node_of}
use Rattle.hv_symbols.specs.Texts.{index_of, has}
use Rattle.hv_lemmas.proofs.Members.{Among, in_left, in_right, either_in, listed, contained}
use Rattle.hv_type_judge.proofs.Program.{types_first}
use Rattle.hv_law_formed.specs.Formed.{IsFormed, IsBody, PartIsFormed, AreOfLevel}
use Rattle.hv_law_safe.specs.Runs.{OnlyReads, PartRuns, Returns, Runs}
use Rattle.hv_law_safe.proofs.Lists.{is_text}
use Rattle.hv_law_safe.proofs.Theorem.{accepted_safe}

abbrev at : ℕ → Place
at n = record { start = n }

-- a place that nothing of the example tells
abbrev o : Place
o = at 0

abbrev name : List ℕ → Name
name s = record { text = s; place = o }

abbrev stmts : List CoreStmt → CoreStmts
stmts [] = NoStmts
stmts (x ∷ xs) = StmtOf x (stmts xs)

-- a function whose `}` stands at this place
abbrev fun : List ℕ → List CoreParam → Option CoreTy → List CoreStmt → ℕ → CoreFun
fun s params result xs end = record { name = name s; params = params; result = result; body = BlockOf (stmts xs) (at end) }

abbrev int : CoreTy
int = IntTy o

abbrev num : ℕ → CoreExpr
num n = Number o (pos n)

abbrev x : List ℕ
x = codes "x"

abbrev read : CoreExpr
read = Path o (name x) NoSteps

abbrev x_param : Conv → CoreParam
x_param c = record { name = name x; conv = c; ty = int }

abbrev main : List CoreStmt → CoreFun
main xs = fun (codes "main") [] None xs 40

abbrev call_f : CoreArgs → CoreExpr
call_f args = Calls o (CallOf (name (codes "f")) NoSteps o args)

abbrev two : CoreFun → CoreFun → Core
two f g = record { decls = FunOf f ∷ (FunOf g ∷ []) }

abbrev alone : CoreFun → Core
alone f = record { decls = FunOf f ∷ [] }

-- ---- what the premises are for: without them a program may come to where there is no rule

-- `fun f(x: Int) { print(x) } fun main() { }`, where both `}` stand at one place: f is taken for `main`
abbrev bodies_at_one_place : Core
bodies_at_one_place = two (fun (codes "f") (x_param conv.Let ∷ []) None (Print o read ∷ []) 40) (main [])

same_end : node_of bodies_at_one_place 10 ≡ None
unfolding node_of and_then mine become pure halt pay counted_from
same_end = refl

not_apart : IsFormed bodies_at_one_place → ⊥
not_apart f =
    let e : 0 ≡ 1 = f.apart 0 1 (fun_body (fun (codes "f") (x_param conv.Let ∷ []) None (Print o read ∷ []) 40)) (fun_body (main [])) refl refl refl in
    omega (arith, e)

-- `var x: Int = []` `print(x + 1)`: an array literal without elements has no type, and fits each position
no_element : node_of (alone (main (VarWith o (name x) int (Array o NoExprs) ∷ (Print o (Chain o read (LinkOf operator.Add o (num 1) NoLinks)) ∷ [])))) 10 ≡ None
unfolding node_of and_then mine become pure halt pay counted_from
no_element = refl

no_element_no_type : type_of (alone (main [])) [] (Array o NoExprs) ≡ Unknown
no_element_no_type = refl

-- `print(1 < 2 < 3)`
two_comparisons : node_of (alone (main (Print o (Chain o (num 1) (LinkOf operator.Lt o (num 2) (LinkOf operator.Lt o (num 3) NoLinks))) ∷ []))) 10 ≡ None
unfolding node_of and_then mine become pure halt pay counted_from
two_comparisons = refl

not_of_level : AreOfLevel Comparisons (LinkOf operator.Lt o (num 2) (LinkOf operator.Lt o (num 3) NoLinks)) → ⊥
not_of_level a = a.1 refl

-- `var x: Int` `print(x)`
no_value : node_of (alone (main (Var o (name x) int ∷ (Print o read ∷ [])))) 10 ≡ None
unfolding node_of and_then mine become pure halt pay counted_from
no_value = refl

-- `fun f() -> Int { }` `print(f())`
no_return : node_of (two (fun (codes "f") [] (Some int) [] 20) (main (Print o (call_f NoArgs) ∷ []))) 10 ≡ None
unfolding node_of and_then mine become pure halt pay counted_from
no_return = refl

must_return : Returns (Some int) (BlockOf (stmts (Print o (num 1) ∷ [])) (at 20)) → ⊥
must_return e = cc

-- ---- conventions

-- `fun(Int) -> Int`, and `[fun(inout Int)]`
let_read : OnlyReads (FunToTy o (TyOf conv.Let int NoTys) int)
let_read = ((refl, tt, tt), tt)

inout_read : OnlyReads (ArrayTy o (FunTy o (TyOf conv.Inout int NoTys))) → ⊥
inout_read h = let e : conv.Inout ≡ conv.Let = h.0 in cc

-- ---- a program that meets all premises: `fun f(x: Int) -> Int { return x } fun main() { print(f(1)) }`

abbrev f_fun : CoreFun
f_fun = fun (codes "f") (x_param conv.Let ∷ []) (Some int) (ReturnWith o read ∷ []) 20

abbrev main_fun : CoreFun
main_fun = main (Print o (call_f (ValueArg (num 1) NoArgs)) ∷ [])

abbrev calls : Core
calls = two f_fun main_fun

-- what holds of each element of a list
abbrev AllOf : {A : Type 0} → (A → Type 0) → List A → Type 0
AllOf P [] = Unit {0}
AllOf P (a ∷ rest) = P a × AllOf P rest

each : {A : Type 0} (P : A → Type 0) (xs : List A) → AllOf P xs → (a : A) → Among xs a → P a
each P [] h a i = absurd i
each P (b ∷ bs) h a (inl e) = subst P e h.0
each P (b ∷ bs) h a (inr i) = each P bs h.1 a i

calls_formed : IsFormed calls
calls_formed = record { parts = λ w c. each (λ (v : Site). PartIsFormed v.part) (sites_of calls) parts w (listed (sites_of calls) w c); apart = apart }
  where
    parts : AllOf (λ (v : Site). PartIsFormed v.part) (sites_of calls)
    parts = (tt, (tt, (tt, (tt, (tt, (tt, (tt, (tt, tt))))))))

    apart : (m n : ℕ) (a b : CoreBody) → IsBody calls m a → IsBody calls n b → (end_of a.block).start ≡ (end_of b.block).start → m ≡ n
    apart zero zero a b e f g = refl
    apart (suc zero) (suc zero) a b e f g = refl
    apart zero (suc zero) a b e f g =
        let p : fun_body f_fun ≡ a = cc in
        let q : fun_body main_fun ≡ b = cc in
        let k : 20 ≡ 40 = ap (λ (c : CoreBody). (end_of c.block).start) p ∙ (g ∙ sym (ap (λ (c : CoreBody). (end_of c.block).start) q)) in
        absurd (omega (arith, k))
    apart (suc zero) zero a b e f g =
        let p : fun_body main_fun ≡ a = cc in
        let q : fun_body f_fun ≡ b = cc in
        let k : 40 ≡ 20 = ap (λ (c : CoreBody). (end_of c.block).start) p ∙ (g ∙ sym (ap (λ (c : CoreBody). (end_of c.block).start) q)) in
        absurd (omega (arith, k))
    apart (suc (suc m)) n a b e f g = cc
    apart zero (suc (suc n)) a b e f g = cc
    apart (suc zero) (suc (suc n)) a b e f g = cc

calls_run : Runs calls
calls_run = record { params = params; of_decls = of_decls; of_parts = of_parts; parts = λ w c. each (λ (v : Site). PartRuns v.part) (sites_of calls) parts w (listed (sites_of calls) w c); returns = λ b c. each (λ (a : CoreBody). Returns a.result a.block) (bodies_of calls) (refl, (tt, tt)) b (listed (bodies_of calls) b c) }
  where
    parts : AllOf (λ (v : Site). PartRuns v.part) (sites_of calls)
    parts = (tt, (tt, (tt, (tt, (tt, (tt, (tt, (tt, tt))))))))

    of_f : (p : CoreParam) → Among f_fun.params p → p.conv ≡ conv.Let
    of_f p (inl e) = sym (ap (λ (q : CoreParam). q.conv) e)
    of_f p (inr i) = absurd i

    params : (b : CoreBody) (p : CoreParam) → Contains (bodies_of calls) b → Contains b.params p → p.conv ≡ conv.Let
    params b p c i = each (λ (a : CoreBody). (q : CoreParam) → Among a.params q → q.conv ≡ conv.Let) (bodies_of calls) (of_f, ((λ q j. absurd j), tt)) b (listed (bodies_of calls) b c) p (listed b.params p i)

    of_f_types : (t : CoreTy) → Among (types_of_decl (FunOf f_fun)) t → OnlyReads t
    of_f_types t (inl e) = subst OnlyReads e tt
    of_f_types t (inr (inl e)) = subst OnlyReads e tt
    of_f_types t (inr (inr i)) = absurd i

    of_decls : (d : CoreDecl) (t : CoreTy) → Contains calls.decls d → Contains (types_of_decl d) t → OnlyReads t
    of_decls d t c i = each (λ e. (u : CoreTy) → Among (types_of_decl e) u → OnlyReads u) calls.decls (of_f_types, ((λ u j. absurd j), tt)) d (listed calls.decls d c) t (listed (types_of_decl d) t i)

    no_types : AllOf (λ (v : Site). (u : CoreTy) → Among (types_of v.part) u → OnlyReads u) (sites_of calls)
    no_types = ((λ u j. absurd j), ((λ u j. absurd j), ((λ u j. absurd j), ((λ u j. absurd j), ((λ u j. absurd j), ((λ u j. absurd j), ((λ u j. absurd j), ((λ u j. absurd j), tt))))))))

    of_parts : (w : Site) (t : CoreTy) → Contains (sites_of calls) w → Contains (types_of w.part) t → OnlyReads t
    of_parts w t c i = each (λ (v : Site). (u : CoreTy) → Among (types_of v.part) u → OnlyReads u) (sites_of calls) no_types w (listed (sites_of calls) w c) t (listed (types_of w.part) t i)

-- names that are all different don't repeat
abbrev AllApart : List Name → Type 0
AllApart [] = Unit {0}
AllApart (n ∷ ns) = AllOf (λ (m : Name). n.text ≡ m.text → ⊥) ns × AllApart ns

no_repeats : (ns : List Name) → AllApart ns → (place : Place) → Repeats ns place → ⊥
no_repeats [] a place r = by r.before r.is
  where
    by : (before : List Name) → [] ≡ before ++ r.again ∷ r.after → ⊥
    by [] e = cc
    by (b ∷ bs) e = cc
no_repeats (n ∷ ns) a place r = by r.before r.is (listed r.before r.known.0 r.known.1) (no_repeats ns a.1 place)
  where
    by : (before : List Name) → n ∷ ns ≡ before ++ r.again ∷ r.after → Among before r.known.0 → (Repeats ns place → ⊥) → ⊥
    by [] e i go = i
    by (b ∷ bs) e (inl f) go =
        let first : n ≡ b = cc in
        let rest : ns ≡ bs ++ r.again ∷ r.after = cc in
        each (λ (m : Name). n.text ≡ m.text → ⊥) ns a.0 r.again (subst (λ (ks : List Name). Among ks r.again) (sym rest) (in_right bs (r.again ∷ r.after) r.again (inl refl))) (ap (λ (m : Name). m.text) (first ∙ f) ∙ r.known.2)
    by (b ∷ bs) e (inr i) go =
        let rest : ns ≡ bs ++ r.again ∷ r.after = cc in
        go (record { before = bs; again = r.again; after = r.after; is = rest; known = (r.known.0, contained bs r.known.0 i, r.known.2); at = r.at })

-- no local of these bodies has a declaration's name
not_shared : (place : Place) → SharesName calls place → ⊥
not_shared place s = by s.later
  where
    decl_in : Among calls.decls s.decl
    decl_in = subst (λ (ds : List CoreDecl). Among ds s.decl) (sym s.is) (in_right s.before (s.decl ∷ s.after) s.decl (inl refl))

    of_f : (b : CoreBody) → Among (decl_bodies (FunOf f_fun ∷ [])) b → (l : Local) → Among (locals_of b) l → l.name.text ≡ x
    of_f b (inl e) l i = at_l (subst (λ (a : CoreBody). Among (locals_of a) l) (sym e) i)
      where
        at_l : Among (locals_of (fun_body f_fun)) l → l.name.text ≡ x
        at_l (inl f) = sym (ap (λ (k : Local). k.name.text) f)
        at_l (inr j) = absurd j
    of_f b (inr i) l j = absurd i

    of_main : (b : CoreBody) → Among (decl_bodies (FunOf main_fun ∷ [])) b → (l : Local) → Among (locals_of b) l → l.name.text ≡ x
    of_main b (inl e) l i = absurd (subst (λ (a : CoreBody). Among (locals_of a) l) (sym e) i)
    of_main b (inr i) l j = absurd i

    is_x : s.local.name.text ≡ x
    is_x =
        each (λ d. (b : CoreBody) → Among (decl_bodies (d ∷ [])) b → (l : Local) → Among (locals_of b) l → l.name.text ≡ x) calls.decls (of_f, (of_main, tt)) s.decl decl_in
        s.body (listed (decl_bodies (s.decl ∷ [])) s.body s.of) s.local (listed (locals_of s.body) s.local s.declared)

    not_x : (n : Name) → Among (map decl_name calls.decls) n → n.text ≡ x → ⊥
    not_x = each (λ (n : Name). n.text ≡ x → ⊥) (map decl_name calls.decls) ((λ e. let t : false ≡ true = is_text (codes "f") x e in cc), ((λ e. let t : false ≡ true = is_text (codes "main") x e in cc), tt))

    maps : (cs ds : List CoreDecl) → map decl_name (cs ++ ds) ≡ map decl_name cs ++ map decl_name ds
    maps [] ds = refl
    maps (c ∷ rest) ds = ap (λ ns. decl_name c ∷ ns) (maps rest ds)

    whole : map decl_name calls.decls ≡ map decl_name s.before ++ map decl_name (s.decl ∷ s.after)
    whole = ap (map decl_name) s.is ∙ maps s.before (s.decl ∷ s.after)

    early : (n : Name) → Among (map decl_name (s.before ++ s.decl ∷ [])) n → Among (map decl_name calls.decls) n
    early n i = at (either_in (map decl_name s.before) (decl_name s.decl ∷ []) n (subst (λ (ns : List Name). Among ns n) (maps s.before (s.decl ∷ [])) i))
      where
        at : Among (map decl_name s.before) n ⊎ Among (decl_name s.decl ∷ []) n → Among (map decl_name calls.decls) n
        at (inl j) = subst (λ (ns : List Name). Among ns n) (sym whole) (in_left (map decl_name s.before) (map decl_name (s.decl ∷ s.after)) n j)
        at (inr (inl e)) = subst (λ (ns : List Name). Among ns n) (sym whole) (in_right (map decl_name s.before) (map decl_name (s.decl ∷ s.after)) n (inl e))
        at (inr (inr j)) = absurd j

    late : (n : Name) → Among (map decl_name s.after) n → Among (map decl_name calls.decls) n
    late n i = subst (λ (ns : List Name). Among ns n) (sym whole) (in_right (map decl_name s.before) (map decl_name (s.decl ∷ s.after)) n (inr i))

    by : (Named (map decl_name (s.before ++ s.decl ∷ [])) s.local.name.text × (s.local.name.place ≡ place)) ⊎ ((n : Name) × Contains (map decl_name s.after) n × (n.text ≡ s.local.name.text) × (n.place ≡ place)) → ⊥
    by (inl ((n, c, e), p)) = not_x n (early n (listed (map decl_name (s.before ++ s.decl ∷ [])) n c)) (e ∙ is_x)
    by (inr (n, c, e, p)) = not_x n (late n (listed (map decl_name s.after) n c)) (e ∙ is_x)

no_n1 : (place : Place) → ViolatesN1 calls place → ⊥
no_n1 place (top_level r) = no_repeats (map decl_name calls.decls) (((λ e. cc), tt), (tt, tt)) place r
no_n1 place (of_fields s c r) = each (λ d. d ≡ StructOf s → ⊥) calls.decls ((λ e. cc), ((λ e. cc), tt)) (StructOf s) (listed calls.decls (StructOf s) c) refl
no_n1 place (in_body b c r) = each (λ (a : CoreBody). Repeats (map local_name (locals_of a)) place → ⊥) (bodies_of calls) (no_repeats _ (tt, tt) place, (no_repeats [] tt place, tt)) b (listed (bodies_of calls) b c) r
no_n1 place (shared s) = not_shared place s

no_n2 : (place : Place) → ViolatesN2 calls place → ⊥
no_n2 place (in_decl d n c i s p) = each (λ e. Contains (names_in_all (types_of_decl e)) n → ⊥) calls.decls ((λ j. listed [] n j), ((λ j. listed [] n j), tt)) d (listed calls.decls d c) i
no_n2 place (in_type w n c i s p) =
    each (λ (v : Site). Contains (names_in_all (types_of v.part)) n → ⊥) (sites_of calls)
    ((λ j. listed [] n j), ((λ j. listed [] n j), ((λ j. listed [] n j), ((λ j. listed [] n j), ((λ j. listed [] n j), ((λ j. listed [] n j), ((λ j. listed [] n j), ((λ j. listed [] n j), tt)))))))) w (listed (sites_of calls) w c) i
no_n2 place (as_used w n c i s p) = each (λ (v : Site). (m : Name) → Among (used_by v.part) m → NothingVisible calls v.scope.visible m → ⊥) (sites_of calls) uses w (listed (sites_of calls) w c) n (listed (used_by w.part) n i) s
  where
    of_x : (m : Name) → Among (name x ∷ []) m → NothingVisible calls (locals_of (fun_body f_fun)) m → ⊥
    of_x m (inl e) v = at_x (subst (λ (k : Name). NothingVisible calls (locals_of (fun_body f_fun)) k) (sym e) v)
      where
        at_x : NothingVisible calls (locals_of (fun_body f_fun)) (name x) → ⊥
        at_x u = let q = u.0 in cc
    of_x m (inr j) v = j

    of_name : (m : Name) → Among (name (codes "f") ∷ []) m → NothingVisible calls [] m → ⊥
    of_name m (inl e) v = v.1 (name (codes "f"), contained (map decl_name calls.decls) (name (codes "f")) (inl refl), ap (λ (k : Name). k.text) e)
    of_name m (inr j) v = j

    uses : AllOf (λ (v : Site). (m : Name) → Among (used_by v.part) m → NothingVisible calls v.scope.visible m → ⊥) (sites_of calls)
    uses = ((λ m j v. j), ((λ m j v. j), (of_x, ((λ m j v. j), ((λ m j v. j), ((λ m j v. j), (of_name, ((λ m j v. j), tt))))))))
no_n2 place (as_captured w n c i s p) =
    each (λ (v : Site). Contains (captured_by v.part) n → ⊥) (sites_of calls)
    ((λ j. listed [] n j), ((λ j. listed [] n j), ((λ j. listed [] n j), ((λ j. listed [] n j), ((λ j. listed [] n j), ((λ j. listed [] n j), ((λ j. listed [] n j), ((λ j. listed [] n j), tt)))))))) w (listed (sites_of calls) w c) i

no_name : (r : Rule) (place : Place) → phase_of r ≡ Some NamePhase → IsViolated calls r place → ⊥
no_name rule.N1 place e (inl v) = no_n1 place v
no_name rule.N2 place e (inl v) = no_n2 place v
no_name rule.N3 place e (inl (n, k)) = n (main_fun, contained calls.decls (FunOf main_fun) (inr (inl refl)), refl, refl, refl)
no_name rule.N1 place e (inr (inl (at_part w c v))) = v
no_name rule.N2 place e (inr (inl (at_part w c v))) = v
no_name rule.N3 place e (inr (inl (at_part w c v))) = v
no_name rule.N1 place e (inr (inl (at_struct q v))) = cc
no_name rule.N2 place e (inr (inl (at_struct q v))) = cc
no_name rule.N3 place e (inr (inl (at_struct q v))) = cc
no_name rule.N1 place e (inr (inr (rules.in_body b c v))) = v.violates
no_name rule.N2 place e (inr (inr (rules.in_body b c v))) = v.violates
no_name rule.N3 place e (inr (inr (rules.in_body b c v))) = v.violates
no_name rule.N1 place e (inr (inr (rules.at_task w q c v))) = cc
no_name rule.N2 place e (inr (inr (rules.at_task w q c v))) = cc
no_name rule.N3 place e (inr (inr (rules.at_task w q c v))) = cc
no_name _ place e v = cc

no_struct : (s : List ℕ) → HoldsFunction calls (StructType s) → ⊥
no_struct s (is_fun ps e) = cc
no_struct s (is_fun_to ps t e) = cc
no_struct s (in_element t e h) = cc
no_struct s (in_field c t e i h) = listed [] t i

holds_none : (s : List ℕ) → has [] s ≡ true → HoldsFunction calls (StructType s)
unfolding index_of
holds_none s e = cc

calls_accepted : IsFirstOf (NamePhase ∷ TypePhase ∷ []) calls None
calls_accepted = inr ((λ (r : Refusal) v. no_name r.rule r.place v.0 v.1), inr (types_first calls [] None (λ s. (holds_none s, (λ h. absurd (no_struct s h)))) (λ r c. listed [] r c), refl))

calls_safe : IsSafe calls
calls_safe = accepted_safe calls calls_formed calls_accepted calls_run
