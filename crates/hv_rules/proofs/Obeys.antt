-- `fun main() { var x: Int = 1 print(x) }` violates no rule anywhere.
use Rattle.std.proofs.Common.{◌≡◌, ◌⊎◌, inl, inr, ℕ, true, false, List, [], ◌∷◌, ◌++◌, map, Some, None, Contains, refl, sym, subst, ap, ◌∙◌, codes, lit<}
use Rattle.std.specs.Str.{bytes_eq}
use Rattle.hv_tree.specs.declared.place.Place.{Place}
use Rattle.hv_tree.specs.declared.types.Name.{Name}
use Rattle.hv_tree.specs.declared.refusal.Rule.{Rule}
use Rattle.hv_tree.specs.declared.refusal.Rule.TheVariants as rule
use Rattle.hv_tree.specs.Core.{Core, CoreDecl, FunOf, StructOf, CoreFun, VarWith, Print, NoSteps}
use Rattle.hv_decls.specs.declared.path.StaticPath.{StaticPath}
use Rattle.hv_rules.specs.declared.event.FlowEvent.TheVariants as event
use Rattle.hv_decls.specs.Types.{ValueType, IntType}
use Rattle.hv_decls.specs.Locals.{Local, CoreBody, fun_body, locals_of, local, VarBound}
use Rattle.hv_decls.specs.Sites.{Site, Scope, ExprPart, PlacePart, StmtPart, sites_of, bodies_of, decl_bodies}
use Rattle.hv_type_rules.specs.Names.{Named, Repeats, decl_name, local_name, types_of_decl, names_in_all, types_of, used_by, captured_by, NothingVisible, SharesName, ViolatesN1, top_level, of_fields, in_body, shared, ViolatesN2, in_decl, in_type, as_used, as_captured, IsViolatedByNames}
use Rattle.hv_type_rules.specs.TypeRules.{HoldsFunction, is_fun, is_fun_to, in_element, in_field, ViolatesType, IsViolatedByTypes, at_part, at_struct}
use Rattle.hv_rules.specs.Events.{Mark, mark, declaring, uses, whole, ToEnd, body_events}
use Rattle.hv_rules.specs.States.{State, start, after}
use Rattle.hv_rules.specs.Rules.{asks_whole, asks_unwritten, Violates, ViolatesS3, IsViolatedIn, IsViolatedByEvents, at_task}
use Rattle.hv_rules.specs.Rules as rules
use Rattle.hv_rules.specs.Accepted.{IsViolated}
use Rattle.hv_rules.proofs.Listed.{whole_listed}
use Rattle.hv_rules.proofs.Obeying.{AllOf, all_at, none_in, Clears, front_clears, quiet}
use Rattle.hv_rules.proofs.Accepts.{one_repeats}
use Rattle.hv_decls.proofs.Programs.{o, at, name, fun, int, num, read, x, alone}

abbrev main : CoreFun
main = fun (codes "main") [] None (VarWith o (name x) int (num 1) ∷ (Print o (read x) ∷ [])) 38

abbrev core : Core
core = alone main

abbrev body : CoreBody
body = fun_body main

the_decl : (d : CoreDecl) → Contains core.decls d → FunOf main ≡ d
the_decl d c = all_at (λ (k : CoreDecl). FunOf main ≡ k) core.decls d (refl, tt) c

the_body : (b : CoreBody) → Contains (bodies_of core) b → body ≡ b
the_body b c = all_at (λ (k : CoreBody). body ≡ k) (bodies_of core) b (refl, tt) c

-- ---- names

other_name : x ≡ codes "main" → ⊥
other_name e = let k : true ≡ false = ap (λ (t : List ℕ). bytes_eq t x) e in cc

no_shared : (place : Place) → SharesName core place → ⊥
no_shared place s = by s.before s.decl s.after s.is s.of s.later
  where
    the_local : (b : CoreBody) → body ≡ b → Contains (locals_of b) s.local → s.local.name.text ≡ x
    the_local b e c = all_at (λ (l : Local). l.name.text ≡ x) (locals_of body) s.local (refl, tt) (subst (λ (k : CoreBody). Contains (locals_of k) s.local) (sym e) c)

    text : (d : CoreDecl) → d ≡ FunOf main → Contains (decl_bodies (d ∷ [])) s.body → s.local.name.text ≡ x
    text d e c = the_local s.body (the_body s.body (subst (λ (k : CoreDecl). Contains (decl_bodies (k ∷ [])) s.body) e c)) s.declared

    apart : (d : CoreDecl) (n : Name) → d ≡ FunOf main → Contains (map decl_name (d ∷ [])) n → n.text ≡ codes "main"
    apart d n e c = all_at (λ (m : Name). m.text ≡ codes "main") (map decl_name (FunOf main ∷ [])) n (refl, tt) (subst (λ (k : CoreDecl). Contains (map decl_name (k ∷ [])) n) e c)

    by : (before : List CoreDecl) (d : CoreDecl) (after : List CoreDecl) → core.decls ≡ before ++ d ∷ after → Contains (decl_bodies (d ∷ [])) s.body →
        ((Named (map decl_name (before ++ d ∷ [])) s.local.name.text × (s.local.name.place ≡ place)) ⊎ ((n : Name) × Contains (map decl_name after) n × (n.text ≡ s.local.name.text) × (n.place ≡ place))) → ⊥
    by [] d after e c (inl ((n, i, t), p)) = let same : d ≡ FunOf main = cc in other_name (sym (text d same c) ∙ (sym t ∙ apart d n same i))
    by [] d after e c (inr (n, i, t, p)) = let last : after ≡ [] = cc in none_in n (subst (λ (ds : List CoreDecl). Contains (map decl_name ds) n) last i)
    by (b ∷ []) d after e c l = cc
    by (b ∷ (k ∷ before)) d after e c l = cc

no_n1 : (place : Place) → ViolatesN1 core place → ⊥
no_n1 place (top_level r) = one_repeats main.name place r
no_n1 place (of_fields s c r) = let e : FunOf main ≡ StructOf s = the_decl (StructOf s) c in cc
no_n1 place (in_body b c r) = one_repeats (name x) place (subst (λ (k : CoreBody). Repeats (map local_name (locals_of k)) place) (sym (the_body b c)) r)
no_n1 place (shared s) = no_shared place s

-- nothing is named in the types of a site, nothing is captured, and what is used is visible
record Fine (w : Site) : Type 0 where
  types : (n : Name) → Contains (names_in_all (types_of w.part)) n → ⊥
  used : (n : Name) → Contains (used_by w.part) n → NothingVisible core w.scope.visible n → ⊥
  captures : (n : Name) → Contains (captured_by w.part) n → ⊥

abbrev x_there : (n : Name) → Contains (name x ∷ []) n → NothingVisible core (local VarBound (name x) int ∷ []) n → ⊥
x_there n c v = all_at (λ (m : Name). NothingVisible core (local VarBound (name x) int ∷ []) m → ⊥) (name x ∷ []) n ((λ w. let e : Some (local VarBound (name x) int) ≡ None = w.0 in cc), tt) c v

fine : AllOf Fine (sites_of core)
fine = (
  record { types = none_in; used = λ n c v. none_in n c; captures = none_in },
  (
    record { types = none_in; used = λ n c v. none_in n c; captures = none_in },
    (
      record { types = none_in; used = λ n c v. none_in n c; captures = none_in },
      (record { types = none_in; used = λ n c v. none_in n c; captures = none_in }, (record { types = none_in; used = x_there; captures = none_in }, tt)),
    ),
  ),
)

fine_at : (w : Site) → Contains (sites_of core) w → Fine w
fine_at w c = all_at Fine (sites_of core) w fine c

no_n2 : (place : Place) → ViolatesN2 core place → ⊥
no_n2 place (in_decl d n c i s p) = none_in n (subst (λ (k : CoreDecl). Contains (names_in_all (types_of_decl k)) n) (sym (the_decl d c)) i)
no_n2 place (in_type w n c i s p) = (fine_at w c).types n i
no_n2 place (as_used w n c i v p) = (fine_at w c).used n i v
no_n2 place (as_captured w n c i v p) = (fine_at w c).captures n i

no_names : (r : Rule) (place : Place) → IsViolatedByNames core r place → ⊥
no_names rule.N1 place v = no_n1 place v
no_names rule.N2 place v = no_n2 place v
no_names rule.N3 place (not, e) = not (main, (0, lit< tt, refl), refl, refl, refl)
no_names _ place v = v

-- ---- types

abbrev Typed : Site → Type 0
Typed w = (r : Rule) (place : Place) → ViolatesType core w.scope place r w.part → ⊥

no_function : (t : ValueType) → t ≡ IntType → HoldsFunction core t → ⊥
no_function t e (is_fun params i) = cc
no_function t e (is_fun_to params result i) = cc
no_function t e (in_element element i more) = cc
no_function t e (in_field s field i c more) = cc

-- what stands before and behind the declaration
abbrev before : Scope
before = record { visible = []; result = None }

abbrev behind : Scope
behind = record { visible = local VarBound (name x) int ∷ []; result = None }

var : (r : Rule) (place : Place) → ViolatesType core before place r (StmtPart (VarWith o (name x) int (num 1))) → ⊥
var rule.T1 place v = v.1 refl
var _ place v = v

number : (r : Rule) (place : Place) → ViolatesType core before place r (ExprPart (num 1)) → ⊥
number rule.T1 place v = v
number _ place v = v

print : (r : Rule) (place : Place) → ViolatesType core behind place r (StmtPart (Print o (read x))) → ⊥
print rule.T1 place v = v.1
print rule.T9 place v = no_function IntType refl v.1
print _ place v = v

path : (r : Rule) (place : Place) → ViolatesType core behind place r (ExprPart (read x)) → ⊥
path rule.T6 place (p, inl e) = cc
path rule.T6 place (p, inr (e, n)) = cc
path _ place v = v

root : (r : Rule) (place : Place) → ViolatesType core behind place r (PlacePart (name x) NoSteps) → ⊥
root rule.T1 place v = v
root _ place v = v

typed : AllOf Typed (sites_of core)
typed = (var, (number, (print, (path, (root, tt)))))

no_types : (r : Rule) (place : Place) → IsViolatedByTypes core r place → ⊥
no_types r place (at_part w c v) = all_at Typed (sites_of core) w typed c r place v
no_types r place (at_struct e (s, c, p, g)) = let k : FunOf main ≡ StructOf s = the_decl (StructOf s) c in cc

-- ---- events

abbrev the_end : Mark
the_end = record { event = event.ScopeEnd 0; place = at 38; belongs = ToEnd [] [] false }

abbrev set_up : State
set_up = after (declaring 0 (event.Init (whole 0)) o) (after (mark (event.Declare 0) o) start)

-- the use of x, which is initialised and free
use_obeys : (r : Rule) → Violates core body set_up r (uses (whole 0) o) → ⊥
use_obeys rule.I1 (p, e, (leaf, c, front, hole)) = by p (cc) leaf hole
  where
    by : (p : StaticPath) → p ≡ whole 0 → (leaf : List ℕ) → set_up.filled (record { root = p.root; fields = leaf }) ≡ false → ⊥
    by p same leaf h = let k : set_up.filled (record { root = 0; fields = leaf }) ≡ false = rw same at h in let e : true ≡ false = k in cc
use_obeys rule.I2 (n, c, hole) = none_in n c
use_obeys rule.I3 e = cc
use_obeys rule.X1 (p, e, clash) = cc
use_obeys rule.X2 (p, e, (a, c, meets, changes)) = none_in a c
use_obeys rule.S1 (h, c, was) = none_in h c
use_obeys rule.S2 (h, e, was) = cc
use_obeys _ v = v

abbrev events : List Mark
events = mark (event.Declare 0) o ∷ (declaring 0 (event.Init (whole 0)) o ∷ (uses (whole 0) o ∷ (the_end ∷ [])))

clears : Clears core body start events
clears = (
  quiet core body start (mark (event.Declare 0) o) refl refl refl refl refl refl (λ h e. cc),
  (
    quiet core body (after (mark (event.Declare 0) o) start) (declaring 0 (event.Init (whole 0)) o) refl refl refl refl refl refl (λ h e. cc),
    (use_obeys, (quiet core body set_up the_end refl refl refl refl refl refl (λ h e. cc), tt)),
  ),
)

no_trace : (r : Rule) (place : Place) → IsViolatedIn core body r place → ⊥
no_trace r place v = by ((whole_listed (body_events core body) (search) ((v.before ++ v.last ∷ []) ++ v.trace.0)).0 v.trace.1)
  where
    by : ((v.before ++ v.last ∷ []) ++ v.trace.0 ≡ events) ⊎ ⊥ → ⊥
    by (inl e) = front_clears core body v.before v.last v.trace.0 events start r clears e v.violates
    by (inr h) = h

no_tasks : AllOf (λ w. (place : Place) → ViolatesS3 core w.scope w.part place → ⊥) (sites_of core)
no_tasks = ((λ p v. v), ((λ p v. v), ((λ p v. v), ((λ p v. v), ((λ p v. v), tt)))))

no_events : (r : Rule) (place : Place) → IsViolatedByEvents core r place → ⊥
no_events r place (rules.in_body b c v) = no_trace r place (subst (λ (k : CoreBody). IsViolatedIn core k r place) (sym (the_body b c)) v)
no_events r place (at_task w e c v) = all_at (λ w. (place : Place) → ViolatesS3 core w.scope w.part place → ⊥) (sites_of core) w no_tasks c place v

pub obeys : (r : Rule) (place : Place) → IsViolated core r place → ⊥
obeys r place (inl v) = no_names r place v
obeys r place (inr (inl v)) = no_types r place v
obeys r place (inr (inr v)) = no_events r place v
