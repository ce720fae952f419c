-- For each rule of names a program that violates it, with the place, and the nearest that doesn't.
use Rattle.std.proofs.Common.{◌≡◌, inr, ℕ, zero, suc, true, false, List, [], ◌∷◌, ◌++◌, None, Contains, refl, ◌∙◌, ap, codes, lit<, arith}
use Rattle.std.specs.Str.{bytes_eq}
use Rattle.hv_tree.specs.declared.place.Place.{Place}
use Rattle.hv_tree.specs.declared.types.Name.{Name}
use Rattle.hv_tree.specs.declared.types.Conv.TheVariants as conv
use Rattle.hv_tree.specs.Core.{Core, FunOf, CoreFun, CoreStmt, VarWith, Print, Path, NoSteps}
use Rattle.hv_decls.specs.Locals.{VarBound, fun_body, local}
use Rattle.hv_decls.specs.Sites.{PlacePart, body_scope}
use Rattle.hv_type_rules.specs.Names.{Named, Repeats, ViolatesN1, top_level, shared, NothingVisible, ViolatesN2, as_used, ViolatesN3, HasMain}
use Rattle.hv_decls.proofs.Programs.{o, at, name, name_at, fun, num, int, x, f, param, alone}

-- ---- N1

abbrev empty_fun : ℕ → List ℕ → CoreFun
empty_fun n s = record { name = name_at n s; params = []; result = None; body = (fun s [] None [] 0).body }

abbrev of_two : CoreFun → CoreFun → Core
of_two g k = record { decls = FunOf g ∷ (FunOf k ∷ []) }

abbrev g : List ℕ
g = codes "g"

-- `fun f() { } fun f() { }`
n1_twice : ViolatesN1 (of_two (empty_fun 4 f) (empty_fun 16 f)) (at 16)
n1_twice = top_level (record { before = name_at 4 f ∷ []; again = name_at 16 f; after = []; is = refl; known = (name_at 4 f, (0, lit< tt, refl), refl); at = refl })

abbrev var_f : CoreFun
var_f = fun (codes "main") [] None (VarWith o (name_at 17 f) int (num 1) ∷ []) 28

-- `fun main() { var f: Int = 1 } fun f() { }`, at the later of the two
n1_shared : ViolatesN1 (of_two var_f (empty_fun 34 f)) (at 34)
n1_shared = shared (record {
  before = [];
  decl = FunOf var_f;
  after = FunOf (empty_fun 34 f) ∷ [];
  is = refl;
  body = fun_body var_f;
  of = (0, lit< tt, refl);
  local = local VarBound (name_at 17 f) int;
  declared = (0, lit< tt, refl);
  own = λ e. cc;
  later = inr (name_at 34 f, (0, lit< tt, refl), refl, refl);
})

-- `fun f() { } fun g() { }`
n1_apart : (place : Place) → Repeats (name_at 4 f ∷ (name_at 16 g ∷ [])) place → ⊥
n1_apart place r = by r.before r.again r.after r.is r.known
  where
    unequal : f ≡ g → ⊥
    unequal e = let k : true ≡ false = ap (λ (t : List ℕ). bytes_eq t f) e in cc

    nothing : (n : Name) → Contains [] n → ⊥
    nothing n (k, l, e) = omega arith

    only : (n : Name) → Contains (name_at 4 f ∷ []) n → name_at 4 f ≡ n
    only n (zero, l, e) = e
    only n (suc k, l, e) = absurd (omega arith)

    by : (before : List Name) (again : Name) (after : List Name) → name_at 4 f ∷ (name_at 16 g ∷ []) ≡ before ++ again ∷ after → Named before again.text → ⊥
    by [] again after e (n, c, t) = nothing n c
    by (b ∷ []) again after e (n, c, t) =
        let first : name_at 4 f ≡ b = cc in
        let second : name_at 16 g ≡ again = cc in
        different b again n first second (rw (← first) at c) t
      where
        different : (b again n : Name) → name_at 4 f ≡ b → name_at 16 g ≡ again → Contains (name_at 4 f ∷ []) n → n.text ≡ again.text → ⊥
        different b again n first second c t = let e : f ≡ g = cc (only n c) in absurd (unequal e)
    by (b ∷ (c ∷ [])) again after e k = cc
    by (b ∷ (c ∷ (d ∷ before))) again after e k = cc

-- ---- N2

-- `fun g() { print(x) }`, and the same with a parameter x
abbrev printing : CoreStmt
printing = Print o (Path (at 16) (name_at 16 x) NoSteps)

abbrev unknown : CoreFun
unknown = fun g [] None (printing ∷ []) 19

n2_violated : ViolatesN2 (alone unknown) (at 16)
n2_violated = as_used (record { scope = body_scope (fun_body unknown); part = PlacePart (name_at 16 x) NoSteps }) (name_at 16 x) (2, lit< tt, refl) (0, lit< tt, refl) (refl, no_x) refl
  where
    no_x : Named (name g ∷ []) x → ⊥
    no_x (n, (zero, l, e), t) = let k : true ≡ false = ap (λ (t : List ℕ). bytes_eq t g) (ap (λ (m : Name). m.text) e ∙ t) in cc
    no_x (n, (suc k, l, e), t) = omega arith

abbrev with_x : CoreFun
with_x = fun g (param x conv.Let int ∷ []) None (printing ∷ []) 26

n2_clear : NothingVisible (alone with_x) (body_scope (fun_body with_x)).visible (name_at 16 x) → ⊥
n2_clear (e, q) = cc

-- ---- N3

-- the empty program
n3_violated : ViolatesN3 (record { decls = [] }) (at 0)
n3_violated = (none, refl)
  where
    none : HasMain (record { decls = [] }) → ⊥
    none (k, (n, l, e), t, p, q) = omega arith

-- `fun main() { }`
n3_clear : (place : Place) → ViolatesN3 (alone (fun (codes "main") [] None [] 13)) place → ⊥
n3_clear place (none, e) = none (fun (codes "main") [] None [] 13, (0, lit< tt, refl), refl, refl, refl)
