-- The primaries as what stands one after the other.
use Rattle.std.proofs.Common.{◌≡◌, true, false, List, [], ◌∷◌, ◌++◌, Option, inl, inr, refl, sym, ◌∙◌, ap, subst, append-nil}
use Rattle.std.specs.Prelude.{codes}
use Rattle.hv_tree.specs.declared.place.Place.{Place}
use Rattle.hv_tree.specs.declared.types.Name.{Name}
use Rattle.hv_tree.specs.declared.types.Ty.{Ty}
use Rattle.hv_tree.specs.declared.ast.Param.{Param}
use Rattle.hv_tree.specs.declared.ast.Expr.{Expr}
use Rattle.hv_tree.specs.declared.ast.ExprKind.TheVariants as variant
use Rattle.hv_tree.specs.declared.ast.PlaceExpr.{PlaceExpr}
use Rattle.hv_tree.specs.declared.ast.Step.{Step}
use Rattle.hv_tree.specs.declared.ast.Call.{Call}
use Rattle.hv_tree.specs.declared.ast.Block.{Block}
use Rattle.hv_tree.specs.Tokens.{Tokens, mark, keyword, word, Separated, one_part, more_parts, Ors}
use Rattle.hv_tree.specs.Types.{AreParams, IsReturn}
use Rattle.hv_tree.specs.Grammar.{expr_at, call_of, path_of, AreNames, IsLevel, IsPrimary, AreElements, AreSteps, AreArgs, IsCall, IsBlock, numeral_primary, truth_primary, falsehood_primary, path_primary, call_primary, group_primary, await_primary, array_primary, filled_primary, count_primary, lambda_primary, one_element, more_element, is_call}
use Rattle.hv_syn_exact.proofs.Exact.{Then, Either, Nothing}
use Rattle.hv_syn_exact.proofs.Lexemes.{After, numbered}
use Rattle.hv_syn_exact.proofs.Inner.{IsPlace}
use Rattle.hv_syn_exact.proofs.Between.{Mapped, mapped_parts, mapped_by, Closed, Bracketed, bracket_parts, bracketed_by, bracket_front}
use Rattle.hv_syn_exact.proofs.ArgRules.{place_parts, place_by}
use Rattle.hv_syn_exact.proofs.StepRules.{call_by, CallRest}

-- ---- their forms

abbrev pub Number : Expr → Tokens → Type 0
Number = After numbered (λ v. Nothing (expr_at v.1 (variant.Int v.0)))

abbrev pub path_expr : Name → List Step → Expr
path_expr root ss = expr_at root.place (variant.Path (path_of root ss))

abbrev pub call_expr : Name → Call → Expr
call_expr root c = expr_at root.place (variant.Call c)

abbrev pub Called : Name → List Step → Expr → Tokens → Type 0
Called root ss = Mapped (CallRest root ss) (call_expr root)

abbrev pub Named : Expr → Tokens → Type 0
Named = After word (λ root. Then AreSteps (λ ss. Either (Called root ss) (Nothing (path_expr root ss))))

abbrev pub same_expr : Place → Expr → Place → Expr
same_expr left x right = x

abbrev pub Group : Expr → Tokens → Type 0
Group = Bracketed (codes "(") (codes ")") (IsLevel Ors) same_expr

abbrev pub array_by : Place → List Expr → Place → Expr
array_by left xs right = expr_at left (variant.ArrayLit xs)

abbrev pub Array : Expr → Tokens → Type 0
Array = Bracketed (codes "[") (codes "]") (Separated (IsLevel Ors)) array_by

abbrev pub Truth : Expr → Tokens → Type 0
Truth = After (keyword (codes "true")) (λ at. Nothing (expr_at at (variant.Bool true)))

abbrev pub Falsehood : Expr → Tokens → Type 0
Falsehood = After (keyword (codes "false")) (λ at. Nothing (expr_at at (variant.Bool false)))

abbrev pub Awaited : Expr → Tokens → Type 0
Awaited = After (keyword (codes "await")) (λ at. After word (λ name. Nothing (expr_at at (variant.Await name))))

abbrev pub filled_by : Place → Expr → Expr → Place → Expr
filled_by at len value right = expr_at at (variant.Filled len value)

-- the value and the closing bracket, after the length
abbrev pub FilledRest : Place → Expr → Expr → Tokens → Type 0
FilledRest at len = After (mark (codes ",")) (λ comma. Closed (codes ")") (IsLevel Ors) (filled_by at len))

abbrev pub Filled : Expr → Tokens → Type 0
Filled = After (keyword (codes "filled")) (λ at. After (mark (codes "(")) (λ left. Then (IsLevel Ors) (FilledRest at)))

abbrev pub count_by : Place → Place → PlaceExpr → Place → Expr
count_by at left p right = expr_at at (variant.Count p)

abbrev pub Counted : Expr → Tokens → Type 0
Counted = After (keyword (codes "count")) (λ at. Bracketed (codes "(") (codes ")") IsPlace (count_by at))

abbrev pub same_names : Place → List Name → Place → List Name
same_names left ns right = ns

abbrev pub Captures : List Name → Tokens → Type 0
Captures = Bracketed (codes "[") (codes "]") AreNames same_names

abbrev pub same_params : Place → List Param → Place → List Param
same_params left ps right = ps

abbrev pub Params : List Param → Tokens → Type 0
Params = Bracketed (codes "(") (codes ")") AreParams same_params

abbrev pub lambda_by : Place → List Name → List Param → Option Ty → Block → Expr
lambda_by at cs ps result body = expr_at at (variant.Lambda cs ps result body)

abbrev pub Lambda : Expr → Tokens → Type 0
Lambda = After (keyword (codes "fun")) (λ at. Then Captures (λ cs. Then Params (λ ps. Then IsReturn (λ result. Mapped IsBlock (lambda_by at cs ps result)))))

-- ---- one of them

abbrev pub FromCounted : Expr → Tokens → Type 0
FromCounted = Either Counted Lambda

abbrev pub FromFilled : Expr → Tokens → Type 0
FromFilled = Either Filled FromCounted

abbrev pub FromAwaited : Expr → Tokens → Type 0
FromAwaited = Either Awaited FromFilled

abbrev pub FromFalsehood : Expr → Tokens → Type 0
FromFalsehood = Either Falsehood FromAwaited

abbrev pub Worded : Expr → Tokens → Type 0
Worded = Either Truth FromFalsehood

abbrev pub FromArray : Expr → Tokens → Type 0
FromArray = Either Array Worded

abbrev pub FromGroup : Expr → Tokens → Type 0
FromGroup = Either Group FromArray

abbrev pub FromNamed : Expr → Tokens → Type 0
FromNamed = Either Named FromGroup

abbrev pub Primary : Expr → Tokens → Type 0
Primary = Either Number FromNamed

-- ---- elements

pub to_elements : (xs : List Expr) (ts : Tokens) → Separated (IsLevel Ors) xs ts → AreElements xs ts
to_elements xs ts (one_part x h e) = one_element x h e
to_elements xs ts (more_parts x a comma rest b h k e is) = more_element x rest comma a b h (to_elements rest b k) e is

pub from_elements : (xs : List Expr) (ts : Tokens) → AreElements xs ts → Separated (IsLevel Ors) xs ts
from_elements xs ts (one_element x h e) = one_part x h e
from_elements xs ts (more_element x rest comma a b h k e is) = more_parts x a comma rest b h (from_elements rest b k) e is

-- ---- they are primaries

to_named : (x : Expr) (ts : Tokens) (root : Name) (ss : List Step) (u v : Tokens) → AreSteps ss u → ts ≡ word root ∷ (u ++ v) → Either (Called root ss) (Nothing (path_expr root ss)) x v → IsPrimary x ts
to_named x ts root ss u v h is (inl c) =
    let m = mapped_parts (CallRest root ss) (call_expr root) x v c in
    let p = bracket_parts (codes "(") (codes ")") AreArgs (call_by root ss) m.0 v m.1 in
    call_primary root.place m.0 (is_call root ss p.left p.right p.inside u p.front h p.reads refl p.value (is ∙ ap (λ v. word root ∷ (u ++ v)) p.is)) m.2
to_named x ts root ss u v h is (inr n) = path_primary root ss u h n.0 (is ∙ ap (λ v. word root ∷ (u ++ v)) n.1 ∙ ap (λ l. word root ∷ l) (append-nil u))

to_filled : (x : Expr) (ts : Tokens) → Filled x ts → IsPrimary x ts
to_filled x ts f =
    let g = f.2 in let t = g.2 in let c = t.4 in let v = c.2 in let z = v.4 in
    filled_primary f.0 g.0 c.0 z.0 t.0 v.0 t.1 v.1 t.3 v.3 z.2.0
    (f.3 ∙ ap (λ y. keyword (codes "filled") f.0 ∷ y) (g.3 ∙ ap (λ y. mark (codes "(") g.0 ∷ y) (t.5 ∙ ap (λ y. t.1 ++ y)
    (c.3 ∙ ap (λ y. mark (codes ",") c.0 ∷ y) (v.5 ∙ ap (λ y. v.1 ++ y) (z.3 ∙ ap (λ y. mark (codes ")") z.0 ∷ y) z.2.1))))))

to_counted : (x : Expr) (ts : Tokens) → Counted x ts → IsPrimary x ts
to_counted x ts f =
    let b = bracket_parts (codes "(") (codes ")") IsPlace (count_by f.0) x f.1 f.2 in
    let p = place_parts b.inside b.front b.reads in
    count_primary f.0 b.left b.right p.root p.steps p.front p.reads (b.value ∙ ap (λ p. expr_at f.0 (variant.Count p)) p.value)
    (f.3 ∙ ap (λ y. keyword (codes "count") f.0 ∷ y) (b.is ∙ ap (λ y. mark (codes "(") b.left ∷ (y ++ mark (codes ")") b.right ∷ [])) p.is))

to_lambda : (x : Expr) (ts : Tokens) → Lambda x ts → IsPrimary x ts
to_lambda x ts f =
    let c = f.2 in let p = c.4 in let r = p.4 in
    let m = mapped_parts IsBlock (lambda_by f.0 c.0 p.0 r.0) x r.2 r.4 in
    let cs = bracket_parts (codes "[") (codes "]") AreNames same_names c.0 c.1 c.3 in
    let ps = bracket_parts (codes "(") (codes ")") AreParams same_params p.0 p.1 p.3 in
    lambda_primary f.0 cs.left cs.right ps.left ps.right c.0 p.0 r.0 m.0 cs.front ps.front r.1 r.2
    (subst (λ ns. AreNames ns cs.front) (sym cs.value) cs.reads)
    (subst (λ qs. AreParams qs ps.front) (sym ps.value) ps.reads)
    r.3 m.1 m.2
    (f.3 ∙ ap (λ y. keyword (codes "fun") f.0 ∷ y) (c.5 ∙ ap (λ u. u ++ c.2) cs.is ∙ bracket_front (codes "[") (codes "]") cs.left cs.right cs.front c.2
    ∙ ap (λ y. mark (codes "[") cs.left ∷ (cs.front ++ mark (codes "]") cs.right ∷ y)) (p.5 ∙ ap (λ u. u ++ p.2) ps.is ∙ bracket_front (codes "(") (codes ")") ps.left ps.right ps.front p.2
    ∙ ap (λ y. mark (codes "(") ps.left ∷ (ps.front ++ mark (codes ")") ps.right ∷ y)) r.5)))

to_worded : (x : Expr) (ts : Tokens) → Worded x ts → IsPrimary x ts
to_worded x ts (inl f) = truth_primary f.0 f.2.0 (f.3 ∙ ap (λ y. keyword (codes "true") f.0 ∷ y) f.2.1)
to_worded x ts (inr (inl f)) = falsehood_primary f.0 f.2.0 (f.3 ∙ ap (λ y. keyword (codes "false") f.0 ∷ y) f.2.1)
to_worded x ts (inr (inr (inl f))) = let w = f.2 in await_primary f.0 w.0 w.2.0 (f.3 ∙ ap (λ y. keyword (codes "await") f.0 ∷ y) (w.3 ∙ ap (λ y. word w.0 ∷ y) w.2.1))
to_worded x ts (inr (inr (inr (inl f)))) = to_filled x ts f
to_worded x ts (inr (inr (inr (inr (inl f))))) = to_counted x ts f
to_worded x ts (inr (inr (inr (inr (inr f))))) = to_lambda x ts f

to_group : (x : Expr) (ts : Tokens) → Group x ts → IsPrimary x ts
to_group x ts g =
    let p = bracket_parts (codes "(") (codes ")") (IsLevel Ors) same_expr x ts g in
    group_primary p.left p.right p.front (subst (λ x. IsLevel Ors x p.front) (sym p.value) p.reads) p.is

to_array : (x : Expr) (ts : Tokens) → Array x ts → IsPrimary x ts
to_array x ts g =
    let p = bracket_parts (codes "[") (codes "]") (Separated (IsLevel Ors)) array_by x ts g in
    array_primary p.left p.right p.inside p.front (to_elements p.inside p.front p.reads) p.value p.is

pub to_primary : (x : Expr) (ts : Tokens) → Primary x ts → IsPrimary x ts
to_primary x ts (inl n) = numeral_primary n.0.1 n.0.0 n.2.0 (n.3 ∙ ap (λ y. numbered n.0 ∷ y) n.2.1)
to_primary x ts (inr (inl m)) = let s = m.2 in to_named x ts m.0 s.0 s.1 s.2 s.3 (m.3 ∙ ap (λ y. word m.0 ∷ y) s.5) s.4
to_primary x ts (inr (inr (inl g))) = to_group x ts g
to_primary x ts (inr (inr (inr (inl g)))) = to_array x ts g
to_primary x ts (inr (inr (inr (inr w)))) = to_worded x ts w

-- ---- and primaries are of these forms

from_call : (x : Expr) (ts : Tokens) (at : Place) (c : Call) → IsCall at c ts → x ≡ expr_at at (variant.Call c) → Named x ts
from_call x ts at c (is_call root ss paren right xs a b h k e1 e2 is) e =
    let call = call_of (path_of root ss) paren xs in
    let rest = mark (codes "(") paren ∷ (b ++ mark (codes ")") right ∷ []) in
    let value : x ≡ call_expr root call = e ∙ ap (λ p. expr_at p (variant.Call c)) e1 ∙ ap (λ c. expr_at root.place (variant.Call c)) e2 in
    (root, a ++ rest, (ss, a, rest, h, inl (mapped_by (CallRest root ss) (call_expr root) call x rest (bracketed_by (codes "(") (codes ")") AreArgs (call_by root ss) paren right xs b call rest k refl refl) value), refl), is)

from_filled : (x : Expr) (ts : Tokens) (at left comma right : Place) (len value : Expr) (a b : Tokens) → IsLevel Ors len a → IsLevel Ors value b → x ≡ expr_at at (variant.Filled len value) →
    ts ≡ keyword (codes "filled") at ∷ mark (codes "(") left ∷ (a ++ mark (codes ",") comma ∷ (b ++ mark (codes ")") right ∷ [])) → Filled x ts
from_filled x ts at left comma right len value a b h k e is =
    let last = mark (codes ")") right ∷ [] in
    let rest = mark (codes ",") comma ∷ (b ++ last) in
    (at, mark (codes "(") left ∷ (a ++ rest), (left, a ++ rest, (len, a, rest, h, (comma, b ++ last, (value, b, last, k, (right, [], (e, refl), refl), refl), refl), refl), refl), is)

from_counted : (x : Expr) (ts : Tokens) (at left right : Place) (root : Name) (ss : List Step) (a : Tokens) → AreSteps ss a → x ≡ expr_at at (variant.Count (path_of root ss)) →
    ts ≡ keyword (codes "count") at ∷ mark (codes "(") left ∷ word root ∷ (a ++ mark (codes ")") right ∷ []) → Counted x ts
from_counted x ts at left right root ss a h e is =
    let inside = word root ∷ a in
    let rest = mark (codes "(") left ∷ (inside ++ mark (codes ")") right ∷ []) in
    (at, rest, bracketed_by (codes "(") (codes ")") IsPlace (count_by at) left right (path_of root ss) inside x rest (place_by root ss a (path_of root ss) inside h refl refl) e refl, is)

from_lambda : (x : Expr) (ts : Tokens) (at o1 c1 o2 c2 : Place) (cs : List Name) (ps : List Param) (result : Option Ty) (body : Block) (a b c d : Tokens) → AreNames cs a → AreParams ps b → IsReturn result c → IsBlock body d →
    x ≡ lambda_by at cs ps result body →
    ts ≡ keyword (codes "fun") at ∷ mark (codes "[") o1 ∷ (a ++ mark (codes "]") c1 ∷ mark (codes "(") o2 ∷ (b ++ mark (codes ")") c2 ∷ (c ++ d))) → Lambda x ts
from_lambda x ts at o1 c1 o2 c2 cs ps result body a b c d h1 h2 h3 h4 e is =
    let u = mark (codes "[") o1 ∷ (a ++ mark (codes "]") c1 ∷ []) in
    let v = mark (codes "(") o2 ∷ (b ++ mark (codes ")") c2 ∷ []) in
    let tail = mark (codes "(") o2 ∷ (b ++ mark (codes ")") c2 ∷ (c ++ d)) in (
      at,
      mark (codes "[") o1 ∷ (a ++ mark (codes "]") c1 ∷ tail),
      (
        cs,
        u,
        tail,
        bracketed_by (codes "[") (codes "]") AreNames same_names o1 c1 cs a cs u h1 refl refl,
        (
          ps,
          v,
          c ++ d,
          bracketed_by (codes "(") (codes ")") AreParams same_params o2 c2 ps b ps v h2 refl refl,
          (result, c, d, h3, mapped_by IsBlock (lambda_by at cs ps result) body x d h4 e, refl),
          sym (bracket_front (codes "(") (codes ")") o2 c2 b (c ++ d)),
        ),
        sym (bracket_front (codes "[") (codes "]") o1 c1 a tail),
      ),
      is,
    )

pub from_primary : (x : Expr) (ts : Tokens) → IsPrimary x ts → Primary x ts
from_primary x ts (numeral_primary at value e is) = inl ((value, at), [], (e, refl), is)
from_primary x ts (path_primary root ss a h e is) = inr (inl (root, a, (ss, a, [], h, inr (e, refl), sym (append-nil a)), is))
from_primary x ts (call_primary at c h e) = inr (inl (from_call x ts at c h e))
from_primary x ts (group_primary left right a h is) = inr (inr (inl (bracketed_by (codes "(") (codes ")") (IsLevel Ors) same_expr left right x a x ts h refl is)))
from_primary x ts (array_primary left right xs a h e is) = inr (inr (inr (inl (bracketed_by (codes "[") (codes "]") (Separated (IsLevel Ors)) array_by left right xs a x ts (from_elements xs a h) e is))))
from_primary x ts (truth_primary at e is) = inr (inr (inr (inr (inl (at, [], (e, refl), is)))))
from_primary x ts (falsehood_primary at e is) = inr (inr (inr (inr (inr (inl (at, [], (e, refl), is))))))
from_primary x ts (await_primary at name e is) = inr (inr (inr (inr (inr (inr (inl (at, word name ∷ [], (name, [], (e, refl), refl), is)))))))
from_primary x ts (filled_primary at left comma right len value a b h k e is) = inr (inr (inr (inr (inr (inr (inr (inl (from_filled x ts at left comma right len value a b h k e is))))))))
from_primary x ts (count_primary at left right root ss a h e is) = inr (inr (inr (inr (inr (inr (inr (inr (inl (from_counted x ts at left right root ss a h e is)))))))))
from_primary x ts (lambda_primary at o1 c1 o2 c2 cs ps result body a b c d h1 h2 h3 h4 e is) =
    inr (inr (inr (inr (inr (inr (inr (inr (inr (from_lambda x ts at o1 c1 o2 c2 cs ps result body a b c d h1 h2 h3 h4 e is)))))))))
