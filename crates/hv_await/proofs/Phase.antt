-- What is found in all bodies is what violates the rules on handles.
use Rattle.std.proofs.Common.{◌≡◌, ◌⊎◌, inl, inr, Bool, true, false, List, [], ◌∷◌, ◌++◌, Option, Some, None, Contains, refl, sym, ap, subst, ◌∙◌, arith, append_assoc, append-nil}
use Rattle.hv_tree.specs.declared.place.Place.{Place}
use Rattle.hv_tree.specs.declared.refusal.Rule.{Rule}
use Rattle.hv_tree.specs.declared.refusal.Rule.TheVariants as rule
use Rattle.hv_tree.specs.declared.refusal.Refusal.{Refusal}
use Rattle.hv_tree.specs.Core.{Core, CoreCall, CallOf, CoreBlock, BlockOf, CoreStmts, NoStmts, StmtOf, CoreBranches, NoElse, Else, BranchOf, CoreStmt, Var, VarWith, Let, Inout, Assign, If, While, Return, ReturnWith, Print, Task, AwaitsAlone, CallsAlone, Bare}
use Rattle.hv_decls.specs.Locals.{Local, CoreBody, entry_locals, binds}
use Rattle.hv_decls.specs.Locals as locals
use Rattle.hv_tree.specs.Earlier.{NotAfter, IsFirst}
use Rattle.hv_decls.specs.Sites.{bodies_of}
use Rattle.hv_rules.specs.Rules.{in_body, at_task}
use Rattle.hv_type_rules.specs.TypeRules.{at_part, at_struct}
use Rattle.hv_rules.specs.Accepted.{HandlePhase, phase_of, IsViolated, IsViolatedInPhase}
use Rattle.hv_lemmas.proofs.Members.{Among, in_left, in_right, either_in, listed, contained}
use Rattle.hv_tree.proofs.Orders.{through}
use Rattle.hv_flow_pass.proofs.Firsts.{same_first}
use Rattle.hv_await.specs.Acts.{refusal}
use Rattle.hv_await.specs.Changing.{if_so, takes_change, call_changes, stmt_changes, branch_changes, block_changes, stmts_changes, body_changes}
use Rattle.hv_await.specs.Found.{Heads, Adds, OfBody, OfBodies}
use Rattle.hv_await.proofs.Sited.{InBodies, task_in_bodies, task_of_bodies}

-- ---- lists that have the first ones

abbrev AmongHeads : (Refusal → Type 0) → List Refusal → Type 0
AmongHeads Is rs = ((r : Refusal) → Among rs r → Is r) × ((r : Refusal) → Is r → (first : Refusal) × Among rs first × NotAfter first r)

to_heads : (Is : Refusal → Type 0) (rs : List Refusal) → AmongHeads Is rs → Heads Is rs
to_heads Is rs h = (λ r c. h.0 r (listed rs r c), λ r i. let t = h.1 r i in (t.0, contained rs t.0 t.1, t.2))

of_heads : (Is : Refusal → Type 0) (rs : List Refusal) → Heads Is rs → AmongHeads Is rs
of_heads Is rs h = (λ r c. h.0 r (contained rs r c), λ r i. let t = h.1 r i in (t.0, listed rs t.0 t.1, t.2))

same_order : (x : Refusal) → NotAfter x x
same_order x = inr (refl, omega arith)

pub heads_first : (Is : Refusal → Type 0) (v : Option Refusal) → IsFirst Is v → Heads Is (locals.listed v)
heads_first Is None none = to_heads Is [] (λ r h. absurd h, λ r i. absurd (none r i))
heads_first Is (Some x) (is, least) = to_heads Is (x ∷ []) (λ r h. by r h, λ r i. (x, inl refl, least r i))
  where
    by : (r : Refusal) → Among (x ∷ []) r → Is r
    by r (inl e) = subst Is e is
    by r (inr h) = absurd h

pub heads_all : (rs : List Refusal) → Heads (Contains rs) rs
heads_all rs = (λ r h. h, λ r h. (r, h, same_order r))

pub heads_both : (P Q : Refusal → Type 0) (xs ys : List Refusal) → Heads P xs → Heads Q ys → Heads (λ r. P r ⊎ Q r) (xs ++ ys)
heads_both P Q xs ys hp hq = to_heads (λ r. P r ⊎ Q r) (xs ++ ys) (λ r h. is r (either_in xs ys r h), λ r i. least r i)
  where
    p : AmongHeads P xs
    p = of_heads P xs hp

    q : AmongHeads Q ys
    q = of_heads Q ys hq

    is : (r : Refusal) → Among xs r ⊎ Among ys r → P r ⊎ Q r
    is r (inl h) = inl (p.0 r h)
    is r (inr h) = inr (q.0 r h)

    least : (r : Refusal) → P r ⊎ Q r → (first : Refusal) × Among (xs ++ ys) first × NotAfter first r
    least r (inl h) = let t = p.1 r h in (t.0, in_left xs ys t.0 t.1, t.2)
    least r (inr h) = let t = q.1 r h in (t.0, in_right xs ys t.0 t.1, t.2)

-- ---- what is added

pub adds_body : (P Q S : Refusal → Type 0) (was one two now xs ys zs : List Refusal) → one ≡ was ++ xs → two ≡ one ++ ys → now ≡ two ++ zs → Heads P xs → Heads Q ys → Heads S zs → Adds (λ r. P r ⊎ (Q r ⊎ S r)) was now
adds_body P Q S was one two now xs ys zs e f g p q s = (
  xs ++ (ys ++ zs),
  g ∙ ap (λ l. l ++ zs) (f ∙ ap (λ l. l ++ ys) e ∙ append_assoc was xs ys) ∙ append_assoc was (xs ++ ys) zs ∙ ap (λ l. was ++ l) (append_assoc xs ys zs),
  heads_both P (λ r. Q r ⊎ S r) xs (ys ++ zs) p (heads_both Q S ys zs q s),
)

pub adds_both : (P Q : Refusal → Type 0) (was then now : List Refusal) → Adds P was then → Adds Q then now → Adds (λ r. P r ⊎ Q r) was now
adds_both P Q was then now (xs, e, p) (ys, f, q) = (xs ++ ys, f ∙ ap (λ l. l ++ ys) e ∙ append_assoc was xs ys, heads_both P Q xs ys p q)

pub adds_nothing : (was : List Refusal) → Adds (λ r. ⊥) was was
adds_nothing was = ([], sym (append-nil was), to_heads (λ r. ⊥) [] (λ r h. h, λ r h. absurd h))

-- the first of a list with the first ones is the first
pub first_of_heads : (Is : Refusal → Type 0) (rs : List Refusal) (v : Option Refusal) → Heads Is rs → IsFirst (Contains rs) v → IsFirst Is v
first_of_heads Is rs None h none = λ r i. let t = h.1 r i in none t.0 t.1
first_of_heads Is rs (Some x) h (is, least) = (h.0 x is, λ r i. let t = h.1 r i in through x t.0 r (least t.0 t.1) t.2)

-- ---- the rule of such tasks

abbrev IsS3 : List Refusal → Type 0
IsS3 rs = (r : Refusal) → Among rs r → r.rule ≡ rule.S3

two_s3 : (xs ys : List Refusal) → IsS3 xs → IsS3 ys → IsS3 (xs ++ ys)
two_s3 xs ys p q r h = by (either_in xs ys r h)
  where
    by : Among xs r ⊎ Among ys r → r.rule ≡ rule.S3
    by (inl i) = p r i
    by (inr i) = q r i

if_s3 : (b : Bool) (place : Place) → IsS3 (if_so b (refusal rule.S3 place))
if_s3 true place r (inl e) = sym (ap (λ q. q.rule) e)
if_s3 true place r (inr h) = absurd h
if_s3 false place r h = absurd h

module _ (tree : Core) where
  call_s3 : (v : List Local) (c : CoreCall) → IsS3 (call_changes tree v c)
  call_s3 v (CallOf root steps paren args) = if_s3 (takes_change tree v root steps) root.place

  mutual
    stmt_s3 : (v : List Local) (x : CoreStmt) → IsS3 (stmt_changes tree v x)
    stmt_s3 v (Var at name t) = λ r h. absurd h
    stmt_s3 v (VarWith at name t x) = λ r h. absurd h
    stmt_s3 v (Let at name t x) = λ r h. absurd h
    stmt_s3 v (Inout at name t root steps) = λ r h. absurd h
    stmt_s3 v (Assign at root steps x) = λ r h. absurd h
    stmt_s3 v (If at branches) = branches_s3 v branches
    stmt_s3 v (While at test body) = block_s3 v body
    stmt_s3 v (Return at) = λ r h. absurd h
    stmt_s3 v (ReturnWith at x) = λ r h. absurd h
    stmt_s3 v (Print at x) = λ r h. absurd h
    stmt_s3 v (Task at name t spawn budget call) = call_s3 v call
    stmt_s3 v (AwaitsAlone at name) = λ r h. absurd h
    stmt_s3 v (CallsAlone at call) = λ r h. absurd h
    stmt_s3 v (Bare at block) = block_s3 v block

    branches_s3 : (v : List Local) (x : CoreBranches) → IsS3 (branch_changes tree v x)
    branches_s3 v NoElse = λ r h. absurd h
    branches_s3 v (Else block) = block_s3 v block
    branches_s3 v (BranchOf test body rest) = two_s3 (block_changes tree v body) (branch_changes tree v rest) (block_s3 v body) (branches_s3 v rest)

    block_s3 : (v : List Local) (x : CoreBlock) → IsS3 (block_changes tree v x)
    block_s3 v (BlockOf stmts end) = stmts_s3 v stmts

    stmts_s3 : (v : List Local) (x : CoreStmts) → IsS3 (stmts_changes tree v x)
    stmts_s3 v NoStmts = λ r h. absurd h
    stmts_s3 v (StmtOf x rest) = two_s3 (stmt_changes tree v x) (stmts_changes tree (locals.listed (binds x) ++ v) rest) (stmt_s3 v x) (stmts_s3 (locals.listed (binds x) ++ v) rest)

  -- ---- bodies

  one_of : (bs : List CoreBody) (b : CoreBody) (r : Refusal) → Among bs b → OfBody tree b r → OfBodies tree bs r
  one_of [] b r h o = h
  one_of (c ∷ bs) b r (inl e) o = inl (subst (λ d. OfBody tree d r) (sym e) o)
  one_of (c ∷ bs) b r (inr h) o = inr (one_of bs b r h o)

  some_of : (bs : List CoreBody) (r : Refusal) → OfBodies tree bs r → (b : CoreBody) × Among bs b × OfBody tree b r
  some_of [] r h = absurd h
  some_of (b ∷ bs) r (inl o) = (b, inl refl, o)
  some_of (b ∷ bs) r (inr h) = let t = some_of bs r h in (t.0, inr t.1, t.2)

  changes_of : (place : Place) (bs : List CoreBody) → InBodies tree place bs → OfBodies tree bs (refusal rule.S3 place)
  changes_of place [] h = h
  changes_of place (b ∷ bs) (inl h) = inl (inr (inr (contained (body_changes tree b) (refusal rule.S3 place) h)))
  changes_of place (b ∷ bs) (inr h) = inr (changes_of place bs h)

  in_bodies : (place : Place) (bs : List CoreBody) (b : CoreBody) → Among bs b → Among (body_changes tree b) (refusal rule.S3 place) → InBodies tree place bs
  in_bodies place [] b h i = h
  in_bodies place (c ∷ bs) b (inl e) i = inl (subst (λ d. Among (body_changes tree d) (refusal rule.S3 place)) (sym e) i)
  in_bodies place (c ∷ bs) b (inr h) i = inr (in_bodies place bs b h i)

  -- ---- the phase of handles

  of_phase : (k : Rule) (place : Place) → phase_of k ≡ Some HandlePhase → IsViolated tree k place → OfBodies tree (bodies_of tree) (refusal k place)
  of_phase rule.L0 place e h = cc
  of_phase rule.L1 place e h = cc
  of_phase rule.L2 place e h = cc
  of_phase rule.L3 place e h = cc
  of_phase rule.P1 place e h = cc
  of_phase rule.P2 place e h = cc
  of_phase rule.N1 place e h = cc
  of_phase rule.N2 place e h = cc
  of_phase rule.N3 place e h = cc
  of_phase rule.T1 place e h = cc
  of_phase rule.T2 place e h = cc
  of_phase rule.T3 place e h = cc
  of_phase rule.T4 place e h = cc
  of_phase rule.T5 place e h = cc
  of_phase rule.T6 place e h = cc
  of_phase rule.T7 place e h = cc
  of_phase rule.T8 place e h = cc
  of_phase rule.T9 place e h = cc
  of_phase rule.I1 place e h = cc
  of_phase rule.I2 place e h = cc
  of_phase rule.I3 place e h = cc
  of_phase rule.X1 place e h = cc
  of_phase rule.X2 place e h = cc
  of_phase rule.S1 place e (inl h) = absurd h
  of_phase rule.S1 place e (inr (inl (at_part w c v))) = absurd v
  of_phase rule.S1 place e (inr (inl (at_struct f v))) = cc
  of_phase rule.S1 place e (inr (inr (in_body b c v))) = one_of (bodies_of tree) b (refusal rule.S1 place) (listed (bodies_of tree) b c) (inl (refl, v))
  of_phase rule.S1 place e (inr (inr (at_task w f c v))) = cc
  of_phase rule.S2 place e (inl h) = absurd h
  of_phase rule.S2 place e (inr (inl (at_part w c v))) = absurd v
  of_phase rule.S2 place e (inr (inl (at_struct f v))) = cc
  of_phase rule.S2 place e (inr (inr (in_body b c v))) = one_of (bodies_of tree) b (refusal rule.S2 place) (listed (bodies_of tree) b c) (inr (inl (refl, v)))
  of_phase rule.S2 place e (inr (inr (at_task w f c v))) = cc
  of_phase rule.S3 place e (inl h) = absurd h
  of_phase rule.S3 place e (inr (inl (at_part w c v))) = absurd v
  of_phase rule.S3 place e (inr (inl (at_struct f v))) = cc
  of_phase rule.S3 place e (inr (inr (in_body b c v))) = absurd v.violates
  of_phase rule.S3 place e (inr (inr (at_task w f c v))) = changes_of place (bodies_of tree) (task_in_bodies tree place w c v)

  violated : (r : Refusal) (k : Rule) → r.rule ≡ k → phase_of k ≡ Some HandlePhase → IsViolated tree k r.place → IsViolatedInPhase HandlePhase tree r
  violated r k e f h = (ap phase_of e ∙ f, subst (λ q. IsViolated tree q r.place) (sym e) h)

  to_phase : (r : Refusal) → OfBodies tree (bodies_of tree) r → IsViolatedInPhase HandlePhase tree r
  to_phase r h = let t = some_of (bodies_of tree) r h in by t.0 t.1 t.2
    where
      by : (b : CoreBody) → Among (bodies_of tree) b → OfBody tree b r → IsViolatedInPhase HandlePhase tree r
      by b i (inl (e, v)) = violated r rule.S1 e refl (inr (inr (in_body b (contained (bodies_of tree) b i) v)))
      by b i (inr (inl (e, v))) = violated r rule.S2 e refl (inr (inr (in_body b (contained (bodies_of tree) b i) v)))
      by b i (inr (inr c)) =
          let among = listed (body_changes tree b) r c in
          let is : r.rule ≡ rule.S3 = block_s3 (entry_locals b) b.block r among in
          let t = task_of_bodies tree r.place (in_bodies r.place (bodies_of tree) b i (subst (λ (k : Rule). Among (body_changes tree b) (refusal k r.place)) is among)) in
          violated r rule.S3 is refl (inr (inr (at_task t.0 refl t.1 t.2)))

  pub handles_first : (bodies : List CoreBody) (was found : List Refusal) (v : Option Refusal) → bodies ≡ bodies_of tree → was ≡ [] → Adds (OfBodies tree bodies) was found → IsFirst (Contains found) v → IsFirst (IsViolatedInPhase HandlePhase tree) v
  handles_first bodies was found v e f (more, g, h) first =
      let all : Heads (OfBodies tree (bodies_of tree)) found =
      subst (λ (rs : List Refusal). Heads (OfBodies tree (bodies_of tree)) rs) (sym (g ∙ ap (λ l. l ++ more) f)) (subst (λ (bs : List CoreBody). Heads (OfBodies tree bs) more) e h) in
      same_first (OfBodies tree (bodies_of tree)) (IsViolatedInPhase HandlePhase tree) v to_phase (λ r i. of_phase r.rule r.place i.0 i.1) (first_of_heads (OfBodies tree (bodies_of tree)) found v all first)
