-- What holds in a program that violates no rule of names or types.
use Rattle.std.proofs.Common.{◌≡◌, ◌⊎◌, inl, inr, ℕ, ◌+◌, ◌<◌, List, [], ◌∷◌, ◌++◌, map, Option, Some, None, codes, arith, refl, sym, ap, ◌∙◌, subst}
use Rattle.std.specs.List.{slice_get}
use Rattle.hv_tree.specs.declared.place.Place.{Place}
use Rattle.hv_tree.specs.declared.types.Name.{Name}
use Rattle.hv_tree.specs.declared.refusal.Rule.{Rule}
use Rattle.hv_tree.specs.declared.refusal.Rule.TheVariants as rule
use Rattle.hv_tree.specs.Core.{Core, CoreDecl, StructOf, FunOf, CoreFun, CoreStruct, CoreParam, CoreTy, CoreBlock, BlockOf, CoreStmts, NoStmts, StmtOf, CoreBranches, NoElse, Else, BranchOf, CoreStmt, Var, VarWith, Let, Inout, Assign, If, While, Return, ReturnWith, Print, Task, AwaitsAlone, CallsAlone, Bare}
use Rattle.hv_decls.specs.Types.{ValueType, struct_in, fun_in}
use Rattle.hv_decls.specs.Locals.{Captured, VarBound, LetBound, InoutBound, Handle, Local, CoreBody, fun_body, entry_locals, locals_of, declared_in, in_branches, in_block, in_stmts, number_in, local_in, value_by}
use Rattle.hv_decls.specs.Sites.{Scope, Site, sites_of, sites_of_body, lambdas_at, decl_bodies, bodies_of}
use Rattle.hv_type_rules.specs.Names.{Named, decl_name, top_level, in_body, shared, NothingVisible, used_by, as_used, captured_by, as_captured, NoLocal, HasMain, IsViolatedByNames}
use Rattle.hv_type_rules.specs.TypeRules.{ViolatesType, IsViolatedByTypes, at_part}
use Rattle.hv_rules.specs.Accepted.{NamePhase, TypePhase, phase_of, IsFirstOf}
use Rattle.hv_sem_copying.specs.Places.{body_number}
use Rattle.hv_lemmas.proofs.Members.{Among, in_left, in_right, either_in, listed, contained}
use Rattle.hv_law_formed.specs.Formed.{IsFormed, IsBody}
use Rattle.hv_law_safe.specs.Runs.{Runs}
use Rattle.hv_law_safe.proofs.Lists.{at_among, map_among, Distinct, distinct, numbered, named, local_found, local_lacks, no_number, fun_found, struct_found, fun_lacks, no_decl, same_decl, number_finds}

pub record Accepted (tree : Core) : Type 0 where
  pub names : (r : Rule) (place : Place) → phase_of r ≡ Some NamePhase → IsViolatedByNames tree r place → ⊥
  pub types : (r : Rule) (place : Place) → phase_of r ≡ Some TypePhase → IsViolatedByTypes tree r place → ⊥
  pub formed : IsFormed tree
  pub runs : Runs tree

pub accepted : (tree : Core) → IsFormed tree → IsFirstOf (NamePhase ∷ TypePhase ∷ []) tree None → Runs tree → Accepted tree
accepted tree f (inl (n, k)) r = absurd (n refl)
accepted tree f (inr (names, inl (n, k))) r = absurd (n refl)
accepted tree f (inr (names, inr (types, e))) r = record {
  names = λ k place p v. names (record { rule = k; place = place }) (p, inl v);
  types = λ k place p v. types (record { rule = k; place = place }) (p, inr (inl v));
  formed = f;
  runs = r;
}

-- ---- one place of the program

module _ {tree : Core} (ok : Accepted tree) (w : Site) (i : Among (sites_of tree) w) where
  pub refused : (r : Rule) (place : Place) → phase_of r ≡ Some TypePhase → ViolatesType tree w.scope place r w.part → ⊥
  refused r place p v = ok.types r place p (at_part w (contained (sites_of tree) w i) v)

  pub is_used : (n : Name) → Among (used_by w.part) n → NothingVisible tree w.scope.visible n → ⊥
  is_used n h v = ok.names rule.N2 n.place refl (as_used w n (contained (sites_of tree) w i) (contained (used_by w.part) n h) v refl)

  pub is_captured : (n : Name) → Among (captured_by w.part) n → NoLocal w.scope.visible n → ⊥
  is_captured n h v = ok.names rule.N2 n.place refl (as_captured w n (contained (sites_of tree) w i) (contained (captured_by w.part) n h) v refl)

-- ---- names of locals

neither : (xs ys : List Local) (l : Local) → Among (xs ++ ys) l → (Among xs l → ⊥) → (Among ys l → ⊥) → ⊥
neither xs ys l h f g = by (either_in xs ys l h)
  where
    by : Among xs l ⊎ Among ys l → ⊥
    by (inl i) = f i
    by (inr i) = g i

mutual
  not_captured_stmt : (x : CoreStmt) (l : Local) → Among (declared_in x) l → l.kind ≡ Captured → ⊥
  not_captured_stmt (Var at name t) l (inl e) k = let f : VarBound ≡ Captured = ap (λ (m : Local). m.kind) e ∙ k in cc
  not_captured_stmt (Var at name t) l (inr h) k = h
  not_captured_stmt (VarWith at name t x) l (inl e) k = let f : VarBound ≡ Captured = ap (λ (m : Local). m.kind) e ∙ k in cc
  not_captured_stmt (VarWith at name t x) l (inr h) k = h
  not_captured_stmt (Let at name t x) l (inl e) k = let f : LetBound ≡ Captured = ap (λ (m : Local). m.kind) e ∙ k in cc
  not_captured_stmt (Let at name t x) l (inr h) k = h
  not_captured_stmt (Inout at name t root steps) l (inl e) k = let f : InoutBound ≡ Captured = ap (λ (m : Local). m.kind) e ∙ k in cc
  not_captured_stmt (Inout at name t root steps) l (inr h) k = h
  not_captured_stmt (Assign at root steps x) l h k = h
  not_captured_stmt (If at branches) l h k = not_captured_branches branches l h k
  not_captured_stmt (While at test body) l h k = not_captured_block body l h k
  not_captured_stmt (Return at) l h k = h
  not_captured_stmt (ReturnWith at x) l h k = h
  not_captured_stmt (Print at x) l h k = h
  not_captured_stmt (Task at name t word budget call) l (inl e) k = let f : Handle ≡ Captured = ap (λ (m : Local). m.kind) e ∙ k in cc
  not_captured_stmt (Task at name t word budget call) l (inr h) k = h
  not_captured_stmt (AwaitsAlone at name) l h k = h
  not_captured_stmt (CallsAlone at call) l h k = h
  not_captured_stmt (Bare at block) l h k = not_captured_block block l h k

  not_captured_branches : (bs : CoreBranches) (l : Local) → Among (in_branches bs) l → l.kind ≡ Captured → ⊥
  not_captured_branches NoElse l h k = h
  not_captured_branches (Else block) l h k = not_captured_block block l h k
  not_captured_branches (BranchOf test body rest) l h k = neither (in_block body) (in_branches rest) l h (λ i. not_captured_block body l i k) (λ i. not_captured_branches rest l i k)

  not_captured_block : (b : CoreBlock) (l : Local) → Among (in_block b) l → l.kind ≡ Captured → ⊥
  not_captured_block (BlockOf stmts end) l h k = not_captured_stmts stmts l h k

  not_captured_stmts : (xs : CoreStmts) (l : Local) → Among (in_stmts xs) l → l.kind ≡ Captured → ⊥
  not_captured_stmts NoStmts l h k = h
  not_captured_stmts (StmtOf x rest) l h k = neither (declared_in x) (in_stmts rest) l h (λ i. not_captured_stmt x l i k) (λ i. not_captured_stmts rest l i k)

-- a body and the declaration that it stands in
record Stands (decls : List CoreDecl) (body : CoreBody) : Type 0 where
  front : List CoreDecl
  decl : CoreDecl
  back : List CoreDecl
  is : decls ≡ front ++ decl ∷ back
  of : Among (decl_bodies (decl ∷ [])) body

stands : (decls : List CoreDecl) (body : CoreBody) → Among (decl_bodies decls) body → Stands decls body
stands [] body h = absurd h
stands (StructOf s ∷ rest) body h = let r = stands rest body h in record { front = StructOf s ∷ r.front; decl = r.decl; back = r.back; is = ap (λ ds. StructOf s ∷ ds) r.is; of = r.of }
stands (FunOf f ∷ rest) body (inl e) = record { front = []; decl = FunOf f; back = rest; is = refl; of = inl e }
stands (FunOf f ∷ rest) body (inr h) = by (either_in (lambdas_at (sites_of_body (fun_body f))) (decl_bodies rest) body h) (stands rest body)
  where
    by : Among (lambdas_at (sites_of_body (fun_body f))) body ⊎ Among (decl_bodies rest) body → (Among (decl_bodies rest) body → Stands rest body) → Stands (FunOf f ∷ rest) body
    by (inl k) go = record { front = []; decl = FunOf f; back = rest; is = refl; of = inr (in_left (lambdas_at (sites_of_body (fun_body f))) [] body k) }
    by (inr k) go = let r = go k in record { front = FunOf f ∷ r.front; decl = r.decl; back = r.back; is = ap (λ ds. FunOf f ∷ ds) r.is; of = r.of }

named_in : (ds : List CoreDecl) (d : CoreDecl) (text : List ℕ) → Among ds d → (decl_name d).text ≡ text → Named (map decl_name ds) text
named_in ds d text h e = (decl_name d, contained (map decl_name ds) (decl_name d) (map_among decl_name ds d h), e)

-- a local that is no capture hasn't the name of a declaration
shares : {tree : Core} → Accepted tree → (body : CoreBody) (l : Local) (d : CoreDecl) → Among (bodies_of tree) body → Among (locals_of body) l → (l.kind ≡ Captured → ⊥) → Among tree.decls d → (decl_name d).text ≡ l.name.text → ⊥
shares {tree = tree} ok body l d b h k i e = by (stands tree.decls body b)
  where
    by : Stands tree.decls body → ⊥
    by s = at (either_in s.front (s.decl ∷ s.back) d (rw (← s.is) i))
      where
        early : Among (s.front ++ s.decl ∷ []) d → ⊥
        early j = ok.names rule.N1 l.name.place refl (shared (record {
          before = s.front;
          decl = s.decl;
          after = s.back;
          is = s.is;
          body = body;
          of = contained (decl_bodies (s.decl ∷ [])) body s.of;
          local = l;
          declared = contained (locals_of body) l h;
          own = k;
          later = inl (named_in (s.front ++ s.decl ∷ []) d l.name.text j e, refl);
        }))

        late : Among s.back d → ⊥
        late j = ok.names rule.N1 (decl_name d).place refl (shared (record {
          before = s.front;
          decl = s.decl;
          after = s.back;
          is = s.is;
          body = body;
          of = contained (decl_bodies (s.decl ∷ [])) body s.of;
          local = l;
          declared = contained (locals_of body) l h;
          own = k;
          later = inr (decl_name d, contained (map decl_name s.back) (decl_name d) (map_among decl_name s.back d j), e, refl);
        }))

        at : Among s.front d ⊎ Among (s.decl ∷ s.back) d → ⊥
        at (inl j) = early (in_left s.front (s.decl ∷ []) d j)
        at (inr (inl f)) = early (in_right s.front (s.decl ∷ []) d (inl f))
        at (inr (inr j)) = late j

pub all_distinct : {tree : Core} → Accepted tree → (body : CoreBody) → Among (bodies_of tree) body → Distinct (locals_of body)
all_distinct {tree = tree} ok body h = distinct (locals_of body) (λ place r. ok.names rule.N1 place refl (in_body body (contained (bodies_of tree) body h) r))

-- ---- scopes

-- a local that is visible, its number and its type
pub record Seen (body : CoreBody) (edge : ℕ) (l : Local) : Type 0 where
  pub number : ℕ
  pub within : number < edge
  pub at : slice_get (locals_of body) number ≡ Some l
  pub ty : ValueType
  pub typed : value_by l.kind l.ty ≡ Some ty

-- what is visible are locals of the body that are numbered below the edge
pub record Scoped (body : CoreBody) (edge : ℕ) (s : Scope) : Type 0 where
  pub seen : (l : Local) → Among s.visible l → Seen body edge l
  pub entry : (l : Local) → Among (entry_locals body) l → Among s.visible l
  pub result : s.result ≡ body.result

-- a name that is a visible local's
pub record IsLocal (body : CoreBody) (edge : ℕ) (s : Scope) (text : List ℕ) : Type 0 where
  pub local : Local
  pub visible : Among s.visible local
  pub there : Seen body edge local
  pub here : local_in s.visible text ≡ Some local
  pub found : local_in (locals_of body) text ≡ Some local
  pub numbered : number_in (locals_of body) text ≡ Some there.number

-- a name that is a declaration's, and no local's
pub record IsTop (tree : Core) (body : CoreBody) (s : Scope) (text : List ℕ) : Type 0 where
  pub here : local_in s.visible text ≡ None
  pub numbered : number_in (locals_of body) text ≡ None
  pub declared : ((f : CoreFun) × (fun_in tree.decls text ≡ Some f)) ⊎ ((fun_in tree.decls text ≡ None) × ((c : CoreStruct) × (struct_in tree.decls text ≡ Some c)))

is_local : (body : CoreBody) (edge : ℕ) (s : Scope) (text : List ℕ) (l : Local) → Distinct (locals_of body) → Scoped body edge s → local_in s.visible text ≡ Some l → IsLocal body edge s text
is_local body edge s text l d sc e =
    let f = local_found s.visible text l e in
    let n = sc.seen l f.0 in
    record {
      local = l;
      visible = f.0;
      there = n;
      here = e;
      found = subst (λ t. local_in (locals_of body) t ≡ Some l) f.1 (named (locals_of body) n.number l d n.at);
      numbered = subst (λ t. number_in (locals_of body) t ≡ Some n.number) f.1 (numbered (locals_of body) n.number l d n.at);
    }

is_top : {tree : Core} → Accepted tree → (body : CoreBody) (edge : ℕ) (s : Scope) (n : Name) → Among (bodies_of tree) body → Scoped body edge s → (NothingVisible tree s.visible n → ⊥) → local_in s.visible n.text ≡ None → IsTop tree body s n.text
is_top {tree = tree} ok body edge s n b sc used e = by (fun_in tree.decls n.text) refl (struct_in tree.decls n.text) refl
  where
    no_local : (d : CoreDecl) → Among tree.decls d → (decl_name d).text ≡ n.text → number_in (locals_of body) n.text ≡ None
    no_local d i t = no_number 0 (locals_of body) n.text (λ l h f. at l f (either_in (entry_locals body) (in_block body.block) l h))
      where
        at : (l : Local) → l.name.text ≡ n.text → Among (entry_locals body) l ⊎ Among (in_block body.block) l → ⊥
        at l f (inl h) = local_lacks s.visible n.text l e (sc.entry l h) f
        at l f (inr h) = shares ok body l d b (in_right (entry_locals body) (in_block body.block) l h) (λ k. not_captured_block body.block l h k) i (t ∙ sym f)

    by : (f : Option CoreFun) → fun_in tree.decls n.text ≡ f → (c : Option CoreStruct) → struct_in tree.decls n.text ≡ c → IsTop tree body s n.text
    by (Some f) p c q = let r = fun_found tree.decls n.text f p in record { here = e; numbered = no_local (FunOf f) r.0 r.1; declared = inl (f, p) }
    by None p (Some c) q = let r = struct_found tree.decls n.text c q in record { here = e; numbered = no_local (StructOf c) r.0 r.1; declared = inr (p, (c, q)) }
    by None p None q = absurd (used (e, (λ m. no_decl tree.decls n.text m p q)))

-- a name that is used is one or the other
pub resolved : {tree : Core} → Accepted tree → (body : CoreBody) (edge : ℕ) (s : Scope) (n : Name) → Among (bodies_of tree) body → Scoped body edge s → (NothingVisible tree s.visible n → ⊥) → IsLocal body edge s n.text ⊎ IsTop tree body s n.text
resolved {tree = tree} ok body edge s n b sc used = by (local_in s.visible n.text) refl
  where
    by : (o : Option Local) → local_in s.visible n.text ≡ o → IsLocal body edge s n.text ⊎ IsTop tree body s n.text
    by None e = inr (is_top ok body edge s n b sc used e)
    by (Some l) e = inl (is_local body edge s n.text l (all_distinct ok body b) sc e)

-- the same of a captured name, which is a local's
pub resolved_capture : {tree : Core} → Accepted tree → (body : CoreBody) (edge : ℕ) (s : Scope) (n : Name) → Among (bodies_of tree) body → Scoped body edge s → (NoLocal s.visible n → ⊥) → IsLocal body edge s n.text
resolved_capture {tree = tree} ok body edge s n b sc used = by (local_in s.visible n.text) refl
  where
    by : (o : Option Local) → local_in s.visible n.text ≡ o → IsLocal body edge s n.text
    by None e = absurd (used e)
    by (Some l) e = is_local body edge s n.text l (all_distinct ok body b) sc e

-- ---- numbers of bodies

pub body_numbered : {tree : Core} → Accepted tree → (body : CoreBody) → Among (bodies_of tree) body → (n : ℕ) × (body_number (bodies_of tree) body.block ≡ Some n) × IsBody tree n body
body_numbered {tree = tree} ok body h =
    let r = at_among (bodies_of tree) body h in
    let f = number_finds 0 (bodies_of tree) r.0 body r.1 in
    let same : f.0 ≡ r.0 = ok.formed.apart f.0 r.0 f.1 body f.3 r.1 f.4 in
    let n : 0 + f.0 ≡ r.0 = omega (arith, same) in
    (r.0, f.2 ∙ ap Some n, r.1)

-- ---- `main`

-- `main` without parameters and result
pub record Main (tree : Core) : Type 0 where
  pub main : CoreFun
  pub found : fun_in tree.decls (codes "main") ≡ Some main
  pub no_params : main.params ≡ []
  pub no_result : main.result ≡ None

has_main : {tree : Core} → Accepted tree → (HasMain tree → ⊥) → ⊥
has_main ok n = ok.names rule.N3 (record { start = 0 }) refl (n, refl)

pub main_is : {tree : Core} → Accepted tree → Main tree
main_is {tree = tree} ok = by (fun_in tree.decls (codes "main")) refl
  where
    at : (f : CoreFun) → fun_in tree.decls (codes "main") ≡ Some f → (g : HasMain tree) → (f.params ≡ []) × (f.result ≡ None)
    at f e (g, c, t, p, r) =
        let a = fun_found tree.decls (codes "main") f e in
        let same : FunOf f ≡ FunOf g = same_decl tree.decls (FunOf f) (FunOf g) (λ place v. ok.names rule.N1 place refl (top_level v)) a.0 (listed tree.decls (FunOf g) c) (a.1 ∙ sym t) in
        let is : f ≡ g = cc in
        (ap (λ (h : CoreFun). h.params) is ∙ p, ap (λ (h : CoreFun). h.result) is ∙ r)

    with_parts : (f : CoreFun) → fun_in tree.decls (codes "main") ≡ Some f → (ps : List CoreParam) → f.params ≡ ps → (t : Option CoreTy) → f.result ≡ t → Main tree
    with_parts f e [] p None r = record { main = f; found = e; no_params = p; no_result = r }
    with_parts f e (q ∷ ps) p t r = absurd (has_main ok (λ g. let u : q ∷ ps ≡ [] = sym p ∙ (at f e g).0 in cc))
    with_parts f e [] p (Some t) r = absurd (has_main ok (λ g. let u : Some t ≡ None = sym r ∙ (at f e g).1 in cc))

    by : (o : Option CoreFun) → fun_in tree.decls (codes "main") ≡ o → Main tree
    by None e = absurd (has_main ok (λ g. fun_lacks tree.decls (codes "main") g.0 e (listed tree.decls (FunOf g.0) g.1) g.2))
    by (Some f) e = with_parts f e f.params refl f.result refl
