-- What the test of a part alone says of it.
use Rattle.std.proofs.Common.{◌≡◌, ◌⊎◌, inl, inr, Bool, true, false, ◌&&◌, List, [], ◌∷◌, ◌++◌, map, Option, Some, None, refl, subst}
use Rattle.hv_tree.specs.declared.types.Conv.{Conv}
use Rattle.hv_tree.specs.declared.types.Conv.TheVariants as conv
use Rattle.hv_tree.specs.Core.{CoreField, CoreParam, CoreTy, IntTy, BoolTy, NamedTy, ArrayTy, FunTy, FunToTy, CoreTys, NoTys, TyOf, CoreBlock, CoreExpr, Number, Truth, Path, Calls, Awaits, Array, Filled, Count, Lambda, Prefix, Chain, CoreStmt, Var, VarWith, Let, Inout, Assign, If, While, Return, ReturnWith, Print, Task, AwaitsAlone, CallsAlone, Bare}
use Rattle.hv_decls.specs.Locals.{listed, CoreBody}
use Rattle.hv_decls.specs.Sites.{Part, ExprPart, CallPart, PlacePart, StmtPart, TestPart, Scope, body_by}
use Rattle.hv_type_rules.specs.Names.{param_type, field_type, types_of}
use Rattle.hv_lemmas.proofs.Members.{Among, in_left, in_right, either_in}
use Rattle.hv_law_safe.specs.Runs.{OnlyReads, AllRead, PartRuns, Returns}
use Rattle.hv_runs.specs.Walked as spec
use Rattle.hv_runs.proofs.Sited.{part_alone}

pub both : (a b : Bool) → (a && b) ≡ true → (a ≡ true) × (b ≡ true)
both true b e = (refl, e)
both false b e = cc

pub pair : (a b : Bool) → a ≡ true → b ≡ true → (a && b) ≡ true
pair true b e f = f
pair false b e f = cc

-- ---- types

let_only : (c : Conv) → spec.is_let c ≡ true → c ≡ conv.Let
let_only conv.Let e = refl
let_only conv.Inout e = cc
let_only conv.Sink e = cc
let_only conv.Set e = cc

let_too : (c : Conv) → c ≡ conv.Let → spec.is_let c ≡ true
let_too conv.Let e = refl
let_too conv.Inout e = cc
let_too conv.Sink e = cc
let_too conv.Set e = cc

mutual
  pub reads : (t : CoreTy) → spec.ty_reads t ≡ true → OnlyReads t
  reads (IntTy at) e = tt
  reads (BoolTy at) e = tt
  reads (NamedTy name) e = tt
  reads (ArrayTy at element) e = reads element e
  reads (FunTy at params) e = all_read params e
  reads (FunToTy at params result) e = let h = both (spec.tys_read params) (spec.ty_reads result) e in (all_read params h.0, reads result h.1)

  all_read : (ts : CoreTys) → spec.tys_read ts ≡ true → AllRead ts
  all_read NoTys e = tt
  all_read (TyOf c t rest) e =
      let h = both (spec.is_let c && spec.ty_reads t) (spec.tys_read rest) e in
      let k = both (spec.is_let c) (spec.ty_reads t) h.0 in
      (let_only c k.0, reads t k.1, all_read rest h.1)

mutual
  pub read_by : (t : CoreTy) → OnlyReads t → spec.ty_reads t ≡ true
  read_by (IntTy at) h = refl
  read_by (BoolTy at) h = refl
  read_by (NamedTy name) h = refl
  read_by (ArrayTy at element) h = read_by element h
  read_by (FunTy at params) h = all_read_by params h
  read_by (FunToTy at params result) h = pair (spec.tys_read params) (spec.ty_reads result) (all_read_by params h.0) (read_by result h.1)

  all_read_by : (ts : CoreTys) → AllRead ts → spec.tys_read ts ≡ true
  all_read_by NoTys h = refl
  all_read_by (TyOf c t rest) h = pair (spec.is_let c && spec.ty_reads t) (spec.tys_read rest) (pair (spec.is_let c) (spec.ty_reads t) (let_too c h.0) (read_by t h.1)) (all_read_by rest h.2)

-- each type of a list
abbrev pub EachReads : List CoreTy → Type 0
EachReads ts = (t : CoreTy) → Among ts t → OnlyReads t

pub fields_sound : (fs : List CoreField) → spec.fields_read fs ≡ true → EachReads (map field_type fs)
fields_sound [] e t i = absurd i
fields_sound (f ∷ fs) e t (inl i) = subst OnlyReads i (reads f.ty (both (spec.ty_reads f.ty) (spec.fields_read fs) e).0)
fields_sound (f ∷ fs) e t (inr i) = fields_sound fs (both (spec.ty_reads f.ty) (spec.fields_read fs) e).1 t i

pub fields_whole : (fs : List CoreField) → EachReads (map field_type fs) → spec.fields_read fs ≡ true
fields_whole [] h = refl
fields_whole (f ∷ fs) h = pair (spec.ty_reads f.ty) (spec.fields_read fs) (read_by f.ty (h f.ty (inl refl))) (fields_whole fs (λ t i. h t (inr i)))

-- ---- what stands before a body, and its end

-- each parameter of a list is `let`
abbrev pub EachLet : List CoreParam → Type 0
EachLet ps = (p : CoreParam) → Among ps p → p.conv ≡ conv.Let

abbrev ParamsRead : List CoreParam → Type 0
ParamsRead ps = EachLet ps × EachReads (map param_type ps)

one_more : (q : CoreParam) (qs : List CoreParam) → spec.param_reads q ≡ true → ParamsRead qs → ParamsRead (q ∷ qs)
one_more q qs e h = (lets, types)
  where
    here : (spec.is_let q.conv ≡ true) × (spec.ty_reads q.ty ≡ true)
    here = both (spec.is_let q.conv) (spec.ty_reads q.ty) e

    lets : EachLet (q ∷ qs)
    lets p (inl i) = subst (λ (p : CoreParam). p.conv ≡ conv.Let) i (let_only q.conv here.0)
    lets p (inr i) = h.0 p i

    types : EachReads (map param_type (q ∷ qs))
    types t (inl i) = subst OnlyReads i (reads q.ty here.1)
    types t (inr i) = h.1 t i

params_sound : (ps : List CoreParam) → spec.params_read ps ≡ true → ParamsRead ps
params_sound [] e = (λ p i. absurd i, λ t i. absurd i)
params_sound (q ∷ qs) e = let h = both (spec.param_reads q) (spec.params_read qs) e in one_more q qs h.0 (params_sound qs h.1)

params_whole : (ps : List CoreParam) → EachLet ps → EachReads (map param_type ps) → spec.params_read ps ≡ true
params_whole [] h k = refl
params_whole (q ∷ qs) h k =
    pair (spec.param_reads q) (spec.params_read qs) (pair (spec.is_let q.conv) (spec.ty_reads q.ty) (let_too q.conv (h q (inl refl))) (read_by q.ty (k q.ty (inl refl))))
    (params_whole qs (λ p i. h p (inr i)) (λ t i. k t (inr i)))

result_sound : (r : Option CoreTy) → spec.option_ty_reads r ≡ true → EachReads (listed r)
result_sound None e t i = absurd i
result_sound (Some r) e t (inl i) = subst OnlyReads i (reads r e)
result_sound (Some r) e t (inr i) = absurd i

result_whole : (r : Option CoreTy) → EachReads (listed r) → spec.option_ty_reads r ≡ true
result_whole None h = refl
result_whole (Some r) h = read_by r (h r (inl refl))

end_sound : (r : Option CoreTy) (b : CoreBlock) → spec.returns r b ≡ true → Returns r b
end_sound None b e = tt
end_sound (Some t) b e = e

end_whole : (r : Option CoreTy) (b : CoreBlock) → Returns r b → spec.returns r b ≡ true
end_whole None b h = refl
end_whole (Some t) b h = h

-- what the definition says of a body besides the parts in it
pub record Header (ps : List CoreParam) (r : Option CoreTy) (b : CoreBlock) : Type 0 where
  pub lets : EachLet ps
  pub types : EachReads (map param_type ps ++ listed r)
  pub returns : Returns r b

pub header_sound : (ps : List CoreParam) (r : Option CoreTy) (b : CoreBlock) → spec.header_runs ps r b ≡ true → Header ps r b
header_sound ps r b e = record { lets = params.0; types = types; returns = end_sound r b ends.1 }
  where
    parts : (spec.params_read ps ≡ true) × ((spec.option_ty_reads r && spec.returns r b) ≡ true)
    parts = both (spec.params_read ps) (spec.option_ty_reads r && spec.returns r b) e

    ends : (spec.option_ty_reads r ≡ true) × (spec.returns r b ≡ true)
    ends = both (spec.option_ty_reads r) (spec.returns r b) parts.1

    params : EachLet ps × EachReads (map param_type ps)
    params = params_sound ps parts.0

    by : (t : CoreTy) → Among (map param_type ps) t ⊎ Among (listed r) t → OnlyReads t
    by t (inl i) = params.1 t i
    by t (inr i) = result_sound r ends.0 t i

    types : EachReads (map param_type ps ++ listed r)
    types t i = by t (either_in (map param_type ps) (listed r) t i)

pub header_whole : (ps : List CoreParam) (r : Option CoreTy) (b : CoreBlock) → Header ps r b → spec.header_runs ps r b ≡ true
header_whole ps r b h =
    pair (spec.params_read ps) (spec.option_ty_reads r && spec.returns r b)
    (params_whole ps h.lets (λ t i. h.types t (in_left (map param_type ps) (listed r) t i)))
    (pair (spec.option_ty_reads r) (spec.returns r b) (result_whole r (λ t i. h.types t (in_right (map param_type ps) (listed r) t i))) (end_whole r b h.returns))

abbrev pub BodyHeader : CoreBody → Type 0
BodyHeader b = Header b.params b.result b.block

-- ---- parts

-- what the definition says of a part alone
pub record Fits (s : Scope) (p : Part) : Type 0 where
  pub types : EachReads (types_of p)
  pub runs : PartRuns p
  pub bodies : (b : CoreBody) → Among (body_by s p) b → EachLet b.params × Returns b.result b.block

one_type : (t : CoreTy) → spec.ty_reads t ≡ true → EachReads (t ∷ [])
one_type t e u (inl i) = subst OnlyReads i (reads t e)
one_type t e u (inr i) = absurd i

expr_sound : (s : Scope) (x : CoreExpr) → part_alone (ExprPart x) ≡ true → Fits s (ExprPart x)
expr_sound s (Number at z) e = record { types = λ t i. absurd i; runs = tt; bodies = λ b i. absurd i }
expr_sound s (Truth at z) e = record { types = λ t i. absurd i; runs = tt; bodies = λ b i. absurd i }
expr_sound s (Path at root steps) e = record { types = λ t i. absurd i; runs = tt; bodies = λ b i. absurd i }
expr_sound s (Calls at call) e = record { types = λ t i. absurd i; runs = tt; bodies = λ b i. absurd i }
expr_sound s (Awaits at name) e = cc
expr_sound s (Array at xs) e = record { types = λ t i. absurd i; runs = tt; bodies = λ b i. absurd i }
expr_sound s (Filled at len value) e = record { types = λ t i. absurd i; runs = tt; bodies = λ b i. absurd i }
expr_sound s (Count at root steps) e = record { types = λ t i. absurd i; runs = tt; bodies = λ b i. absurd i }
expr_sound s (Lambda at captures params result body) e =
    let h = header_sound params result body e in
    record {
      types = h.types;
      runs = tt;
      bodies = λ b i. one_body b i h;
    }
  where
    one_body : (b : CoreBody) → Among (body_by s (ExprPart (Lambda at captures params result body))) b → Header params result body → EachLet b.params × Returns b.result b.block
    one_body b (inl i) h = subst (λ (b : CoreBody). EachLet b.params × Returns b.result b.block) i (h.lets, h.returns)
    one_body b (inr i) h = absurd i
expr_sound s (Prefix at o x) e = record { types = λ t i. absurd i; runs = tt; bodies = λ b i. absurd i }
expr_sound s (Chain at first links) e = record { types = λ t i. absurd i; runs = tt; bodies = λ b i. absurd i }

stmt_sound : (s : Scope) (x : CoreStmt) → part_alone (StmtPart x) ≡ true → Fits s (StmtPart x)
stmt_sound s (Var at name t) e = cc
stmt_sound s (VarWith at name t x) e = record { types = one_type t e; runs = tt; bodies = λ b i. absurd i }
stmt_sound s (Let at name t x) e = record { types = one_type t e; runs = tt; bodies = λ b i. absurd i }
stmt_sound s (Inout at name t root steps) e = cc
stmt_sound s (Assign at root steps x) e = record { types = λ t i. absurd i; runs = tt; bodies = λ b i. absurd i }
stmt_sound s (If at branches) e = record { types = λ t i. absurd i; runs = tt; bodies = λ b i. absurd i }
stmt_sound s (While at test body) e = record { types = λ t i. absurd i; runs = tt; bodies = λ b i. absurd i }
stmt_sound s (Return at) e = record { types = λ t i. absurd i; runs = tt; bodies = λ b i. absurd i }
stmt_sound s (ReturnWith at x) e = record { types = λ t i. absurd i; runs = tt; bodies = λ b i. absurd i }
stmt_sound s (Print at x) e = record { types = λ t i. absurd i; runs = tt; bodies = λ b i. absurd i }
stmt_sound s (Task at name t spawn budget call) e = cc
stmt_sound s (AwaitsAlone at name) e = cc
stmt_sound s (CallsAlone at call) e = record { types = λ t i. absurd i; runs = tt; bodies = λ b i. absurd i }
stmt_sound s (Bare at block) e = record { types = λ t i. absurd i; runs = tt; bodies = λ b i. absurd i }

pub part_sound : (s : Scope) (p : Part) → part_alone p ≡ true → Fits s p
part_sound s (ExprPart x) e = expr_sound s x e
part_sound s (CallPart call) e = record { types = λ t i. absurd i; runs = tt; bodies = λ b i. absurd i }
part_sound s (PlacePart root steps) e = record { types = λ t i. absurd i; runs = tt; bodies = λ b i. absurd i }
part_sound s (StmtPart x) e = stmt_sound s x e
part_sound s (TestPart x) e = record { types = λ t i. absurd i; runs = tt; bodies = λ b i. absurd i }

expr_whole : (s : Scope) (x : CoreExpr) → Fits s (ExprPart x) → part_alone (ExprPart x) ≡ true
expr_whole s (Number at z) h = refl
expr_whole s (Truth at z) h = refl
expr_whole s (Path at root steps) h = refl
expr_whole s (Calls at call) h = refl
expr_whole s (Awaits at name) h = absurd h.runs
expr_whole s (Array at xs) h = refl
expr_whole s (Filled at len value) h = refl
expr_whole s (Count at root steps) h = refl
expr_whole s (Lambda at captures params result body) h = header_whole params result body (record { lets = (h.bodies _ (inl refl)).0; types = h.types; returns = (h.bodies _ (inl refl)).1 })
expr_whole s (Prefix at o x) h = refl
expr_whole s (Chain at first links) h = refl

stmt_whole : (s : Scope) (x : CoreStmt) → Fits s (StmtPart x) → part_alone (StmtPart x) ≡ true
stmt_whole s (Var at name t) h = absurd h.runs
stmt_whole s (VarWith at name t x) h = read_by t (h.types t (inl refl))
stmt_whole s (Let at name t x) h = read_by t (h.types t (inl refl))
stmt_whole s (Inout at name t root steps) h = absurd h.runs
stmt_whole s (Assign at root steps x) h = refl
stmt_whole s (If at branches) h = refl
stmt_whole s (While at test body) h = refl
stmt_whole s (Return at) h = refl
stmt_whole s (ReturnWith at x) h = refl
stmt_whole s (Print at x) h = refl
stmt_whole s (Task at name t spawn budget call) h = absurd h.runs
stmt_whole s (AwaitsAlone at name) h = absurd h.runs
stmt_whole s (CallsAlone at call) h = refl
stmt_whole s (Bare at block) h = refl

pub part_whole : (s : Scope) (p : Part) → Fits s p → part_alone p ≡ true
part_whole s (ExprPart x) h = expr_whole s x h
part_whole s (CallPart call) h = refl
part_whole s (PlacePart root steps) h = refl
part_whole s (StmtPart x) h = stmt_whole s x h
part_whole s (TestPart x) h = refl
