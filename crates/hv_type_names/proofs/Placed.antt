-- Where sites and bodies stand in a program.
use Rattle.std.proofs.Common.{◌≡◌, ◌⊎◌, inl, inr, ◌+◌, ℕ, suc, List, [], ◌∷◌, ◌++◌, map, length, Option, refl, ap, append-nil, arith}
use Rattle.hv_tree.specs.declared.place.Place.{Place}
use Rattle.hv_tree.specs.declared.types.Name.{Name}
use Rattle.hv_tree.specs.declared.refusal.Refusal.{Refusal}
use Rattle.hv_tree.specs.Core.{CoreDecl, StructOf, FunOf, CoreFun, CoreParam, CoreTy, CoreBlock, CoreExpr, Number, Truth, Path, Calls, Awaits, Array, Filled, Count, Lambda, Prefix, Chain}
use Rattle.hv_decls.specs.Locals.{CoreBody, fun_body}
use Rattle.hv_decls.specs.Sites.{Part, ExprPart, CallPart, PlacePart, StmtPart, TestPart, Scope, Site, lambda_body, body_scope, sites_of_body, decl_sites, body_by, lambdas_at, decl_bodies}
use Rattle.hv_type_names.specs.declared.program.Program.{Program}
use Rattle.hv_type_names.specs.Found as spec
use Rattle.hv_lemmas.proofs.Members.{Among, in_left, in_right, either_in}
use Rattle.hv_type_names.proofs.Walked.{sites_at}
use Rattle.hv_type_names.proofs.Agreeing.{agree_entry}
use Rattle.hv_type_names.proofs.Sited.{block_same}
use Rattle.hv_type_names.proofs.Judged.{lambda_whole, in_sites}
use Rattle.hv_type_names.proofs.Bodies.{IsBody, is_fun, is_lambda}

-- ---- a list, split at one of it

pub record Split {A : Type 0} (xs : List A) (a : A) : Type 0 where
  pub before : List A
  pub after : List A
  pub is : xs ≡ before ++ a ∷ after

pub split : {A : Type 0} (xs : List A) (a : A) → Among xs a → Split xs a
split [] a h = absurd h
split (x ∷ xs) a (inl e) = record { before = []; after = xs; is = ap (λ y. y ∷ xs) e }
split (x ∷ xs) a (inr h) = let s = split xs a h in record { before = x ∷ s.before; after = s.after; is = ap (λ l. x ∷ l) s.is }

-- ---- declarations

pub record FoundIn (p : Program) (n : ℕ) (decls : List CoreDecl) (r : Refusal) : Type 0 where
  pub before : List CoreDecl
  pub decl : CoreDecl
  pub after : List CoreDecl
  pub is : decls ≡ before ++ decl ∷ after
  pub found : Among (spec.decl_found (spec.in_decl p (n + length before)) decl) r

pub out_decls : (p : Program) (n : ℕ) (decls : List CoreDecl) (r : Refusal) → Among (spec.decls_found p n decls) r → FoundIn p n decls r
out_decls p n [] r h = absurd h
out_decls p n (d ∷ ds) r h = by (either_in (spec.decl_found (spec.in_decl p n) d) (spec.decls_found p (n + 1) ds) r h) (out_decls p (n + 1) ds r)
  where
    by : Among (spec.decl_found (spec.in_decl p n) d) r ⊎ Among (spec.decls_found p (n + 1) ds) r → (Among (spec.decls_found p (n + 1) ds) r → FoundIn p (n + 1) ds r) → FoundIn p n (d ∷ ds) r
    by (inl i) f = record { before = []; decl = d; after = ds; is = refl; found = let e : n + 0 ≡ n = omega arith in rw e i }
    by (inr i) f =
        let o = f i in
        let e : n + suc (length o.before) ≡ n + 1 + length o.before = omega arith in
        record { before = d ∷ o.before; decl = o.decl; after = o.after; is = ap (λ l. d ∷ l) o.is; found = rw e o.found }

pub in_decls : (before : List CoreDecl) (p : Program) (n : ℕ) (d : CoreDecl) (after : List CoreDecl) (r : Refusal) → Among (spec.decl_found (spec.in_decl p (n + length before)) d) r → Among (spec.decls_found p n (before ++ d ∷ after)) r
in_decls [] p n d after r h = let e : n + 0 ≡ n = omega arith in in_left (spec.decl_found (spec.in_decl p n) d) (spec.decls_found p (n + 1) after) r (rw (← e) h)
in_decls (b ∷ before) p n d after r h =
    let e : n + suc (length before) ≡ n + 1 + length before = omega arith in
    in_right (spec.decl_found (spec.in_decl p n) b) (spec.decls_found p (n + 1) (before ++ d ∷ after)) r (in_decls before p (n + 1) d after r (rw (← e) h))

-- ---- sites

pub sites_in : (before : List CoreDecl) (f : CoreFun) (after : List CoreDecl) (w : Site) → Among (sites_of_body (fun_body f)) w → Among (decl_sites (before ++ FunOf f ∷ after)) w
sites_in [] f after w h = in_left (sites_of_body (fun_body f)) (decl_sites after) w h
sites_in (StructOf c ∷ before) f after w h = sites_in before f after w h
sites_in (FunOf g ∷ before) f after w h = in_right (sites_of_body (fun_body g)) (decl_sites (before ++ FunOf f ∷ after)) w (sites_in before f after w h)

pub record SiteIn (decls : List CoreDecl) (w : Site) : Type 0 where
  pub before : List CoreDecl
  pub fun : CoreFun
  pub after : List CoreDecl
  pub is : decls ≡ before ++ FunOf fun ∷ after
  pub there : Among (sites_of_body (fun_body fun)) w

pub sites_out : (decls : List CoreDecl) (w : Site) → Among (decl_sites decls) w → SiteIn decls w
sites_out [] w h = absurd h
sites_out (StructOf c ∷ ds) w h = let s = sites_out ds w h in record { before = StructOf c ∷ s.before; fun = s.fun; after = s.after; is = ap (λ l. StructOf c ∷ l) s.is; there = s.there }
sites_out (FunOf f ∷ ds) w h = by (either_in (sites_of_body (fun_body f)) (decl_sites ds) w h) (sites_out ds w)
  where
    by : Among (sites_of_body (fun_body f)) w ⊎ Among (decl_sites ds) w → (Among (decl_sites ds) w → SiteIn ds w) → SiteIn (FunOf f ∷ ds) w
    by (inl i) k = record { before = []; fun = f; after = ds; is = refl; there = i }
    by (inr i) k = let s = k i in record { before = FunOf f ∷ s.before; fun = s.fun; after = s.after; is = ap (λ l. FunOf f ∷ l) s.is; there = s.there }

-- the block of a function, by its sites
pub fun_sites : (p : Program) (f : CoreFun) → spec.block_found p (spec.texts_of (map spec.param_name f.params)) f.body ≡ sites_at p (sites_of_body (fun_body f))
fun_sites p f = block_same p f.body (spec.texts_of (map spec.param_name f.params)) (body_scope (fun_body f)) (agree_entry (body_scope (fun_body f)) [] f.params f.result f.body)

-- ---- bodies

pub lambdas_out : (ws : List Site) (b : CoreBody) → Among (lambdas_at ws) b → (w : Site) × Among ws w × Among (body_by w.scope w.part) b
lambdas_out [] b h = absurd h
lambdas_out (w ∷ ws) b h = by (either_in (body_by w.scope w.part) (lambdas_at ws) b h) (lambdas_out ws b)
  where
    by : Among (body_by w.scope w.part) b ⊎ Among (lambdas_at ws) b → (Among (lambdas_at ws) b → (v : Site) × Among ws v × Among (body_by v.scope v.part) b) → (v : Site) × Among (w ∷ ws) v × Among (body_by v.scope v.part) b
    by (inl i) f = (w, inl refl, i)
    by (inr i) f = let o = f i in (o.0, inr o.1, o.2)

pub lambdas_in : (ws : List Site) (w : Site) (b : CoreBody) → Among ws w → Among (body_by w.scope w.part) b → Among (lambdas_at ws) b
lambdas_in [] w b h k = absurd h
lambdas_in (v ∷ ws) w b (inl e) k = in_left (body_by v.scope v.part) (lambdas_at ws) b (rw e k)
lambdas_in (v ∷ ws) w b (inr h) k = in_right (body_by v.scope v.part) (lambdas_at ws) b (lambdas_in ws w b h k)

-- a part whose body this is
pub record IsLambda (s : Scope) (part : Part) (b : CoreBody) : Type 0 where
  pub at : Place
  pub captures : List Name
  pub params : List CoreParam
  pub result : Option CoreTy
  pub block : CoreBlock
  pub is : part ≡ ExprPart (Lambda at captures params result block)
  pub same : lambda_body s captures params result block ≡ b

lambda_of : (s : Scope) (x : CoreExpr) (b : CoreBody) → Among (body_by s (ExprPart x)) b → IsLambda s (ExprPart x) b
lambda_of s (Number at z) b h = absurd h
lambda_of s (Truth at t) b h = absurd h
lambda_of s (Path at root steps) b h = absurd h
lambda_of s (Calls at call) b h = absurd h
lambda_of s (Awaits at name) b h = absurd h
lambda_of s (Array at xs) b h = absurd h
lambda_of s (Filled at len value) b h = absurd h
lambda_of s (Count at root steps) b h = absurd h
lambda_of s (Lambda at captures params result block) b (inl e) = record { at = at; captures = captures; params = params; result = result; block = block; is = refl; same = e }
lambda_of s (Lambda at captures params result block) b (inr h) = absurd h
lambda_of s (Prefix at o x) b h = absurd h
lambda_of s (Chain at first links) b h = absurd h

pub body_out : (s : Scope) (part : Part) (b : CoreBody) → Among (body_by s part) b → IsLambda s part b
body_out s (ExprPart x) b h = lambda_of s x b h
body_out s (CallPart call) b h = absurd h
body_out s (PlacePart root steps) b h = absurd h
body_out s (StmtPart x) b h = absurd h
body_out s (TestPart x) b h = absurd h

-- a body of a function: what is found of its names is found in the function
pub record BodyOf (f : CoreFun) (b : CoreBody) : Type 0 where
  pub captures : List Name
  pub params : List CoreParam
  pub block : CoreBlock
  pub shape : IsBody b captures params block
  pub found : (p : Program) (r : Refusal) → Among (spec.declared_found p captures params block) r → Among (spec.decl_found p (FunOf f)) r

in_body_of : (p : Program) (f : CoreFun) (r : Refusal) → Among (spec.body_found p [] f.params f.body) r → Among (spec.decl_found p (FunOf f)) r
in_body_of p f r h = in_right (spec.params_found p f.params) (spec.option_ty_found p f.result ++ spec.body_found p [] f.params f.body) r (in_right (spec.option_ty_found p f.result) (spec.body_found p [] f.params f.body) r h)

pub own_body : (f : CoreFun) → BodyOf f (fun_body f)
own_body f = record {
  captures = [];
  params = f.params;
  block = f.body;
  shape = is_fun f;
  found = λ p r h. in_body_of p f r (in_left (spec.declared_found p [] f.params f.body) (spec.block_found p (spec.texts_of (map spec.param_name f.params)) f.body) r h);
}

-- what is found at a site of a function is found in it
pub site_found : (p : Program) (f : CoreFun) (r : Refusal) → Among (sites_at p (sites_of_body (fun_body f))) r → Among (spec.decl_found p (FunOf f)) r
site_found p f r h = in_body_of p f r (in_right (spec.declared_found p [] f.params f.body) (spec.block_found p (spec.texts_of (map spec.param_name f.params)) f.body) r (rw (fun_sites p f) h))

pub lambda_in : (f : CoreFun) (w : Site) (b : CoreBody) → Among (sites_of_body (fun_body f)) w → IsLambda w.scope w.part b → BodyOf f b
lambda_in f w b h l = record {
  captures = l.captures;
  params = l.params;
  block = l.block;
  shape = rw (← l.same) (is_lambda w.scope l.captures l.params l.result l.block);
  found = λ p r k. site_found p f r (in_sites p (sites_of_body (fun_body f)) w r h (rw l.is (lambda_whole p w.scope.visible l.at l.captures l.params l.result l.block r k)));
}

pub record BodyIn (decls : List CoreDecl) (b : CoreBody) : Type 0 where
  pub before : List CoreDecl
  pub fun : CoreFun
  pub after : List CoreDecl
  pub is : decls ≡ before ++ FunOf fun ∷ after
  pub of : BodyOf fun b

pub lambda_among : (f : CoreFun) (b : CoreBody) → Among (lambdas_at (sites_of_body (fun_body f))) b → BodyOf f b
lambda_among f b h = let o = lambdas_out (sites_of_body (fun_body f)) b h in lambda_in f o.0 b o.1 (body_out o.0.scope o.0.part b o.2)

pub bodies_out : (decls : List CoreDecl) (b : CoreBody) → Among (decl_bodies decls) b → BodyIn decls b
bodies_out [] b h = absurd h
bodies_out (StructOf c ∷ ds) b h = let s = bodies_out ds b h in record { before = StructOf c ∷ s.before; fun = s.fun; after = s.after; is = ap (λ l. StructOf c ∷ l) s.is; of = s.of }
bodies_out (FunOf f ∷ ds) b h = first h (bodies_out ds b)
  where
    further : BodyIn ds b → BodyIn (FunOf f ∷ ds) b
    further s = record { before = FunOf f ∷ s.before; fun = s.fun; after = s.after; is = ap (λ l. FunOf f ∷ l) s.is; of = s.of }

    second : Among (lambdas_at (sites_of_body (fun_body f))) b ⊎ Among (decl_bodies ds) b → (Among (decl_bodies ds) b → BodyIn ds b) → BodyIn (FunOf f ∷ ds) b
    second (inl i) k = record { before = []; fun = f; after = ds; is = refl; of = lambda_among f b i }
    second (inr i) k = further (k i)

    first : Among (fun_body f ∷ (lambdas_at (sites_of_body (fun_body f)) ++ decl_bodies ds)) b → (Among (decl_bodies ds) b → BodyIn ds b) → BodyIn (FunOf f ∷ ds) b
    first (inl e) k = record { before = []; fun = f; after = ds; is = refl; of = rw (← e) (own_body f) }
    first (inr i) k = second (either_in (lambdas_at (sites_of_body (fun_body f))) (decl_bodies ds) b i) k

pub bodies_in : (before : List CoreDecl) (d : CoreDecl) (after : List CoreDecl) (b : CoreBody) → Among (decl_bodies (d ∷ [])) b → Among (decl_bodies (before ++ d ∷ after)) b
bodies_in [] (StructOf c) after b h = absurd h
bodies_in [] (FunOf f) after b (inl e) = inl e
bodies_in [] (FunOf f) after b (inr h) =
    inr (in_left (lambdas_at (sites_of_body (fun_body f))) (decl_bodies after) b (rw (← append-nil (lambdas_at (sites_of_body (fun_body f)))) h))
bodies_in (StructOf c ∷ before) d after b h = bodies_in before d after b h
bodies_in (FunOf g ∷ before) d after b h = inr (in_right (lambdas_at (sites_of_body (fun_body g))) (decl_bodies (before ++ d ∷ after)) b (bodies_in before d after b h))

-- a lambda at a site of a function is a body of it
pub lambda_body_in : (f : CoreFun) (w : Site) (at : Place) (captures : List Name) (params : List CoreParam) (result : Option CoreTy) (block : CoreBlock) → Among (sites_of_body (fun_body f)) w → w.part ≡ ExprPart (Lambda at captures params result block) →
    Among (decl_bodies (FunOf f ∷ [])) (lambda_body w.scope captures params result block)
lambda_body_in f w at captures params result block h e =
    inr (in_left (lambdas_at (sites_of_body (fun_body f))) [] (lambda_body w.scope captures params result block) (lambdas_in (sites_of_body (fun_body f)) w (lambda_body w.scope captures params result block) h (rw e (inl refl))))
