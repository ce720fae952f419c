-- Parts of bodies whose sites are among those of the program.
use Rattle.std.proofs.Common.{◌≡◌, ◌⊎◌, inl, inr, List, [], ◌∷◌, ◌++◌, Some, refl}
use Rattle.hv_tree.specs.Core.{Core, CoreDecl, StructOf, FunOf, CoreFun}
use Rattle.hv_decls.specs.Types.{ValueType}
use Rattle.hv_decls.specs.Locals.{Local, CoreBody, fun_body, value_by}
use Rattle.hv_decls.specs.Sites.{Site, sites_of, sites_of_body, decl_sites, body_by, lambdas_at, decl_bodies, bodies_of}
use Rattle.hv_lemmas.proofs.Members.{Among, in_left, in_right, either_in}

-- all of the sites are sites of the program
pub record AllIn (tree : Core) (ws : List Site) : Type 0 where
  pub all : (w : Site) → Among ws w → Among (sites_of tree) w

pub first_in : {tree : Core} {w : Site} {ws : List Site} → AllIn tree (w ∷ ws) → Among (sites_of tree) w
first_in {w = w} h = h.all w (inl refl)

pub rest_in : {tree : Core} {w : Site} {ws : List Site} → AllIn tree (w ∷ ws) → AllIn tree ws
rest_in h = record { all = λ v i. h.all v (inr i) }

pub left_in : {tree : Core} (vs ws : List Site) → AllIn tree (vs ++ ws) → AllIn tree vs
left_in vs ws h = record { all = λ v i. h.all v (in_left vs ws v i) }

pub right_in : {tree : Core} (vs ws : List Site) → AllIn tree (vs ++ ws) → AllIn tree ws
right_in vs ws h = record { all = λ v i. h.all v (in_right vs ws v i) }

-- a body of the program, with all of its sites, whose captures have types
pub record Good (tree : Core) (body : CoreBody) : Type 0 where
  pub listed : Among (bodies_of tree) body
  pub sites : AllIn tree (sites_of_body body)
  pub typed : (l : Local) → Among body.captures l → (t : ValueType) × (value_by l.kind l.ty ≡ Some t)

-- ---- functions and lambdas

fun_listed : (decls : List CoreDecl) (f : CoreFun) → Among decls (FunOf f) → Among (decl_bodies decls) (fun_body f)
fun_listed [] f h = absurd h
fun_listed (StructOf s ∷ rest) f (inl e) = cc
fun_listed (StructOf s ∷ rest) f (inr h) = fun_listed rest f h
fun_listed (FunOf g ∷ rest) f (inl e) = let same : g ≡ f = cc in inl (rw same refl)
fun_listed (FunOf g ∷ rest) f (inr h) = inr (in_right (lambdas_at (sites_of_body (fun_body g))) (decl_bodies rest) (fun_body f) (fun_listed rest f h))

fun_sites : (decls : List CoreDecl) (f : CoreFun) → Among decls (FunOf f) → (w : Site) → Among (sites_of_body (fun_body f)) w → Among (decl_sites decls) w
fun_sites [] f h w i = absurd h
fun_sites (StructOf s ∷ rest) f (inl e) w i = cc
fun_sites (StructOf s ∷ rest) f (inr h) w i = fun_sites rest f h w i
fun_sites (FunOf g ∷ rest) f (inl e) w i = let same : g ≡ f = cc in in_left (sites_of_body (fun_body g)) (decl_sites rest) w (rw same i)
fun_sites (FunOf g ∷ rest) f (inr h) w i = in_right (sites_of_body (fun_body g)) (decl_sites rest) w (fun_sites rest f h w i)

pub good_fun : (tree : Core) (f : CoreFun) → Among tree.decls (FunOf f) → Good tree (fun_body f)
good_fun tree f h = record { listed = fun_listed tree.decls f h; sites = record { all = fun_sites tree.decls f h }; typed = λ l i. absurd i }

at_site : (ws : List Site) (w : Site) (body : CoreBody) → Among ws w → Among (body_by w.scope w.part) body → Among (lambdas_at ws) body
at_site [] w body h i = absurd h
at_site (v ∷ ws) w body (inl e) i = in_left (body_by v.scope v.part) (lambdas_at ws) body (rw e i)
at_site (v ∷ ws) w body (inr h) i = in_right (body_by v.scope v.part) (lambdas_at ws) body (at_site ws w body h i)

lambda_in : (decls : List CoreDecl) (w : Site) (body : CoreBody) → Among (decl_sites decls) w → Among (body_by w.scope w.part) body → Among (decl_bodies decls) body
lambda_in [] w body h i = absurd h
lambda_in (StructOf s ∷ rest) w body h i = lambda_in rest w body h i
lambda_in (FunOf g ∷ rest) w body h i = by (either_in (sites_of_body (fun_body g)) (decl_sites rest) w h) (λ k. lambda_in rest w body k i)
  where
    by : Among (sites_of_body (fun_body g)) w ⊎ Among (decl_sites rest) w → (Among (decl_sites rest) w → Among (decl_bodies rest) body) → Among (decl_bodies (FunOf g ∷ rest)) body
    by (inl k) f = inr (in_left (lambdas_at (sites_of_body (fun_body g))) (decl_bodies rest) body (at_site (sites_of_body (fun_body g)) w body k i))
    by (inr k) f = inr (in_right (lambdas_at (sites_of_body (fun_body g))) (decl_bodies rest) body (f k))

pub lambda_listed : (tree : Core) (w : Site) (body : CoreBody) → Among (sites_of tree) w → Among (body_by w.scope w.part) body → Among (bodies_of tree) body
lambda_listed tree w body h i = lambda_in tree.decls w body h i
