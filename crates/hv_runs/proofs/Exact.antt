-- The test of a program says exactly what the definition says.
use Rattle.std.proofs.Common.{◌≡◌, ◌⊎◌, ◌↔◌, inl, inr, IsTrue, Bool, true, List, [], ◌∷◌, refl, sym, ◌∙◌, subst}
use Rattle.hv_tree.specs.Core.{Core, CoreDecl, StructOf, FunOf, CoreFun, CoreStruct}
use Rattle.hv_decls.specs.Locals.{CoreBody, fun_body}
use Rattle.hv_decls.specs.Sites.{Site, body_scope, body_by, sites_of_body, decl_sites, lambdas_at, decl_bodies, sites_of, bodies_of}
use Rattle.hv_type_rules.specs.Names.{types_of_decl, types_of}
use Rattle.hv_lemmas.proofs.Members.{Among, in_left, in_right, either_in, listed, contained}
use Rattle.hv_law_safe.specs.Runs.{PartRuns, Returns, Runs}
use Rattle.hv_runs.specs.Walked as spec
use Rattle.hv_runs.proofs.Sited.{part_alone, sites_run, block_same}
use Rattle.hv_runs.proofs.Decided.{both, pair, EachLet, EachReads, Header, Fits, fields_sound, fields_whole, header_sound, header_whole, part_sound, part_whole}

-- ---- sites and the lambdas at them

abbrev EachFits : List Site → Type 0
EachFits ws = (w : Site) → Among ws w → Fits w.scope w.part

abbrev EachEnds : List CoreBody → Type 0
EachEnds bs = (b : CoreBody) → Among bs b → EachLet b.params × Returns b.result b.block

sites_sound : (ws : List Site) → sites_run ws ≡ true → EachFits ws
sites_sound [] e w i = absurd i
sites_sound (v ∷ ws) e w (inl i) = subst (λ (w : Site). Fits w.scope w.part) i (part_sound v.scope v.part (both (part_alone v.part) (sites_run ws) e).0)
sites_sound (v ∷ ws) e w (inr i) = sites_sound ws (both (part_alone v.part) (sites_run ws) e).1 w i

sites_whole : (ws : List Site) → EachFits ws → sites_run ws ≡ true
sites_whole [] h = refl
sites_whole (v ∷ ws) h = pair (part_alone v.part) (sites_run ws) (part_whole v.scope v.part (h v (inl refl))) (sites_whole ws (λ w i. h w (inr i)))

lambdas_end : (ws : List Site) → EachFits ws → EachEnds (lambdas_at ws)
lambdas_end [] h b i = absurd i
lambdas_end (v ∷ ws) h b i = by (either_in (body_by v.scope v.part) (lambdas_at ws) b i) (lambdas_end ws (λ w k. h w (inr k)) b)
  where
    by : Among (body_by v.scope v.part) b ⊎ Among (lambdas_at ws) b → (Among (lambdas_at ws) b → EachLet b.params × Returns b.result b.block) → EachLet b.params × Returns b.result b.block
    by (inl j) r = (h v (inl refl)).bodies b j
    by (inr j) r = r j

lambda_there : (ws : List Site) (w : Site) (b : CoreBody) → Among ws w → Among (body_by w.scope w.part) b → Among (lambdas_at ws) b
lambda_there [] w b i j = absurd i
lambda_there (v ∷ ws) w b (inl i) j = in_left (body_by v.scope v.part) (lambdas_at ws) b (subst (λ (w : Site). Among (body_by w.scope w.part) b) (sym i) j)
lambda_there (v ∷ ws) w b (inr i) j = in_right (body_by v.scope v.part) (lambdas_at ws) b (lambda_there ws w b i j)

-- ---- declarations

-- what the definition says, of declarations
record Facts (ds : List CoreDecl) : Type 0 where
  types : (d : CoreDecl) → Among ds d → EachReads (types_of_decl d)
  ends : EachEnds (decl_bodies ds)
  of_parts : (w : Site) → Among (decl_sites ds) w → EachReads (types_of w.part)
  parts : (w : Site) → Among (decl_sites ds) w → PartRuns w.part

struct_sound : (s : CoreStruct) (ds : List CoreDecl) → spec.fields_read s.fields ≡ true → Facts ds → Facts (StructOf s ∷ ds)
struct_sound s ds e rest = record { types = types; ends = rest.ends; of_parts = rest.of_parts; parts = rest.parts }
  where
    types : (d : CoreDecl) → Among (StructOf s ∷ ds) d → EachReads (types_of_decl d)
    types d (inl i) = subst (λ d. EachReads (types_of_decl d)) i (fields_sound s.fields e)
    types d (inr i) = rest.types d i

fun_sound : (f : CoreFun) (ds : List CoreDecl) → spec.body_runs f.params f.result f.body ≡ true → Facts ds → Facts (FunOf f ∷ ds)
fun_sound f ds e rest = record { types = types; ends = ends; of_parts = λ w i. (fits w (either_in sites (decl_sites ds) w i)).0; parts = λ w i. (fits w (either_in sites (decl_sites ds) w i)).1 }
  where
    sites : List Site
    sites = sites_of_body (fun_body f)

    own : (spec.header_runs f.params f.result f.body ≡ true) × (spec.block_runs f.body ≡ true)
    own = both (spec.header_runs f.params f.result f.body) (spec.block_runs f.body) e

    header : Header f.params f.result f.body
    header = header_sound f.params f.result f.body own.0

    here : EachFits (sites_of_body (fun_body f))
    here = sites_sound (sites_of_body (fun_body f)) (sym (block_same f.body (body_scope (fun_body f))) ∙ own.1)

    types : (d : CoreDecl) → Among (FunOf f ∷ ds) d → EachReads (types_of_decl d)
    types d (inl i) = subst (λ d. EachReads (types_of_decl d)) i header.types
    types d (inr i) = rest.types d i

    behind : (b : CoreBody) → Among (lambdas_at (sites_of_body (fun_body f))) b ⊎ Among (decl_bodies ds) b → EachLet b.params × Returns b.result b.block
    behind b (inl i) = lambdas_end (sites_of_body (fun_body f)) here b i
    behind b (inr i) = rest.ends b i

    ends : EachEnds (decl_bodies (FunOf f ∷ ds))
    ends b (inl i) = subst (λ (b : CoreBody). EachLet b.params × Returns b.result b.block) i (header.lets, header.returns)
    ends b (inr i) = behind b (either_in (lambdas_at (sites_of_body (fun_body f))) (decl_bodies ds) b i)

    fits : (w : Site) → Among (sites_of_body (fun_body f)) w ⊎ Among (decl_sites ds) w → EachReads (types_of w.part) × PartRuns w.part
    fits w (inl i) = ((here w i).types, (here w i).runs)
    fits w (inr i) = (rest.of_parts w i, rest.parts w i)

decls_sound : (ds : List CoreDecl) → spec.decls_run ds ≡ true → Facts ds
decls_sound [] e = record { types = λ d i. absurd i; ends = λ b i. absurd i; of_parts = λ w i. absurd i; parts = λ w i. absurd i }
decls_sound (StructOf s ∷ ds) e = let h = both (spec.fields_read s.fields) (spec.decls_run ds) e in struct_sound s ds h.0 (decls_sound ds h.1)
decls_sound (FunOf f ∷ ds) e = let h = both (spec.body_runs f.params f.result f.body) (spec.decls_run ds) e in fun_sound f ds h.0 (decls_sound ds h.1)

fun_whole : (f : CoreFun) (ds : List CoreDecl) → Facts (FunOf f ∷ ds) → spec.body_runs f.params f.result f.body ≡ true
fun_whole f ds h = pair (spec.header_runs f.params f.result f.body) (spec.block_runs f.body) header (block_same f.body (body_scope (fun_body f)) ∙ sites_whole (sites_of_body (fun_body f)) here)
  where
    header : spec.header_runs f.params f.result f.body ≡ true
    header = header_whole f.params f.result f.body (record { lets = (h.ends (fun_body f) (inl refl)).0; types = h.types (FunOf f) (inl refl); returns = (h.ends (fun_body f) (inl refl)).1 })

    here : EachFits (sites_of_body (fun_body f))
    here w i =
        let sites = sites_of_body (fun_body f) in
        record {
          types = h.of_parts w (in_left sites (decl_sites ds) w i);
          runs = h.parts w (in_left sites (decl_sites ds) w i);
          bodies = λ b j. h.ends b (inr (in_left (lambdas_at sites) (decl_bodies ds) b (lambda_there sites w b i j)));
        }

behind_fun : (f : CoreFun) (ds : List CoreDecl) → Facts (FunOf f ∷ ds) → Facts ds
behind_fun f ds h =
    let sites = sites_of_body (fun_body f) in
    record {
      types = λ d i. h.types d (inr i);
      ends = λ b i. h.ends b (inr (in_right (lambdas_at sites) (decl_bodies ds) b i));
      of_parts = λ w i. h.of_parts w (in_right sites (decl_sites ds) w i);
      parts = λ w i. h.parts w (in_right sites (decl_sites ds) w i);
    }

decls_whole : (ds : List CoreDecl) → Facts ds → spec.decls_run ds ≡ true
decls_whole [] h = refl
decls_whole (StructOf s ∷ ds) h =
    pair (spec.fields_read s.fields) (spec.decls_run ds) (fields_whole s.fields (h.types (StructOf s) (inl refl)))
    (decls_whole ds (record { types = λ d i. h.types d (inr i); ends = h.ends; of_parts = h.of_parts; parts = h.parts }))
decls_whole (FunOf f ∷ ds) h = pair (spec.body_runs f.params f.result f.body) (spec.decls_run ds) (fun_whole f ds h) (decls_whole ds (behind_fun f ds h))

-- ---- programs

sound : (tree : Core) → spec.tree_runs tree ≡ true → Runs tree
sound tree e =
    let h = decls_sound tree.decls e in
    record {
      params = λ body p i j. (h.ends body (listed (bodies_of tree) body i)).0 p (listed body.params p j);
      of_decls = λ d t i j. h.types d (listed tree.decls d i) t (listed (types_of_decl d) t j);
      of_parts = λ w t i j. h.of_parts w (listed (sites_of tree) w i) t (listed (types_of w.part) t j);
      parts = λ w i. h.parts w (listed (sites_of tree) w i);
      returns = λ body i. (h.ends body (listed (bodies_of tree) body i)).1;
    }

whole : (tree : Core) → Runs tree → spec.tree_runs tree ≡ true
whole tree r =
    decls_whole tree.decls
    (record {
      types = λ d i t j. r.of_decls d t (contained tree.decls d i) (contained (types_of_decl d) t j);
      ends = λ b i. (λ p j. r.params b p (contained (bodies_of tree) b i) (contained b.params p j), r.returns b (contained (bodies_of tree) b i));
      of_parts = λ w i t j. r.of_parts w t (contained (sites_of tree) w i) (contained (types_of w.part) t j);
      parts = λ w i. r.parts w (contained (sites_of tree) w i);
    })

pub exactly : (tree : Core) (b : Bool) → b ≡ spec.tree_runs tree → IsTrue b ↔ Runs tree
exactly tree b e = (λ h. sound tree (sym e ∙ h), λ r. e ∙ whole tree r)
