-- The bodies of declarations, as code meets them.
use Rattle.std.proofs.Common.{◌≡◌, ℕ, List, [], ◌∷◌, ◌++◌, ◌+◌, ◌<◌, length, drop, get_or, map, refl, sym, ap, ◌∙◌, append-nil}
use Rattle.hv_tree.specs.declared.ast.FunDecl.{FunDecl}
use Rattle.hv_tree.specs.declared.ast.StructDecl.{StructDecl}
use Rattle.hv_tree.specs.declared.ast.Decl.{Decl}
use Rattle.hv_tree.specs.declared.ast.Decl.TheVariants as decl
use Rattle.hv_tree.specs.Core.{CoreDecl, StructOf, FunOf, core_decl, core_block}
use Rattle.hv_decls.specs.Locals.{fun_body}
use Rattle.hv_decls.specs.Sites.{decl_bodies, body_scope, lambdas_at, sites_of_body}
use Rattle.hv_scope.specs.Known.{core_fun}
use Rattle.hv_scope.specs.Bodies.{function_bodies}
use Rattle.hv_lemmas.proofs.Lists.{first_left}
use Rattle.hv_scope.proofs.SiteBodies.{at_block}

decl_split : (d : CoreDecl) (rest : List CoreDecl) → decl_bodies (d ∷ rest) ≡ decl_bodies (d ∷ []) ++ decl_bodies rest
decl_split (StructOf s) rest = refl
decl_split (FunOf f) rest = ap (λ l. fun_body f ∷ (l ++ decl_bodies rest)) (sym (append-nil (lambdas_at (sites_of_body (fun_body f)))))

pub decls_next : (decls : List Decl) (i : ℕ) (d : Decl) → i < length decls → d ≡ get_or decls i d →
    decl_bodies (map core_decl (drop i decls)) ≡ decl_bodies (core_decl d ∷ []) ++ decl_bodies (map core_decl (drop (i + 1) decls))
decls_next decls i d within is = ap (λ w. decl_bodies (map core_decl w)) (first_left decls i d within is) ∙ decl_split (core_decl d) (map core_decl (drop (i + 1) decls))

pub fun_alone : (d : Decl) (f : FunDecl) → d ≡ decl.Fun f → decl_bodies (core_decl d ∷ []) ≡ function_bodies f
fun_alone d f h =
    ap (λ e. decl_bodies (core_decl e ∷ [])) h
    ∙ ap (λ l. fun_body (core_fun f) ∷ (l ++ [])) (at_block (body_scope (fun_body (core_fun f))) (core_block f.body))
    ∙ append-nil (function_bodies f)

pub struct_alone : (d : Decl) (s : StructDecl) → d ≡ decl.Struct s → decl_bodies (core_decl d ∷ []) ≡ []
struct_alone d s h = ap (λ e. decl_bodies (core_decl e ∷ [])) h
