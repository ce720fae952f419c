-- Bodies by their numbers.
use Rattle.std.proofs.Common.{◌≡◌, ℕ, List, map, Option, Some, None, option_map, IfSome, refl, sym, ap, ◌∙◌, Bor}
use Rattle.std.specs.List.{slice_get}
use Rattle.std.specs.Option.{option_copied}
use Rattle.std.proofs.lemmas.Option.{slice_get-map}
use Rattle.hv_tree.specs.declared.ast.Tree.{Tree}
use Rattle.hv_tree.specs.Core.{core_tree}
use Rattle.hv_decls.specs.Locals.{Local, CoreBody, locals_of}
use Rattle.hv_decls.specs.Sites.{bodies_of}
use Rattle.hv_scope.specs.Known.{local_by}
use Rattle.hv_scope.specs.Bodies.{body_by}
use Rattle.hv_eval_env.specs.declared.scoped.Scoped.{Scoped}
use Rattle.hv_eval_env.specs.Programs.{option_body, with_locals, scoped_by}

-- what is found there, on both sides
both : (ss : List Scoped) (bs : List CoreBody) (k : ℕ) (r : Option (Bor Scoped)) → map scoped_by ss ≡ map with_locals bs → option_copied r ≡ slice_get ss k → option_map scoped_by (option_copied r) ≡ option_map with_locals (slice_get bs k)
both ss bs k r e h = ap (option_map scoped_by) h ∙ sym (slice_get-map scoped_by ss k) ∙ ap (λ l. slice_get l k) e ∙ slice_get-map with_locals bs k

body_same : (r : Option (Bor Scoped)) (o : Option CoreBody) → option_map scoped_by (option_copied r) ≡ option_map with_locals o → option_body r ≡ o
body_same None None h = refl
body_same None (Some b) h = cc
body_same (Some s) None h = cc
body_same (Some s) (Some b) h = let e : scoped_by s.now ≡ with_locals b = cc in ap Some (ap (λ (p : CoreBody × List Local). p.0) e)

locals_same : (r : Option (Bor Scoped)) (o : Option CoreBody) → option_map scoped_by (option_copied r) ≡ option_map with_locals o → IfSome r (λ s. map local_by s.now.locals ≡ locals_of (body_by s.now.body))
locals_same None o h = tt
locals_same (Some s) None h = cc
locals_same (Some s) (Some b) h =
    let e : scoped_by s.now ≡ with_locals b = cc in
    ap (λ (p : CoreBody × List Local). p.1) e ∙ sym (ap (λ (p : CoreBody × List Local). locals_of p.0) e)

pub found_body : (t u : Tree) (ss : List Scoped) (k : ℕ) (r : Option (Bor Scoped)) → t ≡ u → map scoped_by ss ≡ map with_locals (bodies_of (core_tree t)) → option_copied r ≡ slice_get ss k → option_body r ≡ slice_get (bodies_of (core_tree u)) k
found_body t u ss k r same e h = body_same r _ (both ss (bodies_of (core_tree u)) k r (e ∙ ap (λ s. map with_locals (bodies_of (core_tree s))) same) h)

pub found_locals : (t : Tree) (ss : List Scoped) (k : ℕ) (r : Option (Bor Scoped)) → map scoped_by ss ≡ map with_locals (bodies_of (core_tree t)) → option_copied r ≡ slice_get ss k → IfSome r (λ s. map local_by s.now.locals ≡ locals_of (body_by s.now.body))
found_locals t ss k r e h = locals_same r _ (both ss (bodies_of (core_tree t)) k r e h)
