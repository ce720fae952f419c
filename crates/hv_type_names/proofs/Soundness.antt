-- What is found violates a rule of names.
use Rattle.std.proofs.Common.{◌≡◌, ◌⊎◌, inl, inr, ◌+◌, ◌<◌, ◌≤◌, ℕ, Bool, true, false, if◌then◌else◌, not, ◌&&◌, ◌||◌, nat_le, List, [], ◌∷◌, ◌++◌, map, length, Option, Some, None, is_some, Contains, slice_get, codes, refl, sym, ap, ◌∙◌, append_assoc, arith}
use Rattle.std.proofs.lemmas.Bool.{leb-true, le-leb}
use Rattle.std.proofs.lemmas.List.{map-append, length-map}
use Rattle.std.specs.Cmp.Lexicographic.{bytes_decides}
use Rattle.hv_tree.specs.declared.place.Place.{Place}
use Rattle.hv_tree.specs.declared.types.Name.{Name}
use Rattle.hv_tree.specs.declared.refusal.Rule.TheVariants as rule
use Rattle.hv_tree.specs.declared.refusal.Refusal.{Refusal}
use Rattle.hv_tree.specs.Core.{Core, CoreDecl, StructOf, FunOf, CoreStruct, CoreFun, CoreParam, CoreTy, CoreBlock}
use Rattle.hv_decls.specs.Locals.{Local, Captured, CoreBody, fun_body, locals_of, local_in}
use Rattle.hv_decls.specs.Sites.{Site, lambda_body, sites_of_body, decl_sites, decl_bodies}
use Rattle.hv_type_rules.specs.Names.{Named, Repeats, SharesName, ViolatesN1, top_level, of_fields, in_body, shared, names_in_all, param_type, field_type, types_of_decl, types_of, NothingVisible, ViolatesN2, in_decl, in_type, as_used, as_captured, HasMain, ViolatesN3, local_name}
use Rattle.hv_type_rules.specs.Names as names
use Rattle.hv_type_names.specs.declared.program.Program.{Program}
use Rattle.hv_symbols.specs.Texts.{index_of, has}
use Rattle.hv_type_names.specs.Found as spec
use Rattle.hv_lemmas.proofs.Members.{Among, in_right, either_in, listed as among_of, contained}
use Rattle.hv_type_names.proofs.Repeated.{has_of, out_only, repeats_meet}
use Rattle.hv_type_names.proofs.Unknown.{unknown, header_unknown, fields_unknown, unknown_sound, no_struct, not_there}
use Rattle.hv_type_names.proofs.Walked.{sees, sites_at}
use Rattle.hv_type_names.proofs.Judged.{Judged, typed, used, captured, declared, judged, out_sites}
use Rattle.hv_type_names.proofs.Bodies.{IsBody, is_fun, is_lambda, own_names, all_names, local_of, Shared, out_declared}
use Rattle.hv_type_names.proofs.Shares.{Stands, stands, place_at, low_or_high}
use Rattle.hv_type_names.proofs.Placed.{FoundIn, out_decls, sites_in, fun_sites, bodies_in, lambda_body_in}
use Rattle.hv_lemmas.proofs.Bools.{and_parts, or_left, or_right}

-- a violation of a rule of names
pub data Wrong (tree : Core) (r : Refusal) : Type 0 where
  n1 : ViolatesN1 tree r.place → r.rule ≡ rule.N1 → Wrong tree r
  n2 : ViolatesN2 tree r.place → r.rule ≡ rule.N2 → Wrong tree r
  n3 : ViolatesN3 tree r.place → r.rule ≡ rule.N3 → Wrong tree r

of_place : (n : Name) (r : Refusal) → spec.refusal rule.N2 n.place ≡ r → n.place ≡ r.place
of_place n r e = ap (λ (x : Refusal). x.place) e

of_rule : (n : Name) (r : Refusal) → spec.refusal rule.N2 n.place ≡ r → r.rule ≡ rule.N2
of_rule n r e = sym (ap (λ (x : Refusal). x.rule) e)

none_of : {A : Type 0} (o : Option A) → not (is_some o) ≡ true → o ≡ None
none_of None e = refl
none_of (Some a) e = cc

abbrev pub tree_of : List CoreDecl → Core
tree_of decls = record { decls = decls }

abbrev pub here : List CoreDecl → List CoreDecl → Program
here decls before = spec.program_of decls (length before)

pub there : (decls before after : List CoreDecl) (d : CoreDecl) → decls ≡ before ++ d ∷ after → Among decls d
there decls before after d is = rw is (in_right before (d ∷ after) d (inl refl))

-- a name of a type that names no struct
of_types : (decls before after : List CoreDecl) (d : CoreDecl) → decls ≡ before ++ d ∷ after → (r : Refusal) → Among (unknown (spec.program_of decls (length before)) (names_in_all (types_of_decl d))) r → Wrong (tree_of decls) r
of_types decls before after d is r h =
    let o = unknown_sound (spec.program_of decls (length before)) (names_in_all (types_of_decl d)) r h in
    n2 (in_decl d o.0 (contained decls d (there decls before after d is)) (contained (names_in_all (types_of_decl d)) o.0 o.1) (no_struct decls o.0.text o.2) (of_place o.0 r o.3)) (of_rule o.0 r o.3)

-- ---- locals with the name of a declaration

pub names_split : (decls before after : List CoreDecl) (d : CoreDecl) → decls ≡ before ++ d ∷ after → spec.decl_names decls ≡ spec.decl_names before ++ spec.decl_name d ∷ spec.decl_names after
names_split decls before after d is = ap spec.decl_names is ∙ map-append spec.decl_name before (d ∷ after)

front_names : (before : List CoreDecl) (d : CoreDecl) → spec.decl_names (before ++ d ∷ []) ≡ spec.decl_names before ++ spec.decl_name d ∷ []
front_names before d = map-append spec.decl_name before (d ∷ [])

pub of_shared : (decls before after : List CoreDecl) (d : CoreDecl) → decls ≡ before ++ d ∷ after → (body : CoreBody) → Among (decl_bodies (d ∷ [])) body → (l : Local) → Among (locals_of body) l → (l.kind ≡ Captured → ⊥) → (r : Refusal) →
    Among (spec.shared_found (spec.program_of decls (length before)) l.name) r → Wrong (tree_of decls) r
of_shared decls before after d is body of l declares own r h = by_first (index_of (spec.texts_of (spec.decl_names decls)) l.name.text) refl h
  where
    made : (spec.refusal rule.N1 r.place ≡ r) → (Named (spec.decl_names (before ++ d ∷ [])) l.name.text × (l.name.place ≡ r.place)) ⊎ ((n : Name) × Contains (spec.decl_names after) n × (n.text ≡ l.name.text) × (n.place ≡ r.place)) →
        Wrong (tree_of decls) r
    made e later = n1 (shared (record { before = before; decl = d; after = after; is = is; body = body; of = contained (decl_bodies (d ∷ [])) body of; local = l; declared = contained (locals_of body) l declares; own = own; later = later }))
        (sym (ap (λ (x : Refusal). x.rule) e))

    whole : (place : Place) → spec.refusal rule.N1 place ≡ r → spec.refusal rule.N1 r.place ≡ r
    whole place e = ap (λ (x : Refusal). spec.refusal rule.N1 x.place) (sym e) ∙ e

    low : (k : ℕ) (s : Stands 0 (spec.decl_names decls) l.name.text k) → k ≤ length before → Among (spec.decl_names (before ++ d ∷ [])) s.name
    low k s le =
        rw (front_names before d)
        ((low_or_high (spec.decl_names before) (spec.decl_name d) (spec.decl_names after) s.before s.name s.after (sym (names_split decls before after d is) ∙ s.is)).0
        (omega (arith, le, s.at, length-map before spec.decl_name)))

    high : (k : ℕ) (s : Stands 0 (spec.decl_names decls) l.name.text k) → length before < k → Among (spec.decl_names after) s.name
    high k s lt =
        (low_or_high (spec.decl_names before) (spec.decl_name d) (spec.decl_names after) s.before s.name s.after (sym (names_split decls before after d is) ∙ s.is)).1
        (omega (arith, lt, s.at, length-map before spec.decl_name))

    by_order : (b : Bool) (k : ℕ) (s : Stands 0 (spec.decl_names decls) l.name.text k) (place : Place) → nat_le k (length before) ≡ b → place ≡ s.name.place → spec.refusal rule.N1 (if b then l.name.place else place) ≡ r → Wrong (tree_of decls) r
    by_order true k s place e f g =
        made (whole l.name.place g) (inl ((s.name, contained (spec.decl_names (before ++ d ∷ [])) s.name (low k s (leb-true k (length before) e)), s.same), ap (λ (x : Refusal). x.place) g))
    by_order false k s place e f g =
        let over : length before < k = above k e in
        made (whole place g) (inr (s.name, contained (spec.decl_names after) s.name (high k s over), s.same, sym f ∙ ap (λ (x : Refusal). x.place) g))
      where
        above : (k : ℕ) → nat_le k (length before) ≡ false → length before < k
        above k e = not_below k (λ le. let c : true ≡ false = sym (le-leb k (length before) le) ∙ e in cc)
          where
            not_below : (k : ℕ) → (k ≤ length before → ⊥) → length before < k
            not_below k n = omega (arith, n)

    place_is : (k : ℕ) (s : Stands 0 (spec.decl_names decls) l.name.text k) → slice_get (map spec.place_of (spec.decl_names decls)) k ≡ Some s.name.place
    place_is k s =
        ap (λ ns. slice_get (map spec.place_of ns) k) s.is
        ∙ ap (λ n. slice_get (map spec.place_of (s.before ++ s.name ∷ s.after)) n) (s.at ∙ omega arith)
        ∙ place_at s.before s.name s.after

    by_place : (k : ℕ) (s : Stands 0 (spec.decl_names decls) l.name.text k) (o : Option Place) → slice_get (map spec.place_of (spec.decl_names decls)) k ≡ o → Among (spec.shared_at (here decls before) l.name k o) r → Wrong (tree_of decls) r
    by_place k s None e h = absurd h
    by_place k s (Some place) e (inl g) = by_order (nat_le k (length before)) k s place refl (let f : Some place ≡ Some s.name.place = sym e ∙ place_is k s in cc) g
    by_place k s (Some place) e (inr h) = absurd h

    by_first : (o : Option ℕ) → index_of (spec.texts_of (spec.decl_names decls)) l.name.text ≡ o → Among (spec.shared_by (here decls before) l.name o) r → Wrong (tree_of decls) r
    by_first None e h = absurd h
    by_first (Some k) e h = by_place k (stands (spec.decl_names decls) l.name.text k e) (slice_get (map spec.place_of (spec.decl_names decls)) k) refl h

-- ---- what a body declares

pub of_declared : (decls before after : List CoreDecl) (d : CoreDecl) → decls ≡ before ++ d ∷ after → (body : CoreBody) → Among (decl_bodies (d ∷ [])) body → (captures : List Name) (params : List CoreParam) (block : CoreBlock) → IsBody body captures params block → (r : Refusal) →
    Among (spec.declared_found (spec.program_of decls (length before)) captures params block) r → Wrong (tree_of decls) r
of_declared decls before after d is body of captures params block shape r h = by (out_declared (spec.program_of decls (length before)) r captures params block h)
  where
    bodied : Contains (decl_bodies decls) body
    bodied = contained (decl_bodies decls) body (rw is (bodies_in before d after body of))

    by : Among (spec.repeats_found [] (captures ++ own_names params block)) r ⊎ Shared (spec.program_of decls (length before)) r (own_names params block) → Wrong (tree_of decls) r
    by (inl i) =
        let m = repeats_meet (captures ++ own_names params block) r i in
        n1 (in_body body bodied (let s : map local_name (locals_of body) ≡ captures ++ own_names params block = all_names body captures params block shape in rw s m.0)) m.1
    by (inr (n, i, k)) =
        let o = local_of body captures params block shape n i in
        of_shared decls before after d is body of o.0 o.1 o.2 r (rw o.3 k)

-- ---- what stands at a site

none_visible : (decls : List CoreDecl) (visible : List Local) (n : Name) → (not (sees visible n.text) && not (has (spec.texts_of (spec.decl_names decls)) n.text)) ≡ true → NothingVisible (tree_of decls) visible n
none_visible decls visible n e =
    let b = and_parts (not (sees visible n.text)) (not (has (spec.texts_of (spec.decl_names decls)) n.text)) e in
    (none_of (local_in visible n.text) b.0, λ h. not_there (spec.texts_of (spec.decl_names decls)) n.text b.1 (has_of (spec.decl_names decls) n.text h))

of_site : (decls before after : List CoreDecl) (f : CoreFun) → decls ≡ before ++ FunOf f ∷ after → (w : Site) → Among (sites_of_body (fun_body f)) w → (r : Refusal) → Judged (spec.program_of decls (length before)) w.scope.visible w.part r → Wrong (tree_of decls) r
of_site decls before after f is w h r j = by j
  where
    sited : Contains (decl_sites decls) w
    sited = contained (decl_sites decls) w (rw is (sites_in before f after w h))

    by : Judged (spec.program_of decls (length before)) w.scope.visible w.part r → Wrong (tree_of decls) r
    by (typed n i e g) = n2 (in_type w n sited (contained (names_in_all (types_of w.part)) n i) (no_struct decls n.text e) (of_place n r g)) (of_rule n r g)
    by (used n i e g) = n2 (as_used w n sited (contained (names.used_by w.part) n i) (none_visible decls w.scope.visible n e) (of_place n r g)) (of_rule n r g)
    by (captured n i e g) = n2 (as_captured w n sited (contained (names.captured_by w.part) n i) (none_of (local_in w.scope.visible n.text) e) (of_place n r g)) (of_rule n r g)
    by (declared at captures params result block e i) =
        of_declared decls before after (FunOf f) is (lambda_body w.scope captures params result block) (lambda_body_in f w at captures params result block h e) captures params block (is_lambda w.scope captures params result block) r i

-- ---- a declaration

of_struct : (decls before after : List CoreDecl) (c : CoreStruct) → decls ≡ before ++ StructOf c ∷ after → (r : Refusal) → Among (spec.decl_found (spec.program_of decls (length before)) (StructOf c)) r → Wrong (tree_of decls) r
of_struct decls before after c is r h = by (either_in (spec.repeats_found [] (map spec.field_name c.fields)) (spec.fields_found (spec.program_of decls (length before)) c.fields) r h)
  where
    by : Among (spec.repeats_found [] (map spec.field_name c.fields)) r ⊎ Among (spec.fields_found (spec.program_of decls (length before)) c.fields) r → Wrong (tree_of decls) r
    by (inl i) = let m = repeats_meet (map spec.field_name c.fields) r i in n1 (of_fields c (contained decls (StructOf c) (there decls before after (StructOf c) is)) m.0) m.1
    by (inr i) = of_types decls before after (StructOf c) is r (rw (← fields_unknown (spec.program_of decls (length before)) c.fields) i)

of_fun : (decls before after : List CoreDecl) (f : CoreFun) → decls ≡ before ++ FunOf f ∷ after → (r : Refusal) → Among (spec.decl_found (spec.program_of decls (length before)) (FunOf f)) r → Wrong (tree_of decls) r
of_fun decls before after f is r h =
    first (either_in (spec.params_found (here decls before) f.params ++ spec.option_ty_found (here decls before) f.result) (spec.body_found (here decls before) [] f.params f.body) r (rw (append_assoc (spec.params_found (here decls before) f.params) (spec.option_ty_found (here decls before) f.result) (spec.body_found (here decls before) [] f.params f.body)) h))
  where
    sites : Among (sites_at (here decls before) (sites_of_body (fun_body f))) r → Wrong (tree_of decls) r
    sites i = let o = out_sites (here decls before) (sites_of_body (fun_body f)) r i in of_site decls before after f is o.0 o.1 r (judged (here decls before) o.0.scope.visible o.0.part r o.2)

    second : Among (spec.declared_found (here decls before) [] f.params f.body) r ⊎ Among (spec.block_found (here decls before) (spec.texts_of (map spec.param_name f.params)) f.body) r → Wrong (tree_of decls) r
    second (inl i) = of_declared decls before after (FunOf f) is (fun_body f) (inl refl) [] f.params f.body (is_fun f) r i
    second (inr i) = sites (rw (← fun_sites (here decls before) f) i)

    first : Among (spec.params_found (here decls before) f.params ++ spec.option_ty_found (here decls before) f.result) r ⊎ Among (spec.body_found (here decls before) [] f.params f.body) r → Wrong (tree_of decls) r
    first (inl i) = of_types decls before after (FunOf f) is r (rw (← header_unknown (here decls before) f.params f.result) i)
    first (inr i) = second (either_in (spec.declared_found (here decls before) [] f.params f.body) (spec.block_found (here decls before) (spec.texts_of (map spec.param_name f.params)) f.body) r i)

pub of_decl : (decls before after : List CoreDecl) (d : CoreDecl) → decls ≡ before ++ d ∷ after → (r : Refusal) → Among (spec.decl_found (spec.program_of decls (length before)) d) r → Wrong (tree_of decls) r
of_decl decls before after (StructOf c) is r h = of_struct decls before after c is r h
of_decl decls before after (FunOf f) is r h = of_fun decls before after f is r h

-- ---- the beginning

pub main_by : (text : List ℕ) (params : List CoreParam) (result : Option CoreTy) → spec.is_main_by text params result ≡ true → (text ≡ codes "main") × (params ≡ []) × (result ≡ None)
main_by text [] None e = ((bytes_decides text (codes "main")).0 e, refl, refl)
main_by text [] (Some t) e = cc
main_by text (x ∷ xs) result e = cc

is_by : (text : List ℕ) (params : List CoreParam) (result : Option CoreTy) → text ≡ codes "main" → params ≡ [] → result ≡ None → spec.is_main_by text params result ≡ true
is_by text [] None e f g = (bytes_decides text (codes "main")).1 e
is_by text [] (Some t) e f g = cc
is_by text (x ∷ xs) result e f g = cc

main_there : (decls : List CoreDecl) (f : CoreFun) → Among decls (FunOf f) → spec.is_main (FunOf f) ≡ true → spec.has_main decls ≡ true
main_there [] f h e = absurd h
main_there (d ∷ ds) f (inl g) e = or_left (spec.is_main d) (spec.has_main ds) (rw g e)
main_there (d ∷ ds) f (inr h) e = or_right (spec.is_main d) (spec.has_main ds) (main_there ds f h e)

of_main : (decls : List CoreDecl) (r : Refusal) → Among (spec.main_found decls) r → Wrong (tree_of decls) r
of_main decls r h =
    let o = out_only (not (spec.has_main decls)) (spec.refusal rule.N3 (record { start = 0 })) r h in
    n3 (none o.0, ap (λ (x : Refusal). x.place.start) (sym o.1)) (sym (ap (λ (x : Refusal). x.rule) o.1))
  where
    none : not (spec.has_main decls) ≡ true → HasMain (tree_of decls) → ⊥
    none e (f, c, t, q, s) = let g : not true ≡ true = ap not (sym (main_there decls f (among_of decls (FunOf f) c) (is_by f.name.text f.params f.result t q s))) ∙ e in cc

-- ---- all

pub all_sound : (decls : List CoreDecl) (r : Refusal) → Among (spec.all_found decls) r → Wrong (tree_of decls) r
all_sound decls r h = first (either_in (spec.repeats_found [] (spec.decl_names decls)) (spec.decls_found (spec.program_of decls 0) 0 decls ++ spec.main_found decls) r h)
  where
    in_some : FoundIn (spec.program_of decls 0) 0 decls r → Wrong (tree_of decls) r
    in_some o = of_decl decls o.before o.after o.decl o.is r (let e : 0 + length o.before ≡ length o.before = omega arith in rw (← e) o.found)

    second : Among (spec.decls_found (spec.program_of decls 0) 0 decls) r ⊎ Among (spec.main_found decls) r → Wrong (tree_of decls) r
    second (inl i) = in_some (out_decls (spec.program_of decls 0) 0 decls r i)
    second (inr i) = of_main decls r i

    first : Among (spec.repeats_found [] (spec.decl_names decls)) r ⊎ Among (spec.decls_found (spec.program_of decls 0) 0 decls ++ spec.main_found decls) r → Wrong (tree_of decls) r
    first (inl i) = let m = repeats_meet (spec.decl_names decls) r i in n1 (top_level m.0) m.1
    first (inr i) = second (either_in (spec.decls_found (spec.program_of decls 0) 0 decls) (spec.main_found decls) r i)
