-- Each violation of a rule of names is found.
use Rattle.std.proofs.Common.{◌≡◌, ◌⊎◌, inl, inr, ◌+◌, ◌<◌, ◌≤◌, ℕ, Bool, true, false, if◌then◌else◌, not, ◌&&◌, ◌||◌, nat_le, List, [], ◌∷◌, ◌++◌, map, length, Option, Some, None, is_some, Contains, slice_get, codes, refl, sym, ap, ◌∙◌, append_assoc, append-nil, arith}
use Rattle.std.proofs.lemmas.Bool.{leb-true, le-leb}
use Rattle.std.proofs.lemmas.List.{map-append, length-map, length-append}
use Rattle.hv_tree.specs.declared.place.Place.{Place}
use Rattle.hv_tree.specs.declared.types.Name.{Name}
use Rattle.hv_tree.specs.declared.refusal.Rule.{Rule}
use Rattle.hv_tree.specs.declared.refusal.Rule.TheVariants as rule
use Rattle.hv_tree.specs.declared.refusal.Refusal.{Refusal}
use Rattle.hv_tree.specs.Core.{CoreDecl, StructOf, FunOf, CoreStruct, CoreFun}
use Rattle.hv_decls.specs.Locals.{Local, Captured, CoreBody, fun_body, locals_of, local_in, listed}
use Rattle.hv_decls.specs.Sites.{Site, sites_of_body, decl_sites, lambdas_at, decl_bodies}
use Rattle.hv_decls.specs.Types.{struct_in}
use Rattle.hv_type_rules.specs.Names.{Named, Repeats, ViolatesN1, top_level, of_fields, in_body, shared, names_in_all, param_type, field_type, types_of_decl, types_of, used_by, captured_by, ViolatesN2, in_decl, in_type, as_used, as_captured, HasMain, local_name, IsViolatedByNames}
use Rattle.hv_type_names.specs.declared.program.Program.{Program}
use Rattle.hv_symbols.specs.Texts.{index_of, has}
use Rattle.hv_type_names.specs.Found as spec
use Rattle.hv_lemmas.proofs.Members.{Among, in_left, in_right, listed as among_of, contained}
use Rattle.hv_type_names.proofs.Repeated.{Has, is_there, there_is, named_of, has_of, into_only, repeats_all, repeats_whole}
use Rattle.hv_type_names.proofs.Unknown.{header_unknown, fields_unknown, unknown_whole, struct_no, there_not}
use Rattle.hv_type_names.proofs.Walked.{sees, part_at}
use Rattle.hv_type_names.proofs.Judged.{typed_whole, used_whole, captured_whole, in_sites}
use Rattle.hv_type_names.proofs.Bodies.{own_names, all_names, name_of, repeats_declared, shared_declared}
use Rattle.hv_type_names.proofs.Shares.{first_at, Within, within, stands, place_at}
use Rattle.hv_type_names.proofs.Placed.{split, in_decls, sites_out, site_found, BodyOf, own_body, lambda_among, bodies_out}
use Rattle.hv_type_names.proofs.Soundness.{tree_of, here, main_by}
use Rattle.hv_lemmas.proofs.Bools.{and_both}

-- ---- into all that is found

in_repeats : (decls : List CoreDecl) (r : Refusal) → Among (spec.repeats_found [] (spec.decl_names decls)) r → Among (spec.all_found decls) r
in_repeats decls r h = in_left (spec.repeats_found [] (spec.decl_names decls)) (spec.decls_found (spec.program_of decls 0) 0 decls ++ spec.main_found decls) r h

in_main : (decls : List CoreDecl) (r : Refusal) → Among (spec.main_found decls) r → Among (spec.all_found decls) r
in_main decls r h =
    in_right (spec.repeats_found [] (spec.decl_names decls)) (spec.decls_found (spec.program_of decls 0) 0 decls ++ spec.main_found decls) r
    (in_right (spec.decls_found (spec.program_of decls 0) 0 decls) (spec.main_found decls) r h)

in_one : (decls before after : List CoreDecl) (d : CoreDecl) → decls ≡ before ++ d ∷ after → (r : Refusal) → Among (spec.decl_found (here decls before) d) r → Among (spec.all_found decls) r
in_one decls before after d is r h =
    let e : 0 + length before ≡ length before = omega arith in
    let found : Among (spec.decls_found (spec.program_of decls 0) 0 (before ++ d ∷ after)) r = in_decls before (spec.program_of decls 0) 0 d after r (rw e h) in
    in_right (spec.repeats_found [] (spec.decl_names decls)) (spec.decls_found (spec.program_of decls 0) 0 decls ++ spec.main_found decls) r
    (in_left (spec.decls_found (spec.program_of decls 0) 0 decls) (spec.main_found decls) r (moved decls (before ++ d ∷ after) (sym is) found))
  where
    moved : (ds es : List CoreDecl) → es ≡ ds → Among (spec.decls_found (spec.program_of decls 0) 0 es) r → Among (spec.decls_found (spec.program_of decls 0) 0 ds) r
    moved ds es e k = rw (← e) k

-- ---- N1

of_fields_found : (decls : List CoreDecl) (s : CoreStruct) (place : Place) → Among decls (StructOf s) → Repeats (map spec.field_name s.fields) place → Among (spec.all_found decls) (spec.refusal rule.N1 place)
of_fields_found decls s place h rep =
    let o = split decls (StructOf s) h in
    in_one decls o.before o.after (StructOf s) o.is (spec.refusal rule.N1 place)
    (in_left (spec.repeats_found [] (map spec.field_name s.fields)) (spec.fields_found (here decls o.before) s.fields) (spec.refusal rule.N1 place) (repeats_all (map spec.field_name s.fields) place rep))

of_body_found : (decls : List CoreDecl) (body : CoreBody) (place : Place) → Among (decl_bodies decls) body → Repeats (map local_name (locals_of body)) place → Among (spec.all_found decls) (spec.refusal rule.N1 place)
of_body_found decls body place h rep =
    let o = bodies_out decls body h in
    let same : map local_name (locals_of body) ≡ o.of.captures ++ own_names o.of.params o.of.block = all_names body o.of.captures o.of.params o.of.block o.of.shape in
    let rep' : Repeats (o.of.captures ++ own_names o.of.params o.of.block) place = rw (← same) rep in
    in_one decls o.before o.after (FunOf o.fun) o.is (spec.refusal rule.N1 place)
    (o.of.found (here decls o.before) (spec.refusal rule.N1 place)
    (repeats_declared (here decls o.before) (spec.refusal rule.N1 place) o.of.captures o.of.params o.of.block (repeats_all (o.of.captures ++ own_names o.of.params o.of.block) place rep')))

body_of_fun : (f : CoreFun) (b : CoreBody) → Among (decl_bodies (FunOf f ∷ [])) b → BodyOf f b
body_of_fun f b (inl e) = rw (← e) (own_body f)
body_of_fun f b (inr h) = lambda_among f b (rw (← append-nil (lambdas_at (sites_of_body (fun_body f)))) h)

-- what a shared name gives
shared_is : (decls : List CoreDecl) (i : ℕ) (name : Name) (k : ℕ) (q : Place) → index_of (spec.texts_of (spec.decl_names decls)) name.text ≡ Some k → slice_get (map spec.place_of (spec.decl_names decls)) k ≡ Some q →
    spec.shared_found (spec.program_of decls i) name ≡ spec.refusal rule.N1 (if nat_le k i then name.place else q) ∷ []
shared_is decls i name k q e f = ap (spec.shared_by (spec.program_of decls i) name) e ∙ ap (spec.shared_at (spec.program_of decls i) name k) f

-- a local of a body that shares its name, where it is found
of_local : (decls before after : List CoreDecl) (f : CoreFun) → decls ≡ before ++ FunOf f ∷ after → (body : CoreBody) → Among (decl_bodies (FunOf f ∷ [])) body → (l : Local) → Among (locals_of body) l → (l.kind ≡ Captured → ⊥) → (r : Refusal) →
    Among (spec.shared_found (here decls before) l.name) r → Among (spec.all_found decls) r
of_local decls before after f is body of l h own r k =
    let b = body_of_fun f body of in
    in_one decls before after (FunOf f) is r
    (b.found (here decls before) r (shared_declared (here decls before) r b.captures b.params b.block l.name (name_of body b.captures b.params b.block b.shape l h own) k))

at_local : (decls before after : List CoreDecl) (d : CoreDecl) → decls ≡ before ++ d ∷ after → (l : Local) → Named (spec.decl_names (before ++ d ∷ [])) l.name.text → Among (spec.shared_found (here decls before) l.name) (spec.refusal rule.N1 l.name.place)
at_local decls before after d is l n = by (index_of (spec.texts_of (spec.decl_names decls)) l.name.text) refl first
  where
    front : spec.decl_names decls ≡ spec.decl_names (before ++ d ∷ []) ++ spec.decl_names after
    front = ap spec.decl_names is ∙ ap spec.decl_names (sym (append_assoc before (d ∷ []) after)) ∙ map-append spec.decl_name (before ++ d ∷ []) after

    first : Within (index_of (spec.texts_of (spec.decl_names decls)) l.name.text) (length (spec.decl_names (before ++ d ∷ [])))
    first = let w = within (spec.decl_names (before ++ d ∷ [])) (spec.decl_names after) l.name.text (has_of (spec.decl_names (before ++ d ∷ [])) l.name.text n) in
        record { at = w.at; is = ap (λ ns. index_of (spec.texts_of ns) l.name.text) front ∙ w.is; less = w.less }

    found : (k : ℕ) → index_of (spec.texts_of (spec.decl_names decls)) l.name.text ≡ Some k → k ≤ length before → Among (spec.shared_found (here decls before) l.name) (spec.refusal rule.N1 l.name.place)
    found k e le =
        let s = stands (spec.decl_names decls) l.name.text k e in
        let place : slice_get (map spec.place_of (spec.decl_names decls)) k ≡ Some s.name.place =
        ap (λ ns. slice_get (map spec.place_of ns) k) s.is ∙ ap (λ m. slice_get (map spec.place_of (s.before ++ s.name ∷ s.after)) m) (s.at ∙ omega arith) ∙ place_at s.before s.name s.after
        in
        rw (shared_is decls (length before) l.name k s.name.place e place) (inl (ap (λ b. spec.refusal rule.N1 (if b then l.name.place else s.name.place)) (le-leb k (length before) le)))

    by : (o : Option ℕ) → index_of (spec.texts_of (spec.decl_names decls)) l.name.text ≡ o → Within (index_of (spec.texts_of (spec.decl_names decls)) l.name.text) (length (spec.decl_names (before ++ d ∷ []))) → Among (spec.shared_found (here decls before) l.name) (spec.refusal rule.N1 l.name.place)
    by o e w = found w.at w.is (omega (arith, w.less, length-map (before ++ d ∷ []) spec.decl_name, length-append before (d ∷ [])))

not_le : (a b : ℕ) → b < a → nat_le a b ≡ false
not_le a b h = by (nat_le a b) refl
  where
    by : (c : Bool) → nat_le a b ≡ c → nat_le a b ≡ false
    by true e = absurd (omega (arith, h, leb-true a b e))
    by false e = e

-- a local before a declaration with its name
behind : (decls before after : List CoreDecl) (f : CoreFun) → decls ≡ before ++ FunOf f ∷ after → (body : CoreBody) → Among (decl_bodies (FunOf f ∷ [])) body → (l : Local) → Among (locals_of body) l → (l.kind ≡ Captured → ⊥) → (n : Name) (front rest : List Name) →
    spec.decl_names decls ≡ front ++ n ∷ rest → length before < length front → n.text ≡ l.name.text → (b : Bool) → has (spec.texts_of front) n.text ≡ b → Among (spec.all_found decls) (spec.refusal rule.N1 n.place)
behind decls before after f is body of l h own n front rest whole far t true e =
    in_repeats decls (spec.refusal rule.N1 n.place) (rw whole (repeats_whole front [] n rest (is_there (spec.texts_of front) n.text e)))
behind decls before after f is body of l h own n front rest whole far t false e =
    let none : Has (spec.texts_of front) l.name.text → ⊥ = λ k. let g : true ≡ false = sym (there_is (spec.texts_of front) n.text (rw t k)) ∙ e in cc in
    let index : index_of (spec.texts_of (spec.decl_names decls)) l.name.text ≡ Some (length front) = ap (λ ns. index_of (spec.texts_of ns) l.name.text) whole ∙ first_at front n rest l.name.text t none in
    let place : slice_get (map spec.place_of (spec.decl_names decls)) (length front) ≡ Some n.place = ap (λ ns. slice_get (map spec.place_of ns) (length front)) whole ∙ place_at front n rest in
    of_local decls before after f is body of l h own (spec.refusal rule.N1 n.place)
    (rw (shared_is decls (length before) l.name (length front) n.place index place) (inl (ap (λ b. spec.refusal rule.N1 (if b then l.name.place else n.place)) (not_le (length front) (length before) far))))

at_decl : (decls before after : List CoreDecl) (f : CoreFun) → decls ≡ before ++ FunOf f ∷ after → (body : CoreBody) → Among (decl_bodies (FunOf f ∷ [])) body → (l : Local) → Among (locals_of body) l → (l.kind ≡ Captured → ⊥) → (n : Name) →
    Among (spec.decl_names after) n → n.text ≡ l.name.text → Among (spec.all_found decls) (spec.refusal rule.N1 n.place)
at_decl decls before after f is body of l h own n c t =
    let o = split (spec.decl_names after) n c in
    let front = spec.decl_names (before ++ FunOf f ∷ []) ++ o.before in
    let whole : spec.decl_names decls ≡ front ++ n ∷ o.after =
    ap spec.decl_names is ∙ ap spec.decl_names (sym (append_assoc before (FunOf f ∷ []) after)) ∙ map-append spec.decl_name (before ++ FunOf f ∷ []) after
    ∙ ap (λ ns. spec.decl_names (before ++ FunOf f ∷ []) ++ ns) o.is
    ∙ sym (append_assoc (spec.decl_names (before ++ FunOf f ∷ [])) o.before (n ∷ o.after))
    in
    let far : length before < length front = omega (arith, length-append (spec.decl_names (before ++ FunOf f ∷ [])) o.before, length-map (before ++ FunOf f ∷ []) spec.decl_name, length-append before (FunOf f ∷ [])) in
    behind decls before after f is body of l h own n front o.after whole far t (has (spec.texts_of front) n.text) refl

of_shared_found : (decls before after : List CoreDecl) (d : CoreDecl) → decls ≡ before ++ d ∷ after → (body : CoreBody) → Among (decl_bodies (d ∷ [])) body → (l : Local) → Among (locals_of body) l → (l.kind ≡ Captured → ⊥) → (place : Place) →
    (Named (spec.decl_names (before ++ d ∷ [])) l.name.text × (l.name.place ≡ place)) ⊎ ((n : Name) × Contains (spec.decl_names after) n × (n.text ≡ l.name.text) × (n.place ≡ place)) → Among (spec.all_found decls) (spec.refusal rule.N1 place)
of_shared_found decls before after (StructOf c) is body of l h own place later = absurd of
of_shared_found decls before after (FunOf f) is body of l h own place (inl (n, e)) =
    rw (← e) (of_local decls before after f is body of l h own (spec.refusal rule.N1 l.name.place) (at_local decls before after (FunOf f) is l n))
of_shared_found decls before after (FunOf f) is body of l h own place (inr (n, c, t, e)) =
    rw (← e) (at_decl decls before after f is body of l h own n (among_of (spec.decl_names after) n c) t)

whole_n1 : (decls : List CoreDecl) (place : Place) → ViolatesN1 (tree_of decls) place → Among (spec.all_found decls) (spec.refusal rule.N1 place)
whole_n1 decls place (top_level rep) = in_repeats decls (spec.refusal rule.N1 place) (repeats_all (spec.decl_names decls) place rep)
whole_n1 decls place (of_fields s c rep) = of_fields_found decls s place (among_of decls (StructOf s) c) rep
whole_n1 decls place (in_body body c rep) = of_body_found decls body place (among_of (decl_bodies decls) body c) rep
whole_n1 decls place (shared s) =
    of_shared_found decls s.before s.after s.decl s.is s.body (among_of (decl_bodies (s.decl ∷ [])) s.body s.of) s.local (among_of (locals_of s.body) s.local s.declared) s.own place s.later

-- ---- N2

typed_decl : (decls : List CoreDecl) (d : CoreDecl) (n : Name) → Among decls d → Among (names_in_all (types_of_decl d)) n → struct_in decls n.text ≡ None → Among (spec.all_found decls) (spec.refusal rule.N2 n.place)
typed_decl decls (StructOf s) n h k e =
    let o = split decls (StructOf s) h in
    in_one decls o.before o.after (StructOf s) o.is (spec.refusal rule.N2 n.place)
    (in_right (spec.repeats_found [] (map spec.field_name s.fields)) (spec.fields_found (here decls o.before) s.fields) (spec.refusal rule.N2 n.place)
    (rw (fields_unknown (here decls o.before) s.fields) (unknown_whole (here decls o.before) (names_in_all (map field_type s.fields)) n k (struct_no decls n.text e))))
typed_decl decls (FunOf f) n h k e =
    let o = split decls (FunOf f) h in
    let p = here decls o.before in
    let header : Among (spec.params_found p f.params ++ spec.option_ty_found p f.result) (spec.refusal rule.N2 n.place) =
    rw (header_unknown p f.params f.result) (unknown_whole p (names_in_all (map param_type f.params ++ listed f.result)) n k (struct_no decls n.text e))
    in
    in_one decls o.before o.after (FunOf f) o.is (spec.refusal rule.N2 n.place)
    (rw (← append_assoc (spec.params_found p f.params) (spec.option_ty_found p f.result) (spec.body_found p [] f.params f.body))
    (in_left (spec.params_found p f.params ++ spec.option_ty_found p f.result) (spec.body_found p [] f.params f.body) (spec.refusal rule.N2 n.place) header))

-- what is found at a site is found
at_site : (decls : List CoreDecl) (w : Site) (r : Refusal) → Among (decl_sites decls) w → ((p : Program) → p.structs ≡ spec.struct_texts decls → p.tops ≡ spec.texts_of (spec.decl_names decls) → Among (part_at p w.scope.visible w.part) r) → Among (spec.all_found decls) r
at_site decls w r h found =
    let o = sites_out decls w h in
    in_one decls o.before o.after (FunOf o.fun) o.is r (site_found (here decls o.before) o.fun r (in_sites (here decls o.before) (sites_of_body (fun_body o.fun)) w r o.there (found (here decls o.before) refl refl)))

not_some : {A : Type 0} (o : Option A) → o ≡ None → not (is_some o) ≡ true
not_some None e = refl
not_some (Some a) e = cc

whole_n2 : (decls : List CoreDecl) (place : Place) → ViolatesN2 (tree_of decls) place → Among (spec.all_found decls) (spec.refusal rule.N2 place)
whole_n2 decls place (in_decl d n c k e at) = rw (← at) (typed_decl decls d n (among_of decls d c) (among_of (names_in_all (types_of_decl d)) n k) e)
whole_n2 decls place (in_type w n c k e at) =
    rw (← at)
    (at_site decls w (spec.refusal rule.N2 n.place) (among_of (decl_sites decls) w c) (λ p s t. typed_whole p w.scope.visible w.part n (among_of (names_in_all (types_of w.part)) n k) (rw s (struct_no decls n.text e))))
whole_n2 decls place (as_used w n c k (e, f) at) =
    rw (← at)
    (at_site decls w (spec.refusal rule.N2 n.place) (among_of (decl_sites decls) w c)
    (λ p s t. used_whole p w.scope.visible w.part n (among_of (used_by w.part) n k)
    (and_both (not (sees w.scope.visible n.text)) (not (has p.tops n.text)) (not_some (local_in w.scope.visible n.text) e)
    (rw t (there_not (spec.texts_of (spec.decl_names decls)) n.text (λ h. f (named_of (spec.decl_names decls) n.text h)))))))
whole_n2 decls place (as_captured w n c k e at) =
    rw (← at)
    (at_site decls w (spec.refusal rule.N2 n.place) (among_of (decl_sites decls) w c) (λ p s t. captured_whole p w.scope.visible w.part n (among_of (captured_by w.part) n k) (not_some (local_in w.scope.visible n.text) e)))

-- ---- N3

or_either : (a b : Bool) → (a || b) ≡ true → (a ≡ true) ⊎ (b ≡ true)
or_either true b e = inl refl
or_either false b e = inr e

main_one : (d : CoreDecl) → spec.is_main d ≡ true → (f : CoreFun) × (d ≡ FunOf f) × (f.name.text ≡ codes "main") × (f.params ≡ []) × (f.result ≡ None)
main_one (StructOf s) e = cc
main_one (FunOf f) e = let m = main_by f.name.text f.params f.result e in (f, refl, m.0, m.1, m.2)

main_out : (decls : List CoreDecl) → spec.has_main decls ≡ true → (f : CoreFun) × Among decls (FunOf f) × (f.name.text ≡ codes "main") × (f.params ≡ []) × (f.result ≡ None)
main_out [] e = cc
main_out (d ∷ ds) e = by (or_either (spec.is_main d) (spec.has_main ds) e) (main_out ds)
  where
    by : (spec.is_main d ≡ true) ⊎ (spec.has_main ds ≡ true) → (spec.has_main ds ≡ true → (f : CoreFun) × Among ds (FunOf f) × (f.name.text ≡ codes "main") × (f.params ≡ []) × (f.result ≡ None)) →
        (f : CoreFun) × Among (d ∷ ds) (FunOf f) × (f.name.text ≡ codes "main") × (f.params ≡ []) × (f.result ≡ None)
    by (inl h) k = let m = main_one d h in (m.0, inl m.1, m.2, m.3, m.4)
    by (inr h) k = let m = k h in (m.0, inr m.1, m.2, m.3, m.4)

no_main : (decls : List CoreDecl) → (HasMain (tree_of decls) → ⊥) → not (spec.has_main decls) ≡ true
no_main decls none = by (spec.has_main decls) refl
  where
    by : (b : Bool) → spec.has_main decls ≡ b → not (spec.has_main decls) ≡ true
    by true e = let m = main_out decls e in absurd (none (m.0, contained decls (FunOf m.0) m.1, m.2, m.3, m.4))
    by false e = ap not e

whole_n3 : (decls : List CoreDecl) → (HasMain (tree_of decls) → ⊥) → Among (spec.all_found decls) (spec.refusal rule.N3 (record { start = 0 }))
whole_n3 decls none = in_main decls (spec.refusal rule.N3 (record { start = 0 })) (into_only (not (spec.has_main decls)) (spec.refusal rule.N3 (record { start = 0 })) (spec.refusal rule.N3 (record { start = 0 })) (no_main decls none) refl)

-- ---- all

-- the same rule at the same byte is found
pub record Covered (decls : List CoreDecl) (r : Rule) (place : Place) : Type 0 where
  pub at : Place
  pub found : Among (spec.all_found decls) (spec.refusal r at)
  pub same : at.start ≡ place.start

pub all_whole : (decls : List CoreDecl) (r : Rule) (place : Place) → IsViolatedByNames (tree_of decls) r place → Covered decls r place
all_whole decls rule.N1 place h = record { at = place; found = whole_n1 decls place h; same = refl }
all_whole decls rule.N2 place h = record { at = place; found = whole_n2 decls place h; same = refl }
all_whole decls rule.N3 place h = record { at = record { start = 0 }; found = whole_n3 decls h.0; same = sym h.1 }
all_whole decls rule.L0 place h = absurd h
all_whole decls rule.L1 place h = absurd h
all_whole decls rule.L2 place h = absurd h
all_whole decls rule.L3 place h = absurd h
all_whole decls rule.P1 place h = absurd h
all_whole decls rule.P2 place h = absurd h
all_whole decls rule.T1 place h = absurd h
all_whole decls rule.T2 place h = absurd h
all_whole decls rule.T3 place h = absurd h
all_whole decls rule.T4 place h = absurd h
all_whole decls rule.T5 place h = absurd h
all_whole decls rule.T6 place h = absurd h
all_whole decls rule.T7 place h = absurd h
all_whole decls rule.T8 place h = absurd h
all_whole decls rule.T9 place h = absurd h
all_whole decls rule.I1 place h = absurd h
all_whole decls rule.I2 place h = absurd h
all_whole decls rule.I3 place h = absurd h
all_whole decls rule.X1 place h = absurd h
all_whole decls rule.X2 place h = absurd h
all_whole decls rule.S1 place h = absurd h
all_whole decls rule.S2 place h = absurd h
all_whole decls rule.S3 place h = absurd h
