-- What is found at a site, by what the rules say of its part.
use Rattle.std.proofs.Common.{◌≡◌, ◌⊎◌, inl, inr, true, not, ◌&&◌, List, [], ◌∷◌, ◌++◌, map, Option, refl, sym, ap, ◌∙◌, append_assoc}
use Rattle.hv_tree.specs.declared.place.Place.{Place}
use Rattle.hv_tree.specs.declared.types.Name.{Name}
use Rattle.hv_tree.specs.declared.refusal.Rule.TheVariants as rule
use Rattle.hv_tree.specs.declared.refusal.Refusal.{Refusal}
use Rattle.hv_tree.specs.Core.{CoreParam, CoreTy, CoreExpr, Number, Truth, Path, Calls, Awaits, Array, Filled, Count, Lambda, Prefix, Chain, CoreBlock, CoreStmt, Var, VarWith, Let, Inout, Assign, If, While, Return, ReturnWith, Print, Task, AwaitsAlone, CallsAlone, Bare}
use Rattle.hv_decls.specs.Locals.{Local, listed}
use Rattle.hv_decls.specs.Sites.{Part, ExprPart, CallPart, PlacePart, StmtPart, TestPart, Site}
use Rattle.hv_type_rules.specs.Names.{names_in_all, types_of, used_by, captured_by, param_type}
use Rattle.hv_type_names.specs.declared.program.Program.{Program}
use Rattle.hv_symbols.specs.Texts.{has}
use Rattle.hv_type_names.specs.Found as spec
use Rattle.hv_lemmas.proofs.Members.{Among, in_left, in_right, either_in}
use Rattle.hv_type_names.proofs.Repeated.{out_only, into_only}
use Rattle.hv_type_names.proofs.Unknown.{unknown, one_unknown, option_unknown, header_unknown, unknown_sound, unknown_whole}
use Rattle.hv_type_names.proofs.Walked.{sees, use_at, capture_at, captures_at, expr_at, stmt_at, part_at, sites_at}

module _ (p : Program) (visible : List Local) where
  -- why a part is refused
  pub data Judged (part : Part) (r : Refusal) : Type 0 where
    typed : (n : Name) → Among (names_in_all (types_of part)) n → not (has p.structs n.text) ≡ true → spec.refusal rule.N2 n.place ≡ r → Judged part r
    used : (n : Name) → Among (used_by part) n → (not (sees visible n.text) && not (has p.tops n.text)) ≡ true → spec.refusal rule.N2 n.place ≡ r → Judged part r
    captured : (n : Name) → Among (captured_by part) n → not (sees visible n.text) ≡ true → spec.refusal rule.N2 n.place ≡ r → Judged part r
    declared : (at : Place) (captures : List Name) (params : List CoreParam) (result : Option CoreTy) (block : CoreBlock) → part ≡ ExprPart (Lambda at captures params result block) → Among (spec.declared_found p captures params block) r →
        Judged part r

  of_types : (part : Part) (found : List Refusal) (r : Refusal) → found ≡ unknown p (names_in_all (types_of part)) → Among found r → Judged part r
  of_types part found r e h = let o = unknown_sound p (names_in_all (types_of part)) r (rw (← e) h) in typed o.0 o.1 o.2 o.3

  of_use : (part : Part) (name : Name) (r : Refusal) → Among (used_by part) name → Among (use_at p visible name) r → Judged part r
  of_use part name r u h = let o = out_only (not (sees visible name.text) && not (has p.tops name.text)) (spec.refusal rule.N2 name.place) r h in used name u o.0 o.1

  out_captures : (names : List Name) (r : Refusal) → Among (captures_at p visible names) r → (n : Name) × Among names n × (not (sees visible n.text) ≡ true) × (spec.refusal rule.N2 n.place ≡ r)
  out_captures [] r h = absurd h
  out_captures (n ∷ ns) r h = by (either_in (capture_at p visible n) (captures_at p visible ns) r h) (out_captures ns r)
    where
      by : Among (capture_at p visible n) r ⊎ Among (captures_at p visible ns) r → (Among (captures_at p visible ns) r → (m : Name) × Among ns m × (not (sees visible m.text) ≡ true) × (spec.refusal rule.N2 m.place ≡ r)) →
          (m : Name) × Among (n ∷ ns) m × (not (sees visible m.text) ≡ true) × (spec.refusal rule.N2 m.place ≡ r)
      by (inl i) f = let o = out_only (not (sees visible n.text)) (spec.refusal rule.N2 n.place) r i in (n, inl refl, o.0, o.1)
      by (inr i) f = let o = f i in (o.0, inr o.1, o.2, o.3)

  in_captures : (names : List Name) (n : Name) → Among names n → not (sees visible n.text) ≡ true → Among (captures_at p visible names) (spec.refusal rule.N2 n.place)
  in_captures [] n h e = absurd h
  in_captures (m ∷ ns) n (inl f) e =
      in_left (capture_at p visible m) (captures_at p visible ns) (spec.refusal rule.N2 n.place)
      (into_only (not (sees visible m.text)) (spec.refusal rule.N2 m.place) (spec.refusal rule.N2 n.place) (rw f e) (ap (λ (x : Name). spec.refusal rule.N2 x.place) f))
  in_captures (m ∷ ns) n (inr h) e = in_right (capture_at p visible m) (captures_at p visible ns) (spec.refusal rule.N2 n.place) (in_captures ns n h e)

  -- the pieces of a lambda
  lambda_same : (captures : List Name) (params : List CoreParam) (result : Option CoreTy) (rest : List Refusal) →
      (spec.params_found p params ++ (spec.option_ty_found p result ++ captures_at p visible captures)) ++ rest ≡ unknown p (names_in_all (map param_type params ++ listed result)) ++ (captures_at p visible captures ++ rest)
  lambda_same captures params result rest =
      ap (λ l. l ++ rest) (sym (append_assoc (spec.params_found p params) (spec.option_ty_found p result) (captures_at p visible captures)) ∙ ap (λ l. l ++ captures_at p visible captures) (header_unknown p params result))
      ∙ append_assoc (unknown p (names_in_all (map param_type params ++ listed result))) (captures_at p visible captures) rest

  judged_lambda : (at : Place) (captures : List Name) (params : List CoreParam) (result : Option CoreTy) (block : CoreBlock) (r : Refusal) →
      Among (unknown p (names_in_all (map param_type params ++ listed result)) ++ (captures_at p visible captures ++ spec.declared_found p captures params block)) r → Judged (ExprPart (Lambda at captures params result block)) r
  judged_lambda at captures params result block r h =
      by (either_in (unknown p (names_in_all (map param_type params ++ listed result))) (captures_at p visible captures ++ spec.declared_found p captures params block) r h)
    where
      more : Among (captures_at p visible captures) r ⊎ Among (spec.declared_found p captures params block) r → Judged (ExprPart (Lambda at captures params result block)) r
      more (inl i) = let o = out_captures captures r i in captured o.0 o.1 o.2 o.3
      more (inr i) = declared at captures params result block refl i

      by : Among (unknown p (names_in_all (map param_type params ++ listed result))) r ⊎ Among (captures_at p visible captures ++ spec.declared_found p captures params block) r → Judged (ExprPart (Lambda at captures params result block)) r
      by (inl i) = of_types (ExprPart (Lambda at captures params result block)) (unknown p (names_in_all (map param_type params ++ listed result))) r refl i
      by (inr i) = more (either_in (captures_at p visible captures) (spec.declared_found p captures params block) r i)

  judged_expr : (x : CoreExpr) (r : Refusal) → Among (expr_at p visible x) r → Judged (ExprPart x) r
  judged_expr (Number at z) r h = absurd h
  judged_expr (Truth at b) r h = absurd h
  judged_expr (Path at root steps) r h = absurd h
  judged_expr (Calls at call) r h = absurd h
  judged_expr (Awaits at name) r h = of_use (ExprPart (Awaits at name)) name r (inl refl) h
  judged_expr (Array at xs) r h = absurd h
  judged_expr (Filled at len value) r h = absurd h
  judged_expr (Count at root steps) r h = absurd h
  judged_expr (Lambda at captures params result block) r h = judged_lambda at captures params result block r (rw (← lambda_same captures params result (spec.declared_found p captures params block)) h)
  judged_expr (Prefix at o x) r h = absurd h
  judged_expr (Chain at first links) r h = absurd h

  judged_stmt : (x : CoreStmt) (r : Refusal) → Among (stmt_at p visible x) r → Judged (StmtPart x) r
  judged_stmt (Var at name t) r h = of_types (StmtPart (Var at name t)) (spec.ty_found p t) r (one_unknown p t) h
  judged_stmt (VarWith at name t x) r h = of_types (StmtPart (VarWith at name t x)) (spec.ty_found p t) r (one_unknown p t) h
  judged_stmt (Let at name t x) r h = of_types (StmtPart (Let at name t x)) (spec.ty_found p t) r (one_unknown p t) h
  judged_stmt (Inout at name t root steps) r h = of_types (StmtPart (Inout at name t root steps)) (spec.ty_found p t) r (one_unknown p t) h
  judged_stmt (Assign at root steps x) r h = absurd h
  judged_stmt (If at branches) r h = absurd h
  judged_stmt (While at test body) r h = absurd h
  judged_stmt (Return at) r h = absurd h
  judged_stmt (ReturnWith at x) r h = absurd h
  judged_stmt (Print at x) r h = absurd h
  judged_stmt (Task at name t spawn budget call) r h = of_types (StmtPart (Task at name t spawn budget call)) (spec.option_ty_found p t) r (option_unknown p t) h
  judged_stmt (AwaitsAlone at name) r h = of_use (StmtPart (AwaitsAlone at name)) name r (inl refl) h
  judged_stmt (CallsAlone at call) r h = absurd h
  judged_stmt (Bare at block) r h = absurd h

  pub judged : (part : Part) (r : Refusal) → Among (part_at p visible part) r → Judged part r
  judged (ExprPart x) r h = judged_expr x r h
  judged (CallPart call) r h = absurd h
  judged (PlacePart root steps) r h = of_use (PlacePart root steps) root r (inl refl) h
  judged (StmtPart x) r h = judged_stmt x r h
  judged (TestPart x) r h = absurd h

  -- ---- and the other way

  in_types : (names : List Name) (found : List Refusal) (n : Name) → found ≡ unknown p names → Among names n → not (has p.structs n.text) ≡ true → Among found (spec.refusal rule.N2 n.place)
  in_types names found n e h k = rw e (unknown_whole p names n h k)

  -- into a lambda, by its pieces
  into_lambda : (captures : List Name) (params : List CoreParam) (result : Option CoreTy) (rest : List Refusal) (r : Refusal) →
      Among (unknown p (names_in_all (map param_type params ++ listed result)) ++ (captures_at p visible captures ++ rest)) r → Among ((spec.params_found p params ++ (spec.option_ty_found p result ++ captures_at p visible captures)) ++ rest) r
  into_lambda captures params result rest r h = rw (lambda_same captures params result rest) h

  pub typed_whole : (part : Part) (n : Name) → Among (names_in_all (types_of part)) n → not (has p.structs n.text) ≡ true → Among (part_at p visible part) (spec.refusal rule.N2 n.place)
  typed_whole (ExprPart (Number at z)) n h e = absurd h
  typed_whole (ExprPart (Truth at b)) n h e = absurd h
  typed_whole (ExprPart (Path at root steps)) n h e = absurd h
  typed_whole (ExprPart (Calls at call)) n h e = absurd h
  typed_whole (ExprPart (Awaits at name)) n h e = absurd h
  typed_whole (ExprPart (Array at xs)) n h e = absurd h
  typed_whole (ExprPart (Filled at len value)) n h e = absurd h
  typed_whole (ExprPart (Count at root steps)) n h e = absurd h
  typed_whole (ExprPart (Lambda at captures params result block)) n h e =
      into_lambda captures params result (spec.declared_found p captures params block) (spec.refusal rule.N2 n.place)
      (in_left (unknown p (names_in_all (map param_type params ++ listed result))) (captures_at p visible captures ++ spec.declared_found p captures params block) (spec.refusal rule.N2 n.place)
      (unknown_whole p (names_in_all (map param_type params ++ listed result)) n h e))
  typed_whole (ExprPart (Prefix at o x)) n h e = absurd h
  typed_whole (ExprPart (Chain at first links)) n h e = absurd h
  typed_whole (CallPart call) n h e = absurd h
  typed_whole (PlacePart root steps) n h e = absurd h
  typed_whole (StmtPart (Var at name t)) n h e = in_types (names_in_all (t ∷ [])) (spec.ty_found p t) n (one_unknown p t) h e
  typed_whole (StmtPart (VarWith at name t x)) n h e = in_types (names_in_all (t ∷ [])) (spec.ty_found p t) n (one_unknown p t) h e
  typed_whole (StmtPart (Let at name t x)) n h e = in_types (names_in_all (t ∷ [])) (spec.ty_found p t) n (one_unknown p t) h e
  typed_whole (StmtPart (Inout at name t root steps)) n h e = in_types (names_in_all (t ∷ [])) (spec.ty_found p t) n (one_unknown p t) h e
  typed_whole (StmtPart (Assign at root steps x)) n h e = absurd h
  typed_whole (StmtPart (If at branches)) n h e = absurd h
  typed_whole (StmtPart (While at test body)) n h e = absurd h
  typed_whole (StmtPart (Return at)) n h e = absurd h
  typed_whole (StmtPart (ReturnWith at x)) n h e = absurd h
  typed_whole (StmtPart (Print at x)) n h e = absurd h
  typed_whole (StmtPart (Task at name t spawn budget call)) n h e = in_types (names_in_all (listed t)) (spec.option_ty_found p t) n (option_unknown p t) h e
  typed_whole (StmtPart (AwaitsAlone at name)) n h e = absurd h
  typed_whole (StmtPart (CallsAlone at call)) n h e = absurd h
  typed_whole (StmtPart (Bare at block)) n h e = absurd h
  typed_whole (TestPart x) n h e = absurd h

  one_use : (name n : Name) → Among (name ∷ []) n → (not (sees visible n.text) && not (has p.tops n.text)) ≡ true → Among (use_at p visible name) (spec.refusal rule.N2 n.place)
  one_use name n (inl f) e = into_only (not (sees visible name.text) && not (has p.tops name.text)) (spec.refusal rule.N2 name.place) (spec.refusal rule.N2 n.place) (rw f e) (ap (λ (x : Name). spec.refusal rule.N2 x.place) f)
  one_use name n (inr h) e = absurd h

  pub used_whole : (part : Part) (n : Name) → Among (used_by part) n → (not (sees visible n.text) && not (has p.tops n.text)) ≡ true → Among (part_at p visible part) (spec.refusal rule.N2 n.place)
  used_whole (ExprPart (Number at z)) n h e = absurd h
  used_whole (ExprPart (Truth at b)) n h e = absurd h
  used_whole (ExprPart (Path at root steps)) n h e = absurd h
  used_whole (ExprPart (Calls at call)) n h e = absurd h
  used_whole (ExprPart (Awaits at name)) n h e = one_use name n h e
  used_whole (ExprPart (Array at xs)) n h e = absurd h
  used_whole (ExprPart (Filled at len value)) n h e = absurd h
  used_whole (ExprPart (Count at root steps)) n h e = absurd h
  used_whole (ExprPart (Lambda at captures params result block)) n h e = absurd h
  used_whole (ExprPart (Prefix at o x)) n h e = absurd h
  used_whole (ExprPart (Chain at first links)) n h e = absurd h
  used_whole (CallPart call) n h e = absurd h
  used_whole (PlacePart root steps) n h e = one_use root n h e
  used_whole (StmtPart (Var at name t)) n h e = absurd h
  used_whole (StmtPart (VarWith at name t x)) n h e = absurd h
  used_whole (StmtPart (Let at name t x)) n h e = absurd h
  used_whole (StmtPart (Inout at name t root steps)) n h e = absurd h
  used_whole (StmtPart (Assign at root steps x)) n h e = absurd h
  used_whole (StmtPart (If at branches)) n h e = absurd h
  used_whole (StmtPart (While at test body)) n h e = absurd h
  used_whole (StmtPart (Return at)) n h e = absurd h
  used_whole (StmtPart (ReturnWith at x)) n h e = absurd h
  used_whole (StmtPart (Print at x)) n h e = absurd h
  used_whole (StmtPart (Task at name t spawn budget call)) n h e = absurd h
  used_whole (StmtPart (AwaitsAlone at name)) n h e = one_use name n h e
  used_whole (StmtPart (CallsAlone at call)) n h e = absurd h
  used_whole (StmtPart (Bare at block)) n h e = absurd h
  used_whole (TestPart x) n h e = absurd h

  pub lambda_whole : (at : Place) (captures : List Name) (params : List CoreParam) (result : Option CoreTy) (block : CoreBlock) (r : Refusal) → Among (spec.declared_found p captures params block) r →
      Among (part_at p visible (ExprPart (Lambda at captures params result block))) r
  lambda_whole at captures params result block r h =
      into_lambda captures params result (spec.declared_found p captures params block) r
      (in_right (unknown p (names_in_all (map param_type params ++ listed result))) (captures_at p visible captures ++ spec.declared_found p captures params block) r
      (in_right (captures_at p visible captures) (spec.declared_found p captures params block) r h))

  captured_lambda : (at : Place) (captures : List Name) (params : List CoreParam) (result : Option CoreTy) (block : CoreBlock) (n : Name) → Among captures n → not (sees visible n.text) ≡ true →
      Among (part_at p visible (ExprPart (Lambda at captures params result block))) (spec.refusal rule.N2 n.place)
  captured_lambda at captures params result block n h e =
      into_lambda captures params result (spec.declared_found p captures params block) (spec.refusal rule.N2 n.place)
      (in_right (unknown p (names_in_all (map param_type params ++ listed result))) (captures_at p visible captures ++ spec.declared_found p captures params block) (spec.refusal rule.N2 n.place)
      (in_left (captures_at p visible captures) (spec.declared_found p captures params block) (spec.refusal rule.N2 n.place) (in_captures captures n h e)))

  pub captured_whole : (part : Part) (n : Name) → Among (captured_by part) n → not (sees visible n.text) ≡ true → Among (part_at p visible part) (spec.refusal rule.N2 n.place)
  captured_whole (ExprPart (Number at z)) n h e = absurd h
  captured_whole (ExprPart (Truth at b)) n h e = absurd h
  captured_whole (ExprPart (Path at root steps)) n h e = absurd h
  captured_whole (ExprPart (Calls at call)) n h e = absurd h
  captured_whole (ExprPart (Awaits at name)) n h e = absurd h
  captured_whole (ExprPart (Array at xs)) n h e = absurd h
  captured_whole (ExprPart (Filled at len value)) n h e = absurd h
  captured_whole (ExprPart (Count at root steps)) n h e = absurd h
  captured_whole (ExprPart (Lambda at captures params result block)) n h e = captured_lambda at captures params result block n h e
  captured_whole (ExprPart (Prefix at o x)) n h e = absurd h
  captured_whole (ExprPart (Chain at first links)) n h e = absurd h
  captured_whole (CallPart call) n h e = absurd h
  captured_whole (PlacePart root steps) n h e = absurd h
  captured_whole (StmtPart x) n h e = absurd h
  captured_whole (TestPart x) n h e = absurd h

-- ---- sites

pub out_sites : (p : Program) (ws : List Site) (r : Refusal) → Among (sites_at p ws) r → (w : Site) × Among ws w × Among (part_at p w.scope.visible w.part) r
out_sites p [] r h = absurd h
out_sites p (w ∷ ws) r h = by (either_in (part_at p w.scope.visible w.part) (sites_at p ws) r h) (out_sites p ws r)
  where
    by : Among (part_at p w.scope.visible w.part) r ⊎ Among (sites_at p ws) r → (Among (sites_at p ws) r → (v : Site) × Among ws v × Among (part_at p v.scope.visible v.part) r) → (v : Site) × Among (w ∷ ws) v × Among (part_at p v.scope.visible v.part) r
    by (inl i) f = (w, inl refl, i)
    by (inr i) f = let o = f i in (o.0, inr o.1, o.2)

pub in_sites : (p : Program) (ws : List Site) (w : Site) (r : Refusal) → Among ws w → Among (part_at p w.scope.visible w.part) r → Among (sites_at p ws) r
in_sites p [] w r h k = absurd h
in_sites p (v ∷ ws) w r (inl e) k = in_left (part_at p v.scope.visible v.part) (sites_at p ws) r (rw e k)
in_sites p (v ∷ ws) w r (inr h) k = in_right (part_at p v.scope.visible v.part) (sites_at p ws) r (in_sites p ws w r h k)
