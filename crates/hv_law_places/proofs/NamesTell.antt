-- A program violates a rule of names or types only at a place of the program, or, where it has no `main`, at the beginning.
use Rattle.std.proofs.Common.{◌≡◌, ◌⊎◌, inl, inr, List, [], ◌∷◌, ◌++◌, map, Option, Some, None, Contains, refl, sym, subst}
use Rattle.hv_tree.specs.declared.place.Place.{Place}
use Rattle.hv_tree.specs.declared.types.Name.{Name}
use Rattle.hv_tree.specs.declared.refusal.Rule.{Rule}
use Rattle.hv_tree.specs.declared.refusal.Rule.TheVariants as rule
use Rattle.hv_tree.specs.Core.{Core, CoreDecl, StructOf, FunOf, CoreField, CoreParam, CoreTy, IntTy, BoolTy, NamedTy, ArrayTy, FunTy, FunToTy, CoreTys, NoTys, TyOf, CoreExpr, Number, Truth, Path, Calls, Awaits, Array, Filled, Count, Lambda, Prefix, Chain, CoreBlock, CoreStmt, Var, VarWith, Let, Inout, Assign, If, While, Return, ReturnWith, Print, Task, AwaitsAlone, CallsAlone, Bare}
use Rattle.hv_decls.specs.Locals.{Local, listed, CoreBody, locals_of}
use Rattle.hv_decls.specs.Sites.{Part, ExprPart, CallPart, PlacePart, StmtPart, TestPart, Site, sites_of, decl_bodies, bodies_of}
use Rattle.hv_type_rules.specs.Names.{decl_name, field_name, local_name, Named, Repeats, SharesName, ViolatesN1, top_level, of_fields, in_body, shared, names_in, names_of, names_in_all, param_type, field_type, types_of_decl, types_of_stmt, types_of_expr, types_of, used_by_expr, used_by_stmt, used_by, captured_by_expr, captured_by, ViolatesN2, in_decl as in_declaration, in_type, as_used, as_captured, IsViolatedByNames}
use Rattle.hv_type_rules.specs.TypeRules.{IsViolatedByTypes, at_part, at_struct}
use Rattle.hv_law_places.specs.Places.{in_ty, in_tys, in_result, in_names, in_params, in_expr, in_steps, in_call, in_block, in_branches, in_stmt, in_fields, in_decl, in_decls, places_of, IsIn}
use Rattle.hv_lemmas.proofs.Each.{Each, each_split, each_join, each_at, each_contained}
use Rattle.hv_law_places.proofs.SitesTell.{PartTells, SiteTells, LocalTells, BodyTells, decl_bodies_tell, bodies_tell, sites_tell}
use Rattle.hv_law_places.proofs.TypesTell.{part_violated}

module _ (P : Place → Type 0) where
  abbrev NameTells : Name → Type 0
  NameTells name = P name.place

  abbrev TyTells : CoreTy → Type 0
  TyTells t = Each P (in_ty t)

  abbrev DeclTells : CoreDecl → Type 0
  DeclTells d = Each P (in_decl d)

  -- ---- names of declarations, fields and locals

  decls_tell : (decls : List CoreDecl) → Each P (in_decls decls) → Each DeclTells decls
  decls_tell [] h = tt
  decls_tell (d ∷ decls) h = let q = each_split P (in_decl d) (in_decls decls) h in (q.0, decls_tell decls q.1)

  decl_named : (d : CoreDecl) → DeclTells d → NameTells (decl_name d)
  decl_named (StructOf s) h = h.0
  decl_named (FunOf f) h = h.0

  decls_named : (decls : List CoreDecl) → Each DeclTells decls → Each NameTells (map decl_name decls)
  decls_named [] h = tt
  decls_named (d ∷ decls) h = (decl_named d h.0, decls_named decls h.1)

  fields_named : (fields : List CoreField) → Each P (in_fields fields) → Each NameTells (map field_name fields)
  fields_named [] h = tt
  fields_named (f ∷ fields) h = (h.0, fields_named fields (each_split P (in_ty f.ty) (in_fields fields) h.1).1)

  locals_named : (locals : List Local) → Each (LocalTells P) locals → Each NameTells (map local_name locals)
  locals_named [] h = tt
  locals_named (l ∷ locals) h = (h.0, locals_named locals h.1)

  -- ---- N1

  module _ (place : Place) where
    at_name : (name : Name) → NameTells name → name.place ≡ place → P place
    at_name name h e = subst P e h

    at_repeat : (names : List Name) → Each NameTells names → Repeats names place → P place
    at_repeat names h r =
        at_name r.again (each_split NameTells r.before (r.again ∷ r.after) (subst (Each NameTells) r.is h)).1.0 r.at

    module _ (tree : Core) (all : Each P (places_of tree)) where
      at_shared : SharesName tree place → P place
      at_shared s = by (each_split DeclTells s.before (s.decl ∷ s.after) (subst (Each DeclTells) s.is (decls_tell tree.decls all))).1 s.later
        where
          by : Each DeclTells (s.decl ∷ s.after) → (Named (map decl_name (s.before ++ s.decl ∷ [])) s.local.name.text × (s.local.name.place ≡ place)) ⊎
              ((n : Name) × Contains (map decl_name s.after) n × (n.text ≡ s.local.name.text) × (n.place ≡ place)) → P place
          by h (inl e) =
              subst P e.1 (each_at (LocalTells P) (locals_of s.body) s.local
              (each_at (BodyTells P) (decl_bodies (s.decl ∷ [])) s.body (decl_bodies_tell P (s.decl ∷ []) (each_join P (in_decl s.decl) [] h.0 tt)) s.of).0 s.declared)
          by h (inr e) = at_name e.0 (each_at NameTells (map decl_name s.after) e.0 (decls_named s.after h.1) e.1) e.3

      at_n1 : ViolatesN1 tree place → P place
      at_n1 (top_level r) = at_repeat (map decl_name tree.decls) (decls_named tree.decls (decls_tell tree.decls all)) r
      at_n1 (of_fields s i r) = at_repeat (map field_name s.fields) (fields_named s.fields (each_at DeclTells tree.decls (StructOf s) (decls_tell tree.decls all) i).1) r
      at_n1 (in_body body i r) =
          at_repeat (map local_name (locals_of body)) (locals_named (locals_of body) (each_at (BodyTells P) (bodies_of tree) body (bodies_tell P tree all) i).0) r
      at_n1 (shared s) = at_shared s

  -- ---- names in types

  mutual
    ty_named : (t : CoreTy) → TyTells t → Each NameTells (names_in t)
    ty_named (IntTy at) h = tt
    ty_named (BoolTy at) h = tt
    ty_named (NamedTy name) h = (h.0, tt)
    ty_named (ArrayTy at element) h = ty_named element h.1
    ty_named (FunTy at params) h = tys_named params h.1
    ty_named (FunToTy at params result) h =
        let q = each_split P (in_tys params) (in_ty result) h.1 in each_join NameTells (names_of params) (names_in result) (tys_named params q.0) (ty_named result q.1)

    tys_named : (ts : CoreTys) → Each P (in_tys ts) → Each NameTells (names_of ts)
    tys_named NoTys h = tt
    tys_named (TyOf c t rest) h =
        let q = each_split P (in_ty t) (in_tys rest) h in each_join NameTells (names_in t) (names_of rest) (ty_named t q.0) (tys_named rest q.1)

  all_named : (ts : List CoreTy) → Each TyTells ts → Each NameTells (names_in_all ts)
  all_named [] h = tt
  all_named (t ∷ ts) h = each_join NameTells (names_in t) (names_in_all ts) (ty_named t h.0) (all_named ts h.1)

  params_typed : (params : List CoreParam) → Each P (in_params params) → Each TyTells (map param_type params)
  params_typed [] h = tt
  params_typed (p ∷ params) h = let q = each_split P (in_ty p.ty) (in_params params) h.1 in (q.0, params_typed params q.1)

  fields_typed : (fields : List CoreField) → Each P (in_fields fields) → Each TyTells (map field_type fields)
  fields_typed [] h = tt
  fields_typed (f ∷ fields) h = let q = each_split P (in_ty f.ty) (in_fields fields) h.1 in (q.0, fields_typed fields q.1)

  result_typed : (t : Option CoreTy) → Each P (in_result t) → Each TyTells (listed t)
  result_typed None h = tt
  result_typed (Some t) h = (h, tt)

  -- the types of parameters and of a result, before other places
  signature_typed : (params : List CoreParam) (result : Option CoreTy) (rest : List Place) → Each P (in_params params ++ (in_result result ++ rest)) → Each TyTells (map param_type params ++ listed result)
  signature_typed params result rest h =
      let q = each_split P (in_params params) (in_result result ++ rest) h in
      each_join TyTells (map param_type params) (listed result) (params_typed params q.0) (result_typed result (each_split P (in_result result) rest q.1).0)

  decl_typed : (d : CoreDecl) → DeclTells d → Each TyTells (types_of_decl d)
  decl_typed (StructOf s) h = fields_typed s.fields h.1
  decl_typed (FunOf f) h = signature_typed f.params f.result (in_block f.body) h.1

  expr_typed : (x : CoreExpr) → Each P (in_expr x) → Each TyTells (types_of_expr x)
  expr_typed (Lambda at captures params result body) h =
      signature_typed params result (in_block body) (each_split P (in_names captures) (in_params params ++ (in_result result ++ in_block body)) h.1).1
  expr_typed (Number at z) h = tt
  expr_typed (Truth at b) h = tt
  expr_typed (Path at root steps) h = tt
  expr_typed (Calls at call) h = tt
  expr_typed (Awaits at name) h = tt
  expr_typed (Array at xs) h = tt
  expr_typed (Filled at len value) h = tt
  expr_typed (Count at root steps) h = tt
  expr_typed (Prefix at o x) h = tt
  expr_typed (Chain at x links) h = tt

  stmt_typed : (x : CoreStmt) → Each P (in_stmt x) → Each TyTells (types_of_stmt x)
  stmt_typed (Var at name t) h = (h.1.1, tt)
  stmt_typed (VarWith at name t x) h = ((each_split P (in_ty t) (in_expr x) h.1.1).0, tt)
  stmt_typed (Let at name t x) h = ((each_split P (in_ty t) (in_expr x) h.1.1).0, tt)
  stmt_typed (Inout at name t root steps) h = ((each_split P (in_ty t) (root.place ∷ in_steps steps) h.1.1).0, tt)
  stmt_typed (Task at name t spawn budget call) h = result_typed t (each_split P (in_result t) (spawn ∷ (in_expr budget ++ in_call call)) h.1.1).0
  stmt_typed (Assign at root steps x) h = tt
  stmt_typed (If at branches) h = tt
  stmt_typed (While at test body) h = tt
  stmt_typed (Return at) h = tt
  stmt_typed (ReturnWith at x) h = tt
  stmt_typed (Print at x) h = tt
  stmt_typed (AwaitsAlone at name) h = tt
  stmt_typed (CallsAlone at call) h = tt
  stmt_typed (Bare at block) h = tt

  part_typed : (p : Part) → PartTells P p → Each TyTells (types_of p)
  part_typed (ExprPart x) h = expr_typed x h
  part_typed (CallPart call) h = tt
  part_typed (PlacePart root steps) h = tt
  part_typed (StmtPart x) h = stmt_typed x h
  part_typed (TestPart x) h = tt

  -- ---- names in use

  expr_used : (x : CoreExpr) → Each P (in_expr x) → Each NameTells (used_by_expr x)
  expr_used (Awaits at name) h = (h.1.0, tt)
  expr_used (Number at z) h = tt
  expr_used (Truth at b) h = tt
  expr_used (Path at root steps) h = tt
  expr_used (Calls at call) h = tt
  expr_used (Array at xs) h = tt
  expr_used (Filled at len value) h = tt
  expr_used (Count at root steps) h = tt
  expr_used (Lambda at captures params result body) h = tt
  expr_used (Prefix at o x) h = tt
  expr_used (Chain at x links) h = tt

  stmt_used : (x : CoreStmt) → Each P (in_stmt x) → Each NameTells (used_by_stmt x)
  stmt_used (AwaitsAlone at name) h = (h.1.0, tt)
  stmt_used (Var at name t) h = tt
  stmt_used (VarWith at name t x) h = tt
  stmt_used (Let at name t x) h = tt
  stmt_used (Inout at name t root steps) h = tt
  stmt_used (Assign at root steps x) h = tt
  stmt_used (If at branches) h = tt
  stmt_used (While at test body) h = tt
  stmt_used (Return at) h = tt
  stmt_used (ReturnWith at x) h = tt
  stmt_used (Print at x) h = tt
  stmt_used (Task at name t spawn budget call) h = tt
  stmt_used (CallsAlone at call) h = tt
  stmt_used (Bare at block) h = tt

  part_used : (p : Part) → PartTells P p → Each NameTells (used_by p)
  part_used (ExprPart x) h = expr_used x h
  part_used (CallPart call) h = tt
  part_used (PlacePart root steps) h = (h.0, tt)
  part_used (StmtPart x) h = stmt_used x h
  part_used (TestPart x) h = tt

  names_tell : (names : List Name) → Each P (in_names names) → Each NameTells names
  names_tell [] h = tt
  names_tell (name ∷ names) h = (h.0, names_tell names h.1)

  expr_captured : (x : CoreExpr) → Each P (in_expr x) → Each NameTells (captured_by_expr x)
  expr_captured (Lambda at captures params result body) h = names_tell captures (each_split P (in_names captures) (in_params params ++ (in_result result ++ in_block body)) h.1).0
  expr_captured (Number at z) h = tt
  expr_captured (Truth at b) h = tt
  expr_captured (Path at root steps) h = tt
  expr_captured (Calls at call) h = tt
  expr_captured (Awaits at name) h = tt
  expr_captured (Array at xs) h = tt
  expr_captured (Filled at len value) h = tt
  expr_captured (Count at root steps) h = tt
  expr_captured (Prefix at o x) h = tt
  expr_captured (Chain at x links) h = tt

  part_captured : (p : Part) → PartTells P p → Each NameTells (captured_by p)
  part_captured (ExprPart x) h = expr_captured x h
  part_captured (CallPart call) h = tt
  part_captured (PlacePart root steps) h = tt
  part_captured (StmtPart x) h = tt
  part_captured (TestPart x) h = tt

  -- ---- the rules

  module _ (place : Place) (tree : Core) (all : Each P (places_of tree)) where
    at_site : (w : Site) → Contains (sites_of tree) w → PartTells P w.part
    at_site w i = each_at (SiteTells P) (sites_of tree) w (sites_tell P tree all) i

    at_n2 : ViolatesN2 tree place → P place
    at_n2 (in_declaration d n i j e at) =
        at_name place n (each_at NameTells (names_in_all (types_of_decl d)) n (all_named (types_of_decl d) (decl_typed d (each_at DeclTells tree.decls d (decls_tell tree.decls all) i))) j) at
    at_n2 (in_type w n i j e at) = at_name place n (each_at NameTells (names_in_all (types_of w.part)) n (all_named (types_of w.part) (part_typed w.part (at_site w i))) j) at
    at_n2 (as_used w n i j e at) = at_name place n (each_at NameTells (used_by w.part) n (part_used w.part (at_site w i)) j) at
    at_n2 (as_captured w n i j e at) = at_name place n (each_at NameTells (captured_by w.part) n (part_captured w.part (at_site w i)) j) at

    at_types : (r : Rule) → IsViolatedByTypes tree r place → P place
    at_types r (at_part w i v) = part_violated P tree w.scope place r w.part (at_site w i) v
    at_types r (at_struct e v) = subst P v.2 (each_at DeclTells tree.decls (StructOf v.0) (decls_tell tree.decls all) v.1).0

pub types_tell : (tree : Core) (r : Rule) (place : Place) → IsViolatedByTypes tree r place → IsIn place tree
types_tell tree r place v = at_types (Contains (places_of tree)) place tree (each_contained (places_of tree)) r v

pub names_tell_or_begin : (tree : Core) (r : Rule) (place : Place) → IsViolatedByNames tree r place → IsIn place tree ⊎ ((r ≡ rule.N3) × (place.start ≡ 0))
names_tell_or_begin tree rule.N1 place v = inl (at_n1 (Contains (places_of tree)) place tree (each_contained (places_of tree)) v)
names_tell_or_begin tree rule.N2 place v = inl (at_n2 (Contains (places_of tree)) place tree (each_contained (places_of tree)) v)
names_tell_or_begin tree rule.N3 place v = inr (refl, v.1)
names_tell_or_begin tree rule.L0 place v = absurd v
names_tell_or_begin tree rule.L1 place v = absurd v
names_tell_or_begin tree rule.L2 place v = absurd v
names_tell_or_begin tree rule.L3 place v = absurd v
names_tell_or_begin tree rule.P1 place v = absurd v
names_tell_or_begin tree rule.P2 place v = absurd v
names_tell_or_begin tree rule.T1 place v = absurd v
names_tell_or_begin tree rule.T2 place v = absurd v
names_tell_or_begin tree rule.T3 place v = absurd v
names_tell_or_begin tree rule.T4 place v = absurd v
names_tell_or_begin tree rule.T5 place v = absurd v
names_tell_or_begin tree rule.T6 place v = absurd v
names_tell_or_begin tree rule.T7 place v = absurd v
names_tell_or_begin tree rule.T8 place v = absurd v
names_tell_or_begin tree rule.T9 place v = absurd v
names_tell_or_begin tree rule.I1 place v = absurd v
names_tell_or_begin tree rule.I2 place v = absurd v
names_tell_or_begin tree rule.I3 place v = absurd v
names_tell_or_begin tree rule.X1 place v = absurd v
names_tell_or_begin tree rule.X2 place v = absurd v
names_tell_or_begin tree rule.S1 place v = absurd v
names_tell_or_begin tree rule.S2 place v = absurd v
names_tell_or_begin tree rule.S3 place v = absurd v
