-- The places of types, names and parameters are those of tokens that spell them.
use Rattle.std.proofs.Common.{◌≡◌, List, [], ◌∷◌, ◌++◌, map, Option, Some, None, codes, sym, ◌∙◌, ap, subst}
use Rattle.hv_tree.specs.declared.place.Place.{Place}
use Rattle.hv_tree.specs.declared.token.Token.{Token}
use Rattle.hv_tree.specs.declared.types.Name.{Name}
use Rattle.hv_tree.specs.declared.types.Conv.{Conv}
use Rattle.hv_tree.specs.declared.types.Ty.{Ty}
use Rattle.hv_tree.specs.declared.types.Ty.TheVariants as ty
use Rattle.hv_tree.specs.declared.ast.Param.{Param}
use Rattle.hv_tree.specs.Tokens.{Tokens, mark, IsName, Separated, one_part, more_parts}
use Rattle.hv_tree.specs.Types.{IsType, plain_type, function_type, IsResultType, int_type, bool_type, named_type, array_type, group_type, AreTypes, no_types, some_types, AreSomeTypes, one_type, more_types, IsResult, no_result, one_result, IsParam, is_param, AreParams, no_params, some_params, IsReturn, no_return, one_return}
use Rattle.hv_tree.specs.Grammar.{AreNames, no_names, some_names, IsTaskType, no_task_type, one_task_type}
use Rattle.hv_tree.specs.Core.{core_ty, core_tys_of, core_option_ty, core_param}
use Rattle.hv_tree.proofs.CoreLemmas as lemmas
use Rattle.hv_law_places.specs.Places.{in_ty, in_tys, in_result, in_names, in_params}
use Rattle.hv_lemmas.proofs.Each.{Each, each_split, each_join}

module _ (P : Place → Type 0) where
  -- P holds of where the token stands
  abbrev pub At : Token → Type 0
  At k = P k.place

  -- P holds of where each token stands
  abbrev pub Ats : Tokens → Type 0
  Ats ts = Each At ts

  -- what is said of a type
  abbrev TySays : Ty → Type 0
  TySays t = Each P (in_ty (core_ty t))

  -- the same of a list of types
  abbrev TysSay : List (Conv × Ty) → Type 0
  TysSay params = Each P (in_tys (core_tys_of (map (λ (p : Conv × Ty). (p.0, core_ty p.1)) params)))

  abbrev ResultSays : Option Ty → Type 0
  ResultSays t = Each P (in_result (core_option_ty t))

  mutual
    pub of_type : (t : Ty) (ts : Tokens) → IsType t ts → Ats ts → TySays t
    of_type t ts (plain_type r) s = of_result_type t ts r s
    of_type t ts (function_type fun left right params result a b ps r is e) s =
        let o = subst Ats e s in
        let q = each_split At a (mark (codes ")") right ∷ b) o.1.1 in
        subst TySays (sym is) (by_result fun params result o.0 (of_types params a ps q.0) (of_result result b r q.1.1))
      where
        by_result : (at : Place) (params : List (Conv × Ty)) (result : Option Ty) → P at → TysSay params → ResultSays result → TySays (ty.Fun at params result)
        by_result at params None p h k = subst (λ t. Each P (in_ty t)) (sym (lemmas.ty_fun at params)) (p, h)
        by_result at params (Some t) p h k =
            subst (λ t. Each P (in_ty t)) (sym (lemmas.ty_fun_to at params t)) (p, each_join P (in_tys (core_tys_of (map (λ (p : Conv × Ty). (p.0, core_ty p.1)) params))) (in_ty (core_ty t)) h k)

    of_result_type : (t : Ty) (ts : Tokens) → IsResultType t ts → Ats ts → TySays t
    of_result_type t ts (int_type at is e) s = subst (λ t. Each P (in_ty t)) (sym (ap core_ty is ∙ lemmas.ty_int at)) (subst Ats e s)
    of_result_type t ts (bool_type at is e) s = subst (λ t. Each P (in_ty t)) (sym (ap core_ty is ∙ lemmas.ty_bool at)) (subst Ats e s)
    of_result_type t ts (named_type name is e) s = subst (λ t. Each P (in_ty t)) (sym (ap core_ty is ∙ lemmas.ty_named name)) (subst Ats e s)
    of_result_type t ts (array_type left right element a h is e) s =
        let o = subst Ats e s in
        subst (λ t. Each P (in_ty t)) (sym (ap core_ty is ∙ lemmas.ty_array left element)) (o.0, of_type element a h (each_split At a (mark (codes "]") right ∷ []) o.1).0)
    of_result_type t ts (group_type left right a h e) s = of_type t a h (each_split At a (mark (codes ")") right ∷ []) (subst Ats e s).1).0

    of_types : (params : List (Conv × Ty)) (ts : Tokens) → AreTypes params ts → Ats ts → TysSay params
    of_types params ts (no_types is e) s = subst TysSay (sym is) tt
    of_types params ts (some_types h) s = of_some_types params ts h s

    of_some_types : (params : List (Conv × Ty)) (ts : Tokens) → AreSomeTypes params ts → Ats ts → TysSay params
    of_some_types params ts (one_type c t a b k h is e) s =
        subst TysSay (sym is) (each_join P (in_ty (core_ty t)) [] (of_type t b h (each_split At a b (subst Ats e s)).1) tt)
    of_some_types params ts (more_types c t a b comma rest d k h m is e) s =
        let q = (each_split At a (b ++ mark (codes ",") comma ∷ d) (subst Ats e s)).1 in
        let r = each_split At b (mark (codes ",") comma ∷ d) q in
        subst TysSay (sym is) (each_join P (in_ty (core_ty t)) (in_tys (core_tys_of (map (λ (p : Conv × Ty). (p.0, core_ty p.1)) rest))) (of_type t b h r.0) (of_some_types rest d m r.1.1))

    of_result : (result : Option Ty) (ts : Tokens) → IsResult result ts → Ats ts → ResultSays result
    of_result result ts (no_result is e) s = subst ResultSays (sym is) tt
    of_result result ts (one_result arrow t a h is e) s = subst ResultSays (sym is) (of_result_type t a h (subst Ats e s).1)

  pub of_return : (result : Option Ty) (ts : Tokens) → IsReturn result ts → Ats ts → ResultSays result
  of_return result ts (no_return is e) s = subst ResultSays (sym is) tt
  of_return result ts (one_return arrow t a h is e) s = subst ResultSays (sym is) (of_type t a h (subst Ats e s).1)

  pub of_task_type : (result : Option Ty) (ts : Tokens) → IsTaskType result ts → Ats ts → ResultSays result
  of_task_type result ts (no_task_type is e) s = subst ResultSays (sym is) tt
  of_task_type result ts (one_task_type colon t a h is e) s = subst ResultSays (sym is) (of_type t a h (subst Ats e s).1)

  abbrev ParamsSay : List Param → Type 0
  ParamsSay params = Each P (in_params (map core_param params))

  of_param : (p : Param) (rest : List Param) (ts : Tokens) → IsParam p ts → Ats ts → ParamsSay rest → ParamsSay (p ∷ rest)
  of_param p rest ts (is_param name colon c t a b k h is e) s more =
      let o = subst Ats e s in
      subst (λ p. ParamsSay (p ∷ rest)) (sym is) (o.0, each_join P (in_ty (core_ty t)) (in_params (map core_param rest)) (of_type t b h (each_split At a b o.1.1).1) more)

  of_some_params : (ps : List Param) (ts : Tokens) → Separated IsParam ps ts → Ats ts → ParamsSay ps
  of_some_params ps ts (one_part p h is) s = subst ParamsSay (sym is) (of_param p [] ts h s tt)
  of_some_params ps ts (more_parts p a comma rest b h m is e) s =
      let q = each_split At a (mark (codes ",") comma ∷ b) (subst Ats e s) in
      subst ParamsSay (sym is) (of_param p rest a h q.0 (of_some_params rest b m q.1.1))

  pub of_params : (ps : List Param) (ts : Tokens) → AreParams ps ts → Ats ts → ParamsSay ps
  of_params ps ts (no_params is e) s = subst ParamsSay (sym is) tt
  of_params ps ts (some_params h) s = of_some_params ps ts h s

  abbrev NamesSay : List Name → Type 0
  NamesSay names = Each P (in_names names)

  of_some_names : (ns : List Name) (ts : Tokens) → Separated IsName ns ts → Ats ts → NamesSay ns
  of_some_names ns ts (one_part n h is) s = subst NamesSay (sym is) ((subst Ats h.is s).0, tt)
  of_some_names ns ts (more_parts n a comma rest b h m is e) s =
      let q = each_split At a (mark (codes ",") comma ∷ b) (subst Ats e s) in
      subst NamesSay (sym is) ((subst Ats h.is q.0).0, of_some_names rest b m q.1.1)

  pub of_names : (ns : List Name) (ts : Tokens) → AreNames ns ts → Ats ts → NamesSay ns
  of_names ns ts (no_names is e) s = subst NamesSay (sym is) tt
  of_names ns ts (some_names h) s = of_some_names ns ts h s
