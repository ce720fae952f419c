-- A type that tokens of a lexer's spellings spell is proper, and so are names and parameters.
use Rattle.std.proofs.Common.{List, [], ◌∷◌, ◌++◌, map, Option, Some, None, codes, sym, ◌∙◌, ap, subst}
use Rattle.hv_tree.specs.declared.types.Name.{Name}
use Rattle.hv_tree.specs.declared.types.Conv.{Conv}
use Rattle.hv_tree.specs.declared.types.Ty.{Ty}
use Rattle.hv_tree.specs.declared.types.Ty.TheVariants as ty
use Rattle.hv_tree.specs.declared.ast.Param.{Param}
use Rattle.hv_tree.specs.Tokens.{Tokens, mark, IsName, Separated, one_part, more_parts}
use Rattle.hv_tree.specs.Types.{IsType, plain_type, function_type, IsResultType, int_type, bool_type, named_type, array_type, group_type, AreTypes, no_types, some_types, AreSomeTypes, one_type, more_types, IsResult, no_result, one_result, IsParam, is_param, AreParams, no_params, some_params, IsReturn, no_return, one_return}
use Rattle.hv_tree.specs.Grammar.{AreNames, no_names, some_names}
use Rattle.hv_tree.specs.Core.{core_ty, core_tys_of, core_option_ty, core_param}
use Rattle.hv_tree.proofs.CoreLemmas as lemmas
use Rattle.hv_print.specs.Spellings.{AreSpelled}
use Rattle.hv_print.proofs.Proper.{ProperNames, ProperTy, ProperTys, ProperResult, ProperParams}

pub spelled_parts : (a b : Tokens) → AreSpelled (a ++ b) → AreSpelled a × AreSpelled b
spelled_parts [] b s = (tt, s)
spelled_parts (k ∷ a) b s = let h = spelled_parts a b s.1 in ((s.0, h.0), h.1)

-- a list of types by its elements
abbrev tys_of : List (Conv × Ty) → Type 0
tys_of params = ProperTys (core_tys_of (map (λ (p : Conv × Ty). (p.0, core_ty p.1)) params))

mutual
  pub of_type : (t : Ty) (ts : Tokens) → IsType t ts → AreSpelled ts → ProperTy (core_ty t)
  of_type t ts (plain_type r) s = of_result_type t ts r s
  of_type t ts (function_type fun left right params result a b ps r is e) s =
      let q = spelled_parts a (mark (codes ")") right ∷ b) (subst AreSpelled e s).1.1 in
      let h = of_types params a ps q.0 in
      let k = of_result result b r q.1.1 in
      subst (λ t. ProperTy (core_ty t)) (sym is) (by_result fun params result h k)
    where
      by_result : (at : _) (params : List (Conv × Ty)) (result : Option Ty) → tys_of params → ProperResult (core_option_ty result) → ProperTy (core_ty (ty.Fun at params result))
      by_result at params None h k = subst ProperTy (sym (lemmas.ty_fun at params)) h
      by_result at params (Some t) h k = subst ProperTy (sym (lemmas.ty_fun_to at params t)) (h, k)

  of_result_type : (t : Ty) (ts : Tokens) → IsResultType t ts → AreSpelled ts → ProperTy (core_ty t)
  of_result_type t ts (int_type at is e) s = subst ProperTy (sym (ap core_ty is ∙ lemmas.ty_int at)) tt
  of_result_type t ts (bool_type at is e) s = subst ProperTy (sym (ap core_ty is ∙ lemmas.ty_bool at)) tt
  of_result_type t ts (named_type name is e) s = subst ProperTy (sym (ap core_ty is ∙ lemmas.ty_named name)) (subst AreSpelled e s).0
  of_result_type t ts (array_type left right element a h is e) s =
      subst ProperTy (sym (ap core_ty is ∙ lemmas.ty_array left element)) (of_type element a h (spelled_parts a (mark (codes "]") right ∷ []) (subst AreSpelled e s).1).0)
  of_result_type t ts (group_type left right a h e) s = of_type t a h (spelled_parts a (mark (codes ")") right ∷ []) (subst AreSpelled e s).1).0

  of_types : (params : List (Conv × Ty)) (ts : Tokens) → AreTypes params ts → AreSpelled ts → tys_of params
  of_types params ts (no_types is e) s = subst tys_of (sym is) tt
  of_types params ts (some_types h) s = of_some_types params ts h s

  of_some_types : (params : List (Conv × Ty)) (ts : Tokens) → AreSomeTypes params ts → AreSpelled ts → tys_of params
  of_some_types params ts (one_type c t a b k h is e) s = subst tys_of (sym is) (of_type t b h (spelled_parts a b (subst AreSpelled e s)).1, tt)
  of_some_types params ts (more_types c t a b comma rest d k h m is e) s =
      let q = (spelled_parts a (b ++ mark (codes ",") comma ∷ d) (subst AreSpelled e s)).1 in
      let r = spelled_parts b (mark (codes ",") comma ∷ d) q in
      subst tys_of (sym is) (of_type t b h r.0, of_some_types rest d m r.1.1)

  of_result : (result : Option Ty) (ts : Tokens) → IsResult result ts → AreSpelled ts → ProperResult (core_option_ty result)
  of_result result ts (no_result is e) s = subst (λ r. ProperResult (core_option_ty r)) (sym is) tt
  of_result result ts (one_result arrow t a h is e) s = subst (λ r. ProperResult (core_option_ty r)) (sym is) (of_result_type t a h (subst AreSpelled e s).1)

pub of_return : (result : Option Ty) (ts : Tokens) → IsReturn result ts → AreSpelled ts → ProperResult (core_option_ty result)
of_return result ts (no_return is e) s = subst (λ r. ProperResult (core_option_ty r)) (sym is) tt
of_return result ts (one_return arrow t a h is e) s = subst (λ r. ProperResult (core_option_ty r)) (sym is) (of_type t a h (subst AreSpelled e s).1)

abbrev params_of : List Param → Type 0
params_of params = ProperParams (map core_param params)

of_param : (p : Param) (rest : List Param) (ts : Tokens) → IsParam p ts → AreSpelled ts → params_of rest → params_of (p ∷ rest)
of_param p rest ts (is_param name colon c t a b k h is e) s more =
    let q = subst AreSpelled e s in
    subst (λ p. params_of (p ∷ rest)) (sym is) (q.0, of_type t b h (spelled_parts a b q.1.1).1, more)

some_params_of : (ps : List Param) (ts : Tokens) → Separated IsParam ps ts → AreSpelled ts → params_of ps
some_params_of ps ts (one_part p h is) s = subst params_of (sym is) (of_param p [] ts h s tt)
some_params_of ps ts (more_parts p a comma rest b h m is e) s =
    let q = spelled_parts a (mark (codes ",") comma ∷ b) (subst AreSpelled e s) in
    subst params_of (sym is) (of_param p rest a h q.0 (some_params_of rest b m q.1.1))

pub of_params : (ps : List Param) (ts : Tokens) → AreParams ps ts → AreSpelled ts → ProperParams (map core_param ps)
of_params ps ts (no_params is e) s = subst params_of (sym is) tt
of_params ps ts (some_params h) s = some_params_of ps ts h s

some_names_of : (ns : List Name) (ts : Tokens) → Separated IsName ns ts → AreSpelled ts → ProperNames ns
some_names_of ns ts (one_part n h is) s = subst ProperNames (sym is) ((subst AreSpelled h.is s).0, tt)
some_names_of ns ts (more_parts n a comma rest b h m is e) s =
    let q = spelled_parts a (mark (codes ",") comma ∷ b) (subst AreSpelled e s) in
    subst ProperNames (sym is) ((subst AreSpelled h.is q.0).0, some_names_of rest b m q.1.1)

pub of_names : (ns : List Name) (ts : Tokens) → AreNames ns ts → AreSpelled ts → ProperNames ns
of_names ns ts (no_names is e) s = subst ProperNames (sym is) tt
of_names ns ts (some_names h) s = some_names_of ns ts h s
