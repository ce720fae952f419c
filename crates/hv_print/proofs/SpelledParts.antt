-- The tokens of printed names, parameters and results spell them, places aside.
use Rattle.std.proofs.Common.{ℕ, ◌+◌, length, List, [], ◌∷◌, ◌++◌, map, Option, Some, None, codes, refl, sym, ap, ◌∙◌, append_assoc, append-nil}
use Rattle.hv_tree.specs.declared.types.Name.{Name}
use Rattle.hv_tree.specs.declared.types.Ty.{Ty}
use Rattle.hv_tree.specs.declared.ast.Param.{Param}
use Rattle.hv_tree.specs.Tokens.{mark, word, IsName, Separated, one_part, more_parts}
use Rattle.hv_tree.specs.Types.{IsParam, is_param, AreParams, no_params, some_params, IsReturn, no_return, one_return}
use Rattle.hv_tree.specs.Grammar.{AreNames, no_names, some_names, IsTaskType, no_task_type, one_task_type}
use Rattle.hv_tree.specs.Core.{CoreTy, CoreParam, core_option_ty, core_param}
use Rattle.hv_print.specs.Aside.{name_aside, result_aside, param_aside}
use Rattle.hv_print.specs.Pieces.{WordOf, here, placed, tokens_of, comma, names_pieces, conv_pieces, ty_pieces, params_pieces, return_pieces, handle_pieces}
use Rattle.hv_print.proofs.SpelledTypes.{Reads, behind, split, of_conv, of_ty}

-- ---- names

some_names_of : (at : ℕ) (n : Name) (more : List Name) → Reads (Separated IsName) (map name_aside) (tokens_of at (WordOf n ∷ names_pieces comma more)) (name_aside n ∷ map name_aside more)
some_names_of at n [] = record { tree = placed at n ∷ []; spelled = one_part (placed at n) (record { is = refl }) refl; same = refl }
some_names_of at n (n2 ∷ more) =
    let end = at + length n.text in
    let r = some_names_of (end + 1 + 1) n2 more in
    record {
      tree = placed at n ∷ r.tree;
      spelled = more_parts (placed at n) (word (placed at n) ∷ []) (here end) r.tree (tokens_of (end + 1 + 1) (WordOf n2 ∷ names_pieces comma more)) (record { is = refl }) r.spelled refl refl;
      same = ap (λ ns. name_aside n ∷ ns) r.same;
    }

pub of_names : (at : ℕ) (ns : List Name) → Reads AreNames (map name_aside) (tokens_of at (names_pieces [] ns)) (map name_aside ns)
of_names at [] = record { tree = []; spelled = no_names refl refl; same = refl }
of_names at (n ∷ more) = let r = some_names_of at n more in record { tree = r.tree; spelled = some_names r.spelled; same = r.same }

-- ---- parameters

abbrev pub seen_params : List Param → List CoreParam
seen_params ps = map param_aside (map core_param ps)

-- the parameter with that type in place of its own
abbrev param_of : CoreParam → CoreTy → CoreParam
param_of p t = record { name = name_aside p.name; conv = p.conv; ty = t }

some_params_of : (at : ℕ) (p : CoreParam) (more : List CoreParam) →
    Reads (Separated IsParam) seen_params (tokens_of at (params_pieces [] (p ∷ more))) (param_aside p ∷ map param_aside more)
some_params_of at p [] =
    let a0 = at + length p.name.text + 1 + 1 in
    let a1 = behind a0 (conv_pieces p.conv) in
    let t = (of_ty a1 p.ty).any in
    let param : Param = record { name = placed at p.name; conv = p.conv; ty = t.tree } in
    record {
      tree = param ∷ [];
      spelled = one_part param
          (is_param (placed at p.name) (here (at + length p.name.text)) p.conv t.tree (tokens_of a0 (conv_pieces p.conv)) (tokens_of a1 (ty_pieces p.ty)) (of_conv a0 p.conv) t.spelled refl
          (ap (λ x. word (placed at p.name) ∷ mark (codes ":") (here (at + length p.name.text)) ∷ x)
          (split a0 (conv_pieces p.conv) (ty_pieces p.ty ++ []) ∙ ap (λ x. tokens_of a0 (conv_pieces p.conv) ++ tokens_of a1 x) (append-nil (ty_pieces p.ty))))) refl;
      same = ap (λ t. param_of p t ∷ []) t.same;
    }
some_params_of at p (p2 ∷ more) =
    let a0 = at + length p.name.text + 1 + 1 in
    let a1 = behind a0 (conv_pieces p.conv) in
    let a2 = behind a1 (ty_pieces p.ty) in
    let t = (of_ty a1 p.ty).any in
    let r = some_params_of (a2 + 1 + 1) p2 more in
    let c = tokens_of a0 (conv_pieces p.conv) in
    let b = tokens_of a1 (ty_pieces p.ty) in
    let rest = tokens_of (a2 + 1 + 1) (params_pieces [] (p2 ∷ more)) in
    let param : Param = record { name = placed at p.name; conv = p.conv; ty = t.tree } in
    record {
      tree = param ∷ r.tree;
      spelled = more_parts param (word (placed at p.name) ∷ mark (codes ":") (here (at + length p.name.text)) ∷ (c ++ b)) (here a2) r.tree rest
          (is_param (placed at p.name) (here (at + length p.name.text)) p.conv t.tree c b (of_conv a0 p.conv) t.spelled refl refl) r.spelled refl
          (ap (λ x. word (placed at p.name) ∷ mark (codes ":") (here (at + length p.name.text)) ∷ x)
          (split a0 (conv_pieces p.conv) _ ∙ ap (λ x. c ++ x) (split a1 (ty_pieces p.ty) _) ∙ sym (append_assoc c b (mark (codes ",") (here a2) ∷ rest))));
      same = ap (λ t. param_of p t ∷ seen_params r.tree) t.same ∙ ap (λ ps. param_aside p ∷ ps) r.same;
    }

pub of_params : (at : ℕ) (ps : List CoreParam) → Reads AreParams seen_params (tokens_of at (params_pieces [] ps)) (map param_aside ps)
of_params at [] = record { tree = []; spelled = no_params refl refl; same = refl }
of_params at (p ∷ more) = let r = some_params_of at p more in record { tree = r.tree; spelled = some_params r.spelled; same = r.same }

-- ---- results

abbrev pub seen_result : Option Ty → Option CoreTy
seen_result t = result_aside (core_option_ty t)

pub of_return : (at : ℕ) (t : Option CoreTy) → Reads IsReturn seen_result (tokens_of at (return_pieces t)) (result_aside t)
of_return at None = record { tree = None; spelled = no_return refl refl; same = refl }
of_return at (Some t) =
    let r = (of_ty (at + 1 + 2 + 1) t).any in
    record { tree = Some r.tree; spelled = one_return (here (at + 1)) r.tree _ r.spelled refl refl; same = ap (λ x. Some x) r.same }

pub of_handle : (at : ℕ) (t : Option CoreTy) → Reads IsTaskType seen_result (tokens_of at (handle_pieces t)) (result_aside t)
of_handle at None = record { tree = None; spelled = no_task_type refl refl; same = refl }
of_handle at (Some t) =
    let r = (of_ty (at + 1 + 1) t).any in
    record { tree = Some r.tree; spelled = one_task_type (here at) r.tree _ r.spelled refl refl; same = ap (λ x. Some x) r.same }
