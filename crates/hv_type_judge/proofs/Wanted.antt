-- What arguments are for, one after the other, and how many there are.
use Rattle.std.proofs.Common.{◌≡◌, ℕ, suc, List, [], ◌∷◌, length, drop, map, Option, Some, None, refl, sym, ap, ◌∙◌}
use Rattle.std.specs.Borrow.{Bor}
use Rattle.hv_tree.specs.declared.types.Conv.{Conv}
use Rattle.hv_tree.specs.declared.types.Ty.{Ty}
use Rattle.hv_tree.specs.declared.ast.Param.{Param}
use Rattle.hv_tree.specs.declared.ast.Field.{Field}
use Rattle.hv_tree.specs.Core.{core_param, core_field}
use Rattle.hv_decls.specs.Types.{params_of}
use Rattle.hv_type_rules.specs.Typing.{Wanted, wanted_params, wanted_field}
use Rattle.hv_type_synth.specs.declared.types.Wants.{Wants}
use Rattle.hv_type_synth.specs.Held.{wants_by, wanted_next, pairs_by}

pub others_none : (w : Wants) → wanted_next None ≡ wants_by w → wants_by w ≡ drop 1 (wants_by w)
others_none w e = sym e ∙ ap (drop 1) e

pub others_some : (w rest : Wants) (c : Option Conv) (t : Bor Ty) → wanted_next (Some (c, t, rest)) ≡ wants_by w → wants_by rest ≡ drop 1 (wants_by w)
others_some w rest c t e = ap (drop 1) e

pub fields_counted : (fs : List Field) → length (map wanted_field (map core_field fs)) ≡ length fs
fields_counted [] = refl
fields_counted (f ∷ fs) = ap suc (fields_counted fs)

pub params_counted : (ps : List Param) → length (wanted_params (params_of (map core_param ps))) ≡ length ps
params_counted [] = refl
params_counted (p ∷ ps) = ap suc (params_counted ps)

pub types_counted : (ts : List (Conv × Ty)) → length (wanted_params (pairs_by ts)) ≡ length ts
types_counted [] = refl
types_counted (t ∷ ts) = ap suc (types_counted ts)
