use Rattle.std.proofs.Common.{◌≡◌, [], ◌++◌, drop, map}
use Rattle.hv_tree.specs.Core.{core_decl}
use Rattle.hv_type_names.specs.Found as spec
use Rattle.hv_type_names.proofs.decls.survey.Given as goal

abbrev pub invariant-loop-decl : goal.invariant-loop-decl
invariant-loop-decl l = let left = map core_decl (drop l.decl-index l.decls) in let all = map core_decl l.fn.decls in
    (l.found.items ++ spec.repeats_found l.tops (spec.decl_names left) ≡ l.fn.found.items ++ spec.repeats_found [] (spec.decl_names all))
    × (l.tops ++ spec.texts_of (spec.decl_names left) ≡ spec.texts_of (spec.decl_names all))
    × (l.places ++ map spec.place_of (spec.decl_names left) ≡ map spec.place_of (spec.decl_names all))
    × (l.structs ++ spec.struct_texts left ≡ spec.struct_texts all)
