use Rattle.std.proofs.Common.{map, ap, ◌∙◌}
use Rattle.hv_tree.specs.Core.{core_decl}
use Rattle.hv_type_names.specs.Found as spec
use Rattle.hv_type_names.proofs.Firsts.{found_first}
use Rattle.hv_type_names.proofs.phases.names.Goals as goal

pub returns : goal.returns
returns c = record {
  first = found_first (map core_decl c.args.tree.now.decls) c.as_slice-2.result.now c.first.result
      (c.as_slice-2.ensures.value ∙ c.in_ok-found.ensures ∙ ap (λ ds. spec.all_found (map core_decl ds)) c.as_slice.ensures) c.first.ensures;
}
