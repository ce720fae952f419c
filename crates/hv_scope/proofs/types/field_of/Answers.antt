use Rattle.std.proofs.Common.{sym, ap, ◌∙◌}
use Rattle.hv_tree.specs.Core.{core_tree}
use Rattle.hv_decls.specs.Types.{field_from, fields_or_none, struct_in}
use Rattle.hv_scope.proofs.TypeLemmas.{field_named}
use Rattle.hv_scope.proofs.types.field_of.Goals as goal

pub returns-in-Named : goal.returns-in-Named
returns-in-Named c =
    c.find_field.ensures
    ∙ ap (λ t. field_from 0 (fields_or_none (struct_in (core_tree c.args.declared.now).decls t)) c.as_str-in-Named.result.now) c.as_str.ensures
    ∙ ap (λ t. field_from 0 (fields_or_none (struct_in (core_tree c.args.declared.now).decls c.in-Named.of.text)) t) c.as_str-in-Named.ensures
    ∙ sym (field_named (core_tree c.args.declared.now) c.args.name.now.text c.args.ty.now c.in-Named.of c.in-Named.is)
