use Rattle.std.proofs.Common.{◌≡◌, ◌-◌, ◌<◌, map, Some, None, sym, ap, ◌∙◌, arith, rules}
use Rattle.std.specs.Option.{option_copied}
use Rattle.hv_tree.specs.Core.{core_tree}
use Rattle.hv_decls.specs.Types.{struct_in}
use Rattle.hv_value.specs.Holes.{fields_or_hole}
use Rattle.hv_value.specs.ValueTree.{row}
use Rattle.hv_partial.specs.HeldTree.{held_tree}
use Rattle.hv_scope.specs.Known.{option_struct, core_struct}
use Rattle.hv_eval_blocks.specs.Hollows.{hollow_field}
use Rattle.hv_eval_blocks.proofs.HollowLemmas.{named_none, named_some, others}
use Rattle.hv_eval_blocks.proofs.hollow.+holes.Goals as goal

pub holes_within-returns-in_ok-parts-in-Some : goal.holes_within-returns-in_ok-parts-in-Some
holes_within-returns-in_ok-parts-in-Some t c =
    let tree = core_tree c.args.declared.now in
    let s = c.in-Some.found.now in
    let found : struct_in tree.decls c.in-Named.name.text ≡ Some (core_struct s) =
    sym (sym (ap (λ o. option_struct (option_copied o)) c.in-Some.is) ∙ c.find_struct.ensures ∙ ap (struct_in tree.decls) c.as_str.ensures) in
    let parts : map held_tree c.in_ok-parts-in-Some.parts ≡ map (hollow_field tree (c.args.depth - 1)) s.fields =
    c.in_ok-parts-in-Some.ensures ∙ ap (map (hollow_field tree (c.args.depth - 1))) c.as_slice.ensures in
    c.struct_or_hole.ensures ∙ ap (λ ts. fields_or_hole (row ts)) parts ∙ named_some tree c.args.depth c.args.ty.now c.in-Named.name s (omega arith) c.in-Named.is found

pub holes_within-returns-in-None : goal.holes_within-returns-in-None
holes_within-returns-in-None t c =
    let tree = core_tree c.args.declared.now in
    let found : struct_in tree.decls c.in-Named.name.text ≡ None =
    sym (sym (ap (λ o. option_struct (option_copied o)) c.in-None.is) ∙ c.find_struct.ensures ∙ ap (struct_in tree.decls) c.as_str.ensures) in
    named_none tree c.args.depth c.args.ty.now c.in-Named.name (omega arith) c.in-Named.is found

pub holes_within-returns-in_default : goal.holes_within-returns-in_default
holes_within-returns-in_default t c = others (core_tree c.args.declared.now) c.args.depth c.args.ty.now (omega arith) c.in_default.not-Named
