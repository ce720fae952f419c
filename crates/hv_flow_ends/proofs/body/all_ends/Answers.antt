use Rattle.std.proofs.Common.{List, ◌++◌, Bool, length, map, refl, ap, ◌∙◌}
use Rattle.hv_tree.specs.Core.{core_param}
use Rattle.hv_decls.specs.Locals.{param_local}
use Rattle.hv_scope.specs.Bodies.{body_by}
use Rattle.hv_scope.specs.Known.{local_by}
use Rattle.hv_flow_ends.specs.declared.span.Span.{Span}
use Rattle.hv_flow_ends.specs.declared.span.End.{End}
use Rattle.hv_flow_ends.specs.declared.walk.Opened.{Opened}
use Rattle.hv_flow_ends.specs.Walked.{known_back}
use Rattle.hv_flow_ends.proofs.Walks.{body_read}
use Rattle.hv_flow_ends.proofs.body.all_ends.Goals as goal

abbrev opened_with : List Span → List Span → Opened
opened_with back handles = record { back = back; handles = handles }

abbrev end_with : List Span → List Span → Bool → End
end_with back handles missing = record { back = back; handles = handles; missing = missing }

pub returns : goal.returns
returns c =
    body_read (body_by c.args.body.now) c.args.body.now.block.now c.as_slice-stmts.result.now (map local_by c.in_ok-known.known.items) c.in_ok-first.first c.new-around.result (opened_with c.in_ok-back.back c.in_ok-own_handles.field-0)
    c.new-ends.result c.walk_stmts.new.ends c.push.new.self (end_with c.in_ok-back-2.field-0.back c.in_ok-back-2.field-0.handles c.has_result.result) refl c.as_slice-stmts.ensures
    (c.in_ok-known.ensures ∙ ap (λ x. map local_by x ++ map param_local (map core_param c.args.body.now.params.now)) c.as_slice.ensures.value) (c.in_ok-first.ensures ∙ ap (λ x. length (map local_by x)) c.as_slice-2.ensures.value)
    c.new-around.ensures c.new-ends.ensures (c.in_ok-back.ensures ∙ ap (known_back 0) c.as_slice-3.ensures.value) c.in_ok-own_handles.ensures c.in_ok-back-2.ensures.ends c.in_ok-back-2.ensures.back c.in_ok-back-2.ensures.handles c.has_result.ensures
    c.in_ok-push.ensures.ok
