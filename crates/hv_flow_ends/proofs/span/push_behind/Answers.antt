use Rattle.std.proofs.Common.{ℕ, ◌++◌, ◌∷◌, [], refl, ap, ◌∙◌}
use Rattle.std.proofs.lemmas.Result.{on_ok_weaker}
use Rattle.hv_flow_ends.specs.declared.span.Span.{Span}
use Rattle.hv_flow_ends.proofs.Spans.{grown, added}
use Rattle.hv_flow_ends.proofs.span.push_behind.Goals as goal

abbrev alone : ℕ → Span
alone n = record { first = n; count = 1 }

pub returns-in_ok-count : goal.returns-in_ok-count
returns-in_ok-count c =
    on_ok_weaker c.push.result
    (λ e. grown c.args.spans.now c.push.new.self c.args.last _ c.args.number e refl c.in_ok-count.ensures (c.ends_before.ensures.0 c.if-ends_before.true))
    c.push.ensures.ok

pub returns-in_ok-push : goal.returns-in_ok-push
returns-in_ok-push c =
    on_ok_weaker c.push-else-ends_before-2.result
    (λ e. added (c.args.spans.now ++ c.args.last ∷ []) c.push-else-ends_before-2.new.self (alone c.args.number) c.args.number (e ∙ ap (λ l. l ++ alone c.args.number ∷ []) c.in_ok-push.ensures.ok) refl refl)
    c.push-else-ends_before-2.ensures.ok
