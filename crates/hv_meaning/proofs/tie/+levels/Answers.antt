use Rattle.std.proofs.Common.{◌≡◌, ◌-◌, ◌<◌, length, map, sym, ap, ◌∙◌, arith}
use Rattle.std.proofs.lemmas.Bool.{eqb-true}
use Rattle.std.proofs.lemmas.List.{length-map}
use Rattle.hv_tree.specs.Core.{core_tree}
use Rattle.hv_scope.specs.Known.{local_by}
use Rattle.hv_scope.specs.Bodies.{body_by}
use Rattle.hv_meaning.proofs.DepthLemmas.{no_deeper, no_body, body_halts, body_ends}
use Rattle.hv_meaning.proofs.tie.+levels.Goals as goal

pub body_at-returns-then-level-eq0 : goal.body_at-returns-then-level-eq0
body_at-returns-then-level-eq0 t c = λ n other. no_deeper (core_tree c.args.level.program.now) c.args.level.left c.args.f n c.args.task.now (omega (arith, c.if-level-eq0.true))

pub body_at-returns-in_default : goal.body_at-returns-in_default
body_at-returns-in_default t c = λ n other. no_body (core_tree c.args.level.program.now) c.args.level.left c.args.f n c.args.task.now (omega (arith, c.if-level-eq0.false)) c.in_default.ensures.body

pub body_at-returns-in-Err : goal.body_at-returns-in-Err
body_at-returns-in-Err t c =
    let scoped = c.in-Some.scoped.now in
    let size : length c.as_slice-used.result.now ≡ length (map local_by scoped.locals) = ap length c.as_slice-used.ensures ∙ sym (length-map scoped.locals local_by) in
    λ n. body_halts (core_tree c.args.level.program.now) c.args.level.left c.args.f n (length c.as_slice-used.result.now) (body_by scoped.body) (map local_by scoped.locals) c.args.task.now c.block_to.new.task (omega (arith, c.if-level-eq0.false)) c.in-Some.ensures.body c.in-Some.ensures.locals size c.in-Err.halt c.in-Err.ensures

pub body_at-returns-in-Ok : goal.body_at-returns-in-Ok
body_at-returns-in-Ok t c =
    let scoped = c.in-Some.scoped.now in
    let used = length c.as_slice-used.result.now in
    let size : length c.as_slice-used.result.now ≡ length (map local_by scoped.locals) = ap length c.as_slice-used.ensures ∙ sym (length-map scoped.locals local_by) in
    λ n. body_ends (core_tree c.args.level.program.now) c.args.level.left c.args.f n used (body_by scoped.body) (map local_by scoped.locals) c.args.task.now c.block_to.new.task (omega (arith, c.if-level-eq0.false)) c.in-Some.ensures.body c.in-Some.ensures.locals size c.in-Ok.flow c.ended.result c.block_to.new.task c.in-Ok.ensures (c.ended.ensures used)
