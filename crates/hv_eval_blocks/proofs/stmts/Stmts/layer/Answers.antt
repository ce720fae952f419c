use Rattle.std.proofs.Common.{[], rules, refl, sym, subst}
use Rattle.hv_sem_copying.specs.Run.{Res, Now, Flow}
use Rattle.hv_sem_copying.specs.Copying.{Locals}
use Rattle.hv_sem_flat.specs.Accesses.{shut}
use Rattle.hv_eval_state.specs.Gives.{Gives}
use Rattle.hv_eval_env.specs.Level.{block_in, flow_of}
use Rattle.hv_eval_operands.proofs.Runs.{goes, ends}
use Rattle.hv_eval_blocks.specs.Statements.{ended_of, statements_in}
use Rattle.hv_eval_blocks.proofs.BlockLemmas.{block_first}
use Rattle.hv_eval_blocks.proofs.stmts.Stmts.layer.Goals as goal

pub returns-in_err-ended : goal.returns-in_err-ended
returns-in_err-ended g c =
    let l = c.args.self.now.parts.level in
    let stmts = c.as_slice.result.now in
    ends (statements_in l stmts []) (λ r. shut r.1 r.0) (block_in l c.args.block.now) (block_in l c.args.block.now) c.args.used c.args.task.now c.args.task.now c.statements.new.task
    refl (block_first l c.args.block.now stmts c.as_slice.ensures)
    flow_of c.in_err-ended.field-0.0 c.from_residual.result (search rules) c.in_err-ended.ensures

pub returns : goal.returns
returns g c =
    let l = c.args.self.now.parts.level in
    let stmts = c.as_slice.result.now in
    subst (λ (r : Res (Now Locals × Flow)). Gives flow_of r c.shut.result c.shut.new.task)
    (sym (goes (statements_in l stmts []) (λ r. shut r.1 r.0) (block_in l c.args.block.now) (block_in l c.args.block.now) c.args.used c.args.task.now c.args.task.now c.statements.new.task
    refl (block_first l c.args.block.now stmts c.as_slice.ensures) (ended_of c.in_ok-ended.ended) c.in_ok-ended.ensures))
    (c.shut.ensures c.args.used)
