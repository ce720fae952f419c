use Rattle.std.proofs.Common.{sym, subst}
use Rattle.hv_sem_flat.specs.Accesses.{Plain}
use Rattle.hv_sem_flat.specs.Parts.{Went}
use Rattle.hv_eval_state.specs.Gives.{Gives, from}
use Rattle.hv_eval_blocks.specs.Statements.{went_of}
use Rattle.hv_eval_blocks.proofs.BindingLemmas.{var_holes}
use Rattle.hv_eval_blocks.proofs.stmts.Stmts.var.Goals as goal

pub returns-in-None : goal.returns-in-None
returns-in-None g c =
    subst (λ (p : Plain Went). Gives went_of (from p c.args.used c.args.task.now) c.hollow.result c.hollow.new.task) (sym (var_holes c.args.self.now.parts.level c.args.name.now c.args.ty.now c.args.value.now c.in-None.is)) (c.hollow.ensures c.args.used)
