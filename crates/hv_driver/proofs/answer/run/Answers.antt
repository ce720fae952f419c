use Rattle.std.proofs.Common.{refl}
use Rattle.hv_tree.specs.Core.{core_tree}
use Rattle.hv_law_safe.specs.Runs.{Runs}
use Rattle.hv_task_tree.specs.Seen.{node_seen}
use Rattle.hv_driver.specs.Answer.{unready, ran}
use Rattle.hv_driver.proofs.Ends.{not_runs, does_run}
use Rattle.hv_driver.proofs.answer.run.Goals as goal

pub returns-then-not-runs : goal.returns-then-not-runs
returns-then-not-runs c = λ asked e. unready c.args.tree.now c.args.steps c.args.trace c.requires.accepted e (not_runs c.runs.result (Runs (core_tree c.args.tree.now)) c.runs.ensures c.if-not-runs.true) refl c.in_ok-text.ensures.items

pub returns : goal.returns
returns c = λ asked e.
    ran c.args.tree.now c.args.steps c.args.trace (node_seen c.in_ok-node.node) c.requires.accepted e (does_run c.runs.result (Runs (core_tree c.args.tree.now)) c.runs.ensures c.if-not-runs.false) c.in_ok-node.ensures c.status_of.ensures c.in_ok-text-2.ensures

pub plain-requires : goal.plain-requires
plain-requires c = c.accepted_programs_are_safe.ensures c.args.source.now c.args.tree.now c.requires.accepted (does_run c.runs.result (Runs (core_tree c.args.tree.now)) c.runs.ensures c.if-not-runs.false)
