use Rattle.std.proofs.lemmas.Result.{IfOk-weaker}
use Rattle.hv_tree.specs.Core.{core_tree}
use Rattle.hv_types.proofs.Held.{names_found}
use Rattle.hv_types.proofs.phases.holding_names.Goals as goal

pub returns : goal.returns
returns c =
    IfOk-weaker c.names_of.result _ _ (λ names e. names_found (core_tree c.args.declared.now) c.args.rows.now c.in_ok-numbers.numbers _ names c.requires.rows c.in_ok-numbers.ensures c.as_slice.ensures e)
    c.names_of.ensures
