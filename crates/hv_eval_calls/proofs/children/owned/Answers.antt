use Rattle.std.proofs.Common.{option_map}
use Rattle.std.specs.Option.{option_copied}
use Rattle.hv_eval_operands.specs.Places.{found_by}
use Rattle.hv_eval_calls.proofs.ChildLemmas.{value_owned, ref_owned}
use Rattle.hv_eval_calls.proofs.children.owned.Goals as goal

pub returns-in-Value : goal.returns-in-Value
returns-in-Value g c =
    rw (value_owned c.args.parts.now.level c.args.conv c.args.arg.now c.in-Value.x (option_map (found_by c.args.parts.now.level) (option_copied c.place_in-place.result)) c.in-Value.is c.place_in-place.ensures) c.own_value.ensures

pub returns-in-Ref : goal.returns-in-Ref
returns-in-Ref g c = λ never.
    ref_owned c.args.parts.now.level c.args.conv c.args.arg.now c.in-Ref.field-0 c.in-Ref.field-1 c.args.used c.args.task.now c.in-Ref.is
