use Rattle.std.proofs.Common.{◌≡◌, Some, rules, sym}
use Rattle.hv_tree.specs.Core.{core_of}
use Rattle.hv_eval_env.specs.Level.{value_in}
use Rattle.hv_eval_operands.specs.Places.{found_by}
use Rattle.hv_eval_calls.specs.Calling.{place_of}
use Rattle.hv_eval_calls.proofs.arguments.value_argument.Goals as goal

pub returns-in-Some : goal.returns-in-Some
returns-in-Some g c =
    let k : Some (found_by c.args.parts.now.level c.in-Some.place.now) ≡ place_of c.args.parts.now.level (core_of c.args.x.now) = search rules in
    rw (sym k) (c.placed_argument.ensures (value_in c.args.parts.now.level c.args.x.now))
