use Rattle.std.proofs.Common.{◌≡◌, ◌++◌, drop}
use Rattle.hv_eval_state.proofs.paid.say.Given as goal

abbrev pub invariant-loop-byte : goal.invariant-loop-byte
invariant-loop-byte l = record {
  said : l.task.output ++ drop l.byte-index l.bytes ≡ l.fn.task.output ++ l.fn.bytes;
  steps : l.task.steps ≡ l.fn.task.steps;
  locals : l.task.locals ≡ l.fn.task.locals;
}
