use Rattle.std.proofs.Common.{refl}
use Rattle.hv_sem_copying.specs.Run.{pure}
use Rattle.hv_meaning.proofs.KindLemmas.{value_int, value_bool, value_await, value_count, value_lambda}
use Rattle.hv_meaning.proofs.kinds.value.Goals as goal

pub returns-in-Int : goal.returns-in-Int
unfolding pure
returns-in-Int g c = rw (value_int c.args.parts.now.level c.args.x.now c.in-Int.number c.in-Int.is) (rw c.number_held.ensures refl)

pub returns-in-Bool : goal.returns-in-Bool
unfolding pure
returns-in-Bool g c = rw (value_bool c.args.parts.now.level c.args.x.now c.in-Bool.truth c.in-Bool.is) (rw c.truth_held.ensures refl)

pub returns-in-Await : goal.returns-in-Await
returns-in-Await g c = rw (value_await c.args.parts.now.level c.args.x.now c.in-Await.name c.in-Await.is) (c.awaited.ensures c.args.used)

pub returns-in-Count : goal.returns-in-Count
returns-in-Count g c = rw (value_count c.args.parts.now.level c.args.x.now c.in-Count.place c.in-Count.is) (rw (← c.as_slice-in-Count.ensures) c.counted.ensures)

pub returns-in-Lambda : goal.returns-in-Lambda
returns-in-Lambda g c = rw (value_lambda c.args.parts.now.level c.args.x.now c.in-Lambda.captures c.in-Lambda.field-1 c.in-Lambda.field-2 c.in-Lambda.body c.in-Lambda.is) (rw (← c.as_slice-in-Lambda.ensures) (c.lambda.ensures c.args.used))
