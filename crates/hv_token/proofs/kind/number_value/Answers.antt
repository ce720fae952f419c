use Rattle.std.proofs.Common.{arith}
use Rattle.hv_token.proofs.Digits.{value_at}
use Rattle.hv_token.proofs.kind.number_value.Goals as goal

pub returns-then-value : goal.returns-then-value
returns-then-value c =
    let h = value_at c.loop-digit.value c.args.digits.now c.loop-digit.digit-index c.loop-digit-test.true in
    omega (arith, h, c.loop-digit.invariant.1, c.if-value.true)

pub returns-then-next-gt-GREATEST : goal.returns-then-next-gt-GREATEST
returns-then-next-gt-GREATEST c =
    let h = value_at c.loop-digit.value c.args.digits.now c.loop-digit.digit-index c.loop-digit-test.true in
    omega (arith, h, c.loop-digit.invariant.1)
