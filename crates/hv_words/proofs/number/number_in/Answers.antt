use Rattle.std.proofs.Common.{◌≡◌, arith, rules, true}
use Rattle.hv_words.specs.Taken.{is_number}
use Rattle.hv_words.proofs.NumberLemmas.{none_in, none_read, parsed, some_in}
use Rattle.hv_words.proofs.number.number_in.Goals as goal

pub returns-in-Ok : goal.returns-in-Ok
returns-in-Ok c =
    let number : is_number c.args.word.now ≡ true = search rules in
    some_in c.args.least c.args.most c.args.word.now c.in-Ok.number number
    (parsed c.args.word.now c.in-Ok.number c.parse.result number c.parse.ensures.value.0 c.in-Ok.is) c.if-least-number.true c.if-number-most.true

pub returns-in_default : goal.returns-in_default
returns-in_default c =
    let number : is_number c.args.word.now ≡ true = search rules in
    let is = parsed c.args.word.now c.in-Ok.number c.parse.result number c.parse.ensures.value.0 c.in-Ok.is in
    none_in c.args.least c.args.most c.args.word.now (λ low high. omega (arith, is, c.if-number-most.false, high))

pub returns-in_default-2 : goal.returns-in_default-2
returns-in_default-2 c =
    let number : is_number c.args.word.now ≡ true = search rules in
    let is = parsed c.args.word.now c.in-Ok.number c.parse.result number c.parse.ensures.value.0 c.in-Ok.is in
    none_in c.args.least c.args.most c.args.word.now (λ low high. omega (arith, is, c.if-least-number.false, low))

pub returns-in_default-3 : goal.returns-in_default-3
returns-in_default-3 c =
    let number : is_number c.args.word.now ≡ true = search rules in
    none_read c.args.least c.args.most c.args.word.now c.in_default.field-0 number c.ranges.most.fits c.in_default.ensures.value.0
