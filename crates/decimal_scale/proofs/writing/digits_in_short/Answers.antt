use Rattle.std.proofs.Common.{arith}
use Rattle.std.proofs.lemmas.Fmt.{length-decimal-le}
use Rattle.decimal_scale.proofs.Zeros.{digit_less, one_digit}
use Rattle.decimal_scale.proofs.writing.digits_in_short.Goals as goal

pub overflow_add-count : goal.overflow_add-count
overflow_add-count c =
    let l = c.loop-rest in
    let most = length-decimal-le 20 c.args.number (omega arith) (omega arith) (omega arith) in
    omega (arith, l.invariant.so_far, most)

pub loop-rest-preserved : goal.loop-rest-preserved
loop-rest-preserved c =
    let l = c.loop-rest in
    let more = digit_less l.rest (omega (arith, c.loop-rest-test.true)) (omega (arith, l.auto.rest-fits)) in
    record { so_far = omega (arith, more, l.invariant.so_far) }

pub returns-clause-value : goal.returns-clause-value
returns-clause-value c =
    let last = one_digit c.loop-rest.rest (omega (arith, c.loop-rest-test.false)) in
    omega (arith, c.loop-rest.invariant.so_far, last)

pub returns-clause-within : goal.returns-clause-within
returns-clause-within c =
    let last = one_digit c.loop-rest.rest (omega (arith, c.loop-rest-test.false)) in
    let most = length-decimal-le 20 c.args.number (omega arith) (omega arith) (omega arith) in
    omega (arith, c.loop-rest.invariant.so_far, last, most)
