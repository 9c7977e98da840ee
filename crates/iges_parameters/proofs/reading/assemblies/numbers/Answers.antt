use Rattle.std.proofs.Common.{rules, arith, ◌≤◌, length-append, [], ◌∷◌, FitsSigned, to_z-of_z, unsigned_abs}
use Rattle.std.specs.Int.{w128}
use Rattle.std.proofs.lemmas.Result.{err_from_is_err_and}
use Rattle.iges_parameters.proofs.PlacedNumbers.{parameter_number, goes_on, ends, is_done, all_and}
use Rattle.iges_parameters.proofs.reading.assemblies.numbers.Goals as goal

pub returns-in_err-number-clause-value : goal.returns-in_err-number-clause-value
returns-in_err-number-clause-value c =
    let p = err_from_is_err_and c.from_residual.result c.from_residual.ensures.1 in
    rw (p.1, p.2) (λ text. ends _ c.args.rule.now c.args.count c.loop.counter _ c.loop.parameters _ c.loop-test.true c.requires.rule c.in_err-number.ensures.value c.loop.invariant.so_far)

pub overflow_cast-unsigned_abs : goal.overflow_cast-unsigned_abs
overflow_cast-unsigned_abs c =
    let is = parameter_number c.args.rule.now c.loop.parameters c.in_ok-number.number c.parameter.new.parameters c.requires.rule c.in_ok-number.ensures.value in
    let fit : FitsSigned w128 c.in_ok-number.number = search rules in
    let size = rw (to_z-of_z fit) at c.unsigned_abs.ensures.value in
    let most : c.unsigned_abs.result ≤ 9999999 = rw size is.1 in
    search (rules, most)

pub loop-preserved : goal.loop-preserved
loop-preserved c =
    let is = parameter_number c.args.rule.now c.loop.parameters c.in_ok-number.number c.parameter.new.parameters c.requires.rule c.in_ok-number.ensures.value in
    let fit : FitsSigned w128 c.in_ok-number.number = search rules in
    let size = rw (to_z-of_z fit) at c.unsigned_abs.ensures.value in
    rw (c.in_ok-push.ensures.ok, size) (record {
      moved = (omega (arith, c.in_ok-number.ensures.moves.0, c.loop.invariant.moved.0), omega (arith, c.in_ok-number.ensures.moves.1, c.loop.invariant.moved.1));
      long = omega (arith, c.loop.invariant.long, length-append c.loop.numbers (unsigned_abs c.in_ok-number.number ∷ []));
      within = all_and c.loop.numbers (unsigned_abs c.in_ok-number.number) c.loop.invariant.within is.1;
      so_far = goes_on c.args.rule.now c.args.count c.loop.counter c.loop.numbers c.loop.parameters c.parameter.new.parameters c.in_ok-number.number _ c.loop-test.true c.requires.rule c.in_ok-number.ensures.value c.loop.invariant.so_far;
    })

pub returns-clause-value : goal.returns-clause-value
returns-clause-value c = is_done c.args.rule.now c.args.count c.loop.counter _ c.loop.parameters _ c.loop-test.false c.loop.invariant.so_far
