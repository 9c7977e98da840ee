use Rattle.std.proofs.Common.{rules, arith, ◌≡◌, length, length-set, FitsSigned, to_z-of_z}
use Rattle.std.specs.Int.{w128}
use Rattle.std.proofs.lemmas.Result.{err_from_is_err_and}
use Rattle.iges_parameters.proofs.RuleLoops.{goes_on, ends, is_done}
use Rattle.iges_parameters.proofs.reading.numbers.numbers_of.Goals as goal

pub returns-in_err-numbers-clause-value : goal.returns-in_err-numbers-clause-value
returns-in_err-numbers-clause-value g c =
    let room : length c.args.table.now.rules ≡ g.row.N = search rules in
    let p = err_from_is_err_and c.from_residual.result c.from_residual.ensures.1 in
    rw (p.1, p.2) (ends _ c.args.table.now.rules c.loop-at.parameters c.loop-at.at _ c.in_err-numbers.field-0.0 _ (omega arith) c.in_err-numbers.ensures.value c.loop-at.invariant.so_far)

pub loop-at-preserved : goal.loop-at-preserved
loop-at-preserved g c =
    let room : length c.args.table.now.rules ≡ g.row.N = search rules in
    let s = goes_on c.loop-at.numbers c.args.table.now.rules c.loop-at.parameters c.parameter.new.parameters c.loop-at.at _ c.in_ok-numbers.field-0 _ (omega arith) (omega (arith, c.loop-at.invariant.seats)) c.in_ok-numbers.ensures.value c.loop-at.invariant.so_far in
    let fit : FitsSigned w128 c.in_ok-numbers.field-0 = search rules in
    rw (to_z-of_z fit) (record {
      seats = rw length-set c.loop-at.invariant.seats;
      moved = (omega (arith, c.in_ok-numbers.ensures.moves.0, c.loop-at.invariant.moved.0), omega (arith, c.in_ok-numbers.ensures.moves.1, c.loop-at.invariant.moved.1));
      so_far = s;
    })

pub returns-clause-value : goal.returns-clause-value
returns-clause-value g c =
    let room : length c.args.table.now.rules ≡ g.row.N = search rules in
    is_done c.loop-at.numbers c.args.table.now.rules c.loop-at.parameters c.loop-at.at _ (omega arith) (omega (arith, c.loop-at.invariant.seats)) c.loop-at.invariant.so_far
