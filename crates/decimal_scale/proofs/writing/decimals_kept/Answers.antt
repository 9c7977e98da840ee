use Rattle.std.proofs.Common.{◌≢◌, ◌%◌, ◌∙◌, sym, arith}
use Rattle.decimal_scale.proofs.Zeros.{one_cut, all_kept}
use Rattle.decimal_scale.proofs.writing.decimals_kept.Goals as goal

pub loop-rest-preserved : goal.loop-rest-preserved
loop-rest-preserved c =
    let l = c.loop-rest in
    let (within, cut) = one_cut l.count l.rest l.invariant.some (omega (arith, c.loop-rest-test.true)) l.invariant.less in
    record {
      some = cut.some;
      less = cut.less;
      places = omega (arith, l.invariant.places);
      kept = cut.kept ∙ l.invariant.kept;
    }

pub returns-clause-value : goal.returns-clause-value
returns-clause-value c =
    let l = c.loop-rest in
    let other : l.rest % 10 ≢ 0 = λ none. c.loop-rest-test.false none in
    sym (all_kept l.count l.rest l.invariant.some other l.invariant.less) ∙ l.invariant.kept
