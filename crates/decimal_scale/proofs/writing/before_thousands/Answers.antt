use Rattle.std.proofs.Common.{◌∙◌, arith}
use Rattle.decimal_scale.proofs.Zeros.{three_cut}
use Rattle.decimal_scale.proofs.writing.before_thousands.Goals as goal

pub loop-rest-preserved : goal.loop-rest-preserved
loop-rest-preserved c =
    let l = c.loop-rest in
    let (within, cut) = three_cut l.count l.rest l.invariant.some (omega (arith, c.loop-rest-test.true)) l.invariant.less in
    record {
      some = cut.some;
      less = cut.less;
      places = omega (arith, l.invariant.places);
      kept = cut.kept ∙ l.invariant.kept;
    }
