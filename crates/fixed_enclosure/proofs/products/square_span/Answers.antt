use Rattle.std.proofs.Common.{◌≡◌, false, arith, rules, to_z-of_z, FitsSigned}
use Rattle.std.specs.Int.{w128}
use Rattle.solid_base.proofs.Ring.{code}
use Rattle.fixed_enclosure.specs.Values.{square_of, is_round_zero}
use Rattle.fixed_enclosure.proofs.Words.{above_apart, below_apart}
use Rattle.fixed_enclosure.proofs.products.square_span.Goals.{else-lo-le0-via-then-lo-le0+else-hi-ge0, else-lo-le0-via-else-lo-le0}
use Rattle.fixed_enclosure.proofs.products.square_span.Goals as goal

pub returns-else-lo-le0-clause-value : goal.returns-else-lo-le0-clause-value
unfolding square_of
returns-else-lo-le0-clause-value c =
    let lo = c.ranges.lo in
    let hi = c.ranges.hi in
    let f1 : FitsSigned w128 c.product-low.result = search rules in
    let f2 : FitsSigned w128 c.product-high.result = search rules in
    let f3 : FitsSigned w128 c.min.result = search rules in
    let f4 : FitsSigned w128 c.max-else-lo-le0.result = search rules in
    let l = simp to_z-of_z at c.product-low.ensures.value in
    let h = simp to_z-of_z at c.product-high.ensures.value in
    let least = simp to_z-of_z at c.min.ensures.value in
    let greatest = simp to_z-of_z at c.max-else-lo-le0.ensures.value in
    let e = simp to_z-of_z at c.area_bounded-else-lo-le0.ensures.value in
    let apart : is_round_zero c.args.lo c.args.hi ≡ false = elim c.else-lo-le0.branch [
      | else-lo-le0-via-then-lo-le0+else-hi-ge0 w ↦ below_apart c.args.lo c.args.hi (omega (arith, code))
      | else-lo-le0-via-else-lo-le0 w ↦ above_apart c.args.lo c.args.hi (omega (arith, code))
    ] in
    rw apart (simp (least, greatest, l, h) at e)
