use Rattle.std.proofs.Common.{rules, ◌∙◌, ◌≡◌, to_z-of_z}
use Rattle.fixed_enclosure.specs.Spans.{Between}
use Rattle.fixed_enclosure.specs.Values.{point_of}
use Rattle.fixed_enclosure.proofs.SpanProducts.{times_of-comm}
use Rattle.fixed_enclosure.proofs.products.product_span.Goals as goal

pub returns-then-a_lo-a_hi-clause-value : goal.returns-then-a_lo-a_hi-clause-value
returns-then-a_lo-a_hi-clause-value c =
    let b_lo = c.ranges.b_lo in
    let b_hi = c.ranges.b_hi in
    let a_lo = c.ranges.a_lo in
    let same : c.args.a_lo ≡ c.args.a_hi = search rules in
    let e = simp to_z-of_z at c.multiples-then-a_lo-a_hi.ensures.value in
    let turned = e ∙ times_of-comm (Between c.args.b_lo c.args.b_hi) (point_of c.args.a_lo) in
    rw (← same) turned
