use Rattle.std.proofs.Common.{arith}
use Rattle.solid_base.proofs.Ring.{code}
use Rattle.fixed_enclosure.specs.Values.{sum_of}
use Rattle.fixed_enclosure.proofs.Words.{sum_back}
use Rattle.fixed_enclosure.proofs.sums.area_sum.Goals as goal

pub area_bounded-requires : goal.area_bounded-requires
area_bounded-requires c =
    let a = rw c.in-Span-Span.is-0 at c.requires.a_within in
    let b = rw c.in-Span-Span.is-1 at c.requires.b_within in
    record { in_order = omega (arith, code) }

pub returns-in-Span-Span-clause-value : goal.returns-in-Span-Span-clause-value
unfolding sum_of
returns-in-Span-Span-clause-value c =
    let s = c.in-Span-Span in
    let a = rw s.is-0 at c.requires.a_within in
    let b = rw s.is-1 at c.requires.b_within in
    let low = sum_back s.a_lo s.b_lo a.1 b.1 in
    let high = sum_back s.a_hi s.b_hi a.2 b.2 in
    rw (s.is-0, s.is-1) (rw (low, high) at c.area_bounded.ensures.value)
