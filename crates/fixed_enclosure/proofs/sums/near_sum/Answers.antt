use Rattle.std.proofs.Common.{arith, sym}
use Rattle.solid_base.proofs.Ring.{code}
use Rattle.fixed_enclosure.proofs.Multiples.{near_sum_is, three_back}
use Rattle.fixed_enclosure.proofs.sums.near_sum.Goals as goal

pub overflow_add-result-in-Span-Span-Span : goal.overflow_add-result-in-Span-Span-Span
overflow_add-result-in-Span-Span-Span c =
    let s = c.in-Span-Span-Span in
    let a = rw s.is-0 at c.requires.a_near in
    let b = rw s.is-1 at c.requires.b_near in
    let d = rw s.is-2 at c.requires.c_near in
    omega (arith, code, a.1, b.1, d.1)

pub overflow_add-result-in-Span-Span-Span-3 : goal.overflow_add-result-in-Span-Span-Span-3
overflow_add-result-in-Span-Span-Span-3 c =
    let s = c.in-Span-Span-Span in
    let a = rw s.is-0 at c.requires.a_near in
    let b = rw s.is-1 at c.requires.b_near in
    let d = rw s.is-2 at c.requires.c_near in
    omega (arith, code, a.2, b.2, d.2)

pub returns-in-Span-Span-Span-clause-value : goal.returns-in-Span-Span-Span-clause-value
returns-in-Span-Span-Span-clause-value c =
    let s = c.in-Span-Span-Span in
    let a = rw s.is-0 at c.requires.a_near in
    let b = rw s.is-1 at c.requires.b_near in
    let d = rw s.is-2 at c.requires.c_near in
    let low = three_back s.a_lo s.b_lo s.c_lo a.1 b.1 d.1 in
    let high = three_back s.a_hi s.b_hi s.c_hi a.2 b.2 d.2 in
    let whole = near_sum_is s.a_lo s.a_hi s.b_lo s.b_hi s.c_lo s.c_hi a b d in
    rw (s.is-0, s.is-1, s.is-2, low, high) (sym whole.0)

pub returns-in-Span-Span-Span-clause-within : goal.returns-in-Span-Span-Span-clause-within
returns-in-Span-Span-Span-clause-within c =
    let s = c.in-Span-Span-Span in
    let a = rw s.is-0 at c.requires.a_near in
    let b = rw s.is-1 at c.requires.b_near in
    let d = rw s.is-2 at c.requires.c_near in
    let low = three_back s.a_lo s.b_lo s.c_lo a.1 b.1 d.1 in
    let high = three_back s.a_hi s.b_hi s.c_hi a.2 b.2 d.2 in
    let whole = near_sum_is s.a_lo s.a_hi s.b_lo s.b_hi s.c_lo s.c_hi a b d in
    rw (low, high) whole.1
