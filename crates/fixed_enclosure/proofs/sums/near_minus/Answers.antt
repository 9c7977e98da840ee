use Rattle.std.proofs.Common.{sym}
use Rattle.fixed_enclosure.proofs.Multiples.{near_minus_is, near_back}
use Rattle.fixed_enclosure.proofs.sums.near_minus.Goals as goal

pub returns-in-Span-Span-clause-value : goal.returns-in-Span-Span-clause-value
returns-in-Span-Span-clause-value c =
    let s = c.in-Span-Span in
    let a = rw s.is-0 at c.requires.a_near in
    let b = rw s.is-1 at c.requires.b_near in
    let low = near_back s.a_lo s.b_hi a.1 b.2 in
    let high = near_back s.a_hi s.b_lo a.2 b.1 in
    let whole = near_minus_is s.a_lo s.a_hi s.b_lo s.b_hi a b in
    rw (s.is-0, s.is-1, low, high) (sym whole.0)

pub returns-in-Span-Span-clause-within : goal.returns-in-Span-Span-clause-within
returns-in-Span-Span-clause-within c =
    let s = c.in-Span-Span in
    let a = rw s.is-0 at c.requires.a_near in
    let b = rw s.is-1 at c.requires.b_near in
    let low = near_back s.a_lo s.b_hi a.1 b.2 in
    let high = near_back s.a_hi s.b_lo a.2 b.1 in
    let whole = near_minus_is s.a_lo s.a_hi s.b_lo s.b_hi a b in
    rw (low, high) whole.1
