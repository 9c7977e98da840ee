-- Sums and differences of spans: in range, what they hold, and that they keep containment.
use Rattle.std.proofs.Common.{refl, ℕ, ◌≡◌, arith, ℤ, pos, ◌+ℤ◌, ◌-ℤ◌, ◌*ℤ◌}
use Rattle.solid_base.proofs.Ring.{lines, diffs, diff-same, by_diff3}
use Rattle.fixed_enclosure.specs.Spans.{Span, Every, Between, IsSpan, Holds, IsIn}
use Rattle.fixed_enclosure.specs.Values.{bounded, point_of, sum_of, minus_of}
use Rattle.fixed_enclosure.proofs.Spans.{bounded-is, bounded-holds, bounded-in, add_scaled}

less_scaled : (a c p : ℤ) → (a -ℤ c) *ℤ p ≡ a *ℤ p -ℤ c *ℤ p
less_scaled = by_diff3 (λ (a c p : ℤ). (a -ℤ c) *ℤ p ≡ a *ℤ p -ℤ c *ℤ p) (λ (a b c d e f : ℕ). simp diffs (diff-same _ _ _ _ (omega arith)))

pub sum_of-is : (bound : ℕ) (s t : Span) → IsSpan bound s → IsSpan bound t → IsSpan bound (sum_of bound s t)
unfolding sum_of
sum_of-is bound Every t h k = tt
sum_of-is bound (Between a b) Every h k = tt
sum_of-is bound (Between a b) (Between c d) h k = bounded-is bound (a +ℤ c) (b +ℤ d) (omega (arith, lines))

pub sum_of-holds : (m bound : ℕ) (s t : Span) (x y : ℤ) → Holds m s x → Holds m t y → Holds m (sum_of bound s t) (x +ℤ y)
unfolding sum_of
sum_of-holds m bound Every t x y h k = tt
sum_of-holds m bound (Between a b) Every x y h k = tt
sum_of-holds m bound (Between a b) (Between c d) x y h k = bounded-holds m bound (a +ℤ c) (b +ℤ d) (x +ℤ y) (omega (arith, lines, add_scaled a c (pos m))) (omega (arith, lines, add_scaled b d (pos m)))

pub sum_of-in : (bound : ℕ) (p q s t : Span) → IsIn p s → IsIn q t → IsIn (sum_of bound p q) (sum_of bound s t)
unfolding sum_of
sum_of-in bound p q Every t h k = tt
sum_of-in bound p q (Between a b) Every h k = tt
sum_of-in bound Every q (Between a b) (Between c d) h k = absurd h
sum_of-in bound (Between l g) Every (Between a b) (Between c d) h k = absurd k
sum_of-in bound (Between l g) (Between r t) (Between a b) (Between c d) h k = bounded-in bound (l +ℤ r) (g +ℤ t) (a +ℤ c) (b +ℤ d) (omega (arith, lines)) (omega (arith, lines))

pub minus_of-is : (bound : ℕ) (s t : Span) → IsSpan bound s → IsSpan bound t → IsSpan bound (minus_of bound s t)
unfolding minus_of
minus_of-is bound Every t h k = tt
minus_of-is bound (Between a b) Every h k = tt
minus_of-is bound (Between a b) (Between c d) h k = bounded-is bound (a -ℤ d) (b -ℤ c) (omega (arith, lines))

pub minus_of-holds : (m bound : ℕ) (s t : Span) (x y : ℤ) → Holds m s x → Holds m t y → Holds m (minus_of bound s t) (x -ℤ y)
unfolding minus_of
minus_of-holds m bound Every t x y h k = tt
minus_of-holds m bound (Between a b) Every x y h k = tt
minus_of-holds m bound (Between a b) (Between c d) x y h k = bounded-holds m bound (a -ℤ d) (b -ℤ c) (x -ℤ y) (omega (arith, lines, less_scaled a d (pos m))) (omega (arith, lines, less_scaled b c (pos m)))

pub minus_of-in : (bound : ℕ) (p q s t : Span) → IsIn p s → IsIn q t → IsIn (minus_of bound p q) (minus_of bound s t)
unfolding minus_of
minus_of-in bound p q Every t h k = tt
minus_of-in bound p q (Between a b) Every h k = tt
minus_of-in bound Every q (Between a b) (Between c d) h k = absurd h
minus_of-in bound (Between l g) Every (Between a b) (Between c d) h k = absurd k
minus_of-in bound (Between l g) (Between r t) (Between a b) (Between c d) h k = bounded-in bound (l -ℤ t) (g -ℤ r) (a -ℤ d) (b -ℤ c) (omega (arith, lines)) (omega (arith, lines))

-- ---- points
pub sum_of-points : (bound : ℕ) (v w : ℤ) → sum_of bound (point_of v) (point_of w) ≡ bounded bound (v +ℤ w) (v +ℤ w)
unfolding sum_of
sum_of-points bound v w = refl

pub minus_of-points : (bound : ℕ) (v w : ℤ) → minus_of bound (point_of v) (point_of w) ≡ bounded bound (v -ℤ w) (v -ℤ w)
unfolding minus_of
minus_of-points bound v w = refl
