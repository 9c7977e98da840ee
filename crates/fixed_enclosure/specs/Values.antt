-- The spans that the calls give. Rounding goes outward, and where an end passes the bound nothing
-- is known any more.
use Rattle.std.specs.Prelude.{ℕ, ℤ, pos, neg_ℤ, ◌+ℤ◌, ◌-ℤ◌, ◌*ℤ◌, ◌*◌, ◌^◌, Bool, ◌&&◌, ◌||◌}
use Rattle.std.specs.Prelude.{int_lt, int_le, if◌then◌else◌}
use Rattle.std.specs.Int.{int_min, int_max, int_div_euclid}
use Rattle.fixed_enclosure.specs.declared.enclosures.Sign.{Sign}
use Rattle.fixed_enclosure.specs.declared.enclosures.Sign.TheVariants.{Negative, Positive, Open}
use Rattle.fixed_enclosure.specs.Spans.{Span, Every, Between, enc_bound, area_bound}
use Rattle.fixed_enclosure.specs.Roots.{floor_root, ceil_root}

-- solidd's own: the steps in a unit
abbrev pub unit : ℕ
unit = 10 ^ 12

-- solidd's own: the span from lo to hi, or every number where an end passes the bound
abbrev pub bounded : ℕ → ℤ → ℤ → Span
bounded bound lo hi =
    if int_lt lo (neg_ℤ (pos bound)) || int_lt (pos bound) hi then Every else Between lo hi

-- solidd's own: one number
abbrev pub point_of : ℤ → Span
point_of v = Between v v

-- solidd's own: the sums of the numbers of two spans
unfoldable pub sum_of : ℕ → Span → Span → Span
sum_of bound (Between a b) (Between c d) = bounded bound (a +ℤ c) (b +ℤ d)
sum_of bound _ _ = Every

-- solidd's own: the differences of the numbers of two spans
unfoldable pub minus_of : ℕ → Span → Span → Span
minus_of bound (Between a b) (Between c d) = bounded bound (a -ℤ d) (b -ℤ c)
minus_of bound _ _ = Every

-- solidd's own: the least of four numbers
abbrev pub least : ℤ → ℤ → ℤ → ℤ → ℤ
least p q r s = int_min (int_min p q) (int_min r s)

-- solidd's own: the greatest of four numbers
abbrev pub greatest : ℤ → ℤ → ℤ → ℤ → ℤ
greatest p q r s = int_max (int_max p q) (int_max r s)

-- solidd's own: the products of two lengths, from the least to the greatest product of their ends
unfoldable pub times_of : Span → Span → Span
times_of (Between a b) (Between c d) =
    bounded area_bound (least (a *ℤ c) (a *ℤ d) (b *ℤ c) (b *ℤ d))
    (greatest (a *ℤ c) (a *ℤ d) (b *ℤ c) (b *ℤ d))
times_of _ _ = Every

-- solidd's own: 0 lies from lo to hi
abbrev pub is_round_zero : ℤ → ℤ → Bool
is_round_zero lo hi = int_le lo (pos 0) && int_le (pos 0) hi

-- solidd's own: the least square of the numbers from lo to hi
abbrev pub least_square : ℤ → ℤ → ℤ
least_square lo hi = if is_round_zero lo hi then pos 0 else int_min (lo *ℤ lo) (hi *ℤ hi)

-- solidd's own: the greatest square of the numbers from lo to hi
abbrev pub greatest_square : ℤ → ℤ → ℤ
greatest_square lo hi = int_max (lo *ℤ lo) (hi *ℤ hi)

-- solidd's own: the squares of a length
unfoldable pub square_of : Span → Span
square_of Every = Every
square_of (Between lo hi) = bounded area_bound (least_square lo hi) (greatest_square lo hi)

-- solidd's own: z over d, rounded down; d is above 0
abbrev pub floor_over : ℤ → ℤ → ℤ
floor_over z d = int_div_euclid z d

-- solidd's own: z over d, rounded up; d is above 0
abbrev pub ceil_over : ℤ → ℤ → ℤ
ceil_over z d = neg_ℤ (floor_over (neg_ℤ z) d)

-- solidd's own: an area over a unit, as a length
unfoldable pub narrow_of : Span → Span
narrow_of Every = Every
narrow_of (Between lo hi) = bounded enc_bound (floor_over lo (pos unit)) (ceil_over hi (pos unit))

-- solidd's own: the roots of an area, where the root of a negative number is 0
unfoldable pub root_of : Span → Span
root_of Every = Every
root_of (Between lo hi) = bounded enc_bound (floor_root lo) (ceil_root hi)

-- solidd's own: the number nearest to z from -b to b
abbrev pub cut : ℤ → ℤ → ℤ
cut b z = int_max (neg_ℤ b) (int_min z b)

-- solidd's own: the ratios of a length to a size, in steps, where a ratio past 2 or -2 is taken as
-- 2 or -2
unfoldable pub ratio_of : ℤ → Span → Span
ratio_of size Every = Every
ratio_of size (Between lo hi) =
    Between (cut (pos (2 * unit)) (floor_over (lo *ℤ pos unit) size))
    (cut (pos (2 * unit)) (ceil_over (hi *ℤ pos unit) size))

-- solidd's own: the sign that all numbers of a span have; `Open` where there is no such sign, or
-- one of them is 0
unfoldable pub sign_of : Span → Sign
sign_of Every = Open
sign_of (Between lo hi) =
    if int_lt hi (pos 0) then Negative else (if int_lt (pos 0) lo then Positive else Open)
