-- Roots of spans: in range, what they hold, and that they keep containment.
use Rattle.std.proofs.Common.{◌≡◌, ℕ, ap, sym, nat_abs, ◌+◌, ◌*◌, ◌^◌, ◌<◌, ◌≤◌, zero, suc, refl, arith, ℤ, pos, negsuc, ◌-ℤ◌, ◌*ℤ◌, ◌≤ℤ◌, ◌<ℤ◌, mul-le-mul}
use Rattle.std.proofs.lemmas.Int.{ints}
use Rattle.std.specs.Int.{int_max}
use Rattle.solid_base.proofs.Ring.{lines, square_nonnegative}
use Rattle.fixed_enclosure.specs.Spans.{Span, Every, Between, IsSpan, Holds, IsFrom, IsUpTo, IsIn, enc_bound, area_bound}
use Rattle.fixed_enclosure.specs.Roots.{whole_root, whole_root_up, floor_root, ceil_root}
use Rattle.fixed_enclosure.specs.Values.{root_of}
use Rattle.fixed_enclosure.proofs.Spans.{bounded-is, bounded-holds, bounded-in, zero_times}
use Rattle.fixed_enclosure.proofs.WholeRoots.{below_root, above_root, whole_root-is, whole_root-greatest, whole_root_up-is, whole_root_up-least, root_unique}

-- ---- the root of a whole number, rounded down and up
floor_root-greatest : (z : ℤ) (s : ℕ) → pos (s * s) ≤ℤ z → pos s ≤ℤ floor_root z
floor_root-greatest (pos n) s h = omega (arith, ints, whole_root-greatest n s (omega (arith, ints)))
floor_root-greatest (negsuc n) s h = absurd (omega (arith, ints))

ceil_root-least : (z : ℤ) (s : ℕ) → z ≤ℤ pos (s * s) → ceil_root z ≤ℤ pos s
ceil_root-least (pos n) s h = omega (arith, ints, whole_root_up-least n s (omega (arith, ints)))
ceil_root-least (negsuc n) s h = omega (arith, ints)

root-mono : (m n : ℕ) → m ≤ n → whole_root m ≤ whole_root n
root-mono m n h = whole_root-greatest n (whole_root m) (omega (arith, (whole_root-is m).0))

root_up-mono : (m n : ℕ) → m ≤ n → whole_root_up m ≤ whole_root_up n
root_up-mono m n h = whole_root_up-least m (whole_root_up n) (omega (arith, whole_root_up-is n))

floor_root-mono : (z w : ℤ) → z ≤ℤ w → floor_root z ≤ℤ floor_root w
floor_root-mono (pos m) (pos n) h = omega (arith, ints, root-mono m n (omega (arith, ints)))
floor_root-mono (pos m) (negsuc n) h = absurd (omega (arith, ints))
floor_root-mono (negsuc m) (pos n) h = omega (arith, ints)
floor_root-mono (negsuc m) (negsuc n) h = omega (arith, ints)

ceil_root-mono : (z w : ℤ) → z ≤ℤ w → ceil_root z ≤ℤ ceil_root w
ceil_root-mono (pos m) (pos n) h = omega (arith, ints, root_up-mono m n (omega (arith, ints)))
ceil_root-mono (pos m) (negsuc n) h = absurd (omega (arith, ints))
ceil_root-mono (negsuc m) (pos n) h = omega (arith, ints)
ceil_root-mono (negsuc m) (negsuc n) h = omega (arith, ints)

floor-ceil : (z : ℤ) → floor_root z ≤ℤ ceil_root z
floor-ceil (pos n) =
    let w = whole_root-is n in
    let u = whole_root_up-is n in
    omega (arith, ints, below_root (whole_root_up n) (whole_root n) (whole_root_up n * whole_root_up n) (omega arith) (omega arith))
floor-ceil (negsuc n) = omega (arith, ints)

pub roots-order : (lo hi : ℤ) → lo ≤ℤ hi → floor_root lo ≤ℤ ceil_root hi
roots-order lo hi h = omega (arith, lines, floor_root-mono lo hi h, floor-ceil hi)

-- ---- what the code finds
pub floor_root-low : (z : ℤ) → z ≤ℤ pos 0 → floor_root z ≡ pos 0
unfolding whole_root
floor_root-low (pos zero) h = refl
floor_root-low (pos (suc n)) h = absurd (omega (arith, ints))
floor_root-low (negsuc n) h = refl

pub floor_root-found : (z : ℤ) (r : ℕ) → pos 0 <ℤ z → r * r ≤ nat_abs z → nat_abs z < (r + 1) * (r + 1) → floor_root z ≡ pos r
floor_root-found (pos n) r p h k = ap pos (sym (root_unique n r (h, k)))
floor_root-found (negsuc n) r p h k = absurd (omega (arith, ints))

pub ceil_root-exact : (z : ℤ) → z ≤ℤ (floor_root z *ℤ floor_root z) → ceil_root z ≡ floor_root z
ceil_root-exact (pos n) h =
    let least = whole_root_up-least n (whole_root n) (omega (arith, ints)) in
    let o = floor-ceil (pos n) in
    omega (arith, ints)
ceil_root-exact (negsuc n) h = refl

-- a number whose square is no less, and that of the number before it is
pub ceil_root-found : (z r : ℤ) → pos 0 <ℤ r → ((r -ℤ pos 1) *ℤ (r -ℤ pos 1)) <ℤ z → z ≤ℤ (r *ℤ r) → ceil_root z ≡ r
ceil_root-found (pos n) (pos (suc k)) p h i =
    let e : pos (suc k) -ℤ pos 1 ≡ pos k = omega (arith, ints) in
    let below = rw e at h in
    let u = whole_root_up-is n in
    let least = whole_root_up-least n (suc k) (omega (arith, ints)) in
    let above = above_root k (whole_root_up n) (omega (arith, ints, u)) in
    omega (arith, ints)
ceil_root-found (negsuc n) r p h i = absurd (omega (arith, lines, square_nonnegative (r -ℤ pos 1)))
ceil_root-found (pos n) (pos zero) p h i = absurd (omega (arith, ints))
ceil_root-found (pos n) (negsuc k) p h i = absurd (omega (arith, ints))

-- the root of an area's end is small
pub root_small : (n r : ℕ) → r * r ≤ n → n ≤ area_bound → r ≤ 4 * 10 ^ 18
root_small n r h k = below_root (4 * 10 ^ 18) r n h (omega arith)

pub next_small : (r : ℤ) → pos 0 <ℤ r → ((r -ℤ pos 1) *ℤ (r -ℤ pos 1)) <ℤ pos area_bound → r ≤ℤ pos (4 * 10 ^ 18 + 1)
next_small (pos (suc k)) p h =
    let e : pos (suc k) -ℤ pos 1 ≡ pos k = omega (arith, ints) in
    let below = rw e at h in
    omega (arith, ints, root_small (k * k) k (omega arith) (omega (arith, ints)))
next_small (pos zero) p h = absurd (omega (arith, ints))
next_small (negsuc k) p h = absurd (omega (arith, ints))

-- ---- the roots' squares
pub floor_root-zero : (z : ℤ) → pos 0 ≤ℤ floor_root z
floor_root-zero (pos n) = omega (arith, ints)
floor_root-zero (negsuc n) = omega (arith, ints)

pub floor_root-is : (z : ℤ) → (floor_root z *ℤ floor_root z) ≤ℤ int_max z (pos 0)
floor_root-is (pos n) = grind (arith, ints, (whole_root-is n).0)
floor_root-is (negsuc n) = grind (arith, ints)

pub ceil_root-is : (z : ℤ) → z ≤ℤ (ceil_root z *ℤ ceil_root z)
ceil_root-is (pos n) = omega (arith, ints, whole_root_up-is n)
ceil_root-is (negsuc n) = omega (arith, ints)

-- a number from 0 on whose square is no less than z is no less than the root
pub ceil_root-below : (z r : ℤ) → pos 0 ≤ℤ r → z ≤ℤ (r *ℤ r) → ceil_root z ≤ℤ r
ceil_root-below z (pos s) p h = ceil_root-least z s h
ceil_root-below z (negsuc s) p h = absurd (omega (arith, ints))

square_zero : (s : ℕ) → s * s ≤ 0 → s ≡ 0
square_zero zero h = refl
square_zero (suc s) h = absurd (omega arith)

-- a number whose square is no more than z, or than 0, is no more than the root
pub floor_root-above : (z r : ℤ) → pos 0 ≤ℤ r → (r *ℤ r) ≤ℤ int_max z (pos 0) → r ≤ℤ floor_root z
floor_root-above (pos n) (pos s) p h = floor_root-greatest (pos n) s (grind (arith, ints))
floor_root-above (negsuc n) (pos s) p h = omega (arith, ints, square_zero s (omega (arith, ints)))
floor_root-above z (negsuc s) p h = absurd (omega (arith, ints))

-- ---- roots and a multiplier
floor_scaled : (z : ℤ) (m : ℕ) → (floor_root z *ℤ pos m) ≤ℤ floor_root (z *ℤ pos (m * m))
floor_scaled (pos n) m =
    let w = whole_root-is n in
    let k : (whole_root n * whole_root n) * (m * m) ≤ n * (m * m) = mul-le-mul w.0 (omega arith) in
    floor_root-greatest (pos n *ℤ pos (m * m)) (whole_root n * m) (omega (arith, ints))
floor_scaled (negsuc n) m = omega (arith, lines, floor_root-zero (negsuc n *ℤ pos (m * m)), zero_times m)

ceil_scaled : (z : ℤ) (m : ℕ) → ceil_root (z *ℤ pos (m * m)) ≤ℤ (ceil_root z *ℤ pos m)
ceil_scaled (pos n) m =
    let u = whole_root_up-is n in
    let k : n * (m * m) ≤ (whole_root_up n * whole_root_up n) * (m * m) = mul-le-mul u (omega arith) in
    ceil_root-least (pos n *ℤ pos (m * m)) (whole_root_up n * m) (omega (arith, ints))
ceil_scaled (negsuc n) m = omega (arith, lines, ceil_root-least (negsuc n *ℤ pos (m * m)) 0 (omega (arith, ints)), zero_times m)

-- ---- spans
pub root_of-is : (s : Span) → IsSpan area_bound s → IsSpan enc_bound (root_of s)
unfolding root_of
root_of-is Every h = tt
root_of-is (Between lo hi) h = bounded-is enc_bound (floor_root lo) (ceil_root hi) (roots-order lo hi h.0)

root-between : (m : ℕ) (lo hi x : ℤ) → (lo *ℤ pos (m * m)) ≤ℤ x → x ≤ℤ (hi *ℤ pos (m * m))
    → ((floor_root lo *ℤ pos m) ≤ℤ floor_root x) × (ceil_root x ≤ℤ (ceil_root hi *ℤ pos m))
root-between m lo hi x h k = (
  omega (arith, lines, floor_scaled lo m, floor_root-mono (lo *ℤ pos (m * m)) x h),
  omega (arith, lines, ceil_scaled hi m, ceil_root-mono x (hi *ℤ pos (m * m)) k),
)

-- the root holds the root of each number that the area holds, rounded down and up
pub root_of-holds_floor : (m : ℕ) (s : Span) (x : ℤ) → Holds (m * m) s x → Holds m (root_of s) (floor_root x)
unfolding root_of
root_of-holds_floor m Every x h = tt
root_of-holds_floor m (Between lo hi) x h =
    let e = root-between m lo hi x h.0 h.1 in
    let o = floor-ceil x in
    bounded-holds m enc_bound (floor_root lo) (ceil_root hi) (floor_root x) e.0 (omega (arith, lines))

pub root_of-holds_ceil : (m : ℕ) (s : Span) (x : ℤ) → Holds (m * m) s x → Holds m (root_of s) (ceil_root x)
unfolding root_of
root_of-holds_ceil m Every x h = tt
root_of-holds_ceil m (Between lo hi) x h =
    let e = root-between m lo hi x h.0 h.1 in
    let o = floor-ceil x in
    bounded-holds m enc_bound (floor_root lo) (ceil_root hi) (ceil_root x) (omega (arith, lines)) e.1

-- what lies above a number that a span holds lies above its lowest number, and the same below
from_above : (m : ℕ) (s : Span) (x y : ℤ) → Holds m s x → x ≤ℤ y → IsFrom m s y
from_above m Every x y h k = tt
from_above m (Between lo hi) x y h k = omega (arith, lines)

up_to_below : (m : ℕ) (s : Span) (x y : ℤ) → Holds m s x → y ≤ℤ x → IsUpTo m s y
up_to_below m Every x y h k = tt
up_to_below m (Between lo hi) x y h k = omega (arith, lines)

pub root_of-from : (m : ℕ) (s : Span) (x r : ℤ) → Holds (m * m) s x → pos 0 ≤ℤ r → x ≤ℤ (r *ℤ r) → IsFrom m (root_of s) r
root_of-from m s x r h p k = from_above m (root_of s) (ceil_root x) r (root_of-holds_ceil m s x h) (ceil_root-below x r p k)

pub root_of-up_to : (m : ℕ) (s : Span) (x r : ℤ) → Holds (m * m) s x → pos 0 ≤ℤ r → (r *ℤ r) ≤ℤ int_max x (pos 0) → IsUpTo m (root_of s) r
root_of-up_to m s x r h p k = up_to_below m (root_of s) (floor_root x) r (root_of-holds_floor m s x h) (floor_root-above x r p k)

pub root_of-in : (p s : Span) → IsIn p s → IsIn (root_of p) (root_of s)
unfolding root_of
root_of-in p Every h = tt
root_of-in Every (Between c d) h = absurd h
root_of-in (Between a b) (Between c d) h = bounded-in enc_bound (floor_root a) (ceil_root b) (floor_root c) (ceil_root d) (floor_root-mono c a h.0) (ceil_root-mono b d h.1)
