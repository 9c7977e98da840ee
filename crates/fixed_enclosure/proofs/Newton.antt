-- One step of Newton's for a square root, from above, and where it starts.
use Rattle.std.proofs.Common.{◌≡◌, ℕ, zero, suc, ◌+◌, ◌-◌, ◌*◌, ◌/◌, ◌%◌, ◌^◌, ◌<◌, ◌≤◌, arith, mul-le-mul, inl, inr}
use Rattle.std.proofs.lemmas.Bool.{cases_lt}
use Rattle.std.proofs.Math.Pow.{pow_mono}
use Rattle.std.proofs.lemmas.Nat.{pow-add, pow_pos, shl_whole, shr_below, shr_split, mod_below}

-- four times a product is at most the square of the sum
four : (a b : ℕ) → 4 * (a * b) ≤ (a + b) * (a + b)
four a b = elim (cases_lt a b) [
  | inl l ↦ (let e : b ≡ a + (b - a) = omega arith in let k = b - a in rw e (omega arith))
  | inr l ↦ (let e : a ≡ b + (a - b) = omega arith in let k = a - b in rw e (omega arith))
]

-- the mean of s and of z / s, rounded down to t, is not below the root
pub step_above : (z s q t : ℕ) → z < (q + 1) * s → s + q + 1 ≤ 2 * (t + 1) → z < (t + 1) * (t + 1)
step_above z s q t h k =
    let f = four s (q + 1) in
    let m : (s + (q + 1)) * (s + (q + 1)) ≤ (2 * (t + 1)) * (2 * (t + 1)) = mul-le-mul (omega arith) (omega arith) in
    omega arith

-- a number above the root is above the quotient by it
pub quotient_below : (z s q : ℕ) → q * s ≤ z → z < s * s → q < s
quotient_below z s q h k = elim (cases_lt q s) [
  | inl l ↦ l
  | inr l ↦ (let m : s * s ≤ q * s = mul-le-mul l (omega arith) in absurd (omega arith))
]

pub root_above_zero : (z s : ℕ) → z < s * s → 0 < s
root_above_zero z zero h = absurd (omega arith)
root_above_zero z (suc s) h = omega arith

-- ---- where the steps start, for a number of m bits
pub bits_below : (z m : ℕ) → 2 ^ m ≤ 2 * z + 1 → z < 2 ^ 124 → m < 125
bits_below z m p q = elim (cases_lt m 125) [ inl l ↦ l | inr l ↦ (let k : 2 ^ 125 ≤ 2 ^ m = pow_mono l in absurd (omega arith)) ]

pub short_below : (z m : ℕ) → z < 2 ^ m → m ≤ 62 → z < 2 ^ 62
short_below z m p q = let k : 2 ^ m ≤ 2 ^ 62 = pow_mono q in omega arith

-- what is left after 2 s bits has 62 bits
pub leading_below : (z m s : ℕ) → z < 2 ^ m → m ≤ 62 + 2 * s → z / 2 ^ (2 * s) < 2 ^ 62
leading_below z m s p q = let k : 2 ^ m ≤ 2 ^ (62 + 2 * s) = pow_mono q in shr_below z 62 (2 * s) (omega arith)

-- its root
pub leading_root : (r w : ℕ) → r * r ≤ w → w < 2 ^ 62 → r < 2 ^ 31
leading_root r w h k = elim (cases_lt r (2 ^ 31)) [
  | inl l ↦ l
  | inr l ↦ (let m : 2 ^ 31 * 2 ^ 31 ≤ r * r = mul-le-mul l l in absurd (omega arith))
]

-- the next number after its root, moved back by s bits
pub moved : (r s : ℕ) → r < 2 ^ 31 → s ≤ 31 → (((r + 1) * 2 ^ s) % 2 ^ 128 ≡ (r + 1) * 2 ^ s) × ((r + 1) * 2 ^ s < 2 ^ 63)
moved r s h k =
    let p : 2 ^ s ≤ 2 ^ 31 = pow_mono k in
    let small : r + 1 ≤ 2 ^ 31 = omega arith in
    let m : (r + 1) * 2 ^ s ≤ 2 ^ 31 * 2 ^ 31 = mul-le-mul small p in
    (shl_whole (r + 1) 32 s 128 (omega arith) (omega arith), omega arith)

-- the square of that number is above z, by less than can be told in 64 bits and s more
pub next_square : (z l s : ℕ) → z / 2 ^ (2 * s) < (l + 1) * (l + 1) → z < ((l + 1) * 2 ^ s) * ((l + 1) * 2 ^ s)
next_square z l s h =
    let p = 2 ^ s in
    let double : 2 * s ≡ s + s = omega arith in
    let e : 2 ^ (2 * s) ≡ p * p = rw double (pow-add 2 s s) in
    let q = z / 2 ^ (2 * s) in
    let split = shr_split z (2 * s) in
    let rest = mod_below z (2 ^ (2 * s)) (pow_pos (2 * s)) in
    let next : q + 1 ≤ (l + 1) * (l + 1) = omega arith in
    let same : p * p ≤ p * p = omega arith in
    let m : (q + 1) * (p * p) ≤ ((l + 1) * (l + 1)) * (p * p) = mul-le-mul next same in
    let z_below : z < (q + 1) * (p * p) = rw (← e) (omega arith) in
    omega arith

pub excess_small : (z l s : ℕ) → l * l ≤ z / 2 ^ (2 * s) → l < 2 ^ 31 → s ≤ 31 → (((l + 1) * 2 ^ s) * ((l + 1) * 2 ^ s) - z) / 2 ^ s < 2 ^ 64
excess_small z l s h small k =
    let p = 2 ^ s in
    let double : 2 * s ≡ s + s = omega arith in
    let e : 2 ^ (2 * s) ≡ p * p = rw double (pow-add 2 s s) in
    let q = z / 2 ^ (2 * s) in
    let split = shr_split z (2 * s) in
    let same : p * p ≤ p * p = omega arith in
    let m : (l * l) * (p * p) ≤ q * (p * p) = mul-le-mul h same in
    let z_above : q * (p * p) ≤ z = rw (← e) (omega arith) in
    let p_small : p ≤ 2 ^ 31 = pow_mono k in
    let l_small : 2 * l + 1 ≤ 2 ^ 32 = omega arith in
    let n : (2 * l + 1) * p ≤ 2 ^ 32 * 2 ^ 31 = mul-le-mul l_small p_small in
    let n_small : (2 * l + 1) * p ≤ 2 ^ 63 = omega arith in
    let p_same : p ≤ p = omega arith in
    let o : ((2 * l + 1) * p) * p ≤ 2 ^ 63 * p = mul-le-mul n_small p_same in
    let positive = pow_pos s in
    let power = pow-add 2 64 s in
    shr_below (((l + 1) * p) * ((l + 1) * p) - z) 64 s (omega arith)

-- x is what the square of s = n p is above z, over p, and q is x over 2 n: the step back by q stays above the root
pub step_room : (z n p x q : ℕ) → x * p + z ≤ (n * p) * (n * p) → q * (2 * n) ≤ x → 2 * ((n * p) * q) + z ≤ (n * p) * (n * p)
step_room z n p x q h k =
    let same : p ≤ p = omega arith in
    let m : (q * (2 * n)) * p ≤ x * p = mul-le-mul k same in
    omega arith

pub step_within : (z s q : ℕ) → 0 < s → 2 * (s * q) + z ≤ s * s → q ≤ s
step_within z s q p h = elim (cases_lt s q) [
  | inl l ↦ (let same : s ≤ s = omega arith in let m : s * (s + 1) ≤ s * q = mul-le-mul same (omega arith) in absurd (omega arith))
  | inr l ↦ l
]

back_above : (z t q : ℕ) → 2 * ((t + q) * q) + z ≤ (t + q) * (t + q) → z ≤ t * t
back_above z t q h = omega arith

pub step_back : (z s q : ℕ) → q ≤ s → 2 * (s * q) + z ≤ s * s → z ≤ (s - q) * (s - q)
step_back z s q h k = let e : (s - q) + q ≡ s = omega arith in back_above z (s - q) q (rw e k)

-- a quotient by a number that is no less than the root
pub quotient_near : (z s q : ℕ) → 0 < s → q * s ≤ z → z < (s + 1) * (s + 1) → q ≤ s + 2
quotient_near z s q p h k = elim (cases_lt (s + 2) q) [
  | inl l ↦ (let same : s ≤ s = omega arith in let m : (s + 3) * s ≤ q * s = mul-le-mul (omega arith) same in absurd (omega arith))
  | inr l ↦ l
]

-- the step back from s = (l + 1) 2^k: s is above 0, and q has room
pub room : (z l k : ℕ) → z / 2 ^ (2 * k) < (l + 1) * (l + 1)
    → (0 < (l + 1) * 2 ^ k) × (2 * (((l + 1) * 2 ^ k) * ((((l + 1) * 2 ^ k) * ((l + 1) * 2 ^ k) - z) / 2 ^ k / (2 * (l + 1)))) + z ≤ ((l + 1) * 2 ^ k) * ((l + 1) * 2 ^ k))
room z l k h =
    let p = 2 ^ k in
    let s = (l + 1) * p in
    let x = (s * s - z) / p in
    let q = x / (2 * (l + 1)) in
    let above = next_square z l k h in
    let positive : 1 ≤ p = pow_pos k in
    let one : 1 ≤ l + 1 = omega arith in
    let m : 1 * 1 ≤ (l + 1) * p = mul-le-mul one positive in
    let d : x * p ≤ s * s - z = omega arith in
    let f : q * (2 * (l + 1)) ≤ x = omega arith in
    (omega arith, step_room z (l + 1) p x q (omega arith) f)
