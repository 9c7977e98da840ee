-- Worked values, so that a wrong rule in the specs does not check.
use Rattle.std.proofs.Common.{◌≡◌, ◌^◌, ◌+◌, ◌*◌, ℕ, ℤ, pos, neg_ℤ, [], ◌∷◌, map, refl}
use Rattle.fixed_enclosure.specs.declared.enclosures.Sign.TheVariants.{Negative, Positive, Open}
use Rattle.fixed_enclosure.specs.Spans.{Every, Between, enc_bound}
use Rattle.fixed_enclosure.specs.Roots.{whole_root, whole_root_up}
use Rattle.fixed_enclosure.specs.Values.{unit, bounded, sum_of, minus_of, times_of, square_of, narrow_of, root_of, ratio_of, sign_of}

-- the number -n
abbrev less : ℕ → ℤ
less n = neg_ℤ (pos n)

-- at the bound of lengths, and one step past it at either end
pub at_the_bound : bounded enc_bound (less (10 ^ 18)) (pos (10 ^ 18)) ≡ Between (less (10 ^ 18)) (pos (10 ^ 18))
at_the_bound = refl

pub past_the_bound : (bounded enc_bound (pos 0) (pos (10 ^ 18 + 1)) ≡ Every) × (bounded enc_bound (less (10 ^ 18 + 1)) (pos 0) ≡ Every)
past_the_bound = (refl, refl)

-- from 1 to 2 and from 10 to 20
pub sum_and_difference : (sum_of enc_bound (Between (pos 1) (pos 2)) (Between (pos 10) (pos 20)) ≡ Between (pos 11) (pos 22))
    × (minus_of enc_bound (Between (pos 1) (pos 2)) (Between (pos 10) (pos 20)) ≡ Between (less 19) (less 8))
unfolding sum_of minus_of
sum_and_difference = (refl, refl)

-- from -2 to 3 by from -5 to 4
pub product : times_of (Between (less 2) (pos 3)) (Between (less 5) (pos 4)) ≡ Between (less 15) (pos 12)
unfolding times_of
product = refl

-- below 0, round 0, from 0
pub known_squares : map square_of (Between (less 3) (less 2) ∷ Between (less 3) (pos 2) ∷ Between (pos 0) (pos 3) ∷ [])
    ≡ Between (pos 4) (pos 9) ∷ Between (pos 0) (pos 9) ∷ Between (pos 0) (pos 9) ∷ []
unfolding square_of
known_squares = refl

-- one square step is rounded outward, and one unit of square steps is one step
pub known_narrowings : map narrow_of (Between (pos 1) (pos 1) ∷ Between (less 1) (less 1) ∷ Between (pos unit) (pos unit) ∷ [])
    ≡ Between (pos 0) (pos 1) ∷ Between (less 1) (pos 0) ∷ Between (pos 1) (pos 1) ∷ []
unfolding narrow_of
known_narrowings = refl

pub known_roots : map whole_root (0 ∷ 1 ∷ 3 ∷ 4 ∷ 8 ∷ 9 ∷ []) ≡ 0 ∷ 1 ∷ 1 ∷ 2 ∷ 2 ∷ 3 ∷ []
unfolding whole_root
known_roots = refl

pub known_roots_up : map whole_root_up (0 ∷ 1 ∷ 2 ∷ 4 ∷ 5 ∷ 9 ∷ []) ≡ 0 ∷ 1 ∷ 2 ∷ 2 ∷ 3 ∷ 3 ∷ []
unfolding whole_root
known_roots_up = refl

-- a negative area has the root 0
pub root_round_zero : root_of (Between (less 9) (pos 2)) ≡ Between (pos 0) (pos 2)
unfolding root_of whole_root
root_round_zero = refl

-- a third of a step, and more than twice the size
pub known_ratios : (ratio_of (pos 3) (Between (less 1) (pos 1)) ≡ Between (less 333333333334) (pos 333333333334))
    × (ratio_of (pos 1) (Between (less 1) (pos 7)) ≡ Between (less unit) (pos (2 * unit)))
unfolding ratio_of
known_ratios = (refl, refl)

pub known_signs : map sign_of (Every ∷ Between (less 2) (less 1) ∷ Between (less 2) (pos 0) ∷ Between (pos 0) (pos 2) ∷ Between (pos 1) (pos 2) ∷ [])
    ≡ Open ∷ Negative ∷ Open ∷ Open ∷ Positive ∷ []
unfolding sign_of
known_signs = refl
