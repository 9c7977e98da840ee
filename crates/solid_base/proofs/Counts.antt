-- How the counts of ledgers go on.
use Rattle.std.proofs.Common.{◌≡◌, ◌≤◌, ◌+◌, ℕ, min, arith}
use Rattle.solid_base.specs.Ledgers.{most_count, counted, RisesUpTo}

pub least_bounded : (n : ℕ) → min n most_count ≤ most_count
least_bounded n = grind arith

pub most_bounded : most_count ≤ most_count
most_bounded = grind arith

-- ticks one after the other are counted as all of them together
pub counted_twice : (count a b : ℕ) → counted (counted count a) b ≡ counted count (a + b)
counted_twice count a b = grind arith

-- no tick leaves a count that is within its bound
pub counted_none : (count : ℕ) → count ≤ most_count → counted count 0 ≡ count
counted_none count h = grind arith

-- so many ticks are at most so many
pub counted_rises : (count ticks : ℕ) → count ≤ most_count → RisesUpTo count (counted count ticks) ticks
counted_rises count ticks h = grind arith
