-- solidd's own: what the count of a ledger is after evaluations of primitives.
use Rattle.std.specs.Prelude.{ℕ, ◌+◌, ◌-◌, ◌^◌, ◌≤◌, min}
use Rattle.std.proofs.Math.Nat.{min-le_right}

-- the greatest count, at which a ledger stands still
abbrev pub most_count : ℕ
most_count = 2 ^ 64 - 1

-- the count after so many ticks
abbrev pub counted : ℕ → ℕ → ℕ
counted count ticks = min (count + ticks) most_count

-- the count hasn't fallen, and has risen by at most so many
abbrev pub RisesUpTo : ℕ → ℕ → ℕ → Type 0
RisesUpTo old new most = (old ≤ new) × (new ≤ old + most)

-- a count that is cut at the greatest is at most the greatest
pub within_most : (n : ℕ) → min n most_count ≤ most_count
within_most n = min-le_right n most_count
