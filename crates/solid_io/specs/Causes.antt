-- solidd's own: what the count of failures of a source or a sink tells of a call.
use Rattle.std.specs.Prelude.{◌≡◌, ℕ, List, is_some, Result, Ok, Err}
use Rattle.std.specs.declared.option.Option.{Option}
use Rattle.solid_base.specs.Ledgers.{counted}

-- the count after a call: one more exactly where the call fails. A count at the greatest `u64`
-- stands still
abbrev pub count_after : {T E : Type 0} → ℕ → Result T E → ℕ
count_after count (Ok _) = count
count_after count (Err _) = counted count 1

-- the bytes are known both times, or neither time
abbrev pub SameKnown : Option (List ℕ) → Option (List ℕ) → Type 0
SameKnown old new = is_some old ≡ is_some new
