-- solidd's own: what a reading to the end and a writing of a whole text have done, also where they
-- stopped before.
use Rattle.std.specs.Prelude.{ℕ, ◌^◌, ◌<◌, ◌≤◌, List, length, take, Result, Ok, Err}
use Rattle.std.specs.declared.option.Option.{Option}
use Rattle.std.specs.Io.KnownBytes.{Appends, Consumes}
use Rattle.solid_base.specs.Ledgers.{counted}
use Rattle.solid_top.specs.declared.streams.ReadError.{ReadError}
use Rattle.solid_top.specs.declared.streams.ReadError.TheVariants.{Memory, Fault, TooLong}

-- the most bytes of input that are taken
abbrev pub most_bytes : ℕ
most_bytes = 2 ^ 25

-- so many bytes were read as may be
abbrev pub IsShortRead : Option (List ℕ) → Option (List ℕ) → Type 0
IsShortRead old new = (bytes : List ℕ) × (length bytes ≤ most_bytes) × Consumes old new bytes

-- more bytes were read than may be
abbrev pub IsLongRead : Option (List ℕ) → Option (List ℕ) → Type 0
IsLongRead old new = (bytes : List ℕ) × (most_bytes < length bytes) × Consumes old new bytes

-- what a reading had read that stopped before the input's end
abbrev pub Stopped : Option (List ℕ) → Option (List ℕ) → ReadError → Type 0
Stopped old new Memory = IsShortRead old new
Stopped old new Fault = IsShortRead old new
Stopped old new TooLong = IsLongRead old new

-- the count of failed reads after a reading: one more exactly where a read failed
abbrev pub count_after_reading : {T : Type 0} → ℕ → Result T ReadError → ℕ
count_after_reading count (Ok _) = count
count_after_reading count (Err Memory) = count
count_after_reading count (Err Fault) = counted count 1
count_after_reading count (Err TooLong) = count

-- a front of the text was appended, and not the whole
pub record AppendsFront (old new : Option (List ℕ)) (text : List ℕ) : Type 0 where
  pub count : ℕ
  pub short : count < length text
  pub appended : Appends old new (take count text)
