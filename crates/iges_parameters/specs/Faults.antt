-- Faults of records: their numbers and words, which are solidd's own.
use Rattle.std.specs.Prelude.{◌≡◌, ◌≢◌, ℕ, List, ◌++◌, codes, decimal, Result, Ok, Err}
pub use Rattle.solid_base.specs.Outcomes.{◌>>=◌}
use Rattle.iges_parameters.specs.declared.faults.RowFault.{RowFault}
use Rattle.iges_parameters.specs.declared.faults.RowFault.TheVariants as fault

-- the number of a fault
abbrev pub fault_number : RowFault → ℕ
fault_number (fault.Memory e) = 1
fault_number fault.NotRead = 2
fault_number (fault.Token index) = 3
fault_number (fault.Missing index) = 4
fault_number (fault.WrongKind index) = 5
fault_number (fault.TooFar index) = 6
fault_number (fault.BadSize index) = 7
fault_number (fault.BadAxis index) = 8
fault_number fault.BadMatrix = 9
fault_number (fault.BadPostfix index) = 10

-- the fault isn't out of memory
abbrev pub IsOfText : RowFault → Type 0
IsOfText f = fault_number f ≢ 1

-- the fault's name and its index, a blank between them. Out of memory is never printed, and so has
-- no words
abbrev pub fault_words : RowFault → List ℕ
fault_words (fault.Memory e) = codes ""
fault_words fault.NotRead = codes "NotRead"
fault_words (fault.Token index) = codes "Token " ++ decimal index
fault_words (fault.Missing index) = codes "Missing " ++ decimal index
fault_words (fault.WrongKind index) = codes "WrongKind " ++ decimal index
fault_words (fault.TooFar index) = codes "TooFar " ++ decimal index
fault_words (fault.BadSize index) = codes "BadSize " ++ decimal index
fault_words (fault.BadAxis index) = codes "BadAxis " ++ decimal index
fault_words fault.BadMatrix = codes "BadMatrix"
fault_words (fault.BadPostfix index) = codes "BadPostfix " ++ decimal index

-- what a function that takes memory returned, seen by view, is what the reading gives; out of
-- memory says nothing of the record
abbrev pub GivesOrMemory : {X Y : Type 0} → (X → Y) → Result X RowFault → Result Y RowFault → Type 0
GivesOrMemory view (Ok x) reading = reading ≡ Ok (view x)
GivesOrMemory view (Err f) reading = IsOfText f → reading ≡ Err f
