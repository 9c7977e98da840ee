-- What the steps of reading a global section return.
use Rattle.std.specs.Prelude.{◌≡◌, ℕ, List, [], Option, Some, None}
use Rattle.iges_fields.specs.declared.kinds.FieldKind.{FieldKind}
use Rattle.iges_fields.specs.declared.kinds.FieldKind.TheVariants as kind
use Rattle.iges_directory.specs.declared.global_faults.GlobalFault.{GlobalFault}
use Rattle.iges_directory.specs.declared.global_faults.GlobalFault.TheVariants as fault
use Rattle.iges_directory.specs.declared.globals.First.{First}
use Rattle.iges_directory.specs.declared.globals.Second.{Second}
use Rattle.iges_directory.specs.Global.{StopsAt}
use Rattle.iges_directory.specs.GlobalReading as reading

-- code found parameter 1 where reading does
abbrev pub TellsFirst : Option First → Option (ℕ × List ℕ) → Type 0
TellsFirst (Some f) read = read ≡ Some (f.comma, f.rest.now)
TellsFirst None read = read ≡ None

-- code found parameter 2 where reading does
abbrev pub TellsSecond : Option Second → Option reading.Second → Type 0
TellsSecond (Some s) read =
    read ≡ Some (record { semi = s.semi; ended = s.ended; rest = s.rest.now })
TellsSecond None read = read ≡ None

-- an empty field has no content
abbrev pub IsContent : FieldKind → List ℕ → Type 0
IsContent kind.Empty content = content ≡ []
IsContent kind.Whole content = Unit {0}
IsContent kind.Real content = Unit {0}
IsContent kind.Text content = Unit {0}

-- a fault of the fields is the first one; out of memory says nothing of the text
abbrev pub IsOtherFault : ℕ → ℕ → List ℕ → GlobalFault → Type 0
IsOtherFault comma semi text (fault.Memory e) = Unit {0}
IsOtherFault comma semi text (fault.BadGlobal n) = StopsAt comma semi n text
