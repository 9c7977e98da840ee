-- How a reading of the input stops.
use Rattle.std.proofs.Common.{◌≡◌, ℕ, List, Ok, Err, IsErrAnd, IfErr, Result, sym, subst}
use Rattle.std.specs.declared.option.Option.{Option}
use Rattle.solid_top.specs.declared.streams.ReadError.{ReadError}
use Rattle.solid_top.specs.declared.streams.ReadError.TheVariants.{Memory}
use Rattle.solid_top.specs.Streams.{IsShortRead, Stopped}

-- a reading that lacked memory had read few bytes
pub stopped_memory : {T : Type 0} (old new : Option (List ℕ)) (result : Result T ReadError)
    → IsErrAnd result (λ e. e ≡ Memory) → IsShortRead old new → IfErr result (Stopped old new)
stopped_memory old new (Ok _) memory short = tt
stopped_memory old new (Err e) memory short =
    subst (λ (e : ReadError). Stopped old new e) (sym memory) short
