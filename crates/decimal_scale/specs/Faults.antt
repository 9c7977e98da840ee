-- The numbers and words of faults (solidd's own).
use Rattle.std.specs.Prelude.{ℕ, List, codes}
use Rattle.decimal_scale.specs.declared.faults.RealFault.{RealFault}
use Rattle.decimal_scale.specs.declared.faults.RealFault.TheVariants as fault

abbrev pub fault_number : RealFault → ℕ
fault_number fault.BadReal = 2
fault_number fault.TooBig = 3

abbrev pub fault_words : RealFault → List ℕ
fault_words fault.BadReal = codes "BadReal"
fault_words fault.TooBig = codes "TooBig"
