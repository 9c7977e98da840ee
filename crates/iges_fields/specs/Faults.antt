-- solidd's own: the numbers and words of the faults of fields.
use Rattle.std.specs.Prelude.{ℕ, List, codes}
use Rattle.iges_fields.specs.declared.faults.FieldFault.{FieldFault}
use Rattle.iges_fields.specs.declared.faults.FieldFault.TheVariants.{BadText, BadToken, NoEnd}

abbrev pub number_of : FieldFault → ℕ
number_of BadText = 2
number_of BadToken = 3
number_of NoEnd = 4

abbrev pub words_of : FieldFault → List ℕ
words_of BadText = codes "BadText"
words_of BadToken = codes "BadToken"
words_of NoEnd = codes "NoEnd"
