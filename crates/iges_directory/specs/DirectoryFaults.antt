-- Faults of directories: their numbers and words, which are solidd's own.
use Rattle.std.specs.Prelude.{◌≢◌, ℕ, List, ◌++◌, codes, decimal}
use Rattle.iges_directory.specs.declared.directory_faults.DirFault.{DirFault}
use Rattle.iges_directory.specs.declared.directory_faults.DirFault.TheVariants as fault

-- the number of a fault
abbrev pub fault_number : DirFault → ℕ
fault_number (fault.Memory e) = 1
fault_number fault.OddLines = 2
fault_number fault.TooManyEntities = 3
fault_number (fault.BadField entity field) = 4
fault_number (fault.TypeDiffers entity) = 5
fault_number (fault.TooMuchText entity) = 6

-- the fault isn't out of memory
abbrev pub IsOfText : DirFault → Type 0
IsOfText f = fault_number f ≢ 1

-- the fault's name and its numbers, blanks between them. Out of memory is never printed, and so has
-- no words
abbrev pub fault_words : DirFault → List ℕ
fault_words (fault.Memory e) = codes ""
fault_words fault.OddLines = codes "OddLines"
fault_words fault.TooManyEntities = codes "TooManyEntities"
fault_words (fault.BadField entity field) =
    (codes "BadField " ++ decimal entity) ++ codes " " ++ decimal field
fault_words (fault.TypeDiffers entity) = codes "TypeDiffers " ++ decimal entity
fault_words (fault.TooMuchText entity) = codes "TooMuchText " ++ decimal entity
