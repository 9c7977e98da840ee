-- solidd's own: the numbers and the printed words of the faults of a whole run.
use Rattle.std.specs.Prelude.{◌≡◌, ℕ, List, ◌++◌, codes}
use Rattle.iges_file.specs.declared.faults.FileFault.{FileFault}
use Rattle.iges_file.specs.Files.{Refused}
use Rattle.iges_file.specs.Faults as files
use Rattle.solid_top.specs.declared.faults.TopFault.{TopFault}
use Rattle.solid_top.specs.declared.faults.TopFault.TheVariants as fault

-- the number of a fault: that of the file's fault
abbrev pub top_number : TopFault → ℕ
top_number (fault.File f) = files.fault_number f

-- neither the fault nor a fault in it is out of memory
abbrev pub IsOfText : TopFault → Type 0
IsOfText (fault.File f) = files.IsOfText f

abbrev pub top_words : TopFault → List ℕ
top_words (fault.File f) = files.fault_words f

-- the line for a refused model
abbrev pub refused_text : TopFault → List ℕ
refused_text fault = codes "MODEL REFUSED " ++ (top_words fault ++ codes "\n")

-- the bytes are refused as a file, and this is the line for their first fault
abbrev pub IsRefusal : List ℕ → List ℕ → Type 0
IsRefusal bytes text = (f : FileFault) × Refused bytes f × (text ≡ refused_text (fault.File f))
