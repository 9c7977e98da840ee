-- The numbers of the faults of a line, and the words that are printed. solidd's own.
use Rattle.std.specs.Prelude.{ℕ, List, ◌++◌, codes, decimal}
use Rattle.script_lines.specs.declared.faults.LineFault.{LineFault}
use Rattle.script_lines.specs.declared.faults.LineFault.TheVariants as fault

-- solidd's own: the number of a fault
abbrev pub line_fault_number : LineFault → ℕ
line_fault_number (fault.BadLine column) = 2
line_fault_number fault.UnknownCommand = 3
line_fault_number fault.TooManySessions = 4

-- solidd's own: what is printed for a fault
abbrev pub line_fault_words : LineFault → List ℕ
line_fault_words (fault.BadLine column) = codes "BadLine " ++ decimal column
line_fault_words fault.UnknownCommand = codes "UnknownCommand"
line_fault_words fault.TooManySessions = codes "TooManySessions"
