-- Faults of graphs: their numbers and words, which are solidd's own.
use Rattle.std.specs.Prelude.{◌≢◌, ℕ, List, ◌++◌, codes, decimal}
use Rattle.entity_graph.specs.declared.graph_faults.GraphFault.{GraphFault}
use Rattle.entity_graph.specs.declared.graph_faults.GraphFault.TheVariants as fault

-- solidd's own: the number of a fault
abbrev pub fault_number : GraphFault → ℕ
fault_number (fault.Memory e) = 1
fault_number (fault.Dangling de to) = 2
fault_number (fault.WrongTarget de to) = 3
fault_number (fault.Cycle de) = 4
fault_number (fault.TooDeep de) = 5
fault_number (fault.TooHeavy de) = 6

-- solidd's own: the fault isn't out of memory
abbrev pub IsOfText : GraphFault → Type 0
IsOfText f = fault_number f ≢ 1

-- solidd's own: the fault's name and its numbers, blanks between them. Out of memory is never
-- printed, and so has no words
abbrev pub fault_words : GraphFault → List ℕ
fault_words (fault.Memory e) = codes ""
fault_words (fault.Dangling de to) = (codes "Dangling " ++ decimal de) ++ codes " " ++ decimal to
fault_words (fault.WrongTarget de to) =
    (codes "WrongTarget " ++ decimal de) ++ codes " " ++ decimal to
fault_words (fault.Cycle de) = codes "Cycle " ++ decimal de
fault_words (fault.TooDeep de) = codes "TooDeep " ++ decimal de
fault_words (fault.TooHeavy de) = codes "TooHeavy " ++ decimal de
