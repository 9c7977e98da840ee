-- Faults of edits: their numbers and words, which are solidd's own.
use Rattle.std.specs.Prelude.{ℕ, List, ◌++◌, codes, decimal}
use Rattle.iges_parameters.specs.declared.faults.RowFault.{RowFault}
use Rattle.iges_parameters.specs.declared.faults.RowFault.TheVariants as row
use Rattle.iges_parameters.specs.Faults as rows
use Rattle.entity_graph.specs.declared.graph_faults.GraphFault.{GraphFault}
use Rattle.entity_graph.specs.declared.graph_faults.GraphFault.TheVariants as graph
use Rattle.edit_core.specs.declared.faults.EditFault.{EditFault}
use Rattle.edit_core.specs.declared.faults.EditFault.TheVariants as fault

-- solidd's own: the number of a fault
abbrev pub fault_number : EditFault → ℕ
fault_number (fault.Memory e) = 1
fault_number fault.EmptyBatch = 2
fault_number fault.Full = 3
fault_number (fault.NoEntity de) = 4
fault_number (fault.Taken de) = 5
fault_number (fault.BadNumber de) = 6
fault_number (fault.BadRecord de f) = 7
fault_number (fault.InUse de by) = 8
fault_number (fault.Dangling de to) = 9
fault_number (fault.WrongTarget de to) = 10
fault_number (fault.Cycle de) = 11
fault_number (fault.TooDeep de) = 12
fault_number (fault.TooHeavy de) = 13
fault_number fault.TooManyLines = 14

-- solidd's own: neither the fault nor the fault in it is out of memory
abbrev pub IsOfText : EditFault → Type 0
IsOfText (fault.Memory e) = ⊥
IsOfText fault.EmptyBatch = Unit {0}
IsOfText fault.Full = Unit {0}
IsOfText (fault.NoEntity de) = Unit {0}
IsOfText (fault.Taken de) = Unit {0}
IsOfText (fault.BadNumber de) = Unit {0}
IsOfText (fault.BadRecord de f) = rows.IsOfText f
IsOfText (fault.InUse de by) = Unit {0}
IsOfText (fault.Dangling de to) = Unit {0}
IsOfText (fault.WrongTarget de to) = Unit {0}
IsOfText (fault.Cycle de) = Unit {0}
IsOfText (fault.TooDeep de) = Unit {0}
IsOfText (fault.TooHeavy de) = Unit {0}
IsOfText fault.TooManyLines = Unit {0}

-- solidd's own: out of memory is that of the edit, and never that of a record in it
abbrev pub IsOuter : EditFault → Type 0
IsOuter (fault.Memory e) = Unit {0}
IsOuter fault.EmptyBatch = Unit {0}
IsOuter fault.Full = Unit {0}
IsOuter (fault.NoEntity de) = Unit {0}
IsOuter (fault.Taken de) = Unit {0}
IsOuter (fault.BadNumber de) = Unit {0}
IsOuter (fault.BadRecord de f) = rows.IsOfText f
IsOuter (fault.InUse de by) = Unit {0}
IsOuter (fault.Dangling de to) = Unit {0}
IsOuter (fault.WrongTarget de to) = Unit {0}
IsOuter (fault.Cycle de) = Unit {0}
IsOuter (fault.TooDeep de) = Unit {0}
IsOuter (fault.TooHeavy de) = Unit {0}
IsOuter fault.TooManyLines = Unit {0}

-- solidd's own: a name and two numbers, blanks between them
abbrev pub two_numbers : List ℕ → ℕ → ℕ → List ℕ
two_numbers name first second = (name ++ decimal first) ++ codes " " ++ decimal second

-- solidd's own: the fault's name and its numbers, and after them the words of a record's fault,
-- blanks between them. Out of memory is never printed, and so has no words
abbrev pub fault_words : EditFault → List ℕ
fault_words (fault.Memory e) = codes ""
fault_words fault.EmptyBatch = codes "EmptyBatch"
fault_words fault.Full = codes "Full"
fault_words (fault.NoEntity de) = codes "NoEntity " ++ decimal de
fault_words (fault.Taken de) = codes "Taken " ++ decimal de
fault_words (fault.BadNumber de) = codes "BadNumber " ++ decimal de
fault_words (fault.BadRecord de f) =
    (codes "BadRecord " ++ decimal de) ++ codes " " ++ rows.fault_words f
fault_words (fault.InUse de by) = two_numbers (codes "InUse ") de by
fault_words (fault.Dangling de to) = two_numbers (codes "Dangling ") de to
fault_words (fault.WrongTarget de to) = two_numbers (codes "WrongTarget ") de to
fault_words (fault.Cycle de) = codes "Cycle " ++ decimal de
fault_words (fault.TooDeep de) = codes "TooDeep " ++ decimal de
fault_words (fault.TooHeavy de) = codes "TooHeavy " ++ decimal de
fault_words fault.TooManyLines = codes "TooManyLines"

-- solidd's own: a fault of the references as a fault of the edit; out of memory is that of the edit
abbrev pub of_graph : GraphFault → EditFault
of_graph (graph.Memory e) = fault.Memory e
of_graph (graph.Dangling de to) = fault.Dangling de to
of_graph (graph.WrongTarget de to) = fault.WrongTarget de to
of_graph (graph.Cycle de) = fault.Cycle de
of_graph (graph.TooDeep de) = fault.TooDeep de
of_graph (graph.TooHeavy de) = fault.TooHeavy de

-- solidd's own: the fault of a staged record as a fault of the edit; out of memory is that of the
-- edit
abbrev pub of_record : ℕ → RowFault → EditFault
of_record de (row.Memory e) = fault.Memory e
of_record de row.NotRead = fault.BadRecord de row.NotRead
of_record de (row.Token index) = fault.BadRecord de (row.Token index)
of_record de (row.Missing index) = fault.BadRecord de (row.Missing index)
of_record de (row.WrongKind index) = fault.BadRecord de (row.WrongKind index)
of_record de (row.TooFar index) = fault.BadRecord de (row.TooFar index)
of_record de (row.BadSize index) = fault.BadRecord de (row.BadSize index)
of_record de (row.BadAxis index) = fault.BadRecord de (row.BadAxis index)
of_record de row.BadMatrix = fault.BadRecord de row.BadMatrix
of_record de (row.BadPostfix index) = fault.BadRecord de (row.BadPostfix index)
