-- Faults of files: those of their parts, and two of their own. Their numbers and words are solidd's
-- own.
use Rattle.std.specs.Prelude.{ℕ, List, ◌++◌, codes, decimal}
use Rattle.iges_cards.specs.declared.faults.CardFault.{CardFault}
use Rattle.iges_cards.specs.declared.faults.CardFault.TheVariants as card
use Rattle.iges_cards.specs.Words as cards
use Rattle.iges_directory.specs.declared.global_faults.GlobalFault.{GlobalFault}
use Rattle.iges_directory.specs.declared.global_faults.GlobalFault.TheVariants as global
use Rattle.iges_directory.specs.GlobalFaults as globals
use Rattle.iges_directory.specs.declared.directory_faults.DirFault.{DirFault}
use Rattle.iges_directory.specs.declared.directory_faults.DirFault.TheVariants as directory
use Rattle.iges_directory.specs.DirectoryFaults as directories
use Rattle.iges_parameters.specs.declared.faults.RowFault.{RowFault}
use Rattle.iges_parameters.specs.declared.faults.RowFault.TheVariants as row
use Rattle.iges_parameters.specs.Faults as rows
use Rattle.entity_graph.specs.declared.graph_faults.GraphFault.{GraphFault}
use Rattle.entity_graph.specs.declared.graph_faults.GraphFault.TheVariants as graph
use Rattle.entity_graph.specs.GraphFaults as graphs
use Rattle.iges_file.specs.declared.faults.FileFault.{FileFault}
use Rattle.iges_file.specs.declared.faults.FileFault.TheVariants as fault

-- the number of a fault: that of the nested fault, and 20 of a row's
abbrev pub fault_number : FileFault → ℕ
fault_number (fault.Memory e) = 1
fault_number (fault.Card f) = cards.fault_number f
fault_number (fault.Global f) = globals.fault_number f
fault_number (fault.Directory f) = directories.fault_number f
fault_number (fault.BadRow entity f) = 20
fault_number fault.TooManyLines = 21
fault_number (fault.Graph f) = graphs.fault_number f

-- neither the fault nor the fault in it is out of memory
abbrev pub IsOfText : FileFault → Type 0
IsOfText (fault.Memory e) = ⊥
IsOfText (fault.Card f) = cards.IsOfText f
IsOfText (fault.Global f) = globals.IsOfText f
IsOfText (fault.Directory f) = directories.IsOfText f
IsOfText (fault.BadRow entity f) = rows.IsOfText f
IsOfText fault.TooManyLines = Unit {0}
IsOfText (fault.Graph f) = graphs.IsOfText f

-- out of memory is that of the file, and never that of a fault in it
abbrev pub IsOuter : FileFault → Type 0
IsOuter (fault.Memory e) = Unit {0}
IsOuter (fault.Card f) = cards.IsOfText f
IsOuter (fault.Global f) = globals.IsOfText f
IsOuter (fault.Directory f) = directories.IsOfText f
IsOuter (fault.BadRow entity f) = rows.IsOfText f
IsOuter fault.TooManyLines = Unit {0}
IsOuter (fault.Graph f) = graphs.IsOfText f

-- the words of a nested fault are those of the file's; the fault of a row names the entity first
abbrev pub fault_words : FileFault → List ℕ
fault_words (fault.Memory e) = codes ""
fault_words (fault.Card f) = cards.fault_words f
fault_words (fault.Global f) = globals.fault_words f
fault_words (fault.Directory f) = directories.fault_words f
fault_words (fault.BadRow entity f) =
    (codes "BadRow " ++ decimal entity) ++ codes " " ++ rows.fault_words f
fault_words fault.TooManyLines = codes "TooManyLines"
fault_words (fault.Graph f) = graphs.fault_words f

-- a fault of a part as a fault of the file; out of memory is that of the file
abbrev pub of_card : CardFault → FileFault
of_card (card.Memory e) = fault.Memory e
of_card card.NotFixed = fault.Card card.NotFixed
of_card (card.ShortLine line) = fault.Card (card.ShortLine line)
of_card (card.LongLine line) = fault.Card (card.LongLine line)
of_card (card.BadSection line) = fault.Card (card.BadSection line)
of_card (card.BadSequence line) = fault.Card (card.BadSequence line)
of_card card.NoTerminate = fault.Card card.NoTerminate
of_card card.BadTerminate = fault.Card card.BadTerminate
of_card (card.CountMismatch section told found) = fault.Card (card.CountMismatch section told found)

abbrev pub of_global : GlobalFault → FileFault
of_global (global.Memory e) = fault.Memory e
of_global (global.BadGlobal index) = fault.Global (global.BadGlobal index)

abbrev pub of_directory : DirFault → FileFault
of_directory (directory.Memory e) = fault.Memory e
of_directory directory.OddLines = fault.Directory directory.OddLines
of_directory directory.TooManyEntities = fault.Directory directory.TooManyEntities
of_directory (directory.BadField entity field) = fault.Directory (directory.BadField entity field)
of_directory (directory.TypeDiffers entity) = fault.Directory (directory.TypeDiffers entity)
of_directory (directory.TooMuchText entity) = fault.Directory (directory.TooMuchText entity)

abbrev pub of_row : ℕ → RowFault → FileFault
of_row entity (row.Memory e) = fault.Memory e
of_row entity row.NotRead = fault.BadRow entity row.NotRead
of_row entity (row.Token index) = fault.BadRow entity (row.Token index)
of_row entity (row.Missing index) = fault.BadRow entity (row.Missing index)
of_row entity (row.WrongKind index) = fault.BadRow entity (row.WrongKind index)
of_row entity (row.TooFar index) = fault.BadRow entity (row.TooFar index)
of_row entity (row.BadSize index) = fault.BadRow entity (row.BadSize index)
of_row entity (row.BadAxis index) = fault.BadRow entity (row.BadAxis index)
of_row entity row.BadMatrix = fault.BadRow entity row.BadMatrix
of_row entity (row.BadPostfix index) = fault.BadRow entity (row.BadPostfix index)

abbrev pub of_graph : GraphFault → FileFault
of_graph (graph.Memory e) = fault.Memory e
of_graph (graph.Dangling entity to) = fault.Graph (graph.Dangling entity to)
of_graph (graph.WrongTarget entity to) = fault.Graph (graph.WrongTarget entity to)
of_graph (graph.Cycle entity) = fault.Graph (graph.Cycle entity)
of_graph (graph.TooDeep entity) = fault.Graph (graph.TooDeep entity)
of_graph (graph.TooHeavy entity) = fault.Graph (graph.TooHeavy entity)
