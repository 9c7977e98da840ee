-- The fault of a part is the file's first fault, where the parts before it are whole.
use Rattle.std.proofs.Common.{◌≡◌, ℕ, ◌≤◌, ◌<◌, List, length, refl}
use Rattle.iges_cards.specs.declared.reader.Cards.{Cards}
use Rattle.iges_cards.specs.declared.faults.CardFault.{CardFault}
use Rattle.iges_cards.specs.declared.faults.CardFault.TheVariants as card
use Rattle.iges_cards.specs.Grammar.{IsFixedForm}
use Rattle.iges_cards.specs.FirstFault.{IsCardFault}
use Rattle.iges_cards.specs.Words as cards
use Rattle.iges_directory.specs.declared.globals.GlobalText.{GlobalText}
use Rattle.iges_directory.specs.declared.global_faults.GlobalFault.{GlobalFault}
use Rattle.iges_directory.specs.declared.global_faults.GlobalFault.TheVariants as global
use Rattle.iges_directory.specs.declared.directory_faults.DirFault.{DirFault}
use Rattle.iges_directory.specs.declared.directory_faults.DirFault.TheVariants as directory
use Rattle.iges_directory.specs.declared.pairs.Pair.{Pair}
use Rattle.iges_directory.specs.Global.{IsGlobal, IsFaultOf}
use Rattle.iges_directory.specs.Pairs.{IsDirectory}
use Rattle.iges_directory.specs.DirectoryFaults as directories
use Rattle.iges_directory.specs.FirstFaults.{IsDirectoryFault}
use Rattle.entity_graph.specs.declared.graph_faults.GraphFault.{GraphFault}
use Rattle.entity_graph.specs.declared.graph_faults.GraphFault.TheVariants as graph
use Rattle.entity_graph.specs.GraphFaults as graphs
use Rattle.entity_graph.specs.FirstFaults.{IsFault}
use Rattle.iges_file.specs.declared.faults.FileFault.{FileFault}
use Rattle.iges_file.specs.declared.faults.FileFault.TheVariants as fault
use Rattle.iges_file.specs.Faults.{IsOfText, IsOuter, of_card, of_global, of_directory, of_graph}
use Rattle.solid_base.specs.declared.entities.Entity.{Entity}
use Rattle.iges_parameters.specs.Accepted.{lines_of, most_lines}
use Rattle.iges_file.specs.Entities.{IsRowsFault, AreEntities}
use Rattle.iges_file.specs.Files.{Refused}

pub card_refused : (bytes : List ℕ) (f : CardFault) → (cards.IsOfText f → IsCardFault bytes f) → IsOfText (of_card f) → Refused bytes (of_card f)
card_refused bytes (card.Memory e) h text = absurd text
card_refused bytes card.NotFixed h text = h text
card_refused bytes (card.ShortLine line) h text = h text
card_refused bytes (card.LongLine line) h text = h text
card_refused bytes (card.BadSection line) h text = h text
card_refused bytes (card.BadSequence line) h text = h text
card_refused bytes card.NoTerminate h text = h text
card_refused bytes card.BadTerminate h text = h text
card_refused bytes (card.CountMismatch section told found) h text = h text

pub global_refused : (bytes : List ℕ) (cs : Cards) (f : GlobalFault) → IsFixedForm bytes cs → IsFaultOf cs.global f → IsOfText (of_global f) → Refused bytes (of_global f)
global_refused bytes cs (global.Memory e) form h text = absurd text
global_refused bytes cs (global.BadGlobal index) form h text = record { cards = cs; index = index; form = form; first = h; is = refl }

pub directory_refused : (bytes : List ℕ) (cs : Cards) (g : GlobalText) (f : DirFault) → IsFixedForm bytes cs → IsGlobal cs.global g
    → (directories.IsOfText f → IsDirectoryFault (length cs.params) cs.directory f) → IsOfText (of_directory f) → Refused bytes (of_directory f)
directory_refused bytes cs g (directory.Memory e) form whole h text = absurd text
directory_refused bytes cs g directory.OddLines form whole h text = record { cards = cs; text = g; form = form; globals = whole; first = h text }
directory_refused bytes cs g directory.TooManyEntities form whole h text = record { cards = cs; text = g; form = form; globals = whole; first = h text }
directory_refused bytes cs g (directory.BadField entity field) form whole h text = record { cards = cs; text = g; form = form; globals = whole; first = h text }
directory_refused bytes cs g (directory.TypeDiffers entity) form whole h text = record { cards = cs; text = g; form = form; globals = whole; first = h text }
directory_refused bytes cs g (directory.TooMuchText entity) form whole h text = record { cards = cs; text = g; form = form; globals = whole; first = h text }

pub rows_refused : (bytes : List ℕ) (cs : Cards) (g : GlobalText) (ps : List Pair) (f : FileFault) → IsFixedForm bytes cs → IsGlobal cs.global g → IsDirectory (length cs.params) cs.directory ps
    → IsRowsFault g.comma g.semi cs.params ps f → IsOfText f → Refused bytes f
rows_refused bytes cs g ps (fault.Memory e) form whole all h text = absurd text
rows_refused bytes cs g ps (fault.Card f) form whole all h text = absurd h
rows_refused bytes cs g ps (fault.Global f) form whole all h text = absurd h
rows_refused bytes cs g ps (fault.Directory f) form whole all h text = absurd h
rows_refused bytes cs g ps (fault.BadRow entity f) form whole all h text = record { cards = cs; text = g; pairs = ps; form = form; globals = whole; directory = all; first = h }
rows_refused bytes cs g ps fault.TooManyLines form whole all h text = absurd h
rows_refused bytes cs g ps (fault.Graph f) form whole all h text = absurd h

pub lines_refused : (bytes : List ℕ) (cs : Cards) (g : GlobalText) (ps : List Pair) (rows : List Entity) (f : FileFault) → IsFixedForm bytes cs → IsGlobal cs.global g → IsDirectory (length cs.params) cs.directory ps
    → AreEntities g.comma g.semi cs.params ps rows → f ≡ fault.TooManyLines → most_lines < lines_of g.comma g.semi rows → IsOfText f → Refused bytes f
lines_refused bytes cs g ps rows f form whole all es is many text =
    rw is (record { cards = cs; text = g; pairs = ps; rows = rows; form = form; globals = whole; directory = all; entities = es; many = many })

pub graph_refused : (bytes : List ℕ) (cs : Cards) (g : GlobalText) (ps : List Pair) (rows : List Entity) (f : GraphFault) → IsFixedForm bytes cs → IsGlobal cs.global g → IsDirectory (length cs.params) cs.directory ps
    → AreEntities g.comma g.semi cs.params ps rows → lines_of g.comma g.semi rows ≤ most_lines → (graphs.IsOfText f → IsFault rows f) → IsOfText (of_graph f) → Refused bytes (of_graph f)
graph_refused bytes cs g ps rows (graph.Memory e) form whole all es few h text = absurd text
graph_refused bytes cs g ps rows (graph.Dangling entity to) form whole all es few h text = record { cards = cs; text = g; pairs = ps; rows = rows; form = form; globals = whole; directory = all; entities = es; few = few; first = h text }
graph_refused bytes cs g ps rows (graph.WrongTarget entity to) form whole all es few h text = record { cards = cs; text = g; pairs = ps; rows = rows; form = form; globals = whole; directory = all; entities = es; few = few; first = h text }
graph_refused bytes cs g ps rows (graph.Cycle entity) form whole all es few h text = record { cards = cs; text = g; pairs = ps; rows = rows; form = form; globals = whole; directory = all; entities = es; few = few; first = h text }
graph_refused bytes cs g ps rows (graph.TooDeep entity) form whole all es few h text = record { cards = cs; text = g; pairs = ps; rows = rows; form = form; globals = whole; directory = all; entities = es; few = few; first = h text }
graph_refused bytes cs g ps rows (graph.TooHeavy entity) form whole all es few h text = record { cards = cs; text = g; pairs = ps; rows = rows; form = form; globals = whole; directory = all; entities = es; few = few; first = h text }

-- ---- a fault of a part is none of memory

pub card_outer : (f : CardFault) → IsOuter (of_card f)
card_outer (card.Memory e) = tt
card_outer card.NotFixed = λ e. cc
card_outer (card.ShortLine line) = λ e. cc
card_outer (card.LongLine line) = λ e. cc
card_outer (card.BadSection line) = λ e. cc
card_outer (card.BadSequence line) = λ e. cc
card_outer card.NoTerminate = λ e. cc
card_outer card.BadTerminate = λ e. cc
card_outer (card.CountMismatch section told found) = λ e. cc

pub global_outer : (f : GlobalFault) → IsOuter (of_global f)
global_outer (global.Memory e) = tt
global_outer (global.BadGlobal index) = λ e. cc

pub directory_outer : (f : DirFault) → IsOuter (of_directory f)
directory_outer (directory.Memory e) = tt
directory_outer directory.OddLines = λ e. cc
directory_outer directory.TooManyEntities = λ e. cc
directory_outer (directory.BadField entity field) = λ e. cc
directory_outer (directory.TypeDiffers entity) = λ e. cc
directory_outer (directory.TooMuchText entity) = λ e. cc

pub graph_outer : (f : GraphFault) → IsOuter (of_graph f)
graph_outer (graph.Memory e) = tt
graph_outer (graph.Dangling entity to) = λ e. cc
graph_outer (graph.WrongTarget entity to) = λ e. cc
graph_outer (graph.Cycle entity) = λ e. cc
graph_outer (graph.TooDeep entity) = λ e. cc
graph_outer (graph.TooHeavy entity) = λ e. cc
