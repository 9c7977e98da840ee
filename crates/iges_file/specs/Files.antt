-- A whole file: the model that it is read as, or its first fault.
use Rattle.std.specs.Prelude.{◌≡◌, ℕ, ◌<◌, ◌≤◌, List, length}
use Rattle.solid_base.specs.declared.entities.Model.{Model}
use Rattle.solid_base.specs.declared.entities.Entity.{Entity}
use Rattle.iges_cards.specs.declared.reader.Cards.{Cards}
use Rattle.iges_cards.specs.Grammar.{IsFixedForm}
use Rattle.iges_cards.specs.FirstFault.{IsCardFault}
use Rattle.iges_directory.specs.declared.globals.GlobalText.{GlobalText}
use Rattle.iges_directory.specs.declared.global_faults.GlobalFault.{GlobalFault}
use Rattle.iges_directory.specs.declared.global_faults.GlobalFault.TheVariants as global
use Rattle.iges_directory.specs.declared.directory_faults.DirFault.{DirFault}
use Rattle.iges_directory.specs.declared.pairs.Pair.{Pair}
use Rattle.iges_directory.specs.Global.{IsGlobal, IsFirstFault}
use Rattle.iges_directory.specs.Pairs.{IsDirectory}
use Rattle.iges_directory.specs.FirstFaults.{IsDirectoryFault}
use Rattle.iges_parameters.specs.declared.faults.RowFault.{RowFault}
use Rattle.entity_graph.specs.declared.graph_faults.GraphFault.{GraphFault}
use Rattle.entity_graph.specs.FirstFaults.{IsFault}
use Rattle.solid_base.specs.Graph.{AreSound}
use Rattle.iges_file.specs.declared.faults.FileFault.{FileFault}
use Rattle.iges_file.specs.declared.faults.FileFault.TheVariants as fault
use Rattle.iges_parameters.specs.Accepted.{lines_of, most_lines}
use Rattle.iges_file.specs.Entities.{AreEntities, IsBadRow}

-- the delimiters and the global parameters of a model
abbrev pub global_of : Model → GlobalText
global_of model = record { comma = model.comma; semi = model.semi; tokens = model.global }

-- the bytes before `end` are a file that is read as this model (IGES 5.3, 2.2)
pub record Reads (bytes : List ℕ) (model : Model) (end : ℕ) : Type 0 where
  pub cards : Cards
  pub pairs : List Pair
  pub form : IsFixedForm bytes cards
  pub place : end ≡ cards.end
  pub start : model.start ≡ cards.start
  pub globals : IsGlobal cards.global (global_of model)
  pub directory : IsDirectory (length cards.params) cards.directory pairs
  pub entities : AreEntities model.comma model.semi cards.params pairs model.rows
  pub few : lines_of model.comma model.semi model.rows ≤ most_lines
  pub sound : AreSound model.rows

-- ---- the first fault, part by part

-- the lines are in the fixed form, and the global section has this fault
pub record HasGlobalFault (bytes : List ℕ) (f : GlobalFault) : Type 0 where
  pub cards : Cards
  pub index : ℕ
  pub form : IsFixedForm bytes cards
  pub first : IsFirstFault index cards.global
  pub is : f ≡ global.BadGlobal index

-- the global section is whole, and the directory has this fault
pub record HasDirectoryFault (bytes : List ℕ) (f : DirFault) : Type 0 where
  pub cards : Cards
  pub text : GlobalText
  pub form : IsFixedForm bytes cards
  pub globals : IsGlobal cards.global text
  pub first : IsDirectoryFault (length cards.params) cards.directory f

-- the directory is whole, and the record of this entity is the first that has a fault
pub record HasBadRow (bytes : List ℕ) (entity : ℕ) (f : RowFault) : Type 0 where
  pub cards : Cards
  pub text : GlobalText
  pub pairs : List Pair
  pub form : IsFixedForm bytes cards
  pub globals : IsGlobal cards.global text
  pub directory : IsDirectory (length cards.params) cards.directory pairs
  pub first : IsBadRow text.comma text.semi cards.params pairs entity f

-- all records are read, and would take too many lines
pub record HasTooManyLines (bytes : List ℕ) : Type 0 where
  pub cards : Cards
  pub text : GlobalText
  pub pairs : List Pair
  pub rows : List Entity
  pub form : IsFixedForm bytes cards
  pub globals : IsGlobal cards.global text
  pub directory : IsDirectory (length cards.params) cards.directory pairs
  pub entities : AreEntities text.comma text.semi cards.params pairs rows
  pub many : most_lines < lines_of text.comma text.semi rows

-- all records are read and take few enough lines, and the references between entities have this
-- first fault
pub record HasGraphFault (bytes : List ℕ) (f : GraphFault) : Type 0 where
  pub cards : Cards
  pub text : GlobalText
  pub pairs : List Pair
  pub rows : List Entity
  pub form : IsFixedForm bytes cards
  pub globals : IsGlobal cards.global text
  pub directory : IsDirectory (length cards.params) cards.directory pairs
  pub entities : AreEntities text.comma text.semi cards.params pairs rows
  pub few : lines_of text.comma text.semi rows ≤ most_lines
  pub first : IsFault rows f

-- the bytes have this first fault. Out of memory is none of theirs
abbrev pub Refused : List ℕ → FileFault → Type 0
Refused bytes (fault.Memory e) = ⊥
Refused bytes (fault.Card f) = IsCardFault bytes f
Refused bytes (fault.Global f) = HasGlobalFault bytes f
Refused bytes (fault.Directory f) = HasDirectoryFault bytes f
Refused bytes (fault.BadRow entity f) = HasBadRow bytes entity f
Refused bytes fault.TooManyLines = HasTooManyLines bytes
Refused bytes (fault.Graph f) = HasGraphFault bytes f
