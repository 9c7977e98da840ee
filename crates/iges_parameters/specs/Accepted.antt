-- The models that are served: what holds of every model that is read from a file or made by edits.
use Rattle.std.specs.Prelude.{◌≡◌, ℕ, ◌+◌, ◌*◌, ◌≤◌, ◌^◌, List, [], ◌∷◌, false, length}
use Rattle.std.specs.List.{AllByRecursion}
use Rattle.solid_base.specs.declared.entities.Entity.{Entity}
use Rattle.solid_base.specs.declared.entities.Model.{Model}
use Rattle.solid_base.specs.declared.entities.Token.TheVariants as token
use Rattle.solid_base.specs.declared.solids.Row.TheVariants as row
use Rattle.solid_base.specs.Spelling.{before_blanks}
use Rattle.solid_base.specs.Ranges.{IsLawfulRow, most_whole}
use Rattle.solid_base.specs.Graph.{AreSound}
use Rattle.solid_base.specs.Texts.{IsOneLine, blank_attributes}
use Rattle.iges_fields.specs.Delimiters.{AreDelimiters}
use Rattle.iges_fields.specs.Layout.{AreSpelt, AreOneLine, laid}
use Rattle.iges_parameters.specs.Tables.{is_read}
use Rattle.iges_parameters.specs.Writing.{record_text, lines_for, matrix_of_row}
use Rattle.iges_parameters.specs.WrittenRows.{IsTailOf}

-- ---- lines

-- solidd's own: how many entities a model may have
abbrev pub most_entities : ℕ
most_entities = 100000

-- solidd's own: how many lines the records of a model may take
abbrev pub most_lines : ℕ
most_lines = 300000

-- IGES 5.3, 2.2.4 (file structure): sequence numbers of lines have seven digits, so a section has
-- at most so many lines
abbrev pub most_section_lines : ℕ
most_section_lines = 9999999

-- how many lines of 64 columns the records of entities take where they are written
abbrev pub lines_of : ℕ → ℕ → List Entity → ℕ
lines_of comma semi [] = 0
lines_of comma semi (e ∷ es) =
    lines_for (length (record_text comma semi e.row e.tail)) + lines_of comma semi es

-- IGES 5.3, 2.2.4.3 (global section): the text of a global section as it is written, in lines of 72
-- columns: the two delimiters as texts of one byte, and the other parameters
abbrev pub global_text : Model → List ℕ
global_text model =
    laid 72 model.comma model.semi 0
    (token.Text (model.comma ∷ []) ∷ token.Text (model.semi ∷ []) ∷ model.global)

-- ---- entities

-- an entity whose record can be written
abbrev pub IsWritable : Entity → Type 0
IsWritable e = IsLawfulRow e.row × AreSpelt e.tail × IsTailOf e.row e.tail

-- the record of an entity that isn't read, with its type and form: it is kept as one line
pub record IsKeptRecord (kind form : ℕ) (text : List ℕ) : Type 0 where
  pub kind_from : 1 ≤ kind
  pub kind_to : kind ≤ 99999
  pub form_to : form ≤ 99999
  pub not_read : is_read kind form ≡ false
  pub one_line : IsOneLine text
  pub no_blanks_after : before_blanks text ≡ text
  pub short : length text ≤ 2 ^ 25

-- an entity of a model that is served
pub record IsAcceptedEntity (e : Entity) : Type 0 where
  -- IGES 5.3, 2.2.4.4 (directory entry section): the twelve directory fields of eight columns that
  -- are kept unread
  pub attributes : length e.attrs ≡ 96
  pub attributes_in_line : IsOneLine e.attrs
  pub lawful : IsLawfulRow e.row
  pub matrix : matrix_of_row e.row ≤ most_whole
  pub tail_spelt : AreSpelt e.tail
  pub tail_in_line : AreOneLine e.tail
  -- no fields stand after a row that isn't read, nor in a null entity
  pub tail_of_row : IsTailOf e.row e.tail
  pub blank_where_null : e.row ≡ row.Null → e.attrs ≡ blank_attributes
  pub kept_where_unread : (kind form matrix : ℕ) (text : List ℕ)
      → e.row ≡ row.Opaque kind form matrix text → IsKeptRecord kind form text

-- ---- models

-- a line of the start section
abbrev pub IsStartLine : List ℕ → Type 0
IsStartLine line = (length line ≡ 72) × IsOneLine line

-- a model that is served: what holds of each model that is read, and what a file is to be written
-- from
pub record IsAccepted (model : Model) : Type 0 where
  pub few_entities : length model.rows ≤ most_entities
  pub entities : AllByRecursion IsAcceptedEntity model.rows
  pub references : AreSound model.rows
  pub few_lines : lines_of model.comma model.semi model.rows ≤ most_lines
  pub delimiters : AreDelimiters model.comma model.semi
  pub some_start : 1 ≤ length model.start
  pub few_start : length model.start ≤ most_section_lines
  pub start_lines : AllByRecursion IsStartLine model.start
  pub global_spelt : AreSpelt model.global
  pub global_in_line : AreOneLine model.global
  pub few_global : length (global_text model) ≤ 72 * most_section_lines
