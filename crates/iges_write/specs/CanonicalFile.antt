-- The file of a model as it is written (IGES 5.3, 2.2.4 (file structure)). Among the files that are
-- read as the model it is the one of solidd's own choice: each parameter written out, numbers right
-- aligned, records laid in lines as solidd lays them.
use Rattle.std.specs.Prelude.{ℕ, ◌+◌, ◌*◌, List, [], ◌∷◌, ◌++◌, length, take, drop, map}
use Rattle.std.specs.List.{concat}
use Rattle.solid_base.specs.declared.entities.Entity.{Entity}
use Rattle.solid_base.specs.declared.entities.Model.{Model}
use Rattle.iges_parameters.specs.Accepted.{lines_of, global_text}
use Rattle.iges_parameters.specs.Writing.{record_text, type_of_row, form_of_row, matrix_of_row}
use Rattle.iges_write.specs.Cards.{right_aligned, card, cards, lines_in}

-- ---- global section

-- IGES 5.3, 2.2.4.3 (global section): the delimiters and the parameters, in lines of 72 columns
abbrev pub global_lines : Model → List (List ℕ)
global_lines model = lines_in 72 (global_text model)

-- ---- directory entry section

-- the lines of 64 columns in which the record of an entity stands
abbrev pub record_lines : ℕ → ℕ → Entity → List (List ℕ)
record_lines comma semi e = lines_in 64 (record_text comma semi e.row e.tail)

-- IGES 5.3, 2.2.4.4 (directory entry section), fields 1 to 9: the type, the number of the first
-- parameter line, four fields as they were, the matrix, and two as they were
unfoldable pub entry_first : ℕ → Entity → List ℕ
entry_first first e =
    right_aligned 8 (type_of_row e.row) ++ right_aligned 8 first ++ take 32 e.attrs
    ++ right_aligned 8 (matrix_of_row e.row) ++ take 16 (drop 32 e.attrs)

-- IGES 5.3, 2.2.4.4 (directory entry section), fields 11 to 19: the type, two fields as they were,
-- how many parameter lines there are, the form, and four as they were
unfoldable pub entry_second : ℕ → Entity → List ℕ
entry_second count e =
    right_aligned 8 (type_of_row e.row) ++ take 16 (drop 48 e.attrs) ++ right_aligned 8 count
    ++ right_aligned 8 (form_of_row e.row) ++ take 32 (drop 64 e.attrs)

-- two lines an entity; its parameter lines come after those of the entities before it
unfoldable pub entry_lines : ℕ → ℕ → List Entity → List Entity → List (List ℕ)
entry_lines comma semi before [] = []
entry_lines comma semi before (e ∷ es) =
    entry_first (lines_of comma semi before + 1) e
    ∷ entry_second (length (record_lines comma semi e)) e
    ∷ entry_lines comma semi (before ++ e ∷ []) es

-- the directory of a model
abbrev pub directory_lines : Model → List (List ℕ)
directory_lines model = entry_lines model.comma model.semi [] model.rows

-- ---- parameter data section

-- IGES 5.3, 2.2.4.5 (parameter data section): lines of 64 columns, a blank, and in columns 66 to 72
-- the number of the entity, which is the odd number of its first directory line
abbrev pub with_number : ℕ → List (List ℕ) → List (List ℕ)
with_number number lines = map (λ line. line ++ 32 ∷ right_aligned 7 number) lines

-- the records of entities, one after the other; the entity at place i, from 0, has the number
-- 2i + 1
unfoldable pub records_lines : ℕ → ℕ → List Entity → List Entity → List (List ℕ)
records_lines comma semi before [] = []
records_lines comma semi before (e ∷ es) =
    with_number (2 * length before + 1) (record_lines comma semi e)
    ++ records_lines comma semi (before ++ e ∷ []) es

-- the parameter lines of a model
abbrev pub parameter_lines : Model → List (List ℕ)
parameter_lines model = records_lines model.comma model.semi [] model.rows

-- ---- terminate section

-- a section's letter, and the number of its last line in seven columns
abbrev pub group : ℕ → ℕ → List ℕ
group letter count = letter ∷ right_aligned 7 count

-- IGES 5.3, 2.2.4.6 (terminate section): the groups of the sections S, G, D and P
unfoldable pub groups : ℕ → ℕ → ℕ → ℕ → List ℕ
groups start global directory parameter =
    group 83 start ++ group 71 global ++ group 68 directory ++ group 80 parameter

-- the groups of a model's file
abbrev pub groups_of : Model → List ℕ
groups_of model =
    groups (length model.start) (length (global_lines model)) (length (directory_lines model))
    (length (parameter_lines model))

-- ---- the whole file

-- the lines of a model's file: the sections S, G, D and P, each numbered from 1, and the T line
unfoldable pub canonical_lines : Model → List (List ℕ)
canonical_lines model =
    cards 83 1 model.start ++ cards 71 1 (global_lines model)
    ++ cards 68 1 (directory_lines model) ++ cards 80 1 (parameter_lines model)
    ++ card 84 1 (groups_of model) ∷ []

-- the text of a model's file
unfoldable pub canonical_text : Model → List ℕ
canonical_text model = concat (canonical_lines model)
