-- solidd's own: what a check of bytes answers.
use Rattle.std.specs.Prelude.{◌≡◌, ℕ, ◌+◌, ◌-◌, ◌*◌, ◌==◌, ◌&&◌, Bool, true, false, not, List, []}
use Rattle.std.specs.Prelude.{◌∷◌, ◌++◌, codes, decimal, length, slice_get, Option, None, Some}
use Rattle.std.specs.Prelude.{if◌then◌else◌}
use Rattle.std.specs.List.{list_any}
use Rattle.solid_base.specs.References.{references}
use Rattle.solid_base.specs.Graph.{depth_of, weight_of}
use Rattle.solid_base.specs.declared.entities.Entity.{Entity}
use Rattle.solid_base.specs.declared.entities.Model.{Model}
use Rattle.solid_base.specs.declared.entities.Token.{Token}
use Rattle.solid_base.specs.declared.entities.Token.TheVariants as token
use Rattle.solid_base.specs.declared.solids.Row.{Row}
use Rattle.solid_base.specs.declared.solids.Row.TheVariants as row
use Rattle.iges_file.specs.Files.{Reads}
use Rattle.solid_top.specs.declared.report.Tallies.{Tallies}
use Rattle.solid_top.specs.declared.statuses.Status.{Status}
use Rattle.solid_top.specs.Statuses.{IsDoneOrRefused}
use Rattle.solid_top.specs.TopFaults.{IsRefusal}

abbrev pub one_null : Tallies → Tallies
one_null t = record { null = t.null + 1; kept = t.kept; read = t.read }

abbrev pub one_kept : Tallies → Tallies
one_kept t = record { null = t.null; kept = t.kept + 1; read = t.read }

abbrev pub one_read : Tallies → Tallies
one_read t = record { null = t.null; kept = t.kept; read = t.read + 1 }

-- with one row more
abbrev pub with_row : Tallies → Row → Tallies
with_row t row.Null = one_null t
with_row t (row.Opaque kind form matrix text) = one_kept t
with_row t (row.Matrix form affine next) = one_read t
with_row t (row.Prim p matrix) = one_read t
with_row t (row.Tree items matrix) = one_read t
with_row t (row.Assembly items matrix) = one_read t
with_row t (row.Instance child matrix) = one_read t

-- the rows of entities, from the first to the last, after those that were counted
abbrev pub tallies_from : Tallies → List Entity → Tallies
tallies_from t [] = t
tallies_from t (e ∷ es) = tallies_from (with_row t e.row) es

abbrev pub tallies_of : List Entity → Tallies
tallies_of rows = tallies_from (record { null = 0; kept = 0; read = 0 }) rows

-- a global parameter as it is printed: a number as it is spelt, the content of a text, `-` where it
-- is empty or left out
abbrev pub parameter_words : Option Token → List ℕ
parameter_words None = codes "-"
parameter_words (Some token.Empty) = codes "-"
parameter_words (Some (token.Whole text)) = text
parameter_words (Some (token.Real text)) = text
parameter_words (Some (token.Text text)) = text

-- the global parameter with this number (IGES 5.3, 2.2.4.3), which is at least 3
abbrev pub global_words : Model → ℕ → List ℕ
global_words model number = parameter_words (slice_get model.global (number - 3))

-- how many rows there are, and how many of them are read, kept and null
abbrev pub rows_line : List Entity → List ℕ
rows_line rows =
    codes "MODEL "
    ++ (decimal (length rows)
    ++ (codes " READ "
    ++ (decimal (tallies_of rows).read
    ++ (codes " KEPT "
    ++ (decimal (tallies_of rows).kept
    ++ (codes " NULL " ++ (decimal (tallies_of rows).null ++ codes "\n")))))))

-- the model space scale (13), the units flag (14) and the version flag (23)
abbrev pub globals_line : Model → List ℕ
globals_line model =
    codes "SCALE "
    ++ (global_words model 13
    ++ (codes " UNITS "
    ++ (global_words model 14 ++ (codes " VERSION " ++ (global_words model 23 ++ codes "\n")))))

-- the entity names this number
abbrev pub names : ℕ → Entity → Bool
names number entity = list_any (λ named. named == number) (references entity.row)

-- some entity names this number
abbrev pub is_named : List Entity → ℕ → Bool
is_named rows number = list_any (names number) rows

-- a solid: a primitive, a Boolean tree, an assembly or an instance
abbrev pub is_solid : Row → Bool
is_solid row.Null = false
is_solid (row.Opaque kind form matrix text) = false
is_solid (row.Matrix form affine next) = false
is_solid (row.Prim p matrix) = true
is_solid (row.Tree items matrix) = true
is_solid (row.Assembly items matrix) = true
is_solid (row.Instance child matrix) = true

-- the number, the weight and the depth of a solid
abbrev pub root_line : List Entity → ℕ → List ℕ
root_line rows number =
    codes "ROOT "
    ++ (decimal number
    ++ (codes " "
    ++ (decimal (weight_of rows number)
    ++ (codes " " ++ (decimal (depth_of rows number) ++ codes "\n")))))

-- the line of the entity with a number, where it is a solid that no entity names
abbrev pub root_of : List Entity → ℕ → Row → List ℕ
root_of rows number r =
    if is_solid r && not (is_named rows number) then root_line rows number else []

-- the lines of these entities, of which the first stands at this place among all
abbrev pub roots_from : List Entity → ℕ → List Entity → List ℕ
roots_from rows place [] = []
roots_from rows place (entity ∷ entities) =
    root_of rows (2 * place + 1) entity.row ++ roots_from rows (place + 1) entities

-- the solids that no entity names, in order
abbrev pub root_lines : List Entity → List ℕ
root_lines rows = roots_from rows 0 rows

-- the text of a check
abbrev pub check_text : Model → List ℕ
check_text model =
    rows_line model.rows ++ (globals_line model ++ (root_lines model.rows ++ codes "END\n"))

-- the bytes are a file, and this is the text of its model
abbrev pub IsCheckOutput : List ℕ → List ℕ → Type 0
IsCheckOutput bytes text =
    (model : Model) × (end : ℕ) × Reads bytes model end × (text ≡ check_text model)

-- Done comes only for a file, with the text of its model; Refused only for bytes that are refused
-- as a file, with their first fault
abbrev pub IsChecked : List ℕ → Status → List ℕ → Type 0
IsChecked bytes s text = IsDoneOrRefused (IsCheckOutput bytes) (IsRefusal bytes) s text
