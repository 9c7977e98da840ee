-- Worked files, computed by the definitions: of one sphere; and of a matrix whose record takes two
-- lines, a place that holds nothing, a sphere, an instance of it, and an entity that isn't read.
use Rattle.std.proofs.Common.{◌≡◌, [], ◌∷◌, ◌++◌, ◌-◌, List, ℕ, length, replicate, codes, pos, refl}
use Rattle.std.specs.Fmt.{digits}
use Rattle.solid_base.specs.declared.entities.Entity.{Entity}
use Rattle.solid_base.specs.declared.entities.Model.{Model}
use Rattle.solid_base.specs.declared.entities.Token.TheVariants as token
use Rattle.solid_base.specs.declared.geometry.Vec3.{Vec3}
use Rattle.solid_base.specs.declared.solids.Primitive.TheVariants as prim
use Rattle.solid_base.specs.declared.solids.Row.{Row}
use Rattle.solid_base.specs.declared.solids.Row.TheVariants as row
use Rattle.solid_base.specs.Texts.{blank_attributes}
use Rattle.decimal_scale.specs.Writing.{last_digits}
use Rattle.iges_fields.specs.Layout.{laid}
use Rattle.iges_parameters.specs.Tables.{sphere_rules, matrix_rules, instance_rules}
use Rattle.iges_parameters.specs.Writing.{record_text, parameters_of, tokens_by}
use Rattle.iges_write.specs.Cards.{card, cards, pieces, lines_in}
use Rattle.iges_write.specs.CanonicalFile.{entry_first, entry_second, entry_lines, records_lines}
use Rattle.iges_write.specs.CanonicalFile.{groups, canonical_lines, canonical_text}

-- ---- the models

abbrev vec : ℕ → ℕ → ℕ → Vec3
vec x y z = record { x = pos x; y = pos y; z = pos z }

abbrev unit : ℕ
unit = 1000000000000

-- an entity with no directory fields of its own, and no fields after its parameters
abbrev plain : Row → Entity
plain r = record { row = r; attrs = blank_attributes; tail = [] }

abbrev sphere : Entity
sphere = plain (row.Prim (prim.Sphere (pos unit) (vec 0 0 0)) 0)

abbrev moved : Entity
moved = plain (row.Matrix 0 (record {
  row1 = vec unit 0 0;
  row2 = vec 0 unit 0;
  row3 = vec 0 0 unit;
  shift = vec 1000062500000000 2000062500000000 3000062500000000;
}) 0)

-- the twelve fields are marked by A to L
abbrev unread : Entity
unread = record {
  row = row.Opaque 406 15 7 (codes "406,1,7HBRACKET;");
  attrs = replicate 8 65 ++ replicate 8 66 ++ replicate 8 67 ++ replicate 8 68 ++ replicate 8 69 ++ replicate 8 70
      ++ replicate 8 71 ++ replicate 8 72 ++ replicate 8 73 ++ replicate 8 74 ++ replicate 8 75 ++ replicate 8 76;
  tail = [];
}

abbrev model_of : ℕ → List Entity → Model
model_of comma rows = record {
  start = (codes "One sphere of radius 1." ++ replicate 49 32) ∷ [];
  comma = comma;
  semi = 59;
  global = token.Empty ∷ [];
  rows = rows;
}

-- ---- the lines

-- a line that begins so, with these bytes from column 73 on
abbrev line : List ℕ → List ℕ → List ℕ
line front mark = front ++ (replicate (72 - length front) 32 ++ (mark ++ 10 ∷ []))

-- the first line of an entry with no directory fields of its own
abbrev entry_line : List ℕ → List ℕ → List ℕ → List ℕ
entry_line front matrix mark = line (front ++ replicate 32 32 ++ matrix ++ replicate 8 32 ++ replicate 8 48) mark

-- the second line of such an entry
abbrev more_line : List ℕ → List ℕ → List ℕ → List ℕ
more_line kind counts mark = line (kind ++ replicate 16 32 ++ counts) mark

-- a parameter line
abbrev record_line : List ℕ → List ℕ → List ℕ → List ℕ
record_line text number mark = line (text ++ replicate (65 - length text) 32 ++ number) mark

pub one_sphere : canonical_text (model_of 44 (sphere ∷ []))
    ≡ line (codes "One sphere of radius 1.") (codes "S      1")
    ++ line (codes "1H,,1H;,;") (codes "G      1")
    ++ entry_line (codes "     158       1") (codes "       0") (codes "D      1")
    ++ more_line (codes "     158") (codes "       1       0") (codes "D      2")
    ++ record_line (codes "158,1.0,0.0,0.0,0.0;") (codes "      1") (codes "P      1")
    ++ line (codes "S      1G      1D      2P      1") (codes "T      1")
unfolding canonical_text canonical_lines card cards pieces lines_in entry_first entry_second entry_lines records_lines groups
    record_text parameters_of tokens_by sphere_rules laid last_digits digits
one_sphere = refl

-- the delimiter between parameters is `|`
pub five_entities : canonical_text (model_of 124 (moved ∷ plain row.Null ∷ sphere ∷ plain (row.Instance 5 1) ∷ unread ∷ []))
    ≡ line (codes "One sphere of radius 1.") (codes "S      1")
    ++ line (codes "1H||1H;|;") (codes "G      1")
    ++ entry_line (codes "     124       1") (codes "       0") (codes "D      1")
    ++ more_line (codes "     124") (codes "       2       0") (codes "D      2")
    ++ entry_line (codes "       0       3") (codes "       0") (codes "D      3")
    ++ more_line (codes "       0") (codes "       1       0") (codes "D      4")
    ++ entry_line (codes "     158       4") (codes "       0") (codes "D      5")
    ++ more_line (codes "     158") (codes "       1       0") (codes "D      6")
    ++ entry_line (codes "     430       5") (codes "       1") (codes "D      7")
    ++ more_line (codes "     430") (codes "       1       0") (codes "D      8")
    ++ line (codes "     406       6AAAAAAAABBBBBBBBCCCCCCCCDDDDDDDD       7EEEEEEEEFFFFFFFF") (codes "D      9")
    ++ line (codes "     406GGGGGGGGHHHHHHHH       1      15IIIIIIIIJJJJJJJJKKKKKKKKLLLLLLLL") (codes "D     10")
    ++ record_line (codes "124|1.0|0.0|0.0|1000.0625|0.0|1.0|0.0|2000.0625|0.0|0.0|1.0|") (codes "      1") (codes "P      1")
    ++ record_line (codes "3000.0625;") (codes "      1") (codes "P      2")
    ++ record_line (codes "0;") (codes "      3") (codes "P      3")
    ++ record_line (codes "158|1.0|0.0|0.0|0.0;") (codes "      5") (codes "P      4")
    ++ record_line (codes "430|5;") (codes "      7") (codes "P      5")
    ++ record_line (codes "406,1,7HBRACKET;") (codes "      9") (codes "P      6")
    ++ line (codes "S      1G      1D     10P      6") (codes "T      1")
unfolding canonical_text canonical_lines card cards pieces lines_in entry_first entry_second entry_lines records_lines groups
    record_text parameters_of tokens_by sphere_rules matrix_rules instance_rules laid last_digits digits
five_entities = refl
