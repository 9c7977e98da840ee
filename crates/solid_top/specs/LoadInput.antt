-- The input that `load N` makes: spheres in a grid, and a script that asks for points in them and
-- makes every tenth smaller. solidd's own.
use Rattle.std.specs.Prelude.{ℕ, zero, suc, ◌+◌, ◌-◌, ◌*◌, ◌/◌, ◌%◌, ◌^◌, ◌==◌, cond, List, [], ◌∷◌}
use Rattle.std.specs.Prelude.{◌++◌, codes, decimal, map, ℤ, pos, ◌+ℤ◌}
use Rattle.std.specs.List.{flat_map, range_with_len}
use Rattle.solid_base.specs.declared.entities.Entity.{Entity}
use Rattle.solid_base.specs.declared.entities.Model.{Model}
use Rattle.solid_base.specs.declared.entities.Token.TheVariants as token
use Rattle.solid_base.specs.declared.geometry.Vec3.{Vec3}
use Rattle.solid_base.specs.declared.solids.Item.{Item}
use Rattle.solid_base.specs.declared.solids.Primitive.TheVariants as prim
use Rattle.solid_base.specs.declared.solids.Row.{Row}
use Rattle.solid_base.specs.declared.solids.Row.TheVariants as row
use Rattle.solid_base.specs.Texts.{blank_attributes}
use Rattle.solid_base.specs.Trees.{Tree, operand, combination, union, post_order}
use Rattle.decimal_scale.specs.Writing.{real_text}
use Rattle.iges_write.specs.Cards.{filled}
use Rattle.iges_write.specs.CanonicalFile.{canonical_text}

-- ---- the model

-- the number of the entity at a place, counted from 0
abbrev pub number_at : ℕ → ℕ
number_at place = 2 * place + 1

-- so many times three units, in steps
abbrev pub three_units : ℕ → ℤ
three_units times = pos (3 * times * 10 ^ 12)

-- the centre of the sphere at a place, counted from 0: ten along x, ten of these along y, and ten
-- of those along z, three units apart
unfoldable pub centre : ℕ → Vec3
centre place = record {
  x = three_units (place % 10);
  y = three_units (place / 10 % 10);
  z = three_units (place / 100);
}

-- an entity that has neither kept directory fields of its own nor fields after its parameters
abbrev pub plain : Row → Entity
plain r = record { row = r; attrs = blank_attributes; tail = [] }

-- the sphere of radius 1 at a place
unfoldable pub sphere : ℕ → Row
sphere place = row.Prim (prim.Sphere (pos (10 ^ 12)) (centre place)) 0

-- the union of the first sphere with so many further ones, one after the other
unfoldable pub union_with : ℕ → Tree
union_with zero = operand 1
union_with (suc more) = combination union (union_with more) (operand (number_at (suc more)))

-- the union of so many spheres, one at least: the first operand, and for each further one the
-- operand and a union
unfoldable pub union_items : ℕ → List Item
union_items n = post_order (union_with (n - 1))

abbrev pub union_row : ℕ → Row
union_row n = row.Tree (union_items n) 0

-- so many spheres, and the union of all of them
unfoldable pub load_rows : ℕ → List Entity
load_rows n =
    map (λ place. plain (sphere place)) (range_with_len 0 n) ++ plain (union_row n) ∷ []

-- the model: its start line is `load`, and its global section has the two usual delimiters and one
-- parameter more, which is empty
unfoldable pub load_model : ℕ → Model
load_model n = record {
  start = filled 72 (codes "load") ∷ [];
  comma = 44;
  semi = 59;
  global = token.Empty ∷ [];
  rows = load_rows n;
}

-- ---- the script

-- a number of steps as it is written, in units
unfoldable pub units_text : ℤ → List ℕ
units_text steps = real_text steps 12

-- the coordinates of a place, with a byte between them
unfoldable pub coordinates_text : ℕ → Vec3 → List ℕ
coordinates_text between at =
    units_text at.x ++ (between ∷ (units_text at.y ++ (between ∷ units_text at.z)))

-- session 1 asks for a point of an entity
unfoldable pub point_line : ℕ → Vec3 → List ℕ
point_line number at =
    codes "@1 point "
    ++ (decimal number ++ (codes " " ++ (coordinates_text 32 at ++ codes "\n")))

-- session 2 replaces the sphere at a place by one of radius 0.5 with the same centre
unfoldable pub replace_line : ℕ → List ℕ
replace_line place =
    codes "@2 replace "
    ++ (decimal (number_at place)
    ++ (codes " 158 0 0 158,0.5," ++ (coordinates_text 44 (centre place) ++ codes ";\n")))

-- a place at a distance of 0.75 units from a centre, along x
unfoldable pub beside : Vec3 → Vec3
beside at = record { x = at.x +ℤ pos (75 * 10 ^ 10); y = at.y; z = at.z }

-- the sphere at a place is made smaller, and a point is asked for that lay in it before
unfoldable pub smaller_lines : ℕ → ℕ → List ℕ
smaller_lines n place =
    replace_line place
    ++ (codes "@2 commit\n" ++ point_line (number_at n) (beside (centre place)))

-- the lines for the sphere at a place, among so many spheres: the union is asked for its centre,
-- and every tenth sphere is made smaller
unfoldable pub lines_at : ℕ → ℕ → List ℕ
lines_at n place =
    point_line (number_at n) (centre place)
    ++ cond (place % 10 == 0) (smaller_lines n place) []

-- the script: the lines for each sphere, in order
unfoldable pub load_script : ℕ → List ℕ
load_script n = flat_map (lines_at n) (range_with_len 0 n)

-- ---- the whole input

-- the file of the model, and the script after it
unfoldable pub load_bytes : ℕ → List ℕ
load_bytes n = canonical_text (load_model n) ++ load_script n
