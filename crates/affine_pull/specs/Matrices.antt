-- Places moved by a matrix, and carried back through it: exact, and enclosed in spans.
use Rattle.std.specs.Prelude.{◌≡◌, ℕ, ◌*◌, pos, ◌+ℤ◌, ◌*ℤ◌}
use Rattle.solid_base.specs.declared.geometry.Vec3.{Vec3}
use Rattle.solid_base.specs.declared.geometry.Affine.{Affine}
use Rattle.solid_base.specs.Ranges.{dot, column1, column2, column3}
use Rattle.fixed_enclosure.specs.Values.{unit}
use Rattle.fixed_enclosure.specs.Places.{Span3, offset, point_spans, offset_spans, dot_span}

-- IGES 5.3, type 124: a matrix moves a place by its rotation and then by its shift: each coordinate
-- is the scalar product with a row, and the shift's added. The coordinates of the place are counted
-- in parts, of which m are one step, those of the result in finer ones, of which `unit * m` are one
-- step
unfoldable pub moved : ℕ → Affine → Vec3 → Vec3
moved m a p = record {
  x = dot a.row1 p +ℤ a.shift.x *ℤ pos (unit * m);
  y = dot a.row2 p +ℤ a.shift.y *ℤ pos (unit * m);
  z = dot a.row3 p +ℤ a.shift.z *ℤ pos (unit * m);
}

-- IGES 5.3, type 124: a place is carried back by taking the shift off, and then by the transposed
-- rotation: each coordinate is the scalar product with a column. A rotation that isn't exactly
-- orthonormal is used as it is written. The result is counted in finer parts, as that of `moved`
unfoldable pub pulled : ℕ → Affine → Vec3 → Vec3
pulled m a p = record {
  x = dot (offset m a.shift p) (column1 a);
  y = dot (offset m a.shift p) (column2 a);
  z = dot (offset m a.shift p) (column3 a);
}

-- solidd's own: the same of places in spans
unfoldable pub pulled_spans : Affine → Span3 → Span3
pulled_spans a s = record {
  x = dot_span (offset_spans s a.shift) (point_spans (column1 a));
  y = dot_span (offset_spans s a.shift) (point_spans (column2 a));
  z = dot_span (offset_spans s a.shift) (point_spans (column3 a));
}

-- ---- rotations that are exact

-- IGES 5.3, type 124: the columns of the rotation are exactly orthonormal
pub record IsExact (a : Affine) : Type 0 where
  pub first : dot (column1 a) (column1 a) ≡ pos (unit * unit)
  pub second : dot (column2 a) (column2 a) ≡ pos (unit * unit)
  pub third : dot (column3 a) (column3 a) ≡ pos (unit * unit)
  pub first_second : dot (column1 a) (column2 a) ≡ pos 0
  pub first_third : dot (column1 a) (column3 a) ≡ pos 0
  pub second_third : dot (column2 a) (column3 a) ≡ pos 0

-- solidd's own: the same place, whose parts are cut into n parts each
abbrev pub finer : ℕ → Vec3 → Vec3
finer n p = record { x = p.x *ℤ pos n; y = p.y *ℤ pos n; z = p.z *ℤ pos n }
