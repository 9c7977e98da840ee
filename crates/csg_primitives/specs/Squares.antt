-- Squares, of which the margins of primitive solids are made.
use Rattle.std.specs.Prelude.{ℤ, ◌*ℤ◌}

abbrev pub square : ℤ → ℤ
square z = z *ℤ z
