use Rattle.std.proofs.Common.{arith, refl, pos, negsuc}
use Rattle.solid_base.proofs.Ring.{lines}
use Rattle.volume_bounds.specs.Cells.{IsGridSide}
use Rattle.volume_bounds.proofs.tests.middle.Goals as goal

side : IsGridSide (negsuc 999999999999) (pos 1000000000000)
side = record { first = (negsuc 99999, refl); last = (pos 100000, refl); order = omega (arith, lines) }

pub returns : goal.returns
returns c = record { near = search (arith, lines); x = side; y = side; z = side }
