-- Blocks of whole cells, for the search of the extents alone.
use Rattle.std.specs.Prelude.{min, max, Option, None, Some}
use Rattle.volume_bounds.specs.declared.cells.Cell.{Cell}
use Rattle.volume_bounds.specs.declared.bounds.Block.{Block}

-- the least block that holds the cells of another and one cell more
abbrev pub with_cell : Option Block → Cell → Block
with_cell None c = record { first = c; last = c }
with_cell (Some b) c = record {
  first = record { x = min b.first.x c.x; y = min b.first.y c.y; z = min b.first.z c.z };
  last = record { x = max b.last.x c.x; y = max b.last.y c.y; z = max b.last.z c.z };
}
