-- Chains of matrices, each of which names the one after it, and places moved by them and carried
-- back through them.
use Rattle.std.specs.Prelude.{ℕ, zero, suc, ◌*◌, List, [], ◌∷◌}
use Rattle.solid_base.specs.declared.entities.Entity.{Entity}
use Rattle.solid_base.specs.declared.geometry.Vec3.{Vec3}
use Rattle.solid_base.specs.declared.geometry.Affine.{Affine}
use Rattle.solid_base.specs.declared.solids.Row.{Row}
use Rattle.solid_base.specs.declared.solids.Row.TheVariants as row
use Rattle.solid_base.specs.References.{row_at}
use Rattle.solid_base.specs.Graph.{most_levels}
use Rattle.fixed_enclosure.specs.Values.{unit}
use Rattle.fixed_enclosure.specs.Places.{Span3}
use Rattle.affine_pull.specs.Matrices.{moved, pulled, pulled_spans}

-- ---- chains

-- IGES 5.3, type 124: a matrix is applied first, and after it the chain of the matrix that it
-- names. What is no matrix that is read has no chain
abbrev pub chain_step : (ℕ → List Affine) → Row → List Affine
chain_step chain (row.Matrix form affine next) = affine ∷ chain next
chain_step chain _ = []

-- the matrices of a chain in the order in which they are applied, of which so many are counted
unfoldable pub chain_within : ℕ → List Entity → ℕ → List Affine
chain_within zero rows m = []
chain_within (suc levels) rows m = chain_step (chain_within levels rows) (row_at rows m)

-- solidd's own: the chain that begins at the matrix with a number, of which all levels are counted
-- that a model may have. 0 names no matrix, and has no chain
unfoldable pub chain_of : List Entity → ℕ → List Affine
chain_of rows m = chain_within most_levels rows m

-- ---- places

-- solidd's own: each matrix has a unit of steps, so after a chain `parts_through m chain` parts are
-- one step
abbrev pub parts_through : ℕ → List Affine → ℕ
parts_through m [] = m
parts_through m (a ∷ chain) = unit * parts_through m chain

-- IGES 5.3, type 124: a place is moved by the first matrix of a chain first, and by the last one
-- last
abbrev pub moved_through : ℕ → List Affine → Vec3 → Vec3
moved_through m [] p = p
moved_through m (a ∷ chain) p = moved_through (unit * m) chain (moved m a p)

-- IGES 5.3, type 124: a place is carried back through the last matrix of a chain first, which was
-- applied last, and through the first one last
abbrev pub pulled_through : ℕ → List Affine → Vec3 → Vec3
pulled_through m [] p = p
pulled_through m (a ∷ chain) p = pulled (parts_through m chain) a (pulled_through m chain p)

-- solidd's own: the same of places in spans
abbrev pub spans_through : List Affine → Span3 → Span3
spans_through [] s = s
spans_through (a ∷ chain) s = pulled_spans a (spans_through chain s)
