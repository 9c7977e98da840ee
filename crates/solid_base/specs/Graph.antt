-- solidd's own: the rules that the references of a model obey.
use Rattle.std.specs.Prelude.{◌≡◌, ℕ, zero, suc, ◌≤◌, ◌^◌, List, [], ◌∷◌, map, max, sum_by}
use Rattle.std.specs.List.{AllByRecursion}
use Rattle.solid_base.specs.declared.entities.Entity.{Entity}
use Rattle.solid_base.specs.declared.references.Reference.{Reference}
use Rattle.solid_base.specs.declared.references.Reference.TheVariants as reference
use Rattle.solid_base.specs.declared.solids.Row.{Row}
use Rattle.solid_base.specs.declared.solids.Row.TheVariants as row
use Rattle.solid_base.specs.References.{target, operands_of, items_of, references_of, references}
use Rattle.solid_base.specs.References.{row_at, Refers, Reaches}

-- ---- single references

-- a reference that names no entity, or a null row
abbrev pub IsDangling : List Entity → Reference → Type 0
IsDangling rows r = row_at rows (target r) ≡ row.Null

-- IGES 5.3, type 124: a matrix, whether its form is read or not
abbrev pub IsMatrix : Row → Type 0
IsMatrix row.Null = ⊥
IsMatrix (row.Opaque kind form matrix text) = kind ≡ 124
IsMatrix (row.Matrix form affine next) = Unit {0}
IsMatrix (row.Prim p matrix) = ⊥
IsMatrix (row.Tree items matrix) = ⊥
IsMatrix (row.Assembly items matrix) = ⊥
IsMatrix (row.Instance child matrix) = ⊥

-- a matrix is wanted and another entity stands there, or the other way round
abbrev pub IsMisdirected : List Entity → Reference → Type 0
IsMisdirected rows (reference.Matrix number) = ¬ IsMatrix (row_at rows number)
IsMisdirected rows (reference.Solid number) = IsMatrix (row_at rows number)

-- ---- cycles

-- the entity reaches one that reaches itself by at least one reference
pub record ReachesCycle (rows : List Entity) (e : ℕ) : Type 0 where
  pub on : ℕ
  pub next : ℕ
  pub reached : Reaches rows e on
  pub refers : Refers rows on next
  pub back : Reaches rows next on

-- ---- depth and weight

-- the greatest of some numbers' values, 0 where there is none
abbrev pub greatest : (ℕ → ℕ) → List ℕ → ℕ
greatest f [] = 0
greatest f (n ∷ ns) = max (f n) (greatest f ns)

-- the depth of an entity: 1 where it names none, else 1 more than the greatest depth of those that
-- it names. At most so many levels are counted
unfoldable pub depth_within : ℕ → List Entity → ℕ → ℕ
depth_within zero rows e = 0
depth_within (suc levels) rows e =
    suc (greatest (depth_within levels rows) (references (row_at rows e)))

-- the most levels that a model may have
abbrev pub most_levels : ℕ
most_levels = 64

-- the depth, of which one level more is counted than a model may have
unfoldable pub depth_of : List Entity → ℕ → ℕ
depth_of rows e = depth_within (suc most_levels) rows e

-- the weight of a row, from the weights of those that it names: how many evaluations of primitives
-- it takes. What isn't read counts as one
abbrev pub row_weight : (ℕ → ℕ) → Row → ℕ
row_weight weight row.Null = 0
row_weight weight (row.Opaque kind form matrix text) = 1
row_weight weight (row.Matrix form affine next) = 0
row_weight weight (row.Prim p matrix) = 1
-- each operand and item as often as it stands
row_weight weight (row.Tree items matrix) = sum_by weight (map target (operands_of items))
row_weight weight (row.Assembly items matrix) = sum_by weight (map target (items_of items))
row_weight weight (row.Instance child matrix) = weight child

-- the weight of an entity, of which so many levels are counted
unfoldable pub weight_within : ℕ → List Entity → ℕ → ℕ
weight_within zero rows e = 0
weight_within (suc levels) rows e = row_weight (weight_within levels rows) (row_at rows e)

-- the weight, of which all levels are counted that a model may have
unfoldable pub weight_of : List Entity → ℕ → ℕ
weight_of rows e = weight_within most_levels rows e

-- the greatest weight that an entity may have
abbrev pub most_weight : ℕ
most_weight = 2 ^ 20

-- ---- the rules together

-- the references of the entities of a model obey the rules
pub record AreSound (rows : List Entity) : Type 0 where
  pub present : (e : ℕ) → AllByRecursion (λ r. ¬ IsDangling rows r) (references_of (row_at rows e))
  pub directed : (e : ℕ)
      → AllByRecursion (λ r. ¬ IsMisdirected rows r) (references_of (row_at rows e))
  pub acyclic : (e : ℕ) → ¬ ReachesCycle rows e
  pub shallow : (e : ℕ) → depth_of rows e ≤ most_levels
  pub light : (e : ℕ) → weight_of rows e ≤ most_weight
