-- The plain tree that an entity unfolds into along its references. Each meaning of an entity is a
-- recursion on that tree.
use Rattle.std.specs.Prelude.{◌≡◌, ◌⊎◌, ℕ, zero, suc, List, [], ◌∷◌}
use Rattle.solid_base.specs.declared.entities.Entity.{Entity}
use Rattle.solid_base.specs.declared.geometry.Affine.{Affine}
use Rattle.solid_base.specs.declared.solids.Item.{Item}
use Rattle.solid_base.specs.declared.solids.Placed.{Placed}
use Rattle.solid_base.specs.declared.solids.Primitive.{Primitive}
use Rattle.solid_base.specs.declared.solids.Row.{Row}
use Rattle.solid_base.specs.declared.solids.Row.TheVariants as row
use Rattle.solid_base.specs.References.{row_at}
use Rattle.solid_base.specs.Graph.{most_levels}
use Rattle.solid_base.specs.Trees.{Operation, union, Tree, operand, combination}
use Rattle.boolean_tree.specs.Spelling.{trees_of_items}
use Rattle.affine_pull.specs.Chains.{chain_of}

-- solidd's own: nothing; a primitive with its entity's number and the chain of matrices that moves
-- it; a part that a chain of matrices moves; the part that is a tree, an assembly or an instance
-- with its entity's number, which stands before its own chain; an operation on two parts, the left
-- one first
pub data Solid : Type 0 where
  nothing : Solid
  primitive : ℕ → List Affine → Primitive → Solid
  moved : List Affine → Solid → Solid
  entity : ℕ → Solid → Solid
  combined : Operation → Solid → Solid → Solid

-- ---- Boolean trees

-- IGES 5.3, type 180: the solid of a tree, by recursion on it
abbrev pub tree_solid : (ℕ → Solid) → Tree → Solid
tree_solid child (operand number) = child number
tree_solid child (combination o a b) = combined o (tree_solid child a) (tree_solid child b)

-- IGES 5.3, type 180: the solid of the last of some trees, which stands first; nothing of none
abbrev pub last_solid : (ℕ → Solid) → List Tree → Solid
last_solid child [] = nothing
last_solid child (tree ∷ trees) = tree_solid child tree

-- IGES 5.3, type 180: the solid of the tree that a list of items spells
abbrev pub solid_of_items : (ℕ → Solid) → List Item → Solid
solid_of_items child items = last_solid child (trees_of_items items)

-- ---- assemblies

-- IGES 5.3, type 184: an item is moved by the matrix that places it, where there is one
abbrev pub placed_item : (ℕ → List Affine) → (ℕ → Solid) → Placed → Solid
placed_item chain child p = moved (chain p.matrix) (child p.item)

-- IGES 5.3, type 184: what stands before, united with each item in turn
abbrev pub united : (ℕ → List Affine) → (ℕ → Solid) → Solid → List Placed → Solid
united chain child before [] = before
united chain child before (p ∷ items) =
    united chain child (combined union before (placed_item chain child p)) items

-- ---- entities

-- IGES 5.3, 2.2.4.4 (directory entry section): an entity is moved by the chain of the matrix that
-- its directory entry names. The solid of a row is made from the chains of matrices and the solids
-- of the entities that it names
abbrev pub row_solid : (ℕ → List Affine) → (ℕ → Solid) → ℕ → Row → Solid
row_solid chain child e row.Null = nothing
row_solid chain child e (row.Opaque kind form matrix text) = nothing
row_solid chain child e (row.Matrix form affine next) = nothing
row_solid chain child e (row.Prim p matrix) = primitive e (chain matrix) p
row_solid chain child e (row.Tree items matrix) =
    entity e (moved (chain matrix) (solid_of_items child items))
row_solid chain child e (row.Assembly items matrix) =
    entity e (moved (chain matrix) (united chain child nothing items))
-- IGES 5.3, type 430: an instance is the solid that it names, moved by its own chain after that
-- solid's
row_solid chain child e (row.Instance number matrix) =
    entity e (moved (chain matrix) (child number))

-- solidd's own: the solid of an entity, of which so many levels are counted
unfoldable pub solid_within : ℕ → List Entity → ℕ → Solid
solid_within zero rows e = nothing
solid_within (suc levels) rows e =
    row_solid (chain_of rows) (solid_within levels rows) e (row_at rows e)

-- solidd's own: the solid of an entity, of which all levels are counted that a model may have
unfoldable pub solid_of : List Entity → ℕ → Solid
solid_of rows e = solid_within most_levels rows e

-- ---- primitives of a solid

-- solidd's own: k is the number of a primitive of the solid
abbrev pub HasPrimitive : Solid → ℕ → Type 0
HasPrimitive nothing k = ⊥
HasPrimitive (primitive e chain p) k = k ≡ e
HasPrimitive (moved chain part) k = HasPrimitive part k
HasPrimitive (entity e part) k = HasPrimitive part k
HasPrimitive (combined o a b) k = HasPrimitive a k ⊎ HasPrimitive b k

-- ---- rows that are solids

-- IGES 5.3, types 150 to 184 and 430: a primitive, a Boolean tree, an assembly and an instance are
-- solids
abbrev pub IsSolidRow : Row → Type 0
IsSolidRow row.Null = ⊥
IsSolidRow (row.Opaque kind form matrix text) = ⊥
IsSolidRow (row.Matrix form affine next) = ⊥
IsSolidRow (row.Prim p matrix) = Unit {0}
IsSolidRow (row.Tree items matrix) = Unit {0}
IsSolidRow (row.Assembly items matrix) = Unit {0}
IsSolidRow (row.Instance number matrix) = Unit {0}

-- IGES 5.3, types 150 to 168: a primitive
abbrev pub IsPrimitiveRow : Row → Type 0
IsPrimitiveRow row.Null = ⊥
IsPrimitiveRow (row.Opaque kind form matrix text) = ⊥
IsPrimitiveRow (row.Matrix form affine next) = ⊥
IsPrimitiveRow (row.Prim p matrix) = Unit {0}
IsPrimitiveRow (row.Tree items matrix) = ⊥
IsPrimitiveRow (row.Assembly items matrix) = ⊥
IsPrimitiveRow (row.Instance number matrix) = ⊥
