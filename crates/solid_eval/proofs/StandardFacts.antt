-- Worked models, so that a wrong rule of unfolding does not check: entity 1 is a primitive, entity 3 a matrix, entity 5 a matrix that names entity 3.
use Rattle.std.proofs.Common.{◌≡◌, List, [], ◌∷◌, refl}
use Rattle.solid_base.specs.declared.entities.Entity.{Entity}
use Rattle.solid_base.specs.declared.geometry.Affine.{Affine}
use Rattle.solid_base.specs.declared.solids.Item.TheVariants as item
use Rattle.solid_base.specs.declared.solids.Primitive.{Primitive}
use Rattle.solid_base.specs.declared.solids.Row.{Row}
use Rattle.solid_base.specs.declared.solids.Row.TheVariants as row
use Rattle.solid_base.specs.References.{row_at}
use Rattle.solid_base.specs.Trees.{union, difference}
use Rattle.boolean_tree.specs.Spelling.{trees_of_items}
use Rattle.affine_pull.specs.Chains.{chain_within, chain_of}
use Rattle.solid_eval.specs.Solids.{Solid, nothing, primitive, moved, entity, combined, solid_within, solid_of}

abbrev of_row : Row → Entity
of_row r = record { row = r; attrs = []; tail = [] }

module _ (p : Primitive) (first second : Affine) where
  -- the entities 1, 3 and 5, and entity 7 with a row of its own
  abbrev pub model : Row → List Entity
  model seventh = of_row (row.Prim p 3) ∷ of_row (row.Matrix 0 first 0) ∷ of_row (row.Matrix 0 second 3) ∷ of_row seventh ∷ []

  -- the primitive is moved by the matrix that its directory entry names
  abbrev pub part : Solid
  part = primitive 1 (first ∷ []) p

  -- an instance moves its solid after that solid's own matrix, through the whole chain
  pub instance : solid_of (model (row.Instance 1 5)) 7 ≡ entity 7 (moved (second ∷ first ∷ []) part)
  unfolding row_at chain_of chain_within solid_of solid_within
  instance = refl

  -- an item is moved by its own matrix, then by that which places it, and then by the assembly's
  pub assembly : solid_of (model (row.Assembly (record { item = 1; matrix = 5 } ∷ record { item = 1; matrix = 0 } ∷ []) 3)) 7
      ≡ entity 7 (moved (first ∷ []) (combined union (combined union nothing (moved (second ∷ first ∷ []) part)) (moved [] part)))
  unfolding row_at chain_of chain_within solid_of solid_within
  assembly = refl

  -- the operands stand in the order of the list
  pub tree : solid_of (model (row.Tree (item.Operand 1 ∷ item.Operand 9 ∷ item.Less ∷ []) 0)) 7 ≡ entity 7 (moved [] (combined difference part nothing))
  unfolding row_at chain_of chain_within solid_of solid_within trees_of_items
  tree = refl

  -- a matrix, and a number that no entity has, are no solids
  pub no_solid : solid_of (model row.Null) 3 ≡ nothing
  unfolding row_at solid_of solid_within
  no_solid = refl

  pub no_entity : solid_of (model row.Null) 4 ≡ nothing
  unfolding row_at solid_of solid_within
  no_entity = refl
