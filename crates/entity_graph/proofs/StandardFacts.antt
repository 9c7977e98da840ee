-- Worked stamps, so that a wrong rule does not check: entity 1 is a primitive with the matrix 3, entity 5 a primitive without a matrix, and entity 7 an instance of entity 1.
use Rattle.std.proofs.Common.{ℕ, zero, suc, List, [], ◌∷◌, inl, inr, refl, arith}
use Rattle.std.specs.List.{Contains}
use Rattle.solid_base.specs.declared.entities.Entity.{Entity}
use Rattle.solid_base.specs.declared.geometry.Affine.{Affine}
use Rattle.solid_base.specs.declared.solids.Primitive.{Primitive}
use Rattle.solid_base.specs.declared.solids.Row.{Row}
use Rattle.solid_base.specs.declared.solids.Row.TheVariants as row
use Rattle.solid_base.specs.References.{row_at, references_of, Reaches, here, further}
use Rattle.entity_graph.specs.Reached.{IsAscending}
use Rattle.entity_graph.specs.Stamps.{ReachesChanged, IsStamp}

abbrev of_row : Row → Entity
of_row r = record { row = r; attrs = []; tail = [] }

first : (n : ℕ) (ns : List ℕ) → Contains (n ∷ ns) n
first n ns = (0, omega arith, refl)

module _ (p : Primitive) (matrix : Affine) where
  abbrev pub model : List Entity
  model = of_row (row.Prim p 3) ∷ of_row (row.Matrix 0 matrix 0) ∷ of_row (row.Prim p 0) ∷ of_row (row.Instance 1 0) ∷ []

  -- an instance reaches the matrix of its solid
  pub instance_reaches : Reaches model 7 3
  unfolding row_at references_of
  instance_reaches = further (first 1 []) (further (first 3 []) here)

  -- so a change of the matrix, in version 9, gives it a stamp
  pub instance_stamp : IsStamp model (3 ∷ []) 9 (4 ∷ 5 ∷ 6 ∷ 7 ∷ []) 7 9
  instance_stamp = inl ((3, instance_reaches, first 3 []), refl)

  -- and leaves the stamp of what doesn't reach it
  pub other_reaches : ¬ ReachesChanged model (3 ∷ []) 5
  unfolding row_at references_of
  other_reaches (k, here, (zero, l, e)) = absurd cc
  other_reaches (k, here, (suc i, l, e)) = absurd (omega arith)
  other_reaches (k, further r w, c) = absurd (let l = r.1 in omega arith)

  pub other_stamp : IsStamp model (3 ∷ []) 9 (4 ∷ 5 ∷ 6 ∷ 7 ∷ []) 5 6
  other_stamp = inr (other_reaches, refl)

-- ascending numbers differ
pub ascending : IsAscending (1 ∷ 3 ∷ 7 ∷ [])
ascending = ((omega arith, (omega arith, tt)), ((omega arith, tt), (tt, tt)))

pub not_twice : ¬ IsAscending (3 ∷ 3 ∷ [])
not_twice a = absurd (let l = a.0.0 in omega arith)
