-- The first fault of a model's references: kind by kind, within a kind row by row, within a row
-- reference by reference.
use Rattle.std.specs.Prelude.{◌≡◌, ℕ, ◌≤◌, ◌<◌, List, ◌∷◌, ◌++◌}
use Rattle.std.specs.List.{AllByRecursion}
use Rattle.solid_base.specs.declared.entities.Entity.{Entity}
use Rattle.solid_base.specs.declared.references.Reference.{Reference}
use Rattle.solid_base.specs.References.{target, references_of, row_at}
use Rattle.solid_base.specs.Graph.{IsDangling, IsMisdirected, ReachesCycle, depth_of, most_levels}
use Rattle.solid_base.specs.Graph.{weight_of, most_weight}
use Rattle.entity_graph.specs.declared.graph_faults.GraphFault.{GraphFault}
use Rattle.entity_graph.specs.declared.graph_faults.GraphFault.TheVariants as fault

-- ---- rules that hold of all rows

-- solidd's own: a property holds of no reference of a row
abbrev pub HasNo : (Reference → Type 0) → List Entity → ℕ → Type 0
HasNo bad rows e = AllByRecursion (λ r. ¬ bad r) (references_of (row_at rows e))

-- solidd's own: each reference names an entity that isn't null
abbrev pub ArePresent : List Entity → Type 0
ArePresent rows = (e : ℕ) → HasNo (IsDangling rows) rows e

-- IGES 5.3, type 124: each reference to a matrix leads to one, and no other does
abbrev pub AreDirected : List Entity → Type 0
AreDirected rows = (e : ℕ) → HasNo (IsMisdirected rows) rows e

-- solidd's own: no row reaches a cycle
abbrev pub AreAcyclic : List Entity → Type 0
AreAcyclic rows = (e : ℕ) → ¬ ReachesCycle rows e

-- solidd's own: no row has too many levels
abbrev pub AreShallow : List Entity → Type 0
AreShallow rows = (e : ℕ) → depth_of rows e ≤ most_levels

-- ---- first faults

-- solidd's own: the first reference of which a property holds, row by row and within the row in the
-- order of its references: it stands in row e and names the number to
pub record IsFirst (bad : Reference → Type 0) (rows : List Entity) (e to : ℕ) : Type 0 where
  pub earlier : (k : ℕ) → k < e → HasNo bad rows k
  pub front : List Reference
  pub named : Reference
  pub rest : List Reference
  pub stands : references_of (row_at rows e) ≡ front ++ named ∷ rest
  pub before : AllByRecursion (λ r. ¬ bad r) front
  pub holds : bad named
  pub names : target named ≡ to

-- solidd's own: the first row of which a property holds
pub record IsFirstRow (bad : ℕ → Type 0) (e : ℕ) : Type 0 where
  pub holds : bad e
  pub earlier : (k : ℕ) → k < e → ¬ bad k

-- solidd's own: the first fault of a model's references; a kind is looked for in all rows only
-- where no kind before it is found
abbrev pub IsFault : List Entity → GraphFault → Type 0
IsFault rows (fault.Memory e) = ⊥
IsFault rows (fault.Dangling de to) = IsFirst (IsDangling rows) rows de to
IsFault rows (fault.WrongTarget de to) = ArePresent rows × IsFirst (IsMisdirected rows) rows de to
IsFault rows (fault.Cycle de) =
    ArePresent rows × AreDirected rows × IsFirstRow (ReachesCycle rows) de
IsFault rows (fault.TooDeep de) =
    ArePresent rows × AreDirected rows × AreAcyclic rows
    × IsFirstRow (λ e. most_levels < depth_of rows e) de
IsFault rows (fault.TooHeavy de) =
    ArePresent rows × AreDirected rows × AreAcyclic rows × AreShallow rows
    × IsFirstRow (λ e. most_weight < weight_of rows e) de
