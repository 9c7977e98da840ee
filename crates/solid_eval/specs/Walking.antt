-- A walk along the uses of the primitives of an entity: what is left of it.
use Rattle.std.specs.Prelude.{◌≡◌, ℕ, suc, ◌+◌, ◌<◌, ◌≤◌, Option, None, Some}
use Rattle.std.specs.Prelude.{List, [], ◌∷◌, ◌++◌, length, map, flat_map, drop}
use Rattle.solid_base.specs.declared.entities.Entity.{Entity}
use Rattle.solid_base.specs.declared.solids.Row.{Row}
use Rattle.solid_base.specs.declared.solids.Row.TheVariants as row
use Rattle.solid_base.specs.Stack.{Stack}
use Rattle.solid_base.specs.Graph.{most_levels, depth_of, weight_of}
use Rattle.solid_base.specs.References.{target, operands_of, row_at}
use Rattle.fixed_enclosure.specs.declared.enclosures.Box3.{Box3}
use Rattle.fixed_enclosure.specs.Places.{Span3, spans_of}
use Rattle.fixed_enclosure.specs.Spans.{IsBox}
use Rattle.affine_pull.specs.Chains.{chain_of, spans_through}
use Rattle.entity_graph.specs.Opaque.{ReachesOpaque}
use Rattle.solid_eval.specs.declared.level_stack.Level.{Level}
use Rattle.solid_eval.specs.declared.parts.Part.{Part}
use Rattle.solid_eval.specs.declared.use_walk.Walk.{Walk}
use Rattle.solid_eval.specs.Solids.{solid_of}
use Rattle.solid_eval.specs.Uses.{Use, uses}

-- ---- what is left

-- IGES 5.3, types 180, 184 and 430: the uses of a row's operands, items or child from a place on,
-- counted from 0, over spans after the row's own matrix
abbrev pub uses_from : List Entity → Row → ℕ → Span3 → List Use
uses_from rows row.Null index s = []
uses_from rows (row.Opaque kind form matrix text) index s = []
uses_from rows (row.Matrix form affine next) index s = []
uses_from rows (row.Prim p matrix) index s = []
uses_from rows (row.Tree items matrix) index s =
    flat_map (λ n. uses (solid_of rows n) s) (map target (operands_of (drop index items)))
uses_from rows (row.Assembly items matrix) index s =
    flat_map (λ p. uses (solid_of rows p.item) (spans_through (chain_of rows p.matrix) s))
    (drop index items)
uses_from rows (row.Instance number matrix) index s =
    flat_map (λ n. uses (solid_of rows n) s) (drop index (number ∷ []))

-- solidd's own: the uses that are left on a level
abbrev pub level_uses : List Entity → Level → List Use
level_uses rows l = uses_from rows (row_at rows l.e) l.index (spans_of l.at)

-- solidd's own: the uses that are left on levels, of which the innermost stands last and is walked
-- to its end first
abbrev pub levels_uses : List Entity → List Level → List Use
levels_uses rows [] = []
levels_uses rows (l ∷ levels) = levels_uses rows levels ++ level_uses rows l

-- solidd's own: the uses of the entity where a walk starts, none where it is started
abbrev pub start_uses : List Entity → Option (ℕ × Box3) → List Use
start_uses rows None = []
start_uses rows (Some (e, at)) = uses (solid_of rows e) (spans_of at)

-- solidd's own: the uses that are left on a walk, in their order
abbrev pub uses_left : List Entity → Walk → List Use
uses_left rows w = start_uses rows w.start ++ levels_uses rows w.levels.list

-- ---- where a walk can go on

-- solidd's own: on a level, after so many others, the walk is in a box, its entity reaches nothing
-- unread, and no more levels are needed than a model may have
pub record IsLevel (rows : List Entity) (before : ℕ) (l : Level) : Type 0 where
  pub at : IsBox l.at
  pub deep : depth_of rows l.e + before ≤ most_levels
  pub reads : (k : ℕ) → ¬ ReachesOpaque rows l.e k

-- solidd's own: the same of levels one after the other, of which the first has so many before it
abbrev pub AreLevels : List Entity → ℕ → List Level → Type 0
AreLevels rows before [] = Unit {0}
AreLevels rows before (l ∷ levels) = IsLevel rows before l × AreLevels rows (suc before) levels

-- solidd's own: levels with room for all that a model may have
pub record IsStack (rows : List Entity) (levels : Stack Level) : Type 0 where
  pub each : AreLevels rows 0 levels.list
  pub room : levels.spare + length levels.list ≡ most_levels

-- solidd's own: a walk that isn't started has no level yet, and starts in a box at an entity that
-- reaches nothing unread and weighs something
abbrev pub IsStart : List Entity → Option (ℕ × Box3) → List Level → Type 0
IsStart rows None levels = Unit {0}
IsStart rows (Some (e, at)) levels =
    IsBox at × ((k : ℕ) → ¬ ReachesOpaque rows e k) × (1 ≤ weight_of rows e) × (levels ≡ [])

-- solidd's own: a walk along the uses of an entity of these rows
pub record IsWalk (rows : List Entity) (w : Walk) : Type 0 where
  pub start : IsStart rows w.start w.levels.list
  pub levels : IsStack rows w.levels

-- ---- the next part of a level

-- solidd's own: the matrix of a tree, an assembly or an instance, 0 for none. Other rows have no
-- parts
abbrev pub own_matrix : Row → Option ℕ
own_matrix row.Null = None
own_matrix (row.Opaque kind form matrix text) = None
own_matrix (row.Matrix form affine next) = None
own_matrix (row.Prim p matrix) = None
own_matrix (row.Tree items matrix) = Some matrix
own_matrix (row.Assembly items matrix) = Some matrix
own_matrix (row.Instance number matrix) = Some matrix

-- solidd's own: the spans of a level's box before an operand's, item's or child's own matrix
abbrev pub part_spans : List Entity → Level → Part → Span3
part_spans rows l part = spans_through (chain_of rows part.matrix) (spans_of l.at)

-- solidd's own: the next operand, item or child of a level, whose uses are the first that are left
-- on the level; its depth is less, it reaches nothing unread, and it weighs something
pub record IsPart (rows : List Entity) (l : Level) (part : Part) : Type 0 where
  pub first : level_uses rows l ≡ uses (solid_of rows part.number) (part_spans rows l part)
      ++ level_uses rows (record { e = l.e; at = l.at; index = part.next })
  pub less : depth_of rows part.number < depth_of rows l.e
  pub reads : (k : ℕ) → ¬ ReachesOpaque rows part.number k
  pub weighs : 1 ≤ weight_of rows part.number
