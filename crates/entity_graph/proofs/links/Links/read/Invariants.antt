use Rattle.std.proofs.Common.{◌≡◌, map, take, length}
use Rattle.solid_base.specs.References.{references_of}
use Rattle.entity_graph.specs.Links.{parts, AreEnds}
use Rattle.entity_graph.proofs.links.Links.read.Given as goal

-- the parts so far are the references of the rows so far
abbrev pub invariant-loop-place : goal.invariant-loop-place
invariant-loop-place l = record {
  ordered : AreEnds 0 l.ends.items (length l.items);
  are : parts l.items 0 l.ends.items ≡ map (λ entity. references_of entity.row) (take l.place l.fn.rows);
}
