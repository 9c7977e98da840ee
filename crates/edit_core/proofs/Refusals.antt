-- The first faults of an edit, stage by stage.
use Rattle.std.proofs.Common.{◌≡◌, ℕ, List, ◌<◌, subst, sym}
use Rattle.solid_base.specs.declared.entities.Entity.{Entity}
use Rattle.solid_base.specs.declared.entities.Model.{Model}
use Rattle.solid_base.specs.Graph.{AreSound}
use Rattle.iges_parameters.specs.Accepted.{lines_of, most_lines}
use Rattle.entity_graph.specs.declared.graph_faults.GraphFault.{GraphFault}
use Rattle.entity_graph.specs.declared.graph_faults.GraphFault.TheVariants as graph
use Rattle.edit_core.specs.declared.changes.Change.{Change}
use Rattle.edit_core.specs.declared.faults.EditFault.{EditFault}
use Rattle.edit_core.specs.declared.faults.EditFault.TheVariants as fault
use Rattle.edit_core.specs.Batches.{Staged}
use Rattle.edit_core.specs.EditFaults.{of_graph}
use Rattle.edit_core.specs.Edits.{MayBegin, AreAfter, IsChangeFault, IsFirstChangeFault, HasChangeFault, HasGraphFault, IsRefused, nothing_to_replace, nothing_to_drop, taken, bad_number, bad_replacement, bad_addition}
use Rattle.edit_core.specs.Placing.{IsReferenceFault, in_use, broken}

change_stage : (model : Model) (v : ℕ) (batch : List Staged) (n : ℕ) (c : Change) (f : EditFault) → IsChangeFault model.rows n c f → HasChangeFault model.rows v batch f → IsRefused model v batch f
change_stage model v batch n c f (nothing_to_replace a) h = h
change_stage model v batch n c f (nothing_to_drop a) h = h
change_stage model v batch n c f (taken a) h = h
change_stage model v batch n c f (bad_number a b) h = h
change_stage model v batch n c f (bad_replacement a b) h = h
change_stage model v batch n c f (bad_addition a b d) h = h

pub change_refused : (model : Model) (v : ℕ) (batch : List Staged) (f : EditFault) → MayBegin v batch → IsFirstChangeFault model.rows batch f → IsRefused model v batch f
change_refused model v batch f may first = change_stage model v batch first.staged.0 first.staged.1 f first.is (record { may = may; first = first })

graph_stage : (model : Model) (v : ℕ) (batch : List Staged) (g : GraphFault) → HasGraphFault model.rows v batch g → IsRefused model v batch (of_graph g)
graph_stage model v batch (graph.Memory e) h = h.first
graph_stage model v batch (graph.Dangling de to) h = h
graph_stage model v batch (graph.WrongTarget de to) h = h
graph_stage model v batch (graph.Cycle de) h = h
graph_stage model v batch (graph.TooDeep de) h = h
graph_stage model v batch (graph.TooHeavy de) h = h

pub reference_refused : (model : Model) (v : ℕ) (batch : List Staged) (after : List Entity) (f : EditFault) → MayBegin v batch → AreAfter model.rows batch after → IsReferenceFault batch after f → IsRefused model v batch f
reference_refused model v batch after f may made (in_use de by is first) =
    subst (IsRefused model v batch) (sym is) (record { may = may; after = after; rows_after = made; first = first })
reference_refused model v batch after f may made (broken g is unused first) =
    subst (IsRefused model v batch) (sym is) (graph_stage model v batch g (record { may = may; after = after; rows_after = made; unused = unused; first = first }))

pub lines_refused : (model : Model) (v : ℕ) (batch : List Staged) (after : List Entity) (f : EditFault) → MayBegin v batch → AreAfter model.rows batch after → AreSound after → f ≡ fault.TooManyLines
    → most_lines < lines_of model.comma model.semi after → IsRefused model v batch f
lines_refused model v batch after f may made sound is many = subst (IsRefused model v batch) (sym is) (record { may = may; after = after; rows_after = made; sound = sound; many = many })
