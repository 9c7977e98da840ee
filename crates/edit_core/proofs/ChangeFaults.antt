-- The faults of single changes.
use Rattle.std.proofs.Common.{◌≡◌, ℕ, Bool, true, false, List, Result, Ok, Err, IfOk, IfErr, refl, arith}
use Rattle.solid_base.specs.declared.entities.Entity.{Entity}
use Rattle.solid_base.specs.declared.entities.RowText.{RowText}
use Rattle.iges_parameters.specs.declared.faults.RowFault.{RowFault}
use Rattle.iges_parameters.specs.declared.faults.RowFault.TheVariants as row
use Rattle.iges_parameters.specs.RecordFaults.{IsRecordFaultIn}
use Rattle.iges_parameters.specs.Faults as rows
use Rattle.edit_core.specs.declared.changes.Change.TheVariants as change
use Rattle.edit_core.specs.declared.faults.EditFault.{EditFault}
use Rattle.edit_core.specs.EditFaults.{IsOfText, of_record, of_graph}
use Rattle.entity_graph.specs.declared.graph_faults.GraphFault.{GraphFault}
use Rattle.entity_graph.specs.declared.graph_faults.GraphFault.TheVariants as graph
use Rattle.entity_graph.specs.GraphFaults as graphs
use Rattle.edit_core.specs.Edits.{edit_comma, edit_semi, Stands, IsNumberToAdd, IsChangeFault, bad_replacement, bad_addition}
use Rattle.edit_core.specs.Placing.{HasBadRecord}

-- a fault of a record that is none of memory
pub record_blamed : (source : RowText) (number : ℕ) (f : RowFault) → (rows.IsOfText f → IsRecordFaultIn edit_comma edit_semi source f) → IsOfText (of_record number f)
    → HasBadRecord source number (of_record number f)
record_blamed source number (row.Memory e) h t = absurd t
record_blamed source number row.NotRead h t = record { inner = row.NotRead; first = h t; is = refl }
record_blamed source number (row.Token index) h t = record { inner = row.Token index; first = h t; is = refl }
record_blamed source number (row.Missing index) h t = record { inner = row.Missing index; first = h t; is = refl }
record_blamed source number (row.WrongKind index) h t = record { inner = row.WrongKind index; first = h t; is = refl }
record_blamed source number (row.TooFar index) h t = record { inner = row.TooFar index; first = h t; is = refl }
record_blamed source number (row.BadSize index) h t = record { inner = row.BadSize index; first = h t; is = refl }
record_blamed source number (row.BadAxis index) h t = record { inner = row.BadAxis index; first = h t; is = refl }
record_blamed source number row.BadMatrix h t = record { inner = row.BadMatrix; first = h t; is = refl }
record_blamed source number (row.BadPostfix index) h t = record { inner = row.BadPostfix index; first = h t; is = refl }

pub replacement_blamed : (entities : List Entity) (source : RowText) (number : ℕ) (f : EditFault) → Stands entities number → HasBadRecord source number f → IsChangeFault entities number (change.Replace source) f
replacement_blamed entities source number f stands bad = rw bad.is (bad_replacement stands bad.first)

pub addition_blamed : (entities : List Entity) (source : RowText) (number : ℕ) (f : EditFault) → ¬ Stands entities number → IsNumberToAdd number → HasBadRecord source number f → IsChangeFault entities number (change.Add source) f
addition_blamed entities source number f free may bad = rw bad.is (bad_addition free may bad.first)

-- ---- what holds of a value or a fault, and what follows from it

pub if_err : {A E : Type 0} (r : Result A E) (P Q : E → Type 0) → ((e : E) → P e → Q e) → IfErr r P → IfErr r Q
if_err (Ok x) P Q h p = tt
if_err (Err e) P Q h p = h e p

pub if_ok : {A E : Type 0} (r : Result A E) (P Q R : A → Type 0) → ((x : A) → P x → Q x → R x) → IfOk r P → IfOk r Q → IfOk r R
if_ok (Ok x) P Q R h p q = h x p q
if_ok (Err e) P Q R h p q = tt

-- what a test that is false says
pub not_null : {P : Type 0} → (P → ◌≡◌ {A = Bool} false true) → ¬ P
not_null h p = let wrong = h p in cc

pub not_both : (b : Bool) → b ≡ true → b ≡ false → ⊥
not_both b h k = cc

-- a fault of the references that is none of memory
pub graph_text : (g : GraphFault) → IsOfText (of_graph g) → graphs.IsOfText g
graph_text (graph.Memory e) t = absurd t
graph_text (graph.Dangling de to) t = λ e. omega (arith, e)
graph_text (graph.WrongTarget de to) t = λ e. omega (arith, e)
graph_text (graph.Cycle de) t = λ e. omega (arith, e)
graph_text (graph.TooDeep de) t = λ e. omega (arith, e)
graph_text (graph.TooHeavy de) t = λ e. omega (arith, e)
