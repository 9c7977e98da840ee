-- A check has one answer, to all bytes.
use Rattle.std.proofs.Common.{◌≡◌, inl, inr, ℕ, zero, suc, ◌+◌, List, [], ◌∷◌, drop, slice_get, Some, Result, Ok, Err, IfOk, refl, sym, ap, ◌∙◌, arith}
use Rattle.std.specs.declared.alloc.AllocError.{AllocError}
use Rattle.solid_base.specs.declared.entities.Entity.{Entity}
use Rattle.solid_base.specs.declared.solids.Row.{Row}
use Rattle.solid_base.specs.declared.solids.Row.TheVariants as row
use Rattle.iges_file.specs.declared.faults.FileFault.{FileFault}
use Rattle.iges_file.specs.Files.{Refused}
use Rattle.iges_file.proofs.OneOutcome.{one_of_both, reads_once, first_fault, never_both}
use Rattle.solid_top.specs.declared.report.Tallies.{Tallies}
use Rattle.solid_top.specs.declared.faults.TopFault.TheVariants as fault
use Rattle.solid_top.specs.declared.outputs.Output.{Output}
use Rattle.solid_top.specs.declared.statuses.Status.{Status}
use Rattle.solid_top.specs.declared.statuses.Status.TheVariants as status
use Rattle.solid_top.specs.Checks.{with_row, tallies_from, IsChecked, IsCheckOutput, check_text}
use Rattle.solid_top.specs.TopFaults.{IsRefusal, refused_text}
use Rattle.solid_top.proofs.StatusLaws.{answered_once}

-- the rows from a place on are the row there and those after it
pub tallies_next : (t : Tallies) (rows : List Entity) (at : ℕ) (e : Entity) → slice_get rows at ≡ Some e
    → tallies_from t (drop at rows) ≡ tallies_from (with_row t e.row) (drop (suc at) rows)
tallies_next t [] at e is = cc
tallies_next t (r ∷ rows) zero e is = let same : r ≡ e = cc in rw same refl
tallies_next t (r ∷ rows) (suc at) e is = tallies_next t rows at e is

-- a row counts once
pub counted_once : (t : Tallies) (r : Row) → (with_row t r).null + (with_row t r).kept + (with_row t r).read ≡ t.null + t.kept + t.read + 1
counted_once t row.Null = omega arith
counted_once t (row.Opaque kind form matrix text) = omega arith
counted_once t (row.Matrix form affine next) = omega arith
counted_once t (row.Prim p matrix) = omega arith
counted_once t (row.Tree items matrix) = omega arith
counted_once t (row.Assembly items matrix) = omega arith
counted_once t (row.Instance child matrix) = omega arith

-- bytes are refused as a file with one line
pub refusal_once : (bytes a b : List ℕ) → IsRefusal bytes a → IsRefusal bytes b → a ≡ b
refusal_once bytes a b (f, r, t) (g, q, u) = t ∙ ap (λ (x : FileFault). refused_text (fault.File x)) (first_fault bytes f g r q) ∙ sym u

pub output_once : (bytes a b : List ℕ) → IsCheckOutput bytes a → IsCheckOutput bytes b → a ≡ b
output_once bytes a b (m, i, r, x) (n, j, q, y) = x ∙ ap check_text (reads_once bytes m n i j r q).0 ∙ sym y

pub output_or_refusal : (bytes a b : List ℕ) → IsCheckOutput bytes a → IsRefusal bytes b → ⊥
output_or_refusal bytes a b (m, i, r, x) (f, q, y) = never_both bytes m i f r q

pub checked_once : (bytes : List ℕ) (s t : Status) (a b : List ℕ) → IsChecked bytes s a → IsChecked bytes t b → (s ≡ t) × (a ≡ b)
checked_once bytes = answered_once (IsCheckOutput bytes) (IsRefusal bytes) (output_once bytes) (refusal_once bytes) (output_or_refusal bytes)

-- a refusal with the first fault is what is answered
pub refused_checked : (bytes : List ℕ) (f : FileFault) (result : Result Output AllocError) → Refused bytes f
    → IfOk result (λ out. out.status ≡ status.Refused) → IfOk result (λ out. out.text ≡ refused_text (fault.File f)) → IfOk result (λ out. IsChecked bytes out.status out.text)
refused_checked bytes f (Err e) h s t = tt
refused_checked bytes f (Ok out) h s t = rw s (f, h, t)

pub checked_some : (bytes : List ℕ) → (s : Status) × (text : List ℕ) × IsChecked bytes s text
checked_some bytes =
    elim (one_of_both bytes) [
      | inl read ↦ (status.Done, check_text read.0, (read.0, read.1, read.2, refl))
      | inr refused ↦ (status.Refused, refused_text (fault.File refused.0), (refused.0, refused.1, refl))
    ]
