-- A version of a log is one model, which stays as the log gets longer.
use Rattle.std.proofs.Common.{◌≡◌, ◌≢◌, inl, inr, ℕ, zero, suc, ◌≤◌, List, [], ◌∷◌, ◌++◌, length, Option, Some, slice_get, refl, sym, subst, ◌∙◌, arith}
use Rattle.std.proofs.lemmas.Bool.{cases_lt}
use Rattle.std.proofs.lemmas.Option.{slice_get_within}
use Rattle.solid_base.specs.declared.entities.Model.{Model}
use Rattle.iges_parameters.specs.Accepted.{IsAccepted}
use Rattle.iges_parameters.proofs.CountedLines.{holds_at}
use Rattle.edit_core.specs.Batches.{AreLawful}
use Rattle.edit_core.specs.Edits.{most_versions, IsEdited}
use Rattle.edit_core.specs.Versions.{LogEntry, IsVersion, AreLawfulBatches, IsStep, opening_version, next_version}
use Rattle.edit_core.proofs.AcceptedEdits.{edit_accepted}
use Rattle.edit_core.proofs.OneVersion.{model_unique}

-- ---- one model

pub same_entry : (a b : LogEntry) → ◌≡◌ {A = Option LogEntry} (Some a) (Some b) → a ≡ b
same_entry a b h = cc

pub version_unique : (opening : Model) (log : List LogEntry) (v : ℕ) (a b : Model) → IsVersion opening log v a → IsVersion opening log v b → a ≡ b
version_unique opening log v a b opening_version opening_version = refl
version_unique opening log v a b (next_version {v = u} {model = m} {entry = d} h stands edited) (next_version {model = n} {entry = e} k stands_too also) =
    let entry = same_entry e d (sym stands_too ∙ stands) in
    let model = version_unique opening log u m n h k in
    let again = subst (λ (x : LogEntry). IsEdited n u x.batch b) entry also in
    model_unique m u d.batch a b edited (subst (λ (x : Model). IsEdited x u d.batch b) (sym model) again)

pub version_within : (opening : Model) (log : List LogEntry) (v : ℕ) (model : Model) → IsVersion opening log v model → v ≤ length log
version_within opening log v model opening_version = omega arith
version_within opening log v model (next_version {v = u} {entry = entry} h stands edited) = let inside = slice_get_within log u entry stands in omega (arith, inside)

pub few_versions : (opening : Model) (log : List LogEntry) (v : ℕ) (model : Model) → IsVersion opening log v model → v ≤ most_versions
few_versions opening log v model opening_version = omega arith
few_versions opening log v model (next_version {v = u} {model = before} h stands edited) = go (few_versions opening log u before h) edited.may.below where
  go : u ≤ most_versions → u ≢ most_versions → suc u ≤ most_versions
  go few below = omega (arith, few, below)

-- what a step edited
pub step_edited : (opening : Model) (log : List LogEntry) (v : ℕ) (entry : LogEntry) (model after : Model) → IsStep opening log v entry model after → IsEdited model v entry.batch after
step_edited opening log v entry model after step = go step.then where
  go : IsVersion opening log (suc v) after → IsEdited model v entry.batch after
  go (next_version {model = m} {entry = d} h stands edited) =
      let same = same_entry d entry (sym stands ∙ step.stands) in
      let before = version_unique opening log v m model h step.before in
      subst (λ (x : Model). IsEdited x v entry.batch after) before (subst (λ (x : LogEntry). IsEdited m v x.batch after) same edited)

-- ---- each version

pub version_below : (opening : Model) (log : List LogEntry) (w : ℕ) (last : Model) → IsVersion opening log w last → (v : ℕ) → v ≤ w → (model : Model) × IsVersion opening log v model
version_below opening log w last opening_version v few =
    let first : 0 ≡ v = omega (arith, few) in
    (opening, subst (λ (n : ℕ). IsVersion opening log n opening) first opening_version)
version_below opening log w last (next_version {v = u} {model = before} h stands edited) v few =
    elim (cases_lt u v) [
      | inl l ↦ (let same : suc u ≡ v = omega (arith, l, few) in (last, subst (λ (n : ℕ). IsVersion opening log n last) same (next_version h stands edited)))
      | inr g ↦ version_below opening log u before h v g
    ]

pub version_accepted : (opening : Model) (log : List LogEntry) (v : ℕ) (model : Model) → IsAccepted opening → AreLawfulBatches log → IsVersion opening log v model → IsAccepted model
version_accepted opening log v model first lawful opening_version = first
version_accepted opening log v model first lawful (next_version {v = u} {model = before} {entry = entry} h stands edited) =
    edit_accepted before u entry.batch model (version_accepted opening log u before first lawful h) (holds_at (λ (x : LogEntry). AreLawful x.batch) log u entry lawful stands) edited

-- ---- longer logs

pub entry_stays : {X : Type 0} (log rest : List X) (place : ℕ) (entry : X) → slice_get log place ≡ Some entry → slice_get (log ++ rest) place ≡ Some entry
entry_stays [] rest place entry e = absurd (cc)
entry_stays (first ∷ log) rest zero entry e = e
entry_stays (first ∷ log) rest (suc place) entry e = entry_stays log rest place entry e

pub last_entry : {X : Type 0} (log : List X) (entry : X) → slice_get (log ++ entry ∷ []) (length log) ≡ Some entry
last_entry [] entry = refl
last_entry (first ∷ log) entry = last_entry log entry

pub version_stays : (opening : Model) (log rest : List LogEntry) (v : ℕ) (model : Model) → IsVersion opening log v model → IsVersion opening (log ++ rest) v model
version_stays opening log rest v model opening_version = opening_version
version_stays opening log rest v model (next_version {v = u} {model = before} {entry = entry} h stands edited) =
    next_version (version_stays opening log rest u before h) (entry_stays log rest u entry stands) edited

pub step_stays : (opening : Model) (log rest : List LogEntry) (v : ℕ) (entry : LogEntry) (model after : Model) → IsStep opening log v entry model after → IsStep opening (log ++ rest) v entry model after
step_stays opening log rest v entry model after step = record {
  before = version_stays opening log rest v model step.before;
  stands = entry_stays log rest v entry step.stands;
  then = version_stays opening log rest (suc v) after step.then;
}
