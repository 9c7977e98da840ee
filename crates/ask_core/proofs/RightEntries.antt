-- An entry that is right by a log stays right as the log gets longer, and one that a run has worked
-- out is right by its log.
use Rattle.std.proofs.Common.{◌≡◌, inl, inr, ℕ, zero, suc, ◌<◌, ◌≤◌, ◌%◌, ◌/◌, List, [], ◌∷◌, ◌++◌, length, Some, None, Contains, cond, get_or, slice_get, sym, ap, subst, ◌∙◌, arith}
use mathlib.Core.List.{IsPrefix}
use Rattle.std.specs.List.{AllByRecursion, flat_map}
use Rattle.std.proofs.lemmas.Bool.{eq-eqb}
use Rattle.std.proofs.lemmas.List.{length-append}
use Rattle.std.proofs.lemmas.List.Elements.{All-contains, All-from_recursion}
use Rattle.std.proofs.lemmas.Option.{slice_get-get_or}
use Rattle.solid_base.specs.declared.classes.Verdict.{Verdict}
use Rattle.solid_base.specs.declared.entities.Entity.{Entity}
use Rattle.solid_base.specs.declared.entities.Model.{Model}
use Rattle.solid_base.specs.declared.geometry.Cube.{Cube}
use Rattle.solid_base.specs.declared.solids.Row.{Row}
use Rattle.solid_base.specs.declared.solids.Row.TheVariants as row
use Rattle.solid_base.specs.References.{row_at, at_number, HasNumber, here}
use Rattle.fixed_enclosure.specs.Places.{spans_of}
use Rattle.fixed_enclosure.specs.Spans.{box_of}
use Rattle.entity_graph.proofs.Numbers.{is_number}
use Rattle.solid_eval.specs.Solids.{IsSolidRow, IsPrimitiveRow}
use Rattle.solid_eval.specs.Uses.{Use}
use Rattle.solid_eval.specs.Written.{written}
use Rattle.solid_eval.proofs.FromUses.{of_primitives}
use Rattle.solid_eval.proofs.Local.{local_solid}
use Rattle.solid_questions.specs.declared.questions.Question.{Question}
use Rattle.solid_questions.specs.Questions.{entity_of}
use Rattle.solid_questions.specs.QuestionCells.{all_cells}
use Rattle.memo_graph.specs.declared.key.Key.{Key}
use Rattle.memo_graph.specs.Memos.{Entry, verdict_of}
use Rattle.edit_core.specs.Versions.{LogEntry, IsVersion, opening_version, next_version, IsStep, IsStampIn, first_stamp, new_stamp, kept_stamp, Version, IsVersionOf, ReachesSame}
use Rattle.edit_core.proofs.Logs.{version_below, version_stays}
use Rattle.edit_core.proofs.SameReach.{stamp_same}
use Rattle.edit_core.proofs.StampsOfLogs.{stamp_within, stamp_stays}
use Rattle.ask_core.proofs.KeptEntries.{found_entry}
use Rattle.ask_core.specs.Books.{IsRight, key_verdict}
use Rattle.ask_core.specs.Runs.{RunFacts, IsRunning, IsOwn, IsOwnKey, stamp_in, or_zero, run_uses, cell_uses}

-- ---- versions and stamps of a front of a log

entry_before : {X : Type 0} (log rest : List X) (place : ℕ) (entry : X) → place < length log → slice_get (log ++ rest) place ≡ Some entry → slice_get log place ≡ Some entry
entry_before [] rest place entry inside e = absurd (omega (arith, inside))
entry_before (first ∷ log) rest zero entry inside e = e
entry_before (first ∷ log) rest (suc place) entry inside e = entry_before log rest place entry (omega (arith, inside)) e

version_before : (opening : Model) (log rest : List LogEntry) (v : ℕ) (model : Model) → v ≤ length log → IsVersion opening (log ++ rest) v model → IsVersion opening log v model
version_before opening log rest v model few opening_version = opening_version
version_before opening log rest v model few (next_version {v = u} {model = m} {entry = entry} h stands edited) =
    next_version (version_before opening log rest u m (omega (arith, few)) h) (entry_before log rest u entry (omega (arith, few)) stands) edited

step_before : (opening : Model) (log rest : List LogEntry) (v : ℕ) (entry : LogEntry) (model after : Model) → suc v ≤ length log → IsStep opening (log ++ rest) v entry model after → IsStep opening log v entry model after
step_before opening log rest v entry model after few step = record {
  before = version_before opening log rest v model (omega (arith, few)) step.before;
  stands = entry_before log rest v entry (omega (arith, few)) step.stands;
  then = version_before opening log rest (suc v) after few step.then;
}

stamp_before : (opening : Model) (log rest : List LogEntry) (e v s : ℕ) → v ≤ length log → IsStampIn opening (log ++ rest) e v s → IsStampIn opening log e v s
stamp_before opening log rest e v s few first_stamp = first_stamp
stamp_before opening log rest e v s few (new_stamp {v = u} {model = m} {after = a} {entry = d} step reached) = new_stamp (step_before opening log rest u d m a few step) reached
stamp_before opening log rest e v s few (kept_stamp {v = u} {model = m} {after = a} {entry = d} step none h) =
    kept_stamp (step_before opening log rest u d m a few step) none (stamp_before opening log rest e u s (omega (arith, few)) h)

-- a stamp is that of the version with its number
stamp_of_itself : (opening : Model) (log : List LogEntry) (e v s : ℕ) → IsStampIn opening log e v s → IsStampIn opening log e s s
stamp_of_itself opening log e v s first_stamp = first_stamp
stamp_of_itself opening log e v s (new_stamp step reached) = new_stamp step reached
stamp_of_itself opening log e v s (kept_stamp {v = u} step none h) = stamp_of_itself opening log e u s h

-- ---- verdicts

-- rows that agree on what an entity reaches give it the same verdict
same_verdict : (rows others : List Entity) (key : Key) → ReachesSame rows others key.de → key_verdict rows key ≡ key_verdict others key
same_verdict rows others key h = ap (λ solid. written solid (spans_of key.at)) (local_solid rows others key.de h.same)

-- ---- longer logs

pub right_later : (opening : Model) (log rest : List LogEntry) (entry : Entry) → IsRight opening log entry → IsRight opening (log ++ rest) entry
right_later opening log rest entry h = record {
  known = let few = h.known in omega (arith, few, length-append log rest);
  right = later;
} where
  e : ℕ
  e = entry.0.de

  s : ℕ
  s = entry.0.stamp

  later : (v : ℕ) (model : Model) → IsVersion opening (log ++ rest) v model → IsSolidRow (row_at model.rows e) → IsStampIn opening (log ++ rest) e v s → entry.1 ≡ key_verdict model.rows entry.0
  later v model is solid stamped =
      let few : s ≤ v = stamp_within opening (log ++ rest) e v s stamped in
      let (old, was) = version_below opening (log ++ rest) v model is s few in
      let first : IsStampIn opening (log ++ rest) e s s = stamp_of_itself opening (log ++ rest) e v s stamped in
      let same : ReachesSame model.rows old.rows e = stamp_same opening (log ++ rest) v s e s model old is was stamped first in
      let solid_there : IsSolidRow (row_at old.rows e) = subst IsSolidRow (same.same e here) solid in
      h.right s old (version_before opening log rest s old h.known was) solid_there (stamp_before opening log rest e s s h.known first)
      ∙ sym (same_verdict model.rows old.rows entry.0 same)

-- ---- entries that a run has worked out

primitive_stands : (rows : List Entity) (e : ℕ) → IsPrimitiveRow (row_at rows e) → HasNumber rows e
primitive_stands rows e is = elim (is_number rows e) [
  | inl has ↦ has
  | inr null ↦ absurd (subst IsPrimitiveRow null is)
]

-- a number that a list has reads an item
item_of_number : (stamps : List ℕ) (e : ℕ) → HasNumber stamps e → (s : ℕ) × (at_number stamps e ≡ Some s)
item_of_number stamps e has = (
  get_or stamps (e / 2) 0,
  ap (λ b. cond b (slice_get stamps (e / 2)) None) (eq-eqb (e % 2) 1 has.0) ∙ slice_get-get_or stamps (e / 2) 0 has.1,
)

-- all uses of a question are of primitives
abbrev OfPrimitive : List Entity → Use → Type 0
OfPrimitive rows u = IsPrimitiveRow (row_at rows u.number)

both : (P : Use → Type 0) (xs ys : List Use) → AllByRecursion P xs → AllByRecursion P ys → AllByRecursion P (xs ++ ys)
both P [] ys h k = k
both P (x ∷ xs) ys h k = (h.0, both P xs ys h.1 k)

of_cells : (rows : List Entity) (q : Question) (cubes : List Cube) → AllByRecursion (OfPrimitive rows) (flat_map (cell_uses rows q) cubes)
of_cells rows q [] = tt
of_cells rows q (cube ∷ cubes) =
    both (OfPrimitive rows) (cell_uses rows q cube) (flat_map (cell_uses rows q) cubes) (of_primitives rows (entity_of q) (spans_of (box_of cube))) (of_cells rows q cubes)

-- the stamp of a number that has a row is that by the log
stamp_by_log : (opening : Model) (log : List LogEntry) (table : Version) (e : ℕ) → IsVersionOf opening log table → HasNumber table.model.rows e → IsStampIn opening log e (length log) (stamp_in table e)
stamp_by_log opening log table e is has =
    let (s, at) = item_of_number table.stamps e (has.0, (let inside = has.1 in let one = is.one_each in omega (arith, inside, one))) in
    subst (λ (n : ℕ). IsStampIn opening log e (length log) n) (sym (ap or_zero at)) (is.stamps e s at)

solid_row : (r : Row) → IsPrimitiveRow r → IsSolidRow r
solid_row row.Null h = absurd h
solid_row (row.Opaque kind form matrix text) h = absurd h
solid_row (row.Matrix form affine next) h = absurd h
solid_row (row.Prim p matrix) h = tt
solid_row (row.Tree items matrix) h = absurd h
solid_row (row.Assembly items matrix) h = absurd h
solid_row (row.Instance number matrix) h = absurd h

module _ (run : RunFacts) (running : IsRunning run) where
  abbrev rows : List Entity
  rows = run.table.model.rows

  -- a key of the run is that of a primitive
  own_primitive : (key : Key) → IsOwnKey run key → IsPrimitiveRow (row_at rows key.de)
  own_primitive key own = subst (λ (k : Key). IsPrimitiveRow (row_at rows k.de)) (sym own.2)
      (All-contains (OfPrimitive rows) (run_uses run) own.0 (All-from_recursion _ _ (of_cells rows run.question (all_cells run.question))) own.1)

  -- its stamp is that of the entity in the run's version
  own_stamped : (key : Key) → IsOwnKey run key → IsStampIn run.opening run.log key.de (length run.log) key.stamp
  own_stamped key own =
      let primitive = subst (λ (k : Key). IsPrimitiveRow (row_at rows k.de)) own.2 (own_primitive key own) in
      subst (λ (k : Key). IsStampIn run.opening run.log k.de (length run.log) k.stamp) (sym own.2)
      (stamp_by_log run.opening run.log run.table own.0.number running.version (primitive_stands rows own.0.number primitive))

  -- an entry of the run is right by the run's log
  own_right : (entry : Entry) → IsOwn run entry → IsRight run.opening run.log entry
  own_right entry own = record {
    known = stamp_within run.opening run.log entry.0.de (length run.log) entry.0.stamp (own_stamped entry.0 own.0);
    right = λ v model is solid held. own.1 ∙ same_verdict rows model.rows entry.0
        (stamp_same run.opening run.log (length run.log) v entry.0.de entry.0.stamp run.table.model model running.version.newest is (own_stamped entry.0 own.0) held);
  }

  -- and by each log that goes on from it
  pub own_right_later : (log : List LogEntry) (entry : Entry) → IsPrefix run.log log → IsOwn run entry → IsRight run.opening log entry
  own_right_later log entry front own = subst (λ (l : List LogEntry). IsRight run.opening l entry) front.1 (right_later run.opening run.log front.0 entry (own_right entry own))

  -- ---- entries that a run finds

  -- an entry under a key of the run that is right by such a log holds the verdict in the run's version
  own_found : (log : List LogEntry) (entry : Entry) → IsPrefix run.log log → IsOwnKey run entry.0 → IsRight run.opening log entry → entry.1 ≡ key_verdict rows entry.0
  own_found log entry front own is = is.right (length run.log) run.table.model
      (subst (λ (l : List LogEntry). IsVersion run.opening l (length run.log) run.table.model) front.1 (version_stays run.opening run.log front.0 (length run.log) run.table.model running.version.newest))
      (solid_row (row_at rows entry.0.de) (own_primitive entry.0 own))
      (subst (λ (l : List LogEntry). IsStampIn run.opening l entry.0.de (length run.log) entry.0.stamp) front.1 (stamp_stays run.opening run.log front.0 entry.0.de (length run.log) entry.0.stamp (own_stamped entry.0 own)))

  pub found_right : (log : List LogEntry) (entries : List Entry) → IsPrefix run.log log → ((entry : Entry) → Contains entries entry → IsRight run.opening log entry)
      → (key : Key) (verdict : Verdict) → IsOwnKey run key → verdict_of key entries ≡ Some verdict → verdict ≡ key_verdict rows key
  found_right log entries front right key verdict own found = own_found log (key, verdict) front own (right (key, verdict) (found_entry key entries verdict found))
