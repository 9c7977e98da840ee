-- An entity has one stamp in each version of a log, which stays as the log gets longer; the stamps of a table are those of its log.
use Rattle.std.proofs.Common.{◌≡◌, ◌⊎◌, inl, inr, ℕ, zero, suc, ◌≤◌, List, [], ◌∷◌, ◌++◌, length, length-append, Contains, refl, sym, ap, subst, ◌∙◌, arith}
use Rattle.std.proofs.lemmas.List.Elements.{Contains-append_right}
use Rattle.solid_base.specs.declared.entities.Entity.{Entity}
use Rattle.solid_base.specs.declared.entities.Model.{Model}
use Rattle.solid_base.specs.References.{Reaches}
use Rattle.entity_graph.specs.Stamps.{ReachesChanged, IsStamp}
use Rattle.entity_graph.proofs.Decided.{Decided}
use Rattle.entity_graph.proofs.Leading.{reaches_decided}
use Rattle.edit_core.specs.Edits.{IsEdited}
use Rattle.edit_core.specs.Versions.{LogEntry, IsVersion, IsStep, changed_by, IsStampIn, first_stamp, new_stamp, kept_stamp, opening_version, next_version, Version, IsOpening, IsNext, IsVersionOf}
use Rattle.edit_core.proofs.Logs.{same_entry, version_unique, version_stays, step_stays, last_entry}

-- ---- one stamp

same_changed : (opening : Model) (log : List LogEntry) (v e : ℕ) (d f : LogEntry) (m n a b : Model) → IsStep opening log v d m a → IsStep opening log v f n b → ReachesChanged a.rows (changed_by d m a) e → ReachesChanged b.rows (changed_by f n b) e
same_changed opening log v e d f m n a b step also h =
    let entry = same_entry d f (sym step.stands ∙ also.stands) in
    let before = version_unique opening log v m n step.before also.before in
    let after = version_unique opening log (suc v) a b step.then also.then in
    subst (λ (x : Model). ReachesChanged x.rows (changed_by f n x) e) after
    (subst (λ (x : Model). ReachesChanged a.rows (changed_by f x a) e) before (subst (λ (x : LogEntry). ReachesChanged a.rows (changed_by x m a) e) entry h))

pub stamp_unique : (opening : Model) (log : List LogEntry) (e v s t : ℕ) → IsStampIn opening log e v s → IsStampIn opening log e v t → s ≡ t
stamp_unique opening log e v s t first_stamp first_stamp = refl
stamp_unique opening log e v s t (new_stamp step reached) (new_stamp also too) = refl
stamp_unique opening log e v s t (new_stamp {v = u} {model = m} {after = a} {entry = d} step reached) (kept_stamp {model = n} {after = b} {entry = f} also none k) =
    absurd (none (same_changed opening log u e d f m n a b step also reached))
stamp_unique opening log e v s t (kept_stamp {v = u} {model = m} {after = a} {entry = d} step none h) (new_stamp {model = n} {after = b} {entry = f} also reached) =
    absurd (none (same_changed opening log u e f d n m b a also step reached))
stamp_unique opening log e v s t (kept_stamp {v = u} step none h) (kept_stamp also too k) = stamp_unique opening log e u s t h k

pub stamp_within : (opening : Model) (log : List LogEntry) (e v s : ℕ) → IsStampIn opening log e v s → s ≤ v
stamp_within opening log e v s first_stamp = omega arith
stamp_within opening log e v s (new_stamp step reached) = omega arith
stamp_within opening log e v s (kept_stamp {v = u} step none h) = let few = stamp_within opening log e u s h in omega (arith, few)

-- ---- some stamp

changed_decided : (rows : List Entity) (changed : List ℕ) (e : ℕ) → Decided (ReachesChanged rows changed e)
changed_decided rows [] e = inr (λ h. let inside = h.2.1 in omega (arith, inside))
changed_decided rows (n ∷ changed) e = go (reaches_decided rows e n) (changed_decided rows changed e) where
  split : (k : ℕ) → Contains (n ∷ changed) k → (n ≡ k) ⊎ Contains changed k
  split k (zero, inside, is) = inl is
  split k (suc i, inside, is) = inr (i, omega (arith, inside), is)

  go : Decided (Reaches rows e n) → Decided (ReachesChanged rows changed e) → Decided (ReachesChanged rows (n ∷ changed) e)
  go (inl one) more = inl (n, one, (0, omega arith, refl))
  go (inr none) (inl there) = (let (k, reached, c) = there in inl (k, reached, Contains-append_right (n ∷ []) changed k c))
  go (inr none) (inr nowhere) = inr (λ h. (let (k, reached, c) = h in elim (split k c) [
    | inl same ↦ none (subst (λ (m : ℕ). Reaches rows e m) (sym same) reached)
    | inr d ↦ nowhere (k, reached, d)
  ]))

pub some_stamp : (opening : Model) (log : List LogEntry) (e v : ℕ) (model : Model) → IsVersion opening log v model → (s : ℕ) × IsStampIn opening log e v s
some_stamp opening log e v model opening_version = (0, first_stamp)
some_stamp opening log e v model (next_version {v = u} {model = before} {entry = entry} h stands edited) =
    let step : IsStep opening log u entry before model = record { before = h; stands = stands; then = next_version h stands edited } in
    let (s, old) = some_stamp opening log e u before h in
    elim (changed_decided model.rows (changed_by entry before model) e) [ inl reached ↦ (suc u, new_stamp step reached) | inr none ↦ (s, kept_stamp step none old) ]

-- ---- longer logs

pub stamp_stays : (opening : Model) (log rest : List LogEntry) (e v s : ℕ) → IsStampIn opening log e v s → IsStampIn opening (log ++ rest) e v s
stamp_stays opening log rest e v s first_stamp = first_stamp
stamp_stays opening log rest e v s (new_stamp {v = u} {model = m} {after = a} {entry = d} step reached) = new_stamp (step_stays opening log rest u d m a step) reached
stamp_stays opening log rest e v s (kept_stamp {v = u} {model = m} {after = a} {entry = d} step none h) =
    kept_stamp (step_stays opening log rest u d m a step) none (stamp_stays opening log rest e u s h)

-- ---- the stamps of a table

pub opening_is_version : (model : Model) (version : Version) → IsOpening model version → IsVersionOf model [] version
opening_is_version model version h = record {
  number = h.number;
  newest = subst (λ (m : Model). IsVersion model [] 0 m) (sym h.is) opening_version;
  one_each = h.one_each ∙ ap (λ (m : Model). length m.rows) (sym h.is);
  stamps = λ e s at. subst (λ (n : ℕ). IsStampIn model [] e 0 n) (sym (h.stamps e s at)) first_stamp;
}

module _ (opening : Model) (log : List LogEntry) (entry : LogEntry) (version after : Version) (is : IsVersionOf opening log version) (next : IsNext version entry.batch after) where
  abbrev longer : List LogEntry
  longer = log ++ entry ∷ []

  edited : IsEdited version.model (length log) entry.batch after.model
  edited = subst (λ (n : ℕ). IsEdited version.model n entry.batch after.model) is.number next.model

  step : IsStep opening longer (length log) entry version.model after.model
  step =
      let before = version_stays opening log (entry ∷ []) (length log) version.model is.newest in
      record { before = before; stands = last_entry log entry; then = next_version before (last_entry log entry) edited }

  new_number : after.number ≡ suc (length log)
  new_number = next.number ∙ ap suc is.number

  one_longer : suc (length log) ≡ length longer
  one_longer = omega (arith, length-append log (entry ∷ []))

  stamp_then : (e s : ℕ) → IsStamp after.model.rows (changed_by entry version.model after.model) after.number version.stamps e s → IsStampIn opening longer e (suc (length log)) s
  stamp_then e s (inl new) = subst (λ (n : ℕ). IsStampIn opening longer e (suc (length log)) n) (sym (new.1 ∙ new_number)) (new_stamp step new.0)
  stamp_then e s (inr kept) = kept_stamp step kept.0 (stamp_stays opening log (entry ∷ []) e (length log) s (is.stamps e s kept.1))

  pub next_is_version : IsVersionOf opening (log ++ entry ∷ []) after
  next_is_version = record {
    number = new_number ∙ one_longer;
    newest = subst (λ (n : ℕ). IsVersion opening longer n after.model) one_longer step.then;
    one_each = next.one_each;
    stamps = λ e s at. subst (λ (n : ℕ). IsStampIn opening longer e n s) one_longer (stamp_then e s (next.stamps e s at));
  }
