-- Each batch in which no number is staged twice makes a model, or has a first fault.
use Rattle.std.proofs.Common.{◌≡◌, ◌≢◌, ◌⊎◌, inl, inr, ℕ, zero, suc, ◌<◌, ◌≤◌, ◌/◌, ◌%◌, List, [], ◌∷◌, length, take, Some, Result, Ok, Err, slice_get, refl, sym, ap, subst, arith}
use Rattle.std.specs.List.{AllByRecursion}
use Rattle.std.proofs.lemmas.Bool.{cases_eq, cases_lt}
use Rattle.std.proofs.Math.Seq.{take-length}
use Rattle.solid_base.specs.declared.entities.Entity.{Entity}
use Rattle.solid_base.specs.declared.entities.Model.{Model}
use Rattle.solid_base.specs.declared.entities.RowText.{RowText}
use Rattle.solid_base.specs.declared.entities.Token.{Token}
use Rattle.solid_base.specs.declared.references.Reference.TheVariants as reference
use Rattle.solid_base.specs.declared.solids.Row.{Row}
use Rattle.solid_base.specs.declared.solids.Row.TheVariants as row
use Rattle.solid_base.specs.References.{row_at, Refers}
use Rattle.solid_base.specs.Texts.{blank_attributes}
use Rattle.solid_base.specs.Graph.{AreSound}
use Rattle.iges_parameters.specs.Accepted.{lines_of, most_lines}
use Rattle.iges_parameters.specs.declared.faults.RowFault.{RowFault}
use Rattle.iges_parameters.specs.Records.{record_in}
use Rattle.iges_parameters.specs.RecordFaults.{IsRecordFaultIn}
use Rattle.iges_parameters.proofs.CountedLines.{holds_at}
use Rattle.iges_parameters.proofs.RecordFaultsRead.{record_fault_in}
use Rattle.entity_graph.specs.declared.graph_faults.GraphFault.{GraphFault}
use Rattle.entity_graph.specs.FirstFaults.{IsFault}
use Rattle.entity_graph.proofs.Decided.{Decided, turned, both_decided, not_decided, first_or_ever}
use Rattle.entity_graph.proofs.OneOfBoth.{one_of_both}
use Rattle.entity_graph.proofs.RowsDecided.{bound, dangling_decided, refers_decided, refers_nowhere}
use Rattle.entity_graph.proofs.Steps.{take_step}
use Rattle.edit_core.specs.declared.changes.Change.{Change}
use Rattle.edit_core.specs.declared.changes.Change.TheVariants as change
use Rattle.edit_core.specs.declared.faults.EditFault.{EditFault}
use Rattle.edit_core.specs.declared.faults.EditFault.TheVariants as fault
use Rattle.edit_core.specs.Batches.{Staged, AreApart}
use Rattle.edit_core.specs.EditFaults.{of_graph}
use Rattle.edit_core.specs.Edits.{null_entity, edit_comma, edit_semi, most_versions, most_number, Stands, IsNumberToAdd, IsMade, CanBeMade, AreAfter, IsUnused, MayBegin, IsChangeFault, IsFirstChangeFault, IsFirstInUse, IsRefused, IsEdited, nothing_to_replace, nothing_to_drop, taken, bad_number, bad_replacement, bad_addition}
use Rattle.edit_core.specs.Placing.{put, NoneNames, IsFirstNaming, in_use, broken}
use Rattle.edit_core.proofs.Placing.{standing}
use Rattle.edit_core.proofs.RowsAfter.{after_none, after_more, apart_before}
use Rattle.edit_core.proofs.Refusals.{change_refused, reference_refused, lines_refused}

-- ---- one change

stands_decided : (rows : List Entity) (n : ℕ) → Decided (Stands rows n)
stands_decided rows n = not_decided (row_at rows n ≡ row.Null) (dangling_decided rows (reference.Solid n))

at_most : (n most : ℕ) → Decided (n ≤ most)
at_most n most = elim (cases_lt most n) [ inl l ↦ inr (λ h. omega (arith, l, h)) | inr g ↦ inl g ]

may_add_decided : (n : ℕ) → Decided (IsNumberToAdd n)
may_add_decided n = both_decided (n % 2 ≡ 1) (n ≤ most_number) (cases_eq (n % 2) 1) (at_most n most_number)

-- what a record is read as, or its first fault
abbrev ReadOrFaulty : RowText → Type 0
ReadOrFaulty source = ((r : Row) × (tail : List Token) × (record_in edit_comma edit_semi source ≡ Ok (r, tail))) ⊎ ((f : RowFault) × IsRecordFaultIn edit_comma edit_semi source f)

read_or_faulty : (source : RowText) → ReadOrFaulty source
read_or_faulty source = go (record_in edit_comma edit_semi source) refl where
  go : (r : Result (Row × List Token) RowFault) → record_in edit_comma edit_semi source ≡ r → ReadOrFaulty source
  go (Ok x) is = inl (x.0, x.1, is)
  go (Err f) is = inr (f, record_fault_in edit_comma edit_semi source f is)

abbrev MadeOrFaulty : List Entity → ℕ → Change → Type 0
MadeOrFaulty rows n c = ((e : Entity) × IsMade rows n c e) ⊎ ((f : EditFault) × IsChangeFault rows n c f)

replaced : (rows : List Entity) (n : ℕ) (source : RowText) → Decided (Stands rows n) → ReadOrFaulty source → MadeOrFaulty rows n (change.Replace source)
replaced rows n source (inr none) read = inr (fault.NoEntity n, nothing_to_replace none)
replaced rows n source (inl stands) (inr bad) = inr (fault.BadRecord n bad.0, bad_replacement stands bad.1)
replaced rows n source (inl stands) (inl read) =
    let (r, tail, is) = read in
    let (old, at) = standing rows n stands in
    inl (record { row = r; attrs = old.attrs; tail = tail }, (stands, is, (old, at, refl)))

added : (rows : List Entity) (n : ℕ) (source : RowText) → Decided (Stands rows n) → Decided (IsNumberToAdd n) → ReadOrFaulty source → MadeOrFaulty rows n (change.Add source)
added rows n source (inl stands) may read = inr (fault.Taken n, taken stands)
added rows n source (inr free) (inr bad) read = inr (fault.BadNumber n, bad_number free bad)
added rows n source (inr free) (inl may) (inr bad) = inr (fault.BadRecord n bad.0, bad_addition free may bad.1)
added rows n source (inr free) (inl may) (inl read) =
    let (r, tail, is) = read in
    inl (record { row = r; attrs = blank_attributes; tail = tail }, (free, may, is, refl))

dropped : (rows : List Entity) (n : ℕ) → Decided (Stands rows n) → MadeOrFaulty rows n change.Drop
dropped rows n (inr none) = inr (fault.NoEntity n, nothing_to_drop none)
dropped rows n (inl stands) = inl (null_entity, (stands, refl))

change_outcome : (rows : List Entity) (n : ℕ) (c : Change) → MadeOrFaulty rows n c
change_outcome rows n (change.Replace source) = replaced rows n source (stands_decided rows n) (read_or_faulty source)
change_outcome rows n (change.Add source) = added rows n source (stands_decided rows n) (may_add_decided n) (read_or_faulty source)
change_outcome rows n change.Drop = dropped rows n (stands_decided rows n)

-- ---- all changes

abbrev AllMadeOrFaulty : List Entity → List Staged → Type 0
AllMadeOrFaulty rows batch = AllByRecursion (CanBeMade rows) batch ⊎ ((f : EditFault) × IsFirstChangeFault rows batch f)

one_then_more : (rows : List Entity) (s : Staged) (batch : List Staged) → MadeOrFaulty rows s.0 s.1 → AllMadeOrFaulty rows batch → AllMadeOrFaulty rows (s ∷ batch)
one_then_more rows s batch (inr bad) more = inr (bad.0, record { front = []; staged = s; rest = batch; stands = refl; before = tt; is = bad.1 })
one_then_more rows s batch (inl made) (inl all) = inl (made, all)
one_then_more rows s batch (inl made) (inr bad) =
    let first = bad.1 in
    inr (bad.0, record { front = s ∷ first.front; staged = first.staged; rest = first.rest; stands = ap (λ (more : List Staged). s ∷ more) first.stands; before = (made, first.before); is = first.is })

changes_outcome : (rows : List Entity) (batch : List Staged) → AllMadeOrFaulty rows batch
changes_outcome rows [] = inl tt
changes_outcome rows (s ∷ batch) = one_then_more rows s batch (change_outcome rows s.0 s.1) (changes_outcome rows batch)

-- the rows after the first changes
rows_so_far : (rows : List Entity) (batch : List Staged) → AreApart batch → AllByRecursion (CanBeMade rows) batch → (at : ℕ) → at ≤ length batch
    → (after : List Entity) × AreAfter rows (take at batch) after
rows_so_far rows batch apart all zero within = (rows, after_none rows)
rows_so_far rows batch apart all (suc at) within =
    let (after, h) = rows_so_far rows batch apart all at (omega (arith, within)) in
    let (s, is) = standing_at batch at (omega (arith, within)) in
    let (e, made) = holds_at (CanBeMade rows) batch at s all is in
    let step = take_step batch at (suc at) s (omega arith) is in
    (put after (s.0 / 2) e, subst (λ (front : List Staged). AreAfter rows front (put after (s.0 / 2) e)) (sym step) (after_more rows after (take at batch) s.0 s.1 e h (apart_before batch at s apart is) made)) where
      standing_at : (xs : List Staged) (at : ℕ) → at < length xs → (s : Staged) × (slice_get xs at ≡ Some s)
      standing_at [] at l = absurd (omega (arith, l))
      standing_at (x ∷ xs) zero l = (x, refl)
      standing_at (x ∷ xs) (suc at) l = standing_at xs at (omega (arith, l))

rows_made : (rows : List Entity) (batch : List Staged) → AreApart batch → AllByRecursion (CanBeMade rows) batch → (after : List Entity) × AreAfter rows batch after
rows_made rows batch apart all =
    let (after, h) = rows_so_far rows batch apart all (length batch) (omega arith) in
    (after, subst (λ (front : List Staged). AreAfter rows front after) (take-length batch) h)

-- ---- dropped numbers

named_or_not : (after : List Entity) (n : ℕ) → NoneNames after n ⊎ ((by : ℕ) × IsFirstNaming after n by)
named_or_not after n = go (first_or_ever (λ e. ¬ Refers after e n) (λ e. Refers after e n) (λ e. turned (Refers after e n) (¬ Refers after e n) (refers_decided after e n)) (bound after) (λ e past. refers_nowhere after e n past)) where
  go : ((e : ℕ) → ¬ Refers after e n) ⊎ ((e : ℕ) × Refers after e n × ((k : ℕ) → k < e → ¬ Refers after k n)) → NoneNames after n ⊎ ((by : ℕ) × IsFirstNaming after n by)
  go (inl none) = inl none
  go (inr first) = inr (first.0, record { names = first.1; least = first.2 })

abbrev UnusedOrFirst : List Entity → List Staged → Type 0
UnusedOrFirst after batch = AllByRecursion (IsUnused after) batch ⊎ ((de : ℕ) × (by : ℕ) × IsFirstInUse batch after de by)

unused_before : (after : List Entity) (s : Staged) (batch : List Staged) → IsUnused after s → UnusedOrFirst after batch → UnusedOrFirst after (s ∷ batch)
unused_before after s batch one (inl all) = inl (one, all)
unused_before after s batch one (inr used) =
    let (de, by, first) = used in
    inr (de, by, record { front = s ∷ first.front; rest = first.rest; stands = ap (λ (more : List Staged). s ∷ more) first.stands; before = (one, first.before); names = first.names; least = first.least })

drop_before : (after : List Entity) (n : ℕ) (batch : List Staged) → NoneNames after n ⊎ ((by : ℕ) × IsFirstNaming after n by) → UnusedOrFirst after batch → UnusedOrFirst after ((n, change.Drop) ∷ batch)
drop_before after n batch (inl none) more = unused_before after (n, change.Drop) batch none more
drop_before after n batch (inr named) more =
    let (by, first) = named in
    inr (n, by, record { front = []; rest = batch; stands = refl; before = tt; names = first.names; least = first.least })

one_use : (after : List Entity) (n : ℕ) (c : Change) (batch : List Staged) → UnusedOrFirst after batch → UnusedOrFirst after ((n, c) ∷ batch)
one_use after n (change.Replace source) batch more = unused_before after (n, change.Replace source) batch tt more
one_use after n (change.Add source) batch more = unused_before after (n, change.Add source) batch tt more
one_use after n change.Drop batch more = drop_before after n batch (named_or_not after n) more

uses_outcome : (after : List Entity) (batch : List Staged) → UnusedOrFirst after batch
uses_outcome after [] = inl tt
uses_outcome after (s ∷ batch) = one_use after s.0 s.1 batch (uses_outcome after batch)

-- ---- the whole batch

abbrev Outcome : Model → ℕ → List Staged → Type 0
Outcome model v batch = ((f : EditFault) × IsRefused model v batch f) ⊎ ((after : Model) × IsEdited model v batch after)

module _ (model : Model) (v : ℕ) (batch : List Staged) (may : MayBegin v batch) where
  with_sound : (after : List Entity) → AreAfter model.rows batch after → AreSound after → (most_lines < lines_of model.comma model.semi after) ⊎ (lines_of model.comma model.semi after ≤ most_lines) → Outcome model v batch
  with_sound after made sound (inl many) = inl (fault.TooManyLines, lines_refused model v batch after fault.TooManyLines may made sound refl many)
  with_sound after made sound (inr few) = inr (
    record { start = model.start; comma = model.comma; semi = model.semi; global = model.global; rows = after },
    record { may = may; rows = made; sound = sound; few = few; start = refl; comma = refl; semi = refl; global = refl },
  )

  with_unused : (after : List Entity) → AreAfter model.rows batch after → AllByRecursion (IsUnused after) batch → AreSound after ⊎ ((g : GraphFault) × IsFault after g) → Outcome model v batch
  with_unused after made unused (inl sound) = with_sound after made sound (cases_lt most_lines (lines_of model.comma model.semi after))
  with_unused after made unused (inr bad) = inl (of_graph bad.0, reference_refused model v batch after (of_graph bad.0) may made (broken bad.0 refl unused bad.1))

  with_rows : (after : List Entity) → AreAfter model.rows batch after → UnusedOrFirst after batch → Outcome model v batch
  with_rows after made (inl unused) = with_unused after made unused (one_of_both after)
  with_rows after made (inr used) =
      let (de, by, first) = used in
      inl (fault.InUse de by, reference_refused model v batch after (fault.InUse de by) may made (in_use de by refl first))

  with_changes : AreApart batch → AllMadeOrFaulty model.rows batch → Outcome model v batch
  with_changes apart (inr bad) = inl (bad.0, change_refused model v batch bad.0 may bad.1)
  with_changes apart (inl all) = let (after, made) = rows_made model.rows batch apart all in with_rows after made (uses_outcome after batch)

begins : (model : Model) (v : ℕ) (batch : List Staged) → batch ≢ [] → AreApart batch → (v ≡ most_versions) ⊎ (v ≢ most_versions) → Outcome model v batch
begins model v batch some apart (inl full) = inl (fault.Full, (some, full))
begins model v batch some apart (inr below) = with_changes model v batch (record { some = some; below = below }) apart (changes_outcome model.rows batch)

pub some_outcome : (model : Model) (v : ℕ) (batch : List Staged) → AreApart batch → Outcome model v batch
some_outcome model v [] apart = inl (fault.EmptyBatch, refl)
some_outcome model v (s ∷ batch) apart = begins model v (s ∷ batch) (λ e. cc) apart (cases_eq v most_versions)
