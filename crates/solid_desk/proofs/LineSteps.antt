-- What one line does over a book.
use Rattle.std.proofs.Common.{◌≡◌, ◌≤◌, ◌+◌, inl, inr, ℕ, suc, max, List, [], ◌∷◌, ◌++◌, length, take, Bool, codes, decimal, Result, Ok, Err, OnErr, refl, sym, ap, subst, ◌∙◌, append_assoc, length-append, arith}
use Rattle.std.proofs.Math.Seq.{take-append_seam}
use mathlib.Core.List.{IsPrefix}
use Rattle.solid_base.specs.Ledgers.{RisesUpTo}
use Rattle.solid_base.specs.declared.entities.Model.{Model}
use Rattle.solid_base.specs.declared.entities.RowText.{RowText}
use Rattle.solid_questions.specs.declared.questions.Question.{Question}
use Rattle.memo_graph.specs.declared.key.Key.{Key}
use Rattle.memo_graph.specs.Memos.{Entry, MemoFacts}
use Rattle.script_lines.specs.declared.commands.Command.{Command}
use Rattle.script_lines.specs.declared.commands.Command.TheVariants as command
use Rattle.script_lines.specs.declared.faults.LineFault.{LineFault}
use Rattle.edit_core.specs.declared.changes.Change.{Change}
use Rattle.edit_core.specs.declared.changes.Change.TheVariants as change
use Rattle.edit_core.specs.declared.faults.EditFault.{EditFault}
use Rattle.edit_core.specs.Batches.{Staged, stage}
use Rattle.edit_core.specs.Edits.{IsRefused, IsEdited}
use Rattle.edit_core.specs.Versions.{LogEntry, IsVersion, IsNext}
use Rattle.edit_core.proofs.Logs.{version_unique}
use Rattle.ask_core.specs.Answers.{IsAnswer, Evaluates}
use Rattle.ask_core.specs.Books.{BookFacts, IsBook}
use Rattle.ask_core.specs.Thrift.{HoldEntries, EachIsKept, IsThrifty}
use Rattle.ask_core.proofs.OneAnswer.{evaluates_once}
use Rattle.solid_desk.specs.InOrder.{IsDoneNow}
use Rattle.solid_desk.specs.Legal.{entry_at}
use Rattle.solid_desk.specs.Lines.{IsLineDone}
use Rattle.solid_desk.specs.LineSteps.{IsCommitDone, without_line}
use Rattle.solid_desk.specs.Outcomes.{Outcome, bad_line, staged, committed, refused, answered, no_memory, named_version, reply_of, reply_text}
use Rattle.solid_desk.specs.Sessions.{Standing, standing_after, after_staging}
use Rattle.solid_desk.specs.Work.{IsWork}

-- what stood in a text is left where the text is cut there
pub cut_back : (old new : List ℕ) → IsPrefix old new → take (length old) new ≡ old
cut_back old new starts = ap (take (length old)) (sym starts.1) ∙ take-append_seam old starts.0

-- a text that is cut to its length before
pub cut_to : (old new mid : List ℕ) (size : ℕ) → size ≡ length old → IsPrefix old new → mid ≡ take size new → mid ≡ old
cut_to old new mid size same starts is = is ∙ ap (λ (n : ℕ). take n new) same ∙ cut_back old new starts

pub on_err : {A E P Q : Type 0} (r : Result A E) → OnErr r P → (P → Q) → OnErr r Q
on_err (Ok x) p f = tt
on_err (Err e) p f = f p

pub on_any : {A E P : Type 0} (r : Result A E) → P → OnErr r P
on_any (Ok x) p = tt
on_any (Err e) p = p

-- ---- questions

-- a reply that looked at a version, by its parts
pub versioned_joined : (out one two three four body : List ℕ) (version : ℕ) → one ≡ out ++ decimal version → two ≡ one ++ codes " " → three ≡ two ++ body
    → four ≡ three ++ codes "\n" → four ≡ out ++ reply_text (reply_of (answered version body))
versioned_joined out one two three four body version a b c d =
    let joined : four ≡ (((out ++ decimal version) ++ codes " ") ++ body) ++ codes "\n" =
    d ∙ ap (λ (t : List ℕ). t ++ codes "\n") (c ∙ ap (λ (t : List ℕ). t ++ body) (b ∙ ap (λ (t : List ℕ). t ++ codes " ") a)) in
    joined
    ∙ append_assoc ((out ++ decimal version) ++ codes " ") body (codes "\n")
    ∙ append_assoc (out ++ decimal version) (codes " ") (body ++ codes "\n")
    ∙ append_assoc out (decimal version) (codes " " ++ (body ++ codes "\n"))

-- no more evaluations than the answer on the version takes
asked_most : (opening : Model) (log : List LogEntry) (model : Model) (q : Question) (live : Bool) (body : List ℕ) (version before count : ℕ) → IsVersion opening log version model
    → (n : ℕ) × Evaluates model.rows q n × RisesUpTo before count n → (n : ℕ) → IsWork opening log (command.Ask q live) (answered version body) n → count ≤ before + n
asked_most opening log model q live body version before count is (m, evaluates, rises) n (other, also, work) =
    let one = version_unique opening log version other model also is in
    let there = subst (λ (x : Model). Evaluates x.rows q n) one work in
    let same = evaluates_once model.rows q m n evaluates there in
    let low = rises.1 in
    omega (arith, same, low)

pub asked_done : (old new : BookFacts) (session : ℕ) (at after : Standing) (q : Question) (live : Bool) (body : List ℕ) (version before count : ℕ) → IsBook old
    → IsAnswer old.table.model q body → version ≡ old.table.number
    → (n : ℕ) × Evaluates old.table.model.rows q n × RisesUpTo before count n
    → IsThrifty old.table q old.memo.entries new.memo.entries before count
    → new.opening ≡ old.opening → new.log ≡ old.log
    → after ≡ record { line = suc at.line; batch = at.batch; shown = max at.shown version }
    → IsLineDone old new session at after (command.Ask q live) (reply_text (reply_of (answered version body))) before count
asked_done old new session at after q live body version before count h afresh same evaluates thrifty opening log stands =
    let number = same ∙ h.version.number in
    let newest : IsVersion old.opening old.log version old.table.model = subst (λ (n : ℕ). IsVersion old.opening old.log n old.table.model) (sym number) h.version.newest in
    let newest_then : IsVersion new.opening new.log version old.table.model = subst (λ (m : Model). IsVersion m new.log version old.table.model) (sym opening)
    (subst (λ (l : List LogEntry). IsVersion old.opening l version old.table.model) (sym log) newest) in
    record {
      outcome = answered version body;
      done = inl (
        record {
          model = old.table.model;
          newest = h.version.newest;
          body = body;
          afresh = afresh;
          is = ap (λ (n : ℕ). answered n body) number;
        },
        log,
      );
      opening = opening;
      stands = stands;
      reply = refl;
      most = λ memory. asked_most new.opening new.log old.table.model q live body version before count newest_then evaluates;
      thrifty = λ memory keys few entries uses. thrifty keys few entries uses;
    }

-- ---- lines that evaluate nothing

kept_same : (keys : List Key) (entries more : List Entry) (count : ℕ) → more ≡ entries → HoldEntries keys entries → EachIsKept keys entries more count count
kept_same keys entries more count same held =
    subst (λ (es : List Entry). EachIsKept keys entries es count count) (sym same) (record { held = held; each = omega arith })

-- a line that did something without an evaluation, wherever the memo stayed
quiet_done : (old new : BookFacts) (session : ℕ) (at after : Standing) (c : Command) (outcome : Outcome) (count : ℕ) → IsDoneNow old.opening old.log session at c outcome new.log → new.opening ≡ old.opening → new.memo ≡ old.memo
    → after ≡ standing_after at c outcome → IsLineDone old new session at after c (reply_text (reply_of outcome)) count count
quiet_done old new session at after c outcome count done opening memo stands = record {
  outcome = outcome;
  done = inl done;
  opening = opening;
  stands = stands;
  reply = refl;
  most = λ had n work. omega arith;
  thrifty = λ had keys few held uses. kept_same keys old.memo.entries new.memo.entries count (ap (λ (m : MemoFacts). m.entries) memo) held;
}

-- a line for which there isn't memory
pub passed_done : (old new : BookFacts) (session : ℕ) (at stood after : Standing) (c : Command) (before count : ℕ) → new.opening ≡ old.opening → new.log ≡ old.log → stood ≡ without_line at c
    → after ≡ record { line = suc stood.line; batch = stood.batch; shown = max stood.shown 0 }
    → IsLineDone old new session at after c (reply_text (reply_of no_memory)) before count
passed_done old new session at stood after c before count opening log left on = record {
  outcome = no_memory;
  done = inr (refl, log);
  opening = opening;
  stands = on ∙ ap (λ (s : Standing). record { line = suc s.line; batch = s.batch; shown = max s.shown 0 }) left;
  reply = refl;
  most = λ had. absurd (had refl);
  thrifty = λ had. absurd (had refl);
}

-- ---- lines that stage, and lines that are no command

-- a reply that names no version leaves what was shown
none_shown : (n : ℕ) → max n 0 ≡ n
none_shown n = grind arith

staging_stands : (at after : Standing) (de : ℕ) (c : Change) → after ≡ after_staging at de c
    → after ≡ record { line = suc at.line; batch = stage at.batch de c; shown = max at.shown 0 }
staging_stands at after de c h = h ∙ ap (λ (n : ℕ). record { line = suc at.line; batch = stage at.batch de c; shown = n }) (sym (none_shown at.shown))

pub replaced_done : (book : BookFacts) (session : ℕ) (at after : Standing) (de : ℕ) (r : RowText) (number count : ℕ) → ((c : Change) → number ≡ length (stage at.batch de c))
    → after ≡ after_staging at de (change.Replace r) → IsLineDone book book session at after (command.Replace de r) (reply_text (reply_of (staged number))) count count
replaced_done book session at after de r number count counts h =
    quiet_done book book session at after (command.Replace de r) (staged number) count (ap staged (counts (change.Replace r)), refl) refl refl (staging_stands at after de (change.Replace r) h)

pub added_done : (book : BookFacts) (session : ℕ) (at after : Standing) (de : ℕ) (r : RowText) (number count : ℕ) → ((c : Change) → number ≡ length (stage at.batch de c))
    → after ≡ after_staging at de (change.Add r) → IsLineDone book book session at after (command.Add de r) (reply_text (reply_of (staged number))) count count
added_done book session at after de r number count counts h =
    quiet_done book book session at after (command.Add de r) (staged number) count (ap staged (counts (change.Add r)), refl) refl refl (staging_stands at after de (change.Add r) h)

pub dropped_done : (book : BookFacts) (session : ℕ) (at after : Standing) (de : ℕ) (number count : ℕ) → ((c : Change) → number ≡ length (stage at.batch de c))
    → after ≡ after_staging at de change.Drop → IsLineDone book book session at after (command.Drop de) (reply_text (reply_of (staged number))) count count
dropped_done book session at after de number count counts h =
    quiet_done book book session at after (command.Drop de) (staged number) count (ap staged (counts change.Drop), refl) refl refl (staging_stands at after de change.Drop h)

pub bad_done : (book : BookFacts) (session : ℕ) (at after : Standing) (f : LineFault) (count : ℕ) → after ≡ record { line = suc at.line; batch = at.batch; shown = max at.shown 0 }
    → IsLineDone book book session at after (command.Bad f) (reply_text (reply_of (bad_line f))) count count
bad_done book session at after f count h = quiet_done book book session at after (command.Bad f) (bad_line f) count (refl, refl) refl refl h

-- ---- commits

pub made_done : (old new : BookFacts) (entry : LogEntry) (version : ℕ) → IsBook old → IsNext old.table entry.batch new.table → new.log ≡ old.log ++ entry ∷ [] → version ≡ suc old.table.number
    → new.opening ≡ old.opening → new.memo ≡ old.memo → IsCommitDone old new entry (committed version)
made_done old new entry version h next log same opening memo = record {
  done = λ at is. inl (record {
    model = old.table.model;
    newest = h.version.newest;
    edited = new.table.model;
    made = subst (λ (n : ℕ). IsEdited old.table.model n at.batch new.table.model) h.version.number
        (subst (λ (b : List Staged). IsEdited old.table.model old.table.number b new.table.model) (ap (λ (e : LogEntry). e.batch) is) next.model);
    is = ap committed (same ∙ ap suc h.version.number);
    logged = log ∙ ap (λ (e : LogEntry). old.log ++ e ∷ []) is;
  });
  opening = opening;
  memo = memo;
}

pub refused_done : (old new : BookFacts) (entry : LogEntry) (version : ℕ) (f : EditFault) → IsBook old → IsRefused old.table.model (length old.log) entry.batch f → version ≡ old.table.number → new ≡ old
    → IsCommitDone old new entry (refused version f)
refused_done old new entry version f h first same kept = record {
  done = λ at is. inr (record {
    model = old.table.model;
    newest = h.version.newest;
    fault = f;
    first = subst (λ (b : List Staged). IsRefused old.table.model (length old.log) b f) (ap (λ (e : LogEntry). e.batch) is) first;
    is = ap (λ (n : ℕ). refused n f) (same ∙ h.version.number);
    logged = ap (λ (b : BookFacts). b.log) kept;
  });
  opening = ap (λ (b : BookFacts). b.opening) kept;
  memo = ap (λ (b : BookFacts). b.memo) kept;
}

-- the session goes on after a commit that came to this
pub committed_line : (old new : BookFacts) (session line : ℕ) (batch : List Staged) (at mid after : Standing) (version count : ℕ) (outcome : Outcome)
    → IsCommitDone old new (record { session = session; line = line; batch = batch }) outcome → line ≡ at.line → batch ≡ at.batch → version ≡ named_version outcome
    → mid ≡ record { line = at.line; batch = []; shown = at.shown }
    → after ≡ record { line = suc mid.line; batch = mid.batch; shown = max mid.shown version }
    → IsLineDone old new session at after command.Commit (reply_text (reply_of outcome)) count count
committed_line old new session line batch at mid after version count outcome done line_is batch_is named left on =
    let entry : record { session = session; line = line; batch = batch } ≡ entry_at session at =
    ap (λ (n : ℕ). record { session = session; line = n; batch = batch }) line_is ∙ ap (λ (b : List Staged). record { session = session; line = at.line; batch = b }) batch_is in
    let stands : after ≡ record { line = suc at.line; batch = []; shown = max at.shown version } =
    on ∙ ap (λ (m : Standing). record { line = suc m.line; batch = m.batch; shown = max m.shown version }) left in
    quiet_done old new session at after command.Commit outcome count (done.done at entry) done.opening done.memo
    (stands ∙ ap (λ (n : ℕ). record { line = suc at.line; batch = []; shown = max at.shown n }) named)

-- a commit that was made, whose reply stood in the text before
pub made_then : (old new : BookFacts) (entry : LogEntry) (version made : ℕ) (out longer : List ℕ) → IsBook old → IsNext old.table entry.batch new.table → new.log ≡ old.log ++ entry ∷ [] → made ≡ length new.log
    → new.opening ≡ old.opening → new.memo ≡ old.memo → version ≡ old.table.number → longer ≡ out ++ reply_text (reply_of (committed (version + 1)))
    → (x : Outcome) × IsCommitDone old new entry x × (made ≡ named_version x) × (longer ≡ out ++ reply_text (reply_of x))
made_then old new entry version made out longer h next log is opening memo same added =
    let number = h.version.number in
    let size = ap (λ (l : List LogEntry). length l) log in
    let one = length-append old.log (entry ∷ []) in
    let after : version + 1 ≡ suc old.table.number = omega (arith, same) in
    (committed (version + 1), made_done old new entry (version + 1) h next log after opening memo, omega (arith, is, size, one, number, same), added)
