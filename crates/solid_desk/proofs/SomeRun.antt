-- A script whose lines are done in order has a run where there is memory.
use Rattle.std.proofs.Common.{◌≡◌, ◌⊎◌, inl, inr, ℕ, zero, suc, ◌+◌, List, [], ◌∷◌, ◌++◌, length, get_or, set, replicate, refl}
use Rattle.std.specs.List.{AllByRecursion}
use Rattle.solid_base.specs.declared.entities.Model.{Model}
use Rattle.script_lines.specs.declared.commands.Command.{Command}
use Rattle.script_lines.specs.declared.commands.Command.TheVariants as command
use Rattle.script_lines.specs.declared.commands.ScriptLine.{ScriptLine}
use Rattle.script_lines.specs.Grammar.{most_sessions}
use Rattle.ask_core.proofs.Exports.{one_answer_some}
use Rattle.edit_core.specs.declared.changes.Change.{Change}
use Rattle.edit_core.specs.declared.changes.Change.TheVariants as change
use Rattle.edit_core.specs.declared.faults.EditFault.{EditFault}
use Rattle.edit_core.specs.Batches.{Staged, stage, AreApart}
use Rattle.edit_core.specs.Edits.{IsRefused, IsEdited}
use Rattle.edit_core.specs.Versions.{LogEntry, IsLawfulLog, opening_version}
use Rattle.edit_core.proofs.Batches.{stage_apart}
use Rattle.edit_core.proofs.SomeOutcome.{some_outcome}
use Rattle.solid_desk.specs.Outcomes.{Outcome, bad_line, staged, committed, refused, answered, cancelled, no_memory}
use Rattle.solid_desk.specs.Sessions.{Standing, at_start, staged_unless, staged_after, standing_after}
use Rattle.solid_desk.specs.Legal.{entry_at}
use Rattle.solid_desk.specs.InOrder.{IsDoneNow, all_at_start, standing_of, IsRunFrom, IsRun, HadMemory}
use Rattle.solid_desk.proofs.RunsLegal.{what_logged, stays_lawful, stand_after}

-- ---- lists

pub all_set : {X : Type 0} (P : X → Type 0) (xs : List X) (k : ℕ) (x : X) → AllByRecursion P xs → P x → AllByRecursion P (set xs k x)
all_set P [] k x all one = tt
all_set P (y ∷ xs) zero x all one = (one, all.1)
all_set P (y ∷ xs) (suc k) x all one = (all.0, all_set P xs k x all.1 one)

pub all_get_or : {X : Type 0} (P : X → Type 0) (xs : List X) (k : ℕ) (d : X) → AllByRecursion P xs → P d → P (get_or xs k d)
all_get_or P [] k d all one = one
all_get_or P (x ∷ xs) zero d all one = all.0
all_get_or P (x ∷ xs) (suc k) d all one = all_get_or P xs k d all.1 one

pub all_replicate : {X : Type 0} (P : X → Type 0) (n : ℕ) (x : X) → P x → AllByRecursion P (replicate n x)
all_replicate P zero x one = tt
all_replicate P (suc n) x one = (one, all_replicate P n x one)

-- ---- what is staged

-- what holds of a batch with and without a change, holds of what is staged after the line
pub staged_either : (P : List Staged → Type 0) (batch : List Staged) (de : ℕ) (c : Change) (outcome : Outcome) → P batch → P (stage batch de c) → P (staged_unless outcome batch de c)
staged_either P batch de c (bad_line f) before after = after
staged_either P batch de c (staged count) before after = after
staged_either P batch de c (committed version) before after = after
staged_either P batch de c (refused version f) before after = after
staged_either P batch de c (answered version body) before after = after
staged_either P batch de c (cancelled version later) before after = after
staged_either P batch de c no_memory before after = before

stays_apart : (batch : List Staged) (c : Command) (outcome : Outcome) → AreApart batch → AreApart (staged_after batch c outcome)
stays_apart batch (command.Ask q live) outcome apart = apart
stays_apart batch (command.Replace de r) outcome apart = staged_either AreApart batch de (change.Replace r) outcome apart (stage_apart batch de (change.Replace r) apart)
stays_apart batch (command.Add de r) outcome apart = staged_either AreApart batch de (change.Add r) outcome apart (stage_apart batch de (change.Add r) apart)
stays_apart batch (command.Drop de) outcome apart = staged_either AreApart batch de change.Drop outcome apart (stage_apart batch de change.Drop apart)
stays_apart batch command.Commit outcome apart = tt
stays_apart batch (command.Bad f) outcome apart = apart

abbrev AllApart : List Standing → Type 0
AllApart standings = AllByRecursion (λ at. AreApart at.batch) standings

all_stay_apart : (standings : List Standing) (line : ScriptLine) (outcome : Outcome) → AllApart standings → AllApart (stand_after standings line outcome)
all_stay_apart standings line outcome apart =
    let at = standing_of standings line.session in
    all_set (λ (x : Standing). AreApart x.batch) standings line.session (standing_after at line.command outcome) apart
    (stays_apart at.batch line.command outcome (all_get_or (λ (x : Standing). AreApart x.batch) standings line.session at_start apart tt))

-- ---- one line

-- a line comes to something where there is memory
record Comes (opening : Model) (log : List LogEntry) (session : ℕ) (at : Standing) (c : Command) : Type 0 where
  outcome : Outcome
  after : List LogEntry
  done : IsDoneNow opening log session at c outcome after
  had : outcome ≡ no_memory → ⊥

module _ (opening : Model) (log : List LogEntry) (lawful : IsLawfulLog opening log) (session : ℕ) (at : Standing) where
  staged_comes : (c : Command) (batch : List Staged) → IsDoneNow opening log session at c (staged (length batch)) log → Comes opening log session at c
  staged_comes c batch done = record { outcome = staged (length batch); after = log; done = done; had = λ same. cc }

  commit_comes : ((f : EditFault) × IsRefused lawful.last (length log) at.batch f) ⊎ ((after : Model) × IsEdited lawful.last (length log) at.batch after) → Comes opening log session at command.Commit
  commit_comes (inl (fault, first)) = record {
    outcome = refused (length log) fault;
    after = log;
    done = inr (record { model = lawful.last; newest = lawful.reached; fault = fault; first = first; is = refl; logged = refl });
    had = λ same. cc;
  }
  commit_comes (inr (edited, made)) = record {
    outcome = committed (suc (length log));
    after = log ++ entry_at session at ∷ [];
    done = inl (record { model = lawful.last; newest = lawful.reached; edited = edited; made = made; is = refl; logged = refl });
    had = λ same. cc;
  }

  comes : AreApart at.batch → (c : Command) → Comes opening log session at c
  comes apart (command.Ask q live) = let (body, answer) = one_answer_some lawful.last q in record {
    outcome = answered (length log) body;
    after = log;
    done = (record { model = lawful.last; newest = lawful.reached; body = body; afresh = answer; is = refl }, refl);
    had = λ same. cc;
  }
  comes apart (command.Replace de r) = staged_comes (command.Replace de r) (stage at.batch de (change.Replace r)) (refl, refl)
  comes apart (command.Add de r) = staged_comes (command.Add de r) (stage at.batch de (change.Add r)) (refl, refl)
  comes apart (command.Drop de) = staged_comes (command.Drop de) (stage at.batch de change.Drop) (refl, refl)
  comes apart command.Commit = commit_comes (some_outcome lawful.last (length log) at.batch apart)
  comes apart (command.Bad f) = record { outcome = bad_line f; after = log; done = (refl, refl); had = λ same. cc }

-- ---- all lines

abbrev Runs : Model → List Standing → List LogEntry → List ScriptLine → Type 0
Runs opening standings log lines = (outcomes : List Outcome) × (after : List LogEntry) × IsRunFrom opening standings log lines outcomes after × HadMemory outcomes

runs_from : (opening : Model) (standings : List Standing) (log : List LogEntry) (lines : List ScriptLine) → IsLawfulLog opening log → AllApart standings → Runs opening standings log lines
runs_from opening standings log [] lawful apart = ([], log, refl, tt)
runs_from opening standings log (line ∷ lines) lawful apart =
    let at = standing_of standings line.session in
    let one = comes opening log lawful line.session at (all_get_or (λ (x : Standing). AreApart x.batch) standings line.session at_start apart tt) line.command in
    let logged = what_logged opening log line.session at line.command one.outcome one.after (inl one.done) in
    let then = stays_lawful opening log line.session at line.command one.outcome one.after logged lawful in
    let (outcomes, after, run, had) = runs_from opening (stand_after standings line one.outcome) one.after lines then (all_stay_apart standings line one.outcome apart) in
    (one.outcome ∷ outcomes, after, (one.after, inl one.done, run), (one.had, had))

pub some_run : (opening : Model) (lines : List ScriptLine) → (outcomes : List Outcome) × (log : List LogEntry) × IsRun opening lines outcomes log × HadMemory outcomes
some_run opening lines =
    runs_from opening all_at_start [] lines (record { last = opening; reached = opening_version })
    (all_replicate (λ (x : Standing). AreApart x.batch) (most_sessions + 1) at_start tt)
