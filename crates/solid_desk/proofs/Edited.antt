-- What a commit of a session comes to, under one hold of the turn.
use Rattle.std.proofs.Common.{◌≡◌, inl, inr, ℕ, suc, ◌≤◌, List, [], ◌∷◌, ◌++◌, length, Option, Some, Result, Ok, Err, IfOk, OnErr, sym, ap, subst, ◌∙◌, arith}
use Rattle.std.proofs.lemmas.List.{length-append}
use mathlib.Core.List.{IsPrefix}
use Rattle.solid_base.specs.declared.entities.Model.{Model}
use Rattle.solid_base.specs.declared.replies.Reply.{Reply}
use Rattle.script_lines.specs.declared.commands.Command.TheVariants as command
use Rattle.edit_core.specs.declared.faults.EditFault.{EditFault}
use Rattle.edit_core.specs.Batches.{Staged}
use Rattle.edit_core.specs.Edits.{IsRefused, IsEdited}
use Rattle.edit_core.specs.EditFaults.{IsOfText}
use Rattle.edit_core.specs.Versions.{LogEntry}
use Rattle.turn_book.specs.Passes.{TurnFacts, PassFacts}
use Rattle.solid_desk.specs.Outcomes.{Outcome, committed, refused, reply_of, with_version}
use Rattle.solid_desk.specs.Sessions.{Standing}
use Rattle.solid_desk.specs.Legal.{entry_at}
use Rattle.solid_desk.specs.InOrder.{IsDone}
use Rattle.solid_desk.specs.SideBySide.{IsOutcomeBy}
use Rattle.solid_desk.specs.Holds.{IsCommitUnder}
use Rattle.solid_desk.specs.Turns.{IsEditedOver}
use Rattle.solid_desk.proofs.SideBySide.{done_by}

abbrev Pass : Type 0
Pass = PassFacts Model LogEntry

abbrev pub Comes : Pass → Pass → Model → LogEntry → Reply → Type 0
Comes old new opening entry reply = (outcome : Outcome) × (reply ≡ reply_of outcome) × IsEditedOver old new opening entry outcome

same_some : (a b : Model) → ◌≡◌ {A = Option Model} (Some a) (Some b) → a ≡ b
same_some a b h = cc

-- the entry of a session where it stands at the line with the batch
entry_is : (entry : LogEntry) (at : Standing) → at.line ≡ entry.line → at.batch ≡ entry.batch → entry ≡ entry_at entry.session at
entry_is entry at line batch =
    ap (λ (n : ℕ). record { session = entry.session; line = n; batch = entry.batch }) (sym line)
    ∙ ap (λ (b : List Staged). record { session = entry.session; line = at.line; batch = b }) (sym batch)

module _ (turn : TurnFacts Model) (old new : Pass) (entry : LogEntry) (opening : Model) (opens : turn.opening ≡ Some opening) (seen : new.seen ≡ length new.front) where
  pub committed_comes : (made : Unit {0}) → IsCommitUnder turn old new entry (Ok made) → (reply : Reply) → reply ≡ reply_of (committed (length new.front)) → Comes old new opening entry reply
  committed_comes made under reply is =
      let book = under.book in
      let next = under.comes.0 in
      let log = book.log in
      let front : new.front ≡ log ++ entry ∷ [] = under.comes.2 in
      let size : length new.front ≡ suc (length log) = ap (λ (l : List LogEntry). length l) front ∙ length-append log (entry ∷ []) ∙ omega arith in
      let same = same_some book.opening opening (under.opening ∙ opens) in
      let done : (at : Standing) → at.line ≡ entry.line → at.batch ≡ entry.batch → IsDone book.opening log entry.session at command.Commit (committed (length new.front)) new.front = λ at line batch.
      inl (inl (record {
        model = book.table.model;
        newest = under.is_book.version.newest;
        edited = next.model;
        made = subst (λ (b : List Staged). IsEdited book.table.model (length log) b next.model) (sym batch)
            (subst (λ (n : ℕ). IsEdited book.table.model n entry.batch next.model) under.is_book.version.number under.comes.1.model);
        is = ap committed size;
        logged = front ∙ ap (λ (e : LogEntry). log ++ e ∷ []) (entry_is entry at line batch);
      })) in (
        committed (length new.front),
        is,
        record {
          may = λ at line batch shown. subst (λ (o : Model). IsOutcomeBy o new.front new.seen entry.session at command.Commit (committed (length new.front))) same
              (subst (λ (n : ℕ). IsOutcomeBy book.opening new.front n entry.session at command.Commit (committed (length new.front))) (sym seen)
              (done_by book.opening log new.front entry.session at command.Commit (committed (length new.front)) (let low = under.seen in omega (arith, low, shown)) (done at line batch)));
          known = λ h. absurd cc;
          named = omega (arith, seen);
          new_entry = (let low = long old.front log under.front in omega (arith, low, size));
          made = under.comes.3;
        },
      ) where
        long : (xs ys : List LogEntry) → IsPrefix xs ys → length xs ≤ length ys
        long xs ys goes = let size : length (xs ++ goes.0) ≡ length ys = ap (λ (l : List LogEntry). length l) goes.1 in omega (arith, size, length-append xs goes.0)

  pub refused_comes : (fault : EditFault) → IsOfText fault → IsCommitUnder turn old new entry (Err fault) → (reply : Reply) → reply ≡ reply_of (refused (length new.front) fault) → Comes old new opening entry reply
  refused_comes fault text under reply is =
      let book = under.book in
      let log = book.log in
      let front : new.front ≡ log = under.comes.2 in
      let size : length new.front ≡ length log = ap (λ (l : List LogEntry). length l) front in
      let same = same_some book.opening opening (under.opening ∙ opens) in
      let done : (at : Standing) → at.batch ≡ entry.batch → IsDone book.opening log entry.session at command.Commit (refused (length new.front) fault) new.front = λ at batch.
      inl (inr (record {
        model = book.table.model;
        newest = under.is_book.version.newest;
        fault = fault;
        first = subst (λ (b : List Staged). IsRefused book.table.model (length log) b fault) (sym batch) (under.comes.1 text);
        is = ap (λ (n : ℕ). refused n fault) size;
        logged = front;
      })) in (
        refused (length new.front) fault,
        is,
        record {
          may = λ at line batch shown. subst (λ (o : Model). IsOutcomeBy o new.front new.seen entry.session at command.Commit (refused (length new.front) fault)) same
              (subst (λ (n : ℕ). IsOutcomeBy book.opening new.front n entry.session at command.Commit (refused (length new.front) fault)) (sym seen)
              (done_by book.opening log new.front entry.session at command.Commit (refused (length new.front) fault) (let low = under.seen in omega (arith, low, shown)) (done at batch)));
          known = λ h. absurd cc;
          named = omega (arith, seen);
          new_entry = tt;
          made = (let kept = under.comes.3 in omega (arith, kept));
        },
      )

pub with_words : (n m : ℕ) (body words : List ℕ) → n ≡ m → body ≡ words → ◌≡◌ {A = Reply} (record { version = Some n; body = body }) (with_version m words)
with_words n m body words number same = ap (λ (k : ℕ). with_version k body) number ∙ ap (with_version m) same

pub refused_if_ok : {E : Type 0} (turn : TurnFacts Model) (old new : Pass) (entry : LogEntry) (fault : EditFault) (version : ℕ) (result : Result Reply E) → new.seen ≡ length new.front → IsOfText fault
    → IsCommitUnder turn old new entry (Err fault) → version ≡ length new.front → IfOk result (λ reply. reply ≡ reply_of (refused version fault))
    → IfOk result (λ reply. (opening : Model) → turn.opening ≡ Some opening → Comes old new opening entry reply)
refused_if_ok turn old new entry fault version (Ok reply) seen text under same h =
    λ opening opens. refused_comes turn old new entry opening opens seen fault text under reply (h ∙ ap (λ (n : ℕ). reply_of (refused n fault)) same)
refused_if_ok turn old new entry fault version (Err e) seen text under same h = tt

pub kept_on_err : {A E P : Type 0} (result : Result A E) → P → OnErr result P
kept_on_err (Ok a) h = tt
kept_on_err (Err e) h = h
