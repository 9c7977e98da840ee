-- What becomes of the place of one session.
use Rattle.std.proofs.Common.{◌≡◌, ◌≢◌, ◌⊎◌, inl, inr, ℕ, suc, ◌<◌, ◌≤◌, List, [], ◌∷◌, ◌++◌, length, Bool, true, false, Option, Some, None, MatchOption, Result, Ok, Err, IfOk, refl, ap, subst, ◌∙◌, arith, length-append}
use Rattle.std.proofs.lemmas.Bool.{cases_lt}
use Rattle.solid_base.specs.declared.replies.Reply.{Reply}
use Rattle.memo_graph.specs.Memos.{Entry}
use Rattle.edit_core.specs.declared.faults.EditFault.{EditFault}
use Rattle.edit_core.specs.Edits.{IsRefused}
use Rattle.edit_core.specs.Versions.{LogEntry, IsNext}
use Rattle.ask_core.specs.Answers.{IsAnswer}
use Rattle.ask_core.specs.Books.{BookFacts, IsBook, memo_capacity}
use Rattle.ask_core.specs.Places.{IsFilled, IsNewestReply, IsCommitted, goes_on, ends, cancelled, held, made, refused}
use Rattle.ask_core.specs.Replies.{with_version, committed_reply, refused_reply, cancelled_reply}
use Rattle.ask_core.specs.Runs.{RunFacts, IsRunning, kept_all, left_of, settled}
use Rattle.ask_core.specs.declared.runs.Stage.TheVariants as stage

pub if_ok_then : {A E : Type 0} (r : Result A E) (P Q : A → Type 0) → ((a : A) → P a → Q a) → IfOk r P → IfOk r Q
if_ok_then (Ok a) P Q f p = f a p
if_ok_then (Err e) P Q f p = tt

-- a reply that names a version is one on it
pub named : (reply : Reply) (v : ℕ) → reply.version ≡ Some v → reply ≡ with_version v reply.body
named reply v is = ap (λ (o : Option ℕ). record { version = o; body = reply.body }) is

-- a run that isn't cancelled is held or is of the newest version
held_or_newest : (live : Bool) (old new : ℕ) → ¬ ((live ≡ true) × (old < new)) → (live ≢ true) ⊎ (new ≤ old)
held_or_newest false old new h = inl (λ e. grind (arith, e))
held_or_newest true old new h = elim (cases_lt old new) [ inl less ↦ absurd (h (refl, less)) | inr most ↦ inr most ]

-- what a session with a run is told
pub told_of_run : (newest : ℕ) (old : Option RunFacts) (run : RunFacts) (reply : Option Reply) → old ≡ Some run
    → MatchOption reply (¬ ((run.live ≡ true) × (length run.log < newest))) (λ r. (run.live ≡ true) × (length run.log < newest) × (r ≡ cancelled_reply (length run.log) newest))
    → IsNewestReply newest old reply
told_of_run newest old run None is none = held run is (held_or_newest run.live (length run.log) newest none) refl
told_of_run newest old run (Some reply) is some = cancelled run is some.0 some.1 (ap Some some.2)

pub told_if_ok : {E : Type 0} (newest : ℕ) (old : Option RunFacts) (run : RunFacts) (result : Result (Option Reply) E) → old ≡ Some run
    → IfOk result (λ reply. MatchOption reply (¬ ((run.live ≡ true) × (length run.log < newest))) (λ r. (run.live ≡ true) × (length run.log < newest) × (r ≡ cancelled_reply (length run.log) newest)))
    → IfOk result (IsNewestReply newest old)
told_if_ok newest old run (Ok reply) is h = told_of_run newest old run reply is h
told_if_ok newest old run (Err e) is h = tt

-- a commit that is made
pub made_reply : (old new : BookFacts) (entry : LogEntry) (v : ℕ) (body : List ℕ) → IsBook old → IsNext old.table entry.batch new.table
    → new.log ≡ old.log ++ entry ∷ [] → v ≡ length new.log → body ≡ (committed_reply 0).body → IsCommitted old new entry (with_version v body)
made_reply old new entry v body book next log is words =
    made (subst (λ n. Rattle.edit_core.specs.Edits.IsEdited old.table.model n entry.batch new.table.model) book.version.number next.model) log
    (let count : v ≡ suc (length old.log) = is ∙ ap (λ (l : List LogEntry). length l) log ∙ length-append old.log (entry ∷ []) ∙ omega arith in
    ap (λ n. with_version n body) count ∙ ap (with_version (suc (length old.log))) words)

-- a commit that is refused
pub refused_if_ok : {E : Type 0} (old new : BookFacts) (entry : LogEntry) (v : ℕ) (f : EditFault) (result : Result Reply E) → v ≡ length old.log
    → IsRefused old.table.model (length old.log) entry.batch f → new ≡ old → IfOk result (λ reply. reply ≡ refused_reply v f) → IfOk result (IsCommitted old new entry)
refused_if_ok old new entry v f (Ok reply) is first same words =
    refused f first (ap (λ (b : BookFacts). b.log) same) (words ∙ ap (λ n. refused_reply n f) is)
refused_if_ok old new entry v f (Err e) is first same words = tt

-- a fill after which no use is left
pub ends_with : (old : Option RunFacts) (run after : RunFacts) (reply : Reply) (entries kept : List Entry) → old ≡ Some run → run.stage ≡ stage.Worked → IsRunning run → after ≡ settled run
    → left_of after ≡ 0 → reply.version ≡ Some (length after.log) → IsAnswer after.table.model after.question reply.body
    → kept ≡ kept_all memo_capacity run.fresh entries → IsFilled old None (Some reply) entries kept
ends_with old run after reply entries kept is worked running same none_left version answer memo =
    ends run reply.body is worked running (subst (λ (r : RunFacts). left_of r ≡ 0) same none_left) refl
    (subst (λ (r : RunFacts). IsAnswer r.table.model r.question reply.body) same answer)
    (ap Some (named reply (length run.log) (subst (λ (r : RunFacts). reply.version ≡ Some (length r.log)) same version))) memo

-- a fill after which some are
pub goes_on_with : (old : Option RunFacts) (run after : RunFacts) (entries kept : List Entry) → old ≡ Some run → run.stage ≡ stage.Worked → IsRunning run → after ≡ settled run
    → 0 < left_of after → kept ≡ kept_all memo_capacity run.fresh entries → IsFilled old (Some after) None entries kept
goes_on_with old run after entries kept is worked running same some memo =
    goes_on run is worked running (subst (λ (r : RunFacts). 0 < left_of r) same some) (ap Some same) refl memo
