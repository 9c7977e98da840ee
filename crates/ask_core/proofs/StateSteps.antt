-- What stands for a state of the machine, and what the step of each event makes of it.
use Rattle.std.proofs.Common.{◌≡◌, ◌≢◌, inl, inr, ℕ, zero, suc, ◌*◌, ◌<◌, ◌≤◌, ◌==◌, Bool, true, false, List, [], ◌∷◌, ◌++◌, length, get_or, set, codes, Option, Some, None, is_some, refl, sym, ap, subst, ◌∙◌, arith, length-set}
use Rattle.std.proofs.lemmas.List.{get_or-set_same, get_or-set_other, set-get_or}
use Rattle.solid_base.specs.declared.entities.Model.{Model}
use Rattle.solid_base.specs.declared.replies.Reply.{Reply}
use Rattle.solid_base.specs.Graph.{weight_of}
use Rattle.solid_base.proofs.Slices.{prefix_trans, prefix_self}
use Rattle.solid_questions.specs.declared.questions.Question.{Question}
use Rattle.solid_questions.specs.Questions.{entity_of}
use Rattle.solid_questions.specs.QuestionCells.{all_cells}
use Rattle.edit_core.specs.Versions.{LogEntry, IsVersion}
use Rattle.edit_core.proofs.Batches.{test_not}
use Rattle.edit_core.proofs.Logs.{version_stays}
use Rattle.ask_core.specs.Answers.{IsAnswer}
use Rattle.ask_core.specs.Begins.{IsReplyOn}
use Rattle.ask_core.specs.Books.{BookFacts, IsBook, IsAtOnce}
use Rattle.ask_core.specs.Machine.{SessionRun, MachineState, run_of, with_run, with_reply, with_log, at_stage, after_fill, session_places, machine_start, most_fills, IsBegin, answered_at_once, running, IsFill, IsCommit, IsNewestOnRun, IsMoved, moved, WhileIdle, steps, void, IsFillEvent, fills, IsNewestEvent, on_run, IsStep, AreSteps}
use Rattle.ask_core.specs.Machine as machine
use Rattle.ask_core.specs.Places as places
use Rattle.ask_core.specs.Places.{AreRounds, IsRunOf, IsPlace, IsState, IsLooked, looked_for, IsWorkedOn, works, IsFilled, IsNewestReply, IsCommitted}
use Rattle.ask_core.specs.Replies.{with_version, committed_reply, refused_reply, cancelled_reply}
use Rattle.ask_core.specs.Runs.{RunFacts, IsRunning, begun, left_of, run_uses, next_stage, settled, with_taken, worked}
use Rattle.ask_core.specs.Timely.{IsDoneAfter, at_first, one_more}
use Rattle.ask_core.specs.declared.runs.Stage.{Stage}
use Rattle.ask_core.specs.declared.runs.Stage.TheVariants as stage
use Rattle.ask_core.proofs.DoneRounds.{rounds_within}
use Rattle.ask_core.proofs.PlaceSteps.{named}
use Rattle.ask_core.proofs.RoundsEnd.{uses_most}
use mathlib.Core.List.{IsPrefix}

-- ---- places

pub same_default : {A : Type 0} (xs : List A) (i : ℕ) (d e : A) → i < length xs → get_or xs i d ≡ get_or xs i e
same_default [] i d e h = absurd (omega (arith, h))
same_default (x ∷ xs) zero d e h = refl
same_default (x ∷ xs) (suc i) d e h = same_default xs i d e (omega (arith, h))

-- a value at a place that is within, by itself as a default
pub value_at : {A : Type 0} (xs : List A) (i : ℕ) (x d : A) → i < length xs → x ≡ get_or xs i x → get_or xs i d ≡ x
value_at xs i x d h is = same_default xs i d x h ∙ sym is

-- a place with a run, or without one
pub held_at : (runs : List (Option RunFacts)) (i : ℕ) (place : Option RunFacts) → i < length runs → place ≡ get_or runs i place → is_some place ≡ true → (run : RunFacts) × (get_or runs i None ≡ Some run)
held_at runs i None h is some = absurd (grind (arith, some))
held_at runs i (Some run) h is some = (run, value_at runs i (Some run) None h is)

pub free_at : (runs : List (Option RunFacts)) (i : ℕ) (place : Option RunFacts) → i < length runs → place ≡ get_or runs i place → is_some place ≡ false → get_or runs i None ≡ None
free_at runs i None h is none = value_at runs i None None h is
free_at runs i (Some run) h is none = absurd (grind (arith, none))

-- a reply that is pushed on a transcript at a place
pub pushed_at : (ts : List (List Reply)) (i : ℕ) (old : List Reply) (reply : Reply) (new : List Reply) → i < length ts → old ≡ get_or ts i old → new ≡ old ++ reply ∷ []
    → set ts i new ≡ set ts i (get_or ts i [] ++ reply ∷ [])
pushed_at ts i old reply new h is pushed = ap (set ts i) (pushed ∙ ap (λ (t : List Reply). t ++ reply ∷ []) (sym (value_at ts i old [] h is)))

pub no_run_there : (book : BookFacts) (place : Option RunFacts) (o : Option SessionRun) → place ≡ None → IsPlace book place o → o ≡ None
no_run_there book None None is h = refl
no_run_there book None (Some r) is h = absurd h
no_run_there book (Some run) o is h = grind (arith, is)

run_there : (book : BookFacts) (place : Option RunFacts) (o : Option SessionRun) (run : RunFacts) → place ≡ Some run → IsPlace book place o
    → (r : SessionRun) × (o ≡ Some r) × IsRunOf book run r
run_there book None o run is h = grind (arith, is)
run_there book (Some other) None run is h = absurd h
run_there book (Some other) (Some r) run is h =
    (r, refl, subst (λ (p : Option RunFacts). IsPlace book p (Some r)) is h)

same_reply : (x y : Reply) → ◌≡◌ {A = Option Reply} (Some x) (Some y) → x ≡ y
same_reply x y h = cc

same_run : (x y : SessionRun) → ◌≡◌ {A = Option SessionRun} (Some x) (Some y) → x ≡ y
same_run x y h = cc

-- a place stays right in a book with the same opening and a log that goes on
on_longer : (old new : BookFacts) (place : Option RunFacts) (o : Option SessionRun) → new.opening ≡ old.opening → IsPrefix old.log new.log
    → IsPlace old place o → IsPlace new place o
on_longer old new None None opens longer h = tt
on_longer old new None (Some r) opens longer h = absurd h
on_longer old new (Some run) None opens longer h = absurd h
on_longer old new (Some run) (Some r) opens longer h = record {
  question = h.question;
  version = h.version;
  live = h.live;
  stage = h.stage;
  rounds = h.rounds;
  goes_on = (h.goes_on.0 ∙ sym opens, prefix_trans run.log old.log new.log h.goes_on.1 longer);
}

pub same_log_prefix : (xs ys : List LogEntry) → ys ≡ xs → IsPrefix xs ys
same_log_prefix xs ys same = subst (IsPrefix xs) (sym same) (prefix_self xs)

-- ---- states

places_set : (book : BookFacts) (runs : List (Option RunFacts)) (rs : List (Option SessionRun)) (session : ℕ) (place : Option RunFacts) (o : Option SessionRun)
    → session < length runs → session < length rs → IsPlace book place o
    → ((s : ℕ) → IsPlace book (get_or runs s None) (get_or rs s None)) → (s : ℕ) → IsPlace book (get_or (set runs session place) s None) (get_or (set rs session o) s None)
places_set book runs rs session place o in_runs in_rs here all s = go (s == session) refl where
  go : (b : Bool) → (s == session) ≡ b → IsPlace book (get_or (set runs session place) s None) (get_or (set rs session o) s None)
  go true e =
      let same : session ≡ s = grind (arith, e) in
      subst (λ (k : ℕ). IsPlace book (get_or (set runs session place) k None) (get_or (set rs session o) k None)) same
      (rw (get_or-set_same runs session place None in_runs, get_or-set_same rs session o None in_rs) here)
  go false e =
      let other : s ≢ session = test_not s session e in
      rw (get_or-set_other runs session s place None other, get_or-set_other rs session s o None other) (all s)

module _ (opening : Model) (book : BookFacts) (runs : List (Option RunFacts)) (transcripts : List (List Reply)) (state : MachineState) (session : ℕ) (h : IsState opening book runs transcripts state) (named_one : session < session_places) where
  in_runs : session < length runs
  in_runs = omega (arith, named_one, h.run_places)

  in_state : session < length state.runs
  in_state = omega (arith, named_one, h.state_places)

  -- one reply more
  pub reply_state : (reply : Reply) (ts : List (List Reply)) → ts ≡ set transcripts session (get_or transcripts session [] ++ reply ∷ []) → IsState opening book runs ts (with_reply state session reply)
  reply_state reply ts same = record {
    opens = h.opens;
    log = h.log;
    replies = ap (λ (t : List (List Reply)). set t session (get_or t session [] ++ reply ∷ [])) h.replies ∙ sym same;
    transcript_places = ap (λ (t : List (List Reply)). length t) same ∙ length-set transcripts session (get_or transcripts session [] ++ reply ∷ []) ∙ h.transcript_places;
    run_places = h.run_places;
    state_places = h.state_places;
    places = h.places;
  }

  -- another run of the session, or none
  pub run_state : (place : Option RunFacts) (o : Option SessionRun) → IsPlace book place o → IsState opening book (set runs session place) transcripts (with_run state session o)
  run_state place o here = record {
    opens = h.opens;
    log = h.log;
    replies = h.replies;
    transcript_places = h.transcript_places;
    run_places = length-set runs session place ∙ h.run_places;
    state_places = length-set state.runs session o ∙ h.state_places;
    places = places_set book runs state.runs session place o in_runs in_state here h.places;
  }

  -- the same run of the session
  pub kept_state : (place : Option RunFacts) → place ≡ get_or runs session None → IsState opening book (set runs session place) transcripts state
  kept_state place same =
      subst (λ (l : List (Option RunFacts)). IsState opening book l transcripts state) (sym (ap (λ (p : Option RunFacts). set runs session p) same ∙ set-get_or runs session None)) h

-- a book with the same log
pub book_state : (opening : Model) (old new : BookFacts) (runs : List (Option RunFacts)) (transcripts : List (List Reply)) (state : MachineState) → new.opening ≡ old.opening → new.log ≡ old.log
    → IsState opening old runs transcripts state → IsState opening new runs transcripts state
book_state opening old new runs transcripts state opens same h = record {
  opens = opens ∙ h.opens;
  log = h.log ∙ sym same;
  replies = h.replies;
  transcript_places = h.transcript_places;
  run_places = h.run_places;
  state_places = h.state_places;
  places = λ s. on_longer old new (get_or runs s None) (get_or state.runs s None) opens (same_log_prefix old.log new.log same) (h.places s);
}

-- a book with one commit more
pub log_state : (opening : Model) (old new : BookFacts) (runs : List (Option RunFacts)) (transcripts : List (List Reply)) (state : MachineState) (entry : LogEntry) → new.opening ≡ old.opening
    → new.log ≡ old.log ++ entry ∷ [] → IsState opening old runs transcripts state → IsState opening new runs transcripts (with_log state (state.log ++ entry ∷ []))
log_state opening old new runs transcripts state entry opens more h = record {
  opens = opens ∙ h.opens;
  log = ap (λ (l : List LogEntry). l ++ entry ∷ []) h.log ∙ sym more;
  replies = h.replies;
  transcript_places = h.transcript_places;
  run_places = h.run_places;
  state_places = h.state_places;
  places = λ s. on_longer old new (get_or runs s None) (get_or state.runs s None) opens (entry ∷ [], sym more) (h.places s);
}

-- ---- events

-- the newest version
version_now : (opening : Model) (book : BookFacts) (runs : List (Option RunFacts)) (transcripts : List (List Reply)) (state : MachineState) → IsBook book → IsState opening book runs transcripts state
    → IsVersion opening state.log (length state.log) book.table.model
version_now opening book runs transcripts state right h =
    subst (λ (l : List LogEntry). IsVersion opening l (length l) book.table.model) (sym h.log)
    (subst (λ (o : Model). IsVersion o book.log (length book.log) book.table.model) h.opens right.version.newest)

-- an event that is void while the session has a run
pub void_step : (opening : Model) (book : BookFacts) (runs : List (Option RunFacts)) (transcripts : List (List Reply)) (state : MachineState) (session : ℕ) (run : RunFacts) (Step : MachineState → Type 0)
    → get_or runs session None ≡ Some run → IsState opening book runs transcripts state
    → (after : MachineState) × WhileIdle state session Step after × IsState opening book runs transcripts after
void_step opening book runs transcripts state session run Step is h =
    let (r, at, of) = run_there book (get_or runs session None) (get_or state.runs session None) run is (h.places session) in
    (state, void r at, h)

idle_there : (opening : Model) (book : BookFacts) (runs : List (Option RunFacts)) (transcripts : List (List Reply)) (state : MachineState) (session : ℕ)
    → get_or runs session None ≡ None → IsState opening book runs transcripts state → run_of state session ≡ None
idle_there opening book runs transcripts state session none h = no_run_there book (get_or runs session None) (get_or state.runs session None) none (h.places session)

pub commit_step : (opening : Model) (old new : BookFacts) (entry : LogEntry) (reply : Reply) (runs : List (Option RunFacts)) (transcripts ts : List (List Reply)) (state : MachineState)
    → IsBook old → IsCommitted old new entry reply → new.opening ≡ old.opening → entry.session < session_places → get_or runs entry.session None ≡ None
    → ts ≡ set transcripts entry.session (get_or transcripts entry.session [] ++ reply ∷ []) → IsState opening old runs transcripts state
    → (after : MachineState) × WhileIdle state entry.session (IsCommit opening state entry.session entry.line entry.batch) after × IsState opening new runs ts after
commit_step opening old new entry reply runs transcripts ts state right (places.made edited more words) opens within none same h =
    let now = version_now opening old runs transcripts state right h in
    let then = log_state opening old new runs transcripts state entry opens more h in
    let is : reply ≡ committed_reply (suc (length state.log)) = words ∙ ap (λ (l : List LogEntry). committed_reply (suc (length l))) (sym h.log) in
    let made_one = machine.made old.table.model new.table.model now (subst (λ (l : List LogEntry). Rattle.edit_core.specs.Edits.IsEdited old.table.model (length l) entry.batch new.table.model) (sym h.log) edited) in (
      with_reply (with_log state (state.log ++ entry ∷ [])) entry.session (committed_reply (suc (length state.log))),
      steps (with_reply (with_log state (state.log ++ entry ∷ [])) entry.session (committed_reply (suc (length state.log)))) (idle_there opening old runs transcripts state entry.session none h) made_one,
      reply_state opening new runs transcripts (with_log state (state.log ++ entry ∷ [])) entry.session then within (committed_reply (suc (length state.log))) ts
          (same ∙ ap (λ (r : Reply). set transcripts entry.session (get_or transcripts entry.session [] ++ r ∷ [])) is),
    )
commit_step opening old new entry reply runs transcripts ts state right (places.refused f first stays words) opens within none same h =
    let now = version_now opening old runs transcripts state right h in
    let then = book_state opening old new runs transcripts state opens stays h in
    let is : reply ≡ refused_reply (length state.log) f = words ∙ ap (λ (l : List LogEntry). refused_reply (length l) f) (sym h.log) in
    let none_made = machine.not_made old.table.model f now (subst (λ (l : List LogEntry). Rattle.edit_core.specs.Edits.IsRefused old.table.model (length l) entry.batch f) (sym h.log) first) in (
      with_reply state entry.session (refused_reply (length state.log) f),
      steps (with_reply state entry.session (refused_reply (length state.log) f)) (idle_there opening old runs transcripts state entry.session none h) none_made,
      reply_state opening new runs transcripts state entry.session then within (refused_reply (length state.log) f) ts
          (same ∙ ap (λ (r : Reply). set transcripts entry.session (get_or transcripts entry.session [] ++ r ∷ [])) is),
    )

pub begin_step : (opening : Model) (book : BookFacts) (q : Question) (live : Bool) (reply : Reply) (runs : List (Option RunFacts)) (transcripts ts : List (List Reply)) (state : MachineState) (session : ℕ)
    → IsBook book → IsAtOnce book.table.model.rows q → IsReplyOn (length book.log) book.table.model q reply → session < session_places → get_or runs session None ≡ None
    → ts ≡ set transcripts session (get_or transcripts session [] ++ reply ∷ []) → IsState opening book runs transcripts state
    → (after : MachineState) × WhileIdle state session (IsBegin opening state session q live) after × IsState opening book runs ts after
begin_step opening book q live reply runs transcripts ts state session right at_once answer within none same h =
    let now = version_now opening book runs transcripts state right h in
    let is : reply ≡ with_version (length state.log) reply.body = named reply (length book.log) answer.version_is ∙ ap (λ (l : List LogEntry). with_version (length l) reply.body) (sym h.log) in
    let after = with_reply state session (with_version (length state.log) reply.body) in (
      after,
      steps after (idle_there opening book runs transcripts state session none h) (answered_at_once book.table.model reply.body now at_once answer.answer),
      reply_state opening book runs transcripts state session h within (with_version (length state.log) reply.body) ts
          (same ∙ ap (λ (r : Reply). set transcripts session (get_or transcripts session [] ++ r ∷ [])) is),
    )

pub run_step : (opening : Model) (book : BookFacts) (q : Question) (live : Bool) (run : RunFacts) (runs : List (Option RunFacts)) (transcripts : List (List Reply)) (state : MachineState) (session : ℕ)
    → IsBook book → ¬ IsAtOnce book.table.model.rows q → run ≡ begun book q live → session < session_places → get_or runs session None ≡ None → IsState opening book runs transcripts state
    → (after : MachineState) × WhileIdle state session (IsBegin opening state session q live) after × IsState opening book (set runs session (Some run)) transcripts after
run_step opening book q live run runs transcripts state session right not_at_once is within none h =
    let now = version_now opening book runs transcripts state right h in
    let r : SessionRun = record { question = q; version = length state.log; live = live; stage = stage.Idle; fills = 0 } in
    let of : IsRunOf book (begun book q live) r = record {
      question = refl;
      version = ap (λ (l : List LogEntry). length l) h.log;
      live = refl;
      stage = refl;
      rounds = at_first;
      goes_on = (refl, prefix_self book.log);
    } in (
      with_run state session (Some r),
      steps (with_run state session (Some r)) (idle_there opening book runs transcripts state session none h) (running book.table.model now not_at_once),
      run_state opening book runs transcripts state session h within (Some run) (Some r) (subst (λ (f : RunFacts). IsRunOf book f r) (sym is) of),
    )

-- ---- runs

-- the run of a state stands at its place
pub run_back : (book : BookFacts) (place : Option RunFacts) (o : Option SessionRun) (r : SessionRun) → o ≡ Some r → IsPlace book place o
    → (run : RunFacts) × (place ≡ Some run) × IsRunOf book run r
run_back book None None r is h = absurd (grind (arith, is))
run_back book None (Some x) r is h = absurd h
run_back book (Some run) None r is h = absurd h
run_back book (Some run) (Some x) r is h = (run, refl, subst (λ (y : SessionRun). IsRunOf book run y) (same_run x r is) h)

-- where the place has no run at a stage, the state has none either
not_at : (opening : Model) (book : BookFacts) (runs : List (Option RunFacts)) (transcripts : List (List Reply)) (state : MachineState) (session : ℕ) (place : Option RunFacts) (at : Stage)
    → place ≡ get_or runs session None → ((run : RunFacts) → place ≡ Some run → run.stage ≢ at) → IsState opening book runs transcripts state
    → (r : SessionRun) → run_of state session ≡ Some r → r.stage ≢ at
not_at opening book runs transcripts state session place at is none h r there staged =
    let (run, here, of) = run_back book (get_or runs session None) (run_of state session) r there (h.places session) in
    none run (is ∙ here) (sym of.stage ∙ staged)

pub look_step : (opening : Model) (old new : BookFacts) (place after_place : Option RunFacts) (runs : List (Option RunFacts)) (transcripts : List (List Reply)) (state : MachineState) (session : ℕ)
    → IsLooked place after_place old.memo.entries new.memo.entries → new.opening ≡ old.opening → new.log ≡ old.log → session < session_places → place ≡ get_or runs session None → IsState opening old runs transcripts state
    → (after : MachineState) × IsMoved state session stage.Idle stage.Ready after × IsState opening new (set runs session after_place) transcripts after
look_step opening old new place after_place runs transcripts state session (looked_for run taken is idle next then memo) opens same within at h =
    let entries = old.memo.entries in
    let (r, there, of) = run_there old (get_or runs session None) (run_of state session) run (sym at ∙ is) (h.places session) in
    let h' = book_state opening old new runs transcripts state opens same h in
    let done : IsDoneAfter run.table run.question r.fills run.done = subst (AreRounds run r.fills) idle of.rounds in
    let ready : IsRunOf old (with_taken run taken entries) (at_stage r stage.Ready) = record {
      question = of.question;
      version = of.version;
      live = of.live;
      stage = refl;
      rounds = (done, next);
      goes_on = of.goes_on;
    } in (
      with_run state session (Some (at_stage r stage.Ready)),
      moved r there (of.stage ∙ idle),
      run_state opening new runs transcripts state session h' within after_place (Some (at_stage r stage.Ready))
          (subst (λ (p : Option RunFacts). IsPlace new p (Some (at_stage r stage.Ready))) (sym then)
          (on_longer old new (Some (with_taken run taken entries)) (Some (at_stage r stage.Ready)) opens (same_log_prefix old.log new.log same) ready)),
    )
look_step opening old new place after_place runs transcripts state session (places.other none stays memo) opens same within at h = (
  state,
  machine.other (not_at opening old runs transcripts state session place stage.Idle at none h),
  kept_state opening new runs transcripts state session (book_state opening old new runs transcripts state opens same h) within after_place (stays ∙ at),
)

pub work_step : (opening : Model) (book : BookFacts) (place after_place : Option RunFacts) (before count : ℕ) (runs : List (Option RunFacts)) (transcripts : List (List Reply)) (state : MachineState) (session : ℕ)
    → IsWorkedOn place after_place before count → session < session_places → place ≡ get_or runs session None → IsState opening book runs transcripts state
    → (after : MachineState) × IsMoved state session stage.Ready stage.Worked after × IsState opening book (set runs session after_place) transcripts after
work_step opening book place after_place before count runs transcripts state session (works run is ready going then counts) within at h =
    let (r, there, of) = run_there book (get_or runs session None) (run_of state session) run (sym at ∙ is) (h.places session) in
    let round : AreRounds run r.fills stage.Ready = subst (AreRounds run r.fills) ready of.rounds in
    let now : IsRunOf book (worked run) (at_stage r stage.Worked) = record {
      question = of.question;
      version = of.version;
      live = of.live;
      stage = refl;
      rounds = one_more round.0 round.1;
      goes_on = of.goes_on;
    } in (
      with_run state session (Some (at_stage r stage.Worked)),
      moved r there (of.stage ∙ ready),
      run_state opening book runs transcripts state session h within after_place (Some (at_stage r stage.Worked))
          (subst (λ (p : Option RunFacts). IsPlace book p (Some (at_stage r stage.Worked))) (sym then) now),
    )
work_step opening book place after_place before count runs transcripts state session (places.other none stays counts) within at h = (
  state,
  machine.other (not_at opening book runs transcripts state session place stage.Ready at none h),
  kept_state opening book runs transcripts state session h within after_place (stays ∙ at),
)

-- ---- fills

-- a run has no more uses than its most fills
few_uses : (run : RunFacts) (r : SessionRun) → r.question ≡ run.question → length (run_uses run) ≤ most_fills run.table.model r
few_uses run r same =
    subst (λ (x : Question). length (run_uses run) ≤ length (all_cells x) * weight_of run.table.model.rows (entity_of x)) (sym same) (uses_most run)

-- the model of a run's version is that of the same version of the longer log
version_of_run : (opening : Model) (book : BookFacts) (runs : List (Option RunFacts)) (transcripts : List (List Reply)) (state : MachineState) (run : RunFacts) (r : SessionRun)
    → IsState opening book runs transcripts state → IsRunning run → IsRunOf book run r → IsVersion opening state.log r.version run.table.model
version_of_run opening book runs transcripts state run r h going of =
    let model = run.table.model in
    let first = subst (λ (o : Model). IsVersion o run.log (length run.log) model) (of.goes_on.0 ∙ h.opens) going.version.newest in
    let longer = version_stays opening run.log of.goes_on.1.0 (length run.log) model first in
    let in_book = subst (λ (l : List LogEntry). IsVersion opening l (length run.log) model) (of.goes_on.1.1 ∙ sym h.log) longer in
    subst (λ (v : ℕ). IsVersion opening state.log v model) (sym of.version) in_book

next_idle : (n : ℕ) → 0 < n → next_stage n ≡ stage.Idle
next_idle zero h = absurd (omega (arith, h))
next_idle (suc n) h = refl

worked_fills : (run : RunFacts) (r : SessionRun) (book : BookFacts) → run.stage ≡ stage.Worked → IsRunOf book run r → suc r.fills ≤ run.done
worked_fills run r book at of = rounds_within run.table run.question (suc r.fills) run.done (subst (AreRounds run r.fills) at of.rounds)

filled_runs : (opening : Model) (old new : BookFacts) (run : RunFacts) (r : SessionRun) → run.stage ≡ stage.Worked → 0 < left_of run → new.opening ≡ old.opening → new.log ≡ old.log → IsRunOf old run r
    → IsPlace new (Some (settled run)) (Some (after_fill r))
filled_runs opening old new run r at left opens same of =
    let idle : (settled run).stage ≡ stage.Idle = next_idle (left_of run) left in
    let settled_one : IsRunOf old (settled run) (after_fill r) = record {
      question = of.question;
      version = of.version;
      live = of.live;
      stage = sym idle;
      rounds = subst (AreRounds (settled run) (suc r.fills)) (sym idle) (subst (AreRounds run r.fills) at of.rounds);
      goes_on = of.goes_on;
    } in
    on_longer old new (Some (settled run)) (Some (after_fill r)) opens (same_log_prefix old.log new.log same) settled_one

-- what is replied, by the transcripts before
abbrev pub replied : List (List Reply) → ℕ → Option Reply → List (List Reply)
replied transcripts session None = transcripts
replied transcripts session (Some reply) = set transcripts session (get_or transcripts session [] ++ reply ∷ [])

pub fill_step : (opening : Model) (old new : BookFacts) (place after_place : Option RunFacts) (reply : Option Reply) (runs : List (Option RunFacts)) (transcripts ts : List (List Reply)) (state : MachineState) (session : ℕ)
    → IsFilled place after_place reply old.memo.entries new.memo.entries → new.opening ≡ old.opening → new.log ≡ old.log → session < session_places → place ≡ get_or runs session None → ts ≡ replied transcripts session reply
    → IsState opening old runs transcripts state
    → (after : MachineState) × IsFillEvent opening state session after × IsState opening new (set runs session after_place) ts after
fill_step opening old new place after_place reply runs transcripts ts state session (places.other none stays no_reply memo) opens same within at without_run h =
    let same_ts : ts ≡ transcripts = without_run ∙ ap (replied transcripts session) no_reply in (
      state,
      machine.IsFillEvent.other (not_at opening old runs transcripts state session place stage.Worked at none h),
      subst (λ t. IsState opening new (set runs session after_place) t state) (sym same_ts)
          (kept_state opening new runs transcripts state session (book_state opening old new runs transcripts state opens same h) within after_place (stays ∙ at)),
    )
fill_step opening old new place after_place reply runs transcripts ts state session (places.goes_on run is staged going left then no_reply memo) opens same within at without_run h =
    let (r, there, of) = run_there old (get_or runs session None) (run_of state session) run (sym at ∙ is) (h.places session) in
    let h' = book_state opening old new runs transcripts state opens same h in
    let same_ts : ts ≡ transcripts = without_run ∙ ap (replied transcripts session) no_reply in
    let few : suc r.fills < most_fills run.table.model r = omega (arith, worked_fills run r old staged of, few_uses run r of.question, left) in
    let after = with_run state session (Some (after_fill r)) in (
      after,
      fills r after there (of.stage ∙ staged) (machine.goes_on run.table.model (version_of_run opening old runs transcripts state run r h going of) few),
      subst (λ t. IsState opening new (set runs session after_place) t after) (sym same_ts)
          (run_state opening new runs transcripts state session h' within after_place (Some (after_fill r))
          (subst (λ (p : Option RunFacts). IsPlace new p (Some (after_fill r))) (sym then) (filled_runs opening old new run r staged left opens same of))),
    )
fill_step opening old new place after_place reply runs transcripts ts state session (places.ends run body is staged going none_left then answer replies memo) opens same within at without_run h =
    let (r, there, of) = run_there old (get_or runs session None) (run_of state session) run (sym at ∙ is) (h.places session) in
    let h' = book_state opening old new runs transcripts state opens same h in
    let few : suc r.fills ≤ most_fills run.table.model r = omega (arith, worked_fills run r old staged of, few_uses run r of.question, going.within) in
    let answer_too : IsAnswer run.table.model r.question body = subst (λ (q : Question). IsAnswer run.table.model q body) (sym of.question) answer in
    let gone : IsState opening new (set runs session after_place) transcripts (with_run state session None) =
    run_state opening new runs transcripts state session h' within after_place None (subst (λ (p : Option RunFacts). IsPlace new p None) (sym then) tt) in
    let last = with_version r.version body in
    let is_last : ts ≡ set transcripts session (get_or transcripts session [] ++ last ∷ []) =
    without_run ∙ ap (replied transcripts session) (replies ∙ ap (λ (v : ℕ). Some (with_version v body)) (sym of.version)) in
    let after = with_reply (with_run state session None) session last in (
      after,
      fills r after there (of.stage ∙ staged) (machine.ends run.table.model body (version_of_run opening old runs transcripts state run r h going of) few answer_too),
      reply_state opening new (set runs session after_place) transcripts (with_run state session None) session gone within last ts is_last,
    )

-- ---- the newest version

pub newest_step : (opening : Model) (book : BookFacts) (place : Option RunFacts) (newest : ℕ) (reply : Reply) (runs : List (Option RunFacts)) (transcripts ts : List (List Reply)) (state : MachineState) (session : ℕ)
    → IsNewestReply newest place (Some reply) → newest ≡ length book.log → session < session_places → place ≡ get_or runs session None → ts ≡ replied transcripts session (Some reply)
    → IsState opening book runs transcripts state
    → (after : MachineState) × IsNewestEvent state session after × IsState opening book (set runs session None) ts after
newest_step opening book place newest reply runs transcripts ts state session (places.without_run none words) count within at without_run h =
    let here : reply ≡ with_version (length state.log) (codes "NEWEST") = same_reply reply (with_version newest (codes "NEWEST")) words ∙ ap (λ n. with_version n (codes "NEWEST")) (count ∙ ap (λ (l : List LogEntry). length l) (sym h.log)) in
    let kept = kept_state opening book runs transcripts state session h within None (sym none ∙ at) in
    let after = with_reply state session (with_version (length state.log) (codes "NEWEST")) in (
      after,
      machine.without_run (no_run_there book (get_or runs session None) (run_of state session) (sym at ∙ none) (h.places session)),
      reply_state opening book (set runs session None) transcripts state session kept within (with_version (length state.log) (codes "NEWEST")) ts
          (without_run ∙ ap (λ (r : Reply). set transcripts session (get_or transcripts session [] ++ r ∷ [])) here),
    )
newest_step opening book place newest reply runs transcripts ts state session (places.cancelled run is live older words) count within at without_run h =
    let (r, there, of) = run_there book (get_or runs session None) (run_of state session) run (sym at ∙ is) (h.places session) in
    let size : newest ≡ length state.log = count ∙ ap (λ (l : List LogEntry). length l) (sym h.log) in
    let last = cancelled_reply r.version (length state.log) in
    let here : reply ≡ last = same_reply reply (cancelled_reply (length run.log) newest) words ∙ ap (λ n. cancelled_reply (length run.log) n) size ∙ ap (λ v. cancelled_reply v (length state.log)) (sym of.version) in
    let gone = run_state opening book runs transcripts state session h within None None tt in
    let after = with_reply (with_run state session None) session last in (
      after,
      on_run r after there (machine.cancelled (of.live ∙ live) (omega (arith, of.version, older, size))),
      reply_state opening book (set runs session None) transcripts (with_run state session None) session gone within last ts
          (without_run ∙ ap (λ (r : Reply). set transcripts session (get_or transcripts session [] ++ r ∷ [])) here),
    )
newest_step opening book place newest reply runs transcripts ts state session (places.held run is held no_reply) count within at without_run h = absurd (grind (arith, no_reply))

pub held_step : (opening : Model) (book : BookFacts) (place : Option RunFacts) (newest : ℕ) (runs : List (Option RunFacts)) (transcripts : List (List Reply)) (state : MachineState) (session : ℕ)
    → IsNewestReply newest place None → newest ≡ length book.log → place ≡ get_or runs session None → IsState opening book runs transcripts state
    → (after : MachineState) × IsNewestEvent state session after × IsState opening book runs transcripts after
held_step opening book place newest runs transcripts state session (places.without_run none words) count at h = absurd (grind (arith, words))
held_step opening book place newest runs transcripts state session (places.cancelled run is live older words) count at h = absurd (grind (arith, words))
held_step opening book place newest runs transcripts state session (places.held run is held no_reply) count at h =
    let (r, there, of) = run_there book (get_or runs session None) (run_of state session) run (sym at ∙ is) (h.places session) in
    let size : newest ≡ length state.log = count ∙ ap (λ (l : List LogEntry). length l) (sym h.log) in
    (state, on_run r state there (machine.held (elim held [ inl not_live ↦ inl (λ e. not_live (sym of.live ∙ e)) | inr new ↦ inr (omega (arith, new, size, of.version)) ])), h)
