-- Where the sessions are after the events so far, by those that are left.
use Rattle.std.proofs.Common.{◌≡◌, ℕ, zero, suc, ◌+◌, ◌-◌, ◌≤◌, List, [], ◌∷◌, length, get_or, replicate, Option, Some, None, IfSome, refl, sym, ap, subst, ◌∙◌, arith}
use Rattle.std.specs.List.{AllByRecursion}
use Rattle.std.proofs.lemmas.List.{length-replicate}
use Rattle.solid_base.specs.declared.entities.Model.{Model}
use Rattle.solid_base.specs.declared.replies.Reply.{Reply}
use Rattle.solid_questions.specs.declared.questions.Question.{Question}
use Rattle.memo_graph.specs.declared.key.Key.{Key}
use Rattle.memo_graph.specs.Memos.{Entry}
use Rattle.edit_core.specs.Versions.{LogEntry, IsVersionOf}
use Rattle.ask_core.specs.Books.{BookFacts, memo_capacity}
use Rattle.ask_core.specs.Frugal.{IsQuiet, IsCalmOn, IsTimelyOn, IsFrugalStep, entries_of}
use Rattle.ask_core.specs.Machine.{SessionRun, MachineState, AreSteps, machine_start, run_of, session_places}
use Rattle.ask_core.specs.Places.{HasPlaces, AreRounds, IsLawfulEvent, IsPlace, IsRunOf, IsStateOf, MakesStep}
use Rattle.ask_core.specs.Runs.{RunFacts, GoesOnWith, IsRunning, left_of, question_uses}
use Rattle.ask_core.specs.Timely.{IsDoneAfter, HasLeft, IsTimely, IsCalm, EachStep, IsThriftyMachine}
use Rattle.ask_core.specs.declared.events.Event.{Event}
use Rattle.ask_core.specs.declared.events.Event.TheVariants as event
use Rattle.ask_core.specs.declared.machine.Sessions.{Sessions}
use Rattle.ask_core.specs.declared.runs.Stage.TheVariants as stage
use Rattle.ask_core.proofs.FrugalSteps.{quiet_room}
use Rattle.ask_core.proofs.StateSteps.{no_run_there, run_back}

-- ---- the steps of code and of the machine

no_run_back : (book : BookFacts) (place : Option RunFacts) (o : Option SessionRun) → o ≡ None → IsPlace book place o → place ≡ None
no_run_back book None o is h = refl
no_run_back book (Some run) None is h = absurd h
no_run_back book (Some run) (Some r) is h = absurd (grind (arith, is))

module _ (opening : Model) (old new : Sessions) (state after : MachineState) (was : IsStateOf opening old state) (now : IsStateOf opening new after) where
  -- a session has a run in both or in none
  none_before : (session : ℕ) → get_or old.runs.items session None ≡ None → run_of state session ≡ None
  none_before session is = no_run_there old.book (get_or old.runs.items session None) (run_of state session) is (was.places session)

  none_before_back : (session : ℕ) → run_of state session ≡ None → get_or old.runs.items session None ≡ None
  none_before_back session is = no_run_back old.book (get_or old.runs.items session None) (run_of state session) is (was.places session)

  none_after : (session : ℕ) → get_or new.runs.items session None ≡ None → run_of after session ≡ None
  none_after session is = no_run_there new.book (get_or new.runs.items session None) (run_of after session) is (now.places session)

  none_after_back : (session : ℕ) → run_of after session ≡ None → get_or new.runs.items session None ≡ None
  none_after_back session is = no_run_back new.book (get_or new.runs.items session None) (run_of after session) is (now.places session)

  calm_on : (keys : List Key) (e : Event) → IsCalm keys opening state e after → IsCalmOn keys old e new
  calm_on keys (event.Begin session q live) calm = λ free taken.
      let (others, uses) = calm (none_before session free) (λ none. taken (none_after_back session none)) in (
        (λ other apart. none_before_back other (others other apart)),
        (λ table is. uses table (subst (λ (l : List LogEntry). IsVersionOf opening l table) (sym was.log) (subst (λ (m : Model). IsVersionOf m old.book.log table) was.opens is))),
      )
  calm_on keys (event.Look session) calm = tt
  calm_on keys (event.Work session) calm = tt
  calm_on keys (event.Fill session) calm = tt
  calm_on keys (event.Commit session line batch) calm = tt
  calm_on keys (event.Newest session) calm = λ held none. held (none_before_back session (sym calm ∙ none_after session none))

  -- so many uses are left of a run as its own facts say
  left_there : (run : RunFacts) (r : SessionRun) → IsRunning run → run.stage ≡ stage.Worked → IsRunOf old.book run r → HasLeft opening state.log r (suc r.fills) (left_of run)
  left_there run r going staged of = record {
    front = run.log;
    table = run.table;
    done = run.done;
    is_front = (of.goes_on.1.0, of.goes_on.1.1 ∙ sym was.log);
    version = sym of.version;
    is_table = subst (λ (m : Model). IsVersionOf m run.log run.table) (of.goes_on.0 ∙ was.opens) going.version;
    is_done = subst (λ (q : Question). IsDoneAfter run.table q (suc r.fills) run.done) (sym of.question) (subst (AreRounds run r.fills) staged of.rounds);
    is_left = ap (λ (q : Question). length (question_uses run.table.model.rows q) - run.done) (sym of.question);
  }

  timely_on : (e : Event) → IsTimelyOn old e new → IsTimely opening state e after
  timely_on (event.Begin session q live) timely = tt
  timely_on (event.Look session) timely = tt
  timely_on (event.Work session) timely = tt
  timely_on (event.Fill session) timely = λ r there staged.
      let (run, here, of) = run_back old.book (get_or old.runs.items session None) (run_of state session) r there (was.places session) in
      let worked : run.stage ≡ stage.Worked = sym of.stage ∙ staged in
      let (going, ends_exactly) = timely run here worked in (
        left_of run,
        left_there run r going worked of,
        ((λ none. ends_exactly.0 (none_after_back session none)), (λ zero_left. none_after session (ends_exactly.1 zero_left))),
      )
  timely_on (event.Commit session line batch) timely = tt
  timely_on (event.Newest session) timely = tt

-- ---- the events so far

-- where the steps of all events are calm, the sessions are quiet, the count has risen by no more
-- than there are entries, and the steps of the events that are left are calm
pub record SoFar (keys : List Key) (opening : Model) (sessions : Sessions) (rest : List Event) (before count : ℕ) (state last : MachineState) (more : AreSteps opening state rest last) : Type 0 where
  pub quiet : IsQuiet keys sessions.book.memo.entries sessions.runs.items
  pub risen : count ≤ before + entries_of sessions
  pub calm : EachStep (IsCalm keys) opening state rest last more

-- the sessions stand for a state from which the steps of the events that are left come to where
-- those of all events do
pub record Reached (opening : Model) (events : List Event) (before : ℕ) (sessions : Sessions) (count : ℕ) (rest : List Event) : Type 0 where
  pub state : MachineState
  pub is : IsStateOf opening sessions state
  pub lawful : AllByRecursion IsLawfulEvent rest
  pub whole : (last : MachineState) → AreSteps opening state rest last → AreSteps opening machine_start events last
  pub timely : (last : MachineState) (more : AreSteps opening state rest last) → EachStep IsTimely opening state rest last more
      → EachStep IsTimely opening machine_start events last (whole last more)
  pub thrifty : (keys : List Key) → length keys ≤ memo_capacity → (last : MachineState) (more : AreSteps opening state rest last)
      → EachStep (IsCalm keys) opening machine_start events last (whole last more) → SoFar keys opening sessions rest before count state last more

none_yet : {A : Type 0} (n s : ℕ) → ◌≡◌ {A = Option A} (get_or (replicate n None) s None) None
none_yet zero s = refl
none_yet (suc n) zero = refl
none_yet (suc n) (suc s) = none_yet n s

no_entries : (keys : List Key) (es : List Entry) (runs : List (Option RunFacts)) → es ≡ [] → runs ≡ replicate session_places None → IsQuiet keys es runs
no_entries keys es runs empty none =
    subst (λ (l : List Entry). IsQuiet keys l runs) (sym empty) (subst (λ (l : List (Option RunFacts)). IsQuiet keys [] l) (sym none) (record {
      held = λ x there. absurd (let h = there.1 in omega (arith, h));
      once = tt;
      alone = λ s t a b x y. absurd (let h = sym (none_yet session_places s) ∙ x in grind (arith, h));
      each = λ s run x. absurd (let h = sym (none_yet session_places s) ∙ x in grind (arith, h));
    }))

pub start_reached : (opening : Model) (events rest : List Event) (sessions : Sessions) (count : ℕ) → AllByRecursion IsLawfulEvent events → rest ≡ events → sessions.book.opening ≡ opening → sessions.book.log ≡ []
    → sessions.book.memo.entries ≡ [] → sessions.runs.items ≡ replicate session_places None → sessions.transcripts.items ≡ replicate session_places [] → Reached opening events count sessions count rest
start_reached opening events rest sessions count lawful same opens log memo runs transcripts = subst (Reached opening events count sessions count) (sym same) (record {
  state = machine_start;
  is = record {
    opens = opens;
    log = sym log;
    replies = sym transcripts;
    transcript_places = ap (λ (t : List (List Reply)). length t) transcripts ∙ length-replicate {A = List Reply} session_places [];
    run_places = ap (λ (l : List (Option RunFacts)). length l) runs ∙ length-replicate {A = Option RunFacts} session_places None;
    state_places = length-replicate {A = Option SessionRun} session_places None;
    places = λ s. subst (λ (l : List (Option RunFacts)). IsPlace sessions.book (get_or l s None) (get_or (replicate session_places None) s None)) (sym runs)
        (rw (none_yet session_places s, none_yet session_places s) tt);
  };
  lawful = lawful;
  whole = λ last more. more;
  timely = λ last more each. each;
  thrifty = λ keys few last more calm. record {
    quiet = no_entries keys sessions.book.memo.entries sessions.runs.items memo runs;
    risen = omega arith;
    calm = calm;
  };
})

pub reached_places : (opening : Model) (events rest : List Event) (before count : ℕ) (sessions : Sessions) → Reached opening events before sessions count rest → HasPlaces sessions.runs.items sessions.transcripts.items
reached_places opening events rest before count sessions h = record { of_runs = h.is.run_places; of_replies = h.is.transcript_places }

front_of : (book : BookFacts) (place : Option RunFacts) (o : Option SessionRun) → IsPlace book place o → IfSome place (λ run. GoesOnWith run book)
front_of book None o h = tt
front_of book (Some run) None h = absurd h
front_of book (Some run) (Some r) h = h.goes_on

pub reached_front : (opening : Model) (events rest : List Event) (before count : ℕ) (sessions : Sessions) → Reached opening events before sessions count rest
    → (session : ℕ) → IfSome (get_or sessions.runs.items session None) (λ run. GoesOnWith run sessions.book)
reached_front opening events rest before count sessions h session =
    front_of sessions.book (get_or sessions.runs.items session None) (get_or h.state.runs session None) (h.is.places session)

pub next_lawful : (opening : Model) (events rest more : List Event) (before count : ℕ) (sessions : Sessions) (e : Event) → Reached opening events before sessions count rest → rest ≡ e ∷ more → IsLawfulEvent e
next_lawful opening events rest more before count sessions e h is = (subst (AllByRecursion IsLawfulEvent) is h.lawful).0

-- the next event
next_reached : (opening : Model) (events more : List Event) (before count after_count : ℕ) (old new : Sessions) (e : Event) → Reached opening events before old count (e ∷ more) → MakesStep old e new
    → IsFrugalStep old e new count after_count → Reached opening events before new after_count more
next_reached opening events more before count after_count old new e h makes frugal =
    let (after, step, stands) = makes opening h.state h.is in
    record {
      state = after;
      is = stands;
      lawful = h.lawful.1;
      whole = λ last further. h.whole last (after, step, further);
      timely = λ last further each. h.timely last (after, step, further) (timely_on opening old new h.state after h.is stands e frugal.timely, each);
      thrifty = λ keys few last further calm.
          let so_far = h.thrifty keys few last (after, step, further) calm in
          let stays = frugal.thrifty keys few so_far.quiet (calm_on opening old new h.state after h.is stands keys e so_far.calm.0) in
          record {
            quiet = stays.quiet;
            risen = (let was = so_far.risen in let each = stays.each in omega (arith, was, each));
            calm = so_far.calm.1;
          };
    }

pub step_reached : (opening : Model) (events rest more : List Event) (before count after_count : ℕ) (old new : Sessions) (e : Event) → Reached opening events before old count rest → rest ≡ e ∷ more → MakesStep old e new
    → IsFrugalStep old e new count after_count → Reached opening events before new after_count more
step_reached opening events rest more before count after_count old new e h is makes frugal =
    next_reached opening events more before count after_count old new e (subst (Reached opening events before old count) is h) makes frugal

all_reached : (opening : Model) (events : List Event) (before count : ℕ) (sessions : Sessions) (log : List LogEntry) (transcripts : List (List Reply)) → Reached opening events before sessions count []
    → log ≡ sessions.book.log → transcripts ≡ sessions.transcripts.items → IsThriftyMachine opening events log transcripts before count
all_reached opening events before count sessions log transcripts h is_log is_transcripts = record {
  machine = record {
    last = h.state;
    steps = h.whole h.state refl;
    log_is = is_log ∙ sym h.is.log;
    transcripts_are = is_transcripts ∙ sym h.is.replies;
  };
  timely = h.timely h.state refl tt;
  thrifty = λ keys few calm.
      let so_far = h.thrifty keys few h.state refl calm in
      let room = quiet_room keys sessions.book.memo.entries sessions.runs.items few so_far.quiet in
      let risen = so_far.risen in
      omega (arith, room, risen);
}

pub end_reached : (opening : Model) (events rest : List Event) (before count : ℕ) (sessions : Sessions) (log : List LogEntry) (transcripts : List (List Reply)) → Reached opening events before sessions count rest → rest ≡ []
    → log ≡ sessions.book.log → transcripts ≡ sessions.transcripts.items → IsThriftyMachine opening events log transcripts before count
end_reached opening events rest before count sessions log transcripts h none is_log is_transcripts =
    all_reached opening events before count sessions log transcripts (subst (Reached opening events before sessions count) none h) is_log is_transcripts
