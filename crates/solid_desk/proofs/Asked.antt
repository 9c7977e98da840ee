-- What a question of a session comes to, round by round.
use Rattle.std.proofs.Common.{◌≡◌, ◌≢◌, inl, inr, ℕ, ◌+◌, ◌-◌, ◌<◌, ◌≤◌, List, [], ◌∷◌, ◌++◌, length, Bool, true, false, Option, None, Some, MatchOption, IfNone, is_none, Result, Ok, Err, IfOk, refl, sym, ap, subst, ◌∙◌, append_assoc, append-nil, arith}
use Rattle.std.specs.List.{AllByRecursion}
use Rattle.std.proofs.lemmas.Bool.{cases_lt}
use Rattle.std.proofs.lemmas.List.{length-append}
use mathlib.Core.List.{IsPrefix}
use Rattle.solid_base.specs.declared.entities.Model.{Model}
use Rattle.solid_base.specs.declared.replies.Reply.{Reply}
use Rattle.solid_base.proofs.Slices.{prefix_trans}
use Rattle.solid_base.specs.Ledgers.{RisesUpTo, counted, most_count}
use Rattle.solid_questions.specs.declared.questions.Question.{Question}
use Rattle.solid_questions.specs.Refusals.{most_evaluations}
use Rattle.script_lines.specs.declared.commands.Command.TheVariants as command
use Rattle.memo_graph.specs.Memos.{verdict_of}
use Rattle.edit_core.specs.Versions.{LogEntry, Version, IsVersion}
use Rattle.edit_core.proofs.Logs.{version_stays}
use Rattle.ask_core.specs.Answers.{IsAnswer}
use Rattle.ask_core.specs.Replies.{cancelled_reply}
use Rattle.ask_core.specs.Runs.{begun as begun_run, RunFacts, IsRunning, IsAtStage, use_keys, left_of, with_taken, worked, settled, most_keys}
use Rattle.ask_core.specs.declared.runs.Stage.TheVariants as stage
use Rattle.ask_core.proofs.PlaceSteps.{named}
use Rattle.ask_core.proofs.ThriftyRounds.{filter_fewer, next_idle, round_light, rises_twice}
use Rattle.ask_core.proofs.AskedAnswers.{few_left}
use Rattle.ask_core.specs.declared.books.Begun.TheVariants as begun
use Rattle.turn_book.specs.Passes.{TurnFacts, PassFacts}
use Rattle.solid_desk.specs.Outcomes.{Outcome, bad_line, staged, committed, refused, answered, cancelled, no_memory, reply_of, named_version}
use Rattle.solid_desk.specs.Sessions.{Standing}
use Rattle.solid_desk.specs.Legal.{IsShown}
use Rattle.solid_desk.specs.SideBySide.{IsOutcomeBy}
use Rattle.solid_desk.specs.Holds.{IsBegunUnder, IsRunUnder, IsLook, IsSameRun, IsHeardBy, MayCome, IsReplyBy}
use Rattle.solid_desk.specs.Turns.{GoesOn, IsByHeard, IsAskedOver, LooksOften}
use Rattle.solid_desk.proofs.Holding.{on_twice, under_still}

abbrev Pass : Type 0
Pass = PassFacts Model LogEntry

-- ---- the newest version is asked for

abbrev pub IsCancelledFor : RunFacts → ℕ → Option Reply → Type 0
IsCancelledFor run n reply =
    MatchOption reply (¬ ((run.live ≡ true) × (length run.log < n))) (λ r. (run.live ≡ true) × (length run.log < n) × (r ≡ cancelled_reply (length run.log) n))

pub live_hears : {E : Type 0} (old new : Pass) (run : RunFacts) (n : ℕ) (result : Result (Option Reply) E) → run.live ≡ true → new.seen ≡ n → new.heard ≡ old.heard ++ n ∷ []
    → IfOk result (IsCancelledFor run n) → IsHeardBy old new run.live (λ more. IfOk result (IsReplyBy run new.seen more))
live_hears {E} old new run n result live seen heard cancels = record {
  more = n ∷ [];
  heard = heard;
  held = λ held. absurd (cc (live, held));
  once = λ _. refl;
  then = by_reply result cancels;
} where
  by_reply : (result : Result (Option Reply) E) → IfOk result (IsCancelledFor run n) → IfOk result (IsReplyBy run new.seen (n ∷ []))
  by_reply (Ok None) h = elim (cases_lt (length run.log) n) [ inl less ↦ absurd (h (live, less)) | inr most ↦ (most, tt) ]
  by_reply (Ok (Some reply)) h = (cancelled (length run.log) n, h.2, (refl, live, omega (arith, seen)), ([], refl, h.1, tt))
  by_reply (Err e) h = tt

-- ---- one round

some_length : {X : Type 0} (xs : List X) → xs ≢ [] → 0 < length xs
some_length [] h = absurd (h refl)
some_length (x ∷ xs) h = omega arith

pub looked_same : (run mid : RunFacts) → IsLook run mid → IsSameRun run mid
looked_same run mid look = subst (IsSameRun run) (sym look.is) (record {
  opening = refl;
  log = refl;
  table = refl;
  question = refl;
  live = refl;
  left = omega arith;
})

module _ (run mid new : RunFacts) (running : IsRunning run) (idle : run.stage ≡ stage.Idle) (look : IsLook run mid) (is : new ≡ settled (worked mid)) where
  abbrev whole : RunFacts
  whole = settled (worked (with_taken run mid.taken look.entries))

  whole_is : new ≡ whole
  whole_is = is ∙ ap (λ (r : RunFacts). settled (worked r)) look.is

  fewer : left_of whole < left_of run
  fewer =
      let left : 0 < left_of run = (subst (IsAtStage run) idle running.at_stage).1 in
      let some = some_length mid.taken look.uses.some in
      omega (arith, left, some)

  pub round_fewer : left_of new < left_of run
  round_fewer = subst (λ (r : RunFacts). left_of r < left_of run) (sym whole_is) fewer

  pub round_same : IsSameRun run new
  round_same = subst (IsSameRun run) (sym whole_is) (record {
    opening = refl;
    log = refl;
    table = refl;
    question = refl;
    live = refl;
    left = (let less = fewer in omega (arith, less));
  })

  pub round_idle : 0 < left_of new → new.stage ≡ stage.Idle
  round_idle some = subst (λ (r : RunFacts). 0 < left_of r → r.stage ≡ stage.Idle) (sym whole_is) (next_idle (left_of whole)) some

  few_wanted : length (with_taken run mid.taken look.entries).wanted ≤ most_keys
  few_wanted = let few = filter_fewer (λ key. is_none (verdict_of key look.entries)) (use_keys run.table mid.taken) in omega (arith, few, look.uses.few_keys)

  -- one round evaluates at most 64 primitives
  pub round_few : (before after : ℕ) → after ≡ counted before (length mid.wanted) → after ≤ before + 64
  round_few before after count =
      let wanted : length mid.wanted ≤ 64 = subst (λ (r : RunFacts). length r.wanted ≤ 64) (sym look.is) few_wanted in
      grind (arith, count, wanted)

  pub round_rises : (before after : ℕ) → before ≤ most_count → IsRunning (worked mid) → after ≡ counted before (length mid.wanted) → RisesUpTo before after (left_of run - left_of new)
  round_rises before after bounded working count =
      subst (λ (r : RunFacts). RisesUpTo before after (left_of run - left_of r)) (sym whole_is)
      (round_light run mid.taken look.entries before after bounded (subst (λ (r : RunFacts). IsRunning (worked r)) look.is working)
      (count ∙ ap (λ (r : RunFacts). counted before (length r.wanted)) look.is))

may_before : (run : RunFacts) (taken : List _) (entries : List _) (seen : ℕ) (outcome : Outcome) → MayCome (with_taken run taken entries) seen outcome → MayCome run seen outcome
may_before run taken entries seen (answered version body) h = h
may_before run taken entries seen (cancelled version later) h = h
may_before run taken entries seen (bad_line f) h = h
may_before run taken entries seen (staged count) h = h
may_before run taken entries seen (committed version) h = h
may_before run taken entries seen (refused version f) h = h
may_before run taken entries seen no_memory h = h

reply_before : (run : RunFacts) (taken : List _) (entries : List _) (seen : ℕ) (more : List ℕ) (o : Option Reply) → IsReplyBy (with_taken run taken entries) seen more o → IsReplyBy run seen more o
reply_before run taken entries seen more None h = h
reply_before run taken entries seen more (Some reply) h = (h.0, h.1, may_before run taken entries seen h.0 h.2, h.3)

module _ (a b c : Pass) (run mid : RunFacts) (same : b.heard ≡ a.heard) (look : IsLook run mid) where
  -- what is heard after a look is heard in the round
  hears_from : (P Q : List ℕ → Type 0) → ((more : List ℕ) → P more → Q more) → IsHeardBy b c mid.live P → IsHeardBy a c run.live Q
  hears_from P Q f h =
      let lives : mid.live ≡ run.live = (looked_same run mid look).live in
      record {
        more = h.more;
        heard = h.heard ∙ ap (λ (l : List ℕ). l ++ h.more) same;
        held = λ held. h.held (lives ∙ held);
        once = λ live. h.once (lives ∙ live);
        then = f h.more h.then;
      }

  pub hears_reply : (o : Option Reply) → IsHeardBy b c mid.live (λ more. IsReplyBy mid c.seen more o) → IsHeardBy a c run.live (λ more. IsReplyBy run c.seen more o)
  hears_reply o h = hears_from (λ more. IsReplyBy mid c.seen more o) (λ more. IsReplyBy run c.seen more o)
      (λ more is. reply_before run mid.taken look.entries c.seen more o (subst (λ (m : RunFacts). IsReplyBy m c.seen more o) look.is is)) h

  pub hears_error : {E : Type 0} (P : List ℕ → Type 0) (result : Result (Option Reply) E) (e : E) → result ≡ Err e → IsHeardBy b c mid.live P
      → IsHeardBy a c run.live (λ more. IfOk result (IsReplyBy run c.seen more))
  hears_error P result e is h = hears_from P (λ more. IfOk result (IsReplyBy run c.seen more)) (λ more _. subst (λ r. IfOk r (IsReplyBy run c.seen more)) (sym is) tt) h

  -- a live run looks once for at most 64 evaluations
  pub looks_once : (d : Pass) (P : List ℕ → Type 0) (before after : ℕ) → IsHeardBy b c mid.live P → d.heard ≡ c.heard → after ≤ before + 64 → run.live ≡ true → LooksOften a d before after
  looks_once d P before after h heard few live =
      let one = h.once ((looked_same run mid look).live ∙ live) in
      let all : length d.heard ≡ length (a.heard ++ h.more) = ap (λ (l : List ℕ). length l) (heard ∙ h.heard ∙ ap (λ (l : List ℕ). l ++ h.more) same) in
      omega (arith, one, all, few, length-append a.heard h.more)

abbrev pub IsRunsAnswer : RunFacts → Option Reply → Type 0
IsRunsAnswer run reply =
    MatchOption reply (0 < left_of run) (λ r. (r.version ≡ Some (length run.log)) × IsAnswer run.table.model run.question r.body)

-- where the run isn't given up, its answer is the reply of the round
pub round_answers : {E : Type 0} (a c d : Pass) (run new : RunFacts) (o : Option Reply) (result : Result (Option Reply) E) → o ≡ None → IsSameRun run new → d.heard ≡ c.heard
    → IsHeardBy a c run.live (λ more. IsReplyBy run c.seen more o) → IfOk result (IsRunsAnswer new) → IsHeardBy a d run.live (λ more. IfOk result (IsReplyBy run d.seen more))
round_answers {E} a c d run new o result none same heard h answer = record {
  more = h.more;
  heard = heard ∙ h.heard;
  held = h.held;
  once = h.once;
  then = by_answer result answer;
} where
  early : AllByRecursion (λ n. n ≤ length run.log) h.more
  early = subst (IsReplyBy run c.seen h.more) none h.then

  by_answer : (result : Result (Option Reply) E) → IfOk result (IsRunsAnswer new) → IfOk result (IsReplyBy run d.seen h.more)
  by_answer (Ok None) k = early
  by_answer (Ok (Some reply)) k =
      let version = k.0 ∙ ap (λ (l : List LogEntry). Some (length l)) same.log in
      let afresh = subst (λ (t : Version). IsAnswer t.model run.question reply.body) same.table (subst (λ (q : Question). IsAnswer new.table.model q reply.body) same.question k.1) in
      (answered (length run.log) reply.body, named reply (length run.log) version, (refl, afresh), early)
  by_answer (Err e) k = tt

-- where it has no reply, it goes on, with fewer uses left
pub goes_round : {E : Type 0} (run mid new : RunFacts) (running : IsRunning run) (idle : run.stage ≡ stage.Idle) (look : IsLook run mid) (is : new ≡ settled (worked mid)) (result : Result (Option Reply) E)
    → IfOk result (IsRunsAnswer new) → IfOk result (λ reply. IfNone reply ((new.stage ≡ stage.Idle) × (left_of new < left_of run)))
goes_round run mid new running idle look is (Ok None) h = (round_idle run mid new running idle look is h, round_fewer run mid new running idle look is)
goes_round run mid new running idle look is (Ok (Some reply)) h = tt
goes_round run mid new running idle look is (Err e) h = tt

-- ---- round after round

-- the counts that were heard so far are no later than a version
pub record IsHeardSoFar (old new : Pass) (live : Bool) (version : ℕ) : Type 0 where
  pub more : List ℕ
  pub heard : new.heard ≡ old.heard ++ more
  pub held : live ≡ false → more ≡ []
  pub early : AllByRecursion (λ n. n ≤ version) more

pub none_so_far : (old new : Pass) (live : Bool) (version : ℕ) → new.heard ≡ old.heard → IsHeardSoFar old new live version
none_so_far old new live version same = record {
  more = [];
  heard = same ∙ sym (append-nil old.heard);
  held = λ _. refl;
  early = tt;
}

all_joined : {X : Type 0} (P : X → Type 0) (xs ys : List X) → AllByRecursion P xs → AllByRecursion P ys → AllByRecursion P (xs ++ ys)
all_joined P [] ys all more = more
all_joined P (x ∷ xs) ys all more = (all.0, all_joined P xs ys all.1 more)

joined : (a b c : List ℕ) (xs ys : List ℕ) → b ≡ a ++ xs → c ≡ b ++ ys → c ≡ a ++ (xs ++ ys)
joined a b c xs ys first second = second ∙ ap (λ (l : List ℕ). l ++ ys) first ∙ append_assoc a xs ys

none_joined : (xs ys : List ℕ) → xs ≡ [] → ys ≡ [] → xs ++ ys ≡ []
none_joined xs ys first second = ap (λ (l : List ℕ). l ++ ys) first ∙ second

pub more_so_far : (a b c : Pass) (run new : RunFacts) (live : Bool) (o : Option Reply) → o ≡ None → run.live ≡ live → new.log ≡ run.log → IsHeardSoFar a b live (length run.log)
    → IsHeardBy b c run.live (λ more. IsReplyBy run c.seen more o) → IsHeardSoFar a c live (length new.log)
more_so_far a b c run new live o none same log before h = record {
  more = before.more ++ h.more;
  heard = joined a.heard b.heard c.heard before.more h.more before.heard h.heard;
  held = λ held. none_joined before.more h.more (before.held held) (h.held (same ∙ held));
  early = subst (λ (l : List LogEntry). AllByRecursion (λ n. n ≤ length l) (before.more ++ h.more)) (sym log)
      (all_joined (λ n. n ≤ length run.log) before.more h.more before.early (subst (IsReplyBy run c.seen h.more) none h.then));
}

pub often_twice : (a b c : Pass) (first second third : ℕ) → LooksOften a b first second → LooksOften b c second third → LooksOften a c first third
often_twice a b c first second third one two = omega (arith, one, two)

by_all : (run : RunFacts) (seen : ℕ) (earlier more : List ℕ) (outcome : Outcome) → MayCome run seen outcome → AllByRecursion (λ n. n ≤ length run.log) earlier → IsByHeard more outcome
    → IsByHeard (earlier ++ more) outcome
by_all run seen earlier more (answered version body) may all h =
    all_joined (λ n. n ≤ version) earlier more (subst (λ (v : ℕ). AllByRecursion (λ n. n ≤ v) earlier) (sym may.0) all) h
by_all run seen earlier more (cancelled version later) may all h = (
  earlier ++ h.0,
  ap (λ (l : List ℕ). earlier ++ l) h.1 ∙ sym (append_assoc earlier h.0 (later ∷ [])),
  h.2,
  all_joined (λ n. n ≤ version) earlier h.0 (subst (λ (v : ℕ). AllByRecursion (λ n. n ≤ v) earlier) (sym may.0) all) h.3,
)
by_all run seen earlier more (bad_line f) may all h = absurd may
by_all run seen earlier more (staged count) may all h = absurd may
by_all run seen earlier more (committed version) may all h = absurd may
by_all run seen earlier more (refused version f) may all h = absurd may
by_all run seen earlier more no_memory may all h = absurd may

-- ---- what it came to

same_some : (a b : Model) → ◌≡◌ {A = Option Model} (Some a) (Some b) → a ≡ b
same_some a b h = cc

long : (xs ys : List LogEntry) → IsPrefix xs ys → length xs ≤ length ys
long xs ys goes = let size : length (xs ++ goes.0) ≡ length ys = ap (λ (l : List LogEntry). length l) goes.1 in omega (arith, size, length-append xs goes.0)

shown_by : (opening : Model) (front log : List LogEntry) (model : Model) (at : Standing) (v : ℕ) → IsVersion opening front (length front) model → IsPrefix front log → at.shown ≤ length front → v ≡ length front
    → IsShown opening log at v model
shown_by opening front log model at v is goes low same = record {
  logged = (let more = long front log goes in omega (arith, more, same));
  not_older = omega (arith, low, same);
  is = subst (λ (n : ℕ). IsVersion opening log n model) (sym same)
      (subst (λ (l : List LogEntry). IsVersion opening l (length front) model) goes.1 (version_stays opening front goes.0 (length front) model is));
}

module _ (run : RunFacts) (running : IsRunning run) (front : List LogEntry) (goes : IsPrefix run.log front) (seen session : ℕ) (at : Standing) (low : at.shown ≤ length run.log) where
  may_by : (outcome : Outcome) → MayCome run seen outcome → ((more : List ℕ) → IsByHeard more outcome → IsOutcomeBy run.opening front seen session at (command.Ask run.question run.live) outcome)
  may_by (answered version body) may more h log begins seen_all = record {
    model = run.table.model;
    shown = shown_by run.opening run.log log run.table.model at version running.version.newest (prefix_trans run.log front log goes begins) low may.0;
    afresh = may.1;
  }
  may_by (cancelled version later) may more h log begins seen_all = record {
    may = may.1;
    cells = running.cells;
    model = run.table.model;
    shown = shown_by run.opening run.log log run.table.model at version running.version.newest (prefix_trans run.log front log goes begins) low may.0;
    not_refused = running.not_refused;
    later_one = h.2;
    logged = (let last = may.2 in omega (arith, last, seen_all));
  }
  may_by (bad_line f) may more h log begins seen_all = absurd may
  may_by (staged count) may more h log begins seen_all = absurd may
  may_by (committed version) may more h log begins seen_all = absurd may
  may_by (refused version f) may more h log begins seen_all = absurd may
  may_by no_memory may more h log begins seen_all = absurd may

named_most : (run : RunFacts) (seen : ℕ) (outcome : Outcome) → length run.log ≤ seen → MayCome run seen outcome → named_version outcome ≤ seen
named_most run seen (answered version body) low may = (let at = may.0 in omega (arith, low, at))
named_most run seen (cancelled version later) low may = (let at = may.0 in let last = may.2 in grind (arith, low, at, last))
named_most run seen (bad_line f) low may = absurd may
named_most run seen (staged count) low may = absurd may
named_most run seen (committed version) low may = absurd may
named_most run seen (refused version f) low may = absurd may
named_most run seen no_memory low may = absurd may

abbrev pub Comes : Pass → Pass → Model → ℕ → Question → Bool → Reply → Type 0
Comes old new opening session q live reply = (outcome : Outcome) × (reply ≡ reply_of outcome) × IsAskedOver old new opening session q live outcome

-- by its run, in the round that ends it
pub run_comes : (turn : TurnFacts Model) (a b c : Pass) (opening : Model) (session : ℕ) (q : Question) (live : Bool) (run : RunFacts) (o : Option Reply) (reply : Reply) → o ≡ Some reply → IsRunning run
    → Some run.opening ≡ turn.opening → turn.opening ≡ Some opening → run.question ≡ q → run.live ≡ live → IsPrefix run.log c.front → a.seen ≤ length run.log → length run.log ≤ c.seen
    → IsHeardSoFar a b live (length run.log) → IsHeardBy b c run.live (λ more. IsReplyBy run c.seen more o) → Comes a c opening session q live reply
run_comes turn a b c opening session q live run o reply is running under turn_opens asks lives front low high before h =
    let opens = same_some run.opening opening (under ∙ turn_opens) in
    let last = subst (IsReplyBy run c.seen h.more) is h.then in (
      last.0,
      last.1,
      record {
        may = λ at shown. subst (λ (o : Model). IsOutcomeBy o c.front c.seen session at (command.Ask q live) last.0) opens
            (subst (λ (x : Question). IsOutcomeBy run.opening c.front c.seen session at (command.Ask x live) last.0) asks
            (subst (λ (x : Bool). IsOutcomeBy run.opening c.front c.seen session at (command.Ask run.question x) last.0) lives
            (may_by run running c.front front c.seen session at (omega (arith, shown, low)) last.0 last.2 h.more last.3)));
        named = named_most run c.seen last.0 high last.2;
        more = before.more ++ h.more;
        heard = joined a.heard b.heard c.heard before.more h.more before.heard h.heard;
        held = λ held. none_joined before.more h.more (before.held held) (h.held (lives ∙ held));
        by_heard = by_all run c.seen before.more h.more last.0 last.2 before.early last.3;
      },
    )

-- at once
pub comes_at_once : (turn : TurnFacts Model) (a b : Pass) (opening : Model) (session : ℕ) (q : Question) (live : Bool) (reply : Reply) → (begins : IsBegunUnder turn b q live (begun.Answered reply)) → turn.opening ≡ Some opening
    → a.seen ≤ b.seen → b.seen ≡ length b.front → b.heard ≡ a.heard → Comes a b opening session q live reply
comes_at_once turn a b opening session q live reply begins turn_opens more seen heard =
    let book = begins.book in
    let is = begins.is_book in
    let log = begins.log in
    let answer = begins.begins.1 in
    let opens = same_some book.opening opening (begins.opening ∙ turn_opens) in
    let size : length book.log ≡ length b.front = ap (λ (l : List LogEntry). length l) log in
    let low : a.seen ≤ length book.log = omega (arith, more, seen, size) in (
      answered (length book.log) reply.body,
      named reply (length book.log) answer.version_is,
      record {
        may = λ at shown longer goes long. record {
          model = book.table.model;
          shown = subst (λ (o : Model). IsShown o longer at (length book.log) book.table.model) opens
              (shown_by book.opening book.log longer book.table.model at (length book.log) is.version.newest (subst (λ (l : List LogEntry). IsPrefix l longer) (sym log) goes) (omega (arith, shown, low)) refl);
          afresh = answer.answer;
        };
        named = omega (arith, seen, size);
        more = [];
        heard = heard ∙ sym (append-nil a.heard);
        held = λ _. refl;
        by_heard = tt;
      },
    )

-- ---- the rounds of one question

-- after some rounds the run is still that of the question, and was told of no later version
pub record IsAsking (turn : TurnFacts Model) (a b : Pass) (q : Question) (live : Bool) (run : RunFacts) (before count : ℕ) : Type 0 where
  pub goes_on : GoesOn turn a b
  pub made : b.made ≡ a.made
  pub under : IsRunUnder turn b run
  pub idle : run.stage ≡ stage.Idle
  pub asks : run.question ≡ q
  pub lives : run.live ≡ live
  pub low : a.seen ≤ length run.log
  pub high : length run.log ≤ b.seen
  pub heard : IsHeardSoFar a b live (length run.log)
  pub light : RisesUpTo before count (most_evaluations - left_of run)
  pub often : live ≡ true → LooksOften a b before count

pub asking_begins : (turn : TurnFacts Model) (a b : Pass) (q : Question) (live : Bool) (run : RunFacts) (count : ℕ) → (begins : IsBegunUnder turn b q live (begun.Running run)) → GoesOn turn a b → b.made ≡ a.made → b.heard ≡ a.heard
    → b.seen ≡ length b.front → IsAsking turn a b q live run count count
asking_begins turn a b q live run count begins goes_on made heard seen =
    let is : run ≡ begun_run begins.book q live = begins.begins.1 in
    let log : run.log ≡ b.front = ap (λ (r : RunFacts). r.log) is ∙ begins.log in
    let size : length run.log ≡ length b.front = ap (λ (l : List LogEntry). length l) log in
    let more = goes_on.seen in
    record {
      goes_on = goes_on;
      made = made;
      under = record {
        opening = ap (λ (r : RunFacts). Some r.opening) is ∙ begins.opening;
        front = ([], append-nil run.log ∙ log);
      };
      idle = ap (λ (r : RunFacts). r.stage) is;
      asks = ap (λ (r : RunFacts). r.question) is;
      lives = ap (λ (r : RunFacts). r.live) is;
      low = omega (arith, more, seen, size);
      high = omega (arith, seen, size);
      heard = none_so_far a b live (length run.log) heard;
      light = (omega arith, omega arith);
      often = λ _. (let same : length b.heard ≡ length a.heard = ap (λ (l : List ℕ). length l) heard in omega (arith, same));
    }

if_none : {X : Type 0} {P : Type 0} (o : Option X) → o ≡ None → IfNone o P → P
if_none {X} {P} o is h = subst (λ (x : Option X). IfNone x P) is h

-- one round more
pub asking_on : (turn : TurnFacts Model) (a b c : Pass) (q : Question) (live : Bool) (run new : RunFacts) (before count after : ℕ) (o : Option Reply) → o ≡ None → IsAsking turn a b q live run before count
    → GoesOn turn b c → c.made ≡ b.made → IsRunning run → IsSameRun run new → IfNone o ((new.stage ≡ stage.Idle) × (left_of new < left_of run)) → IsHeardBy b c run.live (λ more. IsReplyBy run c.seen more o)
    → (run.live ≡ true → LooksOften b c count after) → RisesUpTo count after (left_of run - left_of new) → IsAsking turn a c q live new before after
asking_on turn a b c q live run new before count after o none was goes_on made running same fewer heard often light =
    let more = goes_on.seen in
    let high = was.high in
    let low = was.low in
    let size : length new.log ≡ length run.log = ap (λ (l : List LogEntry). length l) same.log in
    record {
      goes_on = on_twice turn a b c was.goes_on goes_on;
      made = made ∙ was.made;
      under = under_still turn b c run new was.under goes_on.front same;
      idle = (if_none o none fewer).0;
      asks = same.question ∙ was.asks;
      lives = same.live ∙ was.lives;
      low = omega (arith, low, size);
      high = omega (arith, high, more, size);
      heard = more_so_far a b c run new live o none was.lives same.log was.heard heard;
      light = rises_twice before count after most_evaluations (left_of run) (left_of new) (few_left run running) same.left was.light light;
      often = λ lives. often_twice a b c before count after (was.often lives) (often (was.lives ∙ lives));
    }

-- fewer uses are left
pub asking_fewer : (run new : RunFacts) (o : Option Reply) → o ≡ None → IfNone o ((new.stage ≡ stage.Idle) × (left_of new < left_of run)) → left_of new < left_of run
asking_fewer run new o none fewer = (if_none o none fewer).1

-- what stands where a round is the last one
pub asking_ends : (turn : TurnFacts Model) (a b c : Pass) (q : Question) (live : Bool) (run new : RunFacts) (before count after : ℕ) → IsAsking turn a b q live run before count
    → GoesOn turn b c → c.made ≡ b.made → IsRunning run → IsSameRun run new → (run.live ≡ true → LooksOften b c count after) → RisesUpTo count after (left_of run - left_of new)
    → GoesOn turn a c × (c.made ≡ a.made) × (live ≡ true → LooksOften a c before after) × RisesUpTo before after most_evaluations
asking_ends turn a b c q live run new before count after was goes_on made running same often light =
    let rises = rises_twice before count after most_evaluations (left_of run) (left_of new) (few_left run running) same.left was.light light in
    let up = rises.0 in
    let most = rises.1 in
    (on_twice turn a b c was.goes_on goes_on, made ∙ was.made, λ lives. often_twice a b c before count after (was.often lives) (often (was.lives ∙ lives)), (up, omega (arith, most)))

-- what the question came to then
pub asking_comes : (turn : TurnFacts Model) (a b c : Pass) (opening : Model) (session : ℕ) (q : Question) (live : Bool) (run : RunFacts) (before count : ℕ) (o : Option Reply) (reply : Reply) → o ≡ Some reply
    → IsAsking turn a b q live run before count → GoesOn turn b c → IsRunning run → turn.opening ≡ Some opening → IsHeardBy b c run.live (λ more. IsReplyBy run c.seen more o) → Comes a c opening session q live reply
asking_comes turn a b c opening session q live run before count o reply is was goes_on running opens heard =
    run_comes turn a b c opening session q live run o reply is running was.under.opening opens was.asks was.lives (prefix_trans run.log b.front c.front was.under.front goes_on.front)
    was.low (let high = was.high in let more = goes_on.seen in omega (arith, high, more)) was.heard heard
