-- What a reply in a lawful outcome says of the line that it answers.
use Rattle.std.proofs.Common.{◌≡◌, ◌⊎◌, inl, inr, ℕ, zero, suc, ◌<◌, ◌≤◌, Bool, true, false, List, [], ◌∷◌, ◌++◌, length, map, codes, decimal, Option, Some, None, slice_get, refl, sym, ap, subst, ◌∙◌}
use Rattle.std.proofs.lemmas.List.{length-map}
use Rattle.solid_base.specs.declared.entities.Model.{Model}
use Rattle.solid_base.specs.declared.replies.Reply.{Reply}
use Rattle.solid_questions.specs.declared.questions.Question.{Question}
use Rattle.script_lines.specs.declared.commands.Command.{Command}
use Rattle.script_lines.specs.declared.commands.Command.TheVariants as command
use Rattle.ask_core.specs.Answers.{IsAnswer}
use Rattle.edit_core.specs.Versions.{LogEntry, IsVersion}
use Rattle.solid_desk.specs.Outcomes.{Outcome, bad_line, staged, committed, refused, answered, cancelled, no_memory, with_version, without_version, reply_of}
use Rattle.solid_desk.specs.Sessions.{Standing, at_start, standing_after}
use Rattle.solid_desk.specs.Legal.{IsAsked, IsOutcome, IsSession, AreSessions, IsLegal}

-- ---- one reply a line

session_size : (opening : Model) (log : List LogEntry) (session : ℕ) (at : Standing) (commands : List Command) (outcomes : List Outcome) → IsSession opening log session at commands outcomes → length outcomes ≡ length commands
session_size opening log session at [] [] h = refl
session_size opening log session at [] (outcome ∷ outcomes) h = absurd h
session_size opening log session at (c ∷ commands) [] h = absurd h
session_size opening log session at (c ∷ commands) (outcome ∷ outcomes) h = ap suc (session_size opening log session (standing_after at c outcome) commands outcomes h.1)

sessions_size : (opening : Model) (log : List LogEntry) (session : ℕ) (sessions : List (List Command)) (outcomes : List (List Outcome)) → AreSessions opening log session sessions outcomes → length outcomes ≡ length sessions
sessions_size opening log session [] [] h = refl
sessions_size opening log session [] (one ∷ others) h = absurd h
sessions_size opening log session (commands ∷ sessions) [] h = absurd h
sessions_size opening log session (commands ∷ sessions) (one ∷ others) h = ap suc (sessions_size opening log (suc session) sessions others h.1)

same_some : {X : Type 0} (x y : X) → ◌≡◌ {A = Option X} (Some x) (Some y) → x ≡ y
same_some x y h = cc

none_some : {X : Type 0} (x : X) → ◌≡◌ {A = Option X} None (Some x) → ⊥
none_some x h = cc

-- the outcomes of a session whose replies are these
record PrintsSession (opening : Model) (log : List LogEntry) (commands : List Command) (replies : List Reply) : Type 0 where
  session : ℕ
  outcomes : List Outcome
  printed : replies ≡ map reply_of outcomes
  came : IsSession opening log session at_start commands outcomes

session_at : (opening : Model) (log : List LogEntry) (first : ℕ) (sessions : List (List Command)) (outcomes : List (List Outcome)) (place : ℕ) (commands : List Command) (replies : List Reply) → AreSessions opening log first sessions outcomes
    → slice_get sessions place ≡ Some commands → slice_get (map (map reply_of) outcomes) place ≡ Some replies → PrintsSession opening log commands replies
session_at opening log first [] [] place commands replies h stands prints = absurd (none_some commands stands)
session_at opening log first [] (one ∷ others) place commands replies h stands prints = absurd h
session_at opening log first (some ∷ sessions) [] place commands replies h stands prints = absurd h
session_at opening log first (some ∷ sessions) (one ∷ others) zero commands replies h stands prints = record {
  session = first;
  outcomes = one;
  printed = sym (same_some (map reply_of one) replies prints);
  came = subst (λ (cs : List Command). IsSession opening log first at_start cs one) (same_some some commands stands) h.0;
}
session_at opening log first (some ∷ sessions) (one ∷ others) (suc place) commands replies h stands prints =
    session_at opening log (suc first) sessions others place commands replies h.1 stands prints

printed_session : (opening : Model) (sessions : List (List Command)) (log : List LogEntry) (transcripts : List (List Reply)) (place : ℕ) (commands : List Command) (replies : List Reply) → IsLegal opening sessions log transcripts
    → slice_get sessions place ≡ Some commands → slice_get transcripts place ≡ Some replies → PrintsSession opening log commands replies
printed_session opening sessions log transcripts place commands replies legal stands prints =
    session_at opening log 0 sessions legal.outcomes place commands replies legal.replies stands
    (subst (λ (t : List (List Reply)). slice_get t place ≡ Some replies) legal.printed prints)

pub one_transcript : (opening : Model) (sessions : List (List Command)) (log : List LogEntry) (transcripts : List (List Reply)) → IsLegal opening sessions log transcripts → length transcripts ≡ length sessions
one_transcript opening sessions log transcripts legal =
    ap length legal.printed ∙ length-map legal.outcomes (map reply_of) ∙ sessions_size opening log 0 sessions legal.outcomes legal.replies

pub one_reply : (opening : Model) (sessions : List (List Command)) (log : List LogEntry) (transcripts : List (List Reply)) (session : ℕ) (commands : List Command) (replies : List Reply) → IsLegal opening sessions log transcripts
    → slice_get sessions session ≡ Some commands → slice_get transcripts session ≡ Some replies → length replies ≡ length commands
one_reply opening sessions log transcripts session commands replies legal stands prints =
    let p = printed_session opening sessions log transcripts session commands replies legal stands prints in
    ap length p.printed ∙ length-map p.outcomes reply_of ∙ session_size opening log p.session at_start commands p.outcomes p.came

-- ---- what a question came to

-- what a line came to whose reply is this
record PrintsLine (opening : Model) (log : List LogEntry) (c : Command) (reply : Reply) : Type 0 where
  session : ℕ
  at : Standing
  outcome : Outcome
  printed : reply ≡ reply_of outcome
  came : IsOutcome opening log session at c outcome

line_at : (opening : Model) (log : List LogEntry) (session : ℕ) (at : Standing) (commands : List Command) (outcomes : List Outcome) (place : ℕ) (c : Command) (reply : Reply) → IsSession opening log session at commands outcomes
    → slice_get commands place ≡ Some c → slice_get (map reply_of outcomes) place ≡ Some reply → PrintsLine opening log c reply
line_at opening log session at [] [] place c reply h stands prints = absurd (none_some c stands)
line_at opening log session at [] (outcome ∷ outcomes) place c reply h stands prints = absurd h
line_at opening log session at (d ∷ commands) [] place c reply h stands prints = absurd h
line_at opening log session at (d ∷ commands) (outcome ∷ outcomes) zero c reply h stands prints = record {
  session = session;
  at = at;
  outcome = outcome;
  printed = sym (same_some (reply_of outcome) reply prints);
  came = subst (λ (x : Command). IsOutcome opening log session at x outcome) (same_some d c stands) h.0;
}
line_at opening log session at (d ∷ commands) (outcome ∷ outcomes) (suc place) c reply h stands prints =
    line_at opening log session (standing_after at d outcome) commands outcomes place c reply h.1 stands prints

-- the body is the answer on the version, or says that the question was given up for a later one
abbrev IsAnswerOf : Model → List LogEntry → Question → ℕ → List ℕ → Type 0
IsAnswerOf opening log q version body = (model : Model) × IsVersion opening log version model × IsAnswer model q body

abbrev IsGivenUp : List LogEntry → ℕ → List ℕ → Type 0
IsGivenUp log version body = (later : ℕ) × (version < later) × (later ≤ length log) × (body ≡ codes "CANCELLED " ++ decimal later)

version_is : (v w : ℕ) (body text : List ℕ) → with_version v body ≡ with_version w text → w ≡ v
version_is v w body text h = (let both : ◌≡◌ {A = Option ℕ} (Some v) (Some w) = ap (λ (r : Reply). r.version) h in sym (same_some v w both))

module _ (opening : Model) (log : List LogEntry) (at : Standing) (q : Question) (version : ℕ) (body : List ℕ) where
  no_version : (text : List ℕ) → with_version version body ≡ without_version text → ⊥
  no_version text h = (let none : ◌≡◌ {A = Option ℕ} (Some version) None = ap (λ (r : Reply). r.version) h in none_some version (sym none))

  answer_of : (live : Bool) (w : ℕ) (text : List ℕ) → IsAsked opening log at q live (answered w text) → with_version version body ≡ reply_of (answered w text) → IsAnswerOf opening log q version body
  answer_of live w text h same = (
    h.model,
    subst (λ (n : ℕ). IsVersion opening log n h.model) (version_is version w body text same) h.shown.is,
    subst (λ (t : List ℕ). IsAnswer h.model q t) (sym (ap (λ (r : Reply). r.body) same)) h.afresh,
  )

  asked_means : (live : Bool) (outcome : Outcome) → IsAsked opening log at q live outcome → with_version version body ≡ reply_of outcome → IsAnswerOf opening log q version body ⊎ IsGivenUp log version body
  asked_means live (bad_line f) h same = absurd h
  asked_means live (staged count) h same = absurd h
  asked_means live (committed w) h same = absurd h
  asked_means live (refused w f) h same = absurd h
  asked_means live (answered w text) h same = inl (answer_of live w text h same)
  asked_means live (cancelled w later) h same = inr (
    later,
    subst (λ (n : ℕ). n < later) (version_is version w body (codes "CANCELLED " ++ decimal later) same) h.later_one,
    h.logged,
    ap (λ (r : Reply). r.body) same,
  )
  asked_means live no_memory h same = absurd (no_version (codes "MEMORY") same)

  held_means : (outcome : Outcome) → IsAsked opening log at q false outcome → with_version version body ≡ reply_of outcome → IsAnswerOf opening log q version body
  held_means (bad_line f) h same = absurd h
  held_means (staged count) h same = absurd h
  held_means (committed w) h same = absurd h
  held_means (refused w f) h same = absurd h
  held_means (answered w text) h same = answer_of false w text h same
  held_means (cancelled w later) h same = (let may : false ≡ true = h.may in absurd (cc))
  held_means no_memory h same = absurd (no_version (codes "MEMORY") same)

printed_line : (opening : Model) (sessions : List (List Command)) (log : List LogEntry) (transcripts : List (List Reply)) (session place : ℕ) (commands : List Command) (replies : List Reply) (c : Command) (reply : Reply) → IsLegal opening sessions log transcripts
    → slice_get sessions session ≡ Some commands → slice_get transcripts session ≡ Some replies → slice_get commands place ≡ Some c → slice_get replies place ≡ Some reply → PrintsLine opening log c reply
printed_line opening sessions log transcripts session place commands replies c reply legal stands prints line one =
    let p = printed_session opening sessions log transcripts session commands replies legal stands prints in
    line_at opening log p.session at_start commands p.outcomes place c reply p.came line
    (subst (λ (t : List Reply). slice_get t place ≡ Some reply) p.printed one)

pub question_means : (opening : Model) (sessions : List (List Command)) (log : List LogEntry) (transcripts : List (List Reply)) (session place : ℕ) (commands : List Command) (replies : List Reply) (q : Question) (live : Bool) (version : ℕ) (body : List ℕ)
    → IsLegal opening sessions log transcripts → slice_get sessions session ≡ Some commands → slice_get transcripts session ≡ Some replies → slice_get commands place ≡ Some (command.Ask q live)
    → slice_get replies place ≡ Some (with_version version body) → IsAnswerOf opening log q version body ⊎ IsGivenUp log version body
question_means opening sessions log transcripts session place commands replies q live version body legal stands prints line one =
    let p = printed_line opening sessions log transcripts session place commands replies (command.Ask q live) (with_version version body) legal stands prints line one in
    asked_means opening log p.at q version body live p.outcome p.came p.printed

pub held_question_means : (opening : Model) (sessions : List (List Command)) (log : List LogEntry) (transcripts : List (List Reply)) (session place : ℕ) (commands : List Command) (replies : List Reply) (q : Question) (version : ℕ) (body : List ℕ)
    → IsLegal opening sessions log transcripts → slice_get sessions session ≡ Some commands → slice_get transcripts session ≡ Some replies → slice_get commands place ≡ Some (command.Ask q false)
    → slice_get replies place ≡ Some (with_version version body) → IsAnswerOf opening log q version body
held_question_means opening sessions log transcripts session place commands replies q version body legal stands prints line one =
    let p = printed_line opening sessions log transcripts session place commands replies (command.Ask q false) (with_version version body) legal stands prints line one in
    held_means opening log p.at q version body p.outcome p.came p.printed
