-- What the lines of sessions came to, beside the replies of their transcripts; and what a line came
-- to whose reply is that a commit was made, or that a question was given up.
use Rattle.std.proofs.Common.{◌≡◌, ℕ, suc, ◌<◌, ◌≤◌, ◌^◌, Bool, true, false, List, [], ◌∷◌, ◌++◌, length, map, drop, codes, decimal, get_or, refl, sym, ap, subst, arith}
use Rattle.std.proofs.lemmas.Fmt.{decimal_injective}
use Rattle.solid_base.specs.declared.entities.Model.{Model}
use Rattle.solid_base.specs.declared.replies.Reply.{Reply}
use Rattle.solid_questions.specs.declared.questions.Question.{Question}
use Rattle.script_lines.specs.declared.commands.Command.{Command}
use Rattle.edit_core.specs.Versions.{LogEntry}
use Rattle.edit_core.proofs.Logs.{few_versions}
use Rattle.solid_desk.specs.Outcomes.{Outcome, bad_line, staged, committed, refused, answered, cancelled, no_memory, with_version, reply_of, named_version}
use Rattle.solid_desk.specs.Sessions.{Standing, at_start, standing_after}
use Rattle.solid_desk.specs.Legal.{IsAnswered, IsCancelled, IsAsked, IsEdit, IsOutcome, IsSession, AreSessions, IsLegal}
use Rattle.solid_desk.proofs.AnswersApart.{no_cancelled}
use Rattle.solid_desk.proofs.OneReading.{same_version, same_body, one_has_none}

-- ---- transcripts

-- an outcome a line, with its reply
abbrev pub Printed : Model → List LogEntry → ℕ → Standing → List Command → List Reply → Type 0
Printed opening log session at [] [] = Unit {0}
Printed opening log session at [] (reply ∷ replies) = ⊥
Printed opening log session at (c ∷ commands) [] = ⊥
Printed opening log session at (c ∷ commands) (reply ∷ replies) =
    (outcome : Outcome) × (reply ≡ reply_of outcome) × IsOutcome opening log session at c outcome
    × Printed opening log session (standing_after at c outcome) commands replies

abbrev pub AllPrinted : Model → List LogEntry → ℕ → List (List Command) → List (List Reply) → Type 0
AllPrinted opening log session [] [] = Unit {0}
AllPrinted opening log session [] (replies ∷ transcripts) = ⊥
AllPrinted opening log session (commands ∷ sessions) [] = ⊥
AllPrinted opening log session (commands ∷ sessions) (replies ∷ transcripts) =
    Printed opening log session at_start commands replies × AllPrinted opening log (suc session) sessions transcripts

session_printed : (opening : Model) (log : List LogEntry) (session : ℕ) (at : Standing) (commands : List Command) (outcomes : List Outcome) → IsSession opening log session at commands outcomes → Printed opening log session at commands (map reply_of outcomes)
session_printed opening log session at [] [] h = tt
session_printed opening log session at [] (outcome ∷ outcomes) h = absurd h
session_printed opening log session at (c ∷ commands) [] h = absurd h
session_printed opening log session at (c ∷ commands) (outcome ∷ outcomes) h =
    (outcome, refl, h.0, session_printed opening log session (standing_after at c outcome) commands outcomes h.1)

sessions_printed : (opening : Model) (log : List LogEntry) (session : ℕ) (sessions : List (List Command)) (outcomes : List (List Outcome)) → AreSessions opening log session sessions outcomes → AllPrinted opening log session sessions (map (map reply_of) outcomes)
sessions_printed opening log session [] [] h = tt
sessions_printed opening log session [] (one ∷ others) h = absurd h
sessions_printed opening log session (commands ∷ sessions) [] h = absurd h
sessions_printed opening log session (commands ∷ sessions) (one ∷ others) h =
    (session_printed opening log session at_start commands one h.0, sessions_printed opening log (suc session) sessions others h.1)

module _ (opening : Model) (sessions : List (List Command)) (log : List LogEntry) (transcripts : List (List Reply)) where
  pub all_printed : IsLegal opening sessions log transcripts → AllPrinted opening log 0 sessions transcripts
  all_printed legal = subst (λ (t : List (List Reply)). AllPrinted opening log 0 sessions t) (sym legal.printed) (sessions_printed opening log 0 sessions legal.outcomes legal.replies)

  pub few_entries : IsLegal opening sessions log transcripts → length log ≤ 10000
  few_entries legal = few_versions opening log (length log) legal.lawful.last legal.lawful.reached

-- ---- replies

-- two short numbers with one spelling
pub one_number : (m n : ℕ) → m < 2 ^ 64 → n ≤ 10000 → decimal m ≡ decimal n → m ≡ n
one_number m n short few same = decimal_injective m n short (omega (arith, few)) same

-- a question was given up for a version with the spelling of this one
pub record IsGivenUp (opening : Model) (log : List LogEntry) (at : Standing) (q : Question) (live : Bool) (version later : ℕ) (outcome : Outcome) : Type 0 where
  pub other : ℕ
  pub spelt : decimal later ≡ decimal other
  pub is : outcome ≡ cancelled version other
  pub came : IsCancelled opening log at q live version other

same_cancelled : (v w later : ℕ) → v ≡ w → cancelled w later ≡ cancelled v later
same_cancelled v w later same = cc

same_committed : (v w : ℕ) → v ≡ w → committed w ≡ committed v
same_committed v w same = cc

module _ (opening : Model) (log : List LogEntry) (at : Standing) where
  pub committed_is : (session version : ℕ) (outcome : Outcome) → with_version version (codes "COMMITTED") ≡ reply_of outcome → IsEdit opening log session at outcome → outcome ≡ committed version
  committed_is session version (bad_line f) same h = absurd h
  committed_is session version (staged count) same h = absurd h
  committed_is session version (committed w) same h = same_committed version w (same_version version w (codes "COMMITTED") (codes "COMMITTED") same)
  committed_is session version (refused w f) same h =
      let byte : 67 ≡ 82 = ap (λ (r : Reply). get_or r.body 0 0) same in absurd (omega (arith, byte))
  committed_is session version (answered w text) same h = absurd h
  committed_is session version (cancelled w later) same h = absurd h
  committed_is session version no_memory same h = absurd (one_has_none version (codes "COMMITTED") (codes "MEMORY") same)

  -- a question that isn't live was answered by its reply
  pub answered_is : (q : Question) (version : ℕ) (body : List ℕ) (outcome : Outcome) → with_version version body ≡ reply_of outcome → IsAsked opening log at q false outcome → IsAnswered opening log at q version body
  answered_is q version body (bad_line f) same h = absurd h
  answered_is q version body (staged count) same h = absurd h
  answered_is q version body (committed w) same h = absurd h
  answered_is q version body (refused w f) same h = absurd h
  answered_is q version body (answered w text) same h =
      subst (λ (n : ℕ). IsAnswered opening log at q n body) (sym (same_version version w body text same))
      (subst (λ (t : List ℕ). IsAnswered opening log at q w t) (sym (same_body (with_version version body) (with_version w text) same)) h)
  answered_is q version body (cancelled w later) same h = (let may : false ≡ true = h.may in absurd (cc))
  answered_is q version body no_memory same h = absurd (one_has_none version body (codes "MEMORY") same)

  module _ (q : Question) (live : Bool) (version : ℕ) where
    pub given_up_is : (later : ℕ) (outcome : Outcome) → with_version version (codes "CANCELLED " ++ decimal later) ≡ reply_of outcome → IsAsked opening log at q live outcome → IsGivenUp opening log at q live version later outcome
    given_up_is later (bad_line f) same h = absurd h
    given_up_is later (staged count) same h = absurd h
    given_up_is later (committed w) same h = absurd h
    given_up_is later (refused w f) same h = absurd h
    given_up_is later (answered w text) same h =
        absurd (no_cancelled h.model q text later h.afresh (sym (same_body (with_version version (codes "CANCELLED " ++ decimal later)) (with_version w text) same)))
    given_up_is later (cancelled w other) same h =
        let number = same_version version w (codes "CANCELLED " ++ decimal later) (codes "CANCELLED " ++ decimal other) same in
        record {
          other = other;
          spelt = ap (λ (r : Reply). drop 10 r.body) same;
          is = same_cancelled version w other number;
          came = subst (λ (n : ℕ). IsCancelled opening log at q live n other) (sym number) h;
        }
    given_up_is later no_memory same h = absurd (one_has_none version (codes "CANCELLED " ++ decimal later) (codes "MEMORY") same)

    -- a reply that names a version shows it
    pub names_it : (body : List ℕ) (outcome : Outcome) → with_version version body ≡ reply_of outcome → IsAsked opening log at q live outcome → version ≤ named_version outcome
    names_it body (bad_line f) same h = absurd h
    names_it body (staged count) same h = absurd h
    names_it body (committed w) same h = absurd h
    names_it body (refused w f) same h = absurd h
    names_it body (answered w text) same h = (let number = same_version version w body text same in omega (arith, number))
    names_it body (cancelled w other) same h = (let number = same_version version w body (codes "CANCELLED " ++ decimal other) same in omega (arith, number))
    names_it body no_memory same h = absurd (one_has_none version body (codes "MEMORY") same)

    -- and it isn't older than what was shown
    pub not_older : (body : List ℕ) (outcome : Outcome) → with_version version body ≡ reply_of outcome → IsAsked opening log at q live outcome → at.shown ≤ version
    not_older body (bad_line f) same h = absurd h
    not_older body (staged count) same h = absurd h
    not_older body (committed w) same h = absurd h
    not_older body (refused w f) same h = absurd h
    not_older body (answered w text) same h = (let number = same_version version w body text same in let shown = h.shown.not_older in omega (arith, number, shown))
    not_older body (cancelled w other) same h =
        let number = same_version version w body (codes "CANCELLED " ++ decimal other) same in let shown = h.shown.not_older in omega (arith, number, shown)
    not_older body no_memory same h = absurd (one_has_none version body (codes "MEMORY") same)
