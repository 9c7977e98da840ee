-- Worked transcripts of commits: some that leave nothing in the log, and for each rule on commits,
-- staging and the log one that isn't lawful.
use Rattle.std.proofs.Common.{◌≡◌, ◌⊎◌, inl, inr, ℕ, suc, Bool, false, List, [], ◌∷◌, ◌++◌, length, map, drop, get_or, codes, decimal, Option, Some, None, slice_get, refl, ap, subst, ◌∙◌, arith}
use Rattle.std.proofs.lemmas.Fmt.{decimal_injective}
use Rattle.std.proofs.lemmas.List.{length-append}
use Rattle.solid_base.specs.declared.entities.Model.{Model}
use Rattle.solid_base.specs.declared.entities.RowText.{RowText}
use Rattle.solid_base.specs.declared.replies.Reply.{Reply}
use Rattle.solid_questions.specs.declared.questions.Question.{Question}
use Rattle.solid_questions.specs.declared.questions.Question.TheVariants as question
use Rattle.script_lines.specs.declared.commands.Command.{Command}
use Rattle.script_lines.specs.declared.commands.Command.TheVariants as command
use Rattle.edit_core.specs.declared.changes.Change.TheVariants as change
use Rattle.edit_core.specs.declared.faults.EditFault.{EditFault}
use Rattle.edit_core.specs.declared.faults.EditFault.TheVariants as fault
use Rattle.edit_core.specs.Batches.{Staged, stage}
use Rattle.edit_core.specs.Versions.{LogEntry, opening_version}
use Rattle.solid_desk.specs.Outcomes.{Outcome, staged, committed, refused, no_memory, with_version, without_version, reply_of}
use Rattle.solid_desk.specs.Sessions.{Standing, at_start, standing_from, standing_after, staged_unless}
use Rattle.solid_desk.specs.Legal.{entry_at, IsCommitted, IsEdit, IsStagedCount, IsRefusedCommit, IsSession, IsLegal}
use Rattle.solid_desk.proofs.CommitsOnce.{logged_once}
use Rattle.solid_desk.proofs.OpeningOnly.{empty_log}
use Rattle.solid_desk.proofs.PrintedSessions.{Printed, all_printed, committed_is, names_it}

abbrev replaced : RowText → List Staged
replaced text = (1, change.Replace text) ∷ []

abbrev replaces : RowText → List Command
replaces text = command.Replace 1 text ∷ command.Commit ∷ []

abbrev entry_of : ℕ → ℕ → List Staged → LogEntry
entry_of session line batch = record { session = session; line = line; batch = batch }

-- one change is staged, and the commit of it made this version
abbrev made_version : ℕ → List Reply
made_version version = without_version (codes "STAGED " ++ decimal 1) ∷ with_version version (codes "COMMITTED") ∷ []

-- ---- commits that leave nothing in the log

none_logged : (place : ℕ) (entry : LogEntry) → slice_get [] place ≡ Some entry → ⊥
none_logged place entry h = cc

module _ (opening : Model) where
  -- by an empty log all outcomes of one session are lawful that it may come to
  by_empty_log : (commands : List Command) (outcomes : List Outcome) → IsSession opening [] 0 at_start commands outcomes → IsLegal opening (commands ∷ []) [] (map reply_of outcomes ∷ [])
  by_empty_log commands outcomes h = record {
    outcomes = outcomes ∷ [];
    printed = refl;
    lawful = record { last = opening; reached = opening_version };
    replies = (h, tt);
    entries = record { made = λ place entry there. absurd (none_logged place entry there); in_order = λ first second there. absurd (none_logged there.place first there.first_is) };
  }

  empty_batch : (line : ℕ) → IsRefusedCommit opening [] (record { line = line; batch = []; shown = 0 }) 0 fault.EmptyBatch
  empty_batch line = record {
    model = opening;
    shown = record { logged = omega arith; not_older = omega arith; is = opening_version };
    fault = refl;
  }

  -- nothing is staged: the commit has its fault
  pub nothing_staged : IsLegal opening ((command.Commit ∷ []) ∷ []) [] ((with_version 0 (codes "REFUSED EmptyBatch") ∷ []) ∷ [])
  nothing_staged = by_empty_log (command.Commit ∷ []) (refused 0 fault.EmptyBatch ∷ []) (empty_batch 1, tt)

  -- a commit that lacks memory leaves nothing staged
  pub emptied_without_memory : (text : RowText) → IsLegal opening ((command.Replace 1 text ∷ command.Commit ∷ command.Commit ∷ []) ∷ []) []
      ((without_version (codes "STAGED " ++ decimal 1) ∷ without_version (codes "MEMORY") ∷ with_version 0 (codes "REFUSED EmptyBatch") ∷ []) ∷ [])
  emptied_without_memory text = by_empty_log (command.Replace 1 text ∷ command.Commit ∷ command.Commit ∷ []) (staged 1 ∷ no_memory ∷ refused 0 fault.EmptyBatch ∷ []) (inl refl, (tt, (empty_batch 3, tt)))

  -- a change that lacks memory isn't staged
  pub not_staged : (text : RowText) → IsLegal opening ((command.Replace 1 text ∷ command.Drop 3 ∷ []) ∷ []) [] ((without_version (codes "MEMORY") ∷ without_version (codes "STAGED " ++ decimal 1) ∷ []) ∷ [])
  not_staged text = by_empty_log (command.Replace 1 text ∷ command.Drop 3 ∷ []) (no_memory ∷ staged 1 ∷ []) (inr refl, (inl refl, tt))

-- ---- the version that a commit names

abbrev session_of : Option LogEntry → ℕ
session_of None = 0
session_of (Some entry) = entry.session

-- the entry that makes the version of a commit has the commit's session
logged_session : (log : List LogEntry) (session : ℕ) (at : Standing) (place : ℕ) → IsCommitted log session at (suc place) → session_of (slice_get log place) ≡ session
logged_session log session at place h =
    let same : h.place ≡ place = (let next = h.next in omega (arith, next)) in
    subst (λ (n : ℕ). session_of (slice_get log n) ≡ session) same (ap (λ (o : Option LogEntry). session_of o) h.logged)

module _ (opening : Model) (text : RowText) where
  -- what the second line of a session came to, whose first line stages a change
  came_to : (log : List LogEntry) (session version : ℕ) → Printed opening log session at_start (replaces text) (made_version version) → (at : Standing) × IsCommitted log session at version
  came_to log session version line =
      let at = standing_after at_start (command.Replace 1 text) line.0 in
      let is = committed_is opening log at session version line.3.0 line.3.1 line.3.2 in
      (at, subst (λ (o : Outcome). IsEdit opening log session at o) is line.3.2)

  module _ (others : List (List Command)) (rest : List (List Reply)) where
    -- a commit names the version that it was made on
    pub names_the_version_before : (log : List LogEntry) → ¬ IsLegal opening (replaces text ∷ others) log (made_version 0 ∷ rest)
    names_the_version_before log legal =
        let line = (all_printed opening (replaces text ∷ others) log (made_version 0 ∷ rest) legal).0 in
        let next = (came_to log 0 0 line).1.next in
        omega (arith, next)

    -- the second of two commits names the version of the first one
    pub names_the_entry_before : ¬ IsLegal opening (replaces text ∷ replaces text ∷ others) (entry_of 0 2 (replaced text) ∷ entry_of 1 2 (replaced text) ∷ []) (made_version 1 ∷ made_version 1 ∷ rest)
    names_the_entry_before legal =
        let log = entry_of 0 2 (replaced text) ∷ entry_of 1 2 (replaced text) ∷ [] in
        let line = (all_printed opening (replaces text ∷ replaces text ∷ others) log (made_version 1 ∷ made_version 1 ∷ rest) legal).1.0 in
        let came = came_to log 1 1 line in
        let session : 0 ≡ 1 = logged_session log 1 came.0 0 came.1 in
        omega (arith, session)

    -- the entry has the number of another session, that stages and commits the same
    pub under_another_number : ¬ IsLegal opening (replaces text ∷ replaces text ∷ others) (entry_of 1 2 (replaced text) ∷ []) (made_version 1 ∷ rest)
    under_another_number legal =
        let log = entry_of 1 2 (replaced text) ∷ [] in
        let line = (all_printed opening (replaces text ∷ replaces text ∷ others) log (made_version 1 ∷ rest) legal).0 in
        let came = came_to log 0 1 line in
        let session : 1 ≡ 0 = logged_session log 0 came.0 0 came.1 in
        omega (arith, session)

-- a commit makes a version that an earlier reply named
pub makes_a_shown_version : (opening : Model) (log : List LogEntry) (q : Question) (live : Bool) (version : ℕ) (first : List ℕ) (others : List (List Command)) (rest : List (List Reply))
    → ¬ IsLegal opening ((command.Ask q live ∷ command.Commit ∷ []) ∷ others) log ((with_version version first ∷ with_version version (codes "COMMITTED") ∷ []) ∷ rest)
makes_a_shown_version opening log q live version first others rest legal =
    let line = (all_printed opening ((command.Ask q live ∷ command.Commit ∷ []) ∷ others) log ((with_version version first ∷ with_version version (codes "COMMITTED") ∷ []) ∷ rest) legal).0 in
    let named = names_it opening log at_start q live version first line.0 line.1 line.2 in
    let at = standing_after at_start (command.Ask q live) line.0 in
    let is = committed_is opening log at 0 version line.3.0 line.3.1 line.3.2 in
    let came : IsCommitted log 0 at version = subst (λ (o : Outcome). IsEdit opening log 0 at o) is line.3.2 in
    let newer = came.newer in
    omega (arith, named, newer)

-- ---- the log

module _ (opening : Model) (text other : RowText) (others : List (List Command)) (transcripts : List (List Reply)) where
  -- two commits of one session stand in the log the other way round
  pub wrong_order : ¬ IsLegal opening ((replaces text ++ replaces other) ∷ others) (entry_of 0 4 (replaced other) ∷ entry_of 0 2 (replaced text) ∷ []) transcripts
  wrong_order legal =
      let order = legal.entries.in_order (entry_of 0 4 (replaced other)) (entry_of 0 2 (replaced text))
      (record { place = 0; after = 1; order = omega arith; first_is = refl; second_is = refl; of_one = refl }) in
      omega (arith, order)

  -- a batch is kept over its commit, and the next commit makes it again
  pub batch_kept : ¬ IsLegal opening ((replaces text ++ command.Commit ∷ []) ∷ others) (entry_of 0 2 (replaced text) ∷ entry_of 0 3 (replaced text) ∷ []) transcripts
  batch_kept legal =
      let made = legal.entries.made 1 (entry_of 0 3 (replaced text)) refl in
      kept made.commands made.replies made.rest (same_list (replaces text ++ command.Commit ∷ []) (made.commands ++ command.Commit ∷ made.rest) made.line_of) made.one_each made.is where
        same_list : (a b : List Command) → ◌≡◌ {A = Option (List Command)} (Some a) (Some b) → a ≡ b
        same_list a b h = cc

        kept : (commands : List Command) (replies : List Outcome) (rest : List Command) → replaces text ++ command.Commit ∷ [] ≡ commands ++ command.Commit ∷ rest → length commands ≡ length replies
            → entry_of 0 3 (replaced text) ≡ entry_at 0 (standing_from at_start commands replies) → ⊥
        kept [] replies rest line one is = cc
        kept (c ∷ []) [] rest line one is = (let line_number = ap (λ (e : LogEntry). e.line) is in omega (arith, line_number))
        kept (c ∷ []) (a ∷ replies) rest line one is = (let line_number = ap (λ (e : LogEntry). e.line) is in omega (arith, line_number))
        kept (c ∷ d ∷ []) [] rest line one is = absurd (omega (arith, one))
        kept (c ∷ d ∷ []) (a ∷ []) rest line one is = absurd (omega (arith, one))
        kept (c ∷ d ∷ []) (a ∷ b ∷ replies) rest line one is =
            let commit : d ≡ command.Commit = cc in
            let none = ap (λ (e : LogEntry). length e.batch) (subst (λ (x : Command). entry_of 0 3 (replaced text) ≡ entry_at 0 (standing_from at_start (c ∷ x ∷ []) (a ∷ b ∷ replies))) commit is) in
            omega (arith, none)
        kept (c ∷ d ∷ e ∷ commands) replies rest line one is =
            let size = ap (λ (l : List Command). length l) line in
            absurd (omega (arith, size, length-append commands (command.Commit ∷ rest)))

  -- one commit stands in the log twice
  pub logged_twice : (entry : LogEntry) → ¬ IsLegal opening others (entry ∷ entry ∷ []) transcripts
  logged_twice entry legal =
      let both = logged_once opening others (entry ∷ entry ∷ []) transcripts 0 1 entry entry legal refl refl refl refl in
      omega (arith, both)

-- the entry of a commit that was refused
pub refused_and_logged : (opening : Model) (f : EditFault) (batch : List Staged) → ¬ IsLegal opening ((command.Commit ∷ []) ∷ []) (entry_of 0 1 batch ∷ []) ((reply_of (refused 0 f) ∷ []) ∷ [])
refused_and_logged opening f batch legal =
    let made = legal.entries.made 0 (entry_of 0 1 batch) refl in
    first_line made.commands made.replies made.rest made.others made.line_of made.one_each made.reply_to where
      versions : List Reply → List (Option ℕ)
      versions [] = []
      versions (reply ∷ replies) = reply.version ∷ []

      first_versions : List (List Reply) → List (Option ℕ)
      first_versions [] = []
      first_versions (replies ∷ transcripts) = versions replies

      came_to : (outcomes : List (List Outcome)) (others : List Outcome) → (reply_of (refused 0 f) ∷ []) ∷ [] ≡ map (map reply_of) outcomes → slice_get outcomes 0 ≡ Some (committed 1 ∷ others) → ⊥
      came_to [] others same at = cc
      came_to (first ∷ rest) others same at =
          let is : first ≡ committed 1 ∷ others = cc in
          let named = subst (λ (one : List Outcome). Some 0 ∷ [] ≡ versions (map reply_of one)) is (ap (λ (t : List (List Reply)). first_versions t) same) in
          cc

      first_line : (commands : List Command) (replies : List Outcome) (rest : List Command) (others : List Outcome) → ◌≡◌ {A = Option (List Command)} (Some (command.Commit ∷ [])) (Some (commands ++ command.Commit ∷ rest))
          → length commands ≡ length replies → slice_get legal.outcomes 0 ≡ Some (replies ++ committed 1 ∷ others) → ⊥
      first_line [] [] rest others line one reply = came_to legal.outcomes others legal.printed reply
      first_line [] (a ∷ replies) rest others line one reply = absurd (omega (arith, one))
      first_line (c ∷ commands) replies rest others line one reply =
          let same : command.Commit ∷ [] ≡ c ∷ (commands ++ command.Commit ∷ rest) = cc in
          let size = ap (λ (l : List Command). length l) same in
          omega (arith, size, length-append commands (command.Commit ∷ rest))

-- an entry, and no commit
pub made_by_none : (opening : Model) (transcripts : List (List Reply)) (entry : LogEntry) → ¬ IsLegal opening ((command.Ask question.Newest false ∷ []) ∷ []) (entry ∷ []) transcripts
made_by_none opening transcripts entry legal =
    let empty = empty_log opening ((command.Ask question.Newest false ∷ []) ∷ []) (entry ∷ []) transcripts legal (((λ same. cc), tt), tt) in
    cc

-- ---- staging

first_staged : (outcome : Outcome) → without_version (codes "STAGED " ++ decimal 1) ≡ reply_of outcome → (outcome ≡ staged 1) ⊎ (outcome ≡ no_memory) → outcome ≡ staged 1
first_staged outcome same (inl is) = is
first_staged outcome same (inr is) = (let byte : 83 ≡ 77 = ap (λ (r : Reply). get_or r.body 0 0) (same ∙ ap reply_of is) in absurd (omega (arith, byte)))

count_spelt : (outcome : Outcome) → without_version (codes "STAGED " ++ decimal 2) ≡ reply_of outcome → (outcome ≡ staged 1) ⊎ (outcome ≡ no_memory) → decimal 2 ≡ decimal 1
count_spelt outcome same (inl is) = ap (λ (r : Reply). drop 7 r.body) (same ∙ ap reply_of is)
count_spelt outcome same (inr is) = (let byte : 83 ≡ 77 = ap (λ (r : Reply). get_or r.body 0 0) (same ∙ ap reply_of is) in absurd (omega (arith, byte)))

module _ (opening : Model) (log : List LogEntry) (text : RowText) (others : List (List Command)) (rest : List (List Reply)) where
  abbrev stages_twice : List Command
  stages_twice = command.Replace 1 text ∷ command.Drop 1 ∷ []

  abbrev counts_two : List Reply
  counts_two = without_version (codes "STAGED " ++ decimal 1) ∷ without_version (codes "STAGED " ++ decimal 2) ∷ []

  -- a number that is staged twice counts as two changes
  pub counted_twice : ¬ IsLegal opening (stages_twice ∷ others) log (counts_two ∷ rest)
  counted_twice legal =
      let line = (all_printed opening (stages_twice ∷ others) log (counts_two ∷ rest) legal).0 in
      let first = first_staged line.0 line.1 line.2 in
      let second = subst (λ (o : Outcome). IsStagedCount (stage (staged_unless o [] 1 (change.Replace text)) 1 change.Drop) line.3.0) first line.3.2 in
      let two = decimal_injective 2 1 (omega arith) (omega arith) (count_spelt line.3.0 line.3.1 second) in
      omega (arith, two)
