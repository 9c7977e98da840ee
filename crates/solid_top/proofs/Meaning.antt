-- What the reply to a line, in the bytes of an output, is by the model of its version.
use Rattle.std.proofs.Common.{◌≡◌, inl, inr, ℕ, zero, suc, ◌==◌, ◌≤◌, ◌<◌, ◌+◌, ◌^◌, Bool, true, false, cond, List, [], ◌∷◌, ◌++◌, codes, decimal, drop, get_or, length, map, slice_get, Some, Result, Ok, Err, IfOk, refl, sym, ap, subst, ◌∙◌, arith}
use Rattle.std.specs.List.{AllByRecursion, range_with_len}
use Rattle.solid_base.specs.declared.entities.Entity.{Entity}
use Rattle.solid_base.specs.declared.entities.Model.{Model}
use Rattle.solid_base.specs.declared.replies.Reply.{Reply}
use Rattle.solid_base.specs.Ranges.{IsLawfulRow}
use Rattle.iges_parameters.specs.Accepted.{IsAccepted}
use Rattle.iges_file.specs.declared.faults.FileFault.{FileFault}
use Rattle.iges_file.specs.Files.{Refused}
use Rattle.iges_file.proofs.OneOutcome.{never_both}
use Rattle.solid_questions.specs.declared.questions.Question.{Question}
use Rattle.solid_questions.specs.Questions.{IsLawful}
use Rattle.script_lines.specs.declared.commands.Command.{Command}
use Rattle.script_lines.specs.declared.commands.Command.TheVariants as command
use Rattle.script_lines.specs.declared.commands.ScriptLine.{ScriptLine}
use Rattle.script_lines.specs.Grammar.{most_sessions}
use Rattle.script_lines.specs.Scripts.{IsLawfulCommand, IsLawfulLine, HasRecordWithin, HaveRecordsWithin}
use Rattle.script_lines.proofs.RecordLaws.{script_within}
use Rattle.ask_core.specs.Answers.{IsAnswer}
use Rattle.edit_core.specs.Versions.{LogEntry}
use Rattle.edit_core.proofs.Logs.{version_unique, version_accepted}
use Rattle.solid_desk.specs.Legal.{IsLegal}
use Rattle.solid_desk.specs.Sessions.{session_lines, sessions_of}
use Rattle.solid_desk.proofs.LawfulBatches.{script_batches_lawful}
use Rattle.solid_desk.proofs.RepliesMean.{one_transcript, one_reply, question_means}
use Rattle.solid_desk.proofs.RunsLegal.{runs_legal}
use Rattle.solid_desk.specs.InOrder.{transcripts_of, IsRun}
use Rattle.solid_top.specs.declared.outputs.Output.{Output}
use Rattle.solid_top.specs.declared.statuses.Status.TheVariants as status
use Rattle.solid_top.specs.Output.{output_text}
use Rattle.solid_top.specs.Replay.{IsAnswerIn, IsLawfulText, IsReplay, IsReplayOutput, IsReplayed}
use Rattle.solid_top.proofs.ReplayLaws.{replay_once}
use Rattle.solid_top.proofs.RowLaws.{are_lawful}
use Rattle.solid_top.proofs.StepLaws.{test_not}

-- ---- the commands of the sessions

module _ (P : Command → Type 0) where
  all_if : (test : Bool) (c : Command) (cs : List Command) → P c → AllByRecursion P cs → AllByRecursion P (cond test (c ∷ cs) cs)
  all_if true c cs h k = (h, k)
  all_if false c cs h k = k

  pub session_all : (lines : List ScriptLine) (session : ℕ) → AllByRecursion (λ (l : ScriptLine). P l.command) lines → AllByRecursion P (session_lines lines session)
  session_all [] session h = tt
  session_all (l ∷ ls) session h = all_if (l.session == session) l.command (session_lines ls session) h.0 (session_all ls session h.1)

  one_of : (f : ℕ → List Command) (xs : List ℕ) (k : ℕ) (commands : List Command) → slice_get (map f xs) k ≡ Some commands → (x : ℕ) × (f x ≡ commands)
  one_of f [] k commands h = cc
  one_of f (x ∷ xs) zero commands h = (let same : f x ≡ commands = cc in (x, same))
  one_of f (x ∷ xs) (suc k) commands h = one_of f xs k commands h

  -- what holds of the commands of all lines holds of those of a session
  pub all_of_session : (lines : List ScriptLine) (session : ℕ) (commands : List Command) → AllByRecursion (λ (l : ScriptLine). P l.command) lines → slice_get (sessions_of lines) session ≡ Some commands
      → AllByRecursion P commands
  all_of_session lines session commands h stands =
      let (k, same) = one_of (session_lines lines) (range_with_len 0 (most_sessions + 1)) session commands stands in
      subst (λ (cs : List Command). AllByRecursion P cs) same (session_all lines k h)

  pub all_at : (commands : List Command) (place : ℕ) (c : Command) → AllByRecursion P commands → slice_get commands place ≡ Some c → P c
  all_at [] place c h there = cc
  all_at (x ∷ xs) zero c h there = (let same : x ≡ c = cc in subst (λ (v : Command). P v) same h.0)
  all_at (x ∷ xs) (suc place) c h there = all_at xs place c h.1 there

pub commands_lawful : (lines : List ScriptLine) → AllByRecursion IsLawfulLine lines → AllByRecursion (λ (l : ScriptLine). IsLawfulCommand l.command) lines
commands_lawful [] h = tt
commands_lawful (l ∷ ls) h = (h.0.1, commands_lawful ls h.1)

-- ---- the input of a replay

within_more : (m n : ℕ) (c : Command) → m ≤ n → HasRecordWithin m c → HasRecordWithin n c
within_more m n (command.Ask q live) less h = tt
within_more m n (command.Replace de r) less h = (h.0, omega (arith, less, h.1))
within_more m n (command.Add de r) less h = (h.0, omega (arith, less, h.1))
within_more m n (command.Drop de) less h = tt
within_more m n command.Commit less h = tt
within_more m n (command.Bad f) less h = tt

pub all_within_more : (m n : ℕ) (lines : List ScriptLine) → m ≤ n → HaveRecordsWithin m lines → HaveRecordsWithin n lines
all_within_more m n [] less h = tt
all_within_more m n (l ∷ ls) less h = (within_more m n l.command less h.0, all_within_more m n ls less h.1)

pub dropped_shorter : (n : ℕ) (bytes : List ℕ) → length (drop n bytes) ≤ length bytes
dropped_shorter zero bytes = omega arith
dropped_shorter (suc n) [] = omega arith
dropped_shorter (suc n) (b ∷ bs) = omega (arith, dropped_shorter n bs)

-- what holds of each input: the model is served, and the lines are in their ranges
abbrev pub IsLawfulInput : List ℕ → Type 0
IsLawfulInput bytes = (opening : Model) (lines : List ScriptLine) → IsReplay bytes opening lines → IsAccepted opening × AllByRecursion IsLawfulLine lines

-- where what is read is lawful
pub lawful_read : (bytes : List ℕ) (read : Model) (lines : List ScriptLine) → IsReplay bytes read lines → IsAccepted read → AllByRecursion IsLawfulLine lines → IsLawfulInput bytes
lawful_read bytes read lines is accepted all opening others h =
    let (same, here) = replay_once bytes read opening lines others is h in
    (subst (λ (m : Model). IsAccepted m) same accepted, subst (λ (xs : List ScriptLine). AllByRecursion IsLawfulLine xs) here all)

-- where the bytes are no file
pub lawful_refused : {E : Type 0} (result : Result Output E) (bytes : List ℕ) (f : FileFault) → Refused bytes f → IfOk result (λ out. IsLawfulInput bytes)
lawful_refused (Ok out) bytes f faulty = λ opening lines h. absurd (never_both bytes opening h.end f h.reads faulty)
lawful_refused (Err e) bytes f faulty = tt

module _ (bytes text : List ℕ) (few : length bytes ≤ 2 ^ 25) (input : IsLawfulInput bytes) (model : Model) (q : Question) (body : List ℕ) (h : IsAnswerIn bytes text model q body) where
  -- the rows of the model of a version are in their ranges
  pub rows_lawful : AllByRecursion (λ (e : Entity). IsLawfulRow e.row) model.rows
  rows_lawful =
      let r = h.reply in
      let (accepted, all) = input h.opening r.lines r.input in
      let shorter = dropped_shorter r.input.end bytes in
      let short = all_within_more (length (drop r.input.end bytes)) (2 ^ 25) r.lines (omega (arith, shorter, few)) (script_within (drop r.input.end bytes) r.lines r.input.script) in
      let served = version_accepted h.opening h.log h.version model accepted (script_batches_lawful h.opening r.lines h.log r.transcripts short r.lawful) h.names in
      are_lawful model.rows served.entities

  -- the numbers of the question are in their ranges
  pub asked_lawful : IsLawful q
  asked_lawful =
      let r = h.reply in
      let (accepted, all) = input h.opening r.lines r.input in
      let of_session = all_of_session IsLawfulCommand r.lines h.session r.commands (commands_lawful r.lines all) r.of_session in
      all_at IsLawfulCommand r.commands h.place (command.Ask q h.live) of_session r.line_is

  -- a reply that isn't that of a question that was given up is the answer on the version's model
  pub in_answer : ((later : ℕ) → body ≡ codes "CANCELLED " ++ decimal later → ⊥) → IsAnswer model q body
  in_answer not_cancelled =
      let r = h.reply in
      elim (question_means h.opening (sessions_of r.lines) h.log r.transcripts h.session h.place r.commands r.replies q h.live h.version body r.lawful r.of_session r.to_session r.line_is r.reply_is) [
        | inl answer ↦ (let same : answer.0 ≡ model = version_unique h.opening h.log h.version answer.0 model answer.1 h.names in
            subst (λ (m : Model). IsAnswer m q body) same answer.2)
        | inr given_up ↦ absurd (not_cancelled given_up.0 given_up.3)
      ]

-- a text that begins otherwise isn't that of a question that was given up
pub other_head : (byte : ℕ) (more words : List ℕ) → (byte == 67) ≡ false → byte ∷ more ≡ 67 ∷ words → ⊥
other_head byte more words other e = test_not byte 67 other (ap (λ (t : List ℕ). get_or t 0 0) e)

-- ---- each line has its reply

there : {X : Type 0} (xs : List X) (place : ℕ) → place < length xs → (x : X) × (slice_get xs place ≡ Some x)
there [] place within = absurd (omega (arith, within))
there (x ∷ xs) zero within = (x, refl)
there (x ∷ xs) (suc place) within = there xs place (omega (arith, within))

inside : {X : Type 0} (xs : List X) (place : ℕ) (x : X) → slice_get xs place ≡ Some x → place < length xs
inside [] place x h = cc
inside (y ∷ ys) zero x h = omega arith
inside (y ∷ ys) (suc place) x h = omega (arith, inside ys place x h)

-- the replies to a line of a lawful outcome
each_replied : (opening : Model) (lines : List ScriptLine) (log : List LogEntry) (transcripts : List (List Reply)) → IsLegal opening (sessions_of lines) log transcripts
    → (session place : ℕ) (commands : List Command) (c : Command) → slice_get (sessions_of lines) session ≡ Some commands → slice_get commands place ≡ Some c
    → (replies : List Reply) × (reply : Reply) × (slice_get transcripts session ≡ Some replies) × (slice_get replies place ≡ Some reply)
each_replied opening lines log transcripts legal session place commands c of_session line_is =
    let sizes = one_transcript opening (sessions_of lines) log transcripts legal in
    let (replies, to_session) = there transcripts session (omega (arith, sizes, inside (sessions_of lines) session commands of_session)) in
    let size = one_reply opening (sessions_of lines) log transcripts session commands replies legal of_session to_session in
    let (reply, reply_is) = there replies place (omega (arith, size, inside commands place c line_is)) in
    (replies, reply, to_session, reply_is)

pub lawful_text : (bytes : List ℕ) (out : Output) → IsReplayed bytes out.status out.text → IsLawfulInput bytes → out.status ≡ status.Done
    → (opening : Model) (lines : List ScriptLine) → IsReplay bytes opening lines → IsLawfulText opening lines out.text
lawful_text bytes out replayed input done opening lines is =
    let h : IsReplayOutput bytes out.text = rw done at replayed in
    let (same, here) = replay_once bytes h.opening opening h.lines lines h.input is in
    let run : IsRun opening lines h.outcomes h.log = subst (λ (xs : List ScriptLine). IsRun opening xs h.outcomes h.log) here (subst (λ (m : Model). IsRun m h.lines h.outcomes h.log) same h.run) in
    let legal = runs_legal opening lines h.outcomes h.log (input opening lines is).1 run in
    record {
      log = h.log;
      transcripts = transcripts_of lines h.outcomes;
      lawful = legal;
      printed = h.printed ∙ ap (λ (xs : List ScriptLine). output_text h.log (transcripts_of xs h.outcomes)) here;
      each_line = each_replied opening lines h.log (transcripts_of lines h.outcomes) legal;
    }

-- ---- results

-- a file that is refused isn't done
pub not_done : {E : Type 0} (result : Result Output E) (P : Output → Type 0) → IfOk result (λ out. out.status ≡ status.Refused) → IfOk result (λ out. out.status ≡ status.Done → P out)
not_done (Ok out) P is = λ done. (let other : status.Refused ≡ status.Done = sym is ∙ done in cc)
not_done (Err e) P is = tt

pub if_ok_then : {T E : Type 0} (result : Result T E) (P Q : T → Type 0) → ((x : T) → P x → Q x) → IfOk result P → IfOk result Q
if_ok_then (Ok x) P Q f p = f x p
if_ok_then (Err e) P Q f p = tt

pub if_ok_both : {T E : Type 0} (result : Result T E) (P R Q : T → Type 0) → ((x : T) → P x → R x → Q x) → IfOk result P → IfOk result R → IfOk result Q
if_ok_both (Ok x) P R Q f p r = f x p r
if_ok_both (Err e) P R Q f p r = tt
