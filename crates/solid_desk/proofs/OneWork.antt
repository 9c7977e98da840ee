-- The lines of a run take one number of evaluations.
use Rattle.std.proofs.Common.{◌≡◌, inl, inr, ℕ, ◌+◌, List, [], ◌∷◌, ◌++◌, refl, sym, subst, ◌∙◌, arith}
use Rattle.solid_base.specs.declared.entities.Model.{Model}
use Rattle.solid_questions.specs.declared.questions.Question.{Question}
use Rattle.script_lines.specs.declared.commands.Command.{Command}
use Rattle.script_lines.specs.declared.commands.Command.TheVariants as command
use Rattle.script_lines.specs.declared.commands.ScriptLine.{ScriptLine}
use Rattle.ask_core.specs.Answers.{Evaluates}
use Rattle.ask_core.proofs.OneAnswer.{evaluates_some, evaluates_once}
use Rattle.edit_core.specs.Versions.{LogEntry}
use Rattle.solid_desk.specs.Outcomes.{Outcome, bad_line, staged, committed, refused, answered, cancelled, no_memory}
use Rattle.solid_desk.specs.Sessions.{Standing}
use Rattle.solid_desk.specs.InOrder.{IsAnsweredNow, IsDone, all_at_start, standing_of, IsRunFrom, IsRun}
use Rattle.solid_desk.specs.Work.{IsAskedWork, IsWork, AreWork}
use Rattle.edit_core.proofs.Logs.{version_stays, version_unique}
use Rattle.solid_desk.proofs.RunsLegal.{what_logged, what_follows, stand_after, run_longer}

-- ---- one number

both_none : (m n : ℕ) → m ≡ 0 → n ≡ 0 → m ≡ n
both_none m n h k = h ∙ sym k

module _ (opening : Model) (log : List LogEntry) where
  asked_once : (q : Question) (outcome : Outcome) (m n : ℕ) → IsAskedWork opening log q outcome m → IsAskedWork opening log q outcome n → m ≡ n
  asked_once q (answered version body) m n (a, is, work) (b, also, too) =
      let same = version_unique opening log version a b is also in
      evaluates_once b.rows q m n (subst (λ (x : Model). Evaluates x.rows q m) same work) too
  asked_once q (cancelled version later) m n h k = both_none m n h k
  asked_once q no_memory m n h k = both_none m n h k
  asked_once q (bad_line f) m n h k = both_none m n h k
  asked_once q (staged count) m n h k = both_none m n h k
  asked_once q (committed version) m n h k = both_none m n h k
  asked_once q (refused version f) m n h k = both_none m n h k

  line_once : (c : Command) (outcome : Outcome) (m n : ℕ) → IsWork opening log c outcome m → IsWork opening log c outcome n → m ≡ n
  line_once (command.Ask q live) outcome m n h k = asked_once q outcome m n h k
  line_once (command.Replace de r) outcome m n h k = both_none m n h k
  line_once (command.Add de r) outcome m n h k = both_none m n h k
  line_once (command.Drop de) outcome m n h k = both_none m n h k
  line_once command.Commit outcome m n h k = both_none m n h k
  line_once (command.Bad f) outcome m n h k = both_none m n h k

  pub work_once : (lines : List ScriptLine) (outcomes : List Outcome) (m n : ℕ) → AreWork opening log lines outcomes m → AreWork opening log lines outcomes n → m ≡ n
  work_once [] outcomes m n h k = both_none m n h k
  work_once (line ∷ lines) [] m n h k = both_none m n h k
  work_once (line ∷ lines) (outcome ∷ outcomes) m n (a, b, first, others, is) (c, d, first_too, others_too, also) =
      let one = line_once line.command outcome a c first first_too in
      let rest = work_once lines outcomes b d others others_too in
      omega (arith, is, also, one, rest)

-- ---- longer logs

module _ (opening : Model) (log rest : List LogEntry) where
  asked_work_stays : (q : Question) (outcome : Outcome) (n : ℕ) → IsAskedWork opening log q outcome n → IsAskedWork opening (log ++ rest) q outcome n
  asked_work_stays q (answered version body) n (model, is, work) = (model, version_stays opening log rest version model is, work)
  asked_work_stays q (cancelled version later) n h = h
  asked_work_stays q no_memory n h = h
  asked_work_stays q (bad_line f) n h = h
  asked_work_stays q (staged count) n h = h
  asked_work_stays q (committed version) n h = h
  asked_work_stays q (refused version f) n h = h

  pub work_stays : (c : Command) (outcome : Outcome) (n : ℕ) → IsWork opening log c outcome n → IsWork opening (log ++ rest) c outcome n
  work_stays (command.Ask q live) outcome n h = asked_work_stays q outcome n h
  work_stays (command.Replace de r) outcome n h = h
  work_stays (command.Add de r) outcome n h = h
  work_stays (command.Drop de) outcome n h = h
  work_stays command.Commit outcome n h = h
  work_stays (command.Bad f) outcome n h = h

-- ---- some number

module _ (opening : Model) (log : List LogEntry) (session : ℕ) (at : Standing) where
  answered_work : (q : Question) (outcome : Outcome) → IsAnsweredNow opening log q outcome → (n : ℕ) × IsAskedWork opening log q outcome n
  answered_work q outcome h =
      let (n, work) = evaluates_some h.model.rows q in
      (n, subst (λ (o : Outcome). IsAskedWork opening log q o n) (sym h.is) (h.model, h.newest, work))

  passed_work : (c : Command) → IsWork opening log c no_memory 0
  passed_work (command.Ask q live) = refl
  passed_work (command.Replace de r) = refl
  passed_work (command.Add de r) = refl
  passed_work (command.Drop de) = refl
  passed_work command.Commit = refl
  passed_work (command.Bad f) = refl

  pub line_some : (c : Command) (outcome : Outcome) (after : List LogEntry) → IsDone opening log session at c outcome after → (n : ℕ) × IsWork opening log c outcome n
  line_some c outcome after (inr passed) = (0, subst (λ (o : Outcome). IsWork opening log c o 0) (sym passed.0) (passed_work c))
  line_some (command.Ask q live) outcome after (inl h) = answered_work q outcome h.0
  line_some (command.Replace de r) outcome after (inl h) = (0, refl)
  line_some (command.Add de r) outcome after (inl h) = (0, refl)
  line_some (command.Drop de) outcome after (inl h) = (0, refl)
  line_some command.Commit outcome after (inl h) = (0, refl)
  line_some (command.Bad f) outcome after (inl h) = (0, refl)

module _ (opening : Model) where
  work_from : (standings : List Standing) (log : List LogEntry) (lines : List ScriptLine) (outcomes : List Outcome) (after : List LogEntry) → IsRunFrom opening standings log lines outcomes after → (n : ℕ) × AreWork opening after lines outcomes n
  work_from standings log [] [] after h = (0, refl)
  work_from standings log [] (outcome ∷ outcomes) after h = absurd h
  work_from standings log (line ∷ lines) [] after h = absurd h
  work_from standings log (line ∷ lines) (outcome ∷ outcomes) after (next, done, run) =
      let at = standing_of standings line.session in
      let (one, is) = what_follows opening log line.session at line.command outcome next (what_logged opening log line.session at line.command outcome next done) in
      let (rest, also) = run_longer opening (stand_after standings line outcome) next lines outcomes after run in
      let (n, work) = line_some opening log line.session at line.command outcome next done in
      let then = subst (λ (l : List LogEntry). IsWork opening l line.command outcome n) (sym is) (work_stays opening log one line.command outcome n work) in
      let there = subst (λ (l : List LogEntry). IsWork opening l line.command outcome n) (sym also) (work_stays opening next rest line.command outcome n then) in
      let (others, more) = work_from (stand_after standings line outcome) next lines outcomes after run in
      (n + others, (n, others, there, more, refl))

pub some_work : (opening : Model) (lines : List ScriptLine) (outcomes : List Outcome) (log : List LogEntry) → IsRun opening lines outcomes log → (n : ℕ) × AreWork opening log lines outcomes n
some_work opening lines outcomes log run = work_from opening all_at_start [] lines outcomes log run
