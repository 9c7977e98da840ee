-- A script whose lines are done in order has one run where there is memory.
use Rattle.std.proofs.Common.{◌≡◌, inl, inr, ℕ, List, [], ◌∷◌, length, refl, sym, ap, subst, ◌∙◌}
use Rattle.solid_base.specs.declared.entities.Model.{Model}
use Rattle.solid_questions.specs.declared.questions.Question.{Question}
use Rattle.script_lines.specs.declared.commands.Command.{Command}
use Rattle.script_lines.specs.declared.commands.Command.TheVariants as command
use Rattle.script_lines.specs.declared.commands.ScriptLine.{ScriptLine}
use Rattle.ask_core.specs.Answers.{IsAnswer}
use Rattle.ask_core.proofs.Exports.{one_answer_once}
use Rattle.edit_core.specs.Edits.{IsRefused, IsEdited}
use Rattle.edit_core.specs.Versions.{LogEntry}
use Rattle.edit_core.proofs.OneVersion.{fault_unique, refused_not_edited}
use Rattle.solid_desk.specs.Outcomes.{Outcome, answered, refused, no_memory}
use Rattle.solid_desk.specs.Sessions.{Standing}
use Rattle.solid_desk.specs.InOrder.{IsAnsweredNow, IsCommittedNow, IsRefusedNow, IsDoneNow, IsDone, all_at_start, standing_of, IsRunFrom, IsRun, HadMemory}
use Rattle.edit_core.proofs.Logs.{version_unique}
use Rattle.solid_desk.proofs.RunsLegal.{stand_after}

-- ---- one line

module _ (opening : Model) (log : List LogEntry) (session : ℕ) (at : Standing) (a b : Outcome) (x y : List LogEntry) where
  answered_same : (q : Question) → IsAnsweredNow opening log q a → IsAnsweredNow opening log q b → a ≡ b
  answered_same q h k =
      let model = version_unique opening log (length log) h.model k.model h.newest k.newest in
      let there = subst (λ (m : Model). IsAnswer m q h.body) model h.afresh in
      let body = one_answer_once k.model q h.body k.body there k.afresh in
      h.is ∙ ap (λ (t : List ℕ). answered (length log) t) body ∙ sym k.is

  refused_same : IsRefusedNow opening log at a x → IsRefusedNow opening log at b y → (a ≡ b) × (x ≡ y)
  refused_same h k =
      let model = version_unique opening log (length log) h.model k.model h.newest k.newest in
      let there = subst (λ (m : Model). IsRefused m (length log) at.batch h.fault) model h.first in
      let fault = fault_unique k.model (length log) at.batch h.fault k.fault there k.first in
      (h.is ∙ ap (λ f. refused (length log) f) fault ∙ sym k.is, h.logged ∙ sym k.logged)

  committed_same : IsCommittedNow opening log session at a x → IsCommittedNow opening log session at b y → (a ≡ b) × (x ≡ y)
  committed_same h k = (h.is ∙ sym k.is, h.logged ∙ sym k.logged)

-- a commit that is made has no fault
never_both : (opening : Model) (log : List LogEntry) (session : ℕ) (at : Standing) (a b : Outcome) (x y : List LogEntry) → IsCommittedNow opening log session at a x → IsRefusedNow opening log at b y → ⊥
never_both opening log session at a b x y h k =
    let model = version_unique opening log (length log) h.model k.model h.newest k.newest in
    let made = subst (λ (m : Model). IsEdited m (length log) at.batch h.edited) model h.made in
    refused_not_edited k.model (length log) at.batch k.fault h.edited k.first made

module _ (opening : Model) (log : List LogEntry) (session : ℕ) (at : Standing) where
  pub done_same : (c : Command) (a b : Outcome) (x y : List LogEntry) → IsDoneNow opening log session at c a x → IsDoneNow opening log session at c b y → (a ≡ b) × (x ≡ y)
  done_same (command.Ask q live) a b x y h k = (answered_same opening log session at a b x y q h.0 k.0, h.1 ∙ sym k.1)
  done_same (command.Replace de r) a b x y h k = (h.0 ∙ sym k.0, h.1 ∙ sym k.1)
  done_same (command.Add de r) a b x y h k = (h.0 ∙ sym k.0, h.1 ∙ sym k.1)
  done_same (command.Drop de) a b x y h k = (h.0 ∙ sym k.0, h.1 ∙ sym k.1)
  done_same command.Commit a b x y (inl h) (inl k) = committed_same opening log session at a b x y h k
  done_same command.Commit a b x y (inl h) (inr k) = absurd (never_both opening log session at a b x y h k)
  done_same command.Commit a b x y (inr h) (inl k) = absurd (never_both opening log session at b a y x k h)
  done_same command.Commit a b x y (inr h) (inr k) = refused_same opening log session at a b x y h k
  done_same (command.Bad f) a b x y h k = (h.0 ∙ sym k.0, h.1 ∙ sym k.1)

  pub with_memory : (c : Command) (a : Outcome) (x : List LogEntry) → (a ≡ no_memory → ⊥) → IsDone opening log session at c a x → IsDoneNow opening log session at c a x
  with_memory c a x had (inl now) = now
  with_memory c a x had (inr passed) = absurd (had passed.0)

-- ---- all lines

module _ (opening : Model) where
  run_same : (standings : List Standing) (log : List LogEntry) (lines : List ScriptLine) (outcomes others : List Outcome) (after rest : List LogEntry) → IsRunFrom opening standings log lines outcomes after
      → IsRunFrom opening standings log lines others rest → HadMemory outcomes → HadMemory others → (outcomes ≡ others) × (after ≡ rest)
  run_same standings log [] [] [] after rest h k had too = (refl, h ∙ sym k)
  run_same standings log [] [] (b ∷ others) after rest h k had too = absurd k
  run_same standings log [] (a ∷ outcomes) others after rest h k had too = absurd h
  run_same standings log (line ∷ lines) [] others after rest h k had too = absurd h
  run_same standings log (line ∷ lines) (a ∷ outcomes) [] after rest h k had too = absurd k
  run_same standings log (line ∷ lines) (a ∷ outcomes) (b ∷ others) after rest (x, done, run) (y, also, again) had too =
      let at = standing_of standings line.session in
      let now = with_memory opening log line.session at line.command a x had.0 done in
      let now_too = with_memory opening log line.session at line.command b y too.0 also in
      let (one, logs) = done_same opening log line.session at line.command a b x y now now_too in
      let on_log = subst (λ (l : List LogEntry). IsRunFrom opening (stand_after standings line b) l lines others rest) (sym logs) again in
      let on_both = subst (λ (o : Outcome). IsRunFrom opening (stand_after standings line o) x lines others rest) (sym one) on_log in
      let (more, ends) = run_same (stand_after standings line a) x lines outcomes others after rest run on_both had.1 too.1 in
      (ap (λ (o : Outcome). o ∷ outcomes) one ∙ ap (λ (os : List Outcome). b ∷ os) more, ends)

pub one_run : (opening : Model) (lines : List ScriptLine) (outcomes others : List Outcome) (log rest : List LogEntry) → IsRun opening lines outcomes log → IsRun opening lines others rest
    → HadMemory outcomes → HadMemory others → (outcomes ≡ others) × (log ≡ rest)
one_run opening lines outcomes others log rest run again had too = run_same opening all_at_start [] lines outcomes others log rest run again had too
