-- What a session knows while others run beside it goes on line by line.
use Rattle.std.proofs.Common.{◌≡◌, ◌⊎◌, inl, inr, ℕ, suc, ◌+◌, ◌<◌, ◌≤◌, List, [], ◌∷◌, ◌++◌, length, refl, sym, ap, subst, ◌∙◌, append-nil, arith}
use Rattle.std.proofs.lemmas.List.{length-append}
use mathlib.Core.List.{IsPrefix}
use Rattle.solid_base.specs.declared.entities.Model.{Model}
use Rattle.solid_base.proofs.Slices.{prefix_trans}
use Rattle.script_lines.specs.declared.commands.Command.{Command}
use Rattle.script_lines.specs.declared.commands.Command.TheVariants as command
use Rattle.edit_core.specs.declared.changes.Change.TheVariants as change
use Rattle.edit_core.specs.Batches.{stage}
use Rattle.edit_core.specs.Versions.{LogEntry}
use Rattle.solid_desk.specs.Outcomes.{Outcome, bad_line, staged, refused, answered, no_memory}
use Rattle.solid_desk.specs.Sessions.{Standing, at_start, standing_from}
use Rattle.solid_desk.specs.Legal.{entry_at, IsOutcome}
use Rattle.solid_desk.specs.InOrder.{IsCommittedNow, IsDone}
use Rattle.solid_desk.specs.SideBySide.{made_by, committed_count, IsOutcomeBy, IsSessionBy, IsNewEntry}
use Rattle.solid_desk.proofs.LongerLogs.{outcome_stays, one_more}
use Rattle.solid_desk.proofs.RunsLegal.{lawful_outcome}

pub one_more_by : (opening : Model) (front after : List LogEntry) (seen later session : ℕ) (commands : List Command) (outcomes : List Outcome) (c : Command) (outcome : Outcome) → IsSessionBy opening front seen session commands outcomes
    → IsPrefix front after → seen ≤ later → IsOutcomeBy opening after later session (standing_from at_start commands outcomes) c outcome → IsSessionBy opening after later session (commands ++ c ∷ []) (outcomes ++ outcome ∷ [])
one_more_by opening front after seen later session commands outcomes c outcome h goes_on more came log begins long =
    one_more opening log session at_start commands outcomes c outcome (h log (prefix_trans front after log goes_on begins) (omega (arith, more, long))) (came log begins long)

pub count_more : (outcomes : List Outcome) (outcome : Outcome) → committed_count (outcomes ++ outcome ∷ []) ≡ committed_count outcomes + made_by outcome
count_more [] outcome = omega arith
count_more (first ∷ outcomes) outcome = let more = count_more outcomes outcome in omega (arith, more)

pub done_by : (opening : Model) (log after : List LogEntry) (session : ℕ) (at : Standing) (c : Command) (outcome : Outcome) → at.shown ≤ length log → IsDone opening log session at c outcome after
    → IsOutcomeBy opening after (length after) session at c outcome
done_by opening log after session at c outcome low done longest begins long =
    let there = lawful_outcome opening log session at low c outcome after done in
    subst (λ (l : List LogEntry). IsOutcome opening l session at c outcome) begins.1 (outcome_stays opening after begins.0 session at c outcome there)

-- ---- lines done on the newest version

module _ (opening : Model) (log : List LogEntry) (session : ℕ) (at : Standing) where
  -- the line made no version
  abbrev IsQuiet : Outcome → Type 0
  IsQuiet outcome = (made_by outcome ≡ 0) × IsNewEntry log outcome

  abbrev IsKept : Outcome → List LogEntry → Type 0
  IsKept outcome after = (after ≡ log) × IsQuiet outcome

  kept : (outcome one : Outcome) (after : List LogEntry) → outcome ≡ one → IsQuiet one → after ≡ log → IsKept outcome after
  kept outcome one after is quiet same = (same, subst IsQuiet (sym is) quiet)

  kept_or_made : (c : Command) (outcome : Outcome) (after : List LogEntry) → IsDone opening log session at c outcome after → IsKept outcome after ⊎ IsCommittedNow opening log session at outcome after
  kept_or_made c outcome after (inr passed) = inl (kept outcome no_memory after passed.0 (refl, tt) passed.1)
  kept_or_made (command.Ask q live) outcome after (inl h) = inl (kept outcome (answered (length log) h.0.body) after h.0.is (refl, tt) h.1)
  kept_or_made (command.Replace de r) outcome after (inl h) = inl (kept outcome (staged (length (stage at.batch de (change.Replace r)))) after h.0 (refl, tt) h.1)
  kept_or_made (command.Add de r) outcome after (inl h) = inl (kept outcome (staged (length (stage at.batch de (change.Add r)))) after h.0 (refl, tt) h.1)
  kept_or_made (command.Drop de) outcome after (inl h) = inl (kept outcome (staged (length (stage at.batch de change.Drop))) after h.0 (refl, tt) h.1)
  kept_or_made command.Commit outcome after (inl (inl h)) = inr h
  kept_or_made command.Commit outcome after (inl (inr h)) = inl (kept outcome (refused (length log) h.fault) after h.is (refl, tt) h.logged)
  kept_or_made (command.Bad f) outcome after (inl h) = inl (kept outcome (bad_line f) after h.0 (refl, tt) h.1)

  pub done_goes_on : (c : Command) (outcome : Outcome) (after : List LogEntry) → IsDone opening log session at c outcome after → IsPrefix log after × (length after ≡ length log + made_by outcome)
  done_goes_on c outcome after done = elim (kept_or_made c outcome after done) [
    | inl quiet ↦ (let size = ap length quiet.0 in let none = quiet.1.0 in
        (([], append-nil log ∙ sym quiet.0), omega (arith, size, none)))
    | inr h ↦ (let size = ap length h.logged in let one : made_by outcome ≡ 1 = ap made_by h.is in
        ((entry_at session at ∷ [], sym h.logged), omega (arith, size, one, length-append log (entry_at session at ∷ []))))
  ]

  pub done_new : (c : Command) (outcome : Outcome) (after : List LogEntry) → IsDone opening log session at c outcome after → IsNewEntry log outcome
  done_new c outcome after done = elim (kept_or_made c outcome after done) [
    | inl quiet ↦ quiet.1.1
    | inr h ↦ (let later : length log < suc (length log) = omega arith in subst (IsNewEntry log) (sym h.is) later)
  ]
