-- What is due to bytes in a replay is one status and one text, where there is memory for each line.
use Rattle.std.proofs.Common.{◌≡◌, ◌⊎◌, inl, inr, ℕ, List, [], ◌∷◌, drop, refl, sym, ap, subst, ◌∙◌}
use Rattle.solid_base.specs.declared.entities.Model.{Model}
use Rattle.iges_file.proofs.OneOutcome.{never_both, one_of_both}
use Rattle.script_lines.specs.declared.commands.ScriptLine.{ScriptLine}
use Rattle.edit_core.specs.Versions.{LogEntry}
use Rattle.solid_desk.specs.InOrder.{IsRun, HadMemory, transcripts_of}
use Rattle.solid_desk.specs.Outcomes.{Outcome, bad_line, staged, committed, refused, answered, cancelled, no_memory}
use Rattle.solid_desk.proofs.OneRun.{one_run}
use Rattle.solid_desk.proofs.SomeRun.{some_run}
use Rattle.solid_top.specs.declared.faults.TopFault.TheVariants as fault
use Rattle.solid_top.specs.declared.statuses.Status.{Status}
use Rattle.solid_top.specs.declared.statuses.Status.TheVariants as status
use Rattle.solid_top.specs.Output.{output_text}
use Rattle.solid_top.specs.Replay.{IsDueReplay, IsLackingReplay, IsReplayOutput, IsReplayed, IsWholeReplay}
use Rattle.solid_top.specs.TopFaults.{IsRefusal, refused_text}
use Rattle.solid_top.proofs.CheckLaws.{refusal_once}
use Rattle.solid_top.proofs.ReplayLaws.{replay_once, script_some}
use Rattle.solid_top.proofs.StatusLaws.{answered_once}

whole_once : (bytes a b : List ℕ) → IsWholeReplay bytes a → IsWholeReplay bytes b → a ≡ b
whole_once bytes a b x y =
    let h = x.output in
    let k = y.output in
    let (same, lines) = replay_once bytes h.opening k.opening h.lines k.lines h.input k.input in
    let run : IsRun k.opening k.lines h.outcomes h.log =
    subst (λ (xs : List ScriptLine). IsRun k.opening xs h.outcomes h.log) lines (subst (λ (m : Model). IsRun m h.lines h.outcomes h.log) same h.run) in
    let (outcomes, log) = one_run k.opening k.lines h.outcomes k.outcomes h.log k.log run k.run x.memory y.memory in
    h.printed ∙ ap (λ (xs : List ScriptLine). output_text h.log (transcripts_of xs h.outcomes)) lines
    ∙ ap (λ (os : List Outcome). output_text h.log (transcripts_of k.lines os)) outcomes
    ∙ ap (λ (l : List LogEntry). output_text l (transcripts_of k.lines k.outcomes)) log ∙ sym k.printed

-- no bytes have an output and are refused
pub output_or_refusal : (bytes a b : List ℕ) → IsReplayOutput bytes a → IsRefusal bytes b → ⊥
output_or_refusal bytes a b h (f, faulty, e) = never_both bytes h.opening h.input.end f h.input.reads faulty

-- one status and one text are due to bytes
pub due_replay_once : (bytes : List ℕ) (s t : Status) (a b : List ℕ) → IsDueReplay bytes s a → IsDueReplay bytes t b → (s ≡ t) × (a ≡ b)
due_replay_once bytes =
    answered_once (IsWholeReplay bytes) (IsRefusal bytes) (whole_once bytes) (refusal_once bytes) (λ a b h refusal. output_or_refusal bytes a b h.output refusal)

-- some status and text are due to bytes
pub due_replay_some : (bytes : List ℕ) → (s : Status) × (text : List ℕ) × IsDueReplay bytes s text
due_replay_some bytes =
    elim (one_of_both bytes) [
      | inl read ↦ (let (lines, script) = script_some (drop read.1 bytes) in
          let (outcomes, log, run, memory) = some_run read.0 lines in (
            status.Done,
            output_text log (transcripts_of lines outcomes),
            record {
              output = record {
                opening = read.0;
                lines = lines;
                outcomes = outcomes;
                log = log;
                input = record { end = read.1; reads = read.2; script = script };
                run = run;
                printed = refl;
              };
              memory = memory;
            },
          ))
      | inr faulty ↦ (status.Refused, refused_text (fault.File faulty.0), (faulty.0, faulty.1, refl))
    ]

-- what is due may be answered
pub due_replayed : (bytes : List ℕ) (s : Status) (text : List ℕ) → IsDueReplay bytes s text → IsReplayed bytes s text
due_replayed bytes status.Done text h = h.output
due_replayed bytes status.Refused text h = h
due_replayed bytes status.Usage text h = absurd h
due_replayed bytes status.Memory text h = absurd h
due_replayed bytes status.ReadFault text h = absurd h
due_replayed bytes status.WriteFault text h = absurd h
due_replayed bytes status.TooLong text h = absurd h

-- ---- where there was memory for each line, or for some not

lacks_or_had : (outcome : Outcome) → (outcome ≡ no_memory) ⊎ (outcome ≡ no_memory → ⊥)
lacks_or_had no_memory = inl refl
lacks_or_had (bad_line f) = inr (λ e. cc)
lacks_or_had (staged count) = inr (λ e. cc)
lacks_or_had (committed version) = inr (λ e. cc)
lacks_or_had (refused version f) = inr (λ e. cc)
lacks_or_had (answered version body) = inr (λ e. cc)
lacks_or_had (cancelled version later) = inr (λ e. cc)

had_or_not : (outcomes : List Outcome) → HadMemory outcomes ⊎ (HadMemory outcomes → ⊥)
had_or_not [] = inl tt
had_or_not (o ∷ os) = go (lacks_or_had o) (had_or_not os) where
  go : (o ≡ no_memory) ⊎ (o ≡ no_memory → ⊥) → HadMemory os ⊎ (HadMemory os → ⊥) → HadMemory (o ∷ os) ⊎ (HadMemory (o ∷ os) → ⊥)
  go (inl lacked) more = inr (λ h. h.0 lacked)
  go (inr had) (inl all) = inl (had, all)
  go (inr had) (inr some) = inr (λ h. some h.1)

-- the output of a replay is the one that is due, or says for which lines there wasn't memory
pub whole_or_lacking : (bytes text : List ℕ) → IsReplayOutput bytes text → IsWholeReplay bytes text ⊎ IsLackingReplay bytes text
whole_or_lacking bytes text h =
    elim (had_or_not h.outcomes) [
      | inl all ↦ inl (record { output = h; memory = all })
      | inr some ↦ inr (record { output = h; lacking = some })
    ]
