-- The generated input has one output, where there is memory for each line.
use Rattle.std.proofs.Common.{◌≡◌, ◌≤◌, ℕ, List, length, drop, refl, sym, ap, subst, ◌∙◌}
use Rattle.std.specs.List.{count_by}
use Rattle.iges_write.specs.CanonicalFile.{canonical_text}
use Rattle.script_lines.specs.declared.commands.ScriptLine.{ScriptLine}
use Rattle.edit_core.specs.Versions.{LogEntry}
use Rattle.solid_desk.specs.InOrder.{IsRun}
use Rattle.solid_desk.specs.Outcomes.{Outcome}
use Rattle.solid_desk.proofs.OneRun.{one_run}
use Rattle.solid_desk.proofs.SomeRun.{some_run}
use Rattle.solid_top.specs.Load.{IsLoadOutput, load_text, has_words, begins_with, inside_words, outside_words, undecided_words}
use Rattle.solid_top.specs.LoadInput.{load_bytes, load_model}
use Rattle.solid_top.proofs.LoadBytes.{load_reads}
use Rattle.solid_top.proofs.ReplayLaws.{replay_once, script_some}

-- the text of these outcomes and this log
abbrev text_of : ℕ → List Outcome → List LogEntry → List ℕ
text_of n outcomes log =
    load_text n (count_by (has_words inside_words) outcomes) (count_by (has_words outside_words) outcomes)
    (count_by (begins_with undecided_words) outcomes) (length log)

pub load_once : (n : ℕ) (a b : List ℕ) → IsLoadOutput n a → IsLoadOutput n b → a ≡ b
load_once n a b h k =
    let model = load_model n in
    let (same, lines) = replay_once (load_bytes n) model model h.lines k.lines h.input k.input in
    let run : IsRun model k.lines h.outcomes h.log = subst (λ (xs : List ScriptLine). IsRun model xs h.outcomes h.log) lines h.run in
    let (outcomes, log) = one_run model k.lines h.outcomes k.outcomes h.log k.log run k.run h.memory k.memory in
    h.printed ∙ ap (λ (os : List Outcome). text_of n os h.log) outcomes ∙ ap (text_of n k.outcomes) log ∙ sym k.printed

pub load_some : (n : ℕ) → 1 ≤ n → n ≤ 1000 → (text : List ℕ) × IsLoadOutput n text
load_some n some few =
    let model = load_model n in
    let end = length (canonical_text model) in
    let (lines, script) = script_some (drop end (load_bytes n)) in
    let (outcomes, log, run, memory) = some_run model lines in (
      text_of n outcomes log,
      record {
        lines = lines;
        outcomes = outcomes;
        log = log;
        input = record { end = end; reads = load_reads n some few; script = script };
        run = run;
        memory = memory;
        printed = refl;
      },
    )
