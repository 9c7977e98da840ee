-- How the lines of a script are done one after the other, and what a replay answers.
use Rattle.std.proofs.Common.{◌≡◌, inl, inr, ℕ, ◌+◌, ◌*◌, ◌<◌, ◌≤◌, List, [], ◌∷◌, ◌++◌, length, map, drop, get_or, set, replicate, refl, sym, ap, subst, ◌∙◌, arith, append_assoc, append-nil, length-append}
use Rattle.std.specs.List.{AllByRecursion}
use Rattle.solid_base.specs.declared.entities.Model.{Model}
use Rattle.solid_base.specs.Ledgers.{RisesUpTo}
use Rattle.memo_graph.specs.Memos.{Entry}
use Rattle.iges_file.specs.declared.faults.FileFault.{FileFault}
use Rattle.iges_file.specs.Files.{Reads, Refused}
use Rattle.iges_file.proofs.OneOutcome.{reads_once}
use Rattle.solid_questions.specs.Refusals.{most_evaluations}
use Rattle.script_lines.specs.declared.commands.Command.{Command}
use Rattle.script_lines.specs.declared.commands.Command.TheVariants as command
use Rattle.script_lines.specs.declared.commands.ScriptLine.{ScriptLine}
use Rattle.script_lines.specs.Grammar.{IsLine, most_sessions}
use Rattle.script_lines.specs.Lines.{kept_lines}
use Rattle.script_lines.specs.Reading.{line_in}
use Rattle.script_lines.specs.Scripts.{IsLawfulLine, IsScript}
use Rattle.script_lines.proofs.LineRead as lines_read
use Rattle.script_lines.proofs.OneLine.{lines_once}
use Rattle.edit_core.specs.Versions.{LogEntry}
use Rattle.ask_core.specs.Books.{BookFacts, IsBook}
use Rattle.solid_desk.specs.InOrder.{all_at_start, standing_of, IsDone, IsRun, IsRunFrom}
use Rattle.solid_desk.specs.Lines.{IsLineDone, AreCountedLines}
use Rattle.solid_desk.specs.Outcomes.{Outcome}
use Rattle.solid_desk.specs.Sessions.{Standing, standing_after}
use Rattle.solid_desk.proofs.CountedLines.{counted_none, counted_more, counted_most, counted_thrifty}
use Rattle.solid_top.specs.declared.sessions.Transcript.{Transcript}
use Rattle.solid_top.specs.Replay.{IsReplay, IsCountedRun, CountsReplay}
use Rattle.solid_top.specs.Sessions.{KeepAll, no_replies, with_reply}
use Rattle.solid_top.proofs.SessionLaws.{StandEach, keep_none, stand_none, keep_push, stand_push, kept_within}

-- ---- the lines of a script

-- bytes are one script
pub script_some : (bytes : List ℕ) → (lines : List ScriptLine) × IsScript bytes lines
script_some bytes = (map line_in (kept_lines bytes), lines_read.script_some bytes)

pub script_once : (bytes : List ℕ) (a b : List ScriptLine) → IsScript bytes a → IsScript bytes b → a ≡ b
script_once bytes a b h k = lines_once (kept_lines bytes) a b h k

-- a line in front of those after it
pub next_line : (rest left text : List ℕ) (line : ScriptLine) → kept_lines rest ≡ text ∷ kept_lines left → IsLine text line
    → (after : List ScriptLine) → IsScript left after → IsScript rest (line ∷ after)
next_line rest left text line kept is after more = lines_read.one_more rest left text line after kept is more

-- ---- one line

-- a line adds one entry at most to the log
pub record Longer (log after : List LogEntry) : Type 0 where
  pub rest : List LogEntry
  pub is : after ≡ log ++ rest
  pub one : length rest ≤ 1

no_longer : (log after : List LogEntry) → after ≡ log → Longer log after
no_longer log after same = record { rest = []; is = same ∙ sym (append-nil log); one = omega arith }

pub longer : (opening : Model) (log : List LogEntry) (session : ℕ) (at : Standing) (c : Command) (outcome : Outcome) (after : List LogEntry)
    → IsDone opening log session at c outcome after → Longer log after
longer opening log session at c outcome after (inr passed) = no_longer log after passed.1
longer opening log session at (command.Ask q live) outcome after (inl h) = no_longer log after h.1
longer opening log session at (command.Replace de r) outcome after (inl h) = no_longer log after h.1
longer opening log session at (command.Add de r) outcome after (inl h) = no_longer log after h.1
longer opening log session at (command.Drop de) outcome after (inl h) = no_longer log after h.1
longer opening log session at command.Commit outcome after (inl (inl h)) = record { rest = _; is = h.logged; one = omega arith }
longer opening log session at command.Commit outcome after (inl (inr h)) = no_longer log after h.logged
longer opening log session at (command.Bad f) outcome after (inl h) = no_longer log after h.1

-- ---- lists of lines

lawful_push : (lines : List ScriptLine) (line : ScriptLine) → AllByRecursion IsLawfulLine lines → IsLawfulLine line → AllByRecursion IsLawfulLine (lines ++ line ∷ [])
lawful_push [] line h k = (k, tt)
lawful_push (l ∷ ls) line h k = (h.0, lawful_push ls line h.1 k)

-- no line more, and one line more
pub none_more : (ticks : ℕ) → RisesUpTo ticks ticks (length {A = ScriptLine} [] * most_evaluations)
none_more ticks = (omega arith, omega arith)

pub one_more : (line : ScriptLine) (ticks now : ℕ) → RisesUpTo ticks now most_evaluations → RisesUpTo ticks now (length (line ∷ []) * most_evaluations)
one_more line ticks now h = (h.0, omega (arith, h.1))

-- ---- the lines so far

-- the lines before the rest of a script are done, and their replies kept and counted
pub record Gathered (opening : Model) (script rest : List ℕ) (book : BookFacts) (sessions : List Transcript) (start ticks : ℕ) : Type 0 where
  pub lines : List ScriptLine
  pub outcomes : List Outcome
  pub standings : List Standing
  pub begins : (after : List ScriptLine) → IsScript rest after → IsScript script (lines ++ after)
  pub same : book.opening ≡ opening
  pub runs : (after : List ScriptLine) (outs : List Outcome) (final : List LogEntry) → IsRunFrom opening standings book.log after outs final → IsRun opening (lines ++ after) (outcomes ++ outs) final
  pub one_each : length lines ≡ length outcomes
  pub counted : AreCountedLines book.opening book.log book.memo.entries lines outcomes start ticks
  pub most : RisesUpTo start ticks (length lines * most_evaluations)
  pub few : length lines + length rest ≤ length script
  pub short : length book.log ≤ length lines
  pub lawful : AllByRecursion IsLawfulLine lines
  pub kept : KeepAll sessions lines outcomes
  pub stand : StandEach sessions standings

pub gathered_none : (script : List ℕ) (book : BookFacts) (sessions : List Transcript) (start : ℕ) → book.log ≡ [] → book.memo.entries ≡ [] → sessions ≡ replicate (most_sessions + 1) no_replies
    → Gathered book.opening script script book sessions start start
gathered_none script book sessions start empty fresh same = record {
  lines = [];
  outcomes = [];
  standings = all_at_start;
  begins = λ after is. is;
  same = refl;
  runs = λ after outs final h. subst (λ (log : List LogEntry). IsRunFrom book.opening all_at_start log after outs final) empty h;
  one_each = refl;
  counted = subst (λ (log : List LogEntry). AreCountedLines book.opening log book.memo.entries [] [] start start) (sym empty)
      (subst (λ (entries : List Entry). AreCountedLines book.opening [] entries [] [] start start) (sym fresh) (counted_none book.opening start));
  most = (omega arith, omega arith);
  few = omega arith;
  short = omega (arith, ap (length {A = LogEntry}) empty);
  lawful = tt;
  kept = keep_none sessions same;
  stand = stand_none sessions same;
}

module _ (opening : Model) (script rest : List ℕ) (book : BookFacts) (sessions : List Transcript) (start ticks : ℕ) (g : Gathered opening script rest book sessions start ticks) where
  -- the run of the lines so far
  pub gathered_run : IsRun opening g.lines g.outcomes book.log
  gathered_run = subst (λ (xs : List ScriptLine). IsRun opening xs g.outcomes book.log) (append-nil g.lines)
      (subst (λ (os : List Outcome). IsRun opening (g.lines ++ []) os book.log) (append-nil g.outcomes) (g.runs [] [] book.log refl))

  -- one line more
  pub gathered_push : (left : List ℕ) (now : BookFacts) (new : List Transcript) (count_now : ℕ) (line : ScriptLine) (after : Standing) (text : List ℕ)
      → ((more : List ScriptLine) → IsScript left more → IsScript rest (line ∷ more)) → length left < length rest → IsLawfulLine line → IsBook book
      → IsLineDone book now line.session (get_or sessions line.session no_replies).stands after line.command text ticks count_now
      → new ≡ set sessions line.session (with_reply (get_or sessions line.session no_replies) after text)
      → RisesUpTo ticks count_now most_evaluations
      → Gathered opening script left now new start count_now
  gathered_push left now new count_now line after text next shorter lawful valid d put rises =
      let within : line.session < most_sessions + 1 = omega (arith, lawful.0) in
      let at = (get_or sessions line.session no_replies).stands in
      let done : IsDone opening book.log line.session (standing_of g.standings line.session) line.command d.outcome now.log =
      subst (λ (m : Model). IsDone m book.log line.session (standing_of g.standings line.session) line.command d.outcome now.log) g.same
      (subst (λ (s : Standing). IsDone book.opening book.log line.session s line.command d.outcome now.log) (g.stand.stand line.session within) d.done) in
      let grown = longer opening book.log line.session (standing_of g.standings line.session) line.command d.outcome now.log done in
      let size_of_log : length now.log ≡ length book.log + length grown.rest = ap (length {A = LogEntry}) grown.is ∙ length-append book.log grown.rest in
      record {
        lines = g.lines ++ line ∷ [];
        outcomes = g.outcomes ++ d.outcome ∷ [];
        standings = set g.standings line.session (standing_after (standing_of g.standings line.session) line.command d.outcome);
        begins = λ more h. subst (λ (xs : List ScriptLine). IsScript script xs) (sym (append_assoc g.lines (line ∷ []) more)) (g.begins (line ∷ more) (next more h));
        same = d.opening ∙ g.same;
        runs = λ more outs final h. subst (λ (xs : List ScriptLine). IsRun opening xs ((g.outcomes ++ d.outcome ∷ []) ++ outs) final) (sym (append_assoc g.lines (line ∷ []) more))
            (subst (λ (os : List Outcome). IsRun opening (g.lines ++ line ∷ more) os final) (sym (append_assoc g.outcomes (d.outcome ∷ []) outs))
            (g.runs (line ∷ more) (d.outcome ∷ outs) final (now.log, done, h)));
        one_each = omega (arith, g.one_each, length-append g.lines (line ∷ []), length-append g.outcomes (d.outcome ∷ []));
        counted = counted_more book now g.lines g.outcomes line at after text start ticks count_now valid g.one_each g.counted d;
        most = (let size = length-append g.lines (line ∷ []) in (omega (arith, g.most.0, rises.0), omega (arith, g.most.1, rises.1, size)));
        few = omega (arith, g.few, shorter, length-append g.lines (line ∷ []));
        short = omega (arith, g.short, size_of_log, grown.one, length-append g.lines (line ∷ []));
        lawful = lawful_push g.lines line g.lawful lawful;
        kept = keep_push sessions new line after text g.kept.size within put g.lines g.outcomes d.outcome g.one_each g.kept d.reply;
        stand = stand_push sessions new line after text g.kept.size within put g.standings line.command d.outcome g.stand d.stands;
      }

  -- as many evaluations as may be made for all lines, where one more line may have been done
  pub within_most : (more : List ScriptLine) (left : List ℕ) (now : ℕ) → ((after : List ScriptLine) → IsScript left after → IsScript rest (more ++ after))
      → RisesUpTo ticks now (length more * most_evaluations) → (all : List ScriptLine) → IsScript script all → RisesUpTo start now (length all * most_evaluations)
  within_most more left now next rises all whole =
      let (after, is) = script_some left in
      let same : all ≡ g.lines ++ (more ++ after) = script_once script all (g.lines ++ (more ++ after)) whole (g.begins (more ++ after) (next after is)) in
      let size : length all ≡ length g.lines + (length more + length after) = ap (length {A = ScriptLine}) same ∙ length-append g.lines (more ++ after) ∙ ap (λ (n : ℕ). length g.lines + n) (length-append more after) in
      (omega (arith, g.most.0, rises.0), omega (arith, g.most.1, rises.1, size))

  -- no session has more lines than the script has bytes
  pub gathered_room : (k : ℕ) → k < most_sessions + 1 → (get_or sessions k no_replies).count ≤ length script
  gathered_room k within = omega (arith, kept_within sessions g.lines g.outcomes k g.kept within, g.few)

  -- the end of the script
  pub gathered_all : IsScript rest [] → IsScript script g.lines
  gathered_all end = subst (λ (xs : List ScriptLine). IsScript script xs) (append-nil g.lines) (g.begins [] end)

  pub gathered_counted : IsBook book → IsCountedRun opening book.log g.lines g.outcomes start ticks
  gathered_counted valid = subst (λ (m : Model). IsCountedRun m book.log g.lines g.outcomes start ticks) g.same (record {
    most = λ had work are. counted_most book g.lines g.outcomes start ticks work g.counted had are;
    thrifty = λ had keys few hold. counted_thrifty book g.lines g.outcomes start ticks keys valid g.counted had few hold;
  })

-- ---- a replay

-- bytes are a file of one model and a script with one list of lines
pub replay_once : (bytes : List ℕ) (model other : Model) (lines others : List ScriptLine) → IsReplay bytes model lines → IsReplay bytes other others → (model ≡ other) × (lines ≡ others)
replay_once bytes model other lines others h k =
    let (same, end) = reads_once bytes model other h.end k.end h.reads k.reads in
    (same, script_once (drop h.end bytes) lines others h.script (subst (λ (n : ℕ). IsScript (drop n bytes) others) (sym end) k.script))

-- ---- how evaluations are counted

-- where the bytes are refused as a file
pub counts_none : (bytes : List ℕ) (f : FileFault) (count : ℕ) → Refused bytes f → CountsReplay bytes count count
counts_none bytes f count faulty = record {
  never_falls = omega arith;
  most = λ model lines is. (omega arith, omega arith);
  none = λ other. refl;
}

-- by what is counted for each list of lines that is the script
pub counts_lines : (bytes : List ℕ) (model : Model) (end old new : ℕ) → Reads bytes model end
    → ((lines : List ScriptLine) → IsScript (drop end bytes) lines → RisesUpTo old new (length lines * most_evaluations)) → CountsReplay bytes old new
counts_lines bytes model end old new reads most =
    let (all, script) = script_some (drop end bytes) in
    let is : IsReplay bytes model all = record { end = end; reads = reads; script = script } in
    let rises = most all script in
    record {
      never_falls = rises.0;
      most = λ other lines h. (let (same, here) = replay_once bytes model other all lines is h in
          subst (λ (xs : List ScriptLine). RisesUpTo old new (length xs * most_evaluations)) here rises);
      none = λ other. absurd (other model all is);
    }
