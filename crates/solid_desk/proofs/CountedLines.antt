-- How often lines evaluate that are done one after the other over one book.
use Rattle.std.proofs.Common.{◌≡◌, ◌≢◌, inl, inr, ℕ, ◌+◌, ◌≤◌, List, [], ◌∷◌, ◌++◌, length, refl, sym, subst, ◌∙◌, append-nil, arith}
use Rattle.solid_base.specs.declared.entities.Model.{Model}
use Rattle.solid_base.proofs.Slices.{prefix_trans}
use Rattle.solid_questions.specs.declared.questions.Question.{Question}
use Rattle.memo_graph.specs.declared.key.Key.{Key}
use Rattle.memo_graph.specs.Memos.{Entry}
use Rattle.script_lines.specs.declared.commands.Command.{Command}
use Rattle.script_lines.specs.declared.commands.Command.TheVariants as command
use Rattle.script_lines.specs.declared.commands.ScriptLine.{ScriptLine}
use Rattle.edit_core.specs.Versions.{LogEntry, Version, IsVersionOf}
use Rattle.ask_core.specs.Books.{BookFacts, IsBook, memo_capacity}
use Rattle.ask_core.specs.Thrift.{HoldEntries, EachIsKept}
use Rattle.ask_core.proofs.ThriftyRounds.{no_longer}
use Rattle.solid_desk.specs.InOrder.{IsDone, HadMemory}
use Rattle.solid_desk.specs.Lines.{HoldLineUses, HoldAskedUses, HoldCommandUses, HoldRunUses, IsLineDone, AreCountedLines}
use Rattle.solid_desk.specs.Outcomes.{Outcome, bad_line, staged, committed, refused, answered, cancelled, no_memory}
use Rattle.solid_desk.specs.Sessions.{Standing}
use Rattle.solid_desk.specs.Work.{IsWork, AreWork}
use Rattle.solid_desk.proofs.OneWork.{work_stays, work_once, line_some}
use Rattle.solid_desk.proofs.RunsLegal.{what_logged, what_follows}

-- ---- longer logs

module _ (opening : Model) (log rest : List LogEntry) where
  all_work_stays : (lines : List ScriptLine) (outcomes : List Outcome) (n : ℕ) → AreWork opening log lines outcomes n → AreWork opening (log ++ rest) lines outcomes n
  all_work_stays [] outcomes n h = h
  all_work_stays (line ∷ lines) [] n h = h
  all_work_stays (line ∷ lines) (outcome ∷ outcomes) n (first, others, one, more, is) =
      (first, others, work_stays opening log rest line.command outcome first one, all_work_stays lines outcomes others more, is)

  -- keys that hold the uses of a question by a longer log hold them by this one
  asked_before : (keys : List Key) (q : Question) (outcome : Outcome) → HoldAskedUses opening (log ++ rest) keys q outcome → HoldAskedUses opening log keys q outcome
  asked_before keys q (answered version body) h = λ front table starts. h front table (prefix_trans front log (log ++ rest) starts (rest, refl))
  asked_before keys q (cancelled version later) h = tt
  asked_before keys q no_memory h = tt
  asked_before keys q (bad_line f) h = tt
  asked_before keys q (staged count) h = tt
  asked_before keys q (committed version) h = tt
  asked_before keys q (refused version f) h = tt

  command_before : (keys : List Key) (c : Command) (outcome : Outcome) → HoldCommandUses opening (log ++ rest) keys c outcome → HoldCommandUses opening log keys c outcome
  command_before keys (command.Ask q live) outcome h = asked_before keys q outcome h
  command_before keys (command.Replace de r) outcome h = tt
  command_before keys (command.Add de r) outcome h = tt
  command_before keys (command.Drop de) outcome h = tt
  command_before keys command.Commit outcome h = tt
  command_before keys (command.Bad f) outcome h = tt

  run_before : (keys : List Key) (lines : List ScriptLine) (outcomes : List Outcome) → HoldRunUses opening (log ++ rest) keys lines outcomes → HoldRunUses opening log keys lines outcomes
  run_before keys [] outcomes h = tt
  run_before keys (line ∷ lines) [] h = tt
  run_before keys (line ∷ lines) (outcome ∷ outcomes) h = (command_before keys line.command outcome h.0, run_before keys lines outcomes h.1)

-- ---- one line more at the end

module _ (opening : Model) (log : List LogEntry) (line : ScriptLine) (outcome : Outcome) where
  work_pushed : (lines : List ScriptLine) (outcomes : List Outcome) (m n : ℕ) → length lines ≡ length outcomes → AreWork opening log lines outcomes m → IsWork opening log line.command outcome n
      → AreWork opening log (lines ++ line ∷ []) (outcomes ++ outcome ∷ []) (m + n)
  work_pushed [] [] m n size works one = (n, 0, one, refl, omega (arith, works))
  work_pushed [] (o ∷ os) m n size works one = absurd (omega (arith, size))
  work_pushed (l ∷ ls) [] m n size works one = absurd (omega (arith, size))
  work_pushed (l ∷ ls) (o ∷ os) m n size (first, others, a, b, is) one =
      (first, others + n, a, work_pushed ls os others n (omega (arith, size)) b one, omega (arith, is))

  uses_pushed : (keys : List Key) (lines : List ScriptLine) (outcomes : List Outcome) → length lines ≡ length outcomes → HoldRunUses opening log keys (lines ++ line ∷ []) (outcomes ++ outcome ∷ [])
      → HoldRunUses opening log keys lines outcomes × HoldCommandUses opening log keys line.command outcome
  uses_pushed keys [] [] size h = (tt, h.0)
  uses_pushed keys [] (o ∷ os) size h = absurd (omega (arith, size))
  uses_pushed keys (l ∷ ls) [] size h = absurd (omega (arith, size))
  uses_pushed keys (l ∷ ls) (o ∷ os) size h = (let more = uses_pushed keys ls os (omega (arith, size)) h.1 in ((h.0, more.0), more.1))

memory_pushed : (outcomes : List Outcome) (outcome : Outcome) → HadMemory (outcomes ++ outcome ∷ []) → HadMemory outcomes × (outcome ≢ no_memory)
memory_pushed [] outcome h = (tt, h.0)
memory_pushed (o ∷ os) outcome h = (let more = memory_pushed os outcome h.1 in ((h.0, more.0), more.1))

-- ---- one line

-- keys that hold the uses of a line by the log after it hold those that it takes there
line_uses : (opening : Model) (log after : List LogEntry) (table : Version) (session : ℕ) (at : Standing) (c : Command) (outcome : Outcome) (keys : List Key) → IsVersionOf opening log table
    → IsDone opening log session at c outcome after → outcome ≢ no_memory → HoldCommandUses opening after keys c outcome → HoldLineUses keys table c
line_uses opening log after table session at (command.Ask q live) outcome keys version (inl h) memory held =
    let now = subst (λ (o : Outcome). HoldAskedUses opening after keys q o) h.0.is held in
    now log table ([], append-nil log ∙ sym h.1) refl version
line_uses opening log after table session at (command.Ask q live) outcome keys version (inr passed) memory held = absurd (memory passed.0)
line_uses opening log after table session at (command.Replace de r) outcome keys version done memory held = tt
line_uses opening log after table session at (command.Add de r) outcome keys version done memory held = tt
line_uses opening log after table session at (command.Drop de) outcome keys version done memory held = tt
line_uses opening log after table session at command.Commit outcome keys version done memory held = tt
line_uses opening log after table session at (command.Bad f) outcome keys version done memory held = tt

kept_on : (keys : List Key) (entries more : List Entry) (first before count : ℕ) → EachIsKept keys [] entries first before → EachIsKept keys entries more before count → EachIsKept keys [] more first count
kept_on keys entries more first before count a b = record {
  held = b.held;
  each = let x = a.each in let y = b.each in omega (arith, x, y);
}

pub counted_none : (opening : Model) (count : ℕ) → AreCountedLines opening [] [] [] [] count count
counted_none opening count = record {
  work = 0;
  works = refl;
  most = λ memory. omega arith;
  thrifty = λ memory keys few held. record { held = λ entry there. absurd (omega (arith, there.1)); each = omega arith };
}

module _ (opening : Model) (log after : List LogEntry) (table : Version) (entries more : List Entry) (line : ScriptLine) (at : Standing) (outcome : Outcome) (before count : ℕ)
    (version : IsVersionOf opening log table) (done : IsDone opening log line.session at line.command outcome after)
    (most : outcome ≢ no_memory → (n : ℕ) → IsWork opening after line.command outcome n → count ≤ before + n)
    (thrifty : outcome ≢ no_memory → (keys : List Key) → length keys ≤ memo_capacity → HoldEntries keys entries → HoldLineUses keys table line.command → EachIsKept keys entries more before count) where
  counted_line : (lines : List ScriptLine) (outcomes : List Outcome) (first : ℕ) → length lines ≡ length outcomes → AreCountedLines opening log entries lines outcomes first before
      → AreCountedLines opening after more (lines ++ line ∷ []) (outcomes ++ outcome ∷ []) first count
  counted_line lines outcomes first size so_far =
      let (rest, is) = what_follows opening log line.session at line.command outcome after (what_logged opening log line.session at line.command outcome after done) in
      let (n, one) = line_some opening log line.session at line.command outcome after done in
      let now = subst (λ (l : List LogEntry). IsWork opening l line.command outcome n) (sym is) (work_stays opening log rest line.command outcome n one) in
      let works = subst (λ (l : List LogEntry). AreWork opening l lines outcomes so_far.work) (sym is) (all_work_stays opening log rest lines outcomes so_far.work so_far.works) in
      record {
        work = so_far.work + n;
        works = work_pushed opening after line outcome lines outcomes so_far.work n size works now;
        most = λ memory. (let had = memory_pushed outcomes outcome memory in
            let low = so_far.most had.0 in
            let lower = most had.1 n now in
            omega (arith, low, lower));
        thrifty = λ memory keys few held. (let had = memory_pushed outcomes outcome memory in
            let uses = uses_pushed opening after line outcome keys lines outcomes size held in
            let uses_before = run_before opening log rest keys lines outcomes (subst (λ (l : List LogEntry). HoldRunUses opening l keys lines outcomes) is uses.0) in
            let kept = so_far.thrifty had.0 keys few uses_before in
            let here = line_uses opening log after table line.session at line.command outcome keys version done had.1 uses.1 in
            kept_on keys entries more first before count kept (thrifty had.1 keys few kept.held here));
      }

pub counted_more : (old new : BookFacts) (lines : List ScriptLine) (outcomes : List Outcome) (line : ScriptLine) (at after : Standing) (text : List ℕ) (first before count : ℕ) → IsBook old → length lines ≡ length outcomes
    → AreCountedLines old.opening old.log old.memo.entries lines outcomes first before → (done : IsLineDone old new line.session at after line.command text before count)
    → AreCountedLines new.opening new.log new.memo.entries (lines ++ line ∷ []) (outcomes ++ done.outcome ∷ []) first count
counted_more old new lines outcomes line at after text first before count book size so_far done =
    let most = λ (memory : done.outcome ≢ no_memory) (n : ℕ) (work : IsWork old.opening new.log line.command done.outcome n).
    done.most memory n (subst (λ (m : Model). IsWork m new.log line.command done.outcome n) (sym done.opening) work) in
    subst (λ (m : Model). AreCountedLines m new.log new.memo.entries (lines ++ line ∷ []) (outcomes ++ done.outcome ∷ []) first count) (sym done.opening)
    (counted_line old.opening old.log new.log old.table old.memo.entries new.memo.entries line at done.outcome before count book.version done.done most done.thrifty lines outcomes first size so_far)

-- ---- at the end

pub counted_most : (book : BookFacts) (lines : List ScriptLine) (outcomes : List Outcome) (first count work : ℕ) → AreCountedLines book.opening book.log book.memo.entries lines outcomes first count → HadMemory outcomes
    → AreWork book.opening book.log lines outcomes work → count ≤ first + work
counted_most book lines outcomes first count work counted memory works =
    let same = work_once book.opening book.log lines outcomes counted.work work counted.works works in
    let low = counted.most memory in
    omega (arith, same, low)

pub counted_thrifty : (book : BookFacts) (lines : List ScriptLine) (outcomes : List Outcome) (first count : ℕ) (keys : List Key) → IsBook book
    → AreCountedLines book.opening book.log book.memo.entries lines outcomes first count → HadMemory outcomes → length keys ≤ memo_capacity → HoldRunUses book.opening book.log keys lines outcomes → count ≤ first + length keys
counted_thrifty book lines outcomes first count keys is counted memory few held =
    let kept = counted.thrifty memory keys few held in
    let shorter = no_longer book.memo.entries keys is.memo.once kept.held in
    let low = kept.each in
    omega (arith, shorter, low)
