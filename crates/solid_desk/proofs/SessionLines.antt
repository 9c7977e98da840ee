-- What the lines of a session that shares its book come to, one after the other.
use Rattle.std.proofs.Common.{◌≡◌, inl, inr, ℕ, suc, ◌+◌, ◌<◌, ◌≤◌, List, [], ◌∷◌, ◌++◌, length, map, Bool, refl, sym, ap, subst, ◌∙◌, append-nil, append_assoc, replicate, max, Some, Result, Ok, Err, OnOk, IfOk, take, get_or, add-one, arith}
use Rattle.std.specs.List.{Contains}
use Rattle.std.specs.declared.alloc.AllocError.{AllocError}
use Rattle.std.proofs.lemmas.List.{length-append, length-replicate, map-append}
use Rattle.std.proofs.lemmas.List.Elements.{Contains-append_left, Contains-append_right}
use Rattle.std.proofs.Math.Seq.{take-suc}
use mathlib.Core.List.{IsPrefix}
use Rattle.solid_base.specs.declared.entities.Model.{Model}
use Rattle.solid_base.specs.declared.entities.RowText.{RowText}
use Rattle.solid_base.specs.declared.replies.Reply.{Reply}
use Rattle.solid_base.proofs.Slices.{prefix_self, prefix_trans}
use Rattle.solid_questions.specs.declared.questions.Question.{Question}
use Rattle.script_lines.specs.declared.commands.Command.{Command}
use Rattle.script_lines.specs.declared.commands.Command.TheVariants as command
use Rattle.script_lines.specs.declared.faults.LineFault.{LineFault}
use Rattle.edit_core.specs.declared.changes.Change.{Change}
use Rattle.edit_core.specs.declared.changes.Change.TheVariants as change
use Rattle.edit_core.specs.Batches.{Staged, stage}
use Rattle.edit_core.specs.Versions.{LogEntry}
use Rattle.edit_core.proofs.RowsAfter.{all_and}
use Rattle.ask_core.proofs.RunLaws.{all_weaker}
use Rattle.turn_book.specs.Passes.{TurnFacts, PassFacts, IsPassOf, IsIdle}
use Rattle.solid_desk.specs.Outcomes.{Outcome, bad_line, staged, committed, refused, answered, cancelled, no_memory, reply_of, named_version}
use Rattle.solid_desk.specs.Sessions.{Standing, at_start, standing_after, standing_from, staged_after, after_staging}
use Rattle.solid_desk.specs.Legal.{IsOutcome}
use Rattle.solid_desk.specs.SideBySide.{IsOutcomeBy, IsNewEntry, made_by, committed_count}
use Rattle.solid_desk.specs.Turns.{GoesOn, IsByHeard, IsAskedOver, IsEditedOver, IsHeard}
use Rattle.solid_desk.specs.SessionSteps.{IsLineOver, IsServedTo}
use Rattle.solid_desk.proofs.LongerLogs.{stands_after}
use Rattle.solid_desk.proofs.SideBySide.{one_more_by, count_more}

-- ---- passes

pub pass_stays : (turn : TurnFacts Model) (pass : PassFacts Model LogEntry) → IsPassOf turn pass → IsIdle pass → GoesOn turn pass pass
pass_stays turn pass of idle = record {
  of_turn = of;
  idle = idle;
  front = prefix_self pass.front;
  seen = omega arith;
  heard = prefix_self pass.heard;
  parts = refl;
}

pub goes_further : (turn : TurnFacts Model) (first mid last : PassFacts Model LogEntry) → GoesOn turn first mid → GoesOn turn mid last → GoesOn turn first last
goes_further turn first mid last g h = let less = g.seen in let more = h.seen in record {
  of_turn = h.of_turn;
  idle = h.idle;
  front = prefix_trans first.front mid.front last.front g.front h.front;
  seen = omega (arith, less, more);
  heard = prefix_trans first.heard mid.heard last.heard g.heard h.heard;
  parts = h.parts ∙ g.parts;
}

-- ---- a log that goes on from a front, and is as long as one likes

some_entry : LogEntry
some_entry = record { session = 0; line = 0; batch = [] }

abbrev padded : List LogEntry → ℕ → List LogEntry
padded front seen = front ++ replicate seen some_entry

padded_begins : (front : List LogEntry) (seen : ℕ) → IsPrefix front (padded front seen)
padded_begins front seen = (replicate seen some_entry, refl)

padded_is_long : (front : List LogEntry) (seen : ℕ) → seen ≤ length (padded front seen)
padded_is_long front seen = omega (arith, length-append front (replicate seen some_entry), length-replicate seen some_entry)

-- ---- one line

-- what a line leaves that made no version
abbrev IsQuiet : List ℕ → Outcome → Type 0
IsQuiet more outcome = (made_by outcome ≡ 0) × ((front : List LogEntry) → IsNewEntry front outcome) × IsHeard more outcome

question_is_quiet : (more : List ℕ) (outcome : Outcome) → IsByHeard more outcome → IsQuiet more outcome
question_is_quiet more (answered version body) h = (refl, (λ front. tt), tt)
question_is_quiet more (cancelled version later) h =
    let last : Contains (later ∷ []) later = (0, omega arith, refl) in
    (refl, (λ front. tt), subst (λ (l : List ℕ). Contains l later) (sym h.1) (Contains-append_right h.0 (later ∷ []) later last))
question_is_quiet more (bad_line f) h = absurd h
question_is_quiet more (staged n) h = absurd h
question_is_quiet more (committed version) h = absurd h
question_is_quiet more (refused version f) h = absurd h
question_is_quiet more no_memory h = absurd h

pub asked_line : (old new : PassFacts Model LogEntry) (opening : Model) (session : ℕ) (at after : Standing) (q : Question) (live : Bool) (outcome : Outcome) (reply : Reply) → new.made ≡ old.made
    → after.line ≡ suc at.line → after.batch ≡ at.batch → reply ≡ reply_of outcome → IsAskedOver old new opening session q live outcome → IsLineOver old new opening session at after (command.Ask q live) reply
asked_line old new opening session at after q live outcome reply same line batch printed a =
    let quiet = question_is_quiet a.more outcome a.by_heard in let none = quiet.0 in record {
      outcome = outcome;
      printed = printed;
      may = λ stands l b low. a.may stands low;
      line = line;
      batch = batch;
      named = a.named;
      new_entry = quiet.1 old.front;
      made = omega (arith, none, same);
      more = a.more;
      heard = a.heard;
      by_heard = quiet.2;
    }

edit_hears_none : (opening : Model) (log : List LogEntry) (session : ℕ) (at : Standing) (outcome : Outcome) → IsOutcome opening log session at command.Commit outcome → IsHeard [] outcome
edit_hears_none opening log session at (committed version) h = tt
edit_hears_none opening log session at (refused version f) h = tt
edit_hears_none opening log session at no_memory h = tt
edit_hears_none opening log session at (bad_line f) h = absurd h
edit_hears_none opening log session at (staged n) h = absurd h
edit_hears_none opening log session at (answered version body) h = absurd h
edit_hears_none opening log session at (cancelled version later) h = absurd h

pub edited_line : (old new : PassFacts Model LogEntry) (opening : Model) (entry : LogEntry) (at after : Standing) (outcome : Outcome) (reply : Reply) → new.heard ≡ old.heard → at.line ≡ entry.line → at.batch ≡ entry.batch
    → after.line ≡ suc at.line → after.batch ≡ [] → reply ≡ reply_of outcome → IsEditedOver old new opening entry outcome → IsLineOver old new opening entry.session at after command.Commit reply
edited_line old new opening entry at after outcome reply same of_line of_batch line batch printed e = record {
  outcome = outcome;
  printed = printed;
  may = λ stands l b low. e.may stands (l ∙ of_line) (b ∙ of_batch) low;
  line = line;
  batch = batch;
  named = e.named;
  new_entry = e.new_entry;
  made = e.made;
  more = [];
  heard = same ∙ sym (append-nil old.heard);
  by_heard =
      let there : Standing = record { line = entry.line; batch = entry.batch; shown = 0 } in
      edit_hears_none opening (padded new.front new.seen) entry.session there outcome
      (e.may there refl refl (omega arith) (padded new.front new.seen) (padded_begins new.front new.seen) (padded_is_long new.front new.seen));
}

-- a line that looks at no version, or lacks memory
pub quiet_line : (turn : TurnFacts Model) (old new : PassFacts Model LogEntry) (opening : Model) (session : ℕ) (at after : Standing) (c : Command) (outcome : Outcome) (reply : Reply) → GoesOn turn old new → new.made ≡ old.made
    → after.line ≡ suc at.line → after.batch ≡ staged_after at.batch c outcome → reply ≡ reply_of outcome → named_version outcome ≡ 0 → ((more : List ℕ) → IsQuiet more outcome)
    → ((log : List LogEntry) (stands : Standing) → stands.batch ≡ at.batch → IsOutcome opening log session stands c outcome) → IsLineOver old new opening session at after c reply
quiet_line turn old new opening session at after c outcome reply g same line batch printed nameless quiet may =
    let none = (quiet []).0 in record {
      outcome = outcome;
      printed = printed;
      may = λ stands l b low log begins long. may log stands b;
      line = line;
      batch = batch;
      named = omega (arith, nameless);
      new_entry = (quiet []).1 old.front;
      made = omega (arith, none, same);
      more = g.heard.0;
      heard = sym g.heard.1;
      by_heard = (quiet g.heard.0).2;
    }

-- a line that stages a change
staged_line : (turn : TurnFacts Model) (pass : PassFacts Model LogEntry) (opening : Model) (session : ℕ) (at after : Standing) (c : Command) (de : ℕ) (ch : Change) (reply : Reply) → IsPassOf turn pass → IsIdle pass
    → staged_after at.batch c (staged (length (stage at.batch de ch))) ≡ stage at.batch de ch
    → ((log : List LogEntry) (stands : Standing) → stands.batch ≡ at.batch → IsOutcome opening log session stands c (staged (length (stage at.batch de ch))))
    → after ≡ after_staging at de ch → reply ≡ reply_of (staged (length after.batch)) → IsLineOver pass pass opening session at after c reply
staged_line turn pass opening session at after c de ch reply of idle stages may there printed =
    let batch : after.batch ≡ stage at.batch de ch = ap (λ (s : Standing). s.batch) there in
    quiet_line turn pass pass opening session at after c (staged (length (stage at.batch de ch))) reply (pass_stays turn pass of idle) refl (ap (λ (s : Standing). s.line) there) (batch ∙ sym stages)
    (printed ∙ ap (λ (b : List Staged). reply_of (staged (length b))) batch) refl (λ more. (refl, (λ front. tt), tt)) may

abbrev StagesBy : TurnFacts Model → PassFacts Model LogEntry → ℕ → Standing → Standing → Command → Result Reply AllocError → Type 0
StagesBy turn pass session at after c result = IfOk result (λ reply. (opening : Model) → turn.opening ≡ Some opening → IsLineOver pass pass opening session at after c reply)

pub replaced_line : (turn : TurnFacts Model) (pass : PassFacts Model LogEntry) (session : ℕ) (at after : Standing) (de : ℕ) (row : RowText) (result : Result Reply AllocError) → IsPassOf turn pass → IsIdle pass
    → OnOk result (after ≡ after_staging at de (change.Replace row)) → IfOk result (λ reply. reply ≡ reply_of (staged (length after.batch))) → StagesBy turn pass session at after (command.Replace de row) result
replaced_line turn pass session at after de row (Err e) of idle there printed = tt
replaced_line turn pass session at after de row (Ok reply) of idle there printed = λ opening same.
    staged_line turn pass opening session at after (command.Replace de row) de (change.Replace row) reply of idle refl
    (λ log stands b. inl (ap (λ (l : List Staged). staged (length (stage l de (change.Replace row)))) (sym b))) there printed

pub added_line : (turn : TurnFacts Model) (pass : PassFacts Model LogEntry) (session : ℕ) (at after : Standing) (de : ℕ) (row : RowText) (result : Result Reply AllocError) → IsPassOf turn pass → IsIdle pass
    → OnOk result (after ≡ after_staging at de (change.Add row)) → IfOk result (λ reply. reply ≡ reply_of (staged (length after.batch))) → StagesBy turn pass session at after (command.Add de row) result
added_line turn pass session at after de row (Err e) of idle there printed = tt
added_line turn pass session at after de row (Ok reply) of idle there printed = λ opening same.
    staged_line turn pass opening session at after (command.Add de row) de (change.Add row) reply of idle refl
    (λ log stands b. inl (ap (λ (l : List Staged). staged (length (stage l de (change.Add row)))) (sym b))) there printed

pub dropped_line : (turn : TurnFacts Model) (pass : PassFacts Model LogEntry) (session : ℕ) (at after : Standing) (de : ℕ) (result : Result Reply AllocError) → IsPassOf turn pass → IsIdle pass
    → OnOk result (after ≡ after_staging at de change.Drop) → IfOk result (λ reply. reply ≡ reply_of (staged (length after.batch))) → StagesBy turn pass session at after (command.Drop de) result
dropped_line turn pass session at after de (Err e) of idle there printed = tt
dropped_line turn pass session at after de (Ok reply) of idle there printed = λ opening same.
    staged_line turn pass opening session at after (command.Drop de) de change.Drop reply of idle refl
    (λ log stands b. inl (ap (λ (l : List Staged). staged (length (stage l de change.Drop))) (sym b))) there printed

-- a line that is no command
pub bad_line_over : (turn : TurnFacts Model) (pass : PassFacts Model LogEntry) (opening : Model) (session : ℕ) (at after : Standing) (f : LineFault) (reply : Reply) → IsPassOf turn pass → IsIdle pass
    → after.line ≡ suc at.line → after.batch ≡ at.batch → reply ≡ reply_of (bad_line f) → IsLineOver pass pass opening session at after (command.Bad f) reply
bad_line_over turn pass opening session at after f reply of idle line batch printed =
    quiet_line turn pass pass opening session at after (command.Bad f) (bad_line f) reply (pass_stays turn pass of idle) refl line batch printed refl (λ more. (refl, (λ front. tt), tt)) (λ log stands b. inl refl)

may_lack_memory : (opening : Model) (log : List LogEntry) (session : ℕ) (at : Standing) (c : Command) → IsOutcome opening log session at c no_memory
may_lack_memory opening log session at (command.Ask q live) = tt
may_lack_memory opening log session at (command.Replace de r) = inr refl
may_lack_memory opening log session at (command.Add de r) = inr refl
may_lack_memory opening log session at (command.Drop de) = inr refl
may_lack_memory opening log session at command.Commit = tt
may_lack_memory opening log session at (command.Bad f) = inr refl

pub passed_over_line : (turn : TurnFacts Model) (old new : PassFacts Model LogEntry) (opening : Model) (session : ℕ) (at after : Standing) (c : Command) (reply : Reply) → GoesOn turn old new → new.made ≡ old.made
    → after.line ≡ suc at.line → after.batch ≡ staged_after at.batch c no_memory → reply ≡ reply_of no_memory → IsLineOver old new opening session at after c reply
passed_over_line turn old new opening session at after c reply g same line batch printed =
    quiet_line turn old new opening session at after c no_memory reply g same line batch printed refl (λ more. (refl, (λ front. tt), tt)) (λ log stands b. may_lack_memory opening log session stands c)

pub passed_over_lines : (turn : TurnFacts Model) (old new : PassFacts Model LogEntry) (session : ℕ) (at after : Standing) (c : Command) (result : Result Reply AllocError) → GoesOn turn old new → new.made ≡ old.made
    → after.line ≡ suc at.line → after.batch ≡ staged_after at.batch c no_memory → IfOk result (λ reply. reply ≡ reply_of no_memory)
    → IfOk result (λ reply. (opening : Model) → turn.opening ≡ Some opening → IsLineOver old new opening session at after c reply)
passed_over_lines turn old new session at after c (Err e) g same line batch printed = tt
passed_over_lines turn old new session at after c (Ok reply) g same line batch printed = λ opening there. passed_over_line turn old new opening session at after c reply g same line batch printed

-- ---- all lines

served_at_start : (pass : PassFacts Model LogEntry) (opening : Model) (session : ℕ) → IsServedTo pass pass opening session [] [] at_start
served_at_start pass opening session = record {
  over = record {
    outcomes = [];
    printed = refl;
    may = λ log begins long. tt;
    new_entries = tt;
    made = omega arith;
    more = [];
    heard = sym (append-nil pass.heard);
    by_heard = tt;
  };
  line = refl;
  batch = refl;
  shown = omega arith;
}

pub none_served : (pass : PassFacts Model LogEntry) (opening : Model) (session : ℕ) (replies : List Reply) (at : Standing) → replies ≡ [] → at ≡ at_start → IsServedTo pass pass opening session [] replies at
none_served pass opening session replies at none stands =
    subst (λ (z : List Reply × Standing). IsServedTo pass pass opening session [] z.0 z.1) (λ i. (sym none i, sym stands i)) (served_at_start pass opening session)

new_by_less : (less more : List LogEntry) (outcome : Outcome) → IsPrefix less more → IsNewEntry more outcome → IsNewEntry less outcome
new_by_less less more (committed version) goes_on later =
    let size : length more ≡ length (less ++ goes_on.0) = ap length (sym goes_on.1) in omega (arith, later, size, length-append less goes_on.0)
new_by_less less more (bad_line f) goes_on later = tt
new_by_less less more (staged n) goes_on later = tt
new_by_less less more (refused version f) goes_on later = tt
new_by_less less more (answered version body) goes_on later = tt
new_by_less less more (cancelled version later_one) goes_on later = tt
new_by_less less more no_memory goes_on later = tt

heard_before : (some more : List ℕ) (outcome : Outcome) → IsHeard some outcome → IsHeard (some ++ more) outcome
heard_before some more (cancelled version later) h = Contains-append_left some more later h
heard_before some more (answered version body) h = tt
heard_before some more (bad_line f) h = tt
heard_before some more (staged n) h = tt
heard_before some more (committed version) h = tt
heard_before some more (refused version f) h = tt
heard_before some more no_memory h = tt

heard_after : (some more : List ℕ) (outcome : Outcome) → IsHeard more outcome → IsHeard (some ++ more) outcome
heard_after some more (cancelled version later) h = Contains-append_right some more later h
heard_after some more (answered version body) h = tt
heard_after some more (bad_line f) h = tt
heard_after some more (staged n) h = tt
heard_after some more (committed version) h = tt
heard_after some more (refused version f) h = tt
heard_after some more no_memory h = tt

pub one_more_served : (turn : TurnFacts Model) (first mid last : PassFacts Model LogEntry) (opening : Model) (session : ℕ) (commands : List Command) (replies : List Reply) (at after : Standing) (c : Command) (reply : Reply)
    → IsPrefix first.front mid.front → GoesOn turn mid last → IsServedTo first mid opening session commands replies at → IsLineOver mid last opening session at after c reply
    → IsServedTo first last opening session (commands ++ c ∷ []) (replies ++ reply ∷ []) after
one_more_served turn first mid last opening session commands replies at after c reply front g s l =
    let o = s.over in
    let os : List Outcome = o.outcomes in
    let stands : Standing = standing_from at_start commands os in
    let came : IsOutcomeBy opening last.front last.seen session stands c l.outcome = l.may stands (sym s.line) (sym s.batch) s.shown in
    let before = o.may (padded mid.front mid.seen) (padded_begins mid.front mid.seen) (padded_is_long mid.front mid.seen) in
    let stood : standing_from at_start (commands ++ c ∷ []) (os ++ l.outcome ∷ []) ≡ standing_after stands c l.outcome =
    stands_after opening (padded mid.front mid.seen) session at_start commands os c l.outcome before in
    let made_first = o.made in
    let made_then = l.made in
    let low = s.shown in
    let named = l.named in
    let later = g.seen in
    let made_all : last.made ≡ first.made + committed_count (os ++ l.outcome ∷ []) = omega (arith, made_first, made_then, count_more os l.outcome) in
    let shown_all : max stands.shown (named_version l.outcome) ≤ last.seen = omega (arith, low, named, later) in record {
      over = record {
        outcomes = os ++ l.outcome ∷ [];
        printed =
            ap (λ (rs : List Reply). rs ++ reply ∷ []) o.printed ∙ ap (λ (r : Reply). map reply_of os ++ r ∷ []) l.printed ∙ sym (map-append reply_of os (l.outcome ∷ []));
        may = one_more_by opening mid.front last.front mid.seen last.seen session commands os c l.outcome o.may g.front g.seen came;
        new_entries = all_and (IsNewEntry first.front) os l.outcome o.new_entries (new_by_less first.front mid.front l.outcome front l.new_entry);
        made = made_all;
        more = o.more ++ l.more;
        heard = l.heard ∙ ap (λ (h : List ℕ). h ++ l.more) o.heard ∙ append_assoc first.heard o.more l.more;
        by_heard = all_and (IsHeard (o.more ++ l.more)) os l.outcome
            (all_weaker (IsHeard o.more) (IsHeard (o.more ++ l.more)) (λ outcome h. heard_before o.more l.more outcome h) os o.by_heard)
            (heard_after o.more l.more l.outcome l.by_heard);
      };
      line = l.line ∙ ap suc s.line ∙ ap (λ (t : Standing). t.line) (sym stood);
      batch = l.batch ∙ ap (λ (b : List Staged). staged_after b c l.outcome) s.batch ∙ ap (λ (t : Standing). t.batch) (sym stood);
      shown = subst (λ (t : Standing). t.shown ≤ last.seen) (sym stood) shown_all;
    }

-- the line at a place among all lines
pub next_served : (turn : TurnFacts Model) (first mid last : PassFacts Model LogEntry) (opening : Model) (session : ℕ) (all : List Command) (i : ℕ) (c : Command) (replies more : List Reply) (at after : Standing) (reply : Reply)
    → i < length all → c ≡ get_or all i c → more ≡ replies ++ reply ∷ [] → IsPrefix first.front mid.front → GoesOn turn mid last → IsServedTo first mid opening session (take i all) replies at
    → IsLineOver mid last opening session at after c reply → IsServedTo first last opening session (take (i + 1) all) more after
next_served turn first mid last opening session all i c replies more at after reply within is added front g s l =
    let longer : take (i + 1) all ≡ take i all ++ c ∷ [] =
    ap (λ (n : ℕ). take n all) (add-one i) ∙ take-suc all i c within ∙ ap (λ (x : Command). take i all ++ x ∷ []) (sym is) in
    subst (λ (z : List Command × List Reply). IsServedTo first last opening session z.0 z.1 after) (λ k. (sym longer k, sym added k))
    (one_more_served turn first mid last opening session (take i all) replies at after c reply front g s l)
