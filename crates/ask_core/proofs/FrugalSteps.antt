-- What the step of each event evaluates.
use Rattle.std.proofs.Common.{◌≡◌, ◌≢◌, ◌⊎◌, inl, inr, ℕ, zero, suc, ◌+◌, ◌-◌, ◌%◌, ◌<◌, ◌≤◌, ◌==◌, Bool, true, false, List, [], ◌∷◌, length, drop, map, get_or, set, Contains, Option, Some, None, refl, sym, ap, ◌∙◌, subst, arith}
use Rattle.std.specs.List.{AllByRecursion}
use Rattle.std.proofs.lemmas.List.{get_or-set_same, get_or-set_other, set-get_or, length-map}
use Rattle.solid_base.specs.declared.replies.Reply.{Reply}
use Rattle.solid_eval.specs.Solids.{solid_of}
use Rattle.solid_eval.specs.Uses.{Use, leaf_count}
use Rattle.solid_questions.specs.declared.questions.Question.{Question}
use Rattle.solid_questions.specs.Questions.{entity_of}
use Rattle.memo_graph.specs.declared.key.Key.{Key}
use Rattle.memo_graph.specs.Memos.{Entry, EachOnce, IsMemo, filled}
use Rattle.memo_graph.proofs.Keeping.{memo-filled}
use Rattle.edit_core.specs.Versions.{Version}
use Rattle.edit_core.proofs.Batches.{test_not}
use Rattle.ask_core.specs.Books.{IsBook, key_verdict, memo_capacity}
use Rattle.ask_core.specs.Frugal.{AreNew, IsNewAt, IsQuietRun, IsQuiet, fresh_at, all_fresh, IsTimelyOn, StayQuiet, IsFrugalStep}
use Rattle.ask_core.specs.Places as places
use Rattle.ask_core.specs.Places.{IsLooked, looked_for, IsWorkedOn, works, IsFilled, IsNewestReply}
use Rattle.ask_core.specs.Runs.{RunFacts, IsRunning, IsTaken, begun, kept_all, left_of, looked, not_held, question_uses, settled, use_key, use_keys, with_taken, worked}
use Rattle.ask_core.specs.RunStates.{left_after}
use Rattle.ask_core.specs.Thrift.{HoldEntries, HoldUses}
use Rattle.ask_core.specs.declared.events.Event.{Event}
use Rattle.ask_core.specs.declared.events.Event.TheVariants as event
use Rattle.ask_core.specs.declared.machine.Sessions.{Sessions}
use Rattle.ask_core.specs.declared.runs.Stage.{Stage}
use Rattle.ask_core.specs.declared.runs.Stage.TheVariants as stage
use Rattle.ask_core.proofs.CellLists.{front_taken}
use Rattle.ask_core.proofs.KeptEntries.{looked_old}
use Rattle.ask_core.proofs.RunLaws.{all_own, all_weaker, all_dropped, all_front, all_made, all_distinct}
use Rattle.ask_core.proofs.ThriftyRounds.{all_filtered, kept_each, looked_length, looked_memo, next_idle, no_longer, none_held, none_looked, not_held_distinct}

-- ---- how many entries are to be kept

fresh_set : (runs : List (Option RunFacts)) (session : ℕ) (place : Option RunFacts) → session < length runs
    → all_fresh (set runs session place) + fresh_at (get_or runs session None) ≡ all_fresh runs + fresh_at place
fresh_set [] session place h = absurd (omega (arith, h))
fresh_set (x ∷ runs) zero place h = omega arith
fresh_set (x ∷ runs) (suc session) place h =
    let rest = fresh_set runs session place (omega (arith, h)) in
    omega (arith, rest)

none_fresh : (runs : List (Option RunFacts)) → ((session : ℕ) → get_or runs session None ≡ None) → all_fresh runs ≡ 0
none_fresh [] none = refl
none_fresh (None ∷ runs) none = (let rest = none_fresh runs (λ s. none (suc s)) in omega (arith, rest))
none_fresh (Some run ∷ runs) none = (let h = none 0 in absurd (grind (arith, h)))

-- one session at most has a run
abbrev pub IsAlone : List (Option RunFacts) → Type 0
IsAlone runs = (session other : ℕ) (a b : RunFacts) → get_or runs session None ≡ Some a → get_or runs other None ≡ Some b → session ≡ other

others_none : (runs : List (Option RunFacts)) (session : ℕ) (run : RunFacts) → get_or runs session None ≡ Some run → IsAlone runs
    → (other : ℕ) → other ≢ session → get_or runs other None ≡ None
others_none runs session run there alone other apart = go (get_or runs other None) refl where
  go : (place : Option RunFacts) → get_or runs other None ≡ place → place ≡ None
  go None is = refl
  go (Some b) is = absurd (apart (sym (alone session other run b there is)))

one_fresh : (runs : List (Option RunFacts)) → IsAlone runs
    → (all_fresh runs ≡ 0) ⊎ ((session : ℕ) × (run : RunFacts) × (get_or runs session None ≡ Some run) × (all_fresh runs ≡ length run.fresh))
one_fresh [] alone = inl refl
one_fresh (None ∷ runs) alone = go (one_fresh runs (λ s t a b x y. (let h = alone (suc s) (suc t) a b x y in omega (arith, h)))) where
  go : (all_fresh runs ≡ 0) ⊎ ((session : ℕ) × (run : RunFacts) × (get_or runs session None ≡ Some run) × (all_fresh runs ≡ length run.fresh))
      → (all_fresh (None ∷ runs) ≡ 0) ⊎ ((session : ℕ) × (run : RunFacts) × (get_or (None ∷ runs) session None ≡ Some run) × (all_fresh (None ∷ runs) ≡ length run.fresh))
  go (inl is) = inl (omega (arith, is))
  go (inr (session, run, there, is)) = inr (suc session, run, there, omega (arith, is))
one_fresh (Some run ∷ runs) alone =
    let none = none_fresh runs (λ s. others_none (Some run ∷ runs) 0 run refl alone (suc s) (λ e. absurd (omega (arith, e)))) in
    inr (0, run, refl, omega (arith, none))

-- ---- a memo with room

memo_of : (keys : List Key) (es : List Entry) → length keys ≤ memo_capacity → HoldEntries keys es → EachOnce es → IsMemo (record { entries = es; capacity = memo_capacity })
memo_of keys es few held once =
    let room = no_longer es keys once held in
    record { some = omega arith; within = omega (arith, room, few); once = once }

kept_memo : (most : ℕ) (more es : List Entry) → IsMemo (record { entries = es; capacity = most }) → IsMemo (record { entries = kept_all most more es; capacity = most })
kept_memo most [] es memo = memo
kept_memo most (first ∷ more) es memo = kept_memo most more (filled most first.0 first.1 es) (memo-filled first.0 first.1 es most memo)

-- what is new and is kept, where there is room
kept_new : (keys : List Key) (es : List Entry) (run : RunFacts) (wanted : List Key) → length keys ≤ memo_capacity → HoldEntries keys es → EachOnce es → AreNew keys es wanted
    → run.fresh ≡ map (λ k. (k, key_verdict run.table.model.rows k)) wanted
    → HoldEntries keys (kept_all memo_capacity run.fresh es) × EachOnce (kept_all memo_capacity run.fresh es) × (length (kept_all memo_capacity run.fresh es) ≡ length es + length run.fresh)
kept_new keys es run wanted few held once new is =
    let f = key_verdict run.table.model.rows in
    let kept = kept_each f memo_capacity keys wanted es few once held new.once new.none new.own in
    let long : length run.fresh ≡ length wanted = ap (λ (l : List Entry). length l) is ∙ length-map wanted (λ k. (k, f k)) in
    let held_after = subst (λ (l : List Entry). HoldEntries keys (kept_all memo_capacity l es)) (sym is) kept.0 in
    let size = subst (λ (l : List Entry). length (kept_all memo_capacity l es) ≡ length es + length wanted) (sym is) kept.1 in
    (held_after, (kept_memo memo_capacity run.fresh es (memo_of keys es few held once)).once, omega (arith, size, long))

-- all entries, also those that are to be kept, are no more than there are keys
pub quiet_room : (keys : List Key) (es : List Entry) (runs : List (Option RunFacts)) → length keys ≤ memo_capacity → IsQuiet keys es runs → length es + all_fresh runs ≤ length keys
quiet_room keys es runs few quiet = go (one_fresh runs quiet.alone) where
  room : length es ≤ length keys
  room = no_longer es keys quiet.once quiet.held

  at_stage : (run : RunFacts) (at : Stage) → IsNewAt keys es run at → length es + length run.fresh ≤ length keys
  at_stage run stage.Idle new = (let none : length run.fresh ≡ 0 = ap (λ (l : List Entry). length l) new in let h = room in omega (arith, none, h))
  at_stage run stage.Ready new = (let none : length run.fresh ≡ 0 = ap (λ (l : List Entry). length l) new.0 in let h = room in omega (arith, none, h))
  at_stage run stage.Worked (wanted, new, is) =
      let (held, once, long) = kept_new keys es run wanted few quiet.held quiet.once new is in
      let h = no_longer (kept_all memo_capacity run.fresh es) keys once held in
      omega (arith, h, long)
  at_stage run stage.Done new = (let none : length run.fresh ≡ 0 = ap (λ (l : List Entry). length l) new in let h = room in omega (arith, none, h))

  go : (all_fresh runs ≡ 0) ⊎ ((session : ℕ) × (run : RunFacts) × (get_or runs session None ≡ Some run) × (all_fresh runs ≡ length run.fresh)) → length es + all_fresh runs ≤ length keys
  go (inl is) = (let h = room in omega (arith, is, h))
  go (inr (session, run, there, is)) = (let h = at_stage run run.stage (quiet.each session run there).new in omega (arith, is, h))

-- ---- one session alone

module _ (keys : List Key) (es : List Entry) (runs : List (Option RunFacts)) (session : ℕ) (place : Option RunFacts) (within : session < length runs) (others : (other : ℕ) → other ≢ session → get_or runs other None ≡ None) where
  only_there : (at : ℕ) (run : RunFacts) → get_or (set runs session place) at None ≡ Some run → at ≡ session
  only_there at run there = go (at == session) refl where
    go : (b : Bool) → (at == session) ≡ b → at ≡ session
    go true e = grind (arith, e)
    go false e =
        let apart : at ≢ session = test_not at session e in
        let none = sym there ∙ get_or-set_other runs session at place None apart ∙ others at apart in
        absurd (grind (arith, none))

  pub quiet_set : HoldEntries keys es → EachOnce es → ((run : RunFacts) → place ≡ Some run → IsQuietRun keys es run) → IsQuiet keys es (set runs session place)
  quiet_set held once here = record {
    held = held;
    once = once;
    alone = λ s t a b x y. only_there s a x ∙ sym (only_there t b y);
    each = λ s run there. here run (sym (get_or-set_same runs session place None within)
        ∙ subst (λ (k : ℕ). get_or (set runs session place) k None ≡ Some run) (only_there s run there) there);
  }

quiet_same : (keys : List Key) (es after : List Entry) (runs now : List (Option RunFacts)) → after ≡ es → now ≡ runs → IsQuiet keys es runs → IsQuiet keys after now
quiet_same keys es after runs now same_es same_runs quiet =
    subst (λ (l : List Entry). IsQuiet keys l now) (sym same_es) (subst (λ (l : List (Option RunFacts)). IsQuiet keys es l) (sym same_runs) quiet)

-- nothing is changed but the log and the transcripts
pub nothing_frugal : (old new : Sessions) (e : Event) → new.book.memo.entries ≡ old.book.memo.entries → new.runs.items ≡ old.runs.items → IsTimelyOn old e new
    → (count : ℕ) → IsFrugalStep old e new count count
nothing_frugal old new e same_es same_runs timely count = record {
  timely = timely;
  thrifty = λ keys few quiet calm. record {
    quiet = quiet_same keys old.book.memo.entries new.book.memo.entries old.runs.items new.runs.items same_es same_runs quiet;
    each = (let es = ap (λ (l : List Entry). length l) same_es in let fresh = ap all_fresh same_runs in omega (arith, es, fresh));
  };
}

-- the place of a session that stays
same_place : (runs : List (Option RunFacts)) (session : ℕ) (place after : Option RunFacts) → place ≡ get_or runs session None → after ≡ place → set runs session after ≡ runs
same_place runs session place after at stays = ap (λ (p : Option RunFacts). set runs session p) (stays ∙ at) ∙ set-get_or runs session None

same_facts : (x y : RunFacts) → ◌≡◌ {A = Option RunFacts} (Some x) (Some y) → x ≡ y
same_facts x y h = cc

-- ---- a question begins

pub begun_frugal : (old new : Sessions) (session : ℕ) (q : Question) (live : Bool) (run : RunFacts) → IsBook old.book → run ≡ begun old.book q live → session < length old.runs.items
    → get_or old.runs.items session None ≡ None → new.book.memo.entries ≡ old.book.memo.entries → new.runs.items ≡ set old.runs.items session (Some run)
    → (count : ℕ) → IsFrugalStep old (event.Begin session q live) new count count
begun_frugal old new session q live run right is within free same_es set_runs count = record {
  timely = tt;
  thrifty = λ keys few quiet calm.
      let es = old.book.memo.entries in
      let runs = old.runs.items in
      let there : get_or new.runs.items session None ≡ Some run =
      ap (λ (l : List (Option RunFacts)). get_or l session None) set_runs ∙ get_or-set_same runs session (Some run) None within in
      let (others, uses) = calm free (λ none. absurd (let h = sym there ∙ none in grind (arith, h))) in
      let first : IsQuietRun keys es (begun old.book q live) = record {
        uses = uses old.book.table right.version;
        new = refl;
      } in
      let now : IsQuiet keys es (set runs session (Some run)) = quiet_set keys es runs session (Some run) within others quiet.held quiet.once
      (λ x same. subst (IsQuietRun keys es) (sym is ∙ same_facts run x same) first) in
      let sum = fresh_set runs session (Some run) within in
      let before : fresh_at (get_or runs session None) ≡ 0 = ap fresh_at free in
      let after : length run.fresh ≡ 0 = ap (λ (r : RunFacts). length r.fresh) is in
      let entries = ap (λ (l : List Entry). length l) same_es in
      let fresh = ap all_fresh set_runs in
      record {
        quiet = quiet_same keys es new.book.memo.entries (set runs session (Some run)) new.runs.items same_es set_runs now;
        each = omega (arith, sum, before, after, entries, fresh);
      };
}

-- ---- rounds

-- the keys of what comes next are among those of all uses
own_taken : (keys : List Key) (table : Version) (q : Question) (done : ℕ) (taken : List Use) → HoldUses keys table q → IsTaken table (left_after table.model.rows q done) taken
    → AllByRecursion (Contains keys) (use_keys table taken)
own_taken keys table q done taken uses next =
    let all = question_uses table.model.rows q in
    let size = leaf_count (solid_of table.model.rows (entity_of q)) in
    let left = left_after table.model.rows q done in
    let Held = λ (u : Use). Contains keys (use_key table u) in
    let each : AllByRecursion Held all = all_weaker (Contains all) Held uses all (all_own all) in
    let in_cell : AllByRecursion Held left = all_front Held (size - done % size) (drop done all) (all_dropped Held done all each) in
    let here : AllByRecursion Held taken = subst (AllByRecursion Held) (sym (front_taken left taken next.rest next.front)) (all_front Held (length taken) left in_cell) in
    all_distinct (Contains keys) (map (use_key table) taken) (all_made (Contains keys) (use_key table) taken here)

-- what a step makes of one session's place, by the entries and the count after it
module _ (old new : Sessions) (session : ℕ) (place after_place : Option RunFacts) (within : session < length old.runs.items) (at : place ≡ get_or old.runs.items session None) (set_runs : new.runs.items ≡ set old.runs.items session after_place) where
  -- the run stays quiet
  stay_quiet : (keys : List Key) (run : RunFacts) (before count : ℕ) → place ≡ Some run → IsQuiet keys old.book.memo.entries old.runs.items
      → HoldEntries keys new.book.memo.entries → EachOnce new.book.memo.entries → ((x : RunFacts) → after_place ≡ Some x → IsQuietRun keys new.book.memo.entries x)
      → count + (length old.book.memo.entries + length run.fresh) ≤ before + (length new.book.memo.entries + fresh_at after_place)
      → StayQuiet keys old new before count
  stay_quiet keys run before count is quiet held once here most =
      let runs = old.runs.items in
      let es = new.book.memo.entries in
      let now : IsQuiet keys es (set runs session after_place) = quiet_set keys es runs session after_place within (others_none runs session run (sym at ∙ is) quiet.alone) held once here in
      let sum = fresh_set runs session after_place within in
      let was : fresh_at (get_or runs session None) ≡ length run.fresh = ap fresh_at (sym at ∙ is) in
      let fresh = ap all_fresh set_runs in
      record {
        quiet = quiet_same keys es es (set runs session after_place) new.runs.items refl set_runs now;
        each = omega (arith, sum, was, fresh, most);
      }

  -- nothing comes next
  stay_same : (e : Event) → after_place ≡ place → new.book.memo.entries ≡ old.book.memo.entries → IsTimelyOn old e new → (count : ℕ) → IsFrugalStep old e new count count
  stay_same e stays same_es timely = nothing_frugal old new e same_es (set_runs ∙ same_place old.runs.items session place after_place at stays) timely

  pub look_frugal : IsLooked place after_place old.book.memo.entries new.book.memo.entries → (count : ℕ) → IsFrugalStep old (event.Look session) new count count
  look_frugal (looked_for run taken is idle next then memo) count = record {
    timely = tt;
    thrifty = λ keys few quiet calm.
        let es = old.book.memo.entries in
        let wanted = use_keys run.table taken in
        let facts = quiet.each session run (sym at ∙ is) in
        let none : run.fresh ≡ [] = subst (IsNewAt keys es run) idle facts.new in
        let own = own_taken keys run.table run.question run.done taken facts.uses next in
        let new_ones : AreNew keys (looked wanted es) (not_held wanted es) = record {
          once = not_held_distinct (map (use_key run.table) taken) es;
          none = none_looked wanted es (not_held wanted es) (none_held wanted es);
          own = all_filtered (Contains keys) _ wanted own;
        } in
        let ready : IsQuietRun keys (looked wanted es) (with_taken run taken es) = record { uses = facts.uses; new = (refl, new_ones) } in
        let room = memo_of keys es few quiet.held quiet.once in
        let held : HoldEntries keys new.book.memo.entries = subst (HoldEntries keys) (sym memo) (λ x c. quiet.held x (looked_old wanted es x c)) in
        let once : EachOnce new.book.memo.entries = subst EachOnce (sym memo) (looked_memo wanted es memo_capacity room).once in
        let here : (x : RunFacts) → after_place ≡ Some x → IsQuietRun keys new.book.memo.entries x =
        λ x same. subst (IsQuietRun keys new.book.memo.entries) (same_facts (with_taken run taken es) x (sym then ∙ same)) (subst (λ (l : List Entry). IsQuietRun keys l (with_taken run taken es)) (sym memo) ready) in
        let long : length new.book.memo.entries ≡ length es = ap (λ (l : List Entry). length l) memo ∙ looked_length wanted es memo_capacity room in
        let fresh : length run.fresh ≡ 0 = ap (λ (l : List Entry). length l) none in
        let after : fresh_at after_place ≡ 0 = ap fresh_at then in
        stay_quiet keys run count count is quiet held once here (omega (arith, long, fresh, after));
  }
  look_frugal (places.other none stays memo) count = stay_same (event.Look session) stays memo tt count

  pub work_frugal : (before count : ℕ) → IsWorkedOn place after_place before count → new.book.memo.entries ≡ old.book.memo.entries → IsFrugalStep old (event.Work session) new before count
  work_frugal before count (works run is ready going then counts) memo = record {
    timely = tt;
    thrifty = λ keys few quiet calm.
        let es = old.book.memo.entries in
        let facts = quiet.each session run (sym at ∙ is) in
        let (none, new_ones) = subst (IsNewAt keys es run) ready facts.new in
        let done : IsQuietRun keys es (worked run) = record { uses = facts.uses; new = (run.wanted, new_ones, refl) } in
        let held : HoldEntries keys new.book.memo.entries = subst (HoldEntries keys) (sym memo) quiet.held in
        let once : EachOnce new.book.memo.entries = subst EachOnce (sym memo) quiet.once in
        let here : (x : RunFacts) → after_place ≡ Some x → IsQuietRun keys new.book.memo.entries x =
        λ x same. subst (IsQuietRun keys new.book.memo.entries) (same_facts (worked run) x (sym then ∙ same)) (subst (λ (l : List Entry). IsQuietRun keys l (worked run)) (sym memo) done) in
        let long : length new.book.memo.entries ≡ length es = ap (λ (l : List Entry). length l) memo in
        let fresh : length run.fresh ≡ 0 = ap (λ (l : List Entry). length l) none in
        let after : fresh_at after_place ≡ length run.wanted = ap fresh_at then ∙ length-map run.wanted (λ k. (k, key_verdict run.table.model.rows k)) in
        let ticks : count ≤ before + length run.wanted = grind (arith, counts) in
        stay_quiet keys run before count is quiet held once here (omega (arith, long, fresh, after, ticks));
  }
  work_frugal before count (places.other none stays counts) memo =
      subst (IsFrugalStep old (event.Work session) new before) (sym counts) (stay_same (event.Work session) stays memo tt before)

  -- what a fill keeps is held
  fill_quiet : (keys : List Key) (run : RunFacts) (count : ℕ) → length keys ≤ memo_capacity → place ≡ Some run → run.stage ≡ stage.Worked → IsQuiet keys old.book.memo.entries old.runs.items
      → new.book.memo.entries ≡ kept_all memo_capacity run.fresh old.book.memo.entries
      → ((x : RunFacts) → after_place ≡ Some x → (x.fresh ≡ []) × (x.stage ≡ stage.Idle) × (x.table ≡ run.table) × (x.question ≡ run.question)) → fresh_at after_place ≡ 0
      → StayQuiet keys old new count count
  fill_quiet keys run count few is staged quiet memo next after =
      let es = old.book.memo.entries in
      let facts = quiet.each session run (sym at ∙ is) in
      let (wanted, new_ones, fresh) = subst (IsNewAt keys es run) staged facts.new in
      let (kept, each_once, long) = kept_new keys es run wanted few quiet.held quiet.once new_ones fresh in
      let held : HoldEntries keys new.book.memo.entries = subst (HoldEntries keys) (sym memo) kept in
      let once : EachOnce new.book.memo.entries = subst EachOnce (sym memo) each_once in
      let size : length new.book.memo.entries ≡ length es + length run.fresh = ap (λ (l : List Entry). length l) memo ∙ long in
      let here : (x : RunFacts) → after_place ≡ Some x → IsQuietRun keys new.book.memo.entries x = λ x same.
      let (none, idle, table, question) = next x same in
      record {
        uses = subst (λ (t : Version). HoldUses keys t x.question) (sym table) (subst (HoldUses keys run.table) (sym question) facts.uses);
        new = subst (IsNewAt keys new.book.memo.entries x) (sym idle) none;
      } in
      stay_quiet keys run count count is quiet held once here (omega (arith, size, after))

  -- it is the one run there
  same_run_there : (run x : RunFacts) → place ≡ Some run → get_or old.runs.items session None ≡ Some x → run ≡ x
  same_run_there run x is there = same_facts run x (sym is ∙ at ∙ there)

  place_after : get_or new.runs.items session None ≡ after_place
  place_after = ap (λ (l : List (Option RunFacts)). get_or l session None) set_runs ∙ get_or-set_same old.runs.items session after_place None within

  pub fill_frugal : (reply : Option Reply) → IsFilled place after_place reply old.book.memo.entries new.book.memo.entries → (count : ℕ) → IsFrugalStep old (event.Fill session) new count count
  fill_frugal reply (places.other none stays no_reply memo) count =
      stay_same (event.Fill session) stays memo (λ run there staged. absurd (none run (at ∙ there) staged)) count
  fill_frugal reply (places.goes_on run is staged going some then no_reply memo) count = record {
    timely = λ x there is_staged.
        let same = same_run_there run x is there in (
          subst IsRunning same going,
          (
            (λ none. absurd (let h = sym then ∙ sym place_after ∙ none in grind (arith, h))),
            (λ zero_left. absurd (let left = subst (λ (r : RunFacts). 0 < left_of r) same some in omega (arith, left, zero_left))),
          ),
        );
    thrifty = λ keys few quiet calm. fill_quiet keys run count few is staged quiet memo
        (λ x same. subst (λ (r : RunFacts). (r.fresh ≡ []) × (r.stage ≡ stage.Idle) × (r.table ≡ run.table) × (r.question ≡ run.question))
        (same_facts (settled run) x (sym then ∙ same)) (refl, next_idle (left_of run) some, refl, refl)) (ap fresh_at then);
  }
  fill_frugal reply (places.ends run body is staged going none_left then answer replies memo) count = record {
    timely = λ x there is_staged.
        let same = same_run_there run x is there in (
          subst IsRunning same going,
          ((λ none. subst (λ (r : RunFacts). left_of r ≡ 0) same none_left), (λ zero_left. place_after ∙ then)),
        );
    thrifty = λ keys few quiet calm. fill_quiet keys run count few is staged quiet memo
        (λ x same. absurd (let h = sym then ∙ same in grind (arith, h))) (ap fresh_at then);
  }

  pub newest_frugal : (newest : ℕ) (reply : Reply) → IsNewestReply newest place (Some reply) → after_place ≡ None → new.book.memo.entries ≡ old.book.memo.entries
      → (count : ℕ) → IsFrugalStep old (event.Newest session) new count count
  newest_frugal newest reply (places.without_run none words) gone memo count = stay_same (event.Newest session) (gone ∙ sym none) memo tt count
  newest_frugal newest reply (places.cancelled run is live older words) gone memo count = record {
    timely = tt;
    thrifty = λ keys few quiet calm. absurd (calm (λ none. absurd (let h = sym (sym at ∙ is) ∙ none in grind (arith, h))) (place_after ∙ gone));
  }
  newest_frugal newest reply (places.held run is held no_reply) gone memo count = absurd (grind (arith, no_reply))
