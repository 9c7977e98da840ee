-- A run begins, looks and works.
use Rattle.std.proofs.Common.{◌≡◌, ◌≢◌, ◌⊎◌, inl, inr, ℕ, zero, suc, ◌+◌, ◌-◌, ◌*◌, ◌<◌, ◌≤◌, Bool, List, [], ◌∷◌, ◌++◌, length, take, drop, map, Option, None, Some, MatchOption, Contains, refl, sym, ap, ◌∙◌, subst, arith, length-append, mul-le-mul}
use Rattle.std.specs.List.{AllByRecursion}
use Rattle.std.proofs.Math.Seq.{drop-append_seam}
use Rattle.std.proofs.Math.Seq.{take-length}
use Rattle.std.proofs.lemmas.Bool.{cases_lt}
use Rattle.std.proofs.lemmas.List.{length-drop, drop-drop, map-append, length-map}
use Rattle.solid_base.specs.declared.classes.Verdict.{Verdict}
use Rattle.solid_base.specs.declared.entities.Entity.{Entity}
use Rattle.solid_base.specs.Stack.{Stack}
use Rattle.iges_parameters.specs.Accepted.{IsAccepted}
use Rattle.solid_eval.specs.Uses.{Use, use_verdict}
use Rattle.solid_questions.specs.declared.questions.Question.{Question}
use Rattle.solid_questions.specs.Questions.{IsLawful, entity_of}
use Rattle.memo_graph.specs.declared.key.Key.{Key}
use Rattle.memo_graph.specs.Memos.{Entry, verdict_of}
use Rattle.edit_core.specs.Versions.{Version, IsVersionOf}
use Rattle.solid_base.specs.Graph.{weight_of}
use Rattle.solid_questions.specs.declared.questions.Question.TheVariants as question
use Rattle.solid_questions.specs.Bodies.{IsBody}
use Rattle.solid_questions.specs.QuestionCells.{all_cells, cell_count}
use Rattle.solid_questions.proofs.Order.{count_is}
use Rattle.solid_base.specs.declared.entities.Model.{Model}
use Rattle.solid_base.specs.References.{row_at}
use Rattle.ask_core.specs.Answers.{cell_verdict, cell_verdicts, IsAnswer, IsAnswerOn, IsAnswerUnless}
use Rattle.ask_core.specs.Books.{BookFacts, key_verdict, AsksCells, IsNotRefused}
use Rattle.ask_core.specs.Runs.{RunFacts, IsRunning, IsTaken, IsOwnKey, IsOwn, IsBetween, IsAtStage, with_taken, worked, settled, next_stage, left_of, left_in_cell, question_uses, use_key, use_keys, not_held, most_keys}
use Rattle.ask_core.specs.Rounds.{uses_at, uses_ahead, IsAhead, IsCourse, IsAheadBy, IsGoing, done_of, AreRight, fresh_entries, unfound, wanted_keys, picked, IsPrimitiveKey, IsRoundOf, IsGathered, IsEmpty, HasRoom}
use Rattle.ask_core.specs.RunStates.{left_after, facts_of, taken_at, IsRun, IsRoundAt, AsksOneCell}
use Rattle.ask_core.specs.declared.course.Ahead.{Ahead}
use Rattle.ask_core.specs.declared.course.Course.{Course}
use Rattle.ask_core.specs.declared.rounds.Round.{Round}
use Rattle.ask_core.specs.declared.runs.Stage.{Stage}
use Rattle.ask_core.specs.declared.runs.Stage.TheVariants as stage
use Rattle.ask_core.proofs.CellLists.{front_taken}
use Rattle.ask_core.proofs.Courses.{course_ahead}
use Rattle.ask_core.proofs.OpenQuestions.{some_cells}
use Rattle.ask_core.proofs.Picked.{picked_length, picked_inside, picked_mapped, same_by_some, unfound_held, unfound_there}
use Rattle.ask_core.proofs.RoundSteps.{one_found_each, none_wanted, fresh_made}
use Rattle.ask_core.proofs.UseKeys.{verdict_is}
use Rattle.ask_core.proofs.RunLaws.{all_at, all_weaker, all_dropped, all_front, all_made, all_distinct, all_own, taken_front, idle_ahead, all_length, done_within, some_ahead, inside_of, uses_most, left_cell, taken_twice, all_unfound}

-- ---- what is found is right

right_found : (rows : List Entity) (entries : List Entry) (keys : List Key)
    → AllByRecursion (λ key. (v : Verdict) → verdict_of key entries ≡ Some v → v ≡ key_verdict rows key) keys
    → AreRight rows keys (map (λ key. verdict_of key entries) keys)
right_found rows entries [] h = refl
right_found rows entries (key ∷ keys) h = (go (verdict_of key entries) refl, right_found rows entries keys h.1) where
  go : (o : Option Verdict) → verdict_of key entries ≡ o → MatchOption o (Unit {0}) (λ verdict. verdict ≡ key_verdict rows key)
  go None is = tt
  go (Some v) is = h.0 v is

-- ---- uses that are gathered

-- before a look contracts see no uses
none_seen : (s : Stage) (places : List ℕ) (left : List Use) → places ≡ [] → taken_at s (take (length places) left) ≡ []
none_seen stage.Idle places left none = refl
none_seen stage.Ready places left none = ap (λ (l : List ℕ). take (length l) left) none
none_seen stage.Worked places left none = ap (λ (l : List ℕ). take (length l) left) none
none_seen stage.Done places left none = ap (λ (l : List ℕ). take (length l) left) none

none_unfound : (keys : List Key) → unfound keys [] ≡ []
none_unfound [] = refl
none_unfound (key ∷ keys) = refl

-- before a look a round has neither verdicts nor what was found
not_looked : (version : Version) (left : List Use) (round : Round) → IsEmpty round ⊎ IsGathered version left round → (round.found.list ≡ []) × (round.values.list ≡ [])
not_looked version left round (inl empty) = (empty.found, empty.values)
not_looked version left round (inr gathered) = (gathered.no_found, gathered.no_values)

no_wanted_yet : (round : Round) → round.found.list ≡ [] → round.values.list ≡ [] → wanted_keys round.values.list round.keys.list round.found.list ≡ []
no_wanted_yet round found values = (λ i. wanted_keys (values i) round.keys.list (found i)) ∙ none_unfound round.keys.list

module _ (book : BookFacts) (table : Version) (q : Question) (live : Bool) (course : Course) (round : Round)
    (is : IsRun (facts_of book table q live course round stage.Idle) course round) where
  abbrev pub idle : RunFacts
  idle = facts_of book table q live course round stage.Idle

  module _ (none : round.places.list ≡ []) where
    no_places : length round.places.list ≡ 0
    no_places = ap (λ (l : List ℕ). length l) none

    none_yet : IsAheadBy table.model.rows q course 0
    none_yet = subst (IsAheadBy table.model.rows q course) no_places is.ahead

    pub some_left : uses_ahead table.model.rows course.ahead ≢ []
    some_left =
        let left = is.running.at_stage.1 in
        let all = all_length table.model.rows q course is.course_is in
        some_ahead table.model.rows q course is.course_is is.going none_yet (omega (arith, left, all))

    left_is : left_in_cell idle ≡ uses_ahead table.model.rows course.ahead
    left_is = idle_ahead table.model.rows q course is.course_is is.going none_yet

  -- a round that has no uses is empty
  pub nothing_gathered : round.places.list ≡ [] → IsEmpty round
  nothing_gathered none = go is.round_is where
    go : IsEmpty round ⊎ IsGathered table (left_in_cell idle) round → IsEmpty round
    go (inl empty) = empty
    go (inr gathered) = absurd (gathered.taken.some (ap (λ (l : List ℕ). take (length l) (left_in_cell idle)) none))

  module _ (after : Course) (gathered : Round) (none : round.places.list ≡ []) (taken : List Use)
      (whole : IsTaken table (uses_ahead table.model.rows course.ahead) taken)
      (of : IsRoundOf table taken gathered)
      (front : uses_ahead table.model.rows course.ahead ≡ taken ++ uses_ahead table.model.rows after.ahead)
      (count : after.count ≡ course.count) (size : after.size ≡ course.size) (cells : after.cells ≡ course.cells) (known : after.known ≡ course.known) (room : after.room ≡ course.room)
      (ahead : IsAhead table.model.rows after.ahead) (found : gathered.found ≡ round.found) (values : gathered.values ≡ round.values) (has_room : HasRoom gathered) where
    long : length gathered.places.list ≡ length taken
    long = picked_length gathered.keys.list gathered.places.list (use_key table) taken of.places

    same_cells : length after.cells.list ≡ length course.cells.list
    same_cells = ap (λ (s : Stack Verdict). length s.list) cells

    same_known : length after.known.list ≡ length course.known.list
    same_known = ap (λ (s : Stack Verdict). length s.list) known

    same_done : done_of after ≡ done_of course
    same_done =
        let product : length after.cells.list * after.size ≡ length course.cells.list * course.size = ap (λ m. m * after.size) same_cells ∙ ap (λ m. length course.cells.list * m) size in
        let known_same = same_known in
        omega (arith, product, known_same)

    same_left : left_after table.model.rows q (done_of after) ≡ left_in_cell idle
    same_left = ap (left_after table.model.rows q) same_done

    -- the uses that the next look takes
    taken_is : take (length gathered.places.list) (left_after table.model.rows q (done_of after)) ≡ taken
    taken_is =
        ap (λ n. take n (left_after table.model.rows q (done_of after))) long
        ∙ ap (take (length taken)) same_left
        ∙ sym (front_taken (left_in_cell idle) taken (uses_ahead table.model.rows after.ahead) (left_is none ∙ front))

    is_gathered : IsGathered table (left_after table.model.rows q (done_of after)) gathered
    is_gathered =
        let empty = nothing_gathered none in
        record {
          of = subst (λ t. IsRoundOf table t gathered) (sym taken_is) of;
          taken = subst (IsTaken table (left_after table.model.rows q (done_of after))) (sym taken_is) (subst (λ l. IsTaken table l taken) (sym (same_left ∙ left_is none)) whole);
          no_found = ap (λ (s : Stack (Option Verdict)). s.list) found ∙ empty.found;
          no_values = ap (λ (s : Stack Verdict). s.list) values ∙ empty.values;
        }

    ahead_by : IsAheadBy table.model.rows q after (length gathered.places.list)
    ahead_by =
        let by = none_yet none in
        let all = uses_at table.model.rows q (length course.cells.list) in
        let k = length course.known.list in
        let cut : drop (k + 0) all ≡ taken ++ uses_ahead table.model.rows after.ahead = sym by.ahead ∙ front in
        let rest : drop (length taken) (drop (k + 0) all) ≡ uses_ahead table.model.rows after.ahead = ap (drop (length taken)) cut ∙ drop-append_seam taken (uses_ahead table.model.rows after.ahead) in
        let left : length (drop (k + 0) all) ≡ length all - (k + 0) = length-drop (k + 0) all in
        let parts : length (drop (k + 0) all) ≡ length taken + length (uses_ahead table.model.rows after.ahead) = ap (λ (l : List Use). length l) cut ∙ length-append taken (uses_ahead table.model.rows after.ahead) in
        let within = by.within in
        let places = long in
        let known_same = same_known in
        let sum : (k + 0) + length taken ≡ length after.known.list + length gathered.places.list = omega (arith, known_same, places) in
        record {
          ahead = sym rest ∙ drop-drop (length taken) (k + 0) all ∙ ap (λ n. drop n all) sum ∙ ap (λ c. drop (length after.known.list + length gathered.places.list) (uses_at table.model.rows q c)) (sym same_cells);
          within = subst (λ c. length after.known.list + length gathered.places.list ≤ length (uses_at table.model.rows q c)) (sym same_cells) (omega (arith, sum, left, parts, within));
        }

    -- contracts see no change
    pub seen_gathered : facts_of book table q live after gathered stage.Idle ≡ idle
    seen_gathered =
        let empty = nothing_gathered none in
        let now = is_gathered in
        let wanted = no_wanted_yet gathered now.no_found now.no_values ∙ sym (no_wanted_yet round empty.found empty.values) in
        let fresh = ap (λ vs. fresh_entries vs gathered.keys.list gathered.found.list) now.no_values ∙ sym (ap (λ vs. fresh_entries vs round.keys.list round.found.list) empty.values) in
        λ i. record {
          opening = book.opening;
          log = book.log;
          table = table;
          question = q;
          live = live;
          done = same_done i;
          taken = [];
          wanted = wanted i;
          fresh = fresh i;
          stage = stage.Idle;
        }

    pub run_gathers : IsRun (facts_of book table q live after gathered stage.Idle) after gathered × IsGathered table (left_in_cell (facts_of book table q live after gathered stage.Idle)) gathered
    run_gathers = (
      record {
        running = subst IsRunning (sym seen_gathered) is.running;
        course_is = course_ahead table.model.rows q course after is.course_is count size cells known room ahead;
        ahead = ahead_by;
        going = λ inside. (
            let g = is.going (let same = same_cells in omega (arith, inside, same, count)) in
            let same = same_known in omega (arith, g, same, size));
        room = has_room;
        round_is = inr is_gathered;
      },
      is_gathered,
    )

  -- a round that has uses has gathered them
  gathered_already : round.places.list ≢ [] → IsGathered table (left_in_cell idle) round
  gathered_already some = go is.round_is where
    go : IsEmpty round ⊎ IsGathered table (left_in_cell idle) round → IsGathered table (left_in_cell idle) round
    go (inl empty) = absurd (some empty.places)
    go (inr gathered) = gathered

  -- the course with other uses ahead
  abbrev pub with_ahead : Ahead → Course
  with_ahead ahead = record { count = course.count; size = course.size; cells = course.cells; known = course.known; room = course.room; ahead = ahead }

  -- a run whose round has the uses that the next look takes, and of which contracts see no change
  abbrev pub HasGathered : Round × Ahead → Type 0
  HasGathered g = IsRun (facts_of book table q live (with_ahead g.1) g.0 stage.Idle) (with_ahead g.1) g.0
      × IsGathered table (left_after table.model.rows q (done_of (with_ahead g.1))) g.0
      × (facts_of book table q live (with_ahead g.1) g.0 stage.Idle ≡ idle)

  pub has_gathered : (gathered : Round) (ahead : Ahead)
      → (round.places.list ≡ [] → (taken : List Use) × IsTaken table (uses_ahead table.model.rows course.ahead) taken × IsRoundOf table taken gathered
      × (uses_ahead table.model.rows course.ahead ≡ taken ++ uses_ahead table.model.rows ahead))
      → (round.places.list ≢ [] → (gathered ≡ round) × (ahead ≡ course.ahead))
      → (gathered.found ≡ round.found) × (gathered.values ≡ round.values) → HasRoom gathered → IsAhead table.model.rows ahead
      → HasGathered (gathered, ahead)
  has_gathered gathered ahead taken kept rest room is_ahead = go round.places.list refl where
    go : (places : List ℕ) → round.places.list ≡ places → HasGathered (gathered, ahead)
    go [] none =
        let t = taken none in
        let now = run_gathers (with_ahead ahead) gathered none t.0 t.1 t.2 t.3 refl refl refl refl refl is_ahead rest.0 rest.1 room in
        (now.0, now.1, seen_gathered (with_ahead ahead) gathered none t.0 t.1 t.2 t.3 refl refl refl refl refl is_ahead rest.0 rest.1 room)
    go (place ∷ places) some =
        let there : round.places.list ≢ [] = λ none. absurd (let h : place ∷ places ≡ [] = sym some ∙ none in cc) in
        let same = kept there in
        let whole : (gathered, ahead) ≡ (round, course.ahead) = λ i. (same.0 i, same.1 i) in
        subst HasGathered (sym whole) (is, gathered_already there, refl)

-- ---- a look

module _ (book : BookFacts) (table : Version) (q : Question) (live : Bool) (course : Course) (round looked_up : Round) (entries : List Entry)
    (is : IsRun (facts_of book table q live course round stage.Idle) course round)
    (gathered : IsGathered table (left_in_cell (facts_of book table q live course round stage.Idle)) round)
    (found : looked_up.found.list ≡ map (λ key. verdict_of key entries) round.keys.list)
    (keys : looked_up.keys ≡ round.keys) (places : looked_up.places ≡ round.places) (values : looked_up.values ≡ round.values) (has_room : HasRoom looked_up) where
  abbrev pub before_look : RunFacts
  before_look = facts_of book table q live course round stage.Idle

  abbrev pub left_there : List Use
  left_there = left_after table.model.rows q (done_of course)

  same_places : length looked_up.places.list ≡ length round.places.list
  same_places = ap (λ (s : Stack ℕ). length s.list) places

  same_keys : looked_up.keys.list ≡ round.keys.list
  same_keys = ap (λ (s : Stack Key). s.list) keys

  no_values : looked_up.values.list ≡ []
  no_values = ap (λ (s : Stack Verdict). s.list) values ∙ gathered.no_values

  -- the uses that contracts see
  pub taken_there : take (length looked_up.places.list) left_there ≡ take (length round.places.list) left_there
  taken_there = ap (λ n. take n left_there) same_places

  pub seen_taken : IsTaken table left_there (take (length looked_up.places.list) left_there)
  seen_taken = subst (IsTaken table left_there) (sym taken_there) gathered.taken

  pub keys_are : round.keys.list ≡ use_keys table (take (length looked_up.places.list) left_there)
  keys_are = gathered.of.keys ∙ ap (use_keys table) (sym taken_there)

  wanted_is : unfound looked_up.keys.list looked_up.found.list ≡ not_held (use_keys table (take (length looked_up.places.list) left_there)) entries
  wanted_is = (λ i. unfound (same_keys i) (found i)) ∙ unfound_held round.keys.list entries ∙ ap (λ l. not_held l entries) keys_are

  own_uses : AllByRecursion (Contains (question_uses table.model.rows q)) (take (length round.places.list) left_there)
  own_uses = all_front _ (length round.places.list) _ (all_front _ _ _ (all_dropped _ (done_of course) _ (all_own (question_uses table.model.rows q))))

  own_keys : AllByRecursion (IsOwnKey before_look) round.keys.list
  own_keys = subst (AllByRecursion (IsOwnKey before_look)) (sym gathered.of.keys)
      (all_distinct (IsOwnKey before_look) (map (use_key table) (take (length round.places.list) left_there))
      (all_made (IsOwnKey before_look) (use_key table) (take (length round.places.list) left_there) (all_weaker _ (λ u. IsOwnKey before_look (use_key table u)) (λ u there. (u, there, refl)) (take (length round.places.list) left_there) own_uses)))

  are_right : ((key : Key) (v : Verdict) → IsOwnKey before_look key → verdict_of key entries ≡ Some v → v ≡ key_verdict table.model.rows key)
      → AreRight table.model.rows looked_up.keys.list looked_up.found.list
  are_right right =
      subst (λ l. AreRight table.model.rows l looked_up.found.list) (sym same_keys) (subst (AreRight table.model.rows round.keys.list) (sym found)
      (right_found table.model.rows entries round.keys.list
      (all_weaker (IsOwnKey before_look) (λ key. (v : Verdict) → verdict_of key entries ≡ Some v → v ≡ key_verdict table.model.rows key) (λ key own v is_held. right key v own is_held) round.keys.list own_keys)))

  still_wanted : wanted_keys looked_up.values.list looked_up.keys.list looked_up.found.list ≡ unfound looked_up.keys.list looked_up.found.list
  still_wanted = ap (λ vs. wanted_keys vs looked_up.keys.list looked_up.found.list) no_values

  none_fresh : fresh_entries looked_up.values.list looked_up.keys.list looked_up.found.list ≡ []
  none_fresh = ap (λ vs. fresh_entries vs looked_up.keys.list looked_up.found.list) no_values

  is_round_of : IsRoundOf table (take (length looked_up.places.list) left_there) looked_up
  is_round_of =
      let of = subst (λ t. IsRoundOf table t round) (sym taken_there) gathered.of in
      record {
        keys = same_keys ∙ of.keys;
        places = (λ i. picked (same_keys i) (places i).list) ∙ of.places;
        few = subst (λ (l : List Key). length l ≤ most_keys) (sym same_keys) of.few;
        primitives = subst (AllByRecursion (IsPrimitiveKey table.model.rows)) (sym same_keys) of.primitives;
      }

  pub is_ready : ((key : Key) (v : Verdict) → IsOwnKey before_look key → verdict_of key entries ≡ Some v → v ≡ key_verdict table.model.rows key)
      → IsRun (facts_of book table q live course looked_up stage.Ready) course looked_up
  is_ready right = record {
    running = record {
      accepted = is.running.accepted;
      version = is.running.version;
      lawful = is.running.lawful;
      cells = is.running.cells;
      not_refused = is.running.not_refused;
      within = is.running.within;
      at_stage = record {
        some = λ none. gathered.taken.some (sym taken_there ∙ none);
        next = taken_front (length looked_up.places.list) _ (drop (done_of course) (question_uses table.model.rows q));
        wanted = λ key there. subst (λ l. Contains l key) (same_keys ∙ keys_are)
            (unfound_there looked_up.keys.list looked_up.found.list key (subst (λ l. Contains l key) still_wanted there));
        no_fresh = none_fresh;
      };
    };
    course_is = is.course_is;
    ahead = subst (IsAheadBy table.model.rows q course) (sym same_places) is.ahead;
    going = is.going;
    room = has_room;
    round_is = (is_round_of, are_right right, no_values);
  }

  pub looked_facts : facts_of book table q live course looked_up stage.Ready ≡ with_taken before_look (take (length looked_up.places.list) left_there) entries
  looked_facts =
      let wanted = still_wanted ∙ wanted_is in
      let fresh = none_fresh in
      λ i. record {
        opening = book.opening;
        log = book.log;
        table = table;
        question = q;
        live = live;
        done = done_of course;
        taken = take (length looked_up.places.list) left_there;
        wanted = wanted i;
        fresh = fresh i;
        stage = stage.Ready;
      }

-- ---- a beginning

positive_product : (a b : ℕ) → 0 < a → 0 < b → 0 < a * b
positive_product zero b h k = absurd (omega (arith, h))
positive_product (suc a) b h k = omega (arith, k)

-- between rounds nothing is taken
between : (book : BookFacts) (table : Version) (q : Question) (live : Bool) (course : Course) (round : Round) (s : Stage) → IsEmpty round
    → IsBetween (facts_of book table q live course round s)
between book table q live course round s empty = record {
  no_taken = none_seen s round.places.list (left_after table.model.rows q (done_of course)) empty.places;
  no_wanted = ap (λ vs. wanted_keys vs round.keys.list round.found.list) empty.values ∙ ap (λ (l : List Key). unfound l round.found.list) empty.keys;
  no_fresh = ap (λ vs. fresh_entries vs round.keys.list round.found.list) empty.values;
}

pub run_begins : (book : BookFacts) (table : Version) (q : Question) (live : Bool) (course : Course) (round : Round)
    → IsAccepted book.opening → IsVersionOf book.opening book.log table → IsLawful q → AsksCells q → IsNotRefused table.model.rows q
    → IsCourse table.model.rows q course → IsAheadBy table.model.rows q course 0 → IsGoing course → done_of course ≡ 0 → IsEmpty round → HasRoom round
    → IsRun (facts_of book table q live course round stage.Idle) course round
run_begins book table q live course round accepted version lawful cells unrefused is by going none empty room =
    let all = all_length table.model.rows q course is in
    let count = some_cells q course.count lawful cells is.count in
    let product = positive_product course.count course.size count is.some in
    let no_places : length round.places.list ≡ 0 = ap (λ (l : List ℕ). length l) empty.places in
    record {
      running = record {
        accepted = accepted;
        version = version;
        lawful = lawful;
        cells = cells;
        not_refused = unrefused;
        within = omega (arith, none);
        at_stage = (between book table q live course round stage.Idle empty, omega (arith, all, product, none));
      };
      course_is = is;
      ahead = subst (IsAheadBy table.model.rows q course) (sym no_places) by;
      going = going;
      room = room;
      round_is = inl empty;
    }

-- ---- a fill

module _ (book : BookFacts) (table : Version) (q : Question) (live : Bool) (course : Course) (round after : Round)
    (is : IsRun (facts_of book table q live course round stage.Worked) course round) (empty : IsEmpty after) (room : HasRoom after) where
  abbrev pub before_fill : RunFacts
  before_fill = facts_of book table q live course round stage.Worked

  same : (s : Stage) → s ≡ next_stage (left_of before_fill) → facts_of book table q live course after s ≡ settled before_fill
  same s at = (
      let b = between book table q live course after s empty in
      λ i. record {
        opening = book.opening;
        log = book.log;
        table = table;
        question = q;
        live = live;
        done = done_of course;
        taken = b.no_taken i;
        wanted = b.no_wanted i;
        fresh = b.no_fresh i;
        stage = at i;
      })

  with_stage : (t : Stage) → IsAtStage (facts_of book table q live course after t) t → IsRoundAt table (left_in_cell (facts_of book table q live course after t)) (facts_of book table q live course after t).taken after t → IsRun (facts_of book table q live course after t) course after
  with_stage t at_stage round_is = record {
    running = record {
      accepted = is.running.accepted;
      version = is.running.version;
      lawful = is.running.lawful;
      cells = is.running.cells;
      not_refused = is.running.not_refused;
      within = is.running.within;
      at_stage = at_stage;
    };
    course_is = is.course_is;
    ahead = subst (λ (l : List ℕ). IsAheadBy table.model.rows q course (length l)) (is.round_is.places ∙ sym empty.places) is.ahead;
    going = is.going;
    room = room;
    round_is = round_is;
  }

  go : (n : ℕ) → left_of before_fill ≡ n → IsRun (facts_of book table q live course after (next_stage n)) course after
  go zero none = with_stage stage.Done (between book table q live course after stage.Done empty, none) empty
  go (suc n) some = with_stage stage.Idle (between book table q live course after stage.Idle empty, omega (arith, some)) (inl empty)

  pub run_settles : (s : Stage) → s ≡ next_stage (left_of before_fill)
      → IsRun (facts_of book table q live course after s) course after × (facts_of book table q live course after s ≡ settled before_fill)
  run_settles s at = (subst (λ t. IsRun (facts_of book table q live course after t) course after) (sym at) (go (left_of before_fill) refl), same s at)

-- ---- work

use_verdicts : (version : Version) (us : List Use) → map (λ u. key_verdict version.model.rows (use_key version u)) us ≡ map (use_verdict version.model.rows) us
use_verdicts version [] = refl
use_verdicts version (u ∷ us) = (let first = verdict_is version version.model.rows u in let rest = use_verdicts version us in λ i. first i ∷ rest i)

module _ (book : BookFacts) (table : Version) (q : Question) (live : Bool) (course : Course) (round : Round)
    (is : IsRun (facts_of book table q live course round stage.Ready) course round) where
  abbrev pub before_work : RunFacts
  before_work = facts_of book table q live course round stage.Ready

  taken_long : length round.places.list ≡ length before_work.taken
  taken_long = picked_length round.keys.list round.places.list (use_key table) before_work.taken is.round_is.0.places

  pub some_places : 0 < length round.places.list
  some_places = (let same = taken_long in go before_work.taken is.running.at_stage.some same) where
    go : (t : List Use) → t ≢ [] → length round.places.list ≡ length t → 0 < length round.places.list
    go [] some same = absurd (some refl)
    go (u ∷ t) some same = omega (arith, same)

  pub cell_inside : length course.cells.list < course.count
  cell_inside = (let within = is.ahead.within in let some = some_places in inside_of table.model.rows q course is.course_is (omega (arith, within, some)))

  pub places_inside : AllByRecursion (λ place. place < length round.keys.list) round.places.list
  places_inside = picked_inside round.keys.list round.places.list (use_key table) before_work.taken is.round_is.0.places

  pub known_room : length round.places.list ≤ course.known.spare
  known_room =
      let within = is.ahead.within in
      let most = uses_most table.model.rows q course is.course_is in
      let room = is.course_is.known_room in
      omega (arith, within, most, room)

  -- the verdicts on the uses that were taken
  known_more : (known : Stack Verdict) → map Some known.list ≡ map Some course.known.list ++ picked (map (key_verdict table.model.rows) round.keys.list) round.places.list
      → known.list ≡ course.known.list ++ map (use_verdict table.model.rows) before_work.taken
  known_more known is_more = same_by_some known.list (course.known.list ++ map (use_verdict table.model.rows) before_work.taken)
      (is_more ∙ ap (λ l. map Some course.known.list ++ l) (picked_mapped (key_verdict table.model.rows) round.keys.list round.places.list (use_key table) before_work.taken is.round_is.0.places
      ∙ ap (λ (l : List Verdict). map Some l) (use_verdicts table before_work.taken))
      ∙ sym (map-append Some course.known.list (map (use_verdict table.model.rows) before_work.taken)))

  module _ (after : Course) (count : after.count ≡ course.count) (size : after.size ≡ course.size) (cells : after.cells ≡ course.cells) (room : after.room ≡ course.room) (ahead : after.ahead ≡ course.ahead)
      (kept : length after.known.list + after.known.spare ≡ length course.known.list + course.known.spare)
      (more : map Some after.known.list ≡ map Some course.known.list ++ picked (map (key_verdict table.model.rows) round.keys.list) round.places.list) where
    rows : List Entity
    rows = table.model.rows

    pub known_long : length after.known.list ≡ length course.known.list + length round.places.list
    known_long =
        ap (λ (l : List Verdict). length l) (known_more after.known more)
        ∙ length-append course.known.list (map (use_verdict table.model.rows) before_work.taken)
        ∙ ap (λ n. length course.known.list + n) (length-map before_work.taken (use_verdict table.model.rows) ∙ sym taken_long)

    known_is : after.known.list ≡ map (use_verdict table.model.rows) (take (length after.known.list) (uses_at table.model.rows q (length course.cells.list)))
    known_is =
        let all = uses_at table.model.rows q (length course.cells.list) in
        let left = left_cell table.model.rows q course is.course_is is.going in
        known_more after.known more
        ∙ ap (λ l. l ++ map (use_verdict table.model.rows) before_work.taken) is.course_is.known
        ∙ sym (map-append (use_verdict table.model.rows) (take (length course.known.list) all) before_work.taken)
        ∙ ap (λ l. map (use_verdict table.model.rows) (take (length course.known.list) all ++ take (length round.places.list) l)) left
        ∙ ap (map (use_verdict table.model.rows)) (taken_twice (length course.known.list) (length round.places.list) all)
        ∙ ap (λ n. map (use_verdict table.model.rows) (take n all)) (sym known_long)

    pub course_known : IsCourse table.model.rows q after
    course_known = record {
      count = is.course_is.count ∙ ap Some (sym count);
      size = size ∙ is.course_is.size;
      weight = size ∙ is.course_is.weight;
      some = (let h = is.course_is.some in omega (arith, h, size));
      few = (let h = is.course_is.few in let product : after.count * after.size ≡ course.count * course.size = ap (λ m. m * after.size) count ∙ ap (λ m. course.count * m) size in omega (arith, product, h));
      within = (let h = is.course_is.within in let same = ap (λ (s : Stack Verdict). length s.list) cells in omega (arith, h, same, count));
      cells = subst (λ (s : Stack Verdict). s.list ≡ map (cell_verdict table.model.rows (entity_of q)) (take (length s.list) (all_cells q))) (sym cells) is.course_is.cells;
      known = subst (λ (s : Stack Verdict). after.known.list ≡ map (use_verdict table.model.rows) (take (length after.known.list) (uses_at table.model.rows q (length s.list)))) (sym cells) known_is;
      ahead = subst (IsAhead table.model.rows) (sym ahead) is.course_is.ahead;
      cell_room = (let h = is.course_is.cell_room in let same = ap (λ (s : Stack Verdict). length s.list + s.spare) cells in omega (arith, h, same, count));
      known_room = (let h = is.course_is.known_room in omega (arith, h, kept, size));
      room = subst (λ (r : Stack Verdict). weight_of table.model.rows (entity_of q) ≤ r.spare) (sym room) is.course_is.room;
    }

    pub ahead_known : IsAheadBy table.model.rows q after 0
    ahead_known =
        let same_cells : length after.cells.list ≡ length course.cells.list = ap (λ (s : Stack Verdict). length s.list) cells in
        let known = known_long in
        let sum : length course.known.list + length round.places.list ≡ length after.known.list + 0 = omega (arith, known) in
        record {
          ahead = ap (uses_ahead table.model.rows) ahead ∙ is.ahead.ahead ∙ ap (λ n. drop n (uses_at table.model.rows q (length course.cells.list))) sum
              ∙ ap (λ c. drop (length after.known.list + 0) (uses_at table.model.rows q c)) (sym same_cells);
          within = subst (λ c. length after.known.list + 0 ≤ length (uses_at table.model.rows q c)) (sym same_cells) (subst (λ n. n ≤ length (uses_at table.model.rows q (length course.cells.list))) sum is.ahead.within);
        }

    pub done_more : done_of after ≡ done_of course + length before_work.taken
    done_more =
        let same_cells : length after.cells.list ≡ length course.cells.list = ap (λ (s : Stack Verdict). length s.list) cells in
        let product : length after.cells.list * after.size ≡ length course.cells.list * course.size = ap (λ m. m * after.size) same_cells ∙ ap (λ m. length course.cells.list * m) size in
        let known = known_long in
        let long = taken_long in
        omega (arith, product, known, long)

  own_keys_worked : AllByRecursion (IsOwnKey before_work) round.keys.list
  own_keys_worked = subst (AllByRecursion (IsOwnKey before_work)) (sym is.round_is.0.keys)
      (all_distinct (IsOwnKey before_work) (map (use_key table) before_work.taken)
      (all_made (IsOwnKey before_work) (use_key table) before_work.taken
      (all_weaker (Contains (question_uses table.model.rows q)) (λ u. IsOwnKey before_work (use_key table u)) (λ u there. (u, there, refl)) before_work.taken
      (all_front _ (length round.places.list) _ (all_front _ _ _ (all_dropped _ (done_of course) _ (all_own (question_uses table.model.rows q))))))))

  -- after the work
  pub run_works : (final : Course) (spent : Round) → IsCourse table.model.rows q final → IsAheadBy table.model.rows q final 0 → IsGoing final
      → done_of final ≡ done_of course + length before_work.taken → spent.places.list ≡ [] → spent.keys ≡ round.keys → spent.found ≡ round.found → HasRoom spent
      → spent.values.list ≡ map (key_verdict table.model.rows) round.keys.list
      → IsRun (facts_of book table q live final spent stage.Worked) final spent
      × (facts_of book table q live final spent stage.Worked ≡ worked before_work)
  run_works final spent course_is by going done places keys found room values =
      let seen = facts_of book table q live final spent stage.Worked in
      let all = all_length table.model.rows q final course_is in
      let most = done_within table.model.rows q final course_is 0 by in
      let no_places : length spent.places.list ≡ 0 = ap (λ (l : List ℕ). length l) places in
      let no_taken : seen.taken ≡ [] = ap (λ (l : List ℕ). take (length l) (left_after table.model.rows q (done_of final))) places in
      let same_keys : spent.keys.list ≡ round.keys.list = ap (λ (k : Stack Key). k.list) keys in
      let same_found : spent.found.list ≡ round.found.list = ap (λ (k : Stack (Option Verdict)). k.list) found in
      let no_wanted : seen.wanted ≡ [] = (λ i. wanted_keys (values i) (same_keys i) (same_found i)) ∙ none_wanted (key_verdict table.model.rows) round.keys.list round.found.list in
      let looked_for : wanted_keys round.values.list round.keys.list round.found.list ≡ unfound round.keys.list round.found.list = ap (λ vs. wanted_keys vs round.keys.list round.found.list) is.round_is.2 in
      let fresh : seen.fresh ≡ map (λ key. (key, key_verdict table.model.rows key)) before_work.wanted =
      (λ i. fresh_entries (values i) (same_keys i) (same_found i)) ∙ fresh_made (key_verdict table.model.rows) round.keys.list round.found.list
      ∙ ap (map (λ key. (key, key_verdict table.model.rows key))) (sym looked_for) in
      let own : AllByRecursion (IsOwn seen) seen.fresh = subst (AllByRecursion (IsOwn seen)) (sym fresh ∙ refl)
      (all_made (IsOwn seen) (λ key. (key, key_verdict table.model.rows key)) before_work.wanted
      (all_weaker (IsOwnKey before_work) (λ key. IsOwn seen (key, key_verdict table.model.rows key)) (λ key is_own. (is_own, refl)) before_work.wanted
      (subst (AllByRecursion (IsOwnKey before_work)) (sym looked_for) (all_unfound (IsOwnKey before_work) round.keys.list round.found.list own_keys_worked)))) in (
        record {
          running = record {
            accepted = is.running.accepted;
            version = is.running.version;
            lawful = is.running.lawful;
            cells = is.running.cells;
            not_refused = is.running.not_refused;
            within = omega (arith, most, all);
            at_stage = record { no_taken = no_taken; no_wanted = no_wanted; own = λ entry there. all_at (IsOwn seen) seen.fresh own entry there };
          };
          course_is = course_is;
          ahead = subst (IsAheadBy table.model.rows q final) (sym no_places) by;
          going = going;
          room = room;
          round_is = record {
            places = places;
            found = ap (λ (l : List (Option Verdict)). length l) same_found ∙ one_found_each table.model.rows round.keys.list round.found.list is.round_is.1 ∙ ap (λ (l : List Key). length l) (sym same_keys);
            values = ap (λ (l : List Verdict). length l) values ∙ length-map round.keys.list (key_verdict table.model.rows) ∙ ap (λ (l : List Key). length l) (sym same_keys);
          };
        },
        λ i. record {
          opening = book.opening;
          log = book.log;
          table = table;
          question = q;
          live = live;
          done = done i;
          taken = no_taken i;
          wanted = no_wanted i;
          fresh = fresh i;
          stage = stage.Worked;
        },
      )

-- ---- the answer

-- a body by the verdicts on all cells is the answer
pub body_answers : (model : Model) (q : Question) (body : List ℕ) → AsksCells q → IsNotRefused model.rows q
    → IsBody q (row_at model.rows (entity_of q)) (cell_verdicts model.rows q) body → IsAnswer model q body
body_answers model q body cells unrefused is = go q cells (unrefused.unread, unrefused.first, subst (λ o. IsAnswerUnless o model.rows q body) (sym unrefused.none) is) where
  go : (p : Question) → AsksCells p → IsAnswerOn model.rows p body → IsAnswer model p body
  go (question.Point e at) h on = on
  go (question.Cell e cube) h on = on
  go (question.Items e) h on = absurd h
  go (question.Section e z x0 y0 step nx ny) h on = on
  go (question.Volume e cube depth) h on = on
  go (question.Bounds e cube depth) h on = on
  go question.Export h on = absurd h
  go question.Newest h on = absurd h

one_of_one : (q : Question) → AsksOneCell q → cell_count q ≡ Some 1
one_of_one (question.Point e at) h = refl
one_of_one (question.Cell e cube) h = refl
one_of_one (question.Items e) h = absurd h
one_of_one (question.Section e z x0 y0 step nx ny) h = absurd h
one_of_one (question.Volume e cube depth) h = absurd h
one_of_one (question.Bounds e cube depth) h = absurd h
one_of_one question.Export h = absurd h
one_of_one question.Newest h = absurd h

module _ (book : BookFacts) (table : Version) (q : Question) (live : Bool) (course : Course) (round : Round) (s : Stage)
    (is : IsRun (facts_of book table q live course round s) course round) (none : left_of (facts_of book table q live course round s) ≡ 0) where
  -- all cells are finished
  pub all_finished : (length course.cells.list ≡ course.count) × (course.cells.list ≡ cell_verdicts table.model.rows q)
  all_finished =
      let all = all_length table.model.rows q course is.course_is in
      let past = go (cases_lt (length course.cells.list) course.count) all in
      let within = is.course_is.within in
      let long = count_is q course.count is.course_is.count in
      let same : length course.cells.list ≡ course.count = omega (arith, past, within) in
      let whole : take (length course.cells.list) (all_cells q) ≡ all_cells q = ap (λ n. take n (all_cells q)) (same ∙ sym long) ∙ take-length (all_cells q) in
      (same, is.course_is.cells ∙ ap (map (cell_verdict table.model.rows (entity_of q))) whole) where
        go : (length course.cells.list < course.count) ⊎ (course.count ≤ length course.cells.list) → length (question_uses table.model.rows q) ≡ course.count * course.size → course.count ≤ length course.cells.list
        go (inr past) all = past
        go (inl inside) all =
            let fewer = is.going inside in
            let next : (length course.cells.list + 1) * course.size ≤ course.count * course.size = mul-le-mul (omega (arith, inside)) (omega arith) in
            let wide : (length course.cells.list + 1) * course.size ≡ length course.cells.list * course.size + course.size = omega arith in
            absurd (omega (arith, fewer, next, wide, all, none))

  -- the one verdict of a question about one cell
  pub only_finished : AsksOneCell q → (v : Verdict) × (course.cells.list ≡ v ∷ []) × (cell_verdicts table.model.rows q ≡ v ∷ [])
  only_finished one =
      let finished = all_finished in
      let same : Some course.count ≡ Some 1 = sym is.course_is.count ∙ one_of_one q one in
      let count : course.count ≡ 1 = grind (arith, same) in
      let found = alone course.cells.list (finished.0 ∙ count) in
      (found.0, found.1, sym finished.1 ∙ found.1) where
        alone : (l : List Verdict) → length l ≡ 1 → (v : Verdict) × (l ≡ v ∷ [])
        alone [] h = absurd (omega (arith, h))
        alone (v ∷ []) h = (v, refl)
        alone (v ∷ w ∷ l) h = absurd (omega (arith, h))

  pub some_finished : 0 < length course.cells.list
  some_finished =
      let finished = all_finished in
      let count = some_cells q course.count is.running.lawful is.running.cells is.course_is.count in
      let same = finished.0 in
      omega (arith, same, count)
