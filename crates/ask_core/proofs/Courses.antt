-- A run goes from cell to cell.
use Rattle.std.proofs.Common.{◌≡◌, ℕ, suc, ◌+◌, ◌-◌, ◌*◌, ◌^◌, ◌<◌, ◌≤◌, List, [], ◌∷◌, ◌++◌, length, take, drop, map, slice_get, Option, None, Some, refl, sym, ap, ◌∙◌, subst, arith, length-append}
use Rattle.std.specs.List.{AllByRecursion}
use Rattle.std.proofs.Math.Seq.{take-length}
use Rattle.std.proofs.lemmas.List.{map-append, length-drop}
use Rattle.solid_base.specs.declared.classes.Verdict.{Verdict}
use Rattle.solid_base.specs.declared.entities.Entity.{Entity}
use Rattle.solid_base.specs.declared.geometry.Cube.{Cube}
use Rattle.solid_base.specs.Graph.{AreSound, weight_of}
use Rattle.solid_base.specs.Ranges.{IsLawfulRow}
use Rattle.solid_base.specs.Stack.{Stack}
use Rattle.iges_parameters.specs.Accepted.{IsAcceptedEntity}
use Rattle.fixed_enclosure.specs.Places.{spans_of}
use Rattle.fixed_enclosure.specs.Spans.{box_of}
use Rattle.solid_eval.specs.Solids.{solid_of}
use Rattle.solid_eval.specs.Uses.{Use, leaf_count, use_verdict}
use Rattle.solid_eval.specs.Walking.{uses_left}
use Rattle.solid_eval.proofs.FromUses.{uses_counted}
use Rattle.solid_eval.proofs.Uses.{count_exact}
use Rattle.solid_eval.proofs.Heavy.{solid_weighs}
use Rattle.solid_questions.specs.declared.questions.Question.{Question}
use Rattle.solid_questions.specs.Questions.{entity_of}
use Rattle.solid_questions.specs.QuestionCells.{all_cells, cell, cell_count}
use Rattle.solid_questions.proofs.Order.{count_is, cell_is}
use Rattle.ask_core.specs.Answers.{cell_verdict}
use Rattle.ask_core.specs.Books.{AsksCells, IsNotRefused}
use Rattle.ask_core.specs.Runs.{cell_uses, question_uses}
use Rattle.ask_core.specs.Rounds.{uses_of_cell, uses_at, uses_ahead, IsAhead, IsCourse, IsAheadBy, IsGoing, done_of, uses_from_next}
use Rattle.ask_core.specs.RunStates.{left_after}
use Rattle.ask_core.specs.declared.course.Course.{Course}
use Rattle.ask_core.proofs.CellLists.{list_of, joined_length, left_in_list, take_one_more, past_all}
use Rattle.ask_core.proofs.OpenQuestions.{open_read, open_solid}

pub accepted_lawful : (rows : List Entity) → AllByRecursion IsAcceptedEntity rows → AllByRecursion (λ (e : Entity). IsLawfulRow e.row) rows
accepted_lawful [] h = tt
accepted_lawful (e ∷ rows) h = (h.0.lawful, accepted_lawful rows h.1)

module _ (rows : List Entity) (q : Question) where
  cell_sized : (cube : Cube) → length (cell_uses rows q cube) ≡ leaf_count (solid_of rows (entity_of q))
  cell_sized cube = uses_counted (solid_of rows (entity_of q)) (spans_of (box_of cube))

  same_list : (o : Option Cube) → uses_of_cell rows q o ≡ list_of (cell_uses rows q) (leaf_count (solid_of rows (entity_of q))) cell_sized o
  same_list None = refl
  same_list (Some cube) = refl

  pub uses_here : (n place : ℕ) → cell_count q ≡ Some n → place < n → uses_at rows q place ≡ cell_uses rows q (cell q place)
  uses_here n place is inside = ap (uses_of_cell rows q) (cell_is q n place is inside)

  pub uses_past : (n place : ℕ) → cell_count q ≡ Some n → n ≤ place → uses_at rows q place ≡ []
  uses_past n place is past =
      let long = count_is q n is in
      ap (uses_of_cell rows q) (past_all (all_cells q) place (omega (arith, long, past)))

  pub sized_here : (n place : ℕ) → cell_count q ≡ Some n → place < n → length (uses_at rows q place) ≡ leaf_count (solid_of rows (entity_of q))
  sized_here n place is inside = ap (λ (l : List Use). length l) (uses_here n place is inside) ∙ cell_sized (cell q place)

  pub all_counted : (n : ℕ) → cell_count q ≡ Some n → length (question_uses rows q) ≡ n * leaf_count (solid_of rows (entity_of q))
  all_counted n is = joined_length (cell_uses rows q) (leaf_count (solid_of rows (entity_of q))) cell_sized (all_cells q) ∙ ap (λ m. m * leaf_count (solid_of rows (entity_of q))) (count_is q n is)

  -- what is left in the cell
  pub left_here : (n place known : ℕ) → cell_count q ≡ Some n → (place < n → known < leaf_count (solid_of rows (entity_of q)))
      → left_after rows q (place * leaf_count (solid_of rows (entity_of q)) + known) ≡ drop known (uses_at rows q place)
  left_here n place known is going =
      let long = count_is q n is in
      left_in_list (cell_uses rows q) (leaf_count (solid_of rows (entity_of q))) cell_sized (all_cells q) place known (λ h. going (omega (arith, long, h)))
      ∙ ap (drop known) (sym (same_list (slice_get (all_cells q) place)))

  -- nothing is known yet
  none_yet : {A B : Type 0} (f : A → B) (l : List A) (xs : List B) → xs ≡ [] → xs ≡ map f (take (length xs) l)
  none_yet f l xs is = is ∙ sym (ap (λ (ys : List _). map f (take (length ys) l)) is)

  pub course_begun : (course : Course) (n : ℕ) → AllByRecursion (λ (e : Entity). IsLawfulRow e.row) rows → AreSound rows → AsksCells q → IsNotRefused rows q
      → cell_count q ≡ Some n → course.count ≡ n → course.size ≡ weight_of rows (entity_of q) → n * weight_of rows (entity_of q) ≤ 2 ^ 22
      → course.cells.list ≡ [] → course.known.list ≡ [] → course.count ≤ course.cells.spare → weight_of rows (entity_of q) ≤ course.known.spare → weight_of rows (entity_of q) ≤ course.room.spare
      → IsAhead rows course.ahead → IsCourse rows q course
  course_begun course n lawful sound cells unrefused is count weight few no_cells no_known cell_room known_room room ahead =
      let none = ap (λ (l : List Verdict). length l) no_cells in
      let none' = ap (λ (l : List Verdict). length l) no_known in
      let product : course.count * course.size ≡ n * weight_of rows (entity_of q) = ap (λ m. m * course.size) count ∙ ap (λ m. n * m) weight in
      record {
        count = is ∙ ap Some (sym count);
        size = weight ∙ sym (count_exact rows (entity_of q) lawful (open_read rows q cells unrefused));
        weight = weight;
        some = (let h = solid_weighs rows lawful sound (entity_of q) (open_solid rows q cells unrefused) in omega (arith, h, weight));
        few = omega (arith, product, few);
        within = omega (arith, none);
        cells = none_yet (cell_verdict rows (entity_of q)) (all_cells q) course.cells.list no_cells;
        known = none_yet (use_verdict rows) (uses_at rows q (length course.cells.list)) course.known.list no_known;
        ahead = ahead;
        cell_room = omega (arith, cell_room);
        known_room = omega (arith, weight, known_room);
        room = room;
      }

  pub ahead_here : (course : Course) (n : ℕ) → cell_count q ≡ Some n → length course.cells.list < n → course.known.list ≡ []
      → uses_ahead rows course.ahead ≡ cell_uses rows q (cell q (length course.cells.list)) → IsAheadBy rows q course 0
  ahead_here course n is inside none all =
      let no = ap (λ (l : List Verdict). length l) none in
      let zero_known : length course.known.list + 0 ≡ 0 = omega (arith, no) in
      record {
        ahead = all ∙ sym (uses_here n (length course.cells.list) is inside) ∙ sym (ap (λ k. drop k (uses_at rows q (length course.cells.list))) zero_known);
        within = omega (arith, no);
      }

  pub ahead_past : (course : Course) (n : ℕ) → cell_count q ≡ Some n → n ≤ length course.cells.list → course.known.list ≡ []
      → course.ahead.next ≡ None → IsAheadBy rows q course 0
  ahead_past course n is past none no_next =
      let no = ap (λ (l : List Verdict). length l) none in
      let zero_known : length course.known.list + 0 ≡ 0 = omega (arith, no) in
      record {
        ahead = next_none no_next ∙ sym (uses_past n (length course.cells.list) is past) ∙ sym (ap (λ k. drop k (uses_at rows q (length course.cells.list))) zero_known);
        within = omega (arith, no);
      } where
        next_none : course.ahead.next ≡ None → uses_ahead rows course.ahead ≡ []
        next_none e = rw e refl

  -- all uses of the cell are known where none is ahead
  pub all_known : (course : Course) → IsCourse rows q course → IsAheadBy rows q course 0 → length course.cells.list < course.count → course.ahead.next ≡ None
      → (length course.known.list ≡ course.size) × (course.known.list ≡ map (use_verdict rows) (cell_uses rows q (cell q (length course.cells.list))))
  all_known course is by inside none =
      let place = length course.cells.list in
      let known = length course.known.list in
      let all = uses_at rows q place in
      let no_more : drop (known + 0) all ≡ [] = sym by.ahead ∙ rw none refl in
      let left : length (drop (known + 0) all) ≡ length all - (known + 0) = length-drop (known + 0) all in
      let zero_left : length (drop (known + 0) all) ≡ 0 = ap (λ (l : List Use). length l) no_more in
      let sized = sized_here course.count place is.count inside in
      let within = by.within in
      let full : known ≡ length all = omega (arith, left, zero_left, within) in
      let whole : take known all ≡ all = ap (λ k. take k all) full ∙ take-length all in
      (full ∙ sized ∙ sym is.size, is.known ∙ ap (map (use_verdict rows)) (whole ∙ uses_here course.count place is.count inside))

  -- one cell more is finished
  pub cell_finished : (course after : Course) → IsCourse rows q course → IsAheadBy rows q course 0 → length course.cells.list < course.count → course.ahead.next ≡ None
      → after.count ≡ course.count → after.size ≡ course.size → after.ahead ≡ course.ahead → after.room ≡ course.room
      → after.cells.list ≡ course.cells.list ++ cell_verdict rows (entity_of q) (cell q (length course.cells.list)) ∷ []
      → after.cells.spare + 1 ≡ course.cells.spare → after.known.list ≡ [] → after.known.spare ≡ course.known.spare + length course.known.list
      → IsCourse rows q after × (done_of after ≡ done_of course)
  cell_finished course after is by inside none count size ahead room cells spare known known_spare =
      let e = entity_of q in
      let place = length course.cells.list in
      let all = all_known course is by inside none in
      let one_more : length after.cells.list ≡ place + 1 = ap (λ (l : List Verdict). length l) cells ∙ length-append course.cells.list (cell_verdict rows e (cell q place) ∷ []) in
      let no_known : length after.known.list ≡ 0 = ap (λ (l : List Verdict). length l) known in
      let same_place : suc place ≡ length after.cells.list = omega (arith, one_more) in
      let taken = take_one_more (all_cells q) place (cell q place) (cell_is q course.count place is.count inside) in
      let finished : after.cells.list ≡ map (cell_verdict rows e) (take (length after.cells.list) (all_cells q)) =
      cells ∙ ap (λ l. l ++ cell_verdict rows e (cell q place) ∷ []) is.cells
      ∙ sym (map-append (cell_verdict rows e) (take place (all_cells q)) (cell q place ∷ []))
      ∙ ap (map (cell_verdict rows e)) (sym taken)
      ∙ ap (λ n. map (cell_verdict rows e) (take n (all_cells q))) same_place in
      let product : after.count * after.size ≡ course.count * course.size = ap (λ m. m * after.size) count ∙ ap (λ m. course.count * m) size in
      let few = is.few in
      let within = is.within in
      let cell_room = is.cell_room in
      let known_room = is.known_room in
      let full = all.0 in
      let done : length after.cells.list * after.size ≡ (place + 1) * course.size = ap (λ m. m * after.size) one_more ∙ ap (λ m. (place + 1) * m) size in
      let wide : (place + 1) * course.size ≡ place * course.size + course.size = omega arith in (
        record {
          count = is.count ∙ ap Some (sym count);
          size = size ∙ is.size;
          weight = size ∙ is.weight;
          some = (let h = is.some in omega (arith, h, size));
          few = omega (arith, product, few);
          within = omega (arith, one_more, count, inside);
          cells = finished;
          known = none_yet (use_verdict rows) (uses_at rows q (length after.cells.list)) after.known.list known;
          ahead = subst (IsAhead rows) (sym ahead) is.ahead;
          cell_room = omega (arith, one_more, count, spare, cell_room);
          known_room = omega (arith, no_known, known_spare, known_room, size);
          room = subst (λ (r : Stack Verdict). weight_of rows e ≤ r.spare) (sym room) is.room;
        },
        omega (arith, done, wide, no_known, full),
      )

  -- another next use changes nothing else
  pub course_ahead : (course after : Course) → IsCourse rows q course → after.count ≡ course.count → after.size ≡ course.size
      → after.cells ≡ course.cells → after.known ≡ course.known → after.room ≡ course.room → IsAhead rows after.ahead → IsCourse rows q after
  course_ahead course after is count size cells known room ahead = record {
    count = is.count ∙ ap Some (sym count);
    size = size ∙ is.size;
    weight = size ∙ is.weight;
    some = (let h = is.some in omega (arith, h, size));
    few = (let h = is.few in let product : after.count * after.size ≡ course.count * course.size = ap (λ m. m * after.size) count ∙ ap (λ m. course.count * m) size in omega (arith, product, h));
    within = (let h = is.within in let same = ap (λ (s : Stack Verdict). length s.list) cells in omega (arith, h, same, count));
    cells = subst (λ (s : Stack Verdict). s.list ≡ map (cell_verdict rows (entity_of q)) (take (length s.list) (all_cells q))) (sym cells) is.cells;
    known = subst (λ (s : Stack Verdict). s.list ≡ map (use_verdict rows) (take (length s.list) (uses_at rows q (length after.cells.list)))) (sym known)
        (subst (λ (s : Stack Verdict). course.known.list ≡ map (use_verdict rows) (take (length course.known.list) (uses_at rows q (length s.list)))) (sym cells) is.known);
    ahead = ahead;
    cell_room = (let h = is.cell_room in let same = ap (λ (s : Stack Verdict). length s.list + s.spare) cells in omega (arith, h, same, count));
    known_room = (let h = is.known_room in let same = ap (λ (s : Stack Verdict). length s.list + s.spare) known in omega (arith, h, same, size));
    room = subst (λ (r : Stack Verdict). weight_of rows (entity_of q) ≤ r.spare) (sym room) is.room;
  }

  -- where a use is ahead, not all uses of the cell are known
  pub still_going : (course : Course) → IsCourse rows q course → IsAheadBy rows q course 0 → ¬ (course.ahead.next ≡ None) → IsGoing course
  still_going course is by some inside =
      let place = length course.cells.list in
      let known = length course.known.list in
      let all = uses_at rows q place in
      let left : length (drop (known + 0) all) ≡ length all - (known + 0) = length-drop (known + 0) all in
      let more : 0 < length (drop (known + 0) all) = subst (λ (l : List Use). 0 < length l) by.ahead (next_there course.ahead.next some) in
      let sized = sized_here course.count place is.count inside in
      let same = is.size in
      omega (arith, left, more, sized, same) where
        next_there : (o : Option ℕ) → ¬ (o ≡ None) → 0 < length (uses_from_next o course.ahead.at (uses_left rows course.ahead.walk))
        next_there None h = absurd (h refl)
        next_there (Some u) h = omega arith
