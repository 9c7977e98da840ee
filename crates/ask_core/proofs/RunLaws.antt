-- What holds of a run between its calls.
use Rattle.std.proofs.Common.{◌≡◌, ◌≢◌, ◌⊎◌, inl, inr, ℕ, zero, suc, ◌+◌, ◌-◌, ◌*◌, ◌<◌, ◌≤◌, Bool, List, [], ◌∷◌, ◌++◌, length, take, drop, map, slice_get, Option, None, Some, Contains, refl, sym, ap, ◌∙◌, subst, arith, mul-le-mul, append_assoc, cond, not, true, false}
use Rattle.std.specs.List.{AllByRecursion, filter}
use Rattle.std.proofs.lemmas.Bool.{cases_lt}
use Rattle.std.proofs.lemmas.List.{length-drop, take-append-drop}
use Rattle.solid_base.specs.declared.classes.Verdict.{Verdict}
use Rattle.solid_base.specs.declared.entities.Entity.{Entity}
use Rattle.solid_base.specs.declared.geometry.Cube.{Cube}
use Rattle.solid_base.specs.References.{row_at}
use Rattle.fixed_enclosure.specs.Places.{spans_of}
use Rattle.fixed_enclosure.specs.Spans.{box_of}
use Rattle.solid_eval.specs.Solids.{IsPrimitiveRow}
use Rattle.solid_eval.specs.Uses.{Use}
use Rattle.solid_eval.proofs.FromUses.{of_primitives}
use Rattle.solid_questions.specs.declared.questions.Question.{Question}
use Rattle.solid_questions.specs.Questions.{entity_of}
use Rattle.solid_questions.specs.QuestionCells.{all_cells}
use Rattle.memo_graph.specs.declared.key.Key.{Key}
use Rattle.memo_graph.specs.Memos.{same_key}
use Rattle.ask_core.specs.Runs.{question_uses, distinct}
use Rattle.ask_core.specs.Rounds.{uses_of_cell, uses_at, uses_ahead, IsCourse, IsAheadBy, IsGoing, done_of, unfound}
use Rattle.ask_core.specs.RunStates.{left_after}
use Rattle.ask_core.specs.declared.course.Course.{Course}
use Rattle.ask_core.proofs.CellLists.{front_taken, take_none}
use Rattle.ask_core.proofs.Courses.{sized_here, uses_past, all_counted, left_here}
use Rattle.ask_core.proofs.Picked.{contained_at}

-- ---- lists

pub all_at : {X : Type 0} (P : X → Type 0) (xs : List X) → AllByRecursion P xs → (x : X) → Contains xs x → P x
all_at P xs h x there = go xs h (contained_at xs x there).0 (contained_at xs x there).1 where
  go : (ys : List _) → AllByRecursion P ys → (n : ℕ) → slice_get ys n ≡ Some x → P x
  go [] h n is = grind (arith, is)
  go (y ∷ ys) h zero is = (let same : y ≡ x = grind (arith, is) in subst P same h.0)
  go (y ∷ ys) h (suc n) is = go ys h.1 n is

pub all_weaker : {X : Type 0} (P Q : X → Type 0) → ((x : X) → P x → Q x) → (xs : List X) → AllByRecursion P xs → AllByRecursion Q xs
all_weaker P Q f [] h = tt
all_weaker P Q f (x ∷ xs) h = (f x h.0, all_weaker P Q f xs h.1)

pub all_dropped : {X : Type 0} (P : X → Type 0) (n : ℕ) (xs : List X) → AllByRecursion P xs → AllByRecursion P (drop n xs)
all_dropped P zero xs h = h
all_dropped P (suc n) [] h = tt
all_dropped P (suc n) (x ∷ xs) h = all_dropped P n xs h.1

pub all_front : {X : Type 0} (P : X → Type 0) (n : ℕ) (xs : List X) → AllByRecursion P xs → AllByRecursion P (take n xs)
all_front P zero xs h = tt
all_front P (suc n) [] h = tt
all_front P (suc n) (x ∷ xs) h = (h.0, all_front P n xs h.1)

pub all_made : {X Y : Type 0} (P : Y → Type 0) (f : X → Y) (xs : List X) → AllByRecursion (λ x. P (f x)) xs → AllByRecursion P (map f xs)
all_made P f [] h = tt
all_made P f (x ∷ xs) h = (h.0, all_made P f xs h.1)

all_passing : {X : Type 0} (P : X → Type 0) (test : X → Bool) (xs : List X) → AllByRecursion P xs → AllByRecursion P (filter test xs)
all_passing P test [] h = tt
all_passing P test (x ∷ xs) h = go (test x) (all_passing P test xs h.1) where
  go : (b : Bool) → AllByRecursion P (filter test xs) → AllByRecursion P (cond b (x ∷ filter test xs) (filter test xs))
  go true rest = (h.0, rest)
  go false rest = rest

pub all_distinct : (P : Key → Type 0) (keys : List Key) → AllByRecursion P keys → AllByRecursion P (distinct keys)
all_distinct P [] h = tt
all_distinct P (key ∷ keys) h = (h.0, all_passing P (λ other. not (same_key key other)) (distinct keys) (all_distinct P keys h.1))

pub all_unfound : (P : Key → Type 0) (keys : List Key) (found : List (Option Verdict)) → AllByRecursion P keys → AllByRecursion P (unfound keys found)
all_unfound P [] found h = tt
all_unfound P (key ∷ keys) [] h = tt
all_unfound P (key ∷ keys) (None ∷ found) h = (h.0, all_unfound P keys found h.1)
all_unfound P (key ∷ keys) (Some v ∷ found) h = all_unfound P keys found h.1

pub all_own : {X : Type 0} (xs : List X) → AllByRecursion (Contains xs) xs
all_own [] = tt
all_own (x ∷ xs) = ((zero, omega arith, refl), all_weaker (Contains xs) (Contains (x ∷ xs)) (λ y there. (suc there.0, (let h = there.1 in omega (arith, h)), there.2)) xs (all_own xs))

pub taken_front : {X : Type 0} (n m : ℕ) (xs : List X) → take n (take m xs) ≡ take (length (take n (take m xs))) xs
taken_front n m xs =
    front_taken xs (take n (take m xs)) (drop n (take m xs) ++ drop m xs)
    (sym (sym (append_assoc (take n (take m xs)) (drop n (take m xs)) (drop m xs)) ∙ ap (λ l. l ++ drop m xs) (take-append-drop n (take m xs)) ∙ take-append-drop m xs))

pub taken_twice : {X : Type 0} (n m : ℕ) (xs : List X) → take n xs ++ take m (drop n xs) ≡ take (n + m) xs
taken_twice zero m xs = ap (λ k. take k xs) (sym sum) where
  sum : zero + m ≡ m
  sum = omega arith
taken_twice (suc n) m [] = take_none m ∙ sym (take_none (suc n + m))
taken_twice (suc n) m (x ∷ xs) =
    let sum : suc (n + m) ≡ suc n + m = omega arith in
    ap (λ l. x ∷ l) (taken_twice n m xs) ∙ ap (λ k. take k (x ∷ xs)) sum

-- ---- where a run is

module _ (rows : List Entity) (q : Question) (course : Course) (is : IsCourse rows q course) where
  pub uses_most : length (uses_at rows q (length course.cells.list)) ≤ course.size
  uses_most = go (cases_lt (length course.cells.list) course.count) where
    go : (length course.cells.list < course.count) ⊎ (course.count ≤ length course.cells.list) → length (uses_at rows q (length course.cells.list)) ≤ course.size
    go (inl inside) = (let sized = sized_here rows q course.count (length course.cells.list) is.count inside in let same = is.size in omega (arith, sized, same))
    go (inr past) = (let none : length (uses_at rows q (length course.cells.list)) ≡ 0 = ap (λ (l : List Use). length l) (uses_past rows q course.count (length course.cells.list) is.count past) in omega (arith, none))

  pub inside_of : 0 < length (uses_at rows q (length course.cells.list)) → length course.cells.list < course.count
  inside_of some = go (cases_lt (length course.cells.list) course.count) where
    go : (length course.cells.list < course.count) ⊎ (course.count ≤ length course.cells.list) → length course.cells.list < course.count
    go (inl inside) = inside
    go (inr past) = (let none : length (uses_at rows q (length course.cells.list)) ≡ 0 = ap (λ (l : List Use). length l) (uses_past rows q course.count (length course.cells.list) is.count past) in absurd (omega (arith, none, some)))

  pub done_within : (taken : ℕ) → IsAheadBy rows q course taken → done_of course + taken ≤ course.count * course.size
  done_within taken by = go (cases_lt (length course.cells.list) course.count) where
    go : (length course.cells.list < course.count) ⊎ (course.count ≤ length course.cells.list) → done_of course + taken ≤ course.count * course.size
    go (inl inside) =
        let most = uses_most in
        let within = by.within in
        let next : (length course.cells.list + 1) * course.size ≤ course.count * course.size = mul-le-mul (omega (arith, inside)) (omega arith) in
        let wide : (length course.cells.list + 1) * course.size ≡ length course.cells.list * course.size + course.size = omega arith in
        omega (arith, most, within, next, wide)
    go (inr past) =
        let none : length (uses_at rows q (length course.cells.list)) ≡ 0 = ap (λ (l : List Use). length l) (uses_past rows q course.count (length course.cells.list) is.count past) in
        let within = by.within in
        let few = is.within in
        let next : length course.cells.list * course.size ≤ course.count * course.size = mul-le-mul few (omega arith) in
        omega (arith, none, within, next)

  pub all_length : length (question_uses rows q) ≡ course.count * course.size
  all_length = all_counted rows q course.count is.count ∙ ap (λ m. course.count * m) (sym is.size)

  pub left_cell : IsGoing course → left_after rows q (done_of course) ≡ drop (length course.known.list) (uses_at rows q (length course.cells.list))
  left_cell going =
      ap (λ s. left_after rows q (length course.cells.list * s + length course.known.list)) is.size
      ∙ left_here rows q course.count (length course.cells.list) (length course.known.list) is.count (λ h. (let g = going h in let same = is.size in omega (arith, g, same)))

  pub idle_ahead : IsGoing course → IsAheadBy rows q course 0 → left_after rows q (done_of course) ≡ uses_ahead rows course.ahead
  idle_ahead going by =
      let same : length course.known.list ≡ length course.known.list + 0 = omega arith in
      left_cell going ∙ ap (λ k. drop k (uses_at rows q (length course.cells.list))) same ∙ sym by.ahead

  pub inside_where : IsAheadBy rows q course 0 → done_of course < course.count * course.size → length course.cells.list < course.count
  inside_where by less = go (cases_lt (length course.cells.list) course.count) where
    go : (length course.cells.list < course.count) ⊎ (course.count ≤ length course.cells.list) → length course.cells.list < course.count
    go (inl inside) = inside
    go (inr past) =
        let next : course.count * course.size ≤ length course.cells.list * course.size = mul-le-mul past (omega arith) in
        absurd (omega (arith, less, next))

  pub some_ahead : IsGoing course → IsAheadBy rows q course 0 → done_of course < course.count * course.size → uses_ahead rows course.ahead ≢ []
  some_ahead going by less none =
      let inside = inside_where by less in
      let fewer = going inside in
      let sized = sized_here rows q course.count (length course.cells.list) is.count inside in
      let same = is.size in
      let left : length (drop (length course.known.list + 0) (uses_at rows q (length course.cells.list))) ≡ length (uses_at rows q (length course.cells.list)) - (length course.known.list + 0) = length-drop (length course.known.list + 0) (uses_at rows q (length course.cells.list)) in
      let zero_left : length (drop (length course.known.list + 0) (uses_at rows q (length course.cells.list))) ≡ 0 = ap (λ (l : List Use). length l) (sym by.ahead ∙ none) in
      omega (arith, left, zero_left, sized, same, fewer)

  pub primitives_ahead : (taken : ℕ) → IsAheadBy rows q course taken → AllByRecursion (λ u. IsPrimitiveRow (row_at rows u.number)) (uses_ahead rows course.ahead)
  primitives_ahead taken by =
      subst (AllByRecursion (λ u. IsPrimitiveRow (row_at rows u.number))) (sym by.ahead)
      (all_dropped (λ u. IsPrimitiveRow (row_at rows u.number)) (length course.known.list + taken) (uses_at rows q (length course.cells.list)) (go (slice_get (all_cells q) (length course.cells.list)))) where
        go : (o : Option Cube) → AllByRecursion (λ u. IsPrimitiveRow (row_at rows u.number)) (uses_of_cell rows q o)
        go None = tt
        go (Some cube) = of_primitives rows (entity_of q) (spans_of (box_of cube))
