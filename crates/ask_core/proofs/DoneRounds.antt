-- How many uses are done after rounds, and that it is one number.
use Rattle.std.proofs.Common.{◌≡◌, ◌≢◌, inl, inr, ℕ, suc, ◌+◌, ◌-◌, ◌*◌, ◌<◌, ◌≤◌, ◌%◌, ◌/◌, not, List, [], ◌∷◌, ◌++◌, length, take, drop, map, min, slice_get, Some, refl, sym, ap, ◌∙◌, subst, arith, append_assoc, append-nil, length-append}
use Rattle.std.specs.List.{filter}
use Rattle.std.proofs.Math.Nat.{min-le_right}
use Rattle.std.proofs.Math.Seq.{take-append-add}
use Rattle.std.proofs.lemmas.Bool.{cases_lt}
use Rattle.std.proofs.lemmas.List.{length-take, length-drop, map-append}
use Rattle.std.proofs.lemmas.List.Elements.{filter-append}
use Rattle.solid_base.specs.declared.entities.Model.{Model}
use Rattle.solid_base.specs.References.{at_number}
use Rattle.solid_eval.specs.Solids.{solid_of}
use Rattle.solid_eval.specs.Uses.{Use, leaf_count}
use Rattle.solid_questions.specs.declared.questions.Question.{Question}
use Rattle.solid_questions.specs.Questions.{entity_of}
use Rattle.memo_graph.specs.declared.key.Key.{Key}
use Rattle.memo_graph.specs.Memos.{same_key}
use Rattle.edit_core.specs.Versions.{LogEntry, Version, IsVersionOf}
use Rattle.edit_core.proofs.Logs.{version_unique}
use Rattle.edit_core.proofs.Placing.{at_odd}
use Rattle.edit_core.proofs.StampsOfLogs.{stamp_unique}
use Rattle.ask_core.specs.Machine.{SessionRun}
use Rattle.ask_core.specs.Runs.{IsTaken, Stops, distinct, most_keys, question_uses, use_key, use_keys}
use Rattle.ask_core.specs.RunStates.{left_after}
use Rattle.ask_core.specs.Timely.{IsDoneAfter, at_first, one_more, HasLeft}
use Rattle.ask_core.proofs.CellLists.{front_taken}

pub some_length : {A : Type 0} (xs : List A) → xs ≢ [] → 1 ≤ length xs
some_length [] h = absurd (h refl)
some_length (x ∷ xs) h = omega arith

-- ---- no more rounds than uses

-- what comes next is among what is left
pub next_within : (table : Version) (q : Question) (done : ℕ) (taken : List Use) → IsTaken table (left_after table.model.rows q done) taken
    → length taken ≤ length (question_uses table.model.rows q) - done
next_within table q done taken next =
    let all = question_uses table.model.rows q in
    let size = leaf_count (solid_of table.model.rows (entity_of q)) in
    let long : length (left_after table.model.rows q done) ≡ length taken + length next.rest = ap (λ (l : List Use). length l) next.front ∙ length-append taken next.rest in
    let cut : length (left_after table.model.rows q done) ≡ min (size - done % size) (length (drop done all)) = length-take (size - done % size) (drop done all) in
    let few = min-le_right (size - done % size) (length (drop done all)) in
    let dropped : length (drop done all) ≡ length all - done = length-drop done all in
    omega (arith, long, cut, few, dropped)

pub done_within : (table : Version) (q : Question) (rounds done : ℕ) → IsDoneAfter table q rounds done → done ≤ length (question_uses table.model.rows q)
done_within table q rounds done at_first = omega arith
done_within table q rounds done (one_more {rounds = r} {done = d} {taken = taken} before next) =
    let so_far = done_within table q r d before in
    let few = next_within table q d taken next in
    omega (arith, so_far, few)

pub rounds_within : (table : Version) (q : Question) (rounds done : ℕ) → IsDoneAfter table q rounds done → rounds ≤ done
rounds_within table q rounds done at_first = omega arith
rounds_within table q rounds done (one_more {rounds = r} {done = d} {taken = taken} before next) =
    let so_far = rounds_within table q r d before in
    let one = some_length taken next.some in
    omega (arith, so_far, one)

-- ---- what comes next is one list

distinct_front : (xs ys : List Key) → (rest : List Key) × (distinct (xs ++ ys) ≡ distinct xs ++ rest)
distinct_front [] ys = (distinct ys, refl)
distinct_front (x ∷ xs) ys =
    let (rest, is) = distinct_front xs ys in
    let others = λ (l : List Key). filter (λ other. not (same_key x other)) l in
    (others rest, ap (λ (l : List Key). x ∷ others l) is ∙ ap (λ (l : List Key). x ∷ l) (filter-append (λ other. not (same_key x other)) (distinct xs) rest))

more_distinct : (version : Version) (xs ys : List Use) → length (use_keys version xs) ≤ length (use_keys version (xs ++ ys))
more_distinct version xs ys =
    let (rest, is) = distinct_front (map (use_key version) xs) (map (use_key version) ys) in
    let all : use_keys version (xs ++ ys) ≡ use_keys version xs ++ rest = ap distinct (map-append (use_key version) xs ys) ∙ is in
    let long : length (use_keys version (xs ++ ys)) ≡ length (use_keys version xs) + length rest = ap (λ (l : List Key). length l) all ∙ length-append (use_keys version xs) rest in
    omega (arith, long)

-- of two fronts the longer one begins with the shorter
longer_front : {A : Type 0} (l front rest longer more : List A) → l ≡ front ++ rest → l ≡ longer ++ more → length front ≤ length longer
    → (n : ℕ) × (longer ≡ front ++ take n rest)
longer_front l front rest longer more is is_too few =
    let n = length longer - length front in
    let size : length longer ≡ length front + n = omega (arith, few) in
    (n, front_taken l longer more is_too ∙ ap (λ k. take k l) size ∙ ap (take (length front + n)) is ∙ take-append-add front rest n)

not_shorter : (version : Version) (left a b : List Use) → IsTaken version left a → IsTaken version left b → ¬ (length a < length b)
not_shorter version left a b is other less = go is.rest is.front is.stops where
  go : (rest : List Use) → left ≡ a ++ rest → Stops version a rest → ⊥
  go [] front stops =
      let whole : length left ≡ length a = ap (λ (l : List Use). length l) (front ∙ append-nil a) in
      let long : length left ≡ length b + length other.rest = ap (λ (l : List Use). length l) other.front ∙ length-append b other.rest in
      omega (arith, whole, long, less)
  go (u ∷ rest) front (inl full) = let few = other.few_uses in omega (arith, full, few, less)
  go (u ∷ rest) front (inr many) =
      let one : length (a ++ u ∷ []) ≡ length a + 1 = length-append a (u ∷ []) in
      let (n, longer) = longer_front left (a ++ u ∷ []) rest b other.rest (front ∙ sym (append_assoc a (u ∷ []) rest)) other.front (omega (arith, one, less)) in
      let more = more_distinct version (a ++ u ∷ []) (take n rest) in
      let few : length (use_keys version ((a ++ u ∷ []) ++ take n rest)) ≤ most_keys = subst (λ (l : List Use). length (use_keys version l) ≤ most_keys) longer other.few_keys in
      omega (arith, many, more, few)

pub taken_unique : (version : Version) (left a b : List Use) → IsTaken version left a → IsTaken version left b → a ≡ b
taken_unique version left a b is other =
    let less = not_shorter version left a b is other in
    let more = not_shorter version left b a other is in
    let same : length a ≡ length b = elim (cases_lt (length a) (length b)) [
      | inl l ↦ absurd (less l)
      | inr g ↦ elim (cases_lt (length b) (length a)) [ inl l ↦ absurd (more l) | inr h ↦ omega (arith, g, h) ]
    ] in
    front_taken left a is.rest is.front ∙ ap (λ n. take n left) same ∙ sym (front_taken left b other.rest other.front)

pub done_unique : (table : Version) (q : Question) (rounds a b : ℕ) → IsDoneAfter table q rounds a → IsDoneAfter table q rounds b → a ≡ b
done_unique table q rounds a b at_first at_first = refl
done_unique table q rounds a b (one_more {rounds = r} {done = d} {taken = s} before next) (one_more {done = e} {taken = t} too also) =
    let same : d ≡ e = done_unique table q r d e before too in
    let again = subst (λ (n : ℕ). IsTaken table (left_after table.model.rows q n) t) (sym same) also in
    let taken = taken_unique table (left_after table.model.rows q d) s t next again in
    λ i. same i + length (taken i)

-- ---- what is left is one number

same_items : {A : Type 0} (xs ys : List A) → length xs ≡ length ys → ((i : ℕ) (x y : A) → slice_get xs i ≡ Some x → slice_get ys i ≡ Some y → x ≡ y) → xs ≡ ys
same_items [] [] long each = refl
same_items [] (y ∷ ys) long each = absurd (omega (arith, long))
same_items (x ∷ xs) [] long each = absurd (omega (arith, long))
same_items (x ∷ xs) (y ∷ ys) long each =
    let head : x ≡ y = each 0 x y refl refl in
    let tail : xs ≡ ys = same_items xs ys (omega (arith, long)) (λ i a b p r. each (suc i) a b p r) in
    λ i. head i ∷ tail i

at_place : {A : Type 0} (xs : List A) (i : ℕ) (x : A) → slice_get xs i ≡ Some x → at_number xs (2 * i + 1) ≡ Some x
at_place xs i x is =
    let odd : (2 * i + 1) % 2 ≡ 1 = omega arith in
    let half : (2 * i + 1) / 2 ≡ i = omega arith in
    at_odd xs (2 * i + 1) odd ∙ ap (slice_get xs) half ∙ is

-- the last version of a log is one, with its stamps
pub table_unique : (opening : Model) (log : List LogEntry) (a b : Version) → IsVersionOf opening log a → IsVersionOf opening log b → a ≡ b
table_unique opening log a b is other =
    let number : a.number ≡ b.number = is.number ∙ sym other.number in
    let model : a.model ≡ b.model = version_unique opening log (length log) a.model b.model is.newest other.newest in
    let long : length a.stamps ≡ length b.stamps = is.one_each ∙ ap (λ (m : Model). length m.rows) model ∙ sym other.one_each in
    let stamps : a.stamps ≡ b.stamps = same_items a.stamps b.stamps long (λ i s t at at_too.
    stamp_unique opening log (2 * i + 1) (length log) s t (is.stamps (2 * i + 1) s (at_place a.stamps i s at)) (other.stamps (2 * i + 1) t (at_place b.stamps i t at_too))) in
    λ i. record { number = number i; model = model i; stamps = stamps i }

pub left_unique : (opening : Model) (log : List LogEntry) (run : SessionRun) (rounds a b : ℕ) → HasLeft opening log run rounds a → HasLeft opening log run rounds b → a ≡ b
left_unique opening log run rounds a b is other =
    let size : length is.front ≡ length other.front = is.version ∙ sym other.version in
    let fronts : is.front ≡ other.front = front_taken log is.front is.is_front.0 (sym is.is_front.1) ∙ ap (λ n. take n log) size ∙ sym (front_taken log other.front other.is_front.0 (sym other.is_front.1)) in
    let tables : is.table ≡ other.table = table_unique opening is.front is.table other.table is.is_table (subst (λ (l : List LogEntry). IsVersionOf opening l other.table) (sym fronts) other.is_table) in
    let again = subst (λ (t : Version). IsDoneAfter t run.question rounds other.done) (sym tables) other.is_done in
    let done : is.done ≡ other.done = done_unique is.table run.question rounds is.done other.done is.is_done again in
    is.is_left ∙ (λ i. length (question_uses (tables i).model.rows run.question) - done i) ∙ sym other.is_left
