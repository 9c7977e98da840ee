-- Rounds end a run, and what they evaluate is held after a fill.
use Rattle.std.proofs.Common.{◌≡◌, ℕ, zero, suc, ◌+◌, ◌-◌, ◌*◌, ◌<◌, ◌≤◌, Bool, true, false, cond, List, [], ◌∷◌, length, flat_map, map, take, drop, min, Contains, Some, is_none, refl, sym, ap, ◌∙◌, subst, arith, length-append, mul-le-mul}
use Rattle.std.proofs.Math.Nat.{min-le_right}
use Rattle.std.proofs.lemmas.List.{length-take, length-drop}
use Rattle.solid_base.specs.declared.classes.Verdict.{Verdict}
use Rattle.solid_base.specs.declared.entities.Entity.{Entity}
use Rattle.solid_base.specs.declared.geometry.Cube.{Cube}
use Rattle.solid_base.specs.Graph.{weight_of}
use Rattle.fixed_enclosure.specs.Places.{spans_of}
use Rattle.fixed_enclosure.specs.Spans.{box_of}
use Rattle.solid_eval.specs.Solids.{solid_of}
use Rattle.solid_eval.specs.Uses.{Use, leaf_count}
use Rattle.solid_eval.proofs.FromUses.{uses_counted}
use Rattle.solid_eval.proofs.Uses.{count_most}
use Rattle.solid_questions.specs.declared.questions.Question.{Question}
use Rattle.solid_questions.specs.Questions.{entity_of}
use Rattle.solid_questions.specs.QuestionCells.{all_cells}
use Rattle.memo_graph.specs.declared.key.Key.{Key}
use Rattle.memo_graph.specs.Memos.{Entry, same_key, verdict_of, without, filled}
use Rattle.memo_graph.proofs.Keys.{same_key_exact, same_key_self}
use Rattle.ask_core.specs.Books.{key_verdict, memo_capacity}
use Rattle.ask_core.specs.Runs.{RunFacts, IsRunning, IsReady, IsAtStage, IsTaken, cell_uses, kept_all, left_in_cell, left_of, not_held, run_uses, use_keys, with_taken, worked}
use Rattle.ask_core.specs.Timely.{IsAfterRounds, no_round, one_round}
use Rattle.ask_core.specs.declared.runs.Stage.TheVariants as stage
use Rattle.ask_core.proofs.DoneRounds.{next_within, some_length}
use Rattle.ask_core.proofs.ThriftyRounds.{filter_fewer}

-- ---- how many uses are left

-- as many uses a cell as the entity's solid has
each_counted : (rows : List Entity) (q : Question) (cells : List Cube) → length (flat_map (cell_uses rows q) cells) ≡ length cells * leaf_count (solid_of rows (entity_of q))
each_counted rows q [] = omega arith
each_counted rows q (cube ∷ cells) =
    length-append (cell_uses rows q cube) (flat_map (cell_uses rows q) cells)
    ∙ omega (arith, each_counted rows q cells, uses_counted (solid_of rows (entity_of q)) (spans_of (box_of cube)))

-- a run has no more uses than cells times weight
pub uses_most : (run : RunFacts) → length (run_uses run) ≤ length (all_cells run.question) * weight_of run.table.model.rows (entity_of run.question)
uses_most run =
    let rows = run.table.model.rows in
    let q = run.question in
    let less : length (all_cells q) * leaf_count (solid_of rows (entity_of q)) ≤ length (all_cells q) * weight_of rows (entity_of q) = mul-le-mul (omega arith) (count_most rows (entity_of q)) in
    omega (arith, each_counted rows q (all_cells q), less)

pub left_most : (run : RunFacts) → left_of run ≤ length (all_cells run.question) * weight_of run.table.model.rows (entity_of run.question)
left_most run = let most = uses_most run in omega (arith, most)

pub fewer_left : (run : RunFacts) → IsRunning run → run.stage ≡ stage.Ready → left_of (worked run) < left_of run
fewer_left run running at =
    let ready : IsReady run = subst (IsAtStage run) at running.at_stage in
    let one = some_length run.taken ready.some in
    let long : length run.taken ≡ min (length run.taken) (length (drop run.done (run_uses run))) = ap (λ (l : List Use). length l) ready.next ∙ length-take (length run.taken) (drop run.done (run_uses run)) in
    let few = min-le_right (length run.taken) (length (drop run.done (run_uses run))) in
    let dropped : length (drop run.done (run_uses run)) ≡ length (run_uses run) - run.done = length-drop run.done (run_uses run) in
    omega (arith, one, long, few, dropped)

-- each round lowers how many are left by one at least
left_after_rounds : (rounds : ℕ) (run after : RunFacts) → IsAfterRounds rounds run after → rounds + left_of after ≤ left_of run
left_after_rounds rounds run after no_round = omega arith
left_after_rounds rounds run after (one_round {rounds = r} {after = mid} taken entries before next) =
    let so_far = left_after_rounds r run mid before in
    let one = some_length taken next.some in
    let few = next_within mid.table mid.question mid.done taken next in
    omega (arith, so_far, one, few)

pub rounds_end : (rounds : ℕ) (run after : RunFacts) → IsAfterRounds rounds run after
    → length (all_cells run.question) * weight_of run.table.model.rows (entity_of run.question) ≤ rounds → left_of after ≡ 0
rounds_end rounds run after is enough =
    let left = left_after_rounds rounds run after is in
    let most = left_most run in
    omega (arith, left, most, enough)

-- ---- what is kept is held

-- a key that is held among the first of some entries
abbrev IsHeldWithin : ℕ → Key → Verdict → List Entry → Type 0
IsHeldWithin n key v es = verdict_of key (take n es) ≡ Some v

held_longer : (n : ℕ) (key : Key) (v : Verdict) (es : List Entry) → IsHeldWithin n key v es → IsHeldWithin (suc n) key v es
held_longer zero key v es held = absurd (grind (arith, held))
held_longer (suc n) key v [] held = held
held_longer (suc n) key v (e ∷ es) held = go (same_key key e.0) (held_longer n key v es) held where
  go : (b : Bool) → (IsHeldWithin n key v es → IsHeldWithin (suc n) key v es) → cond b (Some e.1) (verdict_of key (take n es)) ≡ Some v → cond b (Some e.1) (verdict_of key (take (suc n) es)) ≡ Some v
  go true more is = is
  go false more is = more is

held_whole : (n : ℕ) (key : Key) (v : Verdict) (es : List Entry) → IsHeldWithin n key v es → verdict_of key es ≡ Some v
held_whole zero key v es held = absurd (grind (arith, held))
held_whole (suc n) key v [] held = held
held_whole (suc n) key v (e ∷ es) held = go (same_key key e.0) (held_whole n key v es) held where
  go : (b : Bool) → (IsHeldWithin n key v es → verdict_of key es ≡ Some v) → cond b (Some e.1) (verdict_of key (take n es)) ≡ Some v → cond b (Some e.1) (verdict_of key es) ≡ Some v
  go true more is = is
  go false more is = more is

-- the entry of another key is taken out
held_without : (n : ℕ) (key other : Key) (v : Verdict) (es : List Entry) → same_key key other ≡ false → IsHeldWithin n key v es → IsHeldWithin n key v (without other es)
held_without zero key other v es apart held = held
held_without (suc n) key other v [] apart held = held
held_without (suc n) key other v (e ∷ es) apart held = go (same_key other e.0) refl (same_key key e.0) refl (held_without n key other v es apart) held where
  go : (b : Bool) → same_key other e.0 ≡ b → (c : Bool) → same_key key e.0 ≡ c → (IsHeldWithin n key v es → IsHeldWithin n key v (without other es))
      → cond c (Some e.1) (verdict_of key (take n es)) ≡ Some v → IsHeldWithin (suc n) key v (cond b (without other es) (e ∷ without other es))
  go true is true at more held =
      let same : other ≡ e.0 = (same_key_exact other e.0).0 is in
      absurd (let h : same_key key other ≡ true = subst (λ k. same_key key k ≡ true) (sym same) at in grind (arith, apart, h))
  go true is false at more held = held_longer n key v (without other es) (more held)
  go false is true at more held = rw at held
  go false is false at more held = rw at (more held)

taken_within : {A : Type 0} (n m : ℕ) (xs : List A) → n ≤ m → take n (take m xs) ≡ take n xs
taken_within zero m xs few = refl
taken_within (suc n) zero xs few = absurd (omega (arith, few))
taken_within (suc n) (suc m) [] few = refl
taken_within (suc n) (suc m) (x ∷ xs) few = ap (λ l. x ∷ l) (taken_within n m xs (omega (arith, few)))

-- the entry of a key is first, and one fill more lets it sink by one place
filled_first : (most : ℕ) (key : Key) (v : Verdict) (es : List Entry) → 0 < most → IsHeldWithin 1 key v (filled most key v es)
unfolding filled
filled_first zero key v es some = absurd (omega (arith, some))
filled_first (suc most) key v es some = rw (same_key_self key) refl

filled_next : (most n : ℕ) (key other : Key) (f : Key → Verdict) (es : List Entry) → suc n ≤ most → IsHeldWithin n key (f key) es → IsHeldWithin (suc n) key (f key) (filled most other (f other) es)
unfolding filled
filled_next zero n key other f es room held = absurd (omega (arith, room))
filled_next (suc most) n key other f es room held = go (same_key key other) refl where
  cut : take n (take most (without other es)) ≡ take n (without other es)
  cut = taken_within n most (without other es) (omega (arith, room))

  go : (b : Bool) → same_key key other ≡ b → cond b (Some (f other)) (verdict_of key (take n (take most (without other es)))) ≡ Some (f key)
  go true is = ap (λ k. Some (f k)) (sym ((same_key_exact key other).0 is))
  go false is = ap (verdict_of key) cut ∙ held_without n key other (f key) es is held

kept_still : (most n : ℕ) (key : Key) (f : Key → Verdict) (wanted : List Key) (es : List Entry) → n + length wanted ≤ most → IsHeldWithin n key (f key) es
    → verdict_of key (kept_all most (map (λ k. (k, f k)) wanted) es) ≡ Some (f key)
kept_still most n key f [] es room held = held_whole n key (f key) es held
kept_still most n key f (k ∷ wanted) es room held =
    kept_still most (suc n) key f wanted (filled most k (f k) es) (omega (arith, room)) (filled_next most n key k f es (omega (arith, room)) held)

kept_held : (most : ℕ) (key : Key) (f : Key → Verdict) (wanted : List Key) (es : List Entry) → length wanted ≤ most → Contains wanted key
    → verdict_of key (kept_all most (map (λ k. (k, f k)) wanted) es) ≡ Some (f key)
kept_held most key f [] es room there = absurd (omega (arith, there.1))
kept_held most key f (k ∷ wanted) es room (zero, inside, is) =
    let first = subst (λ (x : Key). IsHeldWithin 1 x (f x) (filled most k (f k) es)) is (filled_first most k (f k) es (omega (arith, room))) in
    kept_still most 1 key f wanted (filled most k (f k) es) (omega (arith, room)) first
kept_held most key f (k ∷ wanted) es room (suc i, inside, is) =
    kept_held most key f wanted (filled most k (f k) es) (omega (arith, room)) (i, omega (arith, inside), is)

pub kept_keys : (run : RunFacts) (taken : List Use) (found entries : List Entry) (key : Key) → IsTaken run.table (left_in_cell run) taken → Contains (with_taken run taken found).wanted key
    → verdict_of key (kept_all memo_capacity (worked (with_taken run taken found)).fresh entries) ≡ Some (key_verdict run.table.model.rows key)
kept_keys run taken found entries key next there =
    let wanted = not_held (use_keys run.table taken) found in
    let fewer = filter_fewer (λ key. is_none (verdict_of key found)) (use_keys run.table taken) in
    let few = next.few_keys in
    let room : length wanted ≤ memo_capacity = omega (arith, fewer, few) in
    kept_held memo_capacity key (key_verdict run.table.model.rows) wanted entries room there
