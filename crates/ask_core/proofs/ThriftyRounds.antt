-- Each evaluation leaves one entry more, where there is room for all keys.
use Rattle.std.proofs.Common.{◌≡◌, ℕ, zero, suc, ◌+◌, ◌-◌, ◌<◌, ◌≤◌, Bool, true, false, not, cond, List, [], ◌∷◌, ◌++◌, length, map, Contains, Option, None, Some, is_none, refl, sym, ap, subst, ◌∙◌, arith}
use Rattle.std.specs.List.{filter, AllByRecursion}
use Rattle.std.proofs.lemmas.List.{length-map}
use Rattle.std.proofs.lemmas.List.Elements.{Contains-append_right}
use Rattle.solid_base.specs.declared.classes.Verdict.{Verdict}
use Rattle.solid_base.specs.Ledgers.{counted, most_count, RisesUpTo}
use Rattle.solid_base.proofs.Counts.{counted_rises}
use Rattle.solid_eval.specs.Uses.{Use}
use Rattle.solid_questions.specs.declared.questions.Question.{Question}
use Rattle.memo_graph.specs.declared.key.Key.{Key}
use Rattle.memo_graph.specs.Memos.{Entry, IsMemo, EachOnce, same_key, verdict_of, without, promoted, filled}
use Rattle.memo_graph.proofs.Keys.{same_key_exact, different_keys}
use Rattle.memo_graph.proofs.Entries.{without-none}
use Rattle.memo_graph.proofs.Keeping.{verdicts-promoted, length-promoted, memo-promoted, fits-filled}
use Rattle.edit_core.specs.Versions.{Version}
use Rattle.ask_core.specs.Books.{BookFacts, key_verdict, memo_capacity}
use Rattle.ask_core.specs.Frugal.{EachDiffers}
use Rattle.ask_core.specs.Runs.{RunFacts, IsRunning, IsAtStage, IsOwnKey, GoesOnWith, next_stage, use_key, use_keys, distinct, looked, not_held, kept_all, with_taken, worked, settled, left_of}
use Rattle.ask_core.specs.Thrift.{HoldEntries, HoldUses, EachIsKept, IsThrifty, IsFurther}
use Rattle.ask_core.specs.declared.runs.Stage.TheVariants as stage
use Rattle.ask_core.proofs.KeptEntries.{looked_old}
use Rattle.ask_core.proofs.OpenQuestions.{open_not_at_once}

-- ---- a list of entries is no longer than one that holds their keys

-- the other keys
abbrev others : Key → List Key → List Key
others k keys = filter (λ other. not (same_key k other)) keys

pub filter_fewer : {X : Type 0} (p : X → Bool) (xs : List X) → length (filter p xs) ≤ length xs
filter_fewer p [] = omega arith
filter_fewer p (x ∷ xs) = go (p x) (filter_fewer p xs) where
  go : (b : Bool) → length (filter p xs) ≤ length xs → length (cond b (x ∷ filter p xs) (filter p xs)) ≤ suc (length xs)
  go true h = omega (arith, h)
  go false h = omega (arith, h)

others_shorter : (k : Key) (keys : List Key) → Contains keys k → length (others k keys) < length keys
others_shorter k [] there = absurd (omega (arith, there.1))
others_shorter k (y ∷ keys) (zero, inside, is) =
    subst (λ b. length (cond (not b) (y ∷ others k keys) (others k keys)) < suc (length keys)) (sym ((same_key_exact k y).1 (sym is))) (let fewer = filter_fewer (λ other. not (same_key k other)) keys in omega (arith, fewer))
others_shorter k (y ∷ keys) (suc i, inside, is) = go (same_key k y) (others_shorter k keys (i, omega (arith, inside), is)) where
  go : (b : Bool) → length (others k keys) < length keys → length (cond (not b) (y ∷ others k keys) (others k keys)) < suc (length keys)
  go true h = omega (arith, h)
  go false h = omega (arith, h)

among_others : (k x : Key) (keys : List Key) → same_key k x ≡ false → Contains keys x → Contains (others k keys) x
among_others k x [] other there = there
among_others k x (y ∷ keys) other (zero, inside, is) =
    subst (λ b. Contains (cond (not b) (y ∷ others k keys) (others k keys)) x) (sym (subst (λ z. same_key k z ≡ false) (sym is) other)) (zero, omega arith, is)
among_others k x (y ∷ keys) other (suc i, inside, is) = go (same_key k y) (among_others k x keys other (i, omega (arith, inside), is)) where
  go : (b : Bool) → Contains (others k keys) x → Contains (cond (not b) (y ∷ others k keys) (others k keys)) x
  go true h = h
  go false h = Contains-append_right (y ∷ []) (others k keys) x h

-- a key that isn't held is neither the first one's nor held in the rest
not_first : (k : Key) (e : Entry) (es : List Entry) → verdict_of k (e ∷ es) ≡ None → (same_key k e.0 ≡ false) × (verdict_of k es ≡ None)
not_first k e es none = go (same_key k e.0) refl none where
  go : (b : Bool) → same_key k e.0 ≡ b → cond b (Some e.1) (verdict_of k es) ≡ None → (same_key k e.0 ≡ false) × (verdict_of k es ≡ None)
  go true is h = grind (arith, h)
  go false is h = (is, h)

differs : (k : Key) (es : List Entry) (x : Entry) → verdict_of k es ≡ None → Contains es x → same_key k x.0 ≡ false
differs k [] x none there = absurd (omega (arith, there.1))
differs k (e ∷ es) x none (zero, inside, is) = subst (λ (y : Entry). same_key k y.0 ≡ false) is (not_first k e es none).0
differs k (e ∷ es) x none (suc i, inside, is) = differs k es x (not_first k e es none).1 (i, omega (arith, inside), is)

pub no_longer : (es : List Entry) (keys : List Key) → EachOnce es → HoldEntries keys es → length es ≤ length keys
no_longer [] keys once held = omega arith
no_longer (e ∷ es) keys once held =
    let shorter = others_shorter e.0 keys (held e (zero, omega arith, refl)) in
    let rest = no_longer es (others e.0 keys) once.1 (λ x c. among_others e.0 x.0 keys (differs e.0 es x once.0 c) (held x (Contains-append_right (e ∷ []) es x c))) in
    omega (arith, shorter, rest)

-- ---- keys that aren't held, each once

pub all_filtered : {X : Type 0} (P : X → Type 0) (p : X → Bool) (xs : List X) → AllByRecursion P xs → AllByRecursion P (filter p xs)
all_filtered P p [] all = tt
all_filtered P p (x ∷ xs) all = go (p x) (all_filtered P p xs all.1) where
  go : (b : Bool) → AllByRecursion P (filter p xs) → AllByRecursion P (cond b (x ∷ filter p xs) (filter p xs))
  go true h = (all.0, h)
  go false h = h

distinct_filtered : (p : Key → Bool) (keys : List Key) → EachDiffers keys → EachDiffers (filter p keys)
distinct_filtered p [] d = tt
distinct_filtered p (k ∷ keys) d = go (p k) (distinct_filtered p keys d.1) where
  go : (b : Bool) → EachDiffers (filter p keys) → EachDiffers (cond b (k ∷ filter p keys) (filter p keys))
  go true h = (all_filtered (λ y. same_key k y ≡ false) p keys d.0, h)
  go false h = h

others_differ : (k : Key) (keys : List Key) → AllByRecursion (λ y. same_key k y ≡ false) (others k keys)
others_differ k [] = tt
others_differ k (y ∷ keys) = go (same_key k y) refl (others_differ k keys) where
  go : (b : Bool) → same_key k y ≡ b → AllByRecursion (λ y. same_key k y ≡ false) (others k keys)
      → AllByRecursion (λ y. same_key k y ≡ false) (cond (not b) (y ∷ others k keys) (others k keys))
  go true is h = h
  go false is h = (is, h)

pub distinct_is : (keys : List Key) → EachDiffers (distinct keys)
distinct_is [] = tt
distinct_is (k ∷ keys) = (others_differ k (distinct keys), distinct_filtered (λ other. not (same_key k other)) (distinct keys) (distinct_is keys))

pub distinct_fewer : (keys : List Key) → length (distinct keys) ≤ length keys
distinct_fewer [] = omega arith
distinct_fewer (k ∷ keys) = omega (arith, filter_fewer (λ other. not (same_key k other)) (distinct keys), distinct_fewer keys)

pub none_held : (keys : List Key) (es : List Entry) → AllByRecursion (λ k. verdict_of k es ≡ None) (not_held keys es)
none_held [] es = tt
none_held (k ∷ keys) es = go (verdict_of k es) refl (none_held keys es) where
  go : (o : Option Verdict) → verdict_of k es ≡ o → AllByRecursion (λ k. verdict_of k es ≡ None) (not_held keys es)
      → AllByRecursion (λ k. verdict_of k es ≡ None) (cond (is_none o) (k ∷ not_held keys es) (not_held keys es))
  go None is h = (is, h)
  go (Some v) is h = h

pub not_held_distinct : (keys : List Key) (es : List Entry) → EachDiffers (not_held (distinct keys) es)
not_held_distinct keys es = distinct_filtered (λ key. is_none (verdict_of key es)) (distinct keys) (distinct_is keys)

-- ---- after looks the same are held

pub looked_verdict : (keys : List Key) (es : List Entry) (q : Key) → verdict_of q (looked keys es) ≡ verdict_of q es
looked_verdict [] es q = refl
looked_verdict (k ∷ keys) es q = looked_verdict keys (promoted k es) q ∙ verdicts-promoted k q es

pub looked_memo : (keys : List Key) (es : List Entry) (most : ℕ) → IsMemo (record { entries = es; capacity = most }) → IsMemo (record { entries = looked keys es; capacity = most })
looked_memo [] es most m = m
looked_memo (k ∷ keys) es most m = looked_memo keys (promoted k es) most (memo-promoted k es most m)

pub looked_length : (keys : List Key) (es : List Entry) (most : ℕ) → IsMemo (record { entries = es; capacity = most }) → length (looked keys es) ≡ length es
looked_length [] es most m = refl
looked_length (k ∷ keys) es most m = looked_length keys (promoted k es) most (memo-promoted k es most m) ∙ length-promoted k es m.once

pub none_looked : (keys : List Key) (es : List Entry) (wanted : List Key) → AllByRecursion (λ k. verdict_of k es ≡ None) wanted → AllByRecursion (λ k. verdict_of k (looked keys es) ≡ None) wanted
none_looked keys es wanted all = subst (λ (v : Key → Option Verdict). AllByRecursion (λ k. v k ≡ None) wanted) (λ i. λ k. sym (looked_verdict keys es k) i) all

-- ---- entries that are kept

-- a key that isn't held isn't held after another one's entry
flip : (a b : Key) → same_key a b ≡ false → same_key b a ≡ false
flip a b is = different_keys b a (λ same. absurd (let h = (same_key_exact a b).1 (sym same) in grind (arith, is, h)))

still_none : (k : Key) (v : Verdict) (es : List Entry) (keys : List Key) → AllByRecursion (λ y. same_key k y ≡ false) keys → AllByRecursion (λ y. verdict_of y es ≡ None) keys
    → AllByRecursion (λ y. verdict_of y ((k, v) ∷ es) ≡ None) keys
still_none k v es [] other none = tt
still_none k v es (y ∷ keys) other none = (ap (λ b. cond b (Some v) (verdict_of y es)) (flip k y other.0) ∙ none.0, still_none k v es keys other.1 none.1)

-- each is one entry more, where some keys, not too many, hold all
pub kept_each : (f : Key → Verdict) (most : ℕ) (keys wanted : List Key) (es : List Entry) → length keys ≤ most → EachOnce es → HoldEntries keys es → EachDiffers wanted
    → AllByRecursion (λ k. verdict_of k es ≡ None) wanted → AllByRecursion (Contains keys) wanted
    → HoldEntries keys (kept_all most (map (λ k. (k, f k)) wanted) es) × (length (kept_all most (map (λ k. (k, f k)) wanted) es) ≡ length es + length wanted)
kept_each f most keys [] es few once held apart none own = (held, omega arith)
kept_each f most keys (k ∷ wanted) es few once held apart none own =
    let once_more : EachOnce ((k, f k) ∷ es) = (none.0, once) in
    let room = no_longer ((k, f k) ∷ es) keys once_more held_more in
    let fits : length (without k es) < most = subst (λ l. length l < most) (sym (without-none k es none.0)) (omega (arith, room, few)) in
    let is : filled most k (f k) es ≡ (k, f k) ∷ es = fits-filled most k (f k) es fits ∙ ap (λ l. (k, f k) ∷ l) (without-none k es none.0) in
    let rest = kept_each f most keys wanted ((k, f k) ∷ es) few once_more held_more apart.1 (still_none k (f k) es wanted apart.0 none.1) own.1 in
    subst (λ x. HoldEntries keys (kept_all most (map (λ k. (k, f k)) wanted) x) × (length (kept_all most (map (λ k. (k, f k)) wanted) x) ≡ length es + suc (length wanted))) (sym is) (rest.0, omega (arith, rest.1)) where
      held_more : HoldEntries keys ((k, f k) ∷ es)
      held_more x (zero, inside, is) = subst (λ (y : Entry). Contains keys y.0) is own.0
      held_more x (suc i, inside, is) = held x (i, omega (arith, inside), is)

-- ---- a round of a run

module _ (run : RunFacts) (taken : List Use) (es : List Entry) where
  abbrev keys_taken : List Key
  keys_taken = use_keys run.table taken

  abbrev at_work : RunFacts
  at_work = worked (with_taken run taken es)

  -- it evaluates no more than it takes
  few_wanted : length (not_held keys_taken es) ≤ length taken
  few_wanted =
      let held = filter_fewer (λ key. is_none (verdict_of key es)) keys_taken in
      let once = distinct_fewer (map (use_key run.table) taken) in
      let all = length-map taken (use_key run.table) in
      omega (arith, held, once, all)

  pub round_light : (before after : ℕ) → before ≤ most_count → IsRunning at_work → after ≡ counted before (length (not_held keys_taken es))
      → RisesUpTo before after (left_of run - left_of (settled at_work))
  round_light before after bounded running is =
      let rises = subst (λ n. RisesUpTo before n (length (not_held keys_taken es))) (sym is) (counted_rises before (length (not_held keys_taken es)) bounded) in
      (rises.0, omega (arith, rises.1, few_wanted, running.within))

  -- the keys that it evaluates are those of uses of the run
  own_wanted : (keys : List Key) → HoldUses keys run.table run.question → (f : Key → Verdict) (wanted : List Key)
      → ((x : Entry) → Contains (map (λ k. (k, f k)) wanted) x → IsOwnKey run x.0) → AllByRecursion (Contains keys) wanted
  own_wanted keys uses f [] own = tt
  own_wanted keys uses f (k ∷ wanted) own =
      let first = own (k, f k) (zero, omega arith, refl) in (
        subst (Contains keys) (sym first.2) (uses first.0 first.1),
        own_wanted keys uses f wanted (λ x c. own x (Contains-append_right ((k, f k) ∷ []) (map (λ k. (k, f k)) wanted) x c)),
      )

  pub round_thrifty : (before after most : ℕ) (new : List Entry) → IsMemo (record { entries = es; capacity = most }) → IsRunning at_work → after ≡ counted before (length (not_held keys_taken es))
      → new ≡ kept_all memo_capacity at_work.fresh (looked keys_taken es) → IsThrifty run.table run.question es new before after
  round_thrifty before after most new memo running count is keys few held begun =
      let uses = begun (open_not_at_once run.table.model.rows run.question running.cells running.not_refused) in
      let wanted = not_held keys_taken es in
      let f = key_verdict run.table.model.rows in
      let own = own_wanted keys uses f wanted (λ x c. (running.at_stage.own x c).0) in
      let none = none_looked keys_taken es wanted (none_held keys_taken es) in
      let kept = kept_each f memo_capacity keys wanted (looked keys_taken es) few (looked_memo keys_taken es most memo).once
      (λ x c. held x (looked_old keys_taken es x c)) (not_held_distinct (map (use_key run.table) taken) es) none own in
      let long = looked_length keys_taken es most memo in
      subst (λ l. EachIsKept keys es l before after) (sym is) (record {
        held = kept.0;
        each = omega (arith, kept.1, long, within_ticks count);
      }) where
        within_ticks : after ≡ counted before (length (not_held keys_taken es)) → after ≤ before + length (not_held keys_taken es)
        within_ticks is = grind (arith, is)

-- ---- rounds one after the other

pub next_idle : (n : ℕ) → 0 < n → next_stage n ≡ stage.Idle
next_idle zero h = absurd (omega (arith, h))
next_idle (suc n) h = refl

pub further_self : (run : RunFacts) → IsRunning run → run.stage ≡ stage.Idle → IsFurther run run
further_self run running idle = record {
  opening = refl;
  log = refl;
  table = refl;
  question = refl;
  stage = idle ∙ sym (next_idle (left_of run) (subst (IsAtStage run) idle running.at_stage).1);
  left = omega arith;
}

pub further_twice : (a b c : RunFacts) → IsFurther a b → IsFurther b c → IsFurther a c
further_twice a b c first second = record {
  opening = second.opening ∙ first.opening;
  log = second.log ∙ first.log;
  table = second.table ∙ first.table;
  question = second.question ∙ first.question;
  stage = second.stage;
  left = omega (arith, first.left, second.left);
}

pub goes_on_still : (old new : RunFacts) (book after : BookFacts) → IsFurther old new → GoesOnWith old book → after.opening ≡ book.opening → after.log ≡ book.log → GoesOnWith new after
goes_on_still old new book after further front opening log = (further.opening ∙ front.0 ∙ sym opening, (front.1.0, ap (λ l. l ++ front.1.0) further.log ∙ front.1.1 ∙ sym log))

pub rises_twice : (a b c first second third : ℕ) → second ≤ first → third ≤ second → RisesUpTo a b (first - second) → RisesUpTo b c (second - third) → RisesUpTo a c (first - third)
rises_twice a b c first second third m n x y = (omega (arith, x.0, y.0), omega (arith, x.1, y.1, m, n))

pub thrifty_none : (table : Version) (q : Question) (es : List Entry) (count : ℕ) → IsThrifty table q es es count count
thrifty_none table q es count keys few held uses = record { held = held; each = omega arith }

pub thrifty_twice : (table : Version) (q : Question) (es more all : List Entry) (a b c : ℕ) → IsThrifty table q es more a b → IsThrifty table q more all b c → IsThrifty table q es all a c
thrifty_twice table q es more all a b c first second keys few held uses =
    let one = first keys few held uses in
    let two = second keys few one.held uses in
    record { held = two.held; each = omega (arith, one.each, two.each) }

-- on the version and with the question of a run that is less far
pub thrifty_before : (old new : RunFacts) (es all : List Entry) (a b : ℕ) → IsFurther old new → IsThrifty new.table new.question es all a b → IsThrifty old.table old.question es all a b
thrifty_before old new es all a b further h =
    subst (λ (t : Version). IsThrifty t old.question es all a b) further.table (subst (λ (q : Question). IsThrifty new.table q es all a b) further.question h)
