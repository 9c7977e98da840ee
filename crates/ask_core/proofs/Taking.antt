-- One use more is taken.
use Rattle.std.proofs.Common.{◌≡◌, ℕ, zero, suc, ◌+◌, ◌<◌, ◌≤◌, Bool, true, false, not, cond, List, [], ◌∷◌, ◌++◌, length, map, slice_get, Option, Some, Contains, refl, sym, ap, ◌∙◌, subst, arith, append-nil, length-append}
use Rattle.std.specs.List.{filter, AllByRecursion}
use Rattle.std.proofs.lemmas.List.{map-append}
use Rattle.std.proofs.lemmas.List.Elements.{filter-append}
use Rattle.solid_eval.specs.Uses.{Use}
use Rattle.memo_graph.specs.declared.key.Key.{Key}
use Rattle.memo_graph.specs.Memos.{same_key}
use Rattle.memo_graph.proofs.Keys.{same_key_exact, different_keys}
use Rattle.edit_core.specs.Versions.{Version}
use Rattle.ask_core.specs.Runs.{use_key, use_keys, distinct, most_keys}
use Rattle.ask_core.specs.Rounds.{picked, IsPrimitiveKey, IsRoundOf}
use Rattle.ask_core.specs.declared.rounds.Round.{Round}
use Rattle.ask_core.proofs.Picked.{grown_picked, last_get}

-- ---- distinct keys

abbrev is_in : Key → List Key → Bool
is_in key [] = false
is_in key (x ∷ keys) = cond (same_key x key) true (is_in key keys)

in_others : (x key : Key) → same_key x key ≡ false → (keys : List Key) → is_in key (filter (λ other. not (same_key x other)) keys) ≡ is_in key keys
in_others x key other [] = refl
in_others x key other (y ∷ keys) = go (in_others x key other keys) (same_key x y) refl where
  go : is_in key (filter (λ other. not (same_key x other)) keys) ≡ is_in key keys → (b : Bool) → same_key x y ≡ b
      → is_in key (cond (not b) (y ∷ filter (λ other. not (same_key x other)) keys) (filter (λ other. not (same_key x other)) keys)) ≡ is_in key (y ∷ keys)
  go rest true is =
      let same : x ≡ y = (same_key_exact x y).0 is in
      let not_key : same_key y key ≡ false = subst (λ k. same_key k key ≡ false) same other in
      rest ∙ sym (ap (λ b. cond b true (is_in key keys)) not_key)
  go rest false is = ap (λ b. cond (same_key y key) true b) rest

pub one_key_more : (keys : List Key) (key : Key) → distinct (keys ++ key ∷ []) ≡ distinct keys ++ cond (is_in key (distinct keys)) [] (key ∷ [])
one_key_more [] key = refl
one_key_more (x ∷ keys) key = go (one_key_more keys key) (same_key x key) refl where
  kept : (b c : Bool) → filter (λ other. not (same_key x other)) (cond b [] (key ∷ [])) ≡ cond b [] (cond (not (same_key x key)) (key ∷ []) [])
  kept true c = refl
  kept false c = refl

  none : (b : Bool) → cond {A = List Key} b [] [] ≡ []
  none true = refl
  none false = refl

  go : distinct (keys ++ key ∷ []) ≡ distinct keys ++ cond (is_in key (distinct keys)) [] (key ∷ []) → (b : Bool) → same_key x key ≡ b
      → distinct ((x ∷ keys) ++ key ∷ []) ≡ distinct (x ∷ keys) ++ cond (cond b true (is_in key (filter (λ other. not (same_key x other)) (distinct keys)))) [] (key ∷ [])
  go rest true is =
      let others = λ (l : List Key). filter (λ other. not (same_key x other)) l in
      let b = is_in key (distinct keys) in
      ap (λ l. x ∷ filter (λ other. not (same_key x other)) l) rest
      ∙ ap (λ l. x ∷ l) (filter-append (λ other. not (same_key x other)) (distinct keys) (cond b [] (key ∷ [])))
      ∙ ap (λ l. x ∷ (others (distinct keys) ++ l)) (kept b b ∙ ap (λ c. cond b [] (cond (not c) (key ∷ []) [])) is ∙ none b)
  go rest false is =
      let others = λ (l : List Key). filter (λ other. not (same_key x other)) l in
      let b = is_in key (distinct keys) in
      ap (λ l. x ∷ filter (λ other. not (same_key x other)) l) rest
      ∙ ap (λ l. x ∷ l) (filter-append (λ other. not (same_key x other)) (distinct keys) (cond b [] (key ∷ [])))
      ∙ ap (λ l. x ∷ (others (distinct keys) ++ l)) (kept b b ∙ ap (λ c. cond b [] (cond (not c) (key ∷ []) [])) is)
      ∙ ap (λ c. x ∷ (others (distinct keys) ++ cond c [] (key ∷ []))) (sym (in_others x key is (distinct keys)))

in_there : (keys : List Key) (n : ℕ) (key : Key) → slice_get keys n ≡ Some key → is_in key keys ≡ true
in_there [] n key is = grind (arith, is)
in_there (x ∷ keys) zero key is = (let same : x ≡ key = grind (arith, is) in ap (λ b. cond b true (is_in key keys)) ((same_key_exact x key).1 same))
in_there (x ∷ keys) (suc n) key is = ap (λ b. cond (same_key x key) true b) (in_there keys n key is) ∙ always (same_key x key) where
  always : (b : Bool) → cond b true true ≡ true
  always true = refl
  always false = refl

not_in : (keys : List Key) (key : Key) → ¬ Contains keys key → is_in key keys ≡ false
not_in [] key none = refl
not_in (x ∷ keys) key none =
    let other : same_key x key ≡ false = different_keys x key (λ same. none (zero, omega arith, same)) in
    let rest = not_in keys key (λ there. none (suc there.0, (let h = there.1 in omega (arith, h)), there.2)) in
    ap (λ b. cond b true (is_in key keys)) other ∙ rest

module _ (version : Version) where
  pub keys_with : (taken : List Use) (u : Use) (keys : List Key) → keys ≡ use_keys version taken
      → use_keys version (taken ++ u ∷ []) ≡ keys ++ cond (is_in (use_key version u) keys) [] (use_key version u ∷ [])
  keys_with taken u keys is =
      ap distinct (map-append (use_key version) taken (u ∷ [])) ∙ one_key_more (map (use_key version) taken) (use_key version u)
      ∙ ap (λ l. l ++ cond (is_in (use_key version u) l) [] (use_key version u ∷ [])) (sym is)

  -- a key that is there
  pub same_keys : (taken : List Use) (u : Use) (keys : List Key) (n : ℕ) → keys ≡ use_keys version taken → slice_get keys n ≡ Some (use_key version u)
      → keys ≡ use_keys version (taken ++ u ∷ [])
  same_keys taken u keys n is there =
      sym (keys_with taken u keys is ∙ ap (λ b. keys ++ cond b [] (use_key version u ∷ [])) (in_there keys n (use_key version u) there) ∙ append-nil keys)

  -- a new key
  pub more_keys : (taken : List Use) (u : Use) (keys : List Key) → keys ≡ use_keys version taken → ¬ Contains keys (use_key version u)
      → keys ++ use_key version u ∷ [] ≡ use_keys version (taken ++ u ∷ [])
  more_keys taken u keys is none =
      sym (keys_with taken u keys is ∙ ap (λ b. keys ++ cond b [] (use_key version u ∷ [])) (not_in keys (use_key version u) none))

-- ---- a round with one use more

place_added : (version : Version) (taken : List Use) (u : Use) (keys : List Key) (places : List ℕ) (n : ℕ) → picked keys places ≡ map (λ u. Some (use_key version u)) taken
    → slice_get keys n ≡ Some (use_key version u) → picked keys (places ++ n ∷ []) ≡ map (λ u. Some (use_key version u)) (taken ++ u ∷ [])
place_added version taken u keys places n is there =
    map-append (slice_get keys) places (n ∷ [])
    ∙ ap (λ l. l ++ slice_get keys n ∷ []) is
    ∙ ap (λ o. map (λ u. Some (use_key version u)) taken ++ o ∷ []) there
    ∙ sym (map-append (λ u. Some (use_key version u)) taken (u ∷ []))

pub held_taken : (version : Version) (taken : List Use) (u : Use) (old new : Round) (n : ℕ)
    → IsRoundOf version taken old → slice_get old.keys.list n ≡ Some (use_key version u)
    → new.keys.list ≡ old.keys.list → new.places.list ≡ old.places.list ++ n ∷ []
    → IsRoundOf version (taken ++ u ∷ []) new
held_taken version taken u old new n is there keys places = record {
  keys = keys ∙ same_keys version taken u old.keys.list n is.keys there;
  places = ap (λ l. picked l new.places.list) keys ∙ ap (picked old.keys.list) places ∙ place_added version taken u old.keys.list old.places.list n is.places there;
  few = subst (λ (l : List Key). length l ≤ most_keys) (sym keys) is.few;
  primitives = subst (AllByRecursion (IsPrimitiveKey version.model.rows)) (sym keys) is.primitives;
}

all_with : {X : Type 0} (P : X → Type 0) (xs : List X) (x : X) → AllByRecursion P xs → P x → AllByRecursion P (xs ++ x ∷ [])
all_with P [] x h p = (p, tt)
all_with P (y ∷ xs) x h p = (h.0, all_with P xs x h.1 p)

pub new_taken : (version : Version) (taken : List Use) (u : Use) (old new : Round)
    → IsRoundOf version taken old → ¬ Contains old.keys.list (use_key version u) → length old.keys.list < most_keys → IsPrimitiveKey version.model.rows (use_key version u)
    → new.keys.list ≡ old.keys.list ++ use_key version u ∷ [] → new.places.list ≡ old.places.list ++ length old.keys.list ∷ []
    → IsRoundOf version (taken ++ u ∷ []) new
new_taken version taken u old new is none less primitive keys places =
    let key = use_key version u in
    let long : length new.keys.list ≡ length old.keys.list + 1 = ap (λ (l : List Key). length l) keys ∙ length-append old.keys.list (key ∷ []) in
    record {
      keys = keys ∙ more_keys version taken u old.keys.list is.keys none;
      places = ap (λ l. picked l new.places.list) keys ∙ ap (picked (old.keys.list ++ key ∷ [])) places
          ∙ place_added version taken u (old.keys.list ++ key ∷ []) old.places.list (length old.keys.list)
          (grown_picked old.keys.list (key ∷ []) old.places.list (use_key version) taken is.places) (last_get old.keys.list key);
      few = omega (arith, long, less);
      primitives = subst (AllByRecursion (IsPrimitiveKey version.model.rows)) (sym keys) (all_with (IsPrimitiveKey version.model.rows) old.keys.list key is.primitives primitive);
    }

pub one_too_many : (version : Version) (taken : List Use) (u : Use) (keys : List Key) → keys ≡ use_keys version taken → most_keys ≤ length keys → ¬ Contains keys (use_key version u)
    → most_keys < length (use_keys version (taken ++ u ∷ []))
one_too_many version taken u keys is full none =
    let long : length (use_keys version (taken ++ u ∷ [])) ≡ length keys + 1 =
    ap (λ (l : List Key). length l) (sym (more_keys version taken u keys is none)) ∙ length-append keys (use_key version u ∷ []) in
    omega (arith, long, full)

pub only_one : {X : Type 0} (a b : Option X) → a ∷ [] ≡ b ∷ [] → a ≡ b
only_one a b is = grind (arith, is)
