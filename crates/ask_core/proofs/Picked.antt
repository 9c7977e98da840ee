-- Items at places of lists, and lists that are read to their ends.
use Rattle.std.proofs.Common.{◌≡◌, ℕ, zero, suc, ◌<◌, List, [], ◌∷◌, ◌++◌, length, map, slice_get, slice_index_or, Contains, cond, is_none, Option, None, Some, refl, ap, arith}
use Rattle.std.specs.List.{AllByRecursion}
use Rattle.solid_base.specs.declared.classes.Verdict.{Verdict}
use Rattle.memo_graph.specs.declared.key.Key.{Key}
use Rattle.memo_graph.specs.Memos.{Entry, verdict_of}
use Rattle.ask_core.specs.Runs.{not_held}
use Rattle.ask_core.specs.Rounds.{picked, unfound}
use Rattle.ask_core.proofs.CellLists.{place_within}

-- an item that stands at a place
pub contained_at : {X : Type 0} (xs : List X) (x : X) → Contains xs x → (k : ℕ) × (slice_get xs k ≡ Some x)
contained_at xs x (k, inside, is) = (k, go xs k inside is) where
  go : (ys : List _) (n : ℕ) → n < length ys → slice_index_or ys n x ≡ x → slice_get ys n ≡ Some x
  go [] n h e = absurd (omega (arith, h))
  go (y ∷ ys) zero h e = ap Some e
  go (y ∷ ys) (suc n) h e = go ys n (omega (arith, h)) e

-- places are picked in lists that grow too
pub grown_get : {X : Type 0} (xs more : List X) (n : ℕ) (x : X) → slice_get xs n ≡ Some x → slice_get (xs ++ more) n ≡ Some x
grown_get [] more n x is = grind (arith, is)
grown_get (y ∷ xs) more zero x is = is
grown_get (y ∷ xs) more (suc n) x is = grown_get xs more n x is

pub last_get : {X : Type 0} (xs : List X) (x : X) → slice_get (xs ++ x ∷ []) (length xs) ≡ Some x
last_get [] x = refl
last_get (y ∷ xs) x = last_get xs x

first_some : {X : Type 0} (a b : Option X) (r s : List (Option X)) → a ∷ r ≡ b ∷ s → (a ≡ b) × (r ≡ s)
first_some a b r s is = grind (arith, is)

pub grown_picked : {X Y : Type 0} (xs more : List X) (places : List ℕ) (f : Y → X) (ys : List Y)
    → picked xs places ≡ map (λ y. Some (f y)) ys → picked (xs ++ more) places ≡ map (λ y. Some (f y)) ys
grown_picked xs more [] f [] is = refl
grown_picked xs more [] f (y ∷ ys) is = grind (arith, is)
grown_picked xs more (p ∷ places) f [] is = grind (arith, is)
grown_picked xs more (p ∷ places) f (y ∷ ys) is =
    let both = first_some (slice_get xs p) (Some (f y)) (picked xs places) (map (λ y. Some (f y)) ys) is in
    let here = grown_get xs more p (f y) both.0 in
    let rest = grown_picked xs more places f ys both.1 in
    λ i. here i ∷ rest i

-- so many places as there are items
pub picked_length : {X Y : Type 0} (xs : List X) (places : List ℕ) (f : Y → X) (ys : List Y)
    → picked xs places ≡ map (λ y. Some (f y)) ys → length places ≡ length ys
picked_length xs [] f [] is = refl
picked_length xs [] f (y ∷ ys) is = grind (arith, is)
picked_length xs (p ∷ places) f [] is = grind (arith, is)
picked_length xs (p ∷ places) f (y ∷ ys) is =
    let both = first_some (slice_get xs p) (Some (f y)) (picked xs places) (map (λ y. Some (f y)) ys) is in
    ap suc (picked_length xs places f ys both.1)

pub picked_inside : {X Y : Type 0} (xs : List X) (places : List ℕ) (f : Y → X) (ys : List Y)
    → picked xs places ≡ map (λ y. Some (f y)) ys → AllByRecursion (λ p. p < length xs) places
picked_inside xs [] f ys is = tt
picked_inside xs (p ∷ places) f [] is = grind (arith, is)
picked_inside xs (p ∷ places) f (y ∷ ys) is =
    let both = first_some (slice_get xs p) (Some (f y)) (picked xs places) (map (λ y. Some (f y)) ys) is in
    (place_within xs p (f y) both.0, picked_inside xs places f ys both.1)

get_mapped : {X Z : Type 0} (g : X → Z) (xs : List X) (n : ℕ) (x : X) → slice_get xs n ≡ Some x → slice_get (map g xs) n ≡ Some (g x)
get_mapped g [] n x is = grind (arith, is)
get_mapped g (y ∷ xs) zero x is = (let same : y ≡ x = grind (arith, is) in ap (λ z. Some (g z)) same)
get_mapped g (y ∷ xs) (suc n) x is = get_mapped g xs n x is

-- and what is made of each item
pub picked_mapped : {X Y Z : Type 0} (g : X → Z) (xs : List X) (places : List ℕ) (f : Y → X) (ys : List Y)
    → picked xs places ≡ map (λ y. Some (f y)) ys → picked (map g xs) places ≡ map Some (map (λ y. g (f y)) ys)
picked_mapped g xs [] f [] is = refl
picked_mapped g xs [] f (y ∷ ys) is = grind (arith, is)
picked_mapped g xs (p ∷ places) f [] is = grind (arith, is)
picked_mapped g xs (p ∷ places) f (y ∷ ys) is =
    let both = first_some (slice_get xs p) (Some (f y)) (picked xs places) (map (λ y. Some (f y)) ys) is in
    let here = get_mapped g xs p (f y) both.0 in
    let rest = picked_mapped g xs places f ys both.1 in
    λ i. here i ∷ rest i

-- lists that are the same with Some before each item
pub same_by_some : {X : Type 0} (xs ys : List X) → map Some xs ≡ map Some ys → xs ≡ ys
same_by_some [] [] is = refl
same_by_some [] (y ∷ ys) is = grind (arith, is)
same_by_some (x ∷ xs) [] is = grind (arith, is)
same_by_some (x ∷ xs) (y ∷ ys) is =
    let both = first_some (Some x) (Some y) (map Some xs) (map Some ys) is in
    let same : x ≡ y = grind (arith, both.0) in
    let rest = same_by_some xs ys both.1 in
    λ i. same i ∷ rest i

-- ---- keys that weren't found

pub unfound_held : (keys : List Key) (entries : List Entry) → unfound keys (map (λ key. verdict_of key entries) keys) ≡ not_held keys entries
unfound_held [] entries = refl
unfound_held (key ∷ keys) entries = go (unfound_held keys entries) (verdict_of key entries) where
  go : unfound keys (map (λ key. verdict_of key entries) keys) ≡ not_held keys entries → (o : Option Verdict)
      → unfound (key ∷ keys) (o ∷ map (λ key. verdict_of key entries) keys) ≡ cond (is_none o) (key ∷ not_held keys entries) (not_held keys entries)
  go rest None = ap (λ l. key ∷ l) rest
  go rest (Some v) = rest

pub unfound_there : (keys : List Key) (found : List (Option Verdict)) (key : Key) → Contains (unfound keys found) key → Contains keys key
unfound_there [] found key h = h
unfound_there (k ∷ keys) [] key h = absurd (omega (arith, h.1))
unfound_there (k ∷ keys) (Some v ∷ found) key h = (let there = unfound_there keys found key h in (suc there.0, (let i = there.1 in omega (arith, i)), there.2))
unfound_there (k ∷ keys) (None ∷ found) key (zero, inside, is) = (zero, omega arith, is)
unfound_there (k ∷ keys) (None ∷ found) key (suc n, inside, is) =
    let there = unfound_there keys found key (n, omega (arith, inside), is) in (suc there.0, (let i = there.1 in omega (arith, i)), there.2)
