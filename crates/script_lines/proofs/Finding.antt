-- The place that a search finds is the number of bytes before it that fail the test.
use Rattle.std.proofs.Common.{◌≡◌, ℕ, ◌+◌, ◌<◌, List, [], ◌∷◌, length, Bool, true, false, not, Option, Some, None, refl, sym, ap, ◌∙◌, arith, true≢false}
use Rattle.std.specs.List.{prefix_len}
use Rattle.itertools.specs.Consumer.{find_at}

abbrev place_in : Option (ℕ × ℕ) → ℕ
place_in None = 0
place_in (Some x) = x.0

abbrev is_found : Option (ℕ × ℕ) → Bool
is_found None = false
is_found (Some x) = true

pub place_found : (h g : ℕ → Bool) → ((b : ℕ) → h b ≡ not (g b)) → (i : ℕ) (xs : List ℕ) (p b : ℕ)
    → find_at h i xs ≡ Some (p, b) → (p ≡ i + prefix_len g xs) × (p < i + length xs)
place_found h g opposite i [] p b e = absurd (true≢false (ap is_found (sym e)))
place_found h g opposite i (x ∷ xs) p b e = go (g x) refl (place_found h g opposite (i + 1) xs p b)
  where
    go : (v : Bool) → g x ≡ v → (find_at h (i + 1) xs ≡ Some (p, b) → (p ≡ (i + 1) + prefix_len g xs) × (p < (i + 1) + length xs)) → (p ≡ i + prefix_len g (x ∷ xs)) × (p < i + length (x ∷ xs))
    go true k more =
        let hx : h x ≡ false = opposite x ∙ ap not k in
        let (is, below) = more (rw hx at e) in
        rw k (omega (arith, is), omega (arith, below))
    go false k more =
        let hx : h x ≡ true = opposite x ∙ ap not k in
        let is : i ≡ p = ap place_in (rw hx at e) in
        rw k (omega (arith, is), omega (arith, is))

pub nowhere_found : (h g : ℕ → Bool) → ((b : ℕ) → h b ≡ not (g b)) → (i : ℕ) (xs : List ℕ)
    → find_at h i xs ≡ None → length xs ≡ prefix_len g xs
nowhere_found h g opposite i [] e = refl
nowhere_found h g opposite i (x ∷ xs) e = go (g x) refl (nowhere_found h g opposite (i + 1) xs)
  where
    go : (v : Bool) → g x ≡ v → (find_at h (i + 1) xs ≡ None → length xs ≡ prefix_len g xs) → length (x ∷ xs) ≡ prefix_len g (x ∷ xs)
    go true k more =
        let hx : h x ≡ false = opposite x ∙ ap not k in
        let rest = more (rw hx at e) in
        rw k (omega (arith, rest))
    go false k more =
        let hx : h x ≡ true = opposite x ∙ ap not k in
        absurd (true≢false (ap is_found (rw hx at e)))
