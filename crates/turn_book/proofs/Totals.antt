-- Sums over the views of a table, of which a step changes one.
use Rattle.std.proofs.Common.{◌≡◌, ℕ, zero, suc, ◌+◌, ◌≤◌, ◌≢◌, List, [], ◌∷◌, ◌++◌, set, refl, ap}
use Rattle.std.proofs.Common.{sym, arith}
use mathlib.Core.Option.{some, some-injective, some-ne-none}
use lib.ListN.{get_elem?}
use Rattle.turn_book.specs.TurnRules.{total}

module _ {A : Type 0} (f : A → ℕ) where
  -- the total after v was replaced by w
  pub total_set : (vs : List A) (i : ℕ) (v w : A) → get_elem? vs i ≡ some v
      → total f (set vs i w) + f v ≡ total f vs + f w
  total_set [] i v w at = absurd (some-ne-none v (sym at))
  total_set (x ∷ xs) zero v w at =
      let same : f x ≡ f v = ap f (some-injective x v at) in omega (arith, same)
  total_set (x ∷ xs) (suc i) v w at = let h = total_set xs i v w at in omega (arith, h)

  -- the total after w was added
  pub total_snoc : (vs : List A) (w : A) → total f (vs ++ w ∷ []) ≡ total f vs + f w
  total_snoc [] w = omega arith
  total_snoc (x ∷ xs) w = let h = total_snoc xs w in omega (arith, h)

  pub total_at : (vs : List A) (i : ℕ) (v : A) → get_elem? vs i ≡ some v → f v ≤ total f vs
  total_at [] i v at = absurd (some-ne-none v (sym at))
  total_at (x ∷ xs) zero v at =
      let same : f x ≡ f v = ap f (some-injective x v at) in omega (arith, same)
  total_at (x ∷ xs) (suc i) v at = let h = total_at xs i v at in omega (arith, h)

  pub total_two : (vs : List A) (i j : ℕ) (v w : A) → i ≢ j
      → get_elem? vs i ≡ some v → get_elem? vs j ≡ some w
      → f v + f w ≤ total f vs
  total_two [] i j v w apart at there = absurd (some-ne-none v (sym at))
  total_two (x ∷ xs) zero zero v w apart at there = absurd (apart refl)
  total_two (x ∷ xs) zero (suc j) v w apart at there =
      let same : f x ≡ f v = ap f (some-injective x v at) in
      let h = total_at xs j w there in omega (arith, same, h)
  total_two (x ∷ xs) (suc i) zero v w apart at there =
      let same : f x ≡ f w = ap f (some-injective x w there) in
      let h = total_at xs i v at in omega (arith, same, h)
  total_two (x ∷ xs) (suc i) (suc j) v w apart at there =
      let h = total_two xs i j v w (λ e. apart (ap suc e)) at there in omega (arith, h)

module _ {A : Type 0} (f g : A → ℕ) where
  -- each that has none of f has none of g
  abbrev NoneWithout : List A → Type 0
  NoneWithout vs = (j : ℕ) (w : A) → get_elem? vs j ≡ some w → f w ≡ 0 → g w ≡ 0

  nothing_left : (vs : List A) → NoneWithout vs → total f vs ≡ 0 → total g vs ≡ 0
  nothing_left [] none e = refl
  nothing_left (x ∷ xs) none e =
      let here : g x ≡ 0 = none 0 x refl (omega (arith, e)) in
      let h = nothing_left xs (λ j w at. none (suc j) w at) (omega (arith, e)) in
      omega (arith, here, h)

  -- who has all of f has all of g
  pub all_of_both : (vs : List A) (i : ℕ) (v : A) → NoneWithout vs → get_elem? vs i ≡ some v
      → total f vs ≡ f v → total g vs ≡ g v
  all_of_both [] i v none at e = absurd (some-ne-none v (sym at))
  all_of_both (x ∷ xs) zero v none at e =
      let same = some-injective x v at in
      let f_same : f x ≡ f v = ap f same in let g_same : g x ≡ g v = ap g same in
      let h = nothing_left xs (λ j w there. none (suc j) w there) (omega (arith, f_same, e)) in
      omega (arith, g_same, h)
  all_of_both (x ∷ xs) (suc i) v none at e =
      let within = total_at f xs i v at in
      let here : g x ≡ 0 = none 0 x refl (omega (arith, within, e)) in
      let rest = λ (j : ℕ) (w : A) (there : get_elem? xs j ≡ some w). none (suc j) w there in
      let h = all_of_both xs i v rest at (omega (arith, within, e)) in omega (arith, here, h)
