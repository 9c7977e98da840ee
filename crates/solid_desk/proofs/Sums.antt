-- Sums over the places below a bound.
use Rattle.std.proofs.Common.{◌≡◌, inl, inr, ℕ, zero, suc, ◌+◌, ◌<◌, ◌≤◌, refl, subst, sym, arith}
use Rattle.std.proofs.lemmas.Bool.{cases_eq}

-- f 0 + f 1 + .. + f (n - 1)
abbrev pub sum_below : ℕ → (ℕ → ℕ) → ℕ
sum_below zero f = 0
sum_below (suc n) f = sum_below n f + f n

pub sum_both : (n : ℕ) (f g : ℕ → ℕ) → sum_below n (λ p. f p + g p) ≡ sum_below n f + sum_below n g
sum_both zero f g = refl
sum_both (suc n) f g = let h = sum_both n f g in omega (arith, h)

pub sum_none : (n : ℕ) (f : ℕ → ℕ) → ((p : ℕ) → p < n → f p ≡ 0) → sum_below n f ≡ 0
sum_none zero f none = refl
sum_none (suc n) f none =
    let before = sum_none n f (λ p low. none p (omega (arith, low))) in
    let here = none n (omega arith) in
    omega (arith, before, here)

-- 1 at one place, and 0 at each other
pub sum_one : (n q : ℕ) (f : ℕ → ℕ) → f q ≡ 1 → ((p : ℕ) → (p ≡ q → ⊥) → f p ≡ 0) → q < n → sum_below n f ≡ 1
sum_one zero q f one none lt = absurd (omega (arith, lt))
sum_one (suc n) q f one none lt = elim (cases_eq q n) [
  | inl e ↦ (let before = sum_none n f (λ p low. none p (λ same. omega (arith, same, low, e))) in
      let here = subst (λ (m : ℕ). f m ≡ 1) e one in
      omega (arith, before, here))
  | inr apart ↦ (let before = sum_one n q f one none (omega (arith, lt, apart)) in
      let here = none n (λ same. apart (sym same)) in
      omega (arith, before, here))
]

pub sum_ones : (n : ℕ) (f : ℕ → ℕ) → ((p : ℕ) → p < n → f p ≡ 1) → sum_below n f ≡ n
sum_ones zero f one = refl
sum_ones (suc n) f one =
    let before = sum_ones n f (λ p low. one p (omega (arith, low))) in
    let here = one n (omega arith) in
    omega (arith, before, here)

-- at most 1 at each place
pub sum_few : (n : ℕ) (f : ℕ → ℕ) → ((p : ℕ) → p < n → f p ≤ 1) → sum_below n f ≤ n
sum_few zero f few = omega arith
sum_few (suc n) f few =
    let before = sum_few n f (λ p low. few p (omega (arith, low))) in
    let here = few n (omega arith) in
    omega (arith, before, here)

-- at most 1 at each place, and as much as there are places: 1 at each
pub sum_full : (n : ℕ) (f : ℕ → ℕ) → ((p : ℕ) → p < n → f p ≤ 1) → sum_below n f ≡ n → (p : ℕ) → p < n → f p ≡ 1
sum_full zero f few full p lt = absurd (omega (arith, lt))
sum_full (suc n) f few full p lt =
    let few_before : (q : ℕ) → q < n → f q ≤ 1 = λ q low. few q (omega (arith, low)) in
    let before = sum_few n f few_before in
    let here = few n (omega arith) in
    let one : f n ≡ 1 = omega (arith, full, before, here) in
    elim (cases_eq n p) [
      | inl e ↦ subst (λ (m : ℕ). f m ≡ 1) e one
      | inr apart ↦ sum_full n f few_before (omega (arith, full, one)) p (omega (arith, lt, apart))
    ]
