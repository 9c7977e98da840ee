-- Properties that hold or don't, and the first number and the first item of which one holds.
use Rattle.std.proofs.Common.{◌≡◌, ◌⊎◌, inl, inr, ℕ, zero, suc, ◌<◌, ◌≤◌, List, [], ◌∷◌, ◌++◌, length, refl, ap, subst, arith}
use Rattle.std.proofs.lemmas.Bool.{cases_eq, cases_lt}
use Rattle.std.specs.List.{AllByRecursion, Contains, slice_index_or}

-- a property holds, or it doesn't
abbrev pub Decided : Type 0 → Type 0
Decided P = P ⊎ (¬ P)

-- one of two properties, the other named first
pub turned : (P Q : Type 0) → P ⊎ Q → Q ⊎ P
turned P Q (inl p) = inr p
turned P Q (inr q) = inl q

-- two properties hold together, or they don't
pub both_decided : (P Q : Type 0) → Decided P → Decided Q → Decided (P × Q)
both_decided P Q (inl p) (inl q) = inl (p, q)
both_decided P Q (inl p) (inr fails) = inr (λ b. fails b.1)
both_decided P Q (inr fails) (inl q) = inr (λ b. fails b.0)
both_decided P Q (inr fails) (inr none) = inr (λ b. fails b.0)

neither : (P Q : Type 0) → ¬ P → ¬ Q → P ⊎ Q → ⊥
neither P Q fails none (inl p) = fails p
neither P Q fails none (inr q) = none q

-- one of two properties holds, or neither
pub either_decided : (P Q : Type 0) → Decided P → Decided Q → Decided (P ⊎ Q)
either_decided P Q (inl p) q = inl (inl p)
either_decided P Q (inr fails) (inl q) = inl (inr q)
either_decided P Q (inr fails) (inr none) = inr (neither P Q fails none)

-- a property fails, or it doesn't
pub not_decided : (P : Type 0) → Decided P → Decided (¬ P)
not_decided P (inl p) = inr (λ fails. fails p)
not_decided P (inr fails) = inl fails

-- what says the same as a decided property is decided
pub as_decided : (P Q : Type 0) → (P → Q) → (Q → P) → Decided P → Decided Q
as_decided P Q there back (inl p) = inl (there p)
as_decided P Q there back (inr fails) = inr (λ q. fails (back q))

-- a number stands in a list or not
pub contains_decided : (xs : List ℕ) (x : ℕ) → Decided (Contains xs x)
contains_decided [] x = inr (λ c. omega (arith, c.1))
contains_decided (y ∷ ys) x = as_decided ((y ≡ x) ⊎ Contains ys x) (Contains (y ∷ ys) x) there (λ c. back c.0 c.1 c.2) (either_decided (y ≡ x) (Contains ys x) (cases_eq y x) (contains_decided ys x)) where
  there : (y ≡ x) ⊎ Contains ys x → Contains (y ∷ ys) x
  there (inl e) = (0, omega arith, e)
  there (inr c) = (suc c.0, omega (arith, c.1), c.2)

  back : (k : ℕ) → k < length (y ∷ ys) → slice_index_or (y ∷ ys) k x ≡ x → (y ≡ x) ⊎ Contains ys x
  back zero l is = inl is
  back (suc k) l is = inr (k, omega (arith, l), is)

-- ---- the first of all numbers below a bound

-- all numbers below a bound are good, or there is a first bad one
pub first_or_all : (Good Bad : ℕ → Type 0) → ((k : ℕ) → Good k ⊎ Bad k) → (n : ℕ)
    → ((k : ℕ) → k < n → Good k) ⊎ ((k : ℕ) × (k < n) × Bad k × ((j : ℕ) → j < k → Good j))
first_or_all Good Bad decide zero = inl (λ k h. let none : ⊥ = omega (arith, h) in absurd none)
first_or_all Good Bad decide (suc n) = go (first_or_all Good Bad decide n) (decide n) where
  last : ((k : ℕ) → k < n → Good k) → Good n → (k : ℕ) → k < suc n → (k < n) ⊎ (n ≤ k) → Good k
  last all here k h (inr up) = let e : n ≡ k = omega (arith, h, up) in subst Good e here
  last all here k h (inl below) = all k below

  go : ((k : ℕ) → k < n → Good k) ⊎ ((k : ℕ) × (k < n) × Bad k × ((j : ℕ) → j < k → Good j)) → Good n ⊎ Bad n
      → ((k : ℕ) → k < suc n → Good k) ⊎ ((k : ℕ) × (k < suc n) × Bad k × ((j : ℕ) → j < k → Good j))
  go (inr f) here = inr (f.0, omega (arith, f.1), f.2, f.3)
  go (inl all) (inl good) = inl (λ k h. last all good k h (cases_lt k n))
  go (inl all) (inr bad) = inr (n, omega arith, bad, all)

-- the same where what is past the bound is good: all numbers are, or there is a first bad one
pub first_or_ever : (Good Bad : ℕ → Type 0) → ((k : ℕ) → Good k ⊎ Bad k) → (n : ℕ) → ((k : ℕ) → n ≤ k → Good k)
    → ((k : ℕ) → Good k) ⊎ ((k : ℕ) × Bad k × ((j : ℕ) → j < k → Good j))
first_or_ever Good Bad decide n past = go (first_or_all Good Bad decide n) where
  side : ((k : ℕ) → k < n → Good k) → (k : ℕ) → (k < n) ⊎ (n ≤ k) → Good k
  side all k (inr up) = past k up
  side all k (inl below) = all k below

  go : ((k : ℕ) → k < n → Good k) ⊎ ((k : ℕ) × (k < n) × Bad k × ((j : ℕ) → j < k → Good j)) → ((k : ℕ) → Good k) ⊎ ((k : ℕ) × Bad k × ((j : ℕ) → j < k → Good j))
  go (inl all) = inl (λ k. side all k (cases_lt k n))
  go (inr f) = inr (f.0, f.2, f.3)

-- a property holds of some number or of none, where it holds of none past a bound
pub some_decided : (P : ℕ → Type 0) → ((k : ℕ) → Decided (P k)) → (n : ℕ) → ((k : ℕ) → n ≤ k → ¬ P k) → Decided ((k : ℕ) × P k)
some_decided P decide n past = go (first_or_ever (λ k. ¬ P k) P (λ k. turned (P k) (¬ P k) (decide k)) n past) where
  go : ((k : ℕ) → ¬ P k) ⊎ ((k : ℕ) × P k × ((j : ℕ) → j < k → ¬ P j)) → Decided ((k : ℕ) × P k)
  go (inl none) = inr (λ p. none p.0 p.1)
  go (inr f) = inl (f.0, f.1)

-- ---- the first item of a list

-- the first item of a list of which a property holds
pub record FirstItem {X : Type 0} (bad : X → Type 0) (xs : List X) : Type 0 where
  pub front : List X
  pub named : X
  pub rest : List X
  pub stands : xs ≡ front ++ named ∷ rest
  pub before : AllByRecursion (λ x. ¬ bad x) front
  pub holds : bad named

-- a property holds of no item, or there is a first one
pub first_item : {X : Type 0} (bad : X → Type 0) → ((x : X) → Decided (bad x)) → (xs : List X) → AllByRecursion (λ x. ¬ bad x) xs ⊎ FirstItem bad xs
first_item {X} bad decide [] = inl tt
first_item {X} bad decide (x ∷ xs) = go (decide x) (first_item bad decide xs) where
  go : Decided (bad x) → AllByRecursion (λ x. ¬ bad x) xs ⊎ FirstItem bad xs → AllByRecursion (λ x. ¬ bad x) (x ∷ xs) ⊎ FirstItem bad (x ∷ xs)
  go (inl here) more = inr (record { front = []; named = x; rest = xs; stands = refl; before = tt; holds = here })
  go (inr fails) (inl none) = inl (fails, none)
  go (inr fails) (inr f) = inr (record { front = x ∷ f.front; named = f.named; rest = f.rest; stands = ap (λ (ys : List X). x ∷ ys) f.stands; before = (fails, f.before); holds = f.holds })
