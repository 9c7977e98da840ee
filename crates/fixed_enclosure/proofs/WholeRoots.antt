-- Roots of whole numbers by squares: rounded down they are the greatest, rounded up the least.
use Rattle.std.proofs.Common.{◌≡◌, ◌↔◌, ℕ, ◌+◌, ◌*◌, ◌<◌, ◌≤◌, inl, inr, zero, suc, refl, arith, Bool, true, false, if◌then◌else◌, nat_le, nat_eq, mul-le-mul}
use Rattle.std.proofs.lemmas.Bool.{cases_lt}
use lib.Dec.{leb→le, nleb→lt}
use Rattle.fixed_enclosure.specs.Roots.{whole_root, whole_root_up}

abbrev pub IsRoot : ℕ → ℕ → Type 0
IsRoot n r = (r * r ≤ n) × (n < (r + 1) * (r + 1))

root_step : (n r : ℕ) (b : Bool) → IsRoot n r → nat_le ((r + 1) * (r + 1)) (suc n) ≡ b → IsRoot (suc n) (if b then r + 1 else r)
root_step n r true h e = (leb→le _ _ (rw e tt), omega (arith, h.1))
root_step n r false h e = (omega (arith, h.0), nleb→lt _ _ (rw e tt))

pub whole_root-is : (n : ℕ) → IsRoot n (whole_root n)
unfolding whole_root
whole_root-is zero = (omega arith, omega arith)
whole_root-is (suc n) = root_step n (whole_root n) _ (whole_root-is n) refl

-- a square that is no more than another has a root that is no more
pub below_root : (a b n : ℕ) → b * b ≤ n → n < (a + 1) * (a + 1) → b ≤ a
below_root a b n h k = elim (cases_lt a b) [
  | inl l ↦ (let m : (a + 1) * (a + 1) ≤ b * b = mul-le-mul (omega arith) (omega arith) in absurd (omega arith))
  | inr l ↦ l
]

pub whole_root-greatest : (n s : ℕ) → s * s ≤ n → s ≤ whole_root n
whole_root-greatest n s h = below_root (whole_root n) s n h (whole_root-is n).1

pub root_unique : (n r : ℕ) → IsRoot n r → r ≡ whole_root n
root_unique n r h = let w = whole_root-is n in omega (arith, below_root r (whole_root n) n w.0 h.1, whole_root-greatest n r h.0)

-- ---- rounded up
pub above_root : (a b : ℕ) → a * a < b * b → a + 1 ≤ b
above_root a b h = elim (cases_lt a b) [
  | inl l ↦ omega arith
  | inr l ↦ (let m : b * b ≤ a * a = mul-le-mul l l in absurd (omega arith))
]

up_step : (n r : ℕ) (b : Bool) → IsRoot n r → nat_eq (r * r) n ≡ b → (n ≤ (if b then r else r + 1) * (if b then r else r + 1)) × ((s : ℕ) → n ≤ s * s → (if b then r else r + 1) ≤ s)
up_step n r true h e =
    let q : r * r ≡ n = grind arith in
    (omega arith, λ s k. below_root s r (s * s) (omega arith) (omega arith))
up_step n r false h e =
    let q : r * r < n = grind arith in
    (omega arith, λ s k. above_root r s (omega arith))

pub whole_root_up-is : (n : ℕ) → n ≤ whole_root_up n * whole_root_up n
whole_root_up-is n = (up_step n (whole_root n) _ (whole_root-is n) refl).0

pub whole_root_up-least : (n s : ℕ) → n ≤ s * s → whole_root_up n ≤ s
whole_root_up-least n s h = (up_step n (whole_root n) _ (whole_root-is n) refl).1 s h

-- ---- what squares tell of roots, both ways
pub root-by_squares : (n r : ℕ) → (r ≡ whole_root n) ↔ IsRoot n r
root-by_squares n r = (λ e. rw e (whole_root-is n), λ h. root_unique n r h)

pub root_up-by_squares : (n r : ℕ) → (r ≡ whole_root_up n) ↔ ((n ≤ r * r) × ((s : ℕ) → n ≤ s * s → r ≤ s))
root_up-by_squares n r = (
  λ e. rw e (whole_root_up-is n, whole_root_up-least n),
  λ h. omega (arith, whole_root_up-least n r h.0, h.1 (whole_root_up n) (whole_root_up-is n)),
)
