-- Powers of ten.
use Rattle.std.proofs.Common.{◌≡◌, ℕ, zero, suc, ◌*◌, ◌^◌, ◌<◌, ◌≤◌, List, [], ◌∷◌, ◌∙◌, arith, slice_index_or}
use Rattle.std.proofs.Math.Nat.{pow-suc, pow-le-pow_right}

-- n powers of ten, from x on
powers : ℕ → ℕ → List ℕ
powers zero x = []
powers (suc n) x = x ∷ powers n (x * 10)

powers_at : (n x k : ℕ) → k < n → slice_index_or (powers n x) k 0 ≡ x * 10 ^ k
unfolding powers
powers_at zero x k h = absurd (omega arith)
powers_at (suc n) x zero h = omega arith
powers_at (suc n) x (suc k) h = powers_at n (x * 10) k (omega arith) ∙ rw (pow-suc 10 k) (omega arith)

pub table_at : (k : ℕ) → k ≤ 18
    → slice_index_or (1 ∷ 10 ∷ 100 ∷ 1000 ∷ 10000 ∷ 100000 ∷ 1000000 ∷ 10000000 ∷ 100000000 ∷ 1000000000 ∷ 10000000000 ∷ 100000000000 ∷ 1000000000000 ∷ 10000000000000 ∷ 100000000000000 ∷ 1000000000000000 ∷ 10000000000000000 ∷ 100000000000000000 ∷ 1000000000000000000 ∷ []) k 0 ≡ 10 ^ k
unfolding powers
table_at k h = powers_at 19 1 k (omega arith) ∙ omega arith

pub power_at_least : (k e : ℕ) → k ≤ e → 10 ^ k ≤ 10 ^ e
power_at_least k e h = pow-le-pow_right (omega arith) h
