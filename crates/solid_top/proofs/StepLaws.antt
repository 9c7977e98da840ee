-- Tests of numbers.
use Rattle.std.proofs.Common.{◌≡◌, ◌≢◌, ℕ, true, false, ◌==◌, arith}

pub same_test : (t : ℕ) → (t == t) ≡ true
same_test t = grind arith

pub test_same : (t b : ℕ) → (t == b) ≡ true → t ≡ b
test_same t b h = grind arith

pub test_other : (t b : ℕ) → t ≢ b → (t == b) ≡ false
test_other t b h = grind arith

pub test_not : (t b : ℕ) → (t == b) ≡ false → t ≢ b
test_not t b h = grind arith
