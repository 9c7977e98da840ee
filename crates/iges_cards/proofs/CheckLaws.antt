-- Tests, and checks that give something or a fault.
use Rattle.std.proofs.Common.{◌≡◌, ◌≢◌, ℕ, ◌<◌, ◌≤◌, Bool, true, false, cond, not, ◌&&◌, ◌==◌, nat_lt, Option, None, Some, Result, Ok, Err, refl, ap, arith}
use Rattle.iges_cards.specs.declared.faults.CardFault.{CardFault}
use Rattle.solid_base.specs.Outcomes.{◌>>=◌}

pub both : (a b : Bool) → a && b ≡ true → (a ≡ true) × (b ≡ true)
both true true h = (refl, refl)
both true false h = cc
both false b h = cc

pub and_false : (v w : Bool) → w ≡ false → v && w ≡ false
and_false true w h = h
and_false false w h = refl

pub turned : (v : Bool) → not v ≡ true → v ≡ false
turned true h = cc
turned false h = refl

pub lt_test : (a b : ℕ) → a < b → nat_lt a b ≡ true
lt_test a b h = grind arith

pub not_lt_test : (a b : ℕ) → b ≤ a → nat_lt a b ≡ false
not_lt_test a b h = grind arith

pub at_least : (a b : ℕ) → nat_lt a b ≡ false → b ≤ a
at_least a b h = grind arith

pub same_test : (t : ℕ) → (t == t) ≡ true
same_test t = grind arith

pub test_same : (t b : ℕ) → (t == b) ≡ true → t ≡ b
test_same t b h = grind arith

pub test_other : (t b : ℕ) → t ≢ b → (t == b) ≡ false
test_other t b h = grind arith

pub test_not : (t b : ℕ) → (t == b) ≡ false → t ≢ b
test_not t b h = grind arith

-- what a test let through
pub passed : {A : Type 0} (v : Bool) (x : Option A) (y : A) → cond v x None ≡ Some y → (v ≡ true) × (x ≡ Some y)
passed true x y h = (refl, h)
passed false x y h = cc

-- what a check let through, of which the other way is a fault
pub no_fault : {A : Type 0} (v : Bool) (x : Result A CardFault) (f : CardFault) (y : A) → cond v x (Err f) ≡ Ok y → (v ≡ true) × (x ≡ Ok y)
no_fault true x f y h = (refl, h)
no_fault false x f y h = cc

pub not_stopped : {A : Type 0} (v : Bool) (x : Result A CardFault) (f : CardFault) (y : A) → cond v (Err f) x ≡ Ok y → (v ≡ false) × (x ≡ Ok y)
not_stopped true x f y h = cc
not_stopped false x f y h = (refl, h)

-- two pairs that are the same
pub same_pair : {A B : Type 0} (x a : A) (y b : B) → ◌≡◌ {A = Result (A × B) CardFault} (Ok (x, y)) (Ok (a, b)) → (x ≡ a) × (y ≡ b)
same_pair {A} {B} x a y b h =
    let e : ◌≡◌ {A = A × B} (x, y) (a, b) = cc in
    (ap (λ (p : A × B). p.0) e, ap (λ (p : A × B). p.1) e)

-- a check and the next one gave something
pub both_gave : {A B : Type 0} (o : Result A CardFault) (f : A → Result B CardFault) (y : B) → (o >>= f) ≡ Ok y → (x : A) × (o ≡ Ok x) × (f x ≡ Ok y)
both_gave (Ok x) f y h = (x, refl, h)
both_gave (Err e) f y h = cc

-- where a check gave nothing it gave a fault
pub some_fault : {A : Type 0} (o : Result A CardFault) → ((x : A) → o ≡ Ok x → ⊥)
    → (f : CardFault) × (o ≡ Err f)
some_fault (Ok x) h = absurd (h x refl)
some_fault (Err f) h = (f, refl)
