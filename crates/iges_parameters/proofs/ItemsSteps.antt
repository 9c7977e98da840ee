-- Chains of reading steps: what the whole gives, its parts gave.
use Rattle.std.proofs.Common.{◌≡◌, Bool, true, false, cond, Result, Ok, Err, refl}
use Rattle.iges_parameters.specs.declared.faults.RowFault.{RowFault}
use Rattle.solid_base.specs.Outcomes.{◌>>=◌}

-- the value of a step
pub bind_ok : {A B : Type 0} (r : Result A RowFault) (f : A → Result B RowFault) (y : B) → r >>= f ≡ Ok y → (x : A) × (r ≡ Ok x) × (f x ≡ Ok y)
bind_ok (Ok x) f y h = (x, refl, h)
bind_ok (Err e) f y h = cc

-- two values of one reading are one
pub ok_same : {A : Type 0} (x y : A) → ◌≡◌ {A = Result A RowFault} (Ok x) (Ok y) → x ≡ y
ok_same x y h = cc

-- what passes a test is the number that was tested
pub guarded : {A : Type 0} (test : Bool) (e : RowFault) (x y : A) → cond test (Ok x) (Err e) ≡ Ok y → (test ≡ true) × (x ≡ y)
guarded true e x y h = (refl, ok_same x y h)
guarded false e x y h = cc

-- what a test didn't stop
pub not_stopped : {A : Type 0} (test : Bool) (e : RowFault) (r : Result A RowFault) (y : A) → cond test (Err e) r ≡ Ok y → (test ≡ false) × (r ≡ Ok y)
not_stopped true e r y h = cc
not_stopped false e r y h = (refl, h)
