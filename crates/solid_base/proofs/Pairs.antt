-- Pairs that are the same.
use Rattle.std.proofs.Common.{◌≡◌, Option, Some, ap}

pub same_pair : {A B : Type 0} (x a : A) (y b : B) → ◌≡◌ {A = Option (A × B)} (Some (x, y)) (Some (a, b)) → (x ≡ a) × (y ≡ b)
same_pair {A} {B} x a y b h =
    let e : ◌≡◌ {A = A × B} (x, y) (a, b) = cc in
    (ap (λ (p : A × B). p.0) e, ap (λ (p : A × B). p.1) e)
