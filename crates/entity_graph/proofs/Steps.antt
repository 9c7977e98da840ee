-- One item more of a list.
use Rattle.std.proofs.Common.{◌≡◌, ℕ, zero, suc, ◌+◌, ◌<◌, List, [], ◌∷◌, ◌++◌, Some, get_or, length, take, drop, refl, ap, arith}
use Rattle.std.specs.Prelude.{slice_get}

pub take_step : {X : Type 0} (xs : List X) (i j : ℕ) (x : X) → j ≡ i + 1 → slice_get xs i ≡ Some x → take j xs ≡ take i xs ++ x ∷ []
take_step {X = X} [] i j x e s = absurd cc
take_step {X = X} (y ∷ xs) i zero x e s = absurd (omega arith)
take_step {X = X} (y ∷ xs) zero (suc j) x e s =
    let n : j ≡ 0 = omega arith in
    let z : ◌≡◌ {A = List X} (take j xs) [] = ap (λ k. take k xs) n in
    let q : y ≡ x = cc in
    rw (z, q) refl
take_step {X = X} (y ∷ xs) (suc i) (suc j) x e s = ap (λ (l : List X). y ∷ l) (take_step xs i j x (omega arith) s)

pub split_step : {X : Type 0} (xs : List X) (i : ℕ) (x : X) → slice_get xs i ≡ Some x → xs ≡ take i xs ++ x ∷ drop (suc i) xs
split_step {X = X} [] i x s = absurd cc
split_step {X = X} (y ∷ xs) zero x s = let q : y ≡ x = cc in ap (λ z. z ∷ xs) q
split_step {X = X} (y ∷ xs) (suc i) x s = ap (λ (l : List X). y ∷ l) (split_step xs i x s)

-- an item of a list, whatever is read after the end
pub same_default : {X : Type 0} (xs : List X) (i : ℕ) (x d : X) → i < length xs → x ≡ get_or xs i x → x ≡ get_or xs i d
same_default {X = X} [] i x d h e = absurd (omega arith)
same_default {X = X} (y ∷ xs) zero x d h e = e
same_default {X = X} (y ∷ xs) (suc i) x d h e = same_default xs i x d (omega arith) e
