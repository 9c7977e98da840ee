-- The types and forms that are read are small numbers.
use Rattle.std.proofs.Common.{◌≡◌, ℕ, ◌≤◌, List, [], ◌∷◌, Bool, true, false, cond, ◌==◌, ◌&&◌, ◌||◌, nat_le, refl, arith}
use Rattle.std.specs.List.{list_any, AllByRecursion}
use Rattle.std.proofs.lemmas.Bool.Decides.{nat_tests}
use Rattle.iges_parameters.specs.Tables.{solid_types, is_read}

any_small : (most kind : ℕ) (kinds : List ℕ) → AllByRecursion (λ k. k ≤ most) kinds → list_any (λ k. k == kind) kinds ≡ true → kind ≤ most
any_small most kind [] all h = cc
any_small most kind (k ∷ kinds) all h = go (k == kind) refl h (any_small most kind kinds all.1) where
  go : (v : Bool) → k == kind ≡ v → v || list_any (λ k. k == kind) kinds ≡ true → (list_any (λ k. k == kind) kinds ≡ true → kind ≤ most) → kind ≤ most
  go true is h rest = let e : k ≡ kind = grind (arith, nat_tests) in omega (arith, all.0)
  go false is h rest = rest h

second : (a b : Bool) → a && b ≡ true → b ≡ true
second true b h = h
second false b h = cc

small_types : AllByRecursion (λ k. k ≤ 430) solid_types
small_types = (omega arith, (omega arith, (omega arith, (omega arith, (omega arith, (omega arith, (omega arith, (omega arith, (omega arith, (omega arith, tt))))))))))

-- a type that is read is a whole number of at most seven digits
pub small_type : (kind form : ℕ) → is_read kind form ≡ true → kind ≤ 9999999
unfolding is_read
small_type kind form h = go (kind == 124) refl h where
  go : (v : Bool) → kind == 124 ≡ v → cond v (nat_le form 1) ((form == 0) && list_any (λ k. k == kind) solid_types) ≡ true → kind ≤ 9999999
  go true is h = let e : kind ≡ 124 = grind (arith, nat_tests) in omega (arith)
  go false is h = omega (arith, any_small 430 kind solid_types small_types (second (form == 0) (list_any (λ k. k == kind) solid_types) h))

-- a matrix that is read has form 0 or 1
pub matrix_form : (kind form : ℕ) → is_read kind form ≡ true → kind ≡ 124 → form ≤ 1
unfolding is_read
matrix_form kind form h is = let e : nat_le form 1 ≡ true = rw is at h in grind (arith, nat_tests)
