-- What stands in front of a list, as long as a test passes.
use Rattle.std.proofs.Common.{◌≡◌, ℕ, ◌+◌, suc, List, [], ◌∷◌, ◌++◌, length, take, drop, Bool, true, false, cond, ◌&&◌, IsTrue, refl, ap, subst, ◌∙◌, one-add}
use Rattle.std.specs.List.{prefix_len, AllByRecursion}
use Rattle.std.proofs.Math.Seq.{take-length, take-append_seam, drop-append_seam}

pub both : (a b : Bool) → a && b ≡ true → (a ≡ true) × (b ≡ true)
both true true h = (refl, refl)
both true false h = cc
both false true h = cc
both false false h = cc

pub together : (a b : Bool) → a ≡ true → b ≡ true → a && b ≡ true
together a b h k = rw (h, k) refl

-- each item passes the test
abbrev pub AllPass : (ℕ → Bool) → List ℕ → Type 0
AllPass p xs = AllByRecursion (λ b. IsTrue (p b)) xs

pub prefix_upto : (p : ℕ → Bool) (xs ys : List ℕ) → AllPass p xs → prefix_len p ys ≡ 0 → prefix_len p (xs ++ ys) ≡ length xs
prefix_upto p [] ys all stop = stop
prefix_upto p (x ∷ xs) ys all stop = rw (all.0, one-add) (ap suc (prefix_upto p xs ys all.1 stop))

pub front_upto : (p : ℕ → Bool) (xs ys : List ℕ) → AllPass p xs → prefix_len p ys ≡ 0 → take (prefix_len p (xs ++ ys)) (xs ++ ys) ≡ xs
front_upto p xs ys all stop = rw (prefix_upto p xs ys all stop) (take-append_seam xs ys)

pub rest_upto : (p : ℕ → Bool) (xs ys : List ℕ) → AllPass p xs → prefix_len p ys ≡ 0 → drop (prefix_len p (xs ++ ys)) (xs ++ ys) ≡ ys
rest_upto p xs ys all stop = rw (prefix_upto p xs ys all stop) (drop-append_seam xs ys)

pub front_passes : (p : ℕ → Bool) (xs : List ℕ) → AllPass p (take (prefix_len p xs) xs)
front_passes p [] = tt
front_passes p (x ∷ xs) = go (p x) refl (front_passes p xs) where
  go : (v : Bool) → p x ≡ v → AllPass p (take (prefix_len p xs) xs) → AllPass p (take (cond v (1 + prefix_len p xs) 0) (x ∷ xs))
  go true e more = rw one-add (e, more)
  go false e more = tt

pub all_pass : (p : ℕ → Bool) (xs : List ℕ) → prefix_len p xs ≡ length xs → AllPass p xs
all_pass p xs e =
    let whole : take (prefix_len p xs) xs ≡ xs = ap (λ (n : ℕ). take n xs) e ∙ take-length xs in
    subst (λ (t : List ℕ). AllPass p t) whole (front_passes p xs)
