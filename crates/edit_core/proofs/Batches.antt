-- What staging a change does to a batch: it stays without a number that is staged twice.
use Rattle.std.proofs.Common.{◌≡◌, ◌≢◌, ◌⊎◌, inl, inr, ℕ, suc, ◌+◌, ◌==◌, nat_eq, List, [], ◌∷◌, Bool, true, false, cond, length, not, Option, Some, is_some, refl, ap, arith}
use Rattle.std.specs.Int.{from_bool}
use Rattle.std.specs.List.{AllByRecursion}
use Rattle.std.specs.Map.{lookup}
use Rattle.indexmap.specs.IndexMap.{insert_entry}
use Rattle.edit_core.specs.declared.changes.Change.{Change}
use Rattle.edit_core.specs.Batches.{Staged, stage, IsStaged, AreApart, IsLawfulChange, AreLawful}

pub test_not : (t b : ℕ) → (t == b) ≡ false → t ≢ b
test_not t b h e = grind arith

-- the map keeps its entries as the batch its changes
pub entries_are : (batch : List Staged) (n : ℕ) (c : Change) → insert_entry nat_eq batch n c ≡ stage batch n c
entries_are [] n c = refl
entries_are (s ∷ batch) n c =
    ap (λ (rest : List Staged). cond (n == s.0) ((s.0, c) ∷ batch) (s ∷ rest)) (entries_are batch n c)

-- what is staged then is the number, or was staged before
pub staged_then : (batch : List Staged) (n : ℕ) (c : Change) (m : ℕ) → IsStaged (stage batch n c) m → (n ≡ m) ⊎ IsStaged batch m
staged_then [] n c m (inl e) = inl e
staged_then [] n c m (inr k) = absurd k
staged_then (s ∷ batch) n c m h = go (n == s.0) (staged_then batch n c m) h where
  go : (b : Bool) → (IsStaged (stage batch n c) m → (n ≡ m) ⊎ IsStaged batch m) → IsStaged (cond b ((s.0, c) ∷ batch) (s ∷ stage batch n c)) m
      → (n ≡ m) ⊎ IsStaged (s ∷ batch) m
  go true again (inl e) = inr (inl e)
  go true again (inr k) = inr (inr k)
  go false again (inl e) = inr (inl e)
  go false again (inr k) = elim (again k) [ inl e ↦ inl e | inr l ↦ inr (inr l) ]

pub stage_apart : (batch : List Staged) (n : ℕ) (c : Change) → AreApart batch → AreApart (stage batch n c)
stage_apart [] n c h = ((λ k. k), tt)
stage_apart (s ∷ batch) n c h = go (n == s.0) refl (stage_apart batch n c h.1) where
  go : (b : Bool) → (n == s.0) ≡ b → AreApart (stage batch n c) → AreApart (cond b ((s.0, c) ∷ batch) (s ∷ stage batch n c))
  go true is again = h
  go false is again = ((λ k. elim (staged_then batch n c s.0 k) [ inl e ↦ test_not n s.0 is e | inr l ↦ h.0 l ]), again)

stage_changes : (batch : List Staged) (n : ℕ) (c : Change) → IsLawfulChange c → AllByRecursion (λ s. IsLawfulChange s.1) batch
    → AllByRecursion (λ s. IsLawfulChange s.1) (stage batch n c)
stage_changes [] n c good h = (good, tt)
stage_changes (s ∷ batch) n c good h = go (n == s.0) (stage_changes batch n c good h.1) where
  go : (b : Bool) → AllByRecursion (λ s. IsLawfulChange s.1) (stage batch n c) → AllByRecursion (λ s. IsLawfulChange s.1) (cond b ((s.0, c) ∷ batch) (s ∷ stage batch n c))
  go true again = (good, h.1)
  go false again = (h.0, again)

pub stage_lawful : (batch : List Staged) (n : ℕ) (c : Change) → IsLawfulChange c → AreLawful batch → AreLawful (stage batch n c)
stage_lawful batch n c good h = record {
  apart = stage_apart batch n c h.apart;
  changes = stage_changes batch n c good h.changes;
}

-- a change for a number that isn't staged yet makes the batch longer by one
pub staged_size : (batch : List Staged) (n : ℕ) (c : Change)
    → length (stage batch n c) ≡ length batch + from_bool (not (is_some (lookup (nat_eq n) batch)))
staged_size [] n c = refl
staged_size (s ∷ batch) n c = go (n == s.0) (lookup (nat_eq n) batch) (staged_size batch n c) where
  go : (b : Bool) (found : Option Change) → length (stage batch n c) ≡ length batch + from_bool (not (is_some found))
      → length (cond b ((s.0, c) ∷ batch) (s ∷ stage batch n c)) ≡ suc (length batch) + from_bool (not (is_some (cond b (Some s.1) found)))
  go true found again = omega arith
  go false found again = omega (arith, again)
