-- Keys that stand before a place of a list.
use Rattle.std.proofs.Common.{◌≡◌, ◌≢◌, ◌⊎◌, inl, inr, ℕ, suc, List, take, slice_get, Some, Contains, subst}
use Rattle.std.proofs.lemmas.List.Elements.{Contains-push_cases}
use Rattle.memo_graph.specs.declared.key.Key.{Key}
use Rattle.ask_core.proofs.CellLists.{take_one_more}

pub not_before : (keys : List Key) (n : ℕ) (key x : Key) → slice_get keys n ≡ Some x → x ≢ key → ¬ Contains (take n keys) key → ¬ Contains (take (suc n) keys) key
not_before keys n key x is other none there = go (Contains-push_cases (take n keys) x key (subst (λ l. Contains l key) (take_one_more keys n x is) there)) where
  go : Contains (take n keys) key ⊎ (x ≡ key) → ⊥
  go (inl h) = none h
  go (inr h) = other h
