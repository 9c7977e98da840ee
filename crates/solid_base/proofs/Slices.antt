-- Slices of whole lists, and lists that begin with others.
use Rattle.std.proofs.Common.{◌≡◌, ◌∙◌, ℕ, List, [], ◌++◌, length, take, drop, sym, ap, arith, append-nil, append_assoc}
use Rattle.std.proofs.Math.ListN.{drop_of_length-le}
use Rattle.std.proofs.lemmas.List.{take_all}
use mathlib.Core.List.{IsPrefix}

module _ {A : Type 0} where
  -- what a slice of a whole list writes back
  pub written_back : (now items : List A) (size : ℕ) → length now ≡ length items → size ≡ length items → take size (now ++ drop (length now) items) ≡ now
  written_back now items size same whole =
      let none : drop (length now) items ≡ [] = drop_of_length-le items (omega (arith, same)) in
      ap (λ rest. take size (now ++ rest)) none ∙ ap (take size) (append-nil now) ∙ take_all size now (omega (arith, same, whole))

  -- a list is a prefix of itself
  pub prefix_self : (xs : List A) → IsPrefix xs xs
  prefix_self xs = ([], append-nil xs)

  -- what begins with a list that begins with another begins with that one
  pub prefix_trans : (xs ys zs : List A) → IsPrefix xs ys → IsPrefix ys zs → IsPrefix xs zs
  prefix_trans xs ys zs p q =
      (p.0 ++ q.0, sym (append_assoc xs p.0 q.0) ∙ (ap (λ front. front ++ q.0) p.1 ∙ q.1))
