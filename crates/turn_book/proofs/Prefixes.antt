-- Prefixes of one list.
use Rattle.std.proofs.Common.{◌≡◌, ◌<◌, ◌≤◌, List, [], ◌∷◌, ◌++◌, length, max, nat_lt, Bool, true}
use Rattle.std.proofs.Common.{false, if◌then◌else◌, refl, ap, sym, ◌∙◌, arith, append_assoc}
use mathlib.Core.List.{IsPrefix}
use Rattle.std.proofs.Math.Nat.{le-max_left, le-max_right}
use Rattle.std.proofs.lemmas.Bool.Decides.{nat_tests}
use Rattle.turn_book.specs.Steps.{longer}

module _ {A : Type 0} where
  -- a list is a prefix of itself
  pub prefix_self : (xs : List A) → IsPrefix xs xs
  prefix_self [] = ([], refl)
  prefix_self (x ∷ xs) = let rest = prefix_self xs in (rest.0, ap (λ ys. x ∷ ys) rest.1)

  pub prefix_trans : (xs ys zs : List A) → IsPrefix xs ys → IsPrefix ys zs → IsPrefix xs zs
  prefix_trans xs ys zs p q =
      (p.0 ++ q.0, sym (append_assoc xs p.0 q.0) ∙ (ap (λ front. front ++ q.0) p.1 ∙ q.1))

  -- of two prefixes of one list the shorter is a prefix of the longer
  shorter_first : (xs ys zs : List A) → IsPrefix xs zs → IsPrefix ys zs
      → length xs ≤ length ys → IsPrefix xs ys
  shorter_first [] ys zs p q le = (ys, refl)
  shorter_first (x ∷ xs) [] zs p q le = absurd (omega arith)
  shorter_first (x ∷ xs) (y ∷ ys) [] p q le = absurd (cc (p.1))
  shorter_first (x ∷ xs) (y ∷ ys) (z ∷ zs) p q le =
      let heads : x ≡ y = cc (p.1, q.1) in
      let rest = shorter_first xs ys zs (p.0, cc (p.1)) (q.0, cc (q.1)) (omega arith) in
      (rest.0, cc (heads, rest.1))

  -- the longer of two prefixes of one list is one of them, and goes on from both
  abbrev pub GoesOn : List A → List A → List A → List A → Type 0
  GoesOn xs ys zs long =
      IsPrefix long zs × IsPrefix xs long × IsPrefix ys long
      × (length long ≤ max (length xs) (length ys))

  longer_by : (xs ys zs : List A) → IsPrefix xs zs → IsPrefix ys zs → (shorter : Bool)
      → nat_lt (length xs) (length ys) ≡ shorter → GoesOn xs ys zs (if shorter then ys else xs)
  longer_by xs ys zs p q true e =
      let less : length xs < length ys = grind (arith, nat_tests) in
      let first = shorter_first xs ys zs p q (omega (arith, less)) in
      (q, first, prefix_self ys, le-max_right (length xs) (length ys))
  longer_by xs ys zs p q false e =
      let more : length ys ≤ length xs = grind (arith, nat_tests) in
      (p, prefix_self xs, shorter_first ys xs zs q p more, le-max_left (length xs) (length ys))

  pub longer_goes_on : (xs ys zs : List A) → IsPrefix xs zs → IsPrefix ys zs
      → GoesOn xs ys zs (longer xs ys)
  longer_goes_on xs ys zs p q = longer_by xs ys zs p q (nat_lt (length xs) (length ys)) refl
