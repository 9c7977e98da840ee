-- Texts that are added one after the other.
use Rattle.std.proofs.Common.{◌≡◌, ℕ, List, ◌++◌, append_assoc, refl}

-- two texts, and then a third
pub joined : (old m1 m2 new a b c : List ℕ) → m1 ≡ old ++ a → m2 ≡ m1 ++ b → new ≡ m2 ++ c → new ≡ old ++ (a ++ (b ++ c))
joined old m1 m2 new a b c first second third =
    rw (third, second, first, append_assoc old a b, append_assoc old (a ++ b) c, append_assoc a b c) refl
