-- A key is the same as itself, and different keys aren't the same.
use Rattle.std.proofs.Common.{◌≡◌, ◌≢◌, true, false, refl}
use Rattle.memo_graph.specs.declared.key.Key.{Key}
use Rattle.memo_graph.specs.Memos.{same_key}
pub use Rattle.memo_graph.specs.KeyLaws.{same_key_exact}

pub same_key_self : (a : Key) → same_key a a ≡ true
same_key_self a = (same_key_exact a a).1 refl

pub different_keys : (a b : Key) → a ≢ b → same_key a b ≡ false
different_keys a b n = (elim (same_key a b)
    as (λ y. same_key a b ≡ y → same_key a b ≡ false) [
      | true ↦ λ t. absurd (n ((same_key_exact a b).0 t))
      | false ↦ λ t. t
    ]) refl
