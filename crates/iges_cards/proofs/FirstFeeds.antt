-- Where the first line feed stands, as a search for a byte tells it.
use Rattle.std.proofs.Common.{◌≡◌, ◌≢◌, ℕ, zero, suc, ◌<◌, ◌≤◌, ◌==◌, true, List, [], ◌∷◌, length, take, slice_index, Option, Some, None, IfSome, IfNone, All, refl, subst, arith}
use Rattle.std.specs.List.{AllByRecursion}
use Rattle.std.proofs.Math.Seq.{take-length}
use Rattle.std.proofs.lemmas.List.Elements.{All-from_recursion}
use Rattle.memchr.specs.Find.{IsFirstByte, is_byte}
use Rattle.iges_cards.proofs.CheckLaws.{test_same}

is_feed : (b : ℕ) → b ≡ 10 → (b == 10) ≡ true
is_feed b h = rw h refl

-- the bytes before a place hold no line feed, where none stands at any place before it
none_before : (n : ℕ) (bytes : List ℕ) → n ≤ length bytes → ((k : ℕ) → k < n → slice_index bytes k ≢ 10) → AllByRecursion (λ b. b ≢ 10) (take n bytes)
none_before zero bytes within none = tt
none_before (suc n) [] within none = absurd (omega (arith, within))
none_before (suc n) (b ∷ bytes) within none = (none 0 (omega arith), none_before n bytes (omega (arith, within)) (λ k less. none (suc k) (omega (arith, less))))

pub feed_found : (bytes : List ℕ) (r : Option ℕ) → IsFirstByte (is_byte 10) bytes r → IfSome r (λ n. (n < length bytes) × (slice_index bytes n ≡ 10))
feed_found bytes None first = tt
feed_found bytes (Some n) first = (first.0.high, test_same (slice_index bytes n) 10 first.1)

pub feed_before : (bytes : List ℕ) (r : Option ℕ) → IsFirstByte (is_byte 10) bytes r → IfSome r (λ n. All (λ b. b ≢ 10) (take n bytes))
feed_before bytes None first = tt
feed_before bytes (Some n) first =
    All-from_recursion (λ b. b ≢ 10) (take n bytes) (none_before n bytes (omega (arith, first.0.high)) (λ k less e. first.0.before k (omega arith) less (is_feed (slice_index bytes k) e)))

pub feed_nowhere : (bytes : List ℕ) (r : Option ℕ) → IsFirstByte (is_byte 10) bytes r → IfNone r (All (λ b. b ≢ 10) bytes)
feed_nowhere bytes None first =
    let all = none_before (length bytes) bytes (omega arith) (λ k less e. first k (omega arith) less (is_feed (slice_index bytes k) e)) in
    All-from_recursion (λ b. b ≢ 10) bytes (subst (λ (bs : List ℕ). AllByRecursion (λ b. b ≢ 10) bs) (take-length bytes) all)
feed_nowhere bytes (Some n) first = tt
