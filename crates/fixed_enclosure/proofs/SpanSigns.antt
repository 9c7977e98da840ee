-- The sign of a span is that of each number that it holds, and of each span in it.
use Rattle.std.proofs.Common.{ℕ, ◌<◌, ◌≡◌, ◌≢◌, arith, ℤ, pos, neg_ℤ, ◌*ℤ◌, ◌≤ℤ◌, ◌<ℤ◌, refl}
use Rattle.std.proofs.lemmas.Int.{ints}
use Rattle.solid_base.proofs.Ring.{lines, mul-le_right}
use Rattle.fixed_enclosure.specs.declared.enclosures.Sign.TheVariants.{Negative, Positive, Open}
use Rattle.fixed_enclosure.specs.Spans.{Span, Every, Between, IsSpan, Holds, IsIn}
use Rattle.fixed_enclosure.specs.Values.{sign_of}

positive_low : (lo hi : ℤ) → sign_of (Between lo hi) ≡ Positive → pos 0 <ℤ lo
unfolding sign_of
positive_low lo hi e = grind (arith, ints)

negative_high : (lo hi : ℤ) → sign_of (Between lo hi) ≡ Negative → hi <ℤ pos 0
unfolding sign_of
negative_high lo hi e = grind (arith, ints)

pub sign_of-positive : (m : ℕ) (s : Span) (x : ℤ) → 0 < m → Holds m s x → sign_of s ≡ Positive → pos 0 <ℤ x
unfolding sign_of
sign_of-positive m Every x p h e = absurd (cc)
sign_of-positive m (Between lo hi) x p h e =
    let n = positive_low lo hi e in
    let w = mul-le_right (pos 1) lo (pos m) (omega (arith, lines)) (omega (arith, lines)) in
    let o : pos 1 *ℤ pos m ≡ pos m = omega (arith, ints) in
    omega (arith, lines)

pub sign_of-negative : (m : ℕ) (s : Span) (x : ℤ) → 0 < m → Holds m s x → sign_of s ≡ Negative → x <ℤ pos 0
unfolding sign_of
sign_of-negative m Every x p h e = absurd (cc)
sign_of-negative m (Between lo hi) x p h e =
    let n = negative_high lo hi e in
    let w = mul-le_right hi (neg_ℤ (pos 1)) (pos m) (omega (arith, lines)) (omega (arith, lines)) in
    let o : neg_ℤ (pos 1) *ℤ pos m ≡ neg_ℤ (pos m) = omega (arith, ints) in
    omega (arith, lines)

between-in : (l g a b : ℤ) → l ≤ℤ g → a ≤ℤ l → g ≤ℤ b → sign_of (Between a b) ≢ Open → sign_of (Between l g) ≡ sign_of (Between a b)
unfolding sign_of
between-in l g a b o h k n = grind (arith, ints)

every_open : sign_of Every ≡ Open
unfolding sign_of
every_open = refl

pub sign_of-in : (bound : ℕ) (p s : Span) → IsSpan bound p → IsIn p s → sign_of s ≢ Open → sign_of p ≡ sign_of s
sign_of-in bound p Every o h n = absurd (n every_open)
sign_of-in bound Every (Between a b) o h n = absurd h
sign_of-in bound (Between l g) (Between a b) o h n = between-in l g a b o.0 h.0 h.1 n
