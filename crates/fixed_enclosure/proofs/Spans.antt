-- Spans by their bound: what is kept where an end passes it, what is held, and what lies within what.
use Rattle.std.proofs.Common.{ℕ, ◌*◌, ◌<◌, ◌↔◌, ◌≡◌, arith, Bool, true, false, ◌||◌, if◌then◌else◌, ℤ, pos, neg_ℤ, ◌+ℤ◌, ◌*ℤ◌, ◌≤ℤ◌, ◌<ℤ◌, int_lt}
use Rattle.std.proofs.lemmas.Int.{ints, by_lt_z}
use Rattle.solid_base.proofs.Ring.{lines, diffs, diff-same, by_diff3, mul-le_right, mul_assoc_z}
use Rattle.solid_base.specs.declared.geometry.Vec3.{Vec3}
use Rattle.solid_base.specs.declared.geometry.Cube.{Cube}
use Rattle.fixed_enclosure.specs.declared.enclosures.Box3.{Box3}
use Rattle.fixed_enclosure.specs.Spans.{Span, Every, Between, IsSpan, Holds, BoxHolds, IsIn, IsBoxIn, enc_span, box_of}
use Rattle.fixed_enclosure.specs.Values.{bounded, point_of}

-- ---- the bound: every number, or the span
pub bounded-is : (bound : ℕ) (lo hi : ℤ) → lo ≤ℤ hi → IsSpan bound (bounded bound lo hi)
bounded-is bound lo hi h = grind (arith, ints)

either : (P : Span → Type 0) (past : Bool) (lo hi : ℤ) → P Every → P (Between lo hi) → P (if past then Every else Between lo hi)
either P true lo hi h k = h
either P false lo hi h k = k

pub bounded-holds : (m bound : ℕ) (lo hi x : ℤ) → (lo *ℤ pos m) ≤ℤ x → x ≤ℤ (hi *ℤ pos m) → Holds m (bounded bound lo hi) x
bounded-holds m bound lo hi x h k = either (λ s. Holds m s x) (int_lt lo (neg_ℤ (pos bound)) || int_lt (pos bound) hi) lo hi tt (h, k)

pub bounded-in : (bound : ℕ) (low high lo hi : ℤ) → lo ≤ℤ low → high ≤ℤ hi → IsIn (bounded bound low high) (bounded bound lo hi)
bounded-in bound low high lo hi h k = grind (arith, ints)

pub bounded-low : (bound : ℕ) (lo hi : ℤ) → lo <ℤ neg_ℤ (pos bound) → bounded bound lo hi ≡ Every
bounded-low bound lo hi h = grind (arith, ints)

pub bounded-high : (bound : ℕ) (lo hi : ℤ) → pos bound <ℤ hi → bounded bound lo hi ≡ Every
bounded-high bound lo hi h = grind (arith, ints)

pub bounded-near : (bound : ℕ) (lo hi : ℤ) → neg_ℤ (pos bound) ≤ℤ lo → hi ≤ℤ pos bound → bounded bound lo hi ≡ Between lo hi
bounded-near bound lo hi h k = grind (arith, ints)

-- ---- what is held in a wider span, and in finer steps
pub holds_wider : (m : ℕ) (s t : Span) (x : ℤ) → IsIn s t → Holds m s x → Holds m t x
holds_wider m s Every x i h = tt
holds_wider m Every (Between lo hi) x i h = absurd i
holds_wider m (Between low high) (Between lo hi) x i h =
    let p : pos 0 ≤ℤ pos m = omega (arith, ints) in
    let a = mul-le_right lo low (pos m) i.0 p in
    let b = mul-le_right high hi (pos m) i.1 p in
    (omega (arith, lines), omega (arith, lines))

pub holds_finer : (m n : ℕ) (s : Span) (x : ℤ) → Holds m s x → Holds (m * n) s (x *ℤ pos n)
holds_finer m n Every x h = tt
holds_finer m n (Between lo hi) x h =
    let p : pos 0 ≤ℤ pos n = omega (arith, ints) in
    let a = mul-le_right (lo *ℤ pos m) x (pos n) h.0 p in
    let b = mul-le_right x (hi *ℤ pos m) (pos n) h.1 p in
    let e = mul_assoc_z lo (pos m) (pos n) in
    let f = mul_assoc_z hi (pos m) (pos n) in
    (omega (arith, lines), omega (arith, lines))

-- ---- products of ends and a number of parts
pub zero_times : (m : ℕ) → pos 0 *ℤ pos m ≡ pos 0
zero_times m = omega (arith, ints)

pub add_scaled : (a c p : ℤ) → (a +ℤ c) *ℤ p ≡ a *ℤ p +ℤ c *ℤ p
add_scaled = by_diff3 (λ (a c p : ℤ). (a +ℤ c) *ℤ p ≡ a *ℤ p +ℤ c *ℤ p) (λ (a b c d e f : ℕ). simp diffs (diff-same _ _ _ _ (omega arith)))

-- an order of products by a number above 0 is the order of the factors
pub mul-le_out : (x y : ℤ) (n : ℕ) → 0 < n → (x *ℤ pos n) ≤ℤ (y *ℤ pos n) → x ≤ℤ y
mul-le_out x y n p h = by_lt_z y x
    (λ t. let m = mul-le_right (y +ℤ pos 1) x (pos n) (omega (arith, lines)) (omega (arith, lines)) in
    let e = add_scaled y (pos 1) (pos n) in
    let o : pos 1 *ℤ pos n ≡ pos n = omega (arith, ints) in
    absurd (omega (arith, lines)))
    (λ t. t)

pub holds_coarser : (m n : ℕ) (s : Span) (x : ℤ) → 0 < n → Holds (m * n) s (x *ℤ pos n) → Holds m s x
holds_coarser m n Every x p h = tt
holds_coarser m n (Between lo hi) x p h =
    let e = mul_assoc_z lo (pos m) (pos n) in
    let f = mul_assoc_z hi (pos m) (pos n) in
    (mul-le_out _ _ n p (omega (arith, lines)), mul-le_out _ _ n p (omega (arith, lines)))

pub point-holds : (m : ℕ) (v x : ℤ) → Holds m (point_of v) x ↔ (x ≡ v *ℤ pos m)
point-holds m v x = (λ h. omega (arith, lines), λ e. (omega (arith, lines), omega (arith, lines)))

-- ---- boxes
pub box_holds-wider : (m : ℕ) (a b : Box3) (p : Vec3) → IsBoxIn a b → BoxHolds m a p → BoxHolds m b p
box_holds-wider m a b p i h = (
  holds_wider m (enc_span a.x) (enc_span b.x) p.x i.0 h.0,
  holds_wider m (enc_span a.y) (enc_span b.y) p.y i.1 h.1,
  holds_wider m (enc_span a.z) (enc_span b.z) p.z i.2 h.2,
)

pub box_of-holds : (m : ℕ) (c : Cube) (p : Vec3)
    → ((c.lo.x *ℤ pos m) ≤ℤ p.x) × (p.x ≤ℤ (c.hi.x *ℤ pos m)) → ((c.lo.y *ℤ pos m) ≤ℤ p.y) × (p.y ≤ℤ (c.hi.y *ℤ pos m))
    → ((c.lo.z *ℤ pos m) ≤ℤ p.z) × (p.z ≤ℤ (c.hi.z *ℤ pos m)) → BoxHolds m (box_of c) p
box_of-holds m c p x y z = (x, y, z)

pub box_of-in : (c d : Cube) → (d.lo.x ≤ℤ c.lo.x) × (c.hi.x ≤ℤ d.hi.x) → (d.lo.y ≤ℤ c.lo.y) × (c.hi.y ≤ℤ d.hi.y)
    → (d.lo.z ≤ℤ c.lo.z) × (c.hi.z ≤ℤ d.hi.z) → IsBoxIn (box_of c) (box_of d)
box_of-in c d x y z = (x, y, z)
