-- Numbers that change as little as one likes where the place moves little enough: so do their sums,
-- differences and products, and one that isn't 0 keeps its sign around the place.
use Rattle.std.proofs.Common.{◌≡◌, refl, sym, arith, ℕ, zero, suc, ◌+◌, ◌*◌, ◌^◌, ◌<◌, ◌≤◌}
use Rattle.std.proofs.Common.{mul-le-mul, ℤ, pos, ◌+ℤ◌, ◌-ℤ◌, ◌*ℤ◌, ◌<ℤ◌, unsigned_abs, List, []}
use Rattle.std.proofs.Common.{◌∷◌}
use Rattle.std.proofs.Math.Nat.{pow-succ', pow-zero}
use Rattle.std.proofs.lemmas.Nat.{pow-add}
use Rattle.solid_base.specs.declared.geometry.Vec3.{Vec3}
use Rattle.solid_base.specs.Range.{IsWithin}
use Rattle.solid_base.specs.Ranges.{dot}
use Rattle.fixed_enclosure.specs.Places.{offset}
use Rattle.csg_primitives.specs.Frames.{cross}
use Rattle.csg_primitives.specs.Neighbours.{IsNear, Around}
use Rattle.csg_primitives.proofs.Around.{around-both, around-all}
use Rattle.csg_primitives.proofs.Following.{Follows, follows-sum, follows-minus, follows-product}
use Rattle.csg_primitives.proofs.Following.{follows-constant, follows-count, follows-coordinate}
use Rattle.csg_primitives.proofs.Following.{follows-positive, follows-negative, follows-near}
use Rattle.csg_primitives.proofs.Following.{positive-back, negative-back, within-wider}
use Rattle.csg_primitives.proofs.Pairwise.{Pairwise}

-- x is the number at a place, `g n p` that at a place p near it which is counted n times finer;
-- both are of degree k in coordinates and counts of parts
pub record Steady (at : Vec3) (k : ℕ) (x : ℤ) (g : ℕ → Vec3 → ℤ) : Type 0 where
  pub bound : ℕ
  pub follows : (n d : ℕ) (p : Vec3) → 0 < n → d ≤ n → IsNear n d at p
      → Follows n d (n ^ k) bound x (g n p)

-- ---- sums, differences and products
pub steady-sum : {at : Vec3} (k : ℕ) {x y : ℤ} {g h : ℕ → Vec3 → ℤ} → Steady at k x g
    → Steady at k y h → Steady at k (x +ℤ y) (λ n p. g n p +ℤ h n p)
steady-sum k {x = x} {y = y} {g = g} {h = h} s t = record {
  bound = s.bound + t.bound;
  follows = λ n d p a b c.
      follows-sum n d (n ^ k) s.bound t.bound x y (g n p) (h n p)
      (s.follows n d p a b c) (t.follows n d p a b c);
}

pub steady-minus : {at : Vec3} (k : ℕ) {x y : ℤ} {g h : ℕ → Vec3 → ℤ} → Steady at k x g
    → Steady at k y h → Steady at k (x -ℤ y) (λ n p. g n p -ℤ h n p)
steady-minus k {x = x} {y = y} {g = g} {h = h} s t = record {
  bound = s.bound + t.bound;
  follows = λ n d p a b c.
      follows-minus n d (n ^ k) s.bound t.bound x y (g n p) (h n p)
      (s.follows n d p a b c) (t.follows n d p a b c);
}

pub steady-product : {at : Vec3} (j k : ℕ) {x y : ℤ} {g h : ℕ → Vec3 → ℤ} → Steady at j x g
    → Steady at k y h → Steady at (j + k) (x *ℤ y) (λ n p. g n p *ℤ h n p)
steady-product j k {x = x} {y = y} {g = g} {h = h} s t = record {
  bound = s.bound * t.bound + (s.bound * unsigned_abs y + unsigned_abs x * t.bound);
  follows = λ n d p a b c.
      rw (pow-add n j k)
      (follows-product n d (n ^ j) (n ^ k) s.bound t.bound x y (g n p) (h n p) a b
      (s.follows n d p a b c) (t.follows n d p a b c));
}

-- ---- constants, counts of parts and coordinates
power_zero : (n : ℕ) → 1 ≡ n ^ 0
power_zero n = let z : n ^ 0 ≡ 1 = pow-zero n in rw z refl

power_one : (n : ℕ) → n ≡ n ^ 1
power_one n =
    let z : n ^ 0 ≡ 1 = pow-zero n in
    let s : n ^ 1 ≡ n * n ^ 0 = pow-succ' n 0 in
    rw (s, z) (omega arith)

weight-as : (n d w v k : ℕ) (x g : ℤ) → w ≡ v → Follows n d w k x g → Follows n d v k x g
weight-as n d w v k x g e h = rw e at h

pub steady-constant : {at : Vec3} (x : ℤ) → Steady at 0 x (λ n p. x)
steady-constant x = record {
  bound = 0;
  follows = λ n d p a b c. weight-as n d 1 (n ^ 0) 0 x x (power_zero n) (follows-constant n d x);
}

-- a count of parts grows with n
pub steady-count : {at : Vec3} (m : ℕ) (r : ℕ → ℕ) → ((n : ℕ) → n * m ≡ r n)
    → Steady at 1 (pos m) (λ n p. pos (r n))
steady-count m r e = record {
  bound = 0;
  follows = λ n d p a b c.
      rw (← e n)
      (weight-as n d n (n ^ 1) 0 (pos m) (pos (n * m)) (power_one n) (follows-count n d m));
}

steady-coordinate : {at : Vec3} (x : ℤ) (g : Vec3 → ℤ)
    → ((n d : ℕ) (p : Vec3) → IsNear n d at p → IsWithin d (g p -ℤ x *ℤ pos n))
    → Steady at 1 x (λ n p. g p)
steady-coordinate x g f = record {
  bound = 1;
  follows = λ n d p a b c.
      weight-as n d n (n ^ 1) 1 x (g p) (power_one n) (follows-coordinate n d x (g p) (f n d p c));
}

-- ---- signs
-- the second number has the first one's sign, if that has one
abbrev pub Kept : ℤ → ℤ → Type 0
Kept x y = (pos 0 <ℤ x → pos 0 <ℤ y) × (x <ℤ pos 0 → y <ℤ pos 0)

power-positive : (n k : ℕ) → 0 < n → 0 < n ^ k
power-positive n zero h = let z : n ^ 0 ≡ 1 = pow-zero n in rw z (omega arith)
power-positive n (suc k) h =
    let l = power-positive n k h in
    let m : 1 * 1 ≤ n * n ^ k = mul-le-mul h l in
    omega (arith, pow-succ' n k)

one-share : (k d n : ℕ) → (k + 1) * d ≤ n → d ≤ n
one-share k d n h = omega arith

steady-kept : {at : Vec3} (k : ℕ) {x : ℤ} {g : ℕ → Vec3 → ℤ} → Steady at k x g
    → Around at (λ n p. Kept x (g n p))
steady-kept k {x = x} {g = g} s = record {
  shares = s.bound + 1;
  holds = λ n d p a b c.
      let f = s.follows n d p a (one-share s.bound d n b) c in
      let w = power-positive n k a in (
        λ h. follows-positive n d (n ^ k) s.bound x (g n p) a w b f h,
        λ h. follows-negative n d (n ^ k) s.bound x (g n p) a w b f h,
      );
}

steady-back : {at : Vec3} (k : ℕ) {x : ℤ} {g : ℕ → Vec3 → ℤ} → Steady at k x g
    → (n : ℕ) (p : Vec3) → 0 < n → IsNear n 0 at p → Kept (g n p) x
steady-back k {x = x} {g = g} s n p a c =
    let f = s.follows n 0 p a (omega arith) c in (
      positive-back n (n ^ k) s.bound x (g n p) a f,
      negative-back n (n ^ k) s.bound x (g n p) a f,
    )

-- the signs of a list of numbers: those that are known are kept around the place, and the same
-- place counted finer has no others
pub record AllKept (at : Vec3) (xs : List ℤ) (gs : ℕ → Vec3 → List ℤ) : Type 0 where
  pub around : Around at (λ n p. Pairwise Kept xs (gs n p))
  pub back : (n : ℕ) (p : Vec3) → 0 < n → IsNear n 0 at p → Pairwise Kept (gs n p) xs

pub kept-nil : {at : Vec3} → AllKept at [] (λ n p. [])
kept-nil = record { around = around-all (λ n p. tt); back = λ n p a c. tt }

pub kept-cons : {at : Vec3} (k : ℕ) {x : ℤ} {g : ℕ → Vec3 → ℤ} {xs : List ℤ}
    {gs : ℕ → Vec3 → List ℤ} → Steady at k x g → AllKept at xs gs
    → AllKept at (x ∷ xs) (λ n p. g n p ∷ gs n p)
kept-cons k s t = record {
  around = around-both (λ n p a b. (a, b)) (steady-kept k s) t.around;
  back = λ n p a c. (steady-back k s n p a c, t.back n p a c);
}

-- ---- places and directions
-- the coordinates of a place or a direction that depends on a place
pub record SteadyPlace (at : Vec3) (k : ℕ) (q : Vec3) (g : ℕ → Vec3 → Vec3) : Type 0 where
  pub x : Steady at k q.x (λ n p. (g n p).x)
  pub y : Steady at k q.y (λ n p. (g n p).y)
  pub z : Steady at k q.z (λ n p. (g n p).z)

pub steady-itself : {at : Vec3} → SteadyPlace at 1 at (λ n p. p)
unfolding offset
steady-itself {at = at} = record {
  x = steady-coordinate at.x (λ p. p.x) (λ n d p c. c.0);
  y = steady-coordinate at.y (λ p. p.y) (λ n d p c. c.1);
  z = steady-coordinate at.z (λ p. p.z) (λ n d p c. c.2);
}

pub steady-fixed : {at : Vec3} (w : Vec3) → SteadyPlace at 0 w (λ n p. w)
steady-fixed w = record {
  x = steady-constant w.x;
  y = steady-constant w.y;
  z = steady-constant w.z;
}

pub steady-dot : {at : Vec3} (j k : ℕ) {u v : Vec3} {g h : ℕ → Vec3 → Vec3} → SteadyPlace at j u g
    → SteadyPlace at k v h → Steady at (j + k) (dot u v) (λ n p. dot (g n p) (h n p))
steady-dot j k s t =
    steady-sum (j + k)
    (steady-sum (j + k) (steady-product j k s.x t.x) (steady-product j k s.y t.y))
    (steady-product j k s.z t.z)

pub steady-offset : {at : Vec3} (m : ℕ) (r : ℕ → ℕ) → ((n : ℕ) → n * m ≡ r n) → (from : Vec3)
    {q : Vec3} {g : ℕ → Vec3 → Vec3} → SteadyPlace at 1 q g
    → SteadyPlace at 1 (offset m from q) (λ n p. offset (r n) from (g n p))
unfolding offset
steady-offset m r e from s = record {
  x = steady-minus 1 s.x (steady-product 0 1 (steady-constant from.x) (steady-count m r e));
  y = steady-minus 1 s.y (steady-product 0 1 (steady-constant from.y) (steady-count m r e));
  z = steady-minus 1 s.z (steady-product 0 1 (steady-constant from.z) (steady-count m r e));
}

pub steady-cross : {at : Vec3} (j k : ℕ) {u v : Vec3} {g h : ℕ → Vec3 → Vec3}
    → SteadyPlace at j u g → SteadyPlace at k v h
    → SteadyPlace at (j + k) (cross u v) (λ n p. cross (g n p) (h n p))
unfolding cross
steady-cross j k s t = record {
  x = steady-minus (j + k) (steady-product j k s.y t.z) (steady-product j k s.z t.y);
  y = steady-minus (j + k) (steady-product j k s.z t.x) (steady-product j k s.x t.z);
  z = steady-minus (j + k) (steady-product j k s.x t.y) (steady-product j k s.y t.x);
}

-- ---- a place that depends on another, as by a matrix
coordinate-near : {at : Vec3} {x : ℤ} {g : ℕ → Vec3 → ℤ} (s : Steady at 1 x g) (b n d : ℕ)
    (p : Vec3) → s.bound ≤ b → 0 < n → d ≤ n → IsNear n d at p
    → IsWithin (b * d) (g n p -ℤ x *ℤ pos n)
coordinate-near {x = x} {g = g} s b n d p h above below near =
    let f = s.follows n d p above below near in
    let one = weight-as n d (n ^ 1) n s.bound x (g n p) (sym (power_one n)) f in
    let m : s.bound * d ≤ b * d = mul-le-mul h (omega arith) in
    within-wider (s.bound * d) (b * d) _ m (follows-near n d s.bound x (g n p) above one)

-- how far one place moves where the other moves by one
abbrev reach : {at q : Vec3} {g : ℕ → Vec3 → Vec3} → SteadyPlace at 1 q g → ℕ
reach s = s.x.bound + s.y.bound + s.z.bound

place-near : {at q : Vec3} {g : ℕ → Vec3 → Vec3} (s : SteadyPlace at 1 q g) (n d : ℕ) (p : Vec3)
    → 0 < n → d ≤ n → IsNear n d at p → IsNear n (reach s * d) q (g n p)
unfolding offset
place-near s n d p above below near = (
  coordinate-near s.x (reach s) n d p (omega arith) above below near,
  coordinate-near s.y (reach s) n d p (omega arith) above below near,
  coordinate-near s.z (reach s) n d p (omega arith) above below near,
)

reach-share : (a b d n : ℕ) → (a * b + 1) * d ≤ n → a * (b * d) ≤ n
reach-share a b d n h = omega arith

-- what holds around the one place holds around the other
pub around-carried : {at q : Vec3} {g : ℕ → Vec3 → Vec3} {R : ℕ → Vec3 → Type 0}
    → SteadyPlace at 1 q g → Around q R → Around at (λ n p. R n (g n p))
around-carried {g = g} s r = record {
  shares = r.shares * reach s + 1;
  holds = λ n d p a b c.
      r.holds n (reach s * d) (g n p) a (reach-share r.shares (reach s) d n b)
      (place-near s n d p a (one-share (r.shares * reach s) d n b) c);
}
