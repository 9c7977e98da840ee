-- The margins of the seven primitives are made of coordinates, counts of parts and constants, so
-- the sign of one that isn't 0 is kept around the place.
use Rattle.std.proofs.Common.{◌≡◌, refl, arith, ℕ, ◌*◌, ℤ, pos, ◌-ℤ◌, ◌*ℤ◌, List}
use Rattle.solid_base.specs.declared.geometry.Vec3.{Vec3}
use Rattle.solid_base.specs.declared.solids.Primitive.{Primitive}
use Rattle.solid_base.specs.declared.solids.Primitive.TheVariants as prim
use Rattle.fixed_enclosure.specs.Places.{offset}
use Rattle.fixed_enclosure.specs.Values.{unit}
use Rattle.csg_primitives.specs.Frames.{cross, height, squared_radius, local_place, axis_parts}
use Rattle.csg_primitives.specs.Frames.{local_parts}
use Rattle.csg_primitives.specs.ExactMargins.{between, block_margins, slant_margin, wedge_margins}
use Rattle.csg_primitives.specs.ExactMargins.{cylinder_margins, cone_reach, cone_margins}
use Rattle.csg_primitives.specs.ExactMargins.{ball_margins, torus_sum, torus_margins}
use Rattle.csg_primitives.specs.ExactMargins.{ellipsoid_margins, exact_margins}
use Rattle.csg_primitives.specs.Squares.{square}
use Rattle.csg_primitives.proofs.Steady.{Steady, SteadyPlace, AllKept, kept-nil, kept-cons}
use Rattle.csg_primitives.proofs.Steady.{steady-sum, steady-minus, steady-product, steady-constant}
use Rattle.csg_primitives.proofs.Steady.{steady-count, steady-itself, steady-fixed, steady-dot}
use Rattle.csg_primitives.proofs.Steady.{steady-offset, steady-cross}

-- ---- coordinates in local axes, where m parts are a step
same-parts : (m n : ℕ) → n * m ≡ n * m
same-parts m n = refl

axis-finer : (m n : ℕ) → n * axis_parts m ≡ axis_parts (n * m)
axis-finer m n = omega arith

local-finer : (m n : ℕ) → n * local_parts m ≡ local_parts (n * m)
local-finer m n = omega arith

module _ {at : Vec3} (m : ℕ) where
  steady-way : (from : Vec3) → SteadyPlace at 1 (offset m from at) (λ n p. offset (n * m) from p)
  steady-way from = steady-offset m (λ n. n * m) (same-parts m) from steady-itself

  steady-height : (foot w : Vec3)
      → Steady at 1 (height m foot w at) (λ n p. height (n * m) foot w p)
  unfolding height
  steady-height foot w = steady-dot 1 0 (steady-way foot) (steady-fixed w)

  steady-radius : (foot w : Vec3)
      → Steady at 2 (squared_radius m foot w at) (λ n p. squared_radius (n * m) foot w p)
  unfolding squared_radius
  steady-radius foot w =
      let c = steady-cross 1 0 (steady-way foot) (steady-fixed w) in
      steady-dot 1 1 c c

  steady-local : (from u w : Vec3)
      → SteadyPlace at 1 (local_place m from u w at) (λ n p. local_place (n * m) from u w p)
  unfolding local_place
  steady-local from u w = let way = steady-way from in record {
    x = steady-product 1 0 (steady-dot 1 0 way (steady-fixed u)) (steady-constant (pos unit));
    y = steady-dot 1 0 way (steady-fixed (cross w u));
    z = steady-product 1 0 (steady-dot 1 0 way (steady-fixed w)) (steady-constant (pos unit));
  }

-- ---- margins, where c parts are a step, and `r n` parts n times finer
module _ {at : Vec3} (c : ℕ) (r : ℕ → ℕ) (e : (n : ℕ) → n * c ≡ r n) where
  steady-length : (x : ℤ) → Steady at 1 (x *ℤ pos c) (λ n p. x *ℤ pos (r n))
  steady-length x = steady-product 0 1 (steady-constant x) (steady-count c r e)

  steady-square : {x : ℤ} {g : ℕ → Vec3 → ℤ} → Steady at 1 x g
      → Steady at 2 (square x) (λ n p. square (g n p))
  steady-square s = steady-product 1 1 s s

  kept-between : (size : ℤ) {x : ℤ} {g : ℕ → Vec3 → ℤ} {xs : List ℤ} {gs : ℕ → Vec3 → List ℤ}
      → Steady at 1 x g → AllKept at xs gs
      → AllKept at (between c size x xs) (λ n p. between (r n) size (g n p) (gs n p))
  kept-between size s t = kept-cons 1 s (kept-cons 1 (steady-minus 1 (steady-length size) s) t)

  kept-block : (size : Vec3) {q : Vec3} {g : ℕ → Vec3 → Vec3} → SteadyPlace at 1 q g
      → AllKept at (block_margins c size q) (λ n p. block_margins (r n) size (g n p))
  kept-block size s =
      kept-between size.x s.x (kept-between size.y s.y (kept-between size.z s.z kept-nil))

  steady-slant : (size : Vec3) (ltx : ℤ) {q : Vec3} {g : ℕ → Vec3 → Vec3} → SteadyPlace at 1 q g
      → Steady at 1 (slant_margin c size ltx q) (λ n p. slant_margin (r n) size ltx (g n p))
  steady-slant size ltx s =
      let across = steady-minus 1 (steady-length size.x) s.x in
      steady-minus 1 (steady-product 0 1 (steady-constant size.y) across)
      (steady-product 0 1 (steady-constant (size.x -ℤ ltx)) s.y)

  kept-wedge : (size : Vec3) (ltx : ℤ) {q : Vec3} {g : ℕ → Vec3 → Vec3} → SteadyPlace at 1 q g
      → AllKept at (wedge_margins c size ltx q) (λ n p. wedge_margins (r n) size ltx (g n p))
  kept-wedge size ltx s =
      let slant = kept-cons 1 (steady-slant size ltx s) kept-nil in
      kept-cons 1 s.x (kept-between size.y s.y (kept-between size.z s.z slant))

  -- a height z and a squared radius rr
  kept-cylinder : (h x : ℤ) {z rr : ℤ} {g k : ℕ → Vec3 → ℤ} → Steady at 1 z g → Steady at 2 rr k
      → AllKept at (cylinder_margins c h x z rr)
      (λ n p. cylinder_margins (r n) h x (g n p) (k n p))
  kept-cylinder h x s t =
      let side = steady-minus 2 (steady-square (steady-length x)) t in
      kept-between h s (kept-cons 2 side kept-nil)

  steady-reach : (h r1 r2 : ℤ) {z : ℤ} {g : ℕ → Vec3 → ℤ} → Steady at 1 z g
      → Steady at 1 (cone_reach c h r1 r2 z) (λ n p. cone_reach (r n) h r1 r2 (g n p))
  steady-reach h r1 r2 s =
      steady-minus 1 (steady-length (r1 *ℤ h))
      (steady-product 0 1 (steady-constant (r1 -ℤ r2)) s)

  kept-cone : (h r1 r2 : ℤ) {z rr : ℤ} {g k : ℕ → Vec3 → ℤ} → Steady at 1 z g → Steady at 2 rr k
      → AllKept at (cone_margins c h r1 r2 z rr)
      (λ n p. cone_margins (r n) h r1 r2 (g n p) (k n p))
  kept-cone h r1 r2 s t =
      let side = steady-minus 2 (steady-square (steady-reach h r1 r2 s))
      (steady-product 0 2 (steady-constant (square h)) t) in
      kept-between h s (kept-cons 2 side kept-nil)

  kept-ball : (x : ℤ) {q : Vec3} {g : ℕ → Vec3 → Vec3} → SteadyPlace at 1 q g
      → AllKept at (ball_margins c x q) (λ n p. ball_margins (r n) x (g n p))
  kept-ball x s =
      let side = steady-minus 2 (steady-square (steady-length x)) (steady-dot 1 1 s s) in
      kept-cons 2 side kept-nil

  steady-torus : (r1 r2 : ℤ) {z rr : ℤ} {g k : ℕ → Vec3 → ℤ} → Steady at 1 z g → Steady at 2 rr k
      → Steady at 2 (torus_sum c r1 r2 z rr) (λ n p. torus_sum (r n) r1 r2 (g n p) (k n p))
  steady-torus r1 r2 s t =
      let way = steady-sum 2 t (steady-square s) in
      let whole = steady-sum 2 way (steady-square (steady-length r1)) in
      steady-minus 2 whole (steady-square (steady-length r2))

  kept-torus : (r1 r2 : ℤ) {z rr : ℤ} {g k : ℕ → Vec3 → ℤ} → Steady at 1 z g → Steady at 2 rr k
      → AllKept at (torus_margins c r1 r2 z rr) (λ n p. torus_margins (r n) r1 r2 (g n p) (k n p))
  kept-torus r1 r2 s t =
      let sum = steady-torus r1 r2 s t in
      let twice = steady-product 2 2 (steady-square (steady-length (pos 2 *ℤ r1))) t in
      kept-cons 4 (steady-minus 4 twice (steady-product 2 2 sum sum)) kept-nil

  kept-ellipsoid : (size : Vec3) {q : Vec3} {g : ℕ → Vec3 → Vec3} → SteadyPlace at 1 q g
      → AllKept at (ellipsoid_margins c size q) (λ n p. ellipsoid_margins (r n) size (g n p))
  kept-ellipsoid size s =
      let x = steady-square (steady-product 1 0 s.x (steady-constant (size.y *ℤ size.z))) in
      let y = steady-square (steady-product 1 0 s.y (steady-constant (size.x *ℤ size.z))) in
      let z = steady-square (steady-product 1 0 s.z (steady-constant (size.x *ℤ size.y))) in
      let whole = steady-square (steady-length (size.x *ℤ size.y *ℤ size.z)) in
      kept-cons 2 (steady-minus 2 (steady-minus 2 (steady-minus 2 whole x) y) z) kept-nil

-- ---- the seven primitives
pub margins-kept : (m : ℕ) (q : Primitive) (at : Vec3)
    → AllKept at (exact_margins m q at) (λ n p. exact_margins (n * m) q p)
unfolding exact_margins
margins-kept m (prim.Block size corner u w) at =
    kept-block (local_parts m) (λ n. local_parts (n * m)) (local-finer m) size
    (steady-local m corner u w)
margins-kept m (prim.Wedge size ltx corner u w) at =
    kept-wedge (local_parts m) (λ n. local_parts (n * m)) (local-finer m) size ltx
    (steady-local m corner u w)
margins-kept m (prim.Cylinder h x foot w) at =
    kept-cylinder (axis_parts m) (λ n. axis_parts (n * m)) (axis-finer m) h x
    (steady-height m foot w) (steady-radius m foot w)
margins-kept m (prim.Cone h r1 r2 foot w) at =
    kept-cone (axis_parts m) (λ n. axis_parts (n * m)) (axis-finer m) h r1 r2
    (steady-height m foot w) (steady-radius m foot w)
margins-kept m (prim.Sphere x centre) at =
    kept-ball m (λ n. n * m) (same-parts m) x (steady-way m centre)
margins-kept m (prim.Torus r1 r2 centre w) at =
    kept-torus (axis_parts m) (λ n. axis_parts (n * m)) (axis-finer m) r1 r2
    (steady-height m centre w) (steady-radius m centre w)
margins-kept m (prim.Ellipsoid size centre u w) at =
    kept-ellipsoid (local_parts m) (λ n. local_parts (n * m)) (local-finer m) size
    (steady-local m centre u w)
