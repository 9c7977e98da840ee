-- The class of a place off the boundary of a solid is that of all places around it; and the class
-- is the same however finely the place is counted.
use Rattle.std.proofs.Common.{◌≡◌, ◌↔◌, refl, sym, subst, ◌∙◌, arith, ℕ, zero, suc, ◌+◌}
use Rattle.std.proofs.Common.{◌*◌, ◌^◌, ◌<◌, ◌≤◌, mul-le-mul, ℤ, pos, ◌-ℤ◌, ◌*ℤ◌, List, [], ◌∷◌}
use Rattle.std.proofs.lemmas.Nat.{pow-add}
use Rattle.std.proofs.Math.Nat.{pow-succ', pow-zero}
use Rattle.solid_base.specs.declared.classes.Class.{Class}
use Rattle.solid_base.specs.declared.classes.Class.TheVariants.{Outside, Mixed, Inside}
use Rattle.solid_base.specs.declared.geometry.Affine.{Affine}
use Rattle.solid_base.specs.declared.geometry.Vec3.{Vec3}
use Rattle.solid_base.specs.declared.solids.Primitive.{Primitive}
use Rattle.solid_base.specs.Range.{IsWithin}
use Rattle.solid_base.specs.Ranges.{column1, column2, column3}
use Rattle.solid_base.proofs.Ring.{lines}
use Rattle.fixed_enclosure.specs.Places.{offset}
use Rattle.fixed_enclosure.specs.Values.{unit}
use Rattle.boolean_tree.specs.Verdicts.{Decides}
use Rattle.boolean_tree.proofs.Deciding.{two_decides}
use Rattle.affine_pull.specs.Chains.{parts_through, pulled_through}
use Rattle.affine_pull.specs.Matrices.{pulled, finer}
use Rattle.affine_pull.proofs.Scales.{parts-scale, chain-scale}
use Rattle.csg_primitives.specs.ExactMargins.{primitive_class}
use Rattle.csg_primitives.specs.Neighbours.{IsNear, Around}
use Rattle.csg_primitives.proofs.Around.{around-so, around-all, around-both}
use Rattle.csg_primitives.proofs.Following.{within-wider}
use Rattle.csg_primitives.proofs.Interior.{ClassKept, primitive-kept, primitive-scale}
use Rattle.csg_primitives.proofs.Steady.{SteadyPlace, steady-itself, steady-fixed, steady-dot}
use Rattle.csg_primitives.proofs.Steady.{steady-offset, around-carried}
use Rattle.solid_eval.specs.Classes.{place_class}
use Rattle.solid_eval.specs.Interior.{IsAllAround, IsInterior, IsExterior}
use Rattle.solid_eval.specs.Solids.{Solid, nothing, primitive, moved, entity, combined}

-- ---- places carried back
steady-pulled : {at : Vec3} (c : ℕ) (r : ℕ → ℕ) → ((n : ℕ) → n * c ≡ r n) → (a : Affine) {q : Vec3}
    {g : ℕ → Vec3 → Vec3} → SteadyPlace at 1 q g
    → SteadyPlace at 1 (pulled c a q) (λ n p. pulled (r n) a (g n p))
unfolding pulled
steady-pulled c r e a s = let way = steady-offset c r e a.shift s in record {
  x = steady-dot 1 0 way (steady-fixed (column1 a));
  y = steady-dot 1 0 way (steady-fixed (column2 a));
  z = steady-dot 1 0 way (steady-fixed (column3 a));
}

steady-through : {at : Vec3} (m : ℕ) (chain : List Affine)
    → SteadyPlace at 1 (pulled_through m chain at) (λ n p. pulled_through (n * m) chain p)
steady-through m [] = steady-itself
steady-through m (a ∷ chain) =
    steady-pulled (parts_through m chain) (λ n. parts_through (n * m) chain)
    (λ n. sym (parts-scale m n chain)) a (steady-through m chain)

-- what holds around the place carried back, whose parts are counted, holds around the place
around-chain : {at : Vec3} (m : ℕ) (chain : List Affine) (R : ℕ → Vec3 → Type 0)
    → Around (pulled_through m chain at) (λ n q. R (n * parts_through m chain) q)
    → Around at (λ n p. R (parts_through (n * m) chain) (pulled_through (n * m) chain p))
around-chain m chain R around =
    around-so
    (λ n p h.
    let same = sym (parts-scale m n chain) in
    subst (λ (k : ℕ). R k (pulled_through (n * m) chain p)) same h)
    (around-carried {R = λ n q. R (n * parts_through m chain) q} (steady-through m chain) around)

-- ---- solids
kept-decides : (k c : Class) → ClassKept k c → Decides k c
kept-decides Outside c h = h.1 refl
kept-decides Mixed c h = tt
kept-decides Inside c h = h.0 refl

around-primitive : (m : ℕ) (q : Primitive) (at : Vec3)
    → Around at (λ n p. Decides (primitive_class m q at) (primitive_class (n * m) q p))
around-primitive m q at = around-so (λ n p h. kept-decides _ _ h) (primitive-kept m q at)

pub around-solid : (m : ℕ) (solid : Solid) (at : Vec3)
    → Around at (λ n p. Decides (place_class m solid at) (place_class (n * m) solid p))
around-solid m nothing at = around-all (λ n p. refl)
around-solid m (primitive e chain q) at =
    let k = primitive_class (parts_through m chain) q (pulled_through m chain at) in
    around-chain m chain (λ c p. Decides k (primitive_class c q p))
    (around-primitive (parts_through m chain) q (pulled_through m chain at))
around-solid m (moved chain part) at =
    let k = place_class (parts_through m chain) part (pulled_through m chain at) in
    around-chain m chain (λ c p. Decides k (place_class c part p))
    (around-solid (parts_through m chain) part (pulled_through m chain at))
around-solid m (entity e part) at = around-solid m part at
around-solid m (combined o a b) at =
    around-both
    (λ n p h k.
    two_decides o (place_class m a at) (place_class m b at) (place_class (n * m) a p)
    (place_class (n * m) b p) h k)
    (around-solid m a at) (around-solid m b at)

-- ---- one class, however finely the place is counted
no-way : (x : ℤ) → IsWithin 0 (x -ℤ x)
no-way x = (omega (arith, lines), omega (arith, lines))

finer-near : (n : ℕ) (at : Vec3) → IsNear n 0 at (finer n at)
unfolding offset
finer-near n at = (no-way (at.x *ℤ pos n), no-way (at.y *ℤ pos n), no-way (at.z *ℤ pos n))

pub solid-scale : (m n : ℕ) (solid : Solid) (at : Vec3) → 0 < n
    → place_class (n * m) solid (finer n at) ≡ place_class m solid at
solid-scale m n nothing at h = refl
solid-scale m n (primitive e chain q) at h =
    rw (parts-scale m n chain, chain-scale m n chain at)
    (primitive-scale (parts_through m chain) q (pulled_through m chain at) n _ h (finer-near n _))
solid-scale m n (moved chain part) at h =
    rw (parts-scale m n chain, chain-scale m n chain at)
    (solid-scale (parts_through m chain) n part (pulled_through m chain at) h)
solid-scale m n (entity e part) at h = solid-scale m n part at h
solid-scale m n (combined o a b) at h = rw (solid-scale m n a at h, solid-scale m n b at h) refl

-- ---- by powers of a unit
power-above : (u j : ℕ) → 2 ≤ u → j + 1 ≤ u ^ j
power-above u zero h = let z : u ^ 0 ≡ 1 = pow-zero u in rw z (omega arith)
power-above u (suc j) h =
    let l = power-above u j h in
    let m : 2 * u ^ j ≤ u * u ^ j = mul-le-mul h (omega arith) in
    let s : u ^ suc j ≡ u * u ^ j = pow-succ' u j in
    omega arith

power-share : (u j t : ℕ) → 2 ≤ u → j * u ^ t ≤ u ^ (j + t)
power-share u j t h =
    let p = power-above u j h in
    let l : j * u ^ t ≤ u ^ j * u ^ t = mul-le-mul (omega arith) (omega arith) in
    rw (pow-add u j t) l

pub power-positive : (u j : ℕ) → 2 ≤ u → 0 < u ^ j
power-positive u j h = let p = power-above u j h in omega arith

by-powers : (m : ℕ) (solid : Solid) (at : Vec3) (k : Class)
    → Around at (λ n p. place_class (n * m) solid p ≡ k) → IsAllAround k m solid at
by-powers m solid at k around = record {
  scales = around.shares;
  near = λ t p h.
      around.holds (unit ^ (around.shares + t)) (unit ^ t) p
      (power-positive unit (around.shares + t) (omega arith))
      (power-share unit around.shares t (omega arith)) h;
}

-- ---- the interior and the exterior
around-inside : (m : ℕ) (solid : Solid) (at : Vec3) → place_class m solid at ≡ Inside
    → IsInterior m solid at
around-inside m solid at e =
    let a = around-solid m solid at in
    by-powers m solid at Inside (rw e at a)

around-outside : (m : ℕ) (solid : Solid) (at : Vec3) → place_class m solid at ≡ Outside
    → IsExterior m solid at
around-outside m solid at e =
    let a = around-solid m solid at in
    by-powers m solid at Outside (rw e at a)

near-wider : (n d : ℕ) (at p : Vec3) → IsNear n 0 at p → IsNear n d at p
near-wider n d at p h = (
  within-wider 0 d _ (omega arith) h.0,
  within-wider 0 d _ (omega arith) h.1,
  within-wider 0 d _ (omega arith) h.2,
)

-- a place around which all places are of one class is of that class itself
all-around-here : (k : Class) (m : ℕ) (solid : Solid) (at : Vec3) → IsAllAround k m solid at
    → place_class m solid at ≡ k
all-around-here k m solid at h =
    let n = unit ^ (h.scales + 0) in
    sym (solid-scale m n solid at (power-positive unit (h.scales + 0) (omega arith)))
    ∙ h.near 0 (finer n at) (near-wider n (unit ^ 0) at (finer n at) (finer-near n at))

pub interior : (m : ℕ) (solid : Solid) (at : Vec3) → (place_class m solid at ≡ Inside) ↔
    IsInterior m solid at
interior m solid at = (around-inside m solid at, all-around-here Inside m solid at)

pub exterior : (m : ℕ) (solid : Solid) (at : Vec3) → (place_class m solid at ≡ Outside) ↔
    IsExterior m solid at
exterior m solid at = (around-outside m solid at, all-around-here Outside m solid at)
