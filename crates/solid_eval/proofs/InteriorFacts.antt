-- A worked solid: the ball of a unit's radius round the origin.
use Rattle.std.proofs.Common.{◌≡◌, refl, subst, arith, ℕ, ◌+◌, ◌*◌, ◌^◌, ◌<◌, ◌≤◌}
use Rattle.std.proofs.Common.{mul-le-mul, ℤ, pos, ◌-ℤ◌, ◌*ℤ◌, ◌≤ℤ◌, ◌<ℤ◌, [], ◌∷◌}
use Rattle.solid_base.specs.declared.classes.Class.TheVariants.{Mixed, Inside}
use Rattle.solid_base.specs.declared.geometry.Vec3.{Vec3}
use Rattle.solid_base.specs.declared.solids.Primitive.TheVariants as prim
use Rattle.solid_base.specs.Range.{IsWithin, IsPointWithin}
use Rattle.solid_base.specs.Ranges.{dot}
use Rattle.solid_base.proofs.Ring.{lines, product_within}
use Rattle.fixed_enclosure.specs.Places.{offset}
use Rattle.fixed_enclosure.specs.Values.{unit}
use Rattle.csg_primitives.specs.ExactMargins.{exact_margins}
use Rattle.csg_primitives.specs.Neighbours.{IsNear}
use Rattle.csg_primitives.specs.Squares.{square}
use Rattle.csg_primitives.proofs.Classes.{positive_in, exact_inside}
use Rattle.solid_eval.specs.Classes.{place_class}
use Rattle.solid_eval.specs.Interior.{IsInterior, IsExterior}
use Rattle.solid_eval.specs.Solids.{Solid, primitive}
use Rattle.solid_eval.proofs.Interior.{interior, exterior, power-positive}

abbrev point : ℤ → ℤ → ℤ → Vec3
point x y z = record { x = x; y = y; z = z }

abbrev origin : Vec3
origin = point (pos 0) (pos 0) (pos 0)

abbrev ball : Solid
ball = primitive 1 [] (prim.Sphere (pos unit) origin)

-- ---- all places within a step of its centre are inside
square-near : (w : ℕ) (x : ℤ) → IsWithin w x → (x *ℤ x) ≤ℤ pos (w * w)
square-near w x h = (product_within x x w w h.0 h.1 h.0 h.1).1

far-enough : (w : ℕ) → 0 < w → 3 * (w * w) < (unit * w) * (unit * w)
far-enough w h =
    let a : (2 * w) * (2 * w) ≤ (unit * w) * (unit * w) = mul-le-mul (omega arith) (omega arith) in
    let b : 1 * 1 ≤ w * w = mul-le-mul h h in
    omega arith

within-radius : (w : ℕ) (d : Vec3) → 0 < w → IsPointWithin w d
    → pos 0 <ℤ (square (pos unit *ℤ pos w) -ℤ dot d d)
within-radius w d h near =
    let x = square-near w d.x near.0 in
    let y = square-near w d.y near.1 in
    let z = square-near w d.z near.2 in
    let far = far-enough w h in
    let e : square (pos unit *ℤ pos w) ≡ pos ((unit * w) * (unit * w)) = refl in
    omega (arith, lines)

near-centre : (w : ℕ) (p : Vec3) → 0 < w → IsNear w w origin p → place_class w ball p ≡ Inside
unfolding exact_margins
near-centre w p h near =
    let d = offset w origin p in
    let margin = square (pos unit *ℤ pos w) -ℤ dot d d in
    exact_inside (margin ∷ []) (rw (positive_in margin (within-radius w d h near)) refl)

once : (w : ℕ) → w ≡ w * 1
once w = omega arith

none-before : (t : ℕ) → t ≡ 0 + t
none-before t = omega arith

-- its centre is interior, with a neighbourhood of a step to every side
pub centre_interior : IsInterior 1 ball origin
centre_interior = record {
  scales = 0;
  near = λ t p.
      let w = unit ^ t in
      subst (λ (s : ℕ). IsNear (unit ^ s) w origin p → place_class (unit ^ s * 1) ball p ≡ Inside)
      (none-before t) (λ h.
      subst (λ (m : ℕ). place_class m ball p ≡ Inside) (once w)
      (near-centre w p (power-positive unit t (omega arith)) h));
}

-- ---- its surface
abbrev pole : Vec3
pole = point (pos 0) (pos 0) (pos unit)

on_surface : place_class 1 ball pole ≡ Mixed
unfolding exact_margins offset
on_surface = refl

-- a place on the boundary lies neither in the interior nor in the exterior
pub pole_not_interior : ¬ IsInterior 1 ball pole
pole_not_interior h = let is = (interior 1 ball pole).1 h in let on = on_surface in absurd cc

pub pole_not_exterior : ¬ IsExterior 1 ball pole
pole_not_exterior h = let is = (exterior 1 ball pole).1 h in let on = on_surface in absurd cc
