-- Where the class over a box is Inside, each place in the box lies in the interior of the solid;
-- where it is Outside, in the exterior.
use Rattle.std.proofs.Common.{◌≡◌, arith, ℕ, ◌<◌, ℤ, List}
use Rattle.std.proofs.lemmas.Int.{ints}
use Rattle.std.specs.List.{AllByRecursion}
use Rattle.solid_base.specs.declared.classes.Class.TheVariants.{Outside, Inside}
use Rattle.solid_base.specs.declared.entities.Entity.{Entity}
use Rattle.solid_base.specs.declared.geometry.Vec3.{Vec3}
use Rattle.solid_base.specs.Ranges.{IsLawfulRow}
use Rattle.fixed_enclosure.specs.declared.enclosures.Box3.{Box3}
use Rattle.fixed_enclosure.specs.Places.{spans_of}
use Rattle.fixed_enclosure.specs.Spans.{Between, Holds, BoxHolds, box_of}
use Rattle.csg_primitives.specs.Sharpness.{point_cube}
use Rattle.solid_eval.specs.Classes.{place_class}
use Rattle.solid_eval.specs.Interior.{IsInterior, IsExterior}
use Rattle.solid_eval.specs.Solids.{solid_of}
use Rattle.solid_eval.specs.Written.{written}
use Rattle.solid_eval.proofs.Interior.{interior, exterior}
use Rattle.solid_eval.proofs.Sound.{decided, of_places}

module _ (m : ℕ) (rows : List Entity) (e : ℕ) (box : Box3) (at : Vec3) (parts : 0 < m)
    (lawful : AllByRecursion (λ (e : Entity). IsLawfulRow e.row) rows)
    (held : BoxHolds m box at) where
  pub inside-exact : (written (solid_of rows e) (spans_of box)).class ≡ Inside
      → place_class m (solid_of rows e) at ≡ Inside
  inside-exact is =
      decided _ _ Inside (of_places rows e box lawful m at parts held) is (λ n. cc)

  pub outside-exact : (written (solid_of rows e) (spans_of box)).class ≡ Outside
      → place_class m (solid_of rows e) at ≡ Outside
  outside-exact is =
      decided _ _ Outside (of_places rows e box lawful m at parts held) is (λ n. cc)

  pub inside-settled : (written (solid_of rows e) (spans_of box)).class ≡ Inside
      → IsInterior m (solid_of rows e) at
  inside-settled is = (interior m (solid_of rows e) at).0 (inside-exact is)

  pub outside-settled : (written (solid_of rows e) (spans_of box)).class ≡ Outside
      → IsExterior m (solid_of rows e) at
  outside-settled is = (exterior m (solid_of rows e) at).0 (outside-exact is)

-- ---- the box of a single point holds the point
held-once : (x : ℤ) → Holds 1 (Between x x) x
held-once x = (omega (arith, ints), omega (arith, ints))

pub point-held : (at : Vec3) → BoxHolds 1 (box_of (point_cube at)) at
point-held at = (held-once at.x, held-once at.y, held-once at.z)
