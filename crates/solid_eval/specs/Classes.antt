-- The exact class of a place.
use Rattle.std.specs.Prelude.{ℕ, ◌<◌}
use Rattle.solid_base.specs.declared.classes.Class.{Class}
use Rattle.solid_base.specs.declared.classes.Class.TheVariants.{Outside}
use Rattle.solid_base.specs.declared.geometry.Vec3.{Vec3}
use Rattle.fixed_enclosure.specs.declared.enclosures.Box3.{Box3}
use Rattle.fixed_enclosure.specs.Spans.{BoxHolds}
use Rattle.csg_primitives.specs.ExactMargins.{primitive_class}
use Rattle.boolean_tree.specs.Verdicts.{Decides, class_of}
use Rattle.affine_pull.specs.Chains.{parts_through, pulled_through}
use Rattle.solid_eval.specs.Solids.{Solid, nothing, primitive, moved, entity, combined}

-- solidd's own: where a place lies against a solid, Mixed on its boundary. The place is counted in
-- parts, of which m are one step; a primitive and a moved part are asked about the place carried
-- back through their chain
abbrev pub place_class : ℕ → Solid → Vec3 → Class
place_class m nothing p = Outside
place_class m (primitive e chain q) p =
    primitive_class (parts_through m chain) q (pulled_through m chain p)
place_class m (moved chain part) p =
    place_class (parts_through m chain) part (pulled_through m chain p)
place_class m (entity e part) p = place_class m part p
place_class m (combined o a b) p = class_of o (place_class m a p) (place_class m b p)

-- solidd's own: a class that isn't Mixed is the exact class of each place that a box holds, at any
-- finer scale
abbrev pub IsOfPlaces : Solid → Box3 → Class → Type 0
IsOfPlaces solid box k =
    (m : ℕ) (at : Vec3) → 0 < m → BoxHolds m box at → Decides k (place_class m solid at)
