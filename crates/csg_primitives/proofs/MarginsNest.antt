-- A box in a box: each written margin of the inner one lies in that of the outer one, so a class that the outer one shows is shown by the inner one.
use Rattle.std.proofs.Common.{◌≡◌, ◌≢◌, ℕ, true, ℤ, pos, ◌+ℤ◌, ◌-ℤ◌, ◌*ℤ◌, ◌≤ℤ◌, ◌<ℤ◌, List, [], ◌∷◌, refl, ◌∙◌, arith}
use Rattle.std.proofs.lemmas.Int.{ints}
use Rattle.solid_base.proofs.Ring.{lines}
use Rattle.solid_base.specs.declared.geometry.Vec3.{Vec3}
use Rattle.solid_base.specs.declared.classes.Class.{Class}
use Rattle.solid_base.specs.declared.classes.Class.TheVariants.{Outside, Mixed, Inside}
use Rattle.solid_base.specs.declared.solids.Primitive.{Primitive}
use Rattle.solid_base.specs.declared.solids.Primitive.TheVariants as prim
use Rattle.solid_base.specs.Range.{IsWithin, far}
use Rattle.solid_base.specs.Ranges.{IsSize, AreSizes, IsLawfulPrim}
use Rattle.fixed_enclosure.specs.declared.enclosures.Box3.{Box3}
use Rattle.fixed_enclosure.specs.declared.enclosures.Sign.{Sign}
use Rattle.fixed_enclosure.specs.declared.enclosures.Sign.TheVariants.{Negative, Positive, Open}
use Rattle.fixed_enclosure.specs.Spans.{Span, IsBox, IsBoxIn, enc_bound, area_bound}
use Rattle.fixed_enclosure.specs.Values.{unit, point_of, root_of, ratio_of, sign_of}
use Rattle.fixed_enclosure.proofs.SpanSigns.{sign_of-in}
use Rattle.fixed_enclosure.specs.Places.{Span3, spans_of, Nested, AreNested}
use Rattle.csg_primitives.specs.WrittenFrames.{height_span, squared_radius_span}
use Rattle.csg_primitives.specs.WrittenMargins.{span_class, written_margins, written_class, below_span, between_spans, slant_span, within_span, cone_span, torus_sum_span, torus_span, less_ratio, ellipsoid_span, block_spans, wedge_spans}
use Rattle.csg_primitives.proofs.Pairwise.{Pairwise, any_along, all_along}
use Rattle.csg_primitives.proofs.SpanClasses.{is_negative_span, is_positive_span, negative_out, negative_in, positive_out, positive_in, outside_out, outside_in, inside_out, inside_in}
use Rattle.fixed_enclosure.proofs.PlacesNest.{point-nested, length-nested, sum-nested, minus-nested, times-nested, square-nested, root-nested, ratio-nested, offset_spans-nested}
use Rattle.csg_primitives.proofs.SpansNest.{squared_length_span-nested, height_span-nested, squared_radius_span-nested, local_spans-nested}

-- ---- a sign that is shown stays
abbrev Decides : Span → Span → Type 0
Decides outer inner = sign_of outer ≢ Open → sign_of inner ≡ sign_of outer

nested-decides : (bound : ℕ) (inner outer : Span) → Nested bound inner outer → Decides outer inner
nested-decides bound inner outer h = sign_of-in bound inner outer h.0 h.1

negative_shown : (s : Sign) → s ≡ Negative → s ≢ Open
negative_shown Negative e = λ h. cc
negative_shown Positive e = cc
negative_shown Open e = cc

positive_shown : (s : Sign) → s ≡ Positive → s ≢ Open
positive_shown Negative e = cc
positive_shown Positive e = λ h. cc
positive_shown Open e = cc

negative_stays : (outer inner : Span) → Decides outer inner → is_negative_span outer ≡ true → is_negative_span inner ≡ true
negative_stays outer inner h e = let n = negative_out _ e in negative_in _ (h (negative_shown _ n) ∙ n)

positive_stays : (outer inner : Span) → Decides outer inner → is_positive_span outer ≡ true → is_positive_span inner ≡ true
positive_stays outer inner h e = let n = positive_out _ e in positive_in _ (h (positive_shown _ n) ∙ n)

shown_stays : (c : Class) (outer inner : List Span) → Pairwise Decides outer inner → span_class outer ≡ c → c ≢ Mixed → span_class inner ≡ c
shown_stays Outside outer inner h e n = outside_in inner (any_along Decides is_negative_span is_negative_span negative_stays outer inner h (outside_out outer e))
shown_stays Mixed outer inner h e n = absurd (n refl)
shown_stays Inside outer inner h e n = inside_in inner (all_along Decides is_positive_span is_positive_span positive_stays outer inner h (inside_out outer e))

-- ---- margins
size_far : (n : ℤ) → IsSize n → IsWithin far n
size_far n h = (omega (arith, lines), omega (arith, lines))

below-nested : (size : ℤ) (a p : Span) → IsSize size → Nested enc_bound a p → Nested enc_bound (below_span size a) (below_span size p)
unfolding below_span
below-nested size a p s h = minus-nested enc_bound (point_of size) a (point_of size) p (length-nested size (size_far size s)) h

between-decides : (size : ℤ) (a p : Span) (inner outer : List Span) → IsSize size → Nested enc_bound a p → Pairwise Decides outer inner → Pairwise Decides (between_spans size p outer) (between_spans size a inner)
between-decides size a p inner outer s h k = (nested-decides enc_bound a p h, (nested-decides enc_bound (below_span size a) (below_span size p) (below-nested size a p s h), k))

area-decides : (a p : Span) → Nested area_bound a p → Pairwise Decides (p ∷ []) (a ∷ [])
area-decides a p h = (nested-decides area_bound a p h, tt)

block-decides : (size : Vec3) (a p : Span3) → AreSizes size → AreNested a p → Pairwise Decides (block_spans size p) (block_spans size a)
block-decides size a p s h =
    between-decides size.x a.x p.x (between_spans size.y a.y (between_spans size.z a.z [])) (between_spans size.y p.y (between_spans size.z p.z [])) s.0 h.0
    (between-decides size.y a.y p.y (between_spans size.z a.z []) (between_spans size.z p.z []) s.1 h.1 (between-decides size.z a.z p.z [] [] s.2 h.2 tt))

slant-nested : (size : Vec3) (ltx : ℤ) (a p : Span3) → AreSizes size → pos 0 ≤ℤ ltx → ltx <ℤ size.x → AreNested a p → Nested area_bound (slant_span size ltx a) (slant_span size ltx p)
unfolding slant_span
slant-nested size ltx a p s l g h =
    let near = s.0 in
    minus-nested area_bound _ _ _ _
    (times-nested (point_of size.y) (below_span size.x a.x) (point_of size.y) (below_span size.x p.x) (length-nested size.y (size_far size.y s.1)) (below-nested size.x a.x p.x s.0 h.0))
    (times-nested (point_of (size.x -ℤ ltx)) a.y (point_of (size.x -ℤ ltx)) p.y (length-nested (size.x -ℤ ltx) (omega (arith, lines), omega (arith, lines))) h.1)

wedge-decides : (size : Vec3) (ltx : ℤ) (a p : Span3) → AreSizes size → pos 0 ≤ℤ ltx → ltx <ℤ size.x → AreNested a p → Pairwise Decides (wedge_spans size ltx p) (wedge_spans size ltx a)
wedge-decides size ltx a p s l g h = (
  nested-decides enc_bound a.x p.x h.0,
  between-decides size.y a.y p.y (between_spans size.z a.z (slant_span size ltx a ∷ [])) (between_spans size.z p.z (slant_span size ltx p ∷ [])) s.1 h.1
      (between-decides size.z a.z p.z (slant_span size ltx a ∷ []) (slant_span size ltx p ∷ []) s.2 h.2 (area-decides _ _ (slant-nested size ltx a p s l g h))),
)

within-nested : (r : ℤ) (a p : Span) → IsSize r → Nested area_bound a p → Nested area_bound (within_span r a) (within_span r p)
unfolding within_span
within-nested r a p s h = minus-nested area_bound _ _ _ _ (square-nested (point_of r) (point_of r) (length-nested r (size_far r s))) h

cone-nested : (h r1 r2 : ℤ) (z zz rr rrr : Span) → IsSize h → IsSize r1 → pos 0 ≤ℤ r2 → r2 <ℤ r1 → Nested enc_bound z zz → Nested area_bound rr rrr
    → Nested area_bound (cone_span h r1 r2 z rr) (cone_span h r1 r2 zz rrr)
unfolding cone_span
cone-nested h r1 r2 z zz rr rrr s t l g i j =
    let height = length-nested h (size_far h s) in
    minus-nested area_bound _ _ _ _
    (minus-nested area_bound _ _ _ _
    (times-nested (point_of r1) (point_of h) (point_of r1) (point_of h) (length-nested r1 (size_far r1 t)) height)
    (times-nested (point_of (r1 -ℤ r2)) z (point_of (r1 -ℤ r2)) zz (length-nested (r1 -ℤ r2) (omega (arith, lines), omega (arith, lines))) i))
    (times-nested (point_of h) (root_of rr) (point_of h) (root_of rrr) height (root-nested rr rrr j))

twice : (r : ℤ) → pos 2 *ℤ r ≡ r +ℤ r
twice r = omega (arith, ints)

twice_within : (r : ℤ) → IsSize r → IsWithin enc_bound (pos 2 *ℤ r)
twice_within r h = (omega (arith, lines, twice r), omega (arith, lines, twice r))

torus_sum-nested : (r1 r2 : ℤ) (z zz rr rrr : Span) → IsSize r1 → IsSize r2 → Nested enc_bound z zz → Nested area_bound rr rrr
    → Nested area_bound (torus_sum_span r1 r2 z rr) (torus_sum_span r1 r2 zz rrr)
unfolding torus_sum_span
torus_sum-nested r1 r2 z zz rr rrr s t i j =
    minus-nested area_bound _ _ _ _
    (sum-nested area_bound _ _ _ _ (sum-nested area_bound _ _ _ _ j (square-nested z zz i)) (square-nested (point_of r1) (point_of r1) (length-nested r1 (size_far r1 s))))
    (square-nested (point_of r2) (point_of r2) (length-nested r2 (size_far r2 t)))

torus-nested : (r1 r2 : ℤ) (z zz rr rrr : Span) → IsSize r1 → IsSize r2 → Nested enc_bound z zz → Nested area_bound rr rrr
    → Nested area_bound (torus_span r1 r2 z rr) (torus_span r1 r2 zz rrr)
unfolding torus_span
torus-nested r1 r2 z zz rr rrr s t i j =
    minus-nested area_bound _ _ _ _
    (times-nested (point_of (pos 2 *ℤ r1)) (root_of rr) (point_of (pos 2 *ℤ r1)) (root_of rrr) (point-nested enc_bound (pos 2 *ℤ r1) (twice_within r1 s)) (root-nested rr rrr j))
    (torus_sum-nested r1 r2 z zz rr rrr s t i j)

less_ratio-nested : (size : ℤ) (rest rests a p : Span) → IsSize size → Nested area_bound rest rests → Nested enc_bound a p → Nested area_bound (less_ratio rest size a) (less_ratio rests size p)
unfolding less_ratio
less_ratio-nested size rest rests a p s h k = minus-nested area_bound _ _ _ _ h (square-nested (ratio_of size a) (ratio_of size p) (ratio-nested size a p (omega (arith, lines)) k))

unit_within : IsWithin enc_bound (pos unit)
unit_within = (omega (arith, lines), omega (arith, lines))

ellipsoid-nested : (size : Vec3) (a p : Span3) → AreSizes size → AreNested a p → Nested area_bound (ellipsoid_span size a) (ellipsoid_span size p)
unfolding ellipsoid_span
ellipsoid-nested size a p s h =
    let one = square-nested (point_of (pos unit)) (point_of (pos unit)) (point-nested enc_bound (pos unit) unit_within) in
    less_ratio-nested size.z _ _ a.z p.z s.2 (less_ratio-nested size.y _ _ a.y p.y s.1 (less_ratio-nested size.x _ _ a.x p.x s.0 one h.0) h.1) h.2

-- two faces and one side
faces-decide : (size : ℤ) (a p b q : Span) → IsSize size → Nested enc_bound a p → Nested area_bound b q → Pairwise Decides (between_spans size p (q ∷ [])) (between_spans size a (b ∷ []))
faces-decide size a p b q s h k = between-decides size a p (b ∷ []) (q ∷ []) s h (area-decides b q k)

margins-decide : (q : Primitive) (a p : Span3) → IsLawfulPrim q → AreNested a p → Pairwise Decides (written_margins q p) (written_margins q a)
unfolding written_margins
margins-decide (prim.Block size corner u w) a p l h = block-decides size _ _ l.0 (local_spans-nested corner u w a p l.1 l.2.0.0 l.2.1.0 h)
margins-decide (prim.Wedge size ltx corner u w) a p l h = wedge-decides size ltx _ _ l.0 l.1 l.2 (local_spans-nested corner u w a p l.3 l.4.0.0 l.4.1.0 h)
margins-decide (prim.Cylinder height r foot w) a p l h =
    faces-decide height _ _ (within_span r (squared_radius_span foot w a)) (within_span r (squared_radius_span foot w p)) l.0 (height_span-nested foot w a p l.2 l.3.0 h)
    (within-nested r _ _ l.1 (squared_radius_span-nested foot w a p l.2 l.3.0 h))
margins-decide (prim.Cone height r1 r2 foot w) a p l h =
    let z = height_span-nested foot w a p l.4 l.5.0 h in
    let side = cone-nested height r1 r2 _ _ _ _ l.0 l.1 l.2 l.3 z (squared_radius_span-nested foot w a p l.4 l.5.0 h) in
    faces-decide height _ _ (cone_span height r1 r2 (height_span foot w a) (squared_radius_span foot w a)) (cone_span height r1 r2 (height_span foot w p) (squared_radius_span foot w p)) l.0 z side
margins-decide (prim.Sphere r centre) a p l h = area-decides _ _ (within-nested r _ _ l.0 (squared_length_span-nested _ _ (offset_spans-nested a p centre l.1 h)))
margins-decide (prim.Torus r1 r2 centre w) a p l h =
    area-decides _ _ (torus-nested r1 r2 _ _ _ _ l.0 l.1 (height_span-nested centre w a p l.3 l.4.0 h) (squared_radius_span-nested centre w a p l.3 l.4.0 h))
margins-decide (prim.Ellipsoid size centre u w) a p l h = area-decides _ _ (ellipsoid-nested size _ _ l.0 (local_spans-nested centre u w a p l.1 l.2.0.0 l.2.1.0 h))

boxes-nested : (a b : Box3) → IsBox a → IsBoxIn a b → AreNested (spans_of a) (spans_of b)
boxes-nested a b h i = ((h.0, i.0), (h.1, i.1), (h.2, i.2))

-- a class that a box shows is that of each box in it
pub class-in : (q : Primitive) (a b : Box3) → IsLawfulPrim q → IsBox a → IsBoxIn a b → written_class q b ≢ Mixed → written_class q a ≡ written_class q b
class-in q a b l h i n = shown_stays (written_class q b) _ _ (margins-decide q (spans_of a) (spans_of b) l (boxes-nested a b h i)) refl n
