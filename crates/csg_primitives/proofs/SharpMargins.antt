-- At a single point, with straight axes, the written margins of blocks, wedges, cylinders and spheres are single numbers with the signs of the exact ones.
use Rattle.std.proofs.Common.{◌≡◌, ℕ, ◌*◌, ◌<◌, Bool, true, false, ℤ, pos, neg_ℤ, ◌-ℤ◌, ◌*ℤ◌, ◌≤ℤ◌, ◌<ℤ◌, List, [], ◌∷◌, refl, sym, ◌∙◌, subst, arith, if◌then◌else◌, mul-le-mul}
use Rattle.std.specs.List.{list_all, list_any}
use Rattle.std.proofs.lemmas.Int.{ints, by_lt_z}
use Rattle.solid_base.proofs.Ring.{lines, diffs, diff-same, by_diff3, mul-le_right, mul_assoc_z, product_within, square_nonnegative}
use Rattle.solid_base.specs.declared.geometry.Vec3.{Vec3}
use Rattle.solid_base.specs.declared.classes.Class.TheVariants.{Outside, Mixed, Inside}
use Rattle.solid_base.specs.declared.solids.Primitive.{Primitive}
use Rattle.solid_base.specs.declared.solids.Primitive.TheVariants as prim
use Rattle.solid_base.specs.Range.{IsWithin, IsPointWithin, far}
use Rattle.solid_base.specs.Ranges.{dot, IsSize, AreSizes, IsUnit, IsLawfulPrim}
use Rattle.fixed_enclosure.specs.Spans.{Span, box_of, enc_bound, area_bound}
use Rattle.fixed_enclosure.specs.Values.{point_of, sign_of}
use Rattle.csg_primitives.specs.Classes.{is_positive, is_negative, exact_class}
use Rattle.csg_primitives.specs.Squares.{square}
use Rattle.fixed_enclosure.specs.Places.{offset, point_spans, offset_spans}
use Rattle.csg_primitives.specs.Frames.{cross, squared_length, height as tall, squared_radius, local_place, axis_parts, local_parts}
use Rattle.csg_primitives.specs.ExactMargins.{between, slant_margin, block_margins, wedge_margins, cylinder_margins, ball_margins, exact_margins, primitive_class}
use Rattle.csg_primitives.specs.WrittenFrames.{height_span, squared_radius_span, local_spans}
use Rattle.csg_primitives.specs.WrittenMargins.{span_class, below_span, between_spans, slant_span, within_span, block_spans, wedge_spans, cylinder_spans, ball_spans, written_margins, written_class}
use Rattle.csg_primitives.specs.Sharpness.{IsSharp, point_cube}
use Rattle.csg_primitives.proofs.Pairwise.{Pairwise}
use Rattle.csg_primitives.proofs.SpanClasses.{is_negative_span, is_positive_span, by_tests, none_negative}
use Rattle.csg_primitives.proofs.PointSpans.{in_units, point_minus, point_times, point_square, squared_length_points, less_scaled}
use Rattle.csg_primitives.proofs.StraightAxes.{IsSingle, straight, single, offset_within, offset_points, local_steps, local_points, in_parts, local_exact, local_within, height_point, height_within, height_exact, way_within, radius_point, radius_exact}

-- ---- a single number and its exact margin have one sign
abbrev Alike : Span → ℤ → Type 0
Alike s x = (is_negative_span s ≡ is_negative x) × (is_positive_span s ≡ is_positive x)

signs-alike : (v w : ℤ) → (v <ℤ pos 0 → w <ℤ pos 0) → (pos 0 <ℤ v → pos 0 <ℤ w) → (v ≡ pos 0 → w ≡ pos 0) → Alike (point_of v) w
unfolding sign_of
signs-alike v w f g h = by_lt_z v (pos 0)
    (λ l. let m = f l in (grind (arith, ints), grind (arith, ints)))
    (λ l. by_lt_z (pos 0) v
    (λ k. let m = g k in (grind (arith, ints), grind (arith, ints)))
    (λ k. let z : v ≡ pos 0 = omega (arith, lines) in let m = h z in (grind (arith, ints), grind (arith, ints))))

below_product : (v : ℤ) (n : ℕ) → 0 < n → v <ℤ pos 0 → (v *ℤ pos n) <ℤ pos 0
below_product v n p h =
    let m = mul-le_right v (neg_ℤ (pos 1)) (pos n) (omega (arith, lines)) (omega (arith, lines)) in
    let o : neg_ℤ (pos 1) *ℤ pos n ≡ neg_ℤ (pos n) = omega (arith, ints) in
    omega (arith, lines)

above_product : (v : ℤ) (n : ℕ) → 0 < n → pos 0 <ℤ v → pos 0 <ℤ (v *ℤ pos n)
above_product v n p h =
    let m = mul-le_right (pos 1) v (pos n) (omega (arith, lines)) (omega (arith, lines)) in
    let o : pos 1 *ℤ pos n ≡ pos n = omega (arith, ints) in
    omega (arith, lines)

zero_product : (v : ℤ) (n : ℕ) → v ≡ pos 0 → v *ℤ pos n ≡ pos 0
zero_product v n h = rw h (omega (arith, ints))

point-alike : (v : ℤ) (n : ℕ) → 0 < n → Alike (point_of v) (v *ℤ pos n)
point-alike v n p = signs-alike v (v *ℤ pos n) (below_product v n p) (above_product v n p) (zero_product v n)

-- a span that is a number, and a margin that is that number in parts
alike : (s : Span) (x v : ℤ) (n : ℕ) → 0 < n → s ≡ point_of v → x ≡ v *ℤ pos n → Alike s x
alike s x v n p e f = rw (e, f) (point-alike v n p)

-- ---- the class of alike margins
any-alike : (spans : List Span) (margins : List ℤ) → Pairwise Alike spans margins → list_any is_negative_span spans ≡ list_any is_negative margins
any-alike [] [] h = refl
any-alike [] (x ∷ xs) h = absurd h
any-alike (s ∷ ss) [] h = absurd h
any-alike (s ∷ ss) (x ∷ xs) h = let i = any-alike ss xs h.1 in rw (h.0.0, i) refl

all-alike : (spans : List Span) (margins : List ℤ) → Pairwise Alike spans margins → list_all is_positive_span spans ≡ list_all is_positive margins
all-alike [] [] h = refl
all-alike [] (x ∷ xs) h = absurd h
all-alike (s ∷ ss) [] h = absurd h
all-alike (s ∷ ss) (x ∷ xs) h = let i = all-alike ss xs h.1 in rw (h.0.1, i) refl

two_orders : (a b : Bool) → (b ≡ true → a ≡ false) → (if a then Outside else (if b then Inside else Mixed)) ≡ (if b then Inside else (if a then Outside else Mixed))
two_orders true true h = let e = h refl in cc
two_orders true false h = refl
two_orders false true h = refl
two_orders false false h = refl

class-alike : (spans : List Span) (margins : List ℤ) → Pairwise Alike spans margins → span_class spans ≡ exact_class margins
class-alike spans margins h =
    let e = any-alike spans margins h in
    let f = all-alike spans margins h in
    by_tests spans ∙ two_orders (list_any is_negative_span spans) (list_all is_positive_span spans) (none_negative spans) ∙ rw (e, f) refl

-- ---- margins
size_far : (n : ℤ) → IsSize n → IsWithin far n
size_far n h = (omega (arith, lines), omega (arith, lines))

below-point : (size v : ℤ) → IsSize size → IsWithin (6 * far) v → below_span size (point_of v) ≡ point_of (size -ℤ v)
unfolding below_span
below-point size v s h = point_minus enc_bound size v (omega (arith, lines), omega (arith, lines))

between-alike : (n : ℕ) (size v : ℤ) (spans : List Span) (margins : List ℤ) → 0 < n → IsSize size → IsWithin (6 * far) v → Pairwise Alike spans margins
    → Pairwise Alike (between_spans size (point_of v) spans) (between n size (v *ℤ pos n) margins)
between-alike n size v spans margins p s h k =
    (point-alike v n p, (alike (below_span size (point_of v)) (size *ℤ pos n -ℤ v *ℤ pos n) (size -ℤ v) n p (below-point size v s h) (sym (less_scaled size v (pos n))), k))

block-alike : (n : ℕ) (size v : Vec3) → 0 < n → AreSizes size → IsPointWithin (6 * far) v → Pairwise Alike (block_spans size (point_spans v)) (block_margins n size (in_parts n v))
block-alike n size v p s h =
    let z = between-alike n size.z v.z [] [] p s.2 h.2 tt in
    let y = between-alike n size.y v.y (between_spans size.z (point_of v.z) []) (between n size.z (v.z *ℤ pos n) []) p s.1 h.1 z in
    between-alike n size.x v.x (between_spans size.y (point_of v.y) (between_spans size.z (point_of v.z) [])) (between n size.y (v.y *ℤ pos n) (between n size.z (v.z *ℤ pos n) [])) p s.0 h.0 y

-- the slanted side
slant_number : Vec3 → ℤ → Vec3 → ℤ
slant_number size ltx v = size.y *ℤ (size.x -ℤ v.x) -ℤ (size.x -ℤ ltx) *ℤ v.y

slant-point : (size : Vec3) (ltx : ℤ) (v : Vec3) → AreSizes size → pos 0 ≤ℤ ltx → ltx <ℤ size.x → IsPointWithin (6 * far) v → slant_span size ltx (point_spans v) ≡ point_of (slant_number size ltx v)
unfolding slant_span slant_number
slant-point size ltx v s l g h =
    let sx = s.0 in
    let sy = s.1 in
    let vx = h.0 in
    let vy = h.1 in
    let a = product_within size.y (size.x -ℤ v.x) far (7 * far) (omega (arith, lines)) (omega (arith, lines)) (omega (arith, lines)) (omega (arith, lines)) in
    let b = product_within (size.x -ℤ ltx) v.y far (6 * far) (omega (arith, lines)) (omega (arith, lines)) vy.0 vy.1 in
    let reach = point_times size.y (size.x -ℤ v.x) (omega (arith, lines), omega (arith, lines)) in
    let less = point_times (size.x -ℤ ltx) v.y (omega (arith, lines), omega (arith, lines)) in
    rw (below-point size.x v.x sx vx, reach, less) (point_minus area_bound (size.y *ℤ (size.x -ℤ v.x)) ((size.x -ℤ ltx) *ℤ v.y) (omega (arith, lines), omega (arith, lines)))

slant-exact : (n : ℕ) (size : Vec3) (ltx : ℤ) (v : Vec3) → slant_margin n size ltx (in_parts n v) ≡ slant_number size ltx v *ℤ pos n
unfolding slant_number
slant-exact n size ltx v =
    let x = less_scaled size.x v.x (pos n) in
    let a = mul_assoc_z size.y (size.x -ℤ v.x) (pos n) in
    let b = mul_assoc_z (size.x -ℤ ltx) v.y (pos n) in
    let w = less_scaled (size.y *ℤ (size.x -ℤ v.x)) ((size.x -ℤ ltx) *ℤ v.y) (pos n) in
    rw (← x) (omega (arith, lines))

wedge-alike : (n : ℕ) (size : Vec3) (ltx : ℤ) (v : Vec3) → 0 < n → AreSizes size → pos 0 ≤ℤ ltx → ltx <ℤ size.x → IsPointWithin (6 * far) v
    → Pairwise Alike (wedge_spans size ltx (point_spans v)) (wedge_margins n size ltx (in_parts n v))
wedge-alike n size ltx v p s l g h =
    let side = alike (slant_span size ltx (point_spans v)) (slant_margin n size ltx (in_parts n v)) (slant_number size ltx v) n p (slant-point size ltx v s l g h) (slant-exact n size ltx v) in
    let ss = slant_span size ltx (point_spans v) ∷ [] in
    let ms = slant_margin n size ltx (in_parts n v) ∷ [] in
    let z = between-alike n size.z v.z ss ms p s.2 h.2 (side, tt) in
    let y = between-alike n size.y v.y (between_spans size.z (point_of v.z) ss) (between n size.z (v.z *ℤ pos n) ms) p s.1 h.1 z in
    (point-alike v.x n p, y)

-- a radius
within-point : (r rr : ℤ) → IsSize r → pos 0 ≤ℤ rr → rr ≤ℤ pos area_bound → within_span r (point_of rr) ≡ point_of (r *ℤ r -ℤ rr)
unfolding within_span
within-point r rr s z h =
    let w = size_far r s in
    let a = product_within r r far far w.0 w.1 w.0 w.1 in
    let b = square_nonnegative r in
    rw (point_square r (omega (arith, lines), omega (arith, lines))) (point_minus area_bound (r *ℤ r) rr (omega (arith, lines), omega (arith, lines)))

radius_scaled : (r rr n : ℤ) → square (r *ℤ n) -ℤ rr *ℤ (n *ℤ n) ≡ (r *ℤ r -ℤ rr) *ℤ (n *ℤ n)
radius_scaled = by_diff3 (λ (r rr n : ℤ). square (r *ℤ n) -ℤ rr *ℤ (n *ℤ n) ≡ (r *ℤ r -ℤ rr) *ℤ (n *ℤ n)) (λ (a b c d e f : ℕ). simp diffs (diff-same _ _ _ _ (omega arith)))

within-alike : (n : ℕ) (r rr : ℤ) → 0 < n → IsSize r → pos 0 ≤ℤ rr → rr ≤ℤ pos area_bound → Alike (within_span r (point_of rr)) (square (r *ℤ pos n) -ℤ rr *ℤ pos (n * n))
within-alike n r rr p s z h =
    alike (within_span r (point_of rr)) (square (r *ℤ pos n) -ℤ rr *ℤ pos (n * n)) (r *ℤ r -ℤ rr) (n * n) (omega (arith, mul-le-mul p p)) (within-point r rr s z h) (radius_scaled r rr (pos n))

length-within : (d : Vec3) → IsPointWithin (4 * far) d → (pos 0 ≤ℤ squared_length d) × (squared_length d ≤ℤ pos area_bound)
length-within d h =
    let x = product_within d.x d.x (4 * far) (4 * far) h.0.0 h.0.1 h.0.0 h.0.1 in
    let y = product_within d.y d.y (4 * far) (4 * far) h.1.0 h.1.1 h.1.0 h.1.1 in
    let z = product_within d.z d.z (4 * far) (4 * far) h.2.0 h.2.1 h.2.0 h.2.1 in
    (omega (arith, lines, square_nonnegative d.x, square_nonnegative d.y, square_nonnegative d.z), omega (arith, lines))

cylinder-alike : (n : ℕ) (h r v rr : ℤ) → 0 < n → IsSize h → IsSize r → IsWithin (6 * far) v → pos 0 ≤ℤ rr → rr ≤ℤ pos area_bound
    → Pairwise Alike (cylinder_spans h r (point_of v) (point_of rr)) (cylinder_margins n h r (v *ℤ pos n) (rr *ℤ pos (n * n)))
cylinder-alike n h r v rr p s t i z j =
    between-alike n h v (within_span r (point_of rr) ∷ []) ((square (r *ℤ pos n) -ℤ rr *ℤ pos (n * n)) ∷ []) p s i (within-alike n r rr p t z j, tt)

-- ---- all four kinds
as_unit : (a b : Vec3) → a ≡ b → IsUnit a → IsUnit b
as_unit a b e h = subst (λ (v : Vec3). IsUnit v) e h

wider : (d : Vec3) → IsPointWithin (2 * far) d → IsPointWithin (4 * far) d
wider d h = ((omega (arith, lines, h.0), omega (arith, lines, h.0)), (omega (arith, lines, h.1), omega (arith, lines, h.1)), (omega (arith, lines, h.2), omega (arith, lines, h.2)))

times_one : (z : ℤ) → z *ℤ pos (1 * 1) ≡ z
times_one z = omega (arith, ints)

block-sharp : (size corner e f p : Vec3) → AreSizes size → IsPointWithin far corner → IsPointWithin far p → IsPointWithin 1 e → IsPointWithin 1 f → IsSingle f
    → Pairwise Alike (block_spans size (local_spans corner (in_units e) (in_units f) (point_spans p))) (block_margins (local_parts 1) size (local_place 1 corner (in_units e) (in_units f) p))
block-sharp size corner e f p s h k i j o =
    rw (local_points corner e f p h k i j o, local_exact corner e f p) (block-alike (local_parts 1) size (local_steps (offset 1 corner p) e f) (omega arith) s (local_within corner e f p h k i j o))

wedge-sharp : (size : Vec3) (ltx : ℤ) (corner e f p : Vec3) → AreSizes size → pos 0 ≤ℤ ltx → ltx <ℤ size.x → IsPointWithin far corner → IsPointWithin far p → IsPointWithin 1 e → IsPointWithin 1 f → IsSingle f
    → Pairwise Alike (wedge_spans size ltx (local_spans corner (in_units e) (in_units f) (point_spans p))) (wedge_margins (local_parts 1) size ltx (local_place 1 corner (in_units e) (in_units f) p))
wedge-sharp size ltx corner e f p s l g h k i j o =
    rw (local_points corner e f p h k i j o, local_exact corner e f p) (wedge-alike (local_parts 1) size ltx (local_steps (offset 1 corner p) e f) (omega arith) s l g (local_within corner e f p h k i j o))

cylinder-sharp : (height r : ℤ) (foot e p : Vec3) → IsSize height → IsSize r → IsPointWithin far foot → IsPointWithin far p → IsPointWithin 1 e
    → Pairwise Alike (cylinder_spans height r (height_span foot (in_units e) (point_spans p)) (squared_radius_span foot (in_units e) (point_spans p)))
    (cylinder_margins (axis_parts 1) height r (tall 1 foot (in_units e) p) (squared_radius 1 foot (in_units e) p))
cylinder-sharp h r foot e p s t f k i =
    let w = length-within (cross (offset 1 foot p) e) (way_within (offset 1 foot p) e (offset_within foot p f k) i) in
    rw (height_point foot e p f k i, radius_point foot e p f k i, height_exact foot e p, radius_exact foot e p)
    (cylinder-alike (axis_parts 1) h r (dot (offset 1 foot p) e) (squared_length (cross (offset 1 foot p) e)) (omega arith) s t (height_within foot e p f k i) w.0 w.1)

ball-sharp : (r : ℤ) (centre p : Vec3) → IsSize r → IsPointWithin far centre → IsPointWithin far p → Pairwise Alike (ball_spans r (offset_spans (point_spans p) centre)) (ball_margins 1 r (offset 1 centre p))
ball-sharp r centre p s h k =
    let d = offset 1 centre p in
    let f = wider d (offset_within centre p h k) in
    let w = length-within d f in
    let b = within-alike 1 r (squared_length d) (omega arith) s w.0 w.1 in
    let a = rw (times_one (squared_length d)) at b in
    rw (offset_points centre p h k, squared_length_points d f) (a, tt)

margins-alike : (q : Primitive) (p : Vec3) → IsLawfulPrim q → IsSharp q → IsPointWithin far p → Pairwise Alike (written_margins q (point_spans p)) (exact_margins 1 q p)
unfolding written_margins exact_margins
margins-alike (prim.Block size corner u w) p l s k =
    let e = straight u s.0 in
    let f = straight w s.1 in
    let o = single f.0 f.2 (as_unit w (in_units f.0) f.1 l.2.1.1) in
    rw (e.1, f.1) (block-sharp size corner e.0 f.0 p l.0 l.1 k e.2 f.2 o)
margins-alike (prim.Wedge size ltx corner u w) p l s k =
    let e = straight u s.0 in
    let f = straight w s.1 in
    let o = single f.0 f.2 (as_unit w (in_units f.0) f.1 l.4.1.1) in
    rw (e.1, f.1) (wedge-sharp size ltx corner e.0 f.0 p l.0 l.1 l.2 l.3 k e.2 f.2 o)
margins-alike (prim.Cylinder h r foot w) p l s k =
    let f = straight w s in
    rw f.1 (cylinder-sharp h r foot f.0 p l.0 l.1 l.2 k f.2)
margins-alike (prim.Cone h r1 r2 foot w) p l s k = absurd s
margins-alike (prim.Sphere r centre) p l s k = ball-sharp r centre p l.0 l.1 k
margins-alike (prim.Torus r1 r2 centre w) p l s k = absurd s
margins-alike (prim.Ellipsoid size centre u w) p l s k = absurd s

-- the written class at a point is the exact one
pub sharp : (q : Primitive) (p : Vec3) → IsLawfulPrim q → IsSharp q → IsPointWithin far p → written_class q (box_of (point_cube p)) ≡ primitive_class 1 q p
sharp q p l s k = class-alike (written_margins q (point_spans p)) (exact_margins 1 q p) (margins-alike q p l s k)
