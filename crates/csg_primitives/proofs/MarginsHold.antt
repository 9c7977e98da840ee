-- Written margins hold exact ones, so the class that they show is the exact one: blocks, wedges, cylinders and spheres, whose margins are polynomials.
use Rattle.std.proofs.Common.{mul-le-mul, ◌≡◌, ℕ, ◌*◌, ◌<◌, true, ℤ, pos, ◌-ℤ◌, ◌*ℤ◌, ◌<ℤ◌, List, [], ◌∷◌, arith}
use Rattle.solid_base.specs.declared.geometry.Vec3.{Vec3}
use Rattle.solid_base.specs.declared.classes.Class.TheVariants.{Outside, Inside}
use Rattle.fixed_enclosure.specs.declared.enclosures.Sign.TheVariants.{Negative, Positive}
use Rattle.fixed_enclosure.specs.Spans.{Span, Holds, enc_bound, area_bound}
use Rattle.fixed_enclosure.specs.Values.{point_of, times_of, square_of, sign_of}
use Rattle.fixed_enclosure.proofs.SpanSums.{minus_of-holds}
use Rattle.fixed_enclosure.proofs.SpanProducts.{times_of-holds, square_of-holds}
use Rattle.fixed_enclosure.proofs.SpanSigns.{sign_of-positive, sign_of-negative}
use Rattle.csg_primitives.specs.Classes.{is_positive, is_negative, exact_class}
use Rattle.csg_primitives.specs.Squares.{square}
use Rattle.csg_primitives.specs.Frames.{squared_length}
use Rattle.csg_primitives.specs.ExactMargins.{between, slant_margin, block_margins, wedge_margins, cylinder_margins, ball_margins}
use Rattle.fixed_enclosure.specs.Places.{Span3, SpansHold}
use Rattle.csg_primitives.specs.WrittenFrames.{squared_length_span}
use Rattle.csg_primitives.specs.WrittenMargins.{span_class, below_span, between_spans, slant_span, within_span, block_spans, wedge_spans, cylinder_spans, ball_spans}
use Rattle.csg_primitives.proofs.Classes.{positive_in, negative_in, exact_inside, exact_outside}
use Rattle.csg_primitives.proofs.Pairwise.{Pairwise, any_along, all_along}
use Rattle.csg_primitives.proofs.SpanClasses.{is_negative_span, is_positive_span, negative_out, positive_out, outside_out, inside_out}
use Rattle.fixed_enclosure.proofs.PlacesHold.{recount, point_at, point_once}
use Rattle.csg_primitives.proofs.SpansHold.{squared_length_span-holds}

-- ---- a sign tells of a number
abbrev pub Tells : Span → ℤ → Type 0
Tells s x = (sign_of s ≡ Positive → pos 0 <ℤ x) × (sign_of s ≡ Negative → x <ℤ pos 0)

pub held-tells : (m : ℕ) (s : Span) (x : ℤ) → 0 < m → Holds m s x → Tells s x
held-tells m s x p h = (λ e. sign_of-positive m s x p h e, λ e. sign_of-negative m s x p h e)

-- the class of spans tells the class of numbers
abbrev pub ClassTells : List Span → List ℤ → Type 0
ClassTells spans margins = (span_class spans ≡ Inside → exact_class margins ≡ Inside) × (span_class spans ≡ Outside → exact_class margins ≡ Outside)

pub positive_tells : (s : Span) (x : ℤ) → Tells s x → is_positive_span s ≡ true → is_positive x ≡ true
positive_tells s x h e = positive_in x (h.0 (positive_out _ e))

pub negative_tells : (s : Span) (x : ℤ) → Tells s x → is_negative_span s ≡ true → is_negative x ≡ true
negative_tells s x h e = negative_in x (h.1 (negative_out _ e))

pub margins-tell : (spans : List Span) (margins : List ℤ) → Pairwise Tells spans margins → ClassTells spans margins
margins-tell spans margins h = (
  λ e. exact_inside margins (all_along Tells is_positive_span is_positive positive_tells spans margins h (inside_out spans e)),
  λ e. exact_outside margins (any_along Tells is_negative_span is_negative negative_tells spans margins h (outside_out spans e)),
)

-- ---- margins between two faces
pub below-holds : (n : ℕ) (size : ℤ) (s : Span) (x : ℤ) → Holds n s x → Holds n (below_span size s) (size *ℤ pos n -ℤ x)
unfolding below_span
below-holds n size s x h = minus_of-holds n enc_bound (point_of size) s (size *ℤ pos n) x (point_at n size) h

pub between-tells : (n : ℕ) (size : ℤ) (s : Span) (x : ℤ) (spans : List Span) (margins : List ℤ) → 0 < n → Holds n s x → Pairwise Tells spans margins
    → Pairwise Tells (between_spans size s spans) (between n size x margins)
between-tells n size s x spans margins p h k = (held-tells n s x p h, (held-tells n (below_span size s) (size *ℤ pos n -ℤ x) p (below-holds n size s x h), k))

pub one-tells : (n : ℕ) (s : Span) (x : ℤ) → 0 < n → Holds n s x → Pairwise Tells (s ∷ []) (x ∷ [])
one-tells n s x p h = (held-tells n s x p h, tt)

-- ---- blocks and wedges
pub block-tells : (n : ℕ) (size : Vec3) (s : Span3) (q : Vec3) → 0 < n → SpansHold n s q → ClassTells (block_spans size s) (block_margins n size q)
block-tells n size s q p h = margins-tell (block_spans size s) (block_margins n size q)
    (between-tells n size.x s.x q.x (between_spans size.y s.y (between_spans size.z s.z [])) (between n size.y q.y (between n size.z q.z [])) p h.0
    (between-tells n size.y s.y q.y (between_spans size.z s.z []) (between n size.z q.z []) p h.1 (between-tells n size.z s.z q.z [] [] p h.2 tt)))

one_part : (n : ℕ) → 1 * n ≡ n
one_part n = omega arith

-- a whole number times what a span holds
pub multiple-holds : (n : ℕ) (a : ℤ) (s : Span) (x : ℤ) → Holds n s x → Holds n (times_of (point_of a) s) (a *ℤ x)
multiple-holds n a s x h = recount _ _ _ _ (one_part n) (times_of-holds 1 n (point_of a) s a x (point_once a) h)

slant-holds : (n : ℕ) (size : Vec3) (ltx : ℤ) (s : Span3) (q : Vec3) → SpansHold n s q → Holds n (slant_span size ltx s) (slant_margin n size ltx q)
unfolding slant_span
slant-holds n size ltx s q h = minus_of-holds n area_bound _ _ (size.y *ℤ (size.x *ℤ pos n -ℤ q.x)) ((size.x -ℤ ltx) *ℤ q.y)
    (multiple-holds n size.y (below_span size.x s.x) (size.x *ℤ pos n -ℤ q.x) (below-holds n size.x s.x q.x h.0)) (multiple-holds n (size.x -ℤ ltx) s.y q.y h.1)

pub wedge-tells : (n : ℕ) (size : Vec3) (ltx : ℤ) (s : Span3) (q : Vec3) → 0 < n → SpansHold n s q → ClassTells (wedge_spans size ltx s) (wedge_margins n size ltx q)
wedge-tells n size ltx s q p h = margins-tell (wedge_spans size ltx s) (wedge_margins n size ltx q) (
  held-tells n s.x q.x p h.0,
  between-tells n size.y s.y q.y (between_spans size.z s.z (slant_span size ltx s ∷ [])) (between n size.z q.z (slant_margin n size ltx q ∷ [])) p h.1
      (between-tells n size.z s.z q.z (slant_span size ltx s ∷ []) (slant_margin n size ltx q ∷ []) p h.2
      (one-tells n (slant_span size ltx s) (slant_margin n size ltx q) p (slant-holds n size ltx s q h))),
)

-- ---- cylinders and spheres
pub squares_above : (n : ℕ) → 0 < n → 0 < n * n
squares_above n p = omega (arith, mul-le-mul p p)

pub radius-holds : (n : ℕ) (r : ℤ) → Holds (n * n) (square_of (point_of r)) (square (r *ℤ pos n))
radius-holds n r = square_of-holds n (point_of r) (r *ℤ pos n) (point_at n r)

within-holds : (n : ℕ) (r : ℤ) (s : Span) (rr : ℤ) → Holds (n * n) s rr → Holds (n * n) (within_span r s) (square (r *ℤ pos n) -ℤ rr)
unfolding within_span
within-holds n r s rr h = minus_of-holds (n * n) area_bound (square_of (point_of r)) s (square (r *ℤ pos n)) rr (radius-holds n r) h

pub cylinder-tells : (n : ℕ) (h r : ℤ) (s t : Span) (z rr : ℤ) → 0 < n → Holds n s z → Holds (n * n) t rr → ClassTells (cylinder_spans h r s t) (cylinder_margins n h r z rr)
cylinder-tells n h r s t z rr p i j = margins-tell (cylinder_spans h r s t) (cylinder_margins n h r z rr)
    (between-tells n h s z (within_span r t ∷ []) ((square (r *ℤ pos n) -ℤ rr) ∷ []) p i
    (one-tells (n * n) (within_span r t) (square (r *ℤ pos n) -ℤ rr) (squares_above n p) (within-holds n r t rr j)))

pub ball-tells : (m : ℕ) (r : ℤ) (s : Span3) (d : Vec3) → 0 < m → SpansHold m s d → ClassTells (ball_spans r s) (ball_margins m r d)
ball-tells m r s d p h = margins-tell (ball_spans r s) (ball_margins m r d)
    (one-tells (m * m) (within_span r (squared_length_span s)) (square (r *ℤ pos m) -ℤ squared_length d) (squares_above m p)
    (within-holds m r (squared_length_span s) (squared_length d) (squared_length_span-holds m s d h)))
