-- Coordinates in spans hold exact coordinates: the way from a place, and the scalar product.
use Rattle.std.proofs.Common.{◌≡◌, ℕ, ◌*◌, subst, refl, arith, ℤ, pos, ◌+ℤ◌, ◌*ℤ◌}
use Rattle.std.proofs.lemmas.Int.{ints}
use Rattle.solid_base.specs.declared.geometry.Vec3.{Vec3}
use Rattle.solid_base.specs.Ranges.{dot}
use Rattle.fixed_enclosure.specs.Spans.{Span, Holds, enc_bound, area_bound}
use Rattle.fixed_enclosure.specs.Values.{unit, point_of, sum_of, times_of}
use Rattle.fixed_enclosure.specs.Places.{offset, Span3, point_spans, offset_spans, three_sum, dot_span, SpansHold}
use Rattle.fixed_enclosure.proofs.Spans.{point-holds}
use Rattle.fixed_enclosure.proofs.SpanSums.{sum_of-holds, minus_of-holds}
use Rattle.fixed_enclosure.proofs.SpanProducts.{times_of-holds}
use Rattle.fixed_enclosure.proofs.SpanQuotients.{narrow_of-holds}

-- the same number of parts, written in another way
pub recount : (m n : ℕ) (s : Span) (x : ℤ) → m ≡ n → Holds m s x → Holds n s x
recount m n s x e h = subst (λ (k : ℕ). Holds k s x) e h

pub recount3 : (m n : ℕ) (s : Span3) (p : Vec3) → m ≡ n → SpansHold m s p → SpansHold n s p
recount3 m n s p e h = subst (λ (k : ℕ). SpansHold k s p) e h

-- a point holds its number
pub point_at : (m : ℕ) (v : ℤ) → Holds m (point_of v) (v *ℤ pos m)
point_at m v = (point-holds m v (v *ℤ pos m)).1 refl

pub point_once : (v : ℤ) → Holds 1 (point_of v) v
point_once v = (point-holds 1 v v).1 (omega (arith, ints))

pub point_spans-hold : (v : Vec3) → SpansHold 1 (point_spans v) v
point_spans-hold v = (point_once v.x, point_once v.y, point_once v.z)

pub offset_spans-hold : (m : ℕ) (s : Span3) (from p : Vec3) → SpansHold m s p → SpansHold m (offset_spans s from) (offset m from p)
unfolding offset_spans offset
offset_spans-hold m s from p h = (
  minus_of-holds m enc_bound s.x (point_of from.x) p.x (from.x *ℤ pos m) h.0 (point_at m from.x),
  minus_of-holds m enc_bound s.y (point_of from.y) p.y (from.y *ℤ pos m) h.1 (point_at m from.y),
  minus_of-holds m enc_bound s.z (point_of from.z) p.z (from.z *ℤ pos m) h.2 (point_at m from.z),
)

pub three_sum-holds : (m : ℕ) (a b c : Span) (x y z : ℤ) → Holds m a x → Holds m b y → Holds m c z → Holds m (three_sum a b c) (x +ℤ y +ℤ z)
unfolding three_sum
three_sum-holds m a b c x y z h k l = sum_of-holds m area_bound (sum_of area_bound a b) c (x +ℤ y) z (sum_of-holds m area_bound a b x y h k) l

pub dot_span-holds : (m n : ℕ) (a b : Span3) (p q : Vec3) → SpansHold m a p → SpansHold n b q → Holds (unit * (m * n)) (dot_span a b) (dot p q)
unfolding dot_span
dot_span-holds m n a b p q h k = narrow_of-holds (m * n) _ _ (three_sum-holds (m * n) (times_of a.x b.x) (times_of a.y b.y) (times_of a.z b.z) (p.x *ℤ q.x) (p.y *ℤ q.y) (p.z *ℤ q.z)
    (times_of-holds m n a.x b.x p.x q.x h.0 k.0) (times_of-holds m n a.y b.y p.y q.y h.1 k.1) (times_of-holds m n a.z b.z p.z q.z h.2 k.2))
