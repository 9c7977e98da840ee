-- Spans carried back hold exact places carried back.
use Rattle.std.proofs.Common.{◌≡◌, ℕ, ◌<◌, ◌*◌, List, [], ◌∷◌, arith}
use Rattle.solid_base.specs.declared.geometry.Vec3.{Vec3}
use Rattle.solid_base.specs.declared.geometry.Affine.{Affine}
use Rattle.solid_base.specs.Ranges.{dot, column1, column2, column3}
use Rattle.fixed_enclosure.specs.Values.{unit}
use Rattle.fixed_enclosure.specs.Spans.{Holds}
use Rattle.fixed_enclosure.specs.Places.{Span3, offset, point_spans, offset_spans, dot_span, SpansHold}
use Rattle.fixed_enclosure.proofs.PlacesHold.{recount, point_spans-hold, offset_spans-hold, dot_span-holds}
use Rattle.affine_pull.specs.Matrices.{pulled, pulled_spans}
use Rattle.affine_pull.specs.Chains.{parts_through, pulled_through, spans_through}

count : (m : ℕ) → unit * (m * 1) ≡ unit * m
count m = omega arith

-- a way along a column
along-holds : (m : ℕ) (s : Span3) (d column : Vec3) → SpansHold m s d → Holds (unit * m) (dot_span s (point_spans column)) (dot d column)
along-holds m s d column h = recount _ _ _ _ (count m) (dot_span-holds m 1 s (point_spans column) d column h (point_spans-hold column))

pub pulled-held : (m : ℕ) (a : Affine) (s : Span3) (p : Vec3) → SpansHold m s p → SpansHold (unit * m) (pulled_spans a s) (pulled m a p)
unfolding pulled pulled_spans
pulled-held m a s p h =
    let d = offset_spans-hold m s a.shift p h in (
      along-holds m (offset_spans s a.shift) (offset m a.shift p) (column1 a) d,
      along-holds m (offset_spans s a.shift) (offset m a.shift p) (column2 a) d,
      along-holds m (offset_spans s a.shift) (offset m a.shift p) (column3 a) d,
    )

pub through-held : (m : ℕ) (chain : List Affine) (s : Span3) (p : Vec3) → SpansHold m s p → SpansHold (parts_through m chain) (spans_through chain s) (pulled_through m chain p)
through-held m [] s p h = h
through-held m (a ∷ chain) s p h = pulled-held (parts_through m chain) a (spans_through chain s) (pulled_through m chain p) (through-held m chain s p h)

pub parts-positive : (m : ℕ) (chain : List Affine) → 0 < m → 0 < parts_through m chain
parts-positive m [] h = h
parts-positive m (a ∷ chain) h = let k = parts-positive m chain h in omega arith
