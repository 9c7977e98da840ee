-- Spans within others, when both are carried back.
use Rattle.std.proofs.Common.{List, [], ◌∷◌}
use Rattle.std.specs.List.{AllByRecursion}
use Rattle.solid_base.specs.declared.geometry.Vec3.{Vec3}
use Rattle.solid_base.specs.declared.geometry.Affine.{Affine}
use Rattle.solid_base.specs.Range.{IsPointWithin, far}
use Rattle.solid_base.specs.Ranges.{IsLawfulMatrix, column1, column2, column3}
use Rattle.fixed_enclosure.specs.Spans.{enc_bound}
use Rattle.fixed_enclosure.specs.Places.{Span3, point_spans, offset_spans, dot_span, Nested, AreNested}
use Rattle.fixed_enclosure.proofs.PlacesNest.{point_spans-nested, offset_spans-nested, dot_span-nested}
use Rattle.affine_pull.specs.Matrices.{pulled_spans}
use Rattle.affine_pull.specs.Chains.{spans_through}

-- a way along a column
along-nested : (p s : Span3) (column : Vec3) → IsPointWithin far column → AreNested p s → Nested enc_bound (dot_span p (point_spans column)) (dot_span s (point_spans column))
along-nested p s column h k = dot_span-nested p (point_spans column) s (point_spans column) k (point_spans-nested column h)

pub pulled-nested : (a : Affine) (p s : Span3) → IsLawfulMatrix a → AreNested p s → AreNested (pulled_spans a p) (pulled_spans a s)
unfolding pulled_spans
pulled-nested a p s l h =
    let d = offset_spans-nested p s a.shift l.shift h in (
      along-nested (offset_spans p a.shift) (offset_spans s a.shift) (column1 a) (l.row1.0, l.row2.0, l.row3.0) d,
      along-nested (offset_spans p a.shift) (offset_spans s a.shift) (column2 a) (l.row1.1, l.row2.1, l.row3.1) d,
      along-nested (offset_spans p a.shift) (offset_spans s a.shift) (column3 a) (l.row1.2, l.row2.2, l.row3.2) d,
    )

pub through-nested : (chain : List Affine) (p s : Span3) → AllByRecursion IsLawfulMatrix chain → AreNested p s → AreNested (spans_through chain p) (spans_through chain s)
through-nested [] p s l h = h
through-nested (a ∷ chain) p s l h = pulled-nested a (spans_through chain p) (spans_through chain s) l.0 (through-nested chain p s l.1 h)
