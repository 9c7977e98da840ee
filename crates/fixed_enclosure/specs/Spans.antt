-- Spans of whole numbers: what a length or an area may be, and the numbers that they hold.
use Rattle.std.specs.Prelude.{ℕ, ℤ, pos, ◌^◌, ◌*ℤ◌, ◌≤ℤ◌}
use Rattle.solid_base.specs.Range.{IsWithin}
use Rattle.solid_base.specs.declared.geometry.Vec3.{Vec3}
use Rattle.solid_base.specs.declared.geometry.Cube.{Cube}
use Rattle.fixed_enclosure.specs.declared.enclosures.Enc.{Enc}
use Rattle.fixed_enclosure.specs.declared.enclosures.Area.{Area}
use Rattle.fixed_enclosure.specs.declared.enclosures.Box3.{Box3}
use Rattle.fixed_enclosure.specs.declared.enclosures.Enc.TheVariants as enc
use Rattle.fixed_enclosure.specs.declared.enclosures.Area.TheVariants as area

-- solidd's own: every number, or those from a lowest to a highest
pub data Span : Type 0 where
  Every : Span
  Between : ℤ → ℤ → Span

-- solidd's own: what an enclosed length may be, in steps
abbrev pub enc_span : Enc → Span
enc_span enc.All = Every
enc_span (enc.Span lo hi) = Between lo hi

-- solidd's own: what an enclosed area may be, in square steps
abbrev pub area_span : Area → Span
area_span area.All = Every
area_span (area.Span lo hi) = Between lo hi

-- solidd's own: the greatest end of a length, in steps: a million units
abbrev pub enc_bound : ℕ
enc_bound = 10 ^ 18

-- solidd's own: the greatest end of an area, in square steps: ten million million square units
abbrev pub area_bound : ℕ
area_bound = 10 ^ 37

-- solidd's own: the ends of a span are in order and within a bound
abbrev pub IsSpan : ℕ → Span → Type 0
IsSpan bound Every = Unit {0}
IsSpan bound (Between lo hi) = (lo ≤ℤ hi) × IsWithin bound lo × IsWithin bound hi

-- solidd's own: an enclosed length whose ends are in order and within 10^18
abbrev pub IsEnc : Enc → Type 0
IsEnc e = IsSpan enc_bound (enc_span e)

-- solidd's own: an enclosed area whose ends are in order and within 10^37
abbrev pub IsArea : Area → Type 0
IsArea a = IsSpan area_bound (area_span a)

-- solidd's own: a box each of whose coordinates is an enclosed length in range
abbrev pub IsBox : Box3 → Type 0
IsBox b = IsEnc b.x × IsEnc b.y × IsEnc b.z

-- solidd's own: a span holds the number x / m, which is x parts where m parts are one: its lowest
-- number is at most that, and its highest at least
abbrev pub Holds : ℕ → Span → ℤ → Type 0
Holds m Every x = Unit {0}
Holds m (Between lo hi) x = ((lo *ℤ pos m) ≤ℤ x) × (x ≤ℤ (hi *ℤ pos m))

-- solidd's own: x / m is no less than the lowest number of a span
abbrev pub IsFrom : ℕ → Span → ℤ → Type 0
IsFrom m Every x = Unit {0}
IsFrom m (Between lo hi) x = (lo *ℤ pos m) ≤ℤ x

-- solidd's own: x / m is no more than the highest number of a span
abbrev pub IsUpTo : ℕ → Span → ℤ → Type 0
IsUpTo m Every x = Unit {0}
IsUpTo m (Between lo hi) x = x ≤ℤ (hi *ℤ pos m)

-- solidd's own: the places of a closed box
abbrev pub box_of : Cube → Box3
box_of c = record {
  x = enc.Span c.lo.x c.hi.x;
  y = enc.Span c.lo.y c.hi.y;
  z = enc.Span c.lo.z c.hi.z;
}

-- solidd's own: a box holds the place whose coordinates are those of p, counted in parts where m
-- parts are one step
abbrev pub BoxHolds : ℕ → Box3 → Vec3 → Type 0
BoxHolds m b p =
    Holds m (enc_span b.x) p.x × Holds m (enc_span b.y) p.y × Holds m (enc_span b.z) p.z

-- solidd's own: the first span lies in the second
abbrev pub IsIn : Span → Span → Type 0
IsIn inner Every = Unit {0}
IsIn Every (Between lo hi) = ⊥
IsIn (Between low high) (Between lo hi) = (lo ≤ℤ low) × (high ≤ℤ hi)

-- solidd's own: the first box lies in the second
abbrev pub IsBoxIn : Box3 → Box3 → Type 0
IsBoxIn inner outer =
    IsIn (enc_span inner.x) (enc_span outer.x) × IsIn (enc_span inner.y) (enc_span outer.y)
    × IsIn (enc_span inner.z) (enc_span outer.z)
