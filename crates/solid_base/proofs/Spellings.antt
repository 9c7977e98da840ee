-- Worked spellings.
use Rattle.std.proofs.Common.{◌≡◌, [], Some, None, codes, pos, neg_ℤ, refl, arith}
use Rattle.solid_base.specs.Spelling.{Empty, Whole, Real, Minus, NoSign, class_of}
use Rattle.solid_base.specs.Decimal.{IsReading}

empty : class_of [] ≡ Some Empty
empty = refl

signed_whole : class_of (codes "-0042") ≡ Some Whole
signed_whole = refl

ends_with_point : class_of (codes "1.") ≡ Some Real
ends_with_point = refl

begins_with_point : class_of (codes "-.5") ≡ Some Real
begins_with_point = refl

exponent_without_point : class_of (codes "+1D-3") ≡ Some Real
exponent_without_point = refl

small_letter : class_of (codes "2.5e+07") ≡ Some Real
small_letter = refl

point_alone : class_of (codes "+.") ≡ None
point_alone = refl

two_points : class_of (codes "1.2.3") ≡ None
two_points = refl

no_power : class_of (codes "1.E") ≡ None
no_power = refl

power_with_point : class_of (codes "1E2.") ≡ None
power_with_point = refl

two_signs : class_of (codes "--1") ≡ None
two_signs = refl

blank_inside : class_of (codes "1 2") ≡ None
blank_inside = refl

-- half a step is rounded away from zero, less than half to zero
half : IsReading (codes "-.5E-12") (neg_ℤ (pos 1))
half = record {
  number = record { sign = Minus; whole = []; fraction = Some (codes "5"); exponent = Some (record { letter = 69; sign = Minus; digits = codes "12" }) };
  lawful = record { whole = tt; decimals = (refl, tt); some = omega arith; exponent = (refl, (refl, (refl, tt)), omega arith) };
  spelt = refl;
  size = 1;
  nearest = record { above = omega arith; below = omega arith };
  signed = refl;
}

below_half : IsReading (codes "0.0000000000004999") (pos 0)
below_half = record {
  number = record { sign = NoSign; whole = codes "0"; fraction = Some (codes "0000000000004999"); exponent = None };
  lawful = record { whole = (refl, tt); decimals = (refl, (refl, (refl, (refl, (refl, (refl, (refl, (refl, (refl, (refl, (refl, (refl, (refl, (refl, (refl, (refl, tt)))))))))))))))); some = omega arith; exponent = tt };
  spelt = refl;
  size = 0;
  nearest = record { above = omega arith; below = omega arith };
  signed = refl;
}
