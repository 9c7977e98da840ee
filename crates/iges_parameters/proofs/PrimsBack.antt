-- Primitives and matrices that are written read back.
use Rattle.std.proofs.Common.{◌≡◌, ℕ, ◌+◌, List, [], ◌∷◌, ◌++◌, length, map, Bool, true, cond, ◌&&◌, Option, Some, Result, Ok, Err, ℤ, ◌<ℤ◌, ◌≤ℤ◌, int_lt, int_le, refl, sym, ap, subst, ◌∙◌, arith}
use Rattle.std.specs.List.{AllByRecursion}
use Rattle.std.proofs.lemmas.Bool.Decides.{nat_tests}
use Rattle.std.proofs.lemmas.Int.{ints}
use Rattle.solid_base.specs.declared.geometry.Vec3.{Vec3}
use Rattle.solid_base.specs.declared.geometry.Affine.{Affine}
use Rattle.solid_base.specs.declared.solids.Primitive.{Primitive}
use Rattle.solid_base.specs.declared.solids.Primitive.TheVariants as prim
use Rattle.solid_base.specs.declared.entities.Token.{Token}
use Rattle.solid_base.specs.Range.{IsWithin}
use Rattle.solid_base.specs.Ranges.{IsAxis, AreAxes, IsLawfulPrim, IsLawfulMatrix, column1, column2, column3, thousandth}
use Rattle.iges_parameters.specs.declared.faults.RowFault.{RowFault}
use Rattle.iges_parameters.specs.declared.faults.RowFault.TheVariants as fault
use Rattle.iges_parameters.specs.declared.tables.Rule.{Rule}
use Rattle.iges_parameters.specs.declared.tables.Values.TheVariants as values
use Rattle.solid_base.specs.Outcomes.{◌>>=◌}
use Rattle.iges_parameters.specs.Rules.{Place, has_size, numbers_by}
use Rattle.iges_parameters.specs.Tables.{point, x_axis, z_axis, block_rules, wedge_rules, cylinder_rules, cone_rules, sphere_rules, torus_rules, ellipsoid_rules, matrix_rules}
use Rattle.iges_parameters.specs.Rows.{block_of, wedge_of, cylinder_of, cone_of, sphere_of, torus_of, ellipsoid_of, affine_of, is_small, is_unit, is_right_angle, with_axis, with_axes, checked_prim, checked_affine, prim_by, prim_at}
use Rattle.iges_parameters.specs.Writing.{coordinates, type_of_prim, rules_of_prim, numbers_of_prim, numbers_of_affine, tokens_by}
use Rattle.iges_parameters.proofs.Nearness.{AreNear, within_size, size_near, below_near, point_near, axis_near, frame_near, affine_near}
use Rattle.iges_parameters.proofs.NumbersBack.{Suits, ReadsTo, AreSuited, numbers_again}

-- ---- sizes
int_less : (a b : ℤ) → a <ℤ b → int_lt a b ≡ true
int_less a b h = grind (arith, ints)

int_at_most : (a b : ℤ) → a ≤ℤ b → int_le a b ≡ true
int_at_most a b h = grind (arith, ints)

two_tests : (a b : Bool) → a ≡ true → b ≡ true → (a && b) ≡ true
two_tests a b h k = rw (h, k) refl

-- real numbers that have no size suit whatever stands before them
abbrev AreReal : List Rule → Type 0
AreReal rules = AllByRecursion (λ r. r.values ≡ values.Real) rules

reals_suited : (rules : List Rule) (ns before : List ℤ) → AreReal rules → length rules ≡ length ns → AreNear ns → AreSuited rules ns before
unfolding has_size
reals_suited [] [] before real size near = tt
reals_suited [] (n ∷ ns) before real size near = absurd (omega (arith, size))
reals_suited (r ∷ rules) [] before real size near = absurd (omega (arith, size))
reals_suited (r ∷ rules) (n ∷ ns) before real size near =
    (subst (λ v. Suits v n) (sym real.0) near.0, (ap (λ v. has_size v n before) real.0, reals_suited rules ns (before ++ n ∷ []) real.1 (omega (arith, size)) near.1))

-- ---- axes
small : (n : ℤ) → IsWithin thousandth n → is_small n ≡ true
small n h = let most = within_size thousandth n h in grind (arith, nat_tests)

one_axis : (p : Primitive) (index : ℕ) (w : Vec3) → IsAxis w → with_axis p index w ≡ Ok p
one_axis p index w h = ap (λ (b : Bool). cond b (Ok p) (Err (fault.BadAxis index))) (small _ h.1)

two_axes : (p : Primitive) (index : ℕ) (u w : Vec3) → AreAxes u w → with_axes p index u w ≡ Ok p
two_axes p index u w h =
    ap (λ (b : Bool). cond b (cond (is_unit w && is_right_angle u w) (Ok p) (Err (fault.BadAxis (index + 3)))) (Err (fault.BadAxis index))) (small _ h.0.1)
    ∙ ap (λ (b : Bool). cond b (Ok p) (Err (fault.BadAxis (index + 3)))) (two_tests (is_unit w) (is_right_angle u w) (small _ h.1.1) (small _ h.2))

checked_again : (p : Primitive) → IsLawfulPrim p → checked_prim p ≡ Ok p
unfolding checked_prim
checked_again (prim.Block size corner u w) h = two_axes (prim.Block size corner u w) 7 u w h.2
checked_again (prim.Wedge size ltx corner u w) h = two_axes (prim.Wedge size ltx corner u w) 8 u w h.4
checked_again (prim.Cylinder height r foot w) h = one_axis (prim.Cylinder height r foot w) 6 w h.3
checked_again (prim.Cone height r1 r2 foot w) h = one_axis (prim.Cone height r1 r2 foot w) 7 w h.5
checked_again (prim.Sphere r centre) h = refl
checked_again (prim.Torus r1 r2 centre w) h = one_axis (prim.Torus r1 r2 centre w) 6 w h.4
checked_again (prim.Ellipsoid size centre u w) h = two_axes (prim.Ellipsoid size centre u w) 7 u w h.2

pub affine_checked : (a : Affine) → IsLawfulMatrix a → checked_affine a ≡ Ok a
unfolding checked_affine
affine_checked a h =
    let c = h.columns in
    let first = two_tests (is_unit (column1 a)) (is_unit (column2 a)) (small _ c.first) (small _ c.second) in
    let units = two_tests (is_unit (column1 a) && is_unit (column2 a)) (is_unit (column3 a)) first (small _ c.third) in
    let right = two_tests (is_right_angle (column1 a) (column2 a)) (is_right_angle (column1 a) (column3 a)) (small _ c.first_second) (small _ c.first_third) in
    let angles = two_tests (is_right_angle (column1 a) (column2 a) && is_right_angle (column1 a) (column3 a)) (is_right_angle (column2 a) (column3 a)) right (small _ c.second_third) in
    ap (λ (b : Bool). cond b (Ok a) (Err fault.BadMatrix)) (two_tests _ _ units angles)

-- ---- tables
prim_suited : (p : Primitive) → IsLawfulPrim p → AreSuited (rules_of_prim p) (numbers_of_prim p) []
unfolding block_rules wedge_rules cylinder_rules cone_rules sphere_rules torus_rules ellipsoid_rules has_size
prim_suited (prim.Block size corner u w) h = (
  size_near size.x h.0.0,
  (
    int_less _ _ h.0.0.0,
    (
      size_near size.y h.0.1,
      (
        int_less _ _ h.0.1.0,
        (
          size_near size.z h.0.2,
          (
            int_less _ _ h.0.2.0,
            reals_suited (point ++ x_axis ++ z_axis) (coordinates corner ++ coordinates u ++ coordinates w) (size.x ∷ size.y ∷ size.z ∷ []) (refl, (refl, (refl, (refl, (refl, (refl, (refl, (refl, (refl, tt))))))))) refl (frame_near corner u w h.1 h.2),
          ),
        ),
      ),
    ),
  ),
)
prim_suited (prim.Wedge size ltx corner u w) h = (
  size_near size.x h.0.0,
  (
    int_less _ _ h.0.0.0,
    (
      size_near size.y h.0.1,
      (
        int_less _ _ h.0.1.0,
        (
          size_near size.z h.0.2,
          (
            int_less _ _ h.0.2.0,
            (
              below_near ltx size.x h.1 h.2 h.0.0.1,
              (
                two_tests _ _ (int_at_most _ _ h.1) (int_less _ _ h.2),
                reals_suited (point ++ x_axis ++ z_axis) (coordinates corner ++ coordinates u ++ coordinates w) (size.x ∷ size.y ∷ size.z ∷ ltx ∷ []) (refl, (refl, (refl, (refl, (refl, (refl, (refl, (refl, (refl, tt))))))))) refl (frame_near corner u w h.3 h.4),
              ),
            ),
          ),
        ),
      ),
    ),
  ),
)
prim_suited (prim.Cylinder height r foot w) h = (
  size_near height h.0,
  (
    int_less _ _ h.0.0,
    (
      size_near r h.1,
      (
        int_less _ _ h.1.0,
        reals_suited (point ++ z_axis) (coordinates foot ++ coordinates w) (height ∷ r ∷ []) (refl, (refl, (refl, (refl, (refl, (refl, tt)))))) refl (axis_near foot w h.2 h.3),
      ),
    ),
  ),
)
prim_suited (prim.Cone height r1 r2 foot w) h = (
  size_near height h.0,
  (
    int_less _ _ h.0.0,
    (
      size_near r1 h.1,
      (
        int_less _ _ h.1.0,
        (
          below_near r2 r1 h.2 h.3 h.1.1,
          (
            two_tests _ _ (int_at_most _ _ h.2) (int_less _ _ h.3),
            reals_suited (point ++ z_axis) (coordinates foot ++ coordinates w) (height ∷ r1 ∷ r2 ∷ []) (refl, (refl, (refl, (refl, (refl, (refl, tt)))))) refl (axis_near foot w h.4 h.5),
          ),
        ),
      ),
    ),
  ),
)
prim_suited (prim.Sphere r centre) h = (size_near r h.0, (int_less _ _ h.0.0, reals_suited point (coordinates centre) (r ∷ []) (refl, (refl, (refl, tt))) refl (point_near centre [] h.1 tt)))
prim_suited (prim.Torus r1 r2 centre w) h = (
  size_near r1 h.0,
  (
    int_less _ _ h.0.0,
    (
      size_near r2 h.1,
      (
        two_tests _ _ (int_less _ _ h.1.0) (int_less _ _ h.2),
        reals_suited (point ++ z_axis) (coordinates centre ++ coordinates w) (r1 ∷ r2 ∷ []) (refl, (refl, (refl, (refl, (refl, (refl, tt)))))) refl (axis_near centre w h.3 h.4),
      ),
    ),
  ),
)
prim_suited (prim.Ellipsoid size centre u w) h = (
  size_near size.x h.0.0,
  (
    int_less _ _ h.0.0.0,
    (
      size_near size.y h.0.1,
      (
        int_less _ _ h.0.1.0,
        (
          size_near size.z h.0.2,
          (
            int_less _ _ h.0.2.0,
            reals_suited (point ++ x_axis ++ z_axis) (coordinates centre ++ coordinates u ++ coordinates w) (size.x ∷ size.y ∷ size.z ∷ []) (refl, (refl, (refl, (refl, (refl, (refl, (refl, (refl, (refl, tt))))))))) refl (frame_near centre u w h.1 h.2),
          ),
        ),
      ),
    ),
  ),
)

by_table : (rules : List Rule) (make : List ℤ → Primitive) (p : Primitive) (ns : List ℤ) (index : ℕ) (fs : List (Option Token)) → AreSuited rules ns [] → make ns ≡ p → checked_prim p ≡ Ok p
    → ReadsTo (prim_by rules make (record { index = index; fields = map Some (tokens_by rules ns) ++ fs })) p fs
by_table rules make p ns index fs h is checked =
    let (after, more) = numbers_again rules ns [] index fs h in
    let place : Place = record { index = after; fields = fs } in (
      after,
      ap (λ (r : Result (List ℤ × Place) RowFault). r >>= λ m. checked_prim (make m.0) >>= λ q. Ok (q, m.1)) more
          ∙ ap (λ (r : Result Primitive RowFault). r >>= λ q. Ok (q, place)) (ap checked_prim is ∙ checked),
    )

pub prim_again : (p : Primitive) (index : ℕ) (fs : List (Option Token)) → IsLawfulPrim p
    → ReadsTo (prim_at (type_of_prim p) (record { index = index; fields = map Some (tokens_by (rules_of_prim p) (numbers_of_prim p)) ++ fs })) p fs
unfolding prim_at block_of wedge_of cylinder_of cone_of sphere_of torus_of ellipsoid_of
prim_again (prim.Block size corner u w) index fs h = let p = prim.Block size corner u w in by_table block_rules block_of p (numbers_of_prim p) index fs (prim_suited p h) refl (checked_again p h)
prim_again (prim.Wedge size ltx corner u w) index fs h = let p = prim.Wedge size ltx corner u w in by_table wedge_rules wedge_of p (numbers_of_prim p) index fs (prim_suited p h) refl (checked_again p h)
prim_again (prim.Cylinder height r foot w) index fs h = let p = prim.Cylinder height r foot w in by_table cylinder_rules cylinder_of p (numbers_of_prim p) index fs (prim_suited p h) refl (checked_again p h)
prim_again (prim.Cone height r1 r2 foot w) index fs h = let p = prim.Cone height r1 r2 foot w in by_table cone_rules cone_of p (numbers_of_prim p) index fs (prim_suited p h) refl (checked_again p h)
prim_again (prim.Sphere r centre) index fs h = let p = prim.Sphere r centre in by_table sphere_rules sphere_of p (numbers_of_prim p) index fs (prim_suited p h) refl (checked_again p h)
prim_again (prim.Torus r1 r2 centre w) index fs h = let p = prim.Torus r1 r2 centre w in by_table torus_rules torus_of p (numbers_of_prim p) index fs (prim_suited p h) refl (checked_again p h)
prim_again (prim.Ellipsoid size centre u w) index fs h = let p = prim.Ellipsoid size centre u w in by_table ellipsoid_rules ellipsoid_of p (numbers_of_prim p) index fs (prim_suited p h) refl (checked_again p h)

-- ---- matrices
matrix_suited : (a : Affine) → IsLawfulMatrix a → AreSuited matrix_rules (numbers_of_affine a) []
unfolding matrix_rules
matrix_suited a h =
    reals_suited matrix_rules (numbers_of_affine a) [] (refl, (refl, (refl, (refl, (refl, (refl, (refl, (refl, (refl, (refl, (refl, (refl, tt)))))))))))) refl (affine_near a h)

pub affine_again : (a : Affine) (index : ℕ) (fs : List (Option Token)) → IsLawfulMatrix a
    → ReadsTo (numbers_by matrix_rules (record { index = index; fields = map Some (tokens_by matrix_rules (numbers_of_affine a)) ++ fs })) (numbers_of_affine a) fs
affine_again a index fs h = numbers_again matrix_rules (numbers_of_affine a) [] index fs (matrix_suited a h)

pub affine_is : (a : Affine) → affine_of (numbers_of_affine a) ≡ a
unfolding affine_of
affine_is a = refl
