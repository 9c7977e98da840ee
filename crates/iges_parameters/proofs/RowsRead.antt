-- Rows that are read are in their ranges.
use Rattle.std.proofs.Common.{◌≡◌, inl, inr, ℕ, suc, ◌+◌, ◌≤◌, ◌^◌, List, [], ◌∷◌, take, get_or, slice_get, Bool, true, false, cond, ◌==◌, ◌&&◌, Some, None, Ok, Err, ℤ, pos, ◌-ℤ◌, ◌≤ℤ◌, ◌<ℤ◌, unsigned_abs, refl, ap, subst, arith}
use Rattle.std.proofs.lemmas.Int.{ints}
use Rattle.std.specs.Prelude.{int_le, int_lt}
use Rattle.solid_base.specs.declared.geometry.Vec3.{Vec3}
use Rattle.solid_base.specs.declared.geometry.Affine.{Affine}
use Rattle.solid_base.specs.declared.solids.Primitive.{Primitive}
use Rattle.solid_base.specs.Range.{IsWithin, far}
use Rattle.solid_base.specs.Ranges.{IsSize, dot, thousandth, IsUnit, IsRightAngle, IsLawfulPrim, IsLawfulMatrix, AreOrthonormal, column1, column2, column3, most_whole}
use Rattle.iges_parameters.specs.declared.faults.RowFault.TheVariants as fault
use Rattle.iges_parameters.specs.declared.tables.Rule.{Rule}
use Rattle.iges_parameters.specs.declared.tables.Values.TheVariants as values
use Rattle.solid_base.specs.Outcomes.{◌>>=◌}
use Rattle.iges_parameters.specs.Rules.{Place, parameter, has_size, numbers_from}
use Rattle.iges_parameters.specs.Tables.{size, needed, zero_or, one_or, number, instance_rules, matrix_rules, block_rules, wedge_rules, cylinder_rules, cone_rules, sphere_rules, torus_rules, ellipsoid_rules}
use Rattle.iges_parameters.specs.Rows.{point_at, is_small, is_unit, is_right_angle, with_axis, with_axes, are_orthonormal, checked_prim, checked_affine, block_of, wedge_of, cylinder_of, cone_of, sphere_of, torus_of, ellipsoid_of, affine_of, prim_by, prim_at}
use Rattle.iges_parameters.proofs.ItemsSteps.{bind_ok, ok_same}
use Rattle.iges_parameters.proofs.NumbersRead.{IsReadBy, AreReadBy, table_back, nth_back}

-- ---- the numbers of rules

size_read : (n : ℤ) (before : List ℤ) → IsReadBy size n before → IsSize n
unfolding has_size
size_read n before (inl h) = cc
size_read n before (inr (near, h)) = (grind (arith, ints), near.1)

-- a number by this rule is a coordinate
abbrev IsCoordinate : Rule → Type 0
IsCoordinate rule = (n : ℤ) → (before : List ℤ) → IsReadBy rule n before → IsWithin far n

given_zero : (n : ℤ) → Some (pos 0) ≡ Some n → n ≡ pos 0
given_zero n h = cc

given_one : (n : ℤ) → Some (pos (10 ^ 12)) ≡ Some n → n ≡ pos (10 ^ 12)
given_one n h = cc

zero_read : IsCoordinate zero_or
zero_read n before (inl h) = let e = given_zero n h in omega (arith, ints)
zero_read n before (inr (near, h)) = near

one_read : IsCoordinate one_or
one_read n before (inl h) = let e = given_one n h in omega (arith, ints)
one_read n before (inr (near, h)) = near

needed_read : IsCoordinate needed
needed_read n before (inl h) = cc
needed_read n before (inr (near, h)) = near

-- three numbers from a place on, which is counted from 0
three_read : (rules : List Rule) (ns : List ℤ) (i : ℕ) (r s t : Rule) → AreReadBy rules ns [] → slice_get rules i ≡ Some r → slice_get rules (i + 1) ≡ Some s → slice_get rules (i + 2) ≡ Some t
    → IsCoordinate r → IsCoordinate s → IsCoordinate t → IsWithin far (get_or ns i (pos 0)) × IsWithin far (get_or ns (i + 1) (pos 0)) × IsWithin far (get_or ns (i + 2) (pos 0))
three_read rules ns i r s t h a b c ra sb tc =
    (ra _ _ (nth_back rules ns [] i r h a), sb _ _ (nth_back rules ns [] (i + 1) s h b), tc _ _ (nth_back rules ns [] (i + 2) t h c))

one_size : (rules : List Rule) (ns : List ℤ) (i : ℕ) → AreReadBy rules ns [] → slice_get rules i ≡ Some size → IsSize (get_or ns i (pos 0))
one_size rules ns i h is = size_read _ _ (nth_back rules ns [] i size h is)

-- ---- axes

small_within : (n : ℤ) → is_small n ≡ true → IsWithin thousandth n
small_within n h = grind (arith, ints)

unit_back : (a : Vec3) → is_unit a ≡ true → IsUnit a
unit_back a h = small_within (dot a a -ℤ pos (10 ^ 24)) h

angle_back : (a b : Vec3) → is_right_angle a b ≡ true → IsRightAngle a b
angle_back a b h = small_within (dot a b) h

both : (a b : Bool) → a && b ≡ true → (a ≡ true) × (b ≡ true)
both true b h = (refl, h)
both false b h = cc

axis_back : (p q : Primitive) (index : ℕ) (w : Vec3) → with_axis p index w ≡ Ok q → (p ≡ q) × IsUnit w
axis_back p q index w h = go (is_unit w) refl h where
  go : (v : Bool) → is_unit w ≡ v → cond v (Ok p) (Err (fault.BadAxis index)) ≡ Ok q → (p ≡ q) × IsUnit w
  go true is e = (ok_same p q e, unit_back w is)
  go false is e = cc

axes_back : (p q : Primitive) (index : ℕ) (u w : Vec3) → with_axes p index u w ≡ Ok q → (p ≡ q) × IsUnit u × IsUnit w × IsRightAngle u w
axes_back p q index u w h = go (is_unit u) (is_unit w && is_right_angle u w) refl refl h where
  go : (a b : Bool) → is_unit u ≡ a → is_unit w && is_right_angle u w ≡ b → cond a (cond b (Ok p) (Err (fault.BadAxis (index + 3)))) (Err (fault.BadAxis index)) ≡ Ok q
      → (p ≡ q) × IsUnit u × IsUnit w × IsRightAngle u w
  go true true is so e = (let (w_is, right) = both (is_unit w) (is_right_angle u w) so in (ok_same p q e, unit_back u is, unit_back w w_is, angle_back u w right))
  go true false is so e = cc
  go false b is so e = cc

-- ---- primitives

-- a primitive whose numbers were read by its rules and whose axes were checked
abbrev IsReadAs : List Rule → (List ℤ → Primitive) → Type 0
IsReadAs rules make = (ns : List ℤ) → (q : Primitive) → AreReadBy rules ns [] → checked_prim (make ns) ≡ Ok q → IsLawfulPrim q

frame : (rules : List Rule) (ns : List ℤ) (i : ℕ) → AreReadBy rules ns [] → slice_get rules i ≡ Some one_or → slice_get rules (i + 1) ≡ Some zero_or → slice_get rules (i + 2) ≡ Some zero_or
    → IsWithin far (get_or ns i (pos 0)) × IsWithin far (get_or ns (i + 1) (pos 0)) × IsWithin far (get_or ns (i + 2) (pos 0))
frame rules ns i h a b c = three_read rules ns i one_or zero_or zero_or h a b c one_read zero_read zero_read

axis : (rules : List Rule) (ns : List ℤ) (i : ℕ) → AreReadBy rules ns [] → slice_get rules i ≡ Some zero_or → slice_get rules (i + 1) ≡ Some zero_or → slice_get rules (i + 2) ≡ Some one_or
    → IsWithin far (get_or ns i (pos 0)) × IsWithin far (get_or ns (i + 1) (pos 0)) × IsWithin far (get_or ns (i + 2) (pos 0))
axis rules ns i h a b c = three_read rules ns i zero_or zero_or one_or h a b c zero_read zero_read one_read

origin : (rules : List Rule) (ns : List ℤ) (i : ℕ) → AreReadBy rules ns [] → slice_get rules i ≡ Some zero_or → slice_get rules (i + 1) ≡ Some zero_or → slice_get rules (i + 2) ≡ Some zero_or
    → IsWithin far (get_or ns i (pos 0)) × IsWithin far (get_or ns (i + 1) (pos 0)) × IsWithin far (get_or ns (i + 2) (pos 0))
origin rules ns i h a b c = three_read rules ns i zero_or zero_or zero_or h a b c zero_read zero_read zero_read

block_read : IsReadAs block_rules block_of
unfolding block_rules block_of checked_prim
block_read ns q h checked =
    let (same, u, w, right) = axes_back (block_of ns) q 7 (point_at ns 7) (point_at ns 10) checked in
    subst IsLawfulPrim same (
      (one_size block_rules ns 0 h refl, one_size block_rules ns 1 h refl, one_size block_rules ns 2 h refl),
      origin block_rules ns 3 h refl refl refl,
      ((frame block_rules ns 6 h refl refl refl, u), (axis block_rules ns 9 h refl refl refl, w), right),
    )

-- a number from 0 on and below another
below : (n m : ℤ) → int_le (pos 0) n && int_lt n m ≡ true → (pos 0 ≤ℤ n) × (n <ℤ m)
below n m h = (grind (arith, ints), grind (arith, ints))

-- a number above 0 and below another
size_below : (n m : ℤ) → IsWithin far n → int_lt (pos 0) n && int_lt n m ≡ true → IsSize n × (n <ℤ m)
size_below n m near h = ((grind (arith, ints), near.1), grind (arith, ints))

-- the first numbers of the front of a list are those of the list
first_kept : (k : ℕ) (ns : List ℤ) → parameter (take (suc k) ns) 1 ≡ get_or ns 0 (pos 0)
first_kept k [] = refl
first_kept k (n ∷ ns) = refl

second_kept : (k : ℕ) (ns : List ℤ) → parameter (take (suc (suc k)) ns) 2 ≡ get_or ns 1 (pos 0)
second_kept k [] = refl
second_kept k (n ∷ []) = refl
second_kept k (n ∷ m ∷ ns) = refl

wedge_below : (ns : List ℤ) → AreReadBy wedge_rules ns [] → (pos 0 ≤ℤ get_or ns 3 (pos 0)) × (get_or ns 3 (pos 0) <ℤ get_or ns 0 (pos 0))
unfolding wedge_rules has_size
wedge_below ns h = go (nth_back wedge_rules ns [] 3 (record { default = None; values = values.Below 1 }) h refl) where
  go : IsReadBy (record { default = None; values = values.Below 1 }) (get_or ns 3 (pos 0)) (take 3 ns) → (pos 0 ≤ℤ get_or ns 3 (pos 0)) × (get_or ns 3 (pos 0) <ℤ get_or ns 0 (pos 0))
  go (inl e) = cc
  go (inr (near, e)) = below (get_or ns 3 (pos 0)) (get_or ns 0 (pos 0)) (rw (first_kept 2 ns) at e)

wedge_read : IsReadAs wedge_rules wedge_of
unfolding wedge_rules wedge_of checked_prim
wedge_read ns q h checked =
    let (same, u, w, right) = axes_back (wedge_of ns) q 8 (point_at ns 8) (point_at ns 11) checked in
    let (least, most) = wedge_below ns h in
    subst IsLawfulPrim same (
      (one_size wedge_rules ns 0 h refl, one_size wedge_rules ns 1 h refl, one_size wedge_rules ns 2 h refl),
      least,
      most,
      origin wedge_rules ns 4 h refl refl refl,
      ((frame wedge_rules ns 7 h refl refl refl, u), (axis wedge_rules ns 10 h refl refl refl, w), right),
    )

cylinder_read : IsReadAs cylinder_rules cylinder_of
unfolding cylinder_rules cylinder_of checked_prim
cylinder_read ns q h checked =
    let (same, w) = axis_back (cylinder_of ns) q 6 (point_at ns 6) checked in
    subst IsLawfulPrim same (one_size cylinder_rules ns 0 h refl, one_size cylinder_rules ns 1 h refl, origin cylinder_rules ns 2 h refl refl refl, (axis cylinder_rules ns 5 h refl refl refl, w))

cone_below : (ns : List ℤ) → AreReadBy cone_rules ns [] → IsSize (get_or ns 1 (pos 0)) → (pos 0 ≤ℤ get_or ns 2 (pos 0)) × (get_or ns 2 (pos 0) <ℤ get_or ns 1 (pos 0))
unfolding cone_rules has_size
cone_below ns h r1 = go (nth_back cone_rules ns [] 2 (record { default = Some (pos 0); values = values.Below 2 }) h refl) where
  go : IsReadBy (record { default = Some (pos 0); values = values.Below 2 }) (get_or ns 2 (pos 0)) (take 2 ns) → (pos 0 ≤ℤ get_or ns 2 (pos 0)) × (get_or ns 2 (pos 0) <ℤ get_or ns 1 (pos 0))
  go (inl e) = let zero_is = given_zero (get_or ns 2 (pos 0)) e in (omega (arith, ints), omega (arith, ints, r1.0))
  go (inr (near, e)) = below (get_or ns 2 (pos 0)) (get_or ns 1 (pos 0)) (rw (second_kept 0 ns) at e)

cone_read : IsReadAs cone_rules cone_of
unfolding cone_rules cone_of checked_prim
cone_read ns q h checked =
    let (same, w) = axis_back (cone_of ns) q 7 (point_at ns 7) checked in
    let r1 = one_size cone_rules ns 1 h refl in
    let (least, most) = cone_below ns h r1 in
    subst IsLawfulPrim same (one_size cone_rules ns 0 h refl, r1, least, most, origin cone_rules ns 3 h refl refl refl, (axis cone_rules ns 6 h refl refl refl, w))

sphere_read : IsReadAs sphere_rules sphere_of
unfolding sphere_rules sphere_of checked_prim
sphere_read ns q h checked =
    subst IsLawfulPrim (ok_same (sphere_of ns) q checked) (one_size sphere_rules ns 0 h refl, origin sphere_rules ns 1 h refl refl refl)

torus_below : (ns : List ℤ) → AreReadBy torus_rules ns [] → IsSize (get_or ns 1 (pos 0)) × (get_or ns 1 (pos 0) <ℤ get_or ns 0 (pos 0))
unfolding torus_rules has_size
torus_below ns h = go (nth_back torus_rules ns [] 1 (record { default = None; values = values.SizeBelow 1 }) h refl) where
  go : IsReadBy (record { default = None; values = values.SizeBelow 1 }) (get_or ns 1 (pos 0)) (take 1 ns) → IsSize (get_or ns 1 (pos 0)) × (get_or ns 1 (pos 0) <ℤ get_or ns 0 (pos 0))
  go (inl e) = cc
  go (inr (near, e)) = size_below (get_or ns 1 (pos 0)) (get_or ns 0 (pos 0)) near (rw (first_kept 0 ns) at e)

torus_read : IsReadAs torus_rules torus_of
unfolding torus_rules torus_of checked_prim
torus_read ns q h checked =
    let (same, w) = axis_back (torus_of ns) q 6 (point_at ns 6) checked in
    let (r2, less) = torus_below ns h in
    subst IsLawfulPrim same (one_size torus_rules ns 0 h refl, r2, less, origin torus_rules ns 2 h refl refl refl, (axis torus_rules ns 5 h refl refl refl, w))

ellipsoid_read : IsReadAs ellipsoid_rules ellipsoid_of
unfolding ellipsoid_rules ellipsoid_of checked_prim
ellipsoid_read ns q h checked =
    let (same, u, w, right) = axes_back (ellipsoid_of ns) q 7 (point_at ns 7) (point_at ns 10) checked in
    subst IsLawfulPrim same (
      (one_size ellipsoid_rules ns 0 h refl, one_size ellipsoid_rules ns 1 h refl, one_size ellipsoid_rules ns 2 h refl),
      origin ellipsoid_rules ns 3 h refl refl refl,
      ((frame ellipsoid_rules ns 6 h refl refl refl, u), (axis ellipsoid_rules ns 9 h refl refl refl, w), right),
    )

by_back : (rules : List Rule) (make : List ℤ → Primitive) (p : Place) (x : Primitive × Place) → IsReadAs rules make → prim_by rules make p ≡ Ok x → IsLawfulPrim x.0
by_back rules make p x lawful h =
    let (ns, read, after) = bind_ok (numbers_from rules [] p) (λ ns. checked_prim (make ns.0) >>= λ q. Ok (q, ns.1)) x h in
    let (q, checked, end) = bind_ok (checked_prim (make ns.0)) (λ q. Ok (q, ns.1)) x after in
    subst IsLawfulPrim (ap (λ (y : Primitive × Place). y.0) (ok_same (q, ns.1) x end)) (lawful ns.0 q (table_back rules p ns read) checked)

-- a primitive that is read is in its ranges
pub prim_lawful : (kind : ℕ) (p : Place) (x : Primitive × Place) → prim_at kind p ≡ Ok x → IsLawfulPrim x.0
unfolding prim_at
prim_lawful kind p x h = go (kind == 150) (kind == 152) (kind == 154) (kind == 156) (kind == 158) (kind == 160) (kind == 168) h where
  go : (a b c d e f g : Bool)
      → cond a (prim_by block_rules block_of p) (cond b (prim_by wedge_rules wedge_of p) (cond c (prim_by cylinder_rules cylinder_of p) (cond d (prim_by cone_rules cone_of p)
      (cond e (prim_by sphere_rules sphere_of p) (cond f (prim_by torus_rules torus_of p) (cond g (prim_by ellipsoid_rules ellipsoid_of p) (Err fault.NotRead))))))) ≡ Ok x
      → IsLawfulPrim x.0
  go true b c d e f g h = by_back block_rules block_of p x block_read h
  go false true c d e f g h = by_back wedge_rules wedge_of p x wedge_read h
  go false false true d e f g h = by_back cylinder_rules cylinder_of p x cylinder_read h
  go false false false true e f g h = by_back cone_rules cone_of p x cone_read h
  go false false false false true f g h = by_back sphere_rules sphere_of p x sphere_read h
  go false false false false false true g h = by_back torus_rules torus_of p x torus_read h
  go false false false false false false true h = by_back ellipsoid_rules ellipsoid_of p x ellipsoid_read h
  go false false false false false false false h = cc

-- ---- matrices and instances

orthonormal_back : (a b c : Vec3) → are_orthonormal a b c ≡ true → AreOrthonormal a b c
orthonormal_back a b c h =
    let (units, angles) = both (is_unit a && is_unit b && is_unit c) (is_right_angle a b && is_right_angle a c && is_right_angle b c) h in
    let (ab, c_is) = both (is_unit a && is_unit b) (is_unit c) units in
    let (a_is, b_is) = both (is_unit a) (is_unit b) ab in
    let (abac, bc) = both (is_right_angle a b && is_right_angle a c) (is_right_angle b c) angles in
    let (ab_right, ac) = both (is_right_angle a b) (is_right_angle a c) abac in
    record {
      first = unit_back a a_is;
      second = unit_back b b_is;
      third = unit_back c c_is;
      first_second = angle_back a b ab_right;
      first_third = angle_back a c ac;
      second_third = angle_back b c bc;
    }

affine_back : (a b : Affine) → checked_affine a ≡ Ok b → (a ≡ b) × AreOrthonormal (column1 a) (column2 a) (column3 a)
unfolding checked_affine
affine_back a b h = go (are_orthonormal (column1 a) (column2 a) (column3 a)) refl h where
  go : (v : Bool) → are_orthonormal (column1 a) (column2 a) (column3 a) ≡ v → cond v (Ok a) (Err fault.BadMatrix) ≡ Ok b → (a ≡ b) × AreOrthonormal (column1 a) (column2 a) (column3 a)
  go true is e = (ok_same a b e, orthonormal_back (column1 a) (column2 a) (column3 a) is)
  go false is e = cc

four : (ns : List ℤ) (i : ℕ) → AreReadBy matrix_rules ns [] → slice_get matrix_rules i ≡ Some needed → slice_get matrix_rules (i + 1) ≡ Some needed → slice_get matrix_rules (i + 2) ≡ Some needed
    → IsWithin far (get_or ns i (pos 0)) × IsWithin far (get_or ns (i + 1) (pos 0)) × IsWithin far (get_or ns (i + 2) (pos 0))
four ns i h a b c = three_read matrix_rules ns i needed needed needed h a b c needed_read needed_read needed_read

component : (ns : List ℤ) (i : ℕ) → AreReadBy matrix_rules ns [] → slice_get matrix_rules i ≡ Some needed → IsWithin far (get_or ns i (pos 0))
component ns i h is = needed_read _ _ (nth_back matrix_rules ns [] i needed h is)

-- a matrix that is read is in its ranges
pub matrix_lawful : (p : Place) (ns : List ℤ × Place) (a : Affine) → numbers_from matrix_rules [] p ≡ Ok ns → checked_affine (affine_of ns.0) ≡ Ok a → IsLawfulMatrix a
unfolding matrix_rules affine_of
matrix_lawful p ns a read checked =
    let h = table_back matrix_rules p ns read in
    let (same, columns) = affine_back (affine_of ns.0) a checked in
    subst IsLawfulMatrix same (record {
      row1 = four ns.0 0 h refl refl refl;
      row2 = four ns.0 4 h refl refl refl;
      row3 = four ns.0 8 h refl refl refl;
      shift = (component ns.0 3 h refl, component ns.0 7 h refl, component ns.0 11 h refl);
      columns = columns;
    })

number_read : (n : ℤ) (before : List ℤ) → IsReadBy number n before → unsigned_abs n ≤ most_whole
number_read n before (inl h) = cc
number_read n before (inr (near, h)) = near.0

-- the number of a solid that is read is in its range
pub instance_lawful : (p : Place) (ns : List ℤ × Place) → numbers_from instance_rules [] p ≡ Ok ns → unsigned_abs (parameter ns.0 1) ≤ most_whole
unfolding instance_rules
instance_lawful p ns read = number_read _ _ (nth_back instance_rules ns.0 [] 0 number (table_back instance_rules p ns read) refl)
