-- The class of a primitive at a place off its boundary is that at all places around it; and the
-- class is the same however finely the place is counted.
use Rattle.std.proofs.Common.{◌≡◌, ◌↔◌, refl, sym, ◌∙◌, arith, ℕ, ◌*◌, ◌<◌, ℤ, pos, ◌-ℤ◌, ◌*ℤ◌}
use Rattle.std.proofs.Common.{List}
use Rattle.std.proofs.lemmas.Int.{ints}
use Rattle.std.specs.List.{list_all, list_any}
use Rattle.solid_base.specs.declared.classes.Class.{Class}
use Rattle.solid_base.specs.declared.classes.Class.TheVariants.{Outside, Mixed, Inside}
use Rattle.solid_base.specs.declared.geometry.Vec3.{Vec3}
use Rattle.solid_base.specs.declared.solids.Primitive.{Primitive}
use Rattle.solid_base.specs.Range.{IsWithin}
use Rattle.solid_base.proofs.Ring.{lines}
use Rattle.fixed_enclosure.specs.Places.{offset}
use Rattle.csg_primitives.specs.Classes.{is_positive, is_negative, exact_class}
use Rattle.csg_primitives.specs.ExactMargins.{exact_margins, primitive_class}
use Rattle.csg_primitives.specs.Neighbours.{IsNear, Around}
use Rattle.csg_primitives.proofs.Around.{around-so, around-itself}
use Rattle.csg_primitives.proofs.Classes.{positive_in, positive_out, negative_in, negative_out}
use Rattle.csg_primitives.proofs.Classes.{if_inside, if_outside, exact_inside, exact_outside}
use Rattle.csg_primitives.proofs.Pairwise.{Pairwise, any_along, all_along}
use Rattle.csg_primitives.proofs.Steady.{Kept}
use Rattle.csg_primitives.proofs.SteadyMargins.{margins-kept}

-- ---- from signs to classes
-- a class that isn't Mixed is the other one too
abbrev pub ClassKept : Class → Class → Type 0
ClassKept k c = (k ≡ Inside → c ≡ Inside) × (k ≡ Outside → c ≡ Outside)

class-kept : (xs ys : List ℤ) → Pairwise Kept xs ys → ClassKept (exact_class xs) (exact_class ys)
class-kept xs ys h =
    let inside = all_along Kept is_positive is_positive
    (λ x y k i. positive_in y (k.0 (positive_out x i))) xs ys h in
    let outside = any_along Kept is_negative is_negative
    (λ x y k i. negative_in y (k.1 (negative_out x i))) xs ys h in (
      λ e. exact_inside ys (inside (if_inside _ (list_any is_negative xs) e)),
      λ e. exact_outside ys (outside (if_outside (list_all is_positive xs) _ e)),
    )

same-class : (k c : Class) → ClassKept k c → ClassKept c k → c ≡ k
same-class Inside c f g = f.0 refl
same-class Outside c f g = f.1 refl
same-class Mixed Inside f g = sym (g.0 refl)
same-class Mixed Outside f g = sym (g.1 refl)
same-class Mixed Mixed f g = refl

-- ---- primitives
pub primitive-kept : (m : ℕ) (q : Primitive) (at : Vec3)
    → Around at (λ n p. ClassKept (primitive_class m q at) (primitive_class (n * m) q p))
primitive-kept m q at = around-so (λ n p h. class-kept _ _ h) (margins-kept m q at).around

-- the same place, counted n times finer
pub primitive-scale : (m : ℕ) (q : Primitive) (at : Vec3) (n : ℕ) (p : Vec3) → 0 < n
    → IsNear n 0 at p → primitive_class (n * m) q p ≡ primitive_class m q at
primitive-scale m q at n p a c =
    let kept = margins-kept m q at in
    let there = class-kept _ (exact_margins (n * m) q p) (around-itself kept.around n p a c) in
    let back = class-kept (exact_margins (n * m) q p) _ (kept.back n p a c) in
    same-class (primitive_class m q at) (primitive_class (n * m) q p) there back

-- ---- the class around a place and the class at it
no-way : (x : ℤ) → IsWithin 0 (x -ℤ x *ℤ pos 1)
no-way x =
    let e : x *ℤ pos 1 ≡ x = omega (arith, ints) in
    (omega (arith, lines), omega (arith, lines))

near-itself : (at : Vec3) → IsNear 1 0 at at
unfolding offset
near-itself at = (no-way at.x, no-way at.y, no-way at.z)

primitive-here : (m : ℕ) (q : Primitive) (at : Vec3) (k : Class)
    → Around at (λ n p. primitive_class (n * m) q p ≡ k) → primitive_class m q at ≡ k
primitive-here m q at k around =
    let near = near-itself at in
    sym (primitive-scale m q at 1 at (omega arith) near)
    ∙ around-itself around 1 at (omega arith) near

pub primitive-interior : (m : ℕ) (q : Primitive) (at : Vec3) → (primitive_class m q at ≡ Inside) ↔
    Around at (λ n p. primitive_class (n * m) q p ≡ Inside)
primitive-interior m q at = (
  λ e. around-so (λ n p h. h.0 e) (primitive-kept m q at),
  primitive-here m q at Inside,
)

pub primitive-exterior : (m : ℕ) (q : Primitive) (at : Vec3) → (primitive_class m q at ≡ Outside) ↔
    Around at (λ n p. primitive_class (n * m) q p ≡ Outside)
primitive-exterior m q at = (
  λ e. around-so (λ n p h. h.1 e) (primitive-kept m q at),
  primitive-here m q at Outside,
)
