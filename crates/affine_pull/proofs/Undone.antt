-- Carrying back undoes the move, where the rotations are exact.
use Rattle.std.proofs.Common.{◌≡◌, ℕ, ◌*◌, List, [], ◌∷◌, refl, sym, ap, subst, ◌∙◌, arith, ℤ, pos, ◌+ℤ◌, ◌-ℤ◌, ◌*ℤ◌}
use Rattle.std.proofs.lemmas.Int.{ints}
use Rattle.std.specs.List.{AllByRecursion}
use Rattle.solid_base.proofs.Ring.{lines, diffs, diff-same, by_diff3, by_diff4, mul_assoc_z, product_comm}
use Rattle.solid_base.specs.declared.geometry.Vec3.{Vec3}
use Rattle.solid_base.specs.declared.geometry.Affine.{Affine}
use Rattle.solid_base.specs.Ranges.{dot, column1, column2, column3}
use Rattle.fixed_enclosure.specs.Values.{unit}
use Rattle.fixed_enclosure.specs.Places.{offset}
use Rattle.affine_pull.specs.Matrices.{moved, pulled, IsExact, finer}
use Rattle.affine_pull.specs.Chains.{parts_through, moved_through, pulled_through}

same_vector : (a b : Vec3) → a.x ≡ b.x → a.y ≡ b.y → a.z ≡ b.z → a ≡ b
same_vector a b x y z = λ i. record { x = x i; y = y i; z = z i }

-- ---- sums of products
after : (a x d : ℤ) → (a *ℤ x) *ℤ d ≡ x *ℤ (a *ℤ d)
after = by_diff3 (λ (a x d : ℤ). (a *ℤ x) *ℤ d ≡ x *ℤ (a *ℤ d)) (λ (a b c d e f : ℕ). simp diffs (diff-same _ _ _ _ (omega arith)))

past : (a n d : ℤ) → (a *ℤ n) *ℤ d ≡ (a *ℤ d) *ℤ n
past = by_diff3 (λ (a n d : ℤ). (a *ℤ n) *ℤ d ≡ (a *ℤ d) *ℤ n) (λ (a b c d e f : ℕ). simp diffs (diff-same _ _ _ _ (omega arith)))

sum_times : (u v w d : ℤ) → (u +ℤ v +ℤ w) *ℤ d ≡ u *ℤ d +ℤ v *ℤ d +ℤ w *ℤ d
sum_times = by_diff4 (λ (u v w d : ℤ). (u +ℤ v +ℤ w) *ℤ d ≡ u *ℤ d +ℤ v *ℤ d +ℤ w *ℤ d) (λ (a b c d e f g h : ℕ). simp diffs (diff-same _ _ _ _ (omega arith)))

times_sum : (x u v w : ℤ) → x *ℤ (u +ℤ v +ℤ w) ≡ x *ℤ u +ℤ x *ℤ v +ℤ x *ℤ w
times_sum = by_diff4 (λ (x u v w : ℤ). x *ℤ (u +ℤ v +ℤ w) ≡ x *ℤ u +ℤ x *ℤ v +ℤ x *ℤ w) (λ (a b c d e f g h : ℕ). simp diffs (diff-same _ _ _ _ (omega arith)))

zero_right : (z : ℤ) → z *ℤ pos 0 ≡ pos 0
zero_right z = omega (arith, ints)

times_one : (z : ℤ) → z ≡ z *ℤ pos 1
times_one z = omega (arith, ints)

spread : (a b c x y z d : ℤ) → (a *ℤ x +ℤ b *ℤ y +ℤ c *ℤ z) *ℤ d ≡ x *ℤ (a *ℤ d) +ℤ y *ℤ (b *ℤ d) +ℤ z *ℤ (c *ℤ d)
spread a b c x y z d =
    let s = sum_times (a *ℤ x) (b *ℤ y) (c *ℤ z) d in
    let e = after a x d in
    let f = after b y d in
    let g = after c z d in
    omega (arith, lines)

dot_comm : (a b : Vec3) → dot a b ≡ dot b a
dot_comm a b =
    let e = product_comm a.x b.x in
    let f = product_comm a.y b.y in
    let g = product_comm a.z b.z in
    omega (arith, lines)

-- ---- one matrix

-- a place by the rotation alone
abbrev turned : Affine → Vec3 → Vec3
turned a p = record { x = dot a.row1 p; y = dot a.row2 p; z = dot a.row3 p }

-- the rows' scalar products by those of columns
by_columns : (a : Affine) (p c : Vec3) → dot (turned a p) c ≡ p.x *ℤ dot (column1 a) c +ℤ p.y *ℤ dot (column2 a) c +ℤ p.z *ℤ dot (column3 a) c
by_columns a p c =
    let r = spread a.row1.x a.row1.y a.row1.z p.x p.y p.z c.x in
    let s = spread a.row2.x a.row2.y a.row2.z p.x p.y p.z c.y in
    let t = spread a.row3.x a.row3.y a.row3.z p.x p.y p.z c.z in
    let e = times_sum p.x (a.row1.x *ℤ c.x) (a.row2.x *ℤ c.y) (a.row3.x *ℤ c.z) in
    let f = times_sum p.y (a.row1.y *ℤ c.x) (a.row2.y *ℤ c.y) (a.row3.y *ℤ c.z) in
    let g = times_sum p.z (a.row1.z *ℤ c.x) (a.row2.z *ℤ c.y) (a.row3.z *ℤ c.z) in
    omega (arith, lines)

way_back : (m : ℕ) (a : Affine) (p : Vec3) → offset (unit * m) a.shift (moved m a p) ≡ turned a p
unfolding offset moved
way_back m a p = same_vector _ _ (omega (arith, lines)) (omega (arith, lines)) (omega (arith, lines))

first_only : (x y z d e f n : ℤ) → d ≡ n → e ≡ pos 0 → f ≡ pos 0 → x *ℤ d +ℤ y *ℤ e +ℤ z *ℤ f ≡ x *ℤ n
first_only x y z d e f n h k l = rw (h, k, l) (omega (arith, lines, zero_right y, zero_right z))

second_only : (x y z d e f n : ℤ) → d ≡ pos 0 → e ≡ n → f ≡ pos 0 → x *ℤ d +ℤ y *ℤ e +ℤ z *ℤ f ≡ y *ℤ n
second_only x y z d e f n h k l = rw (h, k, l) (omega (arith, lines, zero_right x, zero_right z))

third_only : (x y z d e f n : ℤ) → d ≡ pos 0 → e ≡ pos 0 → f ≡ n → x *ℤ d +ℤ y *ℤ e +ℤ z *ℤ f ≡ z *ℤ n
third_only x y z d e f n h k l = rw (h, k, l) (omega (arith, lines, zero_right x, zero_right y))

-- a way along the columns
abbrev along : Affine → Vec3 → Vec3
along a d = record { x = dot d (column1 a); y = dot d (column2 a); z = dot d (column3 a) }

turned_back : (a : Affine) (p : Vec3) → IsExact a → along a (turned a p) ≡ finer (unit * unit) p
turned_back a p h = same_vector _ _
    (by_columns a p (column1 a) ∙ first_only p.x p.y p.z _ _ _ _ h.first (dot_comm (column2 a) (column1 a) ∙ h.first_second) (dot_comm (column3 a) (column1 a) ∙ h.first_third))
    (by_columns a p (column2 a) ∙ second_only p.x p.y p.z _ _ _ _ h.first_second h.second (dot_comm (column3 a) (column2 a) ∙ h.second_third))
    (by_columns a p (column3 a) ∙ third_only p.x p.y p.z _ _ _ _ h.first_third h.second_third h.third)

pub moved-undone : (m : ℕ) (a : Affine) (p : Vec3) → IsExact a → pulled (unit * m) a (moved m a p) ≡ finer (unit * unit) p
unfolding pulled
moved-undone m a p h = rw (way_back m a p) (turned_back a p h)

-- ---- finer parts
less_finer : (x t m n : ℤ) → x *ℤ n -ℤ t *ℤ (m *ℤ n) ≡ (x -ℤ t *ℤ m) *ℤ n
less_finer = by_diff4 (λ (x t m n : ℤ). x *ℤ n -ℤ t *ℤ (m *ℤ n) ≡ (x -ℤ t *ℤ m) *ℤ n) (λ (a b c d e f g h : ℕ). simp diffs (diff-same _ _ _ _ (omega arith)))

offset-finer : (m n : ℕ) (from p : Vec3) → offset (m * n) from (finer n p) ≡ finer n (offset m from p)
unfolding offset
offset-finer m n from p = same_vector _ _ (less_finer p.x from.x (pos m) (pos n)) (less_finer p.y from.y (pos m) (pos n)) (less_finer p.z from.z (pos m) (pos n))

dot-finer : (n : ℕ) (d c : Vec3) → dot (finer n d) c ≡ dot d c *ℤ pos n
dot-finer n d c =
    let s = sum_times (d.x *ℤ c.x) (d.y *ℤ c.y) (d.z *ℤ c.z) (pos n) in
    let e = past d.x (pos n) c.x in
    let f = past d.y (pos n) c.y in
    let g = past d.z (pos n) c.z in
    omega (arith, lines)

pub pulled-finer : (m n : ℕ) (a : Affine) (p : Vec3) → pulled (m * n) a (finer n p) ≡ finer n (pulled m a p)
unfolding pulled
pulled-finer m n a p = rw (offset-finer m n a.shift p)
    (same_vector _ _ (dot-finer n (offset m a.shift p) (column1 a)) (dot-finer n (offset m a.shift p) (column2 a)) (dot-finer n (offset m a.shift p) (column3 a)))

finer-finer : (m n : ℕ) (p : Vec3) → finer n (finer m p) ≡ finer (m * n) p
finer-finer m n p = same_vector _ _ (mul_assoc_z p.x (pos m) (pos n)) (mul_assoc_z p.y (pos m) (pos n)) (mul_assoc_z p.z (pos m) (pos n))

-- ---- chains
parts-times : (m : ℕ) (chain : List Affine) → parts_through m chain ≡ parts_through 1 chain * m
parts-times m [] = omega arith
parts-times m (a ∷ chain) = let e = parts-times m chain in rw e (omega arith)

parts-ahead : (m k : ℕ) (chain : List Affine) → parts_through 1 chain ≡ k → unit * parts_through m chain ≡ parts_through (unit * m) chain
parts-ahead m k chain h = rw (parts-times m chain, parts-times (unit * m) chain, h) (omega arith)

parts-twice : (m k : ℕ) (chain : List Affine) → parts_through 1 chain ≡ k → parts_through (unit * parts_through m chain) chain ≡ (unit * m) * (k * k)
parts-twice m k chain h = rw (parts-times (unit * parts_through m chain) chain, parts-times m chain, h) (omega arith)

square-ahead : (k : ℕ) → (unit * unit) * (k * k) ≡ (unit * k) * (unit * k)
square-ahead k = omega arith

pub through-undone : (m : ℕ) (chain : List Affine) (p : Vec3) → AllByRecursion IsExact chain → pulled_through (parts_through m chain) chain (moved_through m chain p) ≡ finer (parts_through 1 chain * parts_through 1 chain) p
through-undone m [] p h = same_vector _ _ (times_one p.x) (times_one p.y) (times_one p.z)
through-undone m (a ∷ chain) p h =
    let k = parts_through 1 chain in
    let q = moved m a p in
    let last : pulled_through (unit * parts_through m chain) chain (moved_through (unit * m) chain q) ≡ finer (k * k) q =
    subst (λ (n : ℕ). pulled_through n chain (moved_through (unit * m) chain q) ≡ finer (k * k) q) (sym (parts-ahead m k chain refl)) (through-undone (unit * m) chain q h.1) in
    ap (pulled (parts_through (unit * parts_through m chain) chain) a) last
    ∙ ap (λ (n : ℕ). pulled n a (finer (k * k) q)) (parts-twice m k chain refl)
    ∙ pulled-finer (unit * m) (k * k) a q
    ∙ ap (finer (k * k)) (moved-undone m a p h.0)
    ∙ finer-finer (unit * unit) (k * k) p
    ∙ ap (λ (n : ℕ). finer n p) (square-ahead k)
