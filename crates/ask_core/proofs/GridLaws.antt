-- The places of the cells of a grid, and the extents of those that aren't outside.
use Rattle.std.proofs.Common.{◌≡◌, ◌≢◌, ◌⊎◌, inl, inr, ℕ, zero, suc, ◌+◌, ◌*◌, ◌<◌, ◌≤◌, ℤ, pos, negsuc, ◌-ℤ◌, ◌*ℤ◌, ◌≤ℤ◌, List, slice_get, Some, refl, sym, ap, subst, ◌∙◌, arith, mul-le-mul}
use Rattle.std.specs.List.{AllByRecursion}
use Rattle.std.specs.Option.{option_map}
use Rattle.std.proofs.lemmas.Int.{ints}
use Rattle.std.proofs.lemmas.Nat.{pow_pos}
use Rattle.std.proofs.lemmas.Option.{slice_get-map}
use Rattle.solid_base.specs.declared.classes.Class.{Class}
use Rattle.solid_base.specs.declared.classes.Class.TheVariants as class
use Rattle.solid_base.specs.declared.entities.Entity.{Entity}
use Rattle.solid_base.specs.declared.geometry.Cube.{Cube}
use Rattle.solid_base.specs.declared.geometry.Vec3.{Vec3}
use Rattle.solid_base.specs.Ranges.{IsLawfulRow}
use Rattle.fixed_enclosure.specs.Spans.{BoxHolds, box_of}
use Rattle.fixed_enclosure.proofs.Spans.{box_holds-wider}
use Rattle.volume_bounds.specs.declared.cells.Cell.{Cell}
use Rattle.volume_bounds.specs.Cells.{IsGridCube, IsCell, cell_of, place_of, cube_of, cut, parts_of, most_depth}
use Rattle.volume_bounds.specs.Extents.{IsCubeIn, IsSeen}
use Rattle.volume_bounds.proofs.Extremes.{not_outside}
use Rattle.volume_bounds.proofs.Filling.{last_corner}
use Rattle.volume_bounds.proofs.Orders.{cell_again}
use Rattle.solid_questions.specs.declared.questions.Question.{Question}
use Rattle.solid_questions.specs.declared.questions.Question.TheVariants as question
use Rattle.solid_questions.specs.QuestionCells.{all_cells, cell, cell_count, grid_cells}
use Rattle.solid_questions.proofs.Order.{cell_is}
use Rattle.solid_questions.proofs.Powers.{parts_cubed}
use Rattle.ask_core.specs.Answers.{cell_verdict, cell_verdicts}
use Rattle.ask_core.specs.Meanings.{IsOutsideAt}
use Rattle.ask_core.proofs.PlaceLaws.{all_outside}

either : (x y : ℤ) → (x ≤ℤ y) ⊎ (y ≤ℤ x)
either x y = go (y -ℤ x) refl where
  go : (d : ℤ) → y -ℤ x ≡ d → (x ≤ℤ y) ⊎ (y ≤ℤ x)
  go (pos n) e = inl (omega (arith, ints, e))
  go (negsuc n) e = inr (omega (arith, ints, e))

-- the first of some numbers that aren't all below, and the one before it
abbrev pub Crossed : (ℕ → ℤ) → ℕ → ℤ → Type 0
Crossed f n x = (k : ℕ) × (k < n) × (f k ≤ℤ x) × (x ≤ℤ f (k + 1))

crossed_on : (f : ℕ → ℤ) (n : ℕ) (x : ℤ) → Crossed f n x → Crossed f (suc n) x
crossed_on f n x found = (found.0, omega (arith, found.1), found.2, found.3)

-- what lies between the first and the last of some numbers lies between two that follow each other
between : (f : ℕ → ℤ) (n : ℕ) (x : ℤ) → f 0 ≤ℤ x → x ≤ℤ f (suc n) → Crossed f (suc n) x
between f zero x low high = (0, omega arith, low, subst (λ k. x ≤ℤ f k) (omega arith) high)
between f (suc n) x low high = go (either x (f (suc n))) (between f n x low) where
  go : (x ≤ℤ f (suc n)) ⊎ (f (suc n) ≤ℤ x) → (x ≤ℤ f (suc n) → Crossed f (suc n) x) → Crossed f (suc (suc n)) x
  go (inl below) before = crossed_on f (suc n) x (before below)
  go (inr above) before = (suc n, omega arith, above, subst (λ k. x ≤ℤ f k) (omega arith) high)

-- ---- places of a cube lie in cells of its grid

first_cut : (lo hi : ℤ) (parts : ℕ) → cut lo hi parts 0 ≡ lo
first_cut lo hi parts = omega (arith, ints)

axis : (lo hi : ℤ) (parts m : ℕ) (x : ℤ) → 0 < parts → cut lo hi parts parts ≡ hi → (lo *ℤ pos m) ≤ℤ x → x ≤ℤ (hi *ℤ pos m)
    → (k : ℕ) × (k < parts) × ((cut lo hi parts k *ℤ pos m) ≤ℤ x) × (x ≤ℤ (cut lo hi parts (k + 1) *ℤ pos m))
axis lo hi zero m x some last low high = absurd (omega (arith, some))
axis lo hi (suc n) m x some last low high =
    between (λ k. cut lo hi (suc n) k *ℤ pos m) n x
    (subst (λ (z : ℤ). (z *ℤ pos m) ≤ℤ x) (sym (first_cut lo hi (suc n))) low)
    (subst (λ (z : ℤ). x ≤ℤ (z *ℤ pos m)) (sym last) high)

place_inside : (parts : ℕ) (c : Cell) → IsCell parts c → place_of parts c < parts * parts * parts
place_inside parts c is =
    let z : parts * (c.z + 1) ≤ parts * parts = mul-le-mul (omega arith) (omega (arith, is.z)) in
    let y : c.y + parts * c.z + 1 ≤ parts * parts = omega (arith, z, is.y) in
    let x : parts * (c.y + parts * c.z + 1) ≤ parts * (parts * parts) = mul-le-mul (omega arith) y in
    let l = is.x in
    omega (arith, x, l)

-- the cell of a grid that holds a place of its cube
pub in_a_cell : (cube : Cube) (depth m : ℕ) (at : Vec3) → IsGridCube cube → depth ≤ most_depth → BoxHolds m (box_of cube) at
    → (place : ℕ) × (place < parts_of depth * parts_of depth * parts_of depth)
    × BoxHolds m (box_of (cube_of cube (parts_of depth) (cell_of (parts_of depth) place))) at
in_a_cell cube depth m at grid small held =
    let parts = parts_of depth in
    let some : 0 < parts = pow_pos depth in
    let last = last_corner cube depth grid small in
    let x = axis cube.lo.x cube.hi.x parts m at.x some (ap (λ (p : Vec3). p.x) last) held.0.0 held.0.1 in
    let y = axis cube.lo.y cube.hi.y parts m at.y some (ap (λ (p : Vec3). p.y) last) held.1.0 held.1.1 in
    let z = axis cube.lo.z cube.hi.z parts m at.z some (ap (λ (p : Vec3). p.z) last) held.2.0 held.2.1 in
    let c : Cell = record { x = x.0; y = y.0; z = z.0 } in
    let is : IsCell parts c = record { x = x.1; y = y.1; z = z.1 } in (
      place_of parts c,
      place_inside parts c is,
      subst (λ (d : Cell). BoxHolds m (box_of (cube_of cube parts d)) at) (sym (cell_again parts c is))
          ((x.2, x.3), (y.2, y.3), (z.2, z.3)),
    )

-- ---- what isn't outside lies in the extents

-- a cell that lies in another cube
pub wider : (m : ℕ) (inner outer : Cube) (at : Vec3) → IsCubeIn inner outer → BoxHolds m (box_of inner) at → BoxHolds m (box_of outer) at
wider m inner outer at is held =
    box_holds-wider m (box_of inner) (box_of outer) at ((is.lo.x, is.hi.x), (is.lo.y, is.hi.y), (is.lo.z, is.hi.z)) held

module _ (rows : List Entity) (e : ℕ) (cube : Cube) (depth : ℕ) (lawful : AllByRecursion (λ e. IsLawfulRow e.row) rows)
    (grid : IsGridCube cube) (count : cell_count (question.Bounds e cube depth) ≡ Some (grid_cells depth)) (small : depth ≤ most_depth) where
  q : Question
  q = question.Bounds e cube depth

  -- the verdict on a cell stands at its place
  there : (place : ℕ) → place < grid_cells depth → slice_get (cell_verdicts rows q) place ≡ Some (cell_verdict rows e (cell q place))
  unfolding q
  there place inside = slice_get-map (cell_verdict rows e) (all_cells q) place ∙ ap (option_map (cell_verdict rows e)) (cell_is q (grid_cells depth) place count inside)

  -- where no cell that isn't outside holds it, a place of the cube is outside
  pub outside_where : (m : ℕ) (at : Vec3) → 0 < m → BoxHolds m (box_of cube) at
      → ((place : ℕ) → IsSeen (cell_verdicts rows (question.Bounds e cube depth)) place → ¬ BoxHolds m (box_of (cube_of cube (parts_of depth) (cell_of (parts_of depth) place))) at)
      → IsOutsideAt rows e m at
  unfolding q
  outside_where m at some held unseen =
      let found = in_a_cell cube depth m at grid small held in
      let inside : found.0 < grid_cells depth = subst (λ n. found.0 < n) (parts_cubed depth) found.1 in
      decide found.0 inside found.2 (cell_verdict rows e (cell q found.0)).class refl where
        seen : (place : ℕ) → place < grid_cells depth → BoxHolds m (box_of (cell q place)) at → (cell_verdict rows e (cell q place)).class ≢ class.Outside → IsOutsideAt rows e m at
        seen place inside here other = absurd (unseen place (record { verdict = cell_verdict rows e (cell q place); there = there place inside; seen = other }) here)

        decide : (place : ℕ) → place < grid_cells depth → BoxHolds m (box_of (cell q place)) at
            → (k : Class) → (cell_verdict rows e (cell q place)).class ≡ k → IsOutsideAt rows e m at
        decide place inside here class.Outside is = all_outside rows e (cell q place) lawful is m at some here
        decide place inside here class.Mixed is = seen place inside here (not_outside _ (inl is))
        decide place inside here class.Inside is = seen place inside here (not_outside _ (inr is))
