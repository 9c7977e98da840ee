-- What the verdict on a box says of its places.
use Rattle.std.proofs.Common.{◌≡◌, ℕ, List, [], ◌∷◌, ◌++◌, map, codes, decimal, refl, sym, ap, ◌∙◌, arith}
use Rattle.std.specs.List.{AllByRecursion}
use Rattle.solid_base.specs.declared.classes.Class.{Class}
use Rattle.solid_base.specs.declared.classes.Class.TheVariants as class
use Rattle.solid_base.specs.declared.classes.Verdict.{Verdict}
use Rattle.solid_base.specs.declared.entities.Entity.{Entity}
use Rattle.solid_base.specs.declared.geometry.Cube.{Cube}
use Rattle.solid_base.specs.declared.geometry.Vec3.{Vec3}
use Rattle.solid_base.specs.Ranges.{IsLawfulRow}
use Rattle.fixed_enclosure.specs.Places.{spans_of}
use Rattle.fixed_enclosure.specs.Spans.{box_of}
use Rattle.csg_primitives.specs.Sharpness.{point_cube}
use Rattle.solid_eval.proofs.Causes.{open_use}
use Rattle.solid_eval.proofs.Settled.{inside-settled, outside-settled, inside-exact, outside-exact, point-held}
use Rattle.solid_questions.specs.declared.questions.Question.TheVariants as question
use Rattle.ask_core.specs.Answers.{IsAnswerOn, cell_verdict}
use Rattle.ask_core.specs.Meanings.{IsInsideAt, IsOutsideAt, IsAllInside, IsAllOutside, IsOpenAt, IsClassOf, AreClassesOf}
use Rattle.ask_core.proofs.AnswerCases.{first, not_refused, says_inside, says_outside, says_open}

pub all_inside : (rows : List Entity) (e : ℕ) (cube : Cube) → AllByRecursion (λ e. IsLawfulRow e.row) rows
    → (cell_verdict rows e cube).class ≡ class.Inside → IsAllInside rows e cube
all_inside rows e cube lawful is m at some held = record {
  exact = inside-exact m rows e (box_of cube) at some lawful held is;
  interior = inside-settled m rows e (box_of cube) at some lawful held is;
}

pub all_outside : (rows : List Entity) (e : ℕ) (cube : Cube) → AllByRecursion (λ e. IsLawfulRow e.row) rows
    → (cell_verdict rows e cube).class ≡ class.Outside → IsAllOutside rows e cube
all_outside rows e cube lawful is m at some held = record {
  exact = outside-exact m rows e (box_of cube) at some lawful held is;
  exterior = outside-settled m rows e (box_of cube) at some lawful held is;
}

pub class_of_places : (rows : List Entity) (e : ℕ) (cube : Cube) → AllByRecursion (λ e. IsLawfulRow e.row) rows
    → (k : Class) → (cell_verdict rows e cube).class ≡ k → IsClassOf rows e cube k
class_of_places rows e cube lawful class.Outside is = all_outside rows e cube lawful is
class_of_places rows e cube lawful class.Mixed is = tt
class_of_places rows e cube lawful class.Inside is = all_inside rows e cube lawful is

pub classes_of_cells : (rows : List Entity) (e : ℕ) (cells : List Cube) → AllByRecursion (λ e. IsLawfulRow e.row) rows
    → AreClassesOf rows e cells (map (λ (v : Verdict). v.class) (map (cell_verdict rows e) cells))
classes_of_cells rows e [] lawful = tt
classes_of_cells rows e (cube ∷ cells) lawful =
    (class_of_places rows e cube lawful (cell_verdict rows e cube).class refl, classes_of_cells rows e cells lawful)

-- ---- answers on one box
module _ (rows : List Entity) (e : ℕ) (lawful : AllByRecursion (λ e. IsLawfulRow e.row) rows) where
  pub point_inside : (at : Vec3) (text : List ℕ) → IsAnswerOn rows (question.Point e at) text → text ≡ codes "INSIDE" → IsInsideAt rows e 1 at
  point_inside at text is words =
      let letter : first text ≡ 73 = ap first words in
      let body = not_refused rows (question.Point e at) text is (omega (arith, letter)) in
      let v = cell_verdict rows e (point_cube at) in
      all_inside rows e (point_cube at) lawful (says_inside v.leaf v.class (sym body.0 ∙ words)) 1 at (omega arith) (point-held at)

  pub point_outside : (at : Vec3) (text : List ℕ) → IsAnswerOn rows (question.Point e at) text → text ≡ codes "OUTSIDE" → IsOutsideAt rows e 1 at
  point_outside at text is words =
      let letter : first text ≡ 79 = ap first words in
      let body = not_refused rows (question.Point e at) text is (omega (arith, letter)) in
      let v = cell_verdict rows e (point_cube at) in
      all_outside rows e (point_cube at) lawful (says_outside v.leaf v.class (sym body.0 ∙ words)) 1 at (omega arith) (point-held at)

  pub cell_inside : (cube : Cube) (text : List ℕ) → IsAnswerOn rows (question.Cell e cube) text → text ≡ codes "INSIDE" → IsAllInside rows e cube
  cell_inside cube text is words =
      let letter : first text ≡ 73 = ap first words in
      let body = not_refused rows (question.Cell e cube) text is (omega (arith, letter)) in
      let v = cell_verdict rows e cube in
      all_inside rows e cube lawful (says_inside v.leaf v.class (sym body.0 ∙ words))

  pub cell_outside : (cube : Cube) (text : List ℕ) → IsAnswerOn rows (question.Cell e cube) text → text ≡ codes "OUTSIDE" → IsAllOutside rows e cube
  cell_outside cube text is words =
      let letter : first text ≡ 79 = ap first words in
      let body = not_refused rows (question.Cell e cube) text is (omega (arith, letter)) in
      let v = cell_verdict rows e cube in
      all_outside rows e cube lawful (says_outside v.leaf v.class (sym body.0 ∙ words))

-- where the verdict on a box is open, a primitive is
pub open_box : (rows : List Entity) (e : ℕ) (cube : Cube) (rest : List ℕ)
    → (let v = cell_verdict rows e cube in (v.class ≡ class.Mixed) × (rest ≡ decimal v.leaf))
    → (d : ℕ) × (rest ≡ decimal d) × IsOpenAt rows e cube d
open_box rows e cube rest is =
    ((cell_verdict rows e cube).leaf, is.1, open_use rows e (spans_of (box_of cube)) is.0)

pub point_open : (rows : List Entity) (e : ℕ) (at : Vec3) (text rest : List ℕ) → IsAnswerOn rows (question.Point e at) text → text ≡ codes "UNDECIDED " ++ rest
    → (d : ℕ) × (rest ≡ decimal d) × IsOpenAt rows e (point_cube at) d
point_open rows e at text rest is words =
    let letter : first text ≡ 85 = ap first words in
    let body = not_refused rows (question.Point e at) text is (omega (arith, letter)) in
    let v = cell_verdict rows e (point_cube at) in
    open_box rows e (point_cube at) rest (says_open v.leaf v.class rest (sym body.0 ∙ words))

pub cell_open : (rows : List Entity) (e : ℕ) (cube : Cube) (text rest : List ℕ) → IsAnswerOn rows (question.Cell e cube) text → text ≡ codes "UNDECIDED " ++ rest
    → (d : ℕ) × (rest ≡ decimal d) × IsOpenAt rows e cube d
cell_open rows e cube text rest is words =
    let letter : first text ≡ 85 = ap first words in
    let body = not_refused rows (question.Cell e cube) text is (omega (arith, letter)) in
    let v = cell_verdict rows e cube in
    open_box rows e cube rest (says_open v.leaf v.class rest (sym body.0 ∙ words))
