-- What holds of a question about cells that isn't refused.
use Rattle.std.proofs.Common.{◌≡◌, inl, inr, ℕ, zero, suc, ◌*◌, ◌^◌, ◌<◌, ◌≤◌, Bool, true, false, cond, nat_le, List, ◌∷◌, Option, Some, None, IsSome, IsTrue, refl, sym, subst, arith}
use Rattle.solid_base.specs.declared.entities.Entity.{Entity}
use Rattle.solid_base.specs.declared.solids.Row.{Row}
use Rattle.solid_base.specs.declared.solids.Row.TheVariants as row
use Rattle.solid_base.specs.Graph.{weight_of}
use Rattle.solid_base.specs.References.{row_at, here}
use Rattle.entity_graph.specs.Opaque.{IsFirstOpaque, ReachesOpaque, IsUnread}
use Rattle.entity_graph.proofs.FirstOpaques.{first_opaque_once}
use Rattle.solid_eval.specs.Solids.{IsSolidRow}
use Rattle.solid_eval.proofs.Interior.{power-positive}
use Rattle.solid_questions.specs.declared.questions.Question.{Question}
use Rattle.solid_questions.specs.declared.questions.Question.TheVariants as question
use Rattle.solid_questions.specs.declared.refusals.Refusal.{Refusal}
use Rattle.solid_questions.specs.declared.refusals.Refusal.TheVariants as refusal
use Rattle.solid_questions.specs.Questions.{IsLawful, IsOfRows, entity_of}
use Rattle.solid_questions.specs.QuestionCells.{cell_count, cells_of_grid, cells_of_section}
use Rattle.solid_questions.specs.Refusals.{refusal_of, cells_refusal, first_refusal, no_entity, not_solid, unsupported, most_evaluations}
use Rattle.ask_core.specs.Answers.{refusal_on}
use Rattle.ask_core.specs.Books.{AsksCells, IsAtOnce, IsNotRefused}
use Rattle.ask_core.proofs.Refused.{Few, unrefused_few}

pub asks_rows : (q : Question) → AsksCells q → IsOfRows q
asks_rows (question.Point e at) h = tt
asks_rows (question.Cell e cube) h = tt
asks_rows (question.Items e) h = absurd h
asks_rows (question.Section e z x0 y0 step nx ny) h = tt
asks_rows (question.Volume e cube depth) h = tt
asks_rows (question.Bounds e cube depth) h = tt
asks_rows question.Export h = absurd h
asks_rows question.Newest h = absurd h

-- why it would be refused
asked : (q : Question) (r : Row) (weight unread : ℕ) → AsksCells q → refusal_of q r weight unread ≡ None → cells_refusal q (entity_of q) r weight unread ≡ None
asked (question.Point e at) r w u h is = is
asked (question.Cell e cube) r w u h is = is
asked (question.Items e) r w u h is = absurd h
asked (question.Section e z x0 y0 step nx ny) r w u h is = is
asked (question.Volume e cube depth) r w u h is = is
asked (question.Bounds e cube depth) r w u h is = is
asked question.Export r w u h is = absurd h
asked question.Newest r w u h is = absurd h

others_none : (a : Option Refusal) (others : List (Option Refusal)) → first_refusal (a ∷ others) ≡ None → (a ≡ None) × (first_refusal others ≡ None)
others_none None others is = (refl, is)
others_none (Some r) others is = grind (arith, is)

none_unread : (n : ℕ) → unsupported n ≡ None → n ≡ 0
none_unread zero is = refl
none_unread (suc n) is = grind (arith, is)

reads_none : (rows : List Entity) (e n : ℕ) → IsFirstOpaque rows e n → n ≡ 0 → (k : ℕ) → ¬ ReachesOpaque rows e k
unfolding row_at
reads_none rows e n (inl f) is = f.1
reads_none rows e n (inr f) is = λ k reaches. (let zero_unread : IsUnread (row_at rows 0) = subst (λ m. IsUnread (row_at rows m)) is f.0.1 in absurd zero_unread)

solid_there : (q : Question) (e : ℕ) (r : Row) (weight unread : ℕ) → cells_refusal q e r weight unread ≡ None → ¬ IsUnread r → IsSolidRow r
solid_there q e row.Null w u is read = (let h : Some (refusal.NoEntity e) ≡ None = is in grind (arith, h))
solid_there q e (row.Opaque kind form matrix text) w u is read = absurd (read tt)
solid_there q e (row.Matrix form affine next) w u is read = (let h : Some (refusal.NotSolid e) ≡ None = is in grind (arith, h))
solid_there q e (row.Prim p matrix) w u is read = tt
solid_there q e (row.Tree items matrix) w u is read = tt
solid_there q e (row.Assembly items matrix) w u is read = tt
solid_there q e (row.Instance child matrix) w u is read = tt

pub open_read : (rows : List Entity) (q : Question) → AsksCells q → IsNotRefused rows q → (k : ℕ) → ¬ ReachesOpaque rows (entity_of q) k
open_read rows q cells unrefused =
    let e = entity_of q in
    let is = asked q (row_at rows e) (weight_of rows e) unrefused.unread cells unrefused.none in
    let a = (others_none (no_entity e (row_at rows e)) _ is).1 in
    let b = (others_none (not_solid e (row_at rows e)) _ a).1 in
    let c = (others_none (unsupported unrefused.unread) _ b).0 in
    reads_none rows e unrefused.unread unrefused.first (none_unread unrefused.unread c)

pub open_solid : (rows : List Entity) (q : Question) → AsksCells q → IsNotRefused rows q → IsSolidRow (row_at rows (entity_of q))
open_solid rows q cells unrefused =
    let e = entity_of q in
    solid_there q e (row_at rows e) (weight_of rows e) unrefused.unread (asked q (row_at rows e) (weight_of rows e) unrefused.unread cells unrefused.none)
    (λ unread. open_read rows q cells unrefused e (here, unread))

-- ---- cells

chosen : (b : Bool) (m n : ℕ) → cond b (Some m) None ≡ Some n → m ≡ n
chosen true m n e = grind (arith, e)
chosen false m n e = grind (arith, e)

positive_product : (a b : ℕ) → 0 < a → 0 < b → 0 < a * b
positive_product zero b h k = absurd (omega (arith, h))
positive_product (suc a) b h k = omega (arith, k)

some_grid : (depth n : ℕ) → cells_of_grid depth ≡ Some n → 0 < n
some_grid depth n is = (let same = chosen (nat_le depth 5) (8 ^ depth) n is in let h = power-positive 8 depth (omega arith) in omega (arith, same, h))

some_section : (nx ny n : ℕ) → 0 < nx → 0 < ny → cells_of_section nx ny ≡ Some n → 0 < n
some_section nx ny n a b is = (let same = chosen (nat_le (nx * ny) 65536) (nx * ny) n is in let h = positive_product nx ny a b in omega (arith, same, h))

one_cell : (n : ℕ) → Some 1 ≡ Some n → 0 < n
one_cell n is = (let same : 1 ≡ n = grind (arith, is) in omega (arith, same))

pub some_cells : (q : Question) (n : ℕ) → IsLawful q → AsksCells q → cell_count q ≡ Some n → 0 < n
some_cells (question.Point e at) n lawful h is = one_cell n is
some_cells (question.Cell e cube) n lawful h is = one_cell n is
some_cells (question.Items e) n lawful h is = absurd h
some_cells (question.Section e z x0 y0 step nx ny) n lawful h is = some_section nx ny n lawful.1.some_x.0 lawful.1.some_y.0 is
some_cells (question.Volume e cube depth) n lawful h is = some_grid depth n is
some_cells (question.Bounds e cube depth) n lawful h is = some_grid depth n is
some_cells question.Export n lawful h is = absurd h
some_cells question.Newest n lawful h is = absurd h

pub open_few : (rows : List Entity) (q : Question) → IsNotRefused rows q → Few (weight_of rows (entity_of q)) (cell_count q)
open_few rows q unrefused = unrefused_few q (row_at rows (entity_of q)) (weight_of rows (entity_of q)) unrefused.unread unrefused.none

pub open_count : (rows : List Entity) (q : Question) → IsNotRefused rows q → (n : ℕ) × (cell_count q ≡ Some n) × (n * weight_of rows (entity_of q) ≤ most_evaluations)
open_count rows q unrefused = go (cell_count q) refl (open_few rows q unrefused) where
  go : (count : Option ℕ) → cell_count q ≡ count → Few (weight_of rows (entity_of q)) count → (n : ℕ) × (cell_count q ≡ Some n) × (n * weight_of rows (entity_of q) ≤ most_evaluations)
  go None is few = absurd few
  go (Some n) is few = (n, is, few)

-- ---- it isn't answered at once

pub open_not_at_once : (rows : List Entity) (q : Question) → AsksCells q → IsNotRefused rows q → ¬ IsAtOnce rows q
open_not_at_once rows q cells unrefused (inl none) = none cells
open_not_at_once rows q cells unrefused (inr refused) =
    let same = first_opaque_once rows (entity_of q) refused.unread unrefused.unread refused.first unrefused.first in
    let none : refusal_on rows q refused.unread ≡ None = subst (λ n. refusal_on rows q n ≡ None) (sym same) unrefused.none in
    let some : IsTrue false = subst (λ (o : Option Refusal). IsSome o) none refused.refusal in
    absurd (cc)
