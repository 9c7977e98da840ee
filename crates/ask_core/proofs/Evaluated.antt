-- How many evaluations an answer takes.
use Rattle.std.proofs.Common.{◌≡◌, ℕ, ◌*◌, ◌≤◌, Option, Some, None, MatchOption, Result, Ok, Err, OnOk, List, length, refl, sym, ap, subst, ◌∙◌, arith, mul-le-mul}
use Rattle.std.proofs.lemmas.List.{length-map}
use Rattle.solid_base.specs.declared.classes.Verdict.{Verdict}
use Rattle.solid_base.specs.declared.entities.Entity.{Entity}
use Rattle.solid_base.specs.Graph.{weight_of}
use Rattle.solid_base.specs.Ledgers.{RisesUpTo}
use Rattle.solid_base.specs.References.{row_at}
use Rattle.entity_graph.specs.Opaque.{IsFirstOpaque}
use Rattle.solid_eval.specs.Solids.{solid_of}
use Rattle.solid_eval.specs.Uses.{leaf_count}
use Rattle.solid_eval.proofs.Uses.{count_most}
use Rattle.solid_questions.specs.declared.questions.Question.{Question}
use Rattle.solid_questions.specs.declared.refusals.Refusal.{Refusal}
use Rattle.solid_questions.specs.Questions.{entity_of}
use Rattle.solid_questions.specs.QuestionCells.{all_cells, cell_count}
use Rattle.solid_questions.specs.Refusals.{most_evaluations}
use Rattle.ask_core.specs.Answers.{Evaluates, evaluations_unless, refusal_on, cell_verdict, cell_verdicts}
use Rattle.ask_core.proofs.CellCounts.{cells_listed, listed_length}
use Rattle.ask_core.proofs.Refused.{Few, unrefused_few}

pub on_ok : {A E P : Type 0} (r : Result A E) → P → OnOk r P
on_ok (Ok a) p = p
on_ok (Err e) p = tt

pub ok_then : {A E P Q : Type 0} (r : Result A E) → (P → Q) → OnOk r P → OnOk r Q
ok_then (Ok a) f p = f p
ok_then (Err e) f p = tt

-- one verdict a cell
pub one_each : (rows : List Entity) (q : Question) (count : Option ℕ) → cell_count q ≡ count → (verdicts : List Verdict) → verdicts ≡ cell_verdicts rows q
    → MatchOption count ⊥ (λ n. Unit {0}) → count ≡ Some (length verdicts)
one_each rows q None is verdicts all h = absurd h
one_each rows q (Some n) is verdicts all h =
    ap Some (sym (ap (λ (l : List Verdict). length l) all ∙ (length-map (all_cells q) (cell_verdict rows (entity_of q)) ∙ listed_length q n (cells_listed q n is))))

-- a refused question takes no evaluation
pub refused_none : (rows : List Entity) (q : Question) (unread : ℕ) (r : Refusal) → IsFirstOpaque rows (entity_of q) unread
    → Some r ≡ refusal_on rows q unread → Evaluates rows q 0
refused_none rows q unread r first is = (unread, first, ap (λ o. evaluations_unless o rows q) is)

-- another takes those of all its cells
pub all_evaluated : (rows : List Entity) (q : Question) (unread : ℕ) → IsFirstOpaque rows (entity_of q) unread
    → None ≡ refusal_on rows q unread → Evaluates rows q (length (all_cells q) * leaf_count (solid_of rows (entity_of q)))
all_evaluated rows q unread first is = (unread, first, ap (λ o. evaluations_unless o rows q) is)

pub not_heavier : (rows : List Entity) (q : Question) (old new : ℕ) → RisesUpTo old new (length (all_cells q) * leaf_count (solid_of rows (entity_of q)))
    → RisesUpTo old new (length (all_cells q) * weight_of rows (entity_of q))
not_heavier rows q old new f =
    let n = length (all_cells q) in
    let less : n * leaf_count (solid_of rows (entity_of q)) ≤ n * weight_of rows (entity_of q) = mul-le-mul (omega arith) (count_most rows (entity_of q)) in
    (f.0, omega (arith, f.1, less))

-- cells that aren't refused
fit : (rows : List Entity) (q : Question) (count : Option ℕ) → cell_count q ≡ count → Few (weight_of rows (entity_of q)) count → length (all_cells q) * weight_of rows (entity_of q) ≤ most_evaluations
fit rows q None is h = absurd h
fit rows q (Some n) is h = (let long = listed_length q n (cells_listed q n is) in subst (λ l. l * weight_of rows (entity_of q) ≤ most_evaluations) (sym long) h)

pub light_enough : (rows : List Entity) (q : Question) (unread old new : ℕ) → None ≡ refusal_on rows q unread
    → RisesUpTo old new (length (all_cells q) * weight_of rows (entity_of q)) → RisesUpTo old new most_evaluations
light_enough rows q unread old new is f =
    let few = fit rows q (cell_count q) refl (unrefused_few q (row_at rows (entity_of q)) (weight_of rows (entity_of q)) unread (sym is)) in
    (f.0, omega (arith, f.1, few))

-- so they aren't too many
pub answerable : (count : Option ℕ) (weight : ℕ) → Few weight count → MatchOption count ⊥ (λ n. Unit {0})
answerable None weight h = h
answerable (Some n) weight h = tt
