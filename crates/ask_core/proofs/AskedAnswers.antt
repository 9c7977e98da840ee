-- The answer of a run that has ended, and how many primitives a run may evaluate.
use Rattle.std.proofs.Common.{◌≡◌, ℕ, ◌*◌, ◌≤◌, List, ◌++◌, length, Result, OnOk, refl, sym, ap, subst, arith, mul-le-mul}
use Rattle.solid_base.specs.declared.classes.Verdict.{Verdict}
use Rattle.solid_base.specs.declared.entities.Entity.{Entity}
use Rattle.solid_base.specs.declared.solids.Row.{Row}
use Rattle.solid_base.specs.Graph.{weight_of}
use Rattle.solid_base.specs.Ledgers.{RisesUpTo}
use Rattle.entity_graph.proofs.FirstOpaques.{first_opaque_some}
use Rattle.solid_eval.specs.Solids.{solid_of}
use Rattle.solid_eval.specs.Uses.{leaf_count}
use Rattle.solid_eval.proofs.Uses.{count_most}
use Rattle.solid_questions.specs.declared.questions.Question.{Question}
use Rattle.solid_questions.specs.declared.questions.Question.TheVariants as question
use Rattle.solid_questions.specs.Bodies.{IsBody}
use Rattle.solid_questions.specs.QuestionCells.{all_cells}
use Rattle.solid_questions.specs.Questions.{entity_of}
use Rattle.solid_questions.specs.Refusals.{most_evaluations}
use Rattle.edit_core.specs.Versions.{Version}
use Rattle.ask_core.specs.Answers.{IsAnswer, Evaluates, cell_evaluations, evaluations_unless, refusal_on}
use Rattle.ask_core.specs.Books.{AsksCells}
use Rattle.ask_core.specs.Runs.{RunFacts, IsRunning, left_of}
use Rattle.ask_core.specs.Thrift.{IsFurther}
use Rattle.solid_questions.proofs.Order.{count_is}
use Rattle.ask_core.proofs.Courses.{all_counted}
use Rattle.ask_core.proofs.Evaluated.{all_evaluated}
use Rattle.ask_core.proofs.OpenQuestions.{open_count}

-- the body of a question about cells is the same for each row
pub any_row : (q : Question) (r s : Row) (verdicts : List Verdict) (text : List ℕ) → AsksCells q → IsBody q r verdicts text → IsBody q s verdicts text
any_row (question.Point e at) r s verdicts text cells is = is
any_row (question.Cell e cube) r s verdicts text cells is = is
any_row (question.Items e) r s verdicts text cells is = absurd cells
any_row (question.Section e z x0 y0 step nx ny) r s verdicts text cells is = is
any_row (question.Volume e cube depth) r s verdicts text cells is = is
any_row (question.Bounds e cube depth) r s verdicts text cells is = is
any_row question.Export r s verdicts text cells is = absurd cells
any_row question.Newest r s verdicts text cells is = absurd cells

-- no more uses are left than a question may take
pub few_left : (run : RunFacts) → IsRunning run → left_of run ≤ most_evaluations
few_left run running =
    let rows = run.table.model.rows in
    let q = run.question in
    let few = open_count rows q running.not_refused in
    let all = all_counted rows q few.0 few.1 in
    let less : few.0 * leaf_count (solid_of rows (entity_of q)) ≤ few.0 * weight_of rows (entity_of q) = mul-le-mul (omega arith) (count_most rows (entity_of q)) in
    omega (arith, all, less, few.2)

-- an answer of a run that is further is one of the run
abbrev pub Adds : Version → Question → List ℕ → List ℕ → Type 0
Adds table q old new = (body : List ℕ) × IsAnswer table.model q body × (new ≡ old ++ body)

pub answer_before : {E : Type 0} (result : Result (Unit {0}) E) (old new : RunFacts) (text after : List ℕ) → IsFurther old new
    → OnOk result (Adds new.table new.question text after) → OnOk result (Adds old.table old.question text after)
answer_before result old new text after further h =
    subst (λ (t : Version). OnOk result (Adds t old.question text after)) further.table (subst (λ (q : Question). OnOk result (Adds new.table q text after)) further.question h)

-- ---- never more evaluations than an answer afresh makes

abbrev pub RisesAtMost : List Entity → Question → ℕ → ℕ → Type 0
RisesAtMost rows q old new = (count : ℕ) × Evaluates rows q count × RisesUpTo old new count

-- where none is made
pub still_rises : (rows : List Entity) (q : Question) (count : ℕ) → RisesAtMost rows q count count
still_rises rows q count =
    let some = first_opaque_some rows (entity_of q) in
    (evaluations_unless (refusal_on rows q some.0) rows q, (some.0, some.1, refl), (omega arith, omega arith))

-- a run that begins has as many uses as an answer afresh evaluates
pub run_rises : (run : RunFacts) (old new : ℕ) → IsRunning run → run.done ≡ 0 → RisesUpTo old new (left_of run) → RisesAtMost run.table.model.rows run.question old new
run_rises run old new running begins rises =
    let rows = run.table.model.rows in
    let q = run.question in
    let first = running.not_refused in
    let few = open_count rows q first in
    let all = all_counted rows q few.0 few.1 in
    let cells : length (all_cells q) * leaf_count (solid_of rows (entity_of q)) ≡ few.0 * leaf_count (solid_of rows (entity_of q)) = ap (λ n. n * leaf_count (solid_of rows (entity_of q))) (count_is q few.0 few.1) in
    let left : left_of run ≡ cell_evaluations rows q = omega (arith, all, cells, begins) in
    (cell_evaluations rows q, all_evaluated rows q first.unread first.first (sym first.none), subst (λ n. RisesUpTo old new n) left rises)
