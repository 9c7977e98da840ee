use Rattle.std.proofs.Common.{◌≡◌, ◌*◌, ℕ, map, sym, ap, ◌∙◌, arith}
use Rattle.std.specs.List.{range_with_len}
use Rattle.solid_base.specs.Ledgers.{counted}
use Rattle.solid_eval.specs.Solids.{solid_of}
use Rattle.solid_eval.specs.Uses.{leaf_count}
use Rattle.solid_questions.specs.Questions.{entity_of}
use Rattle.solid_questions.specs.QuestionCells.{cell}
use Rattle.ask_core.specs.Answers.{cell_verdict}
use Rattle.ask_core.proofs.CellCounts.{listed_length}
use Rattle.ask_core.proofs.CellSteps.{one_more, counted_more, all_verdicts}
use Rattle.ask_core.proofs.cells.cell_verdicts.Goals as goal

pub loop-place-preserved : goal.loop-place-preserved
loop-place-preserved g c =
    let rows = c.args.rows.now in
    let q = c.args.question.now in
    let k = c.loop-place.place in
    let before = c.loop-place.invariant in
    record {
      so_far = one_more (λ k. cell_verdict rows (entity_of q) (cell q k)) k _ _ before.so_far c.push_cell.ensures.added;
      room = λ less. omega (arith, before.room c.loop-place-test.true, c.push_cell.ensures.spare);
      counted = counted_more _ k (leaf_count (solid_of rows (entity_of q))) _ _ before.counted c.push_cell.ensures.counted;
    }

pub returns-clause-verdicts : goal.returns-clause-verdicts
returns-clause-verdicts g c =
    let rows = c.args.rows.now in
    let q = c.args.question.now in
    let same : c.loop-place.place ≡ c.count-count.result = omega (arith, c.loop-place-test.false, c.loop-place.auto.place-end) in
    c.loop-place.invariant.so_far
    ∙ (ap (λ (n : ℕ). map (λ k. cell_verdict rows (entity_of q) (cell q k)) (range_with_len 0 n)) same
    ∙ all_verdicts rows q c.count-count.result c.count-count.ensures.cells)

pub returns-clause-counted : goal.returns-clause-counted
returns-clause-counted g c =
    let q = c.args.question.now in
    let same : c.loop-place.place ≡ c.count-count.result = omega (arith, c.loop-place-test.false, c.loop-place.auto.place-end) in
    c.loop-place.invariant.counted
    ∙ ap (λ (n : ℕ). counted (g.L.Ledger.count c.args.leaves.now) (n * leaf_count (solid_of c.args.rows.now (entity_of q))))
    (same ∙ sym (listed_length q c.count-count.result c.count-count.ensures.cells))
