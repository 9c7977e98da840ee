use Rattle.std.proofs.Common.{◌≡◌, ◌+◌, ◌*◌, ◌<◌, ◌≤◌, map}
use Rattle.std.specs.List.{range_with_len}
use Rattle.solid_base.specs.Graph.{weight_of}
use Rattle.solid_base.specs.Ledgers.{counted}
use Rattle.solid_eval.specs.Solids.{solid_of}
use Rattle.solid_eval.specs.Uses.{leaf_count}
use Rattle.solid_questions.specs.Questions.{entity_of}
use Rattle.solid_questions.specs.QuestionCells.{cell}
use Rattle.ask_core.specs.Answers.{cell_verdict}
use Rattle.ask_core.proofs.cells.cell_verdicts.Given as goal

-- the verdicts so far, room for the rest, and the evaluations so far
abbrev pub invariant-loop-place : goal.invariant-loop-place
invariant-loop-place g l = record {
  so_far : l.verdicts.list ≡ map (λ k. cell_verdict l.rows (entity_of l.question) (cell l.question k)) (range_with_len 0 l.place);
  room : l.place < l.count → l.count + weight_of l.rows (entity_of l.question) ≤ l.place + l.verdicts.spare;
  counted : g.L.Ledger.count l.leaves ≡ counted (g.L.Ledger.count l.fn.leaves) (l.place * leaf_count (solid_of l.rows (entity_of l.question)));
}
