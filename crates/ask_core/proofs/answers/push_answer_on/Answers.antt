use Rattle.std.proofs.Common.{◌*◌, length, sym}
use Rattle.solid_base.proofs.Counts.{counted_none}
use Rattle.solid_eval.specs.Solids.{solid_of}
use Rattle.solid_eval.specs.Uses.{leaf_count}
use Rattle.solid_questions.specs.Questions.{entity_of}
use Rattle.solid_questions.specs.QuestionCells.{all_cells}
use Rattle.ask_core.proofs.Evaluated.{on_ok, refused_none, all_evaluated, not_heavier, light_enough}
use Rattle.ask_core.proofs.answers.push_answer_on.Goals as goal

pub returns-in-Some-clause-counted : goal.returns-in-Some-clause-counted
returns-in-Some-clause-counted g c =
    let old = g.L.Ledger.count c.args.leaves.now in
    let why = c.in-Some.ensures in
    on_ok c.push.result
    (0, refused_none c.args.rows.now c.args.question.now why.0 c.in-Some.refusal why.1 why.2, sym (counted_none old (g.met.L.Ledger.bounded c.args.leaves.now)))

pub returns-in-None-clause-most : goal.returns-in-None-clause-most
returns-in-None-clause-most g c =
    let rows = c.args.rows.now in
    let q = c.args.question.now in
    let why = c.in-None.ensures in
    (length (all_cells q) * leaf_count (solid_of rows (entity_of q)), all_evaluated rows q why.0 why.1 why.2, c.push_evaluated.ensures.most)

pub returns-in-None-clause-weight : goal.returns-in-None-clause-weight
returns-in-None-clause-weight g c =
    not_heavier c.args.rows.now c.args.question.now _ _ c.push_evaluated.ensures.most

pub returns-in-None-clause-light : goal.returns-in-None-clause-light
returns-in-None-clause-light g c =
    let why = c.in-None.ensures in
    light_enough c.args.rows.now c.args.question.now why.0 _ _ why.2 (returns-in-None-clause-weight g c)
