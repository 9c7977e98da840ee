use Rattle.std.proofs.Common.{sym, arith}
use Rattle.solid_base.proofs.Counts.{counted_none}
use Rattle.ask_core.proofs.Evaluated.{on_ok, ok_then}
use Rattle.ask_core.proofs.Exports.{about_rows, answer_of_rows, export_evaluates}
use Rattle.ask_core.proofs.answers.push_answer.Goals as goal

pub push_answer_on-requires-clause-of_rows : goal.push_answer_on-requires-clause-of_rows
push_answer_on-requires-clause-of_rows g c = about_rows c.args.question.now c.in_default.not-Export

pub returns-in-Export-clause-counted : goal.returns-in-Export-clause-counted
returns-in-Export-clause-counted g c =
    on_ok c.push_export.result
    (0, export_evaluates c.args.table.now.model.rows c.args.question.now c.in-Export.is, sym (counted_none _ (g.met.L.Ledger.bounded c.args.leaves.now)))

pub returns-in-Export-clause-most : goal.returns-in-Export-clause-most
returns-in-Export-clause-most g c =
    (0, export_evaluates c.args.table.now.model.rows c.args.question.now c.in-Export.is, (omega arith, omega arith))

pub returns-in_default : goal.returns-in_default
returns-in_default g c =
    let q = c.args.question.now in
    let e = rw c.rows.ensures at c.push_answer_on.ensures in
    record {
      answer = ok_then c.push_answer_on.result (λ a. (a.0, answer_of_rows c.args.table.now.model q a.0 c.in_default.not-Export a.1, a.2)) e.answer;
      front = e.front;
      counted = e.counted;
      most = e.most;
      weight = e.weight;
      light = e.light;
    }
