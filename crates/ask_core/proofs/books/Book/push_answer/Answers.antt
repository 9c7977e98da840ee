use Rattle.std.proofs.Common.{OnOk, ap, arith, subst}
use Rattle.ask_core.specs.Runs.{RunFacts}
use Rattle.ask_core.specs.Thrift.{IsThrifty}
use Rattle.ask_core.proofs.Evaluated.{on_ok}
use Rattle.ask_core.proofs.AskedAnswers.{Adds, RisesAtMost, few_left, run_rises, still_rises, answer_before}
use Rattle.ask_core.proofs.books.Book.push_answer.Goals as goal

pub returns-in_err-finish-clause-light : goal.returns-in_err-finish-clause-light
returns-in_err-finish-clause-light g c =
    let light = c.finish.ensures.light in
    (light.0, omega (arith, light.1, few_left c.in_ok-run.run' c.obeys.ensures))

pub returns-clause-answer : goal.returns-clause-answer
returns-clause-answer g c =
    subst (λ (r : RunFacts). OnOk c.push_answer-2.result (Adds r.table r.question c.args.out.now c.push_answer-2.new.out)) c.in_ok-run.ensures.run
    (answer_before c.push_answer-2.result c.in_ok-run.run' c.finish.new.run c.args.out.now c.push_answer-2.new.out c.finish.ensures.further c.push_answer-2.ensures.answer)

pub returns-clause-light : goal.returns-clause-light
returns-clause-light g c =
    let light = c.finish.ensures.light in
    (light.0, omega (arith, light.1, few_left c.in_ok-run.run' c.obeys.ensures))

pub returns-clause-thrifty : goal.returns-clause-thrifty
returns-clause-thrifty g c =
    on_ok c.push_answer-2.result (subst (λ (r : RunFacts). IsThrifty r.table r.question c.args.self.now.memo.entries c.finish.new.book.memo.entries (g.L.Ledger.count c.args.leaves.now) (g.L.Ledger.count c.finish.new.leaves)) c.in_ok-run.ensures.run c.in_ok-finish.ensures.thrifty)

pub returns-then-is_at_once-clause-most : goal.returns-then-is_at_once-clause-most
returns-then-is_at_once-clause-most g c = still_rises c.args.self.now.table.model.rows c.args.question.now (g.L.Ledger.count c.args.leaves.now)

pub returns-in_err-run-clause-most : goal.returns-in_err-run-clause-most
returns-in_err-run-clause-most g c = still_rises c.args.self.now.table.model.rows c.args.question.now (g.L.Ledger.count c.args.leaves.now)

pub returns-in_err-finish-clause-most : goal.returns-in_err-finish-clause-most
returns-in_err-finish-clause-most g c =
    let was = c.in_ok-run.ensures.run in
    subst (λ (r : RunFacts). RisesAtMost r.table.model.rows r.question (g.L.Ledger.count c.args.leaves.now) (g.L.Ledger.count c.finish.new.leaves)) was
    (run_rises c.in_ok-run.run' _ _ c.obeys.ensures (ap (λ (r : RunFacts). r.done) was) c.finish.ensures.light)

pub returns-clause-most : goal.returns-clause-most
returns-clause-most g c =
    let was = c.in_ok-run.ensures.run in
    subst (λ (r : RunFacts). RisesAtMost r.table.model.rows r.question (g.L.Ledger.count c.args.leaves.now) (g.L.Ledger.count c.finish.new.leaves)) was
    (run_rises c.in_ok-run.run' _ _ c.obeys.ensures (ap (λ (r : RunFacts). r.done) was) c.finish.ensures.light)
