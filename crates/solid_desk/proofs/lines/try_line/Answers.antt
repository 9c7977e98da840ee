use Rattle.std.proofs.Common.{ap}
use Rattle.memo_graph.proofs.Steps.{on_ok}
use Rattle.ask_core.specs.Books.{BookFacts}
use Rattle.solid_desk.specs.Outcomes.{bad_line, staged, reply_of, reply_text}
use Rattle.solid_desk.proofs.LineSteps.{on_err, replaced_done, added_done, dropped_done, bad_done}
use Rattle.solid_desk.proofs.lines.try_line.Goals as goal

pub returns-in-Ask-clause-done : goal.returns-in-Ask-clause-done
returns-in-Ask-clause-done g c = rw c.in-Ask.is (on_ok c.ask.result c.ask.ensures.done (λ a. (a.0, a.1 c.args.number c.in-Ask.live, a.2)))

pub returns-in-Ask-clause-stands : goal.returns-in-Ask-clause-stands
returns-in-Ask-clause-stands g c = rw c.in-Ask.is c.ask.ensures.unchanged

pub returns-in_ok-push_staged-in-Replace-clause-done : goal.returns-in_ok-push_staged-in-Replace-clause-done
returns-in_ok-push_staged-in-Replace-clause-done g c =
    rw c.in-Replace.is (on_ok c.replace.result c.replace.ensures.staged (λ h. (
      reply_text (reply_of (staged c.staged_with.result)),
      replaced_done c.args.book.now c.args.number c.args.session.now c.replace.new.self c.in-Replace.de c.in-Replace.row c.staged_with.result _ c.staged_with.ensures h,
      c.in_ok-push_staged-in-Replace.ensures.ok,
    )))

pub returns-in_ok-push_staged-in-Replace-clause-stands : goal.returns-in_ok-push_staged-in-Replace-clause-stands
returns-in_ok-push_staged-in-Replace-clause-stands g c = rw c.in-Replace.is c.replace.ensures.unchanged

pub returns-in_ok-push_staged-in-Add-clause-done : goal.returns-in_ok-push_staged-in-Add-clause-done
returns-in_ok-push_staged-in-Add-clause-done g c =
    rw c.in-Add.is (on_ok c.add.result c.add.ensures.staged (λ h. (
      reply_text (reply_of (staged c.staged_with-in-Add.result)),
      added_done c.args.book.now c.args.number c.args.session.now c.add.new.self c.in-Add.de c.in-Add.row c.staged_with-in-Add.result _ c.staged_with-in-Add.ensures h,
      c.in_ok-push_staged-in-Add.ensures.ok,
    )))

pub returns-in_ok-push_staged-in-Add-clause-stands : goal.returns-in_ok-push_staged-in-Add-clause-stands
returns-in_ok-push_staged-in-Add-clause-stands g c = rw c.in-Add.is c.add.ensures.unchanged

pub returns-in_ok-push_staged-in-Drop-clause-done : goal.returns-in_ok-push_staged-in-Drop-clause-done
returns-in_ok-push_staged-in-Drop-clause-done g c =
    rw c.in-Drop.is (on_ok c.drop_row.result c.drop_row.ensures.staged (λ h. (
      reply_text (reply_of (staged c.staged_with-in-Drop.result)),
      dropped_done c.args.book.now c.args.number c.args.session.now c.drop_row.new.self c.in-Drop.de c.staged_with-in-Drop.result _ c.staged_with-in-Drop.ensures h,
      c.in_ok-push_staged-in-Drop.ensures.ok,
    )))

pub returns-in_ok-push_staged-in-Drop-clause-stands : goal.returns-in_ok-push_staged-in-Drop-clause-stands
returns-in_ok-push_staged-in-Drop-clause-stands g c = rw c.in-Drop.is c.drop_row.ensures.unchanged

pub returns-in-Commit-clause-done : goal.returns-in-Commit-clause-done
returns-in-Commit-clause-done g c = rw c.in-Commit.is (on_ok c.commit.result c.commit.ensures.done (λ a. (a.0, a.1 _, a.2)))

pub returns-in-Commit-clause-opening : goal.returns-in-Commit-clause-opening
returns-in-Commit-clause-opening g c = on_err c.commit.result c.commit.ensures.unchanged (λ same. ap (λ (b : BookFacts). b.opening) same)

pub returns-in-Commit-clause-log : goal.returns-in-Commit-clause-log
returns-in-Commit-clause-log g c = on_err c.commit.result c.commit.ensures.unchanged (λ same. ap (λ (b : BookFacts). b.log) same)

pub returns-in-Commit-clause-stands : goal.returns-in-Commit-clause-stands
returns-in-Commit-clause-stands g c = rw c.in-Commit.is c.commit.ensures.none_staged

pub returns-in_ok-push_bad_line-in-Bad-clause-done : goal.returns-in_ok-push_bad_line-in-Bad-clause-done
returns-in_ok-push_bad_line-in-Bad-clause-done g c =
    rw c.in-Bad.is (
      reply_text (reply_of (bad_line c.in-Bad.fault)),
      bad_done c.args.book.now c.args.number c.args.session.now c.go_on.new.self c.in-Bad.fault _ c.go_on.ensures,
      c.in_ok-push_bad_line-in-Bad.ensures.ok,
    )
