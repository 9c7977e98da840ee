use Rattle.solid_desk.specs.Outcomes.{reply_of, reply_text}
use Rattle.solid_desk.proofs.LineSteps.{committed_line}
use Rattle.solid_desk.proofs.lines.commit.Goals as goal

pub returns-clause-done : goal.returns-clause-done
returns-clause-done c =
    let (outcome, done, named, added) = c.in_ok-version.ensures.made in (
      reply_text (reply_of outcome),
      (λ count. committed_line c.args.book.now c.make.new.book c.args.number c.line.result c.take_batch.result c.args.session.now c.take_batch.new.self c.go_on.new.self c.in_ok-version.version count outcome
          done c.line.ensures c.take_batch.ensures.taken named c.take_batch.ensures.none_left c.go_on.ensures),
      added,
    )
