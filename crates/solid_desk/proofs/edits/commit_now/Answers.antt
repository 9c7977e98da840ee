use Rattle.solid_desk.proofs.CommitUnder.{commit_goes_on, commit_made, commit_refused}
use Rattle.solid_desk.proofs.edits.commit_now.Goals.{in-Ok, in-Err}
use Rattle.solid_desk.proofs.edits.commit_now.Goals as goal

pub returns-clause-goes_on : goal.returns-clause-goes_on
returns-clause-goes_on g c =
    let take = c.take-book.ensures in
    let give = c.give.ensures in
    let commit = c.commit.ensures in
    commit_goes_on c.args.turn.now c.args.pass.now c.take-book.new.pass c.give.new.pass c.take-book.result c.commit.new.self c.args.commit c.commit.result give.of_turn give.idle take.front take.seen commit.log commit.unchanged
    give.front give.seen give.same_heard take.same_heard give.same_parts take.same_made.1

pub returns-clause-commit : goal.returns-clause-commit
returns-clause-commit g c =
    let take = c.take-book.ensures in
    let give = c.give.ensures in
    let commit = c.commit.ensures in
    elim c.match-commit.branch [
      | in-Ok w ↦ commit_made c.args.turn.now c.args.pass.now c.take-book.new.pass c.give.new.pass c.take-book.result c.commit.new.self c.args.commit c.commit.result c.match-commit.made c.obeys.ensures take.opening take.front take.seen
          take.taken take.same_made.0 give.front give.made _ _ w.in-Ok.is w.made-is commit.next commit.log
      | in-Err w ↦ commit_refused c.args.turn.now c.args.pass.now c.take-book.new.pass c.give.new.pass c.take-book.result c.commit.new.self c.args.commit c.commit.result c.match-commit.made c.obeys.ensures take.opening take.front take.seen
          take.taken take.same_made.0 give.front give.made _ w.in-Err.is w.made-is commit.outer commit.first_fault commit.unchanged
    ]
