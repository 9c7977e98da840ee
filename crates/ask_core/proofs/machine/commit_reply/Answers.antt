use Rattle.std.proofs.Common.{rules}
use Rattle.edit_core.specs.EditFaults.{IsOfText}
use Rattle.ask_core.proofs.PlaceSteps.{refused_if_ok}
use Rattle.ask_core.proofs.machine.commit_reply.Goals as goal

pub returns-in-Err : goal.returns-in-Err
returns-in-Err c =
    let text : IsOfText c.in-Err.fault = search rules in
    record {
      committed = refused_if_ok c.args.book.now c.commit.new.self c.args.commit c.len-version.result c.in-Err.fault c.refused_reply.result (search rules) (c.in-Err.ensures.first_fault text) (search rules) c.refused_reply.ensures;
      opening = c.commit.ensures.opening;
      memo = c.commit.ensures.memo;
    }
