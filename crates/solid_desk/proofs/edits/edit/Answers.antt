use Rattle.std.proofs.Common.{rules, subst, codes}
use Rattle.edit_core.specs.EditFaults.{IsOfText}
use Rattle.solid_desk.specs.Holds.{IsCommitUnder}
use Rattle.solid_desk.proofs.Edited.{committed_comes, with_words, refused_if_ok, kept_on_err}
use Rattle.solid_desk.proofs.edits.edit.Goals as goal

pub returns-in-Ok-clause-reply : goal.returns-in-Ok-clause-reply
returns-in-Ok-clause-reply g c = λ opening opens.
    let done = c.commit_now-version.ensures in
    committed_comes c.args.turn.now c.args.pass.now c.commit_now-version.new.pass c.args.commit opening opens done.shown c.in-Ok.field-0
    (subst (IsCommitUnder c.args.turn.now c.args.pass.now c.commit_now-version.new.pass c.args.commit) c.in-Ok.is done.commit)
    _ (with_words _ _ _ (codes "COMMITTED") done.version c.in_ok-body.ensures)

pub returns : goal.returns
returns g c =
    let done = c.commit_now-version.ensures in
    let text : IsOfText c.in-Err.fault = search rules in
    let under = subst (IsCommitUnder c.args.turn.now c.args.pass.now c.commit_now-version.new.pass c.args.commit) c.in-Err.is done.commit in
    record {
      goes_on = done.goes_on;
      reply = refused_if_ok c.args.turn.now c.args.pass.now c.commit_now-version.new.pass c.args.commit c.in-Err.fault c.commit_now-version.result.0 c.refused_reply.result done.shown text under done.version c.refused_reply.ensures;
      unmade = kept_on_err c.refused_reply.result under.comes.3;
      same_heard = done.same_heard;
    }
