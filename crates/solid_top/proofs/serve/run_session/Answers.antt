use Rattle.std.proofs.Common.{◌∙◌}
use Rattle.solid_top.proofs.ServeSteps.{has_run}
use Rattle.solid_top.proofs.serve.run_session.Goals as goal

pub returns-clause-ran : goal.returns-clause-ran
returns-clause-ran g c =
    let ready = c.requires.ready in
    let on = c.session-replies.ensures.goes_on in record {
      of_turn = on.of_turn;
      idle = on.idle;
      one_part = on.parts ∙ ready.one_part;
      served = has_run c.args.turn.now c.args.job.pass c.session-replies.new.pass c.args.job.lines c.session-replies.result ready.nothing_made c.session-replies.ensures.replies;
    }
