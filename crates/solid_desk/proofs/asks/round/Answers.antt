use Rattle.std.proofs.Common.{subst}
use Rattle.std.proofs.lemmas.Result.{err_from_is_err_and}
use Rattle.solid_desk.specs.Holds.{IsHeardBy, IsReplyBy}
use Rattle.solid_desk.proofs.Holding.{on_twice, under_still}
use Rattle.solid_desk.proofs.Asked.{looked_same, round_same, round_few, round_rises, hears_reply, hears_error, looks_once, round_answers, goes_round}
use Rattle.solid_desk.proofs.asks.round.Goals as goal

pub returns-in_err-reply-clause-heard : goal.returns-in_err-reply-clause-heard
returns-in_err-reply-clause-heard g c =
    let p = err_from_is_err_and c.from_residual.result c.from_residual.ensures.1 in
    hears_error c.args.pass.now c.look.new.pass c.given_up.new.pass c.args.run.now c.look.new.run c.look.ensures.same.1 c.look.ensures.look _ c.from_residual.result p.0 p.1 c.given_up.ensures.heard

pub returns-in-Some-clause-heard : goal.returns-in-Some-clause-heard
returns-in-Some-clause-heard g c =
    subst (λ o. IsHeardBy c.args.pass.now c.given_up.new.pass c.args.run.now.live (λ more. IsReplyBy c.args.run.now c.given_up.new.pass.seen more o)) c.in-Some.is
    (hears_reply c.args.pass.now c.look.new.pass c.given_up.new.pass c.args.run.now c.look.new.run c.look.ensures.same.1 c.look.ensures.look c.in_ok-reply.field-0 c.in_ok-reply.ensures.heard)

pub work-requires-clause-under : goal.work-requires-clause-under
work-requires-clause-under g c =
    under_still c.args.turn.now c.args.pass.now c.given_up.new.pass c.args.run.now c.look.new.run c.requires.under
    (on_twice c.args.turn.now c.args.pass.now c.look.new.pass c.given_up.new.pass c.look.ensures.goes_on c.given_up.ensures.goes_on).front
    (looked_same c.args.run.now c.look.new.run c.look.ensures.look)

pub returns-clause-fewer : goal.returns-clause-fewer
returns-clause-fewer g c =
    goes_round c.args.run.now c.look.new.run c.work.new.run c.obeys.ensures c.requires.stage c.look.ensures.look c.work.ensures.run c.work.result c.work.ensures.answer

pub returns-clause-heard : goal.returns-clause-heard
returns-clause-heard g c =
    round_answers c.args.pass.now c.given_up.new.pass c.work.new.pass c.args.run.now c.work.new.run c.in_ok-reply.field-0 c.work.result c.in_default.is
    (round_same c.args.run.now c.look.new.run c.work.new.run c.obeys.ensures c.requires.stage c.look.ensures.look c.work.ensures.run) c.work.ensures.same.1
    (hears_reply c.args.pass.now c.look.new.pass c.given_up.new.pass c.args.run.now c.look.new.run c.look.ensures.same.1 c.look.ensures.look c.in_ok-reply.field-0 c.in_ok-reply.ensures.heard)
    c.work.ensures.answer

pub returns-clause-often : goal.returns-clause-often
returns-clause-often g c =
    looks_once c.args.pass.now c.look.new.pass c.given_up.new.pass c.args.run.now c.look.new.run c.look.ensures.same.1 c.look.ensures.look c.work.new.pass _ _ _ c.given_up.ensures.heard c.work.ensures.same.1
    (round_few c.args.run.now c.look.new.run c.work.new.run c.obeys.ensures c.requires.stage c.look.ensures.look c.work.ensures.run (g.L.Ledger.count c.args.leaves.now) (g.L.Ledger.count c.work.new.leaves) c.work.ensures.counted)

pub returns-clause-light : goal.returns-clause-light
returns-clause-light g c =
    round_rises c.args.run.now c.look.new.run c.work.new.run c.obeys.ensures c.requires.stage c.look.ensures.look c.work.ensures.run (g.L.Ledger.count c.args.leaves.now) (g.L.Ledger.count c.work.new.leaves)
    (g.met.L.Ledger.bounded c.args.leaves.now) c.work.ensures.running c.work.ensures.counted
