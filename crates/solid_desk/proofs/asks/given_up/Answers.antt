use Rattle.std.proofs.Common.{rules, ◌≡◌, true}
use Rattle.solid_desk.proofs.Asked.{live_hears}
use Rattle.solid_desk.proofs.asks.given_up.Goals as goal

pub returns-clause-heard : goal.returns-clause-heard
returns-clause-heard c =
    let live : c.args.run.now.live ≡ true = search rules in
    live_hears c.args.pass.now c.newest-newest.new.pass c.args.run.now c.newest-newest.result c.cancelled.result live c.newest-newest.ensures.seen c.newest-newest.ensures.heard c.cancelled.ensures
