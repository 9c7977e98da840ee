use Rattle.ask_core.proofs.PlaceSteps.{told_if_ok}
use Rattle.ask_core.proofs.machine.newest_reply.Goals as goal

pub returns-in-Some : goal.returns-in-Some
returns-in-Some c = told_if_ok c.args.newest c.args.place.now c.in-Some.run' c.cancelled.result c.in-Some.is c.cancelled.ensures
