use Rattle.std.proofs.Common.{rules, ap, Some}
use Rattle.ask_core.specs.Places.{looked_for}
use Rattle.ask_core.proofs.machine.look.Goals as goal

pub returns-then-eq-clause-place : goal.returns-then-eq-clause-place
returns-then-eq-clause-place c =
    looked_for c.in-Some.run' c.look.new.run.taken c.in-Some.is (search rules) c.look.ensures.taken (ap Some c.look.ensures.run) c.look.ensures.entries
