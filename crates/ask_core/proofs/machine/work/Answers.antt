use Rattle.std.proofs.Common.{rules, ap, Some}
use Rattle.ask_core.specs.Places.{works}
use Rattle.ask_core.proofs.machine.work.Goals as goal

pub returns-then-eq : goal.returns-then-eq
returns-then-eq g c = record {
  place = works c.in-Some.run' c.in-Some.is (search rules) c.obeys.ensures (ap Some c.work.ensures.run) c.work.ensures.counted;
}
