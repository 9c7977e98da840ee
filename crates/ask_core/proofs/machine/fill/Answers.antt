use Rattle.std.proofs.Common.{rules, ◌≡◌}
use Rattle.ask_core.specs.declared.runs.Stage.TheVariants as stage
use Rattle.ask_core.proofs.PlaceSteps.{ends_with, goes_on_with}
use Rattle.ask_core.proofs.machine.fill.Goals as goal

pub returns-clause-place : goal.returns-clause-place
returns-clause-place c =
    let worked : c.in-Some.run'.stage ≡ stage.Worked = search rules in
    let answer = rw c.in-Some-2.is at c.in_ok-reply.ensures in
    ends_with c.args.place.now c.in-Some.run' c.fill.new.run c.in-Some-2.reply c.args.book.now.memo.entries c.fill.new.self.memo.entries c.in-Some.is worked c.obeys.ensures c.fill.ensures.run
    answer.0 answer.1 answer.2 (search rules)

pub returns-in_default-2-clause-place : goal.returns-in_default-2-clause-place
returns-in_default-2-clause-place c =
    let worked : c.in-Some.run'.stage ≡ stage.Worked = search rules in
    let left = rw c.in_default-2.is at c.in_ok-reply.ensures in
    goes_on_with c.args.place.now c.in-Some.run' c.fill.new.run c.args.book.now.memo.entries c.fill.new.self.memo.entries c.in-Some.is worked c.obeys.ensures c.fill.ensures.run left (search rules)
