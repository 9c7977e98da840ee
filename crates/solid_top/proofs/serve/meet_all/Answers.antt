use Rattle.std.proofs.Common.{◌≡◌, [], sym, ◌∙◌}
use Rattle.std.proofs.lemmas.List.{nil_from_length}
use Rattle.solid_top.proofs.ServeSteps.{met_none, met_more, met_all, met_parts, next_ran}
use Rattle.solid_top.proofs.serve.meet_all.Goals as goal

pub loop-one-init : goal.loop-one-init
loop-one-init c =
    met_none c.args.turn.now c.args.pass.now c.args.done.items c.into_iter-one-iterator.result.rest.items _ c.requires.of_turn c.requires.idle c.requires.nothing_made c.requires.ran
    c.in_ok-served.ensures.items c.into_iter-one-iterator.ensures.into_iter_gives.0

pub meet-requires-clause-other_of_turn : goal.meet-requires-clause-other_of_turn
meet-requires-clause-other_of_turn c =
    (next_ran c.args.turn.now c.args.pass.now c.args.done.items c.loop-one.pass c.loop-one.served.items _ c.next.new.self.rest.items c.in-Some.one c.loop-one.invariant c.in-Some.ensures.steps.0).0.of_turn

pub meet-requires-clause-other_idle : goal.meet-requires-clause-other_idle
meet-requires-clause-other_idle c =
    (next_ran c.args.turn.now c.args.pass.now c.args.done.items c.loop-one.pass c.loop-one.served.items _ c.next.new.self.rest.items c.in-Some.one c.loop-one.invariant c.in-Some.ensures.steps.0).0.idle

pub loop-one-preserved : goal.loop-one-preserved
loop-one-preserved c =
    let meet = c.meet.ensures in
    met_more c.args.turn.now c.args.pass.now c.args.done.items c.loop-one.pass c.loop-one.served.items _ c.next.new.self.rest.items c.in-Some.one c.loop-one.invariant c.in-Some.ensures.steps.0
    c.meet.new.pass c.in_ok-replies.field-0 c.push.new.self.items meet.of_turn meet.idle meet.goes_on meet.goes_on_from_other meet.seen meet.made meet.parts c.in_ok-replies.was c.in_ok-push.ensures.items

pub returns-clause-parts : goal.returns-clause-parts
returns-clause-parts c =
    let none : c.loop-one.one-iterator.rest.items ≡ [] = nil_from_length c.loop-one.one-iterator.rest.items (sym c.loop-one.one-iterator.rest.ok.0 ∙ c.in-None.ensures.steps.0) in
    met_parts c.args.turn.now c.args.pass.now c.args.done.items c.loop-one.pass c.loop-one.served.items _ c.loop-one.invariant none

pub returns-clause-served : goal.returns-clause-served
returns-clause-served c =
    let none : c.loop-one.one-iterator.rest.items ≡ [] = nil_from_length c.loop-one.one-iterator.rest.items (sym c.loop-one.one-iterator.rest.ok.0 ∙ c.in-None.ensures.steps.0) in
    met_all c.args.turn.now c.args.pass.now c.args.done.items c.loop-one.pass c.loop-one.served.items _ c.loop-one.invariant none
