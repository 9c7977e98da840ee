use Rattle.std.proofs.Common.{◌≡◌, ◌∙◌, sym, []}
use Rattle.std.proofs.lemmas.List.{nil_from_length}
use Rattle.ask_core.proofs.Reached.{start_reached, reached_places, reached_front, next_lawful, step_reached, end_reached}
use Rattle.ask_core.proofs.machine.run_events.Goals as goal

pub loop-event-init : goal.loop-event-init
loop-event-init g c =
    start_reached c.args.model c.args.events.items c.into_iter-event-iterator.result.rest.items _ (g.L.Ledger.count c.args.leaves.now) c.requires.lawful c.into_iter-event-iterator.ensures.into_iter_gives.0
    c.in_ok-start.ensures.opening c.in_ok-start.ensures.log c.in_ok-start.ensures.memo c.in_ok-runs.ensures.runs c.in_ok-runs.ensures.replies

pub step-requires-clause-places : goal.step-requires-clause-places
step-requires-clause-places g c = reached_places c.args.model c.args.events.items _ _ _ c.loop-event.sessions c.loop-event.invariant

pub step-requires-clause-front : goal.step-requires-clause-front
step-requires-clause-front g c = reached_front c.args.model c.args.events.items _ _ _ c.loop-event.sessions c.loop-event.invariant

pub step-requires-clause-lawful : goal.step-requires-clause-lawful
step-requires-clause-lawful g c =
    next_lawful c.args.model c.args.events.items _ c.next.new.self.rest.items _ _ c.loop-event.sessions c.in-Some.event c.loop-event.invariant c.in-Some.ensures.steps.0

pub loop-event-preserved : goal.loop-event-preserved
loop-event-preserved g c =
    step_reached c.args.model c.args.events.items _ c.next.new.self.rest.items _ _ _ c.loop-event.sessions c.step.new.self c.in-Some.event c.loop-event.invariant c.in-Some.ensures.steps.0
    c.in_ok-step.ensures.step c.in_ok-step.ensures.frugal

pub returns : goal.returns
returns g c =
    let none : c.loop-event.event-iterator.rest.items ≡ [] = nil_from_length c.loop-event.event-iterator.rest.items (sym c.loop-event.event-iterator.rest.ok.0 ∙ c.in-None.ensures.steps.0) in
    record {
      machine = end_reached c.args.model c.args.events.items _ _ _ c.loop-event.sessions c.into_log.result c.from_vec.result c.loop-event.invariant none c.into_log.ensures c.from_vec.ensures;
    }
