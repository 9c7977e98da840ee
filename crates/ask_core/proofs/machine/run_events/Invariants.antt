use Rattle.ask_core.proofs.Reached.{Reached}
use Rattle.ask_core.proofs.machine.run_events.Given as goal

-- the sessions are where the events so far lead
abbrev pub invariant-loop-event : goal.invariant-loop-event
invariant-loop-event g l =
    Reached l.fn.model l.fn.events.items (g.L.Ledger.count l.fn.leaves) l.sessions (g.L.Ledger.count l.leaves) l.event-iterator.rest.items
