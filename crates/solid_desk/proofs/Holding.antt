-- What a pass is shown and hears goes on through the calls of a session.
use Rattle.std.proofs.Common.{List, Some, sym, ap, subst, ◌∙◌, arith}
use mathlib.Core.List.{IsPrefix}
use Rattle.solid_base.specs.declared.entities.Model.{Model}
use Rattle.solid_base.proofs.Slices.{prefix_trans}
use Rattle.edit_core.specs.Versions.{LogEntry}
use Rattle.ask_core.specs.Runs.{RunFacts}
use Rattle.turn_book.specs.Passes.{TurnFacts, PassFacts}
use Rattle.solid_desk.specs.Holds.{IsRunUnder, IsSameRun}
use Rattle.solid_desk.specs.Turns.{GoesOn}

module _ (turn : TurnFacts Model) where
  abbrev Pass : Type 0
  Pass = PassFacts Model LogEntry

  pub on_twice : (a b c : Pass) → GoesOn turn a b → GoesOn turn b c → GoesOn turn a c
  on_twice a b c first second = record {
    of_turn = second.of_turn;
    idle = second.idle;
    front = prefix_trans a.front b.front c.front first.front second.front;
    seen = omega (arith, first.seen, second.seen);
    heard = prefix_trans a.heard b.heard c.heard first.heard second.heard;
    parts = second.parts ∙ first.parts;
  }

  -- a run of the turn is one still, as the pass is shown more
  pub under_still : (a b : Pass) (run after : RunFacts) → IsRunUnder turn a run → IsPrefix a.front b.front → IsSameRun run after → IsRunUnder turn b after
  under_still a b run after under goes same = record {
    opening = ap Some same.opening ∙ under.opening;
    front = subst (λ (l : List LogEntry). IsPrefix l b.front) (sym same.log) (prefix_trans run.log a.front b.front under.front goes);
  }
