use Rattle.std.proofs.Common.{◌≡◌, ◌*◌, suc, take, Some}
use Rattle.solid_base.specs.Ledgers.{RisesUpTo}
use Rattle.solid_base.specs.declared.entities.Model.{Model}
use Rattle.solid_questions.specs.Refusals.{most_evaluations}
use Rattle.solid_desk.specs.SessionSteps.{IsServedTo}
use Rattle.solid_desk.specs.Turns.{GoesOn}
use Rattle.solid_desk.proofs.sessions.session.Given as goal

-- the lines before this one are done
abbrev pub invariant-loop-command : goal.invariant-loop-command
invariant-loop-command g l = record {
  goes_on : GoesOn l.turn l.fn.pass l.pass;
  line : l.stands.line ≡ suc l.command-index;
  items : l.command-items ≡ l.lines.commands;
  served : (opening : Model) → l.turn.opening ≡ Some opening → IsServedTo l.fn.pass l.pass opening l.lines.session (take l.command-index l.command-items) l.replies l.stands;
  light : RisesUpTo (g.L.Ledger.count l.fn.leaves) (g.L.Ledger.count l.leaves) (l.command-index * most_evaluations);
}
