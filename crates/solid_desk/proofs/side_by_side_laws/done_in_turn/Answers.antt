use Rattle.solid_desk.proofs.RunsLegal.{named_low}
use Rattle.solid_desk.proofs.SideBySide.{done_by, done_goes_on, done_new}
use Rattle.solid_desk.proofs.side_by_side_laws.done_in_turn.Goals as goal

pub returns-clause-outcome : goal.returns-clause-outcome
returns-clause-outcome c opening log after session at command outcome low done = done_by opening log after session at command outcome low done

pub returns-clause-goes_on : goal.returns-clause-goes_on
returns-clause-goes_on c opening log after session at command outcome done = done_goes_on opening log session at command outcome after done

pub returns-clause-named : goal.returns-clause-named
returns-clause-named c opening log after session at command outcome done = named_low opening log session at command outcome after done

pub returns-clause-new_entry : goal.returns-clause-new_entry
returns-clause-new_entry c opening log after session at command outcome done = done_new opening log session at command outcome after done
