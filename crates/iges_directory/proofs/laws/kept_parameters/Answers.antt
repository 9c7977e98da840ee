use Rattle.iges_directory.proofs.KeptGlobals.{delimiters_kept, parameters_spelt, parameters_line, whole_room}
use Rattle.iges_directory.proofs.laws.kept_parameters.Goals as goal

pub returns-clause-delimiters : goal.returns-clause-delimiters
returns-clause-delimiters c text global h = delimiters_kept text global h

pub returns-clause-spelt : goal.returns-clause-spelt
returns-clause-spelt c text global h = parameters_spelt text global h

pub returns-clause-in_line : goal.returns-clause-in_line
returns-clause-in_line c text global h one = parameters_line text global h one

pub returns-clause-room : goal.returns-clause-room
returns-clause-room c text global h small = whole_room text global h small
