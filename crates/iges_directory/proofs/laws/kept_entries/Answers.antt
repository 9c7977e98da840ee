use Rattle.iges_directory.proofs.KeptEntries.{entries_kept}
use Rattle.iges_directory.proofs.laws.kept_entries.Goals as goal

pub returns : goal.returns
returns c params lines pairs h all = entries_kept params lines pairs h all
