use Rattle.entity_graph.proofs.Levels.{no_levels}
use Rattle.entity_graph.proofs.laws.without_levels.Goals as goal

pub returns : goal.returns
returns c rows sound e = no_levels rows sound.shallow e
