use Rattle.fixed_enclosure.specs.Spans.{IsBox}
use Rattle.solid_eval.specs.Walking.{IsWalk}
use Rattle.solid_eval.proofs.tests.walk_is_by_places.Given as goal

abbrev pub invariant-loop-k : goal.invariant-loop-k
invariant-loop-k g l = record { walk : IsWalk l.rows l.walk; there : IsBox l.there }
