use Rattle.solid_eval.proofs.places.+use_at.Given as goal

abbrev pub decreases-use_at : goal.decreases-use_at
decreases-use_at l = l.levels
