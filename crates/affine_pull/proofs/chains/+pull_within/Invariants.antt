use Rattle.affine_pull.proofs.chains.+pull_within.Given as goal

abbrev pub decreases-pull_within : goal.decreases-pull_within
decreases-pull_within l = l.levels
