use Rattle.std.proofs.lemmas.List.Sums.{count_by-le-length}
use Rattle.volume_bounds.specs.Counts.{is_not_outside}
use Rattle.solid_questions.proofs.Counts.{fewer_inside}
use Rattle.solid_questions.proofs.volumes.push_volume.Goals as goal

pub push_counts-requires-clause-counts : goal.push_counts-requires-clause-counts
push_counts-requires-clause-counts c =
    let list = c.args.verdicts.now.list in
    let most = count_by-le-length is_not_outside list in
    rw (c.count_flat-count.ensures.lower, c.count_flat-count.ensures.upper)
    (fewer_inside list, rw c.requires.cells at most)
