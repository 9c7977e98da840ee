use Rattle.memo_graph.specs.Memos.{same_key}
use Rattle.memo_graph.proofs.Fronts.{found_first, not_found}
use Rattle.memo_graph.proofs.recent.recall.Goals as goal

pub returns-then-not-promote-clause-verdict : goal.returns-then-not-promote-clause-verdict
returns-then-not-promote-clause-verdict c =
    not_found (same_key c.args.key.now) c.args.cache.now.entries
    c.promote.ensures.value c.if-not-promote.true

pub returns-clause-verdict : goal.returns-clause-verdict
returns-clause-verdict c = rw (c.first_verdict.ensures, c.promote.ensures.entries)
    (found_first (same_key c.args.key.now) c.args.cache.now.entries
    c.promote.ensures.value c.if-not-promote.false)
