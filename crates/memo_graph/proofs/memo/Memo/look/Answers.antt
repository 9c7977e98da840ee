use Rattle.memo_graph.proofs.Keeping.{memo-promoted}
use Rattle.memo_graph.proofs.Steps.{after_promote}
use Rattle.memo_graph.proofs.memo.Memo.look.Goals as goal

pub invariant_of-self : goal.invariant_of-self
invariant_of-self c = rw (
  c.recall.ensures.order,
  after_promote c.args.key.now c.self.inside.cache.entries c.self.invariant.once,
)
    (memo-promoted c.args.key.now c.self.inside.cache.entries c.self.inside.cache.cap
    c.self.invariant)

pub returns-clause-entries : goal.returns-clause-entries
returns-clause-entries c = rw (c.recall.ensures.order, ← c.self.view_is)
    (after_promote c.args.key.now c.self.inside.cache.entries c.self.invariant.once)

pub returns-clause-valid : goal.returns-clause-valid
returns-clause-valid = invariant_of-self
