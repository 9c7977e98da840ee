use Rattle.memo_graph.proofs.Keeping.{memo-filled}
use Rattle.memo_graph.proofs.Steps.{after_put, on_ok, either}
use Rattle.memo_graph.proofs.memo.Memo.fill.Goals as goal

pub invariant_of-self : goal.invariant_of-self
invariant_of-self c = either c.keep.result c.keep.ensures.entries c.keep.ensures.err
    (λ e. rw (
      e,
      after_put c.args.key.now c.self.inside.cache.cap c.args.verdict
          c.self.inside.cache.entries c.self.invariant,
    )
    (memo-filled c.args.key.now c.args.verdict c.self.inside.cache.entries
    c.self.inside.cache.cap c.self.invariant))
    (λ e. rw e c.self.invariant)

pub returns-clause-entries : goal.returns-clause-entries
returns-clause-entries c = on_ok c.keep.result c.keep.ensures.entries
    (λ e. rw (e, ← c.self.view_is) (after_put c.args.key.now c.self.inside.cache.cap
    c.args.verdict c.self.inside.cache.entries c.self.invariant))

pub returns-clause-valid : goal.returns-clause-valid
returns-clause-valid = invariant_of-self
