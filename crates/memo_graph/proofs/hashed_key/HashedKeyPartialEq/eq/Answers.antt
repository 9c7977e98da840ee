use Rattle.std.proofs.Common.{◌∙◌}
use Rattle.memo_graph.specs.PackedKeys.{key_of}
use Rattle.memo_graph.proofs.KeyTests.{test_same, other_digest}
use Rattle.memo_graph.proofs.hashed_key.HashedKeyPartialEq.eq.Goals as goal

pub returns-then-self-other : goal.returns-then-self-other
returns-then-self-other c = rw (← c.self.view_is, ← c.other.view_is)
    (c.eq.ensures ∙ test_same c.self.inside.packed c.other.inside.packed)

pub returns-else-self-other : goal.returns-else-self-other
returns-else-self-other c = rw (← c.self.view_is, ← c.other.view_is)
    (other_digest (key_of c.self.inside.packed) (key_of c.other.inside.packed) _ _
    c.self.invariant c.other.invariant c.if-self-other.false)
