-- How the verdict on a solid comes of verdicts that are taken one after the other. The meaning
-- that the code's one recursion has for both of its callers.
use Rattle.std.specs.Prelude.{◌≡◌, ℕ, List, drop}
use Rattle.solid_base.specs.declared.classes.Verdict.{Verdict}
use Rattle.solid_base.specs.declared.geometry.Affine.{Affine}
use Rattle.solid_base.specs.declared.solids.Primitive.{Primitive}
use Rattle.solid_base.specs.Ledgers.{counted}
use Rattle.fixed_enclosure.specs.Places.{Span3}
use Rattle.csg_primitives.specs.WrittenMargins.{span_class, written_margins}
use Rattle.boolean_tree.specs.Verdicts.{outside, first, verdict_of}
use Rattle.affine_pull.specs.Chains.{spans_through}
use Rattle.solid_eval.specs.Solids.{Solid, nothing, primitive, moved, entity, combined}
use Rattle.solid_eval.specs.Written.{named}

-- solidd's own: the verdict on a solid and the state afterwards, where that on each primitive, in
-- their order, is taken from a state, which is then another one
abbrev pub taken_from : {S : Type 0} → (ℕ → List Affine → Primitive → Span3 → S → Verdict × S)
    → Solid → Span3 → S → Verdict × S
taken_from take nothing s state = (outside, state)
taken_from take (primitive e chain p) s state = take e chain p s state
taken_from take (moved chain part) s state = taken_from take part (spans_through chain s) state
taken_from take (entity e part) s state = taken_from take part s state
taken_from take (combined o a b) s state =
    let left = taken_from take a s state in
    let right = taken_from take b s left.1 in
    (verdict_of o left.0 right.0, right.1)

-- solidd's own: they are this verdict and this state
abbrev pub Takes : {S : Type 0} → (ℕ → List Affine → Primitive → Span3 → S → Verdict × S)
    → Solid → Span3 → S → Verdict → S → Type 0
Takes take solid s old verdict new =
    (verdict ≡ (taken_from take solid s old).0) × (new ≡ (taken_from take solid s old).1)

-- solidd's own: the verdict on a primitive is evaluated, and the count rises by one
abbrev pub evaluated : ℕ → List Affine → Primitive → Span3 → ℕ → Verdict × ℕ
evaluated e chain p s count =
    (named e (span_class (written_margins p (spans_through chain s))), counted count 1)

-- solidd's own: the verdict on a primitive is the next of those that are given
abbrev pub next_given : ℕ → List Affine → Primitive → Span3 → List Verdict
    → Verdict × List Verdict
next_given e chain p s verdicts = (first verdicts, drop 1 verdicts)
