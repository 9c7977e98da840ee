-- The uses of primitives of which a solid is made, and the verdict on it from the verdicts on them.
use Rattle.std.specs.Prelude.{◌≡◌, ℕ, ◌+◌, List, [], ◌∷◌, ◌++◌, drop, slice_get, Some}
use Rattle.solid_base.specs.declared.classes.Verdict.{Verdict}
use Rattle.solid_base.specs.declared.entities.Entity.{Entity}
use Rattle.fixed_enclosure.specs.Places.{Span3}
use Rattle.boolean_tree.specs.Verdicts.{outside, first, verdict_of}
use Rattle.affine_pull.specs.Chains.{spans_through}
use Rattle.solid_eval.specs.Solids.{Solid, nothing, primitive, moved, entity, combined, solid_of}
use Rattle.solid_eval.specs.Written.{written}

-- solidd's own: the number of primitives of a solid, each as often as it stands: so many
-- evaluations a verdict on it takes
abbrev pub leaf_count : Solid → ℕ
leaf_count nothing = 0
leaf_count (primitive e chain p) = 1
leaf_count (moved chain part) = leaf_count part
leaf_count (entity e part) = leaf_count part
leaf_count (combined o a b) = leaf_count a + leaf_count b

-- solidd's own: a primitive by its entity's number, and the spans of a box before the primitive's
-- own matrix
pub record Use : Type 0 where
  pub number : ℕ
  pub spans : Span3

-- solidd's own: the uses of the primitives of a solid over places in spans, in the order in which
-- operands and items stand. The uses of a moved part are over the places carried back
abbrev pub uses : Solid → Span3 → List Use
uses nothing s = []
uses (primitive e chain p) s = record { number = e; spans = s } ∷ []
uses (moved chain part) s = uses part (spans_through chain s)
uses (entity e part) s = uses part s
uses (combined o a b) s = uses a s ++ uses b s

-- solidd's own: the verdict on a use is that on its primitive over its spans
abbrev pub use_verdict : List Entity → Use → Verdict
use_verdict rows u = written (solid_of rows u.number) u.spans

-- solidd's own: the verdict on a solid from verdicts on its primitives in their order: the left
-- part takes as many of them as it has primitives, the right part those after
abbrev pub verdict_from : Solid → List Verdict → Verdict
verdict_from nothing verdicts = outside
verdict_from (primitive e chain p) verdicts = first verdicts
verdict_from (moved chain part) verdicts = verdict_from part verdicts
verdict_from (entity e part) verdicts = verdict_from part verdicts
verdict_from (combined o a b) verdicts =
    verdict_of o (verdict_from a verdicts) (verdict_from b (drop (leaf_count a) verdicts))

-- solidd's own: the use of a solid that stands at a place, counted from 0, is of the primitive with
-- this number, over these spans
abbrev pub IsUseAt : Solid → Span3 → ℕ → ℕ → Span3 → Type 0
IsUseAt solid s place number spans =
    slice_get (uses solid s) place ≡ Some (record { number = number; spans = spans })
