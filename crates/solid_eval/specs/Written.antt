-- The verdict on a solid over a box.
use Rattle.std.specs.Prelude.{ℕ}
use Rattle.solid_base.specs.declared.classes.Class.{Class}
use Rattle.solid_base.specs.declared.classes.Class.TheVariants.{Outside, Mixed, Inside}
use Rattle.solid_base.specs.declared.classes.Verdict.{Verdict}
use Rattle.fixed_enclosure.specs.Places.{Span3}
use Rattle.csg_primitives.specs.WrittenMargins.{span_class, written_margins}
use Rattle.boolean_tree.specs.Verdicts.{outside, verdict_of}
use Rattle.affine_pull.specs.Chains.{spans_through}
use Rattle.solid_eval.specs.Solids.{Solid, nothing, primitive, moved, entity, combined}

-- solidd's own: the verdict on a primitive by its class. Where that is Mixed the leaf is the
-- primitive's own number, else 0
abbrev pub named : ℕ → Class → Verdict
named e Outside = record { class = Outside; leaf = 0 }
named e Mixed = record { class = Mixed; leaf = e }
named e Inside = record { class = Inside; leaf = 0 }

-- solidd's own: the verdict on a solid over places in spans. A primitive and a moved part are asked
-- about the places carried back through their chain
abbrev pub written : Solid → Span3 → Verdict
written nothing s = outside
written (primitive e chain q) s = named e (span_class (written_margins q (spans_through chain s)))
written (moved chain part) s = written part (spans_through chain s)
written (entity e part) s = written part s
written (combined o a b) s = verdict_of o (written a s) (written b s)
