-- Why a verdict is open: one use of a primitive that is open itself, by a margin of its own.
use Rattle.std.specs.Prelude.{◌≡◌, ℕ, pos, List}
use Rattle.std.specs.List.{Any}
use Rattle.solid_base.specs.declared.classes.Class.TheVariants.{Mixed}
use Rattle.solid_base.specs.declared.classes.Verdict.{Verdict}
use Rattle.solid_base.specs.declared.entities.Entity.{Entity}
use Rattle.solid_base.specs.declared.geometry.Affine.{Affine}
use Rattle.solid_base.specs.declared.solids.Row.{Row}
use Rattle.solid_base.specs.declared.solids.Row.TheVariants as row
use Rattle.solid_base.specs.References.{row_at}
use Rattle.fixed_enclosure.specs.Places.{Span3}
use Rattle.fixed_enclosure.specs.Spans.{Holds}
use Rattle.csg_primitives.specs.WrittenMargins.{written_margins}
use Rattle.affine_pull.specs.Chains.{chain_of, spans_through}
use Rattle.solid_eval.specs.Solids.{solid_of}
use Rattle.solid_eval.specs.Uses.{Use, uses, use_verdict}

-- solidd's own: the row is a primitive, and one of its written margins may be 0 over the spans,
-- which stand before its own matrices and are carried back through them
abbrev pub TouchesZero : (ℕ → List Affine) → Row → Span3 → Type 0
TouchesZero chain (row.Prim p matrix) s =
    Any (λ margin. Holds 1 margin (pos 0)) (written_margins p (spans_through (chain matrix) s))
TouchesZero chain _ s = ⊥

-- solidd's own: the use is one of the primitive d, whose own class over its spans is Mixed, and one
-- of whose written margins may be 0 there
abbrev pub IsOpenUse : List Entity → ℕ → Use → Type 0
IsOpenUse rows d u =
    (u.number ≡ d) ×
    ((use_verdict rows u).class ≡ Mixed) ×
    TouchesZero (chain_of rows) (row_at rows d) u.spans

-- solidd's own: where a verdict on an entity over spans is open, the entity's solid has there an
-- open use of the primitive that the verdict names
abbrev pub HasCause : List Entity → ℕ → Span3 → Verdict → Type 0
HasCause rows e s v =
    v.class ≡ Mixed → Any (IsOpenUse rows v.leaf) (uses (solid_of rows e) s)
