-- Where the verdict on an assembly stands, item by item, where each verdict is taken from a state.
use Rattle.std.proofs.Common.{◌≡◌, ℕ, ◌+◌, ◌≤◌, ◌<◌, List, length, get_or, drop, subst, refl, sym, ap, ◌∙◌}
use Rattle.std.proofs.lemmas.List.{drop_more}
use Rattle.std.proofs.Math.ListN.{drop_of_length-le}
use Rattle.solid_base.specs.declared.classes.Verdict.{Verdict}
use Rattle.solid_base.specs.declared.geometry.Affine.{Affine}
use Rattle.solid_base.specs.declared.solids.Placed.{Placed}
use Rattle.solid_base.specs.declared.solids.Primitive.{Primitive}
use Rattle.solid_base.specs.Trees.{union}
use Rattle.fixed_enclosure.specs.Places.{Span3}
use Rattle.boolean_tree.specs.Verdicts.{outside, verdict_of}
use Rattle.affine_pull.specs.Chains.{spans_through}
use Rattle.solid_eval.specs.Solids.{Solid, nothing, combined, placed_item, united}
use Rattle.solid_eval.specs.Taking.{taken_from, Takes}

module _ (S : Type 0) (take : ℕ → List Affine → Primitive → Span3 → S → Verdict × S) (chain : ℕ → List Affine) (child : ℕ → Solid) (items : List Placed) (at : Span3) (start : S) where
  -- the verdict on the union so far, which the rest of the items makes the union of all
  pub record Uniting (verdict : Verdict) (state : S) (rest : List Placed) : Type 0 where
    pub so_far : Solid
    pub takes : Takes take so_far at start verdict state
    pub goes : united chain child so_far rest ≡ united chain child nothing items

  pub uniting_first : Uniting outside start items
  uniting_first = record { so_far = nothing; takes = (refl, refl); goes = refl }

  pub uniting_item : (all v new : Verdict) (s t : S) (place : ℕ) (d : Placed) → place < length items → Takes take (child (get_or items place d).item) (spans_through (chain (get_or items place d).matrix) at) s v t
      → new ≡ verdict_of union all v → Uniting all s (drop place items) → Uniting new t (drop (place + 1) items)
  uniting_item all v new s t place d inside taken made h =
      let p = get_or items place d in
      let rest = drop (place + 1) items in
      let back = spans_through (chain p.matrix) at in
      let left = (taken_from take h.so_far at start).0 in
      record {
        so_far = combined union h.so_far (placed_item chain child p);
        takes = (
          made ∙ ap (λ a. verdict_of union a v) h.takes.0 ∙ ap (verdict_of union left) (taken.0 ∙ ap (λ x. (taken_from take (child p.item) back x).0) h.takes.1),
          taken.1 ∙ ap (λ x. (taken_from take (child p.item) back x).1) h.takes.1,
        );
        goes = ap (united chain child h.so_far) (sym (drop_more items place d inside)) ∙ h.goes;
      }

  pub uniting_end : (all : Verdict) (s : S) (place : ℕ) → length items ≤ place → Uniting all s (drop place items) → Takes take (united chain child nothing items) at start all s
  uniting_end all s place done h =
      let whole = subst (λ r. united chain child h.so_far r ≡ united chain child nothing items) (drop_of_length-le items done) h.goes in
      subst (λ x. Takes take x at start all s) whole h.takes
