-- The verdict on a solid is that from the verdicts on its uses.
use Rattle.std.proofs.Common.{◌≡◌, ℕ, List, [], ◌∷◌, ◌++◌, map, length, drop, refl, sym, ap, ◌∙◌, subst, arith, append_assoc, append-nil}
use Rattle.std.specs.List.{AllByRecursion}
use Rattle.std.proofs.Math.Seq.{drop-append_seam}
use Rattle.std.proofs.lemmas.List.{length-append, length-map, map-append}
use Rattle.solid_base.specs.declared.classes.Verdict.{Verdict}
use Rattle.solid_base.specs.declared.entities.Entity.{Entity}
use Rattle.solid_base.specs.declared.solids.Primitive.{Primitive}
use Rattle.solid_base.specs.declared.solids.Row.TheVariants as row
use Rattle.solid_base.specs.References.{row_at}
use Rattle.solid_base.specs.Trees.{Operation}
use Rattle.fixed_enclosure.specs.Places.{Span3}
use Rattle.boolean_tree.specs.Verdicts.{verdict_of}
use Rattle.affine_pull.specs.Chains.{chain_of, spans_through}
use Rattle.solid_eval.specs.Solids.{Solid, nothing, primitive, moved, entity, combined, row_solid, solid_within, solid_of, IsPrimitiveRow}
use Rattle.solid_eval.specs.Uses.{leaf_count, Use, uses, use_verdict, verdict_from}
use Rattle.solid_eval.specs.Written.{written}
use Rattle.solid_eval.proofs.AllSolids.{solid-all}

-- a solid has as many uses as primitives
pub uses_counted : (solid : Solid) (s : Span3) → length (uses solid s) ≡ leaf_count solid
uses_counted nothing s = refl
uses_counted (primitive e chain p) s = refl
uses_counted (moved chain part) s = uses_counted part (spans_through chain s)
uses_counted (entity e part) s = uses_counted part s
uses_counted (combined o a b) s = omega (arith, length-append (uses a s) (uses b s), uses_counted a s, uses_counted b s)

-- the solid of a primitive's row
pub primitive_solid : (rows : List Entity) (e matrix : ℕ) (p : Primitive) → row_at rows e ≡ row.Prim p matrix → solid_of rows e ≡ primitive e (chain_of rows matrix) p
unfolding solid_of solid_within
primitive_solid rows e matrix p is = ap (row_solid (chain_of rows) _ e) is

module _ (rows : List Entity) where
  abbrev verdicts : Solid → Span3 → List Verdict
  verdicts solid s = map (use_verdict rows) (uses solid s)

  -- the verdicts on the uses, before others, give the verdict on the solid
  abbrev IsFolded : Solid → Type 0
  IsFolded solid = (s : Span3) (more : List Verdict) → verdict_from solid (verdicts solid s ++ more) ≡ written solid s

  either : (a b : Solid) (s : Span3) (more : List Verdict) → map (use_verdict rows) (uses a s ++ uses b s) ++ more ≡ verdicts a s ++ (verdicts b s ++ more)
  either a b s more = ap (λ l. l ++ more) (map-append (use_verdict rows) (uses a s) (uses b s)) ∙ append_assoc (verdicts a s) (verdicts b s) more

  after_left : (a : Solid) (s : Span3) (more : List Verdict) → drop (leaf_count a) (verdicts a s ++ more) ≡ more
  after_left a s more =
      let long : length (verdicts a s) ≡ leaf_count a = length-map (uses a s) (use_verdict rows) ∙ uses_counted a s in
      ap (λ n. drop n (verdicts a s ++ more)) (sym long) ∙ drop-append_seam (verdicts a s) more

  both : (o : Operation) (a b : Solid) → IsFolded a → IsFolded b → IsFolded (combined o a b)
  both o a b f g s more =
      let right = verdicts b s ++ more in
      ap (verdict_from (combined o a b)) (either a b s more)
      ∙ ap (λ v. verdict_of o v (verdict_from b (drop (leaf_count a) (verdicts a s ++ right)))) (f s right)
      ∙ ap (λ l. verdict_of o (written a s) (verdict_from b l)) (after_left a s right)
      ∙ ap (verdict_of o (written a s)) (g s more)

  folded-solid : (e : ℕ) → IsFolded (solid_of rows e)
  folded-solid e =
      let one : (e matrix : ℕ) (p : Primitive) → row_at rows e ≡ row.Prim p matrix → IsFolded (primitive e (chain_of rows matrix) p) =
      λ e matrix p is s more. ap (λ x. written x s) (primitive_solid rows e matrix p is) in
      solid-all rows IsFolded (λ s more. refl) one (λ m part h s more. h (spans_through (chain_of rows m) s) more) (λ e part h. h) both e

  pub verdict_of_uses : (e : ℕ) (s : Span3) → written (solid_of rows e) s ≡ verdict_from (solid_of rows e) (map (use_verdict rows) (uses (solid_of rows e) s))
  verdict_of_uses e s = sym (ap (verdict_from (solid_of rows e)) (sym (append-nil (verdicts (solid_of rows e) s))) ∙ folded-solid e s [])

  -- ---- each use is one of a primitive
  abbrev AreOfPrimitives : Solid → Type 0
  AreOfPrimitives solid = (s : Span3) → AllByRecursion (λ u. IsPrimitiveRow (row_at rows u.number)) (uses solid s)

  all_both : (P : Use → Type 0) (a b : List Use) → AllByRecursion P a → AllByRecursion P b → AllByRecursion P (a ++ b)
  all_both P [] b h k = k
  all_both P (u ∷ a) b h k = (h.0, all_both P a b h.1 k)

  pub of_primitives : (e : ℕ) → AreOfPrimitives (solid_of rows e)
  of_primitives e =
      let one : (e matrix : ℕ) (p : Primitive) → row_at rows e ≡ row.Prim p matrix → AreOfPrimitives (primitive e (chain_of rows matrix) p) = λ e matrix p is s. (subst IsPrimitiveRow (sym is) tt, tt) in
      solid-all rows AreOfPrimitives (λ s. tt) one (λ m part h s. h (spans_through (chain_of rows m) s)) (λ e part h. h)
      (λ o a b f g s. all_both (λ u. IsPrimitiveRow (row_at rows u.number)) (uses a s) (uses b s) (f s) (g s)) e
