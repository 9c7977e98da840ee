-- The leaf of a mixed verdict is the number of a primitive of the solid.
use Rattle.std.proofs.Common.{◌≡◌, ◌≢◌, ◌⊎◌, ◌<◌, ℕ, List, inl, inr, refl, sym, subst}
use Rattle.solid_base.specs.declared.classes.Class.{Class}
use Rattle.solid_base.specs.declared.classes.Class.TheVariants.{Outside, Mixed, Inside}
use Rattle.solid_base.specs.declared.entities.Entity.{Entity}
use Rattle.solid_base.specs.Classes.{IsLeafOf, IsVerdict}
use Rattle.solid_base.specs.Trees.{Operation}
use Rattle.fixed_enclosure.specs.Places.{Span3}
use Rattle.csg_primitives.specs.WrittenMargins.{span_class, written_margins}
use Rattle.boolean_tree.specs.Verdicts.{class_of, leaf_of}
use Rattle.boolean_tree.proofs.Leaves.{other_mixed}
use Rattle.affine_pull.specs.Chains.{spans_through}
use Rattle.solid_eval.specs.Solids.{Solid, nothing, primitive, moved, entity, combined, solid_of, HasPrimitive}
use Rattle.solid_eval.specs.Written.{named, written}
use Rattle.solid_eval.proofs.AllSolids.{numbered-solid}
use Rattle.solid_eval.proofs.Sound.{leaf_zero}

-- the leaf is that of a side that is Mixed
pub side : (o : Operation) (k l : Class) (i j : ℕ) → class_of o k l ≡ Mixed
    → let leaf = leaf_of (class_of o k l) (record { class = k; leaf = i }) (record { class = l; leaf = j }) in ((k ≡ Mixed) × (leaf ≡ i)) ⊎ ((l ≡ Mixed) × (leaf ≡ j))
side o Outside l i j is = inr (other_mixed o Outside l is (λ e. cc), rw is refl)
side o Mixed l i j is = inl (refl, rw is refl)
side o Inside l i j is = inr (other_mixed o Inside l is (λ e. cc), rw is refl)

pub own_number : (e : ℕ) (k : Class) → (named e k).class ≡ Mixed → (named e k).leaf ≡ e
own_number e Outside is = absurd cc
own_number e Mixed is = refl
own_number e Inside is = absurd cc

pub mixed_leaf_stands : (solid : Solid) (s : Span3) → (written solid s).class ≡ Mixed → HasPrimitive solid (written solid s).leaf
mixed_leaf_stands nothing s is = absurd cc
mixed_leaf_stands (primitive e chain q) s is = own_number e (span_class (written_margins q (spans_through chain s))) is
mixed_leaf_stands (moved chain part) s is = mixed_leaf_stands part (spans_through chain s) is
mixed_leaf_stands (entity e part) s is = mixed_leaf_stands part s is
mixed_leaf_stands (combined o a b) s is = of_side (side o (written a s).class (written b s).class (written a s).leaf (written b s).leaf is) (mixed_leaf_stands a s) (mixed_leaf_stands b s) where
  of_side : {leaf : ℕ} → (((written a s).class ≡ Mixed) × (leaf ≡ (written a s).leaf)) ⊎ (((written b s).class ≡ Mixed) × (leaf ≡ (written b s).leaf))
      → ((written a s).class ≡ Mixed → HasPrimitive a (written a s).leaf) → ((written b s).class ≡ Mixed → HasPrimitive b (written b s).leaf) → HasPrimitive a leaf ⊎ HasPrimitive b leaf
  of_side (inl h) f g = inl (subst (HasPrimitive a) (sym h.1) (f h.0))
  of_side (inr h) f g = inr (subst (HasPrimitive b) (sym h.1) (g h.0))

-- ---- a verdict names a primitive exactly where its class is mixed
leaf_of_class : (k : Class) (n : ℕ) → (k ≡ Mixed → 0 < n) → (k ≢ Mixed → n ≡ 0) → IsLeafOf k n
leaf_of_class Outside n some none = none (λ e. cc)
leaf_of_class Mixed n some none = some refl
leaf_of_class Inside n some none = none (λ e. cc)

pub is_verdict : (rows : List Entity) (e : ℕ) (s : Span3) → IsVerdict (written (solid_of rows e) s)
is_verdict rows e s =
    leaf_of_class _ _ (λ mixed. numbered-solid rows e _ (mixed_leaf_stands (solid_of rows e) s mixed)) (leaf_zero (solid_of rows e) s)
