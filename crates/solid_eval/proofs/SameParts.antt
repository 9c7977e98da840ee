-- A row whose references mean the same twice has the same solid twice.
use Rattle.std.proofs.Common.{◌≡◌, ℕ, zero, suc, List, [], ◌∷◌, ◌++◌, map, refl, ap, ◌∙◌}
use Rattle.std.specs.List.{AllByRecursion}
use Rattle.solid_base.specs.declared.geometry.Affine.{Affine}
use Rattle.solid_base.specs.declared.references.Reference.{Reference}
use Rattle.solid_base.specs.declared.references.Reference.TheVariants as reference
use Rattle.solid_base.specs.declared.solids.Item.{Item}
use Rattle.solid_base.specs.declared.solids.Placed.{Placed}
use Rattle.solid_base.specs.declared.solids.Row.{Row}
use Rattle.solid_base.specs.declared.solids.Row.TheVariants as row
use Rattle.solid_base.specs.References.{target, matrix_named, operands_of, items_of, matrices_of, references_of, references}
use Rattle.solid_base.specs.Trees.{union, Tree, operand}
use Rattle.boolean_tree.specs.Spelling.{trees_of_items}
use Rattle.boolean_tree.proofs.Spelling.{all_trees}
use Rattle.solid_eval.specs.Solids.{Solid, nothing, primitive, moved, entity, combined, last_solid, tree_solid, solid_of_items, placed_item, united, row_solid}

-- ---- all of some references
pub all_right : (P : ℕ → Type 0) (a b : List Reference) → AllByRecursion P (map target (a ++ b)) → AllByRecursion P (map target b)
all_right P [] b h = h
all_right P (r ∷ a) b h = all_right P a b h.1

pub all_left : (P : ℕ → Type 0) (a b : List Reference) → AllByRecursion P (map target (a ++ b)) → AllByRecursion P (map target a)
all_left P [] b h = tt
all_left P (r ∷ a) b h = (h.0, all_left P a b h.1)

module _ (chain other : ℕ → List Affine) (f g : ℕ → Solid) (none : chain 0 ≡ other 0) where
  -- a number means the same twice, as a matrix and as a solid
  abbrev Same : ℕ → Type 0
  Same c = (chain c ≡ other c) × (f c ≡ g c)

  same_matrix : (m : ℕ) → AllByRecursion Same (map target (matrix_named m)) → chain m ≡ other m
  same_matrix zero h = none
  same_matrix (suc m) h = h.0.0

  same_tree : (ns : List ℕ) → AllByRecursion Same ns → AllByRecursion (λ n. tree_solid f (operand n) ≡ tree_solid g (operand n)) ns
  same_tree [] h = tt
  same_tree (n ∷ ns) h = (h.0.1, same_tree ns h.1)

  same_last : (trees : List Tree) → AllByRecursion (λ t. tree_solid f t ≡ tree_solid g t) trees → last_solid f trees ≡ last_solid g trees
  same_last [] h = refl
  same_last (t ∷ trees) h = h.0

  same_items : (items : List Item) → AllByRecursion Same (map target (operands_of items)) → solid_of_items f items ≡ solid_of_items g items
  same_items items h =
      same_last (trees_of_items items)
      (all_trees (λ t. tree_solid f t ≡ tree_solid g t) (λ o a b x y. ap (λ s. combined o s (tree_solid f b)) x ∙ ap (combined o (tree_solid g a)) y) items (same_tree (map target (operands_of items)) h))

  same_united : (before : Solid) (items : List Placed) → AllByRecursion Same (map target (items_of items)) → AllByRecursion Same (map target (matrices_of items)) → united chain f before items ≡ united other g before items
  same_united before [] h k = refl
  same_united before (p ∷ items) h k =
      let matrix = same_matrix p.matrix (all_left Same (matrix_named p.matrix) (matrices_of items) k) in
      let placed : placed_item chain f p ≡ placed_item other g p = ap (λ c. moved c (f p.item)) matrix ∙ ap (λ s. moved (other p.matrix) s) h.0.1 in
      same_united (combined union before (placed_item chain f p)) items h.1 (all_right Same (matrix_named p.matrix) (matrices_of items) k) ∙ ap (λ s. united other g (combined union before s) items) placed

  same_moved : (e m : ℕ) (a b : Solid) → chain m ≡ other m → a ≡ b → entity e (moved (chain m) a) ≡ entity e (moved (other m) b)
  same_moved e m a b matrix is = ap (λ c. entity e (moved c a)) matrix ∙ ap (λ s. entity e (moved (other m) s)) is

  pub same_row : (e : ℕ) (r : Row) → AllByRecursion Same (references r) → row_solid chain f e r ≡ row_solid other g e r
  unfolding references_of
  same_row e row.Null h = refl
  same_row e (row.Opaque kind form matrix text) h = refl
  same_row e (row.Matrix form affine next) h = refl
  same_row e (row.Prim p matrix) h = ap (λ c. primitive e c p) (same_matrix matrix h)
  same_row e (row.Tree items matrix) h =
      same_moved e matrix (solid_of_items f items) (solid_of_items g items) (same_matrix matrix (all_left Same (matrix_named matrix) (operands_of items) h))
      (same_items items (all_right Same (matrix_named matrix) (operands_of items) h))
  same_row e (row.Assembly items matrix) h =
      let parts = all_right Same (matrix_named matrix) (items_of items ++ matrices_of items) h in
      same_moved e matrix (united chain f nothing items) (united other g nothing items) (same_matrix matrix (all_left Same (matrix_named matrix) (items_of items ++ matrices_of items) h))
      (same_united nothing items (all_left Same (items_of items) (matrices_of items) parts) (all_right Same (items_of items) (matrices_of items) parts))
  same_row e (row.Instance number matrix) h =
      same_moved e matrix (f number) (g number) (same_matrix matrix (all_left Same (matrix_named matrix) (reference.Solid number ∷ []) h)) (all_right Same (matrix_named matrix) (reference.Solid number ∷ []) h).0.1
