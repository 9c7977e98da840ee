-- What holds of each primitive and is kept by each step of unfolding holds of each solid.
use Rattle.std.proofs.Common.{◌≡◌, ℕ, zero, suc, ◌<◌, List, [], ◌∷◌, inl, inr, refl, sym, subst, arith}
use Rattle.std.specs.List.{AllByRecursion}
use Rattle.solid_base.specs.declared.entities.Entity.{Entity}
use Rattle.solid_base.specs.declared.solids.Placed.{Placed}
use Rattle.solid_base.specs.declared.solids.Primitive.{Primitive}
use Rattle.solid_base.specs.declared.solids.Row.{Row}
use Rattle.solid_base.specs.declared.solids.Row.TheVariants as row
use Rattle.solid_base.specs.References.{row_at}
use Rattle.solid_base.specs.Ranges.{IsLawfulPrim, IsLawfulMatrix, IsLawfulRow}
use Rattle.solid_base.specs.Trees.{Operation, union, Tree, operand, combination}
use Rattle.boolean_tree.specs.Spelling.{trees_of_items}
use Rattle.affine_pull.specs.Chains.{chain_of}
use Rattle.affine_pull.proofs.LawfulChains.{lawful-row, lawful-chain}
use Rattle.solid_eval.specs.Solids.{Solid, nothing, primitive, moved, entity, combined, last_solid, tree_solid, placed_item, united, row_solid, solid_within, solid_of, HasPrimitive}

module _ (rows : List Entity) (P : Solid → Type 0) (none : P nothing) (one : (e matrix : ℕ) (p : Primitive) → row_at rows e ≡ row.Prim p matrix → P (primitive e (chain_of rows matrix) p))
    (move : (m : ℕ) (part : Solid) → P part → P (moved (chain_of rows m) part)) (around : (e : ℕ) (part : Solid) → P part → P (entity e part))
    (both : (o : Operation) (a b : Solid) → P a → P b → P (combined o a b)) where
  tree-all : (child : ℕ → Solid) → ((c : ℕ) → P (child c)) → (t : Tree) → P (tree_solid child t)
  tree-all child f (operand n) = f n
  tree-all child f (combination o a b) = both o (tree_solid child a) (tree_solid child b) (tree-all child f a) (tree-all child f b)

  last-all : (child : ℕ → Solid) → ((c : ℕ) → P (child c)) → (trees : List Tree) → P (last_solid child trees)
  last-all child f [] = none
  last-all child f (t ∷ trees) = tree-all child f t

  united-all : (child : ℕ → Solid) → ((c : ℕ) → P (child c)) → (before : Solid) (items : List Placed) → P before → P (united (chain_of rows) child before items)
  united-all child f before [] h = h
  united-all child f before (p ∷ items) h =
      let placed = placed_item (chain_of rows) child p in
      united-all child f (combined union before placed) items (both union before placed h (move p.matrix (child p.item) (f p.item)))

  row-all : (child : ℕ → Solid) → ((c : ℕ) → P (child c)) → (e : ℕ) (r : Row) → row_at rows e ≡ r → P (row_solid (chain_of rows) child e r)
  row-all child f e row.Null is = none
  row-all child f e (row.Opaque kind form matrix text) is = none
  row-all child f e (row.Matrix form affine next) is = none
  row-all child f e (row.Prim p matrix) is = one e matrix p is
  row-all child f e (row.Tree items matrix) is = around e _ (move matrix _ (last-all child f (trees_of_items items)))
  row-all child f e (row.Assembly items matrix) is = around e _ (move matrix _ (united-all child f nothing items none))
  row-all child f e (row.Instance number matrix) is = around e _ (move matrix _ (f number))

  within-all : (levels e : ℕ) → P (solid_within levels rows e)
  unfolding solid_within
  within-all zero e = none
  within-all (suc levels) e = row-all (solid_within levels rows) (within-all levels) e (row_at rows e) refl

  pub solid-all : (e : ℕ) → P (solid_of rows e)
  unfolding solid_of
  solid-all e = within-all _ e

-- ---- ranges

-- the primitives and the matrices of a solid are in their ranges
abbrev pub IsLawful : Solid → Type 0
IsLawful nothing = Unit {0}
IsLawful (primitive e chain p) = AllByRecursion IsLawfulMatrix chain × IsLawfulPrim p
IsLawful (moved chain part) = AllByRecursion IsLawfulMatrix chain × IsLawful part
IsLawful (entity e part) = IsLawful part
IsLawful (combined o a b) = IsLawful a × IsLawful b

pub lawful-solid : (rows : List Entity) (e : ℕ) → AllByRecursion (λ (e : Entity). IsLawfulRow e.row) rows → IsLawful (solid_of rows e)
lawful-solid rows e h =
    let one : (e matrix : ℕ) (p : Primitive) → row_at rows e ≡ row.Prim p matrix → IsLawful (primitive e (chain_of rows matrix) p) = λ e matrix p is. (lawful-chain rows matrix h, subst IsLawfulRow is (lawful-row rows e h)) in
    solid-all rows IsLawful tt one (λ m part l. (lawful-chain rows m h, l)) (λ e part l. l) (λ o a b k l. (k, l)) e

-- ---- numbers

-- no entity has the number 0
above-zero : (rows : List Entity) (e matrix : ℕ) (p : Primitive) → row_at rows e ≡ row.Prim p matrix → 0 < e
unfolding row_at
above-zero rows zero matrix p is = absurd cc
above-zero rows (suc e) matrix p is = omega arith

-- the numbers of primitives are above 0
abbrev AreNumbered : Solid → Type 0
AreNumbered s = (k : ℕ) → HasPrimitive s k → 0 < k

either-numbered : (o : Operation) (a b : Solid) → AreNumbered a → AreNumbered b → AreNumbered (combined o a b)
either-numbered o a b f g k (inl h) = f k h
either-numbered o a b f g k (inr h) = g k h

pub numbered-solid : (rows : List Entity) (e k : ℕ) → HasPrimitive (solid_of rows e) k → 0 < k
numbered-solid rows e =
    let one : (e matrix : ℕ) (p : Primitive) → row_at rows e ≡ row.Prim p matrix → AreNumbered (primitive e (chain_of rows matrix) p) = λ e matrix p is k h. subst (λ n. 0 < n) (sym h) (above-zero rows e matrix p is) in
    solid-all rows AreNumbered (λ k h. absurd h) one (λ m part f. f) (λ e part f. f) either-numbered e
